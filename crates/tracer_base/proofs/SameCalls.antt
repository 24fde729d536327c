-- A call is told by its words.
use Rattle.std.proofs.Common.{codes, ◌≡◌, ℕ, List, [], ◌++◌, get_or, if◌then◌else◌, decimal, refl, sym, ap, ◌∙◌, ◌+◌}
use Rattle.std.specs.Fmt.{signed_decimal}
use Rattle.std.specs.Str.{bytes_eq}
use Rattle.std.proofs.lemmas.List.{append_cancel_left}
use Rattle.mach_types.specs.declared.calls.Event.{Event}
use Rattle.mach_types.specs.declared.calls.Event.TheVariants.{TaskCreate, TaskTerminate, Allocate, AllocateName, Deallocate, Destroy, ModRefs, GetRefs, NameType, Names, Rename, ReceiveStatus, SetQlimit, SetMscount, SetSeqno, InsertRight, ExtractRight, RequestNotification, MoveMember, InsertMember, ExtractMember, SetStatus, Send, Receive, ReceiveAgain}
use Rattle.mach_types.specs.declared.calls.Waited.{Waited}
use Rattle.mach_types.specs.declared.calls.Waited.TheVariants.{Port, Set}
use Rattle.tracer_base.specs.Calls.{Fits, call_word, call_arguments, call_words}
use Rattle.tracer_base.specs.Text.{bytes_text, flag_text}
use Rattle.tracer_base.proofs.WordLemmas.{first_word}
use Rattle.tracer_base.proofs.SameWords.{number_of, delta_of, bytes_of, flag_of, number_of-decimal, delta_of-signed, bytes_of-text, flag_of-text, one, two, three}

-- the value of a keyword, or of those behind it
abbrev case_of : List ℕ → List ℕ → Event → Event → Event
case_of word keyword event others = if bytes_eq word keyword then event else others

abbrev at : List (List ℕ) → ℕ → List ℕ
at arguments place = get_or arguments place []

abbrev number_at : List (List ℕ) → ℕ → ℕ
number_at arguments place = number_of (at arguments place)

abbrev waited_at : List (List ℕ) → ℕ → Waited
waited_at arguments place = if bytes_eq (at arguments place) (codes "p") then Port (number_at arguments (place + 1)) else Set (number_at arguments (place + 1))

abbrev right_call_of : List ℕ → List (List ℕ) → Event → Event
right_call_of word a others =
    case_of word (codes "alloc") (Allocate (number_at a 0) (number_at a 1))
    (case_of word (codes "allocname") (AllocateName (number_at a 0) (number_at a 1) (number_at a 2))
    (case_of word (codes "insert") (InsertRight (number_at a 0) (number_at a 1) (number_at a 2) (number_at a 3) (number_at a 4))
    (case_of word (codes "extract") (ExtractRight (number_at a 0) (number_at a 1) (number_at a 2) (number_at a 3))
    (case_of word (codes "send") (Send (number_at a 0) (bytes_of (at a 1)))
    (case_of word (codes "recv") (Receive (number_at a 0) (number_at a 1) (number_at a 2) (flag_of (at a 3)))
    (case_of word (codes "again") (ReceiveAgain (number_at a 0) (waited_at a 1) (number_at a 3) (flag_of (at a 4))) others))))))

abbrev name_call_of : List ℕ → List (List ℕ) → Event → Event
name_call_of word a others =
    case_of word (codes "dealloc") (Deallocate (number_at a 0) (number_at a 1))
    (case_of word (codes "destroy") (Destroy (number_at a 0) (number_at a 1))
    (case_of word (codes "modrefs") (ModRefs (number_at a 0) (number_at a 1) (number_at a 2) (delta_of (at a 3)))
    (case_of word (codes "refs") (GetRefs (number_at a 0) (number_at a 1) (number_at a 2))
    (case_of word (codes "type") (NameType (number_at a 0) (number_at a 1))
    (case_of word (codes "names") (Names (number_at a 0))
    (case_of word (codes "end") (TaskTerminate (number_at a 0))
    (case_of word (codes "notify") (RequestNotification (number_at a 0) (number_at a 1) (number_at a 2) (number_at a 3) (number_at a 4) (number_at a 5))
    (case_of word (codes "rename") (Rename (number_at a 0) (number_at a 1) (number_at a 2)) others))))))))

abbrev port_call_of : List ℕ → List (List ℕ) → Event → Event
port_call_of word a others =
    case_of word (codes "status") (ReceiveStatus (number_at a 0) (number_at a 1))
    (case_of word (codes "qlimit") (SetQlimit (number_at a 0) (number_at a 1) (number_at a 2))
    (case_of word (codes "mscount") (SetMscount (number_at a 0) (number_at a 1) (number_at a 2))
    (case_of word (codes "seqno") (SetSeqno (number_at a 0) (number_at a 1) (number_at a 2))
    (case_of word (codes "move") (MoveMember (number_at a 0) (number_at a 1) (number_at a 2))
    (case_of word (codes "insmember") (InsertMember (number_at a 0) (number_at a 1) (number_at a 2))
    (case_of word (codes "exmember") (ExtractMember (number_at a 0) (number_at a 1) (number_at a 2))
    (case_of word (codes "members") (SetStatus (number_at a 0) (number_at a 1)) others)))))))

-- the call that a keyword and the words behind it spell
abbrev event_of : List ℕ → List (List ℕ) → Event
event_of word arguments = right_call_of word arguments (name_call_of word arguments (port_call_of word arguments TaskCreate))

event_of-words : (event : Event) (behind : List (List ℕ)) → Fits event → event_of (call_word event) (call_arguments event ++ behind) ≡ event
event_of-words TaskCreate behind fits = refl
event_of-words (TaskTerminate task) behind fits = one TaskTerminate task fits
event_of-words (Allocate task right) behind fits = two Allocate task right fits.0 fits.1
event_of-words (AllocateName task right name) behind fits = three AllocateName task right name fits.0 fits.1 fits.2
event_of-words (Deallocate task name) behind fits = two Deallocate task name fits.0 fits.1
event_of-words (Destroy task name) behind fits = two Destroy task name fits.0 fits.1
event_of-words (ModRefs task name right delta) behind fits =
    three (λ t n r. ModRefs t n r (delta_of (signed_decimal delta))) task name right fits.0 fits.1 fits.2 ∙ ap (ModRefs task name right) (delta_of-signed delta fits.3)
event_of-words (GetRefs task name right) behind fits = three GetRefs task name right fits.0 fits.1 fits.2
event_of-words (NameType task name) behind fits = two NameType task name fits.0 fits.1
event_of-words (Names task) behind fits = one Names task fits
event_of-words (Rename task old new) behind fits = three Rename task old new fits.0 fits.1 fits.2
event_of-words (ReceiveStatus task name) behind fits = two ReceiveStatus task name fits.0 fits.1
event_of-words (SetQlimit task name limit) behind fits = three SetQlimit task name limit fits.0 fits.1 fits.2
event_of-words (SetMscount task name count) behind fits = three SetMscount task name count fits.0 fits.1 fits.2
event_of-words (SetSeqno task name sequence) behind fits = three SetSeqno task name sequence fits.0 fits.1 fits.2
event_of-words (InsertRight task name from poly disposition) behind fits =
    two (λ t n. InsertRight t n (number_of (decimal from)) (number_of (decimal poly)) (number_of (decimal disposition))) task name fits.0 fits.1
    ∙ three (InsertRight task name) from poly disposition fits.2 fits.3 fits.4
event_of-words (ExtractRight task name disposition to) behind fits =
    two (λ t n. ExtractRight t n (number_of (decimal disposition)) (number_of (decimal to))) task name fits.0 fits.1
    ∙ two (ExtractRight task name) disposition to fits.2 fits.3
event_of-words (RequestNotification task name variant sync notify disposition) behind fits =
    three (λ t n v. RequestNotification t n v (number_of (decimal sync)) (number_of (decimal notify)) (number_of (decimal disposition))) task name variant fits.0 fits.1 fits.2
    ∙ three (RequestNotification task name variant) sync notify disposition fits.3 fits.4 fits.5
event_of-words (MoveMember task member set) behind fits = three MoveMember task member set fits.0 fits.1 fits.2
event_of-words (InsertMember task member set) behind fits = three InsertMember task member set fits.0 fits.1 fits.2
event_of-words (ExtractMember task member set) behind fits = three ExtractMember task member set fits.0 fits.1 fits.2
event_of-words (SetStatus task name) behind fits = two SetStatus task name fits.0 fits.1
event_of-words (Send task bytes) behind fits = one (λ t. Send t (bytes_of (bytes_text bytes))) task fits.0 ∙ ap (Send task) (bytes_of-text bytes fits.1)
event_of-words (Receive task name room large) behind fits =
    three (λ t n r. Receive t n r (flag_of (flag_text large))) task name room fits.0 fits.1 fits.2 ∙ ap (Receive task name room) (flag_of-text large)
event_of-words (ReceiveAgain task (Port port) room large) behind fits =
    two (λ t r. ReceiveAgain t (Port (number_of (decimal port))) r (flag_of (flag_text large))) task room fits.0 fits.2
    ∙ ap (λ n. ReceiveAgain task (Port n) room (flag_of (flag_text large))) (number_of-decimal port fits.1)
    ∙ ap (ReceiveAgain task (Port port) room) (flag_of-text large)
event_of-words (ReceiveAgain task (Set set) room large) behind fits =
    two (λ t r. ReceiveAgain t (Set (number_of (decimal set))) r (flag_of (flag_text large))) task room fits.0 fits.2
    ∙ ap (λ n. ReceiveAgain task (Set n) room (flag_of (flag_text large))) (number_of-decimal set fits.1)
    ∙ ap (ReceiveAgain task (Set set) room) (flag_of-text large)

-- words that begin with those of a call begin with no other call's
pub same_call : (event other : Event) (behind rest : List (List ℕ)) → Fits event → Fits other → call_words event ++ behind ≡ call_words other ++ rest → (event ≡ other) × (behind ≡ rest)
same_call event other behind rest fits fits_too same =
    let parts = first_word (call_word event) (call_word other) (call_arguments event ++ behind) (call_arguments other ++ rest) same in
    let is : event ≡ other =
    sym (event_of-words event behind fits) ∙ ap (event_of (call_word event)) parts.1 ∙ ap (λ word. event_of word (call_arguments other ++ rest)) parts.0 ∙ event_of-words other rest fits_too in
    (is, append_cancel_left (call_words other) behind rest (ap (λ e. call_words e ++ behind) (sym is) ∙ same))
