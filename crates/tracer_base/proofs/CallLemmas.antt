-- The words of calls.
use Rattle.std.proofs.Common.{codes, ◌≡◌, ℕ, ◌<◌, ◌^◌, List, [], ◌∷◌, ◌++◌, All, Bool, true, false, refl, sym, ◌∙◌, arith, decimal, append_assoc, ap, length, flat_map}
use Rattle.std.proofs.lemmas.List.Elements.{All-nil, All-cons, All-head, All-tail}
use Rattle.std.specs.Fmt.{signed_decimal}
use Rattle.mach_types.specs.declared.calls.Event.{Event}
use Rattle.mach_types.specs.declared.calls.Event.TheVariants.{TaskCreate, TaskTerminate, Allocate, AllocateName, Deallocate, Destroy, ModRefs, GetRefs, NameType, Names, Rename, ReceiveStatus, SetQlimit, SetMscount, SetSeqno, InsertRight, ExtractRight, RequestNotification, MoveMember, InsertMember, ExtractMember, SetStatus, Send, Receive, ReceiveAgain}
use Rattle.mach_types.specs.declared.calls.Waited.{Waited}
use Rattle.mach_types.specs.declared.calls.Waited.TheVariants.{Port, Set}
use Rattle.tracer_base.specs.Calls.{Fits, call_word, call_arguments, call_text, line_text, StartsNoCall, IsFirstBadLine}
use Rattle.tracer_base.specs.Text.{bytes_text, flag_text, waited_words, FitsWaited}
use Rattle.tracer_base.specs.Words.{Lacks, IsWord}
use Rattle.tracer_base.proofs.HexLemmas.{IsWord-bytes_text}
use Rattle.tracer_base.proofs.NumberLemmas.{IsWord-decimal, IsWord-signed_decimal}
use Rattle.tracer_base.proofs.WordLemmas.{is_plain, IsWord-plain, Lacks-line, same_parts}

-- words before other words
pub none : All IsWord []
none = All-nil IsWord

pub before : (word : List ℕ) (others : List (List ℕ)) → IsWord word → All IsWord others → All IsWord (word ∷ others)
before word others is_word plain = All-cons IsWord word others is_word plain

pub number : (n : ℕ) (others : List (List ℕ)) → n < 2 ^ 32 → All IsWord others → All IsWord (decimal n ∷ others)
number n others small plain = before (decimal n) others (IsWord-decimal n (omega arith)) plain

pub one : (a : ℕ) → a < 2 ^ 32 → All IsWord (decimal a ∷ [])
one a small = number a [] small none

two : (a b : ℕ) → a < 2 ^ 32 → b < 2 ^ 32 → All IsWord (decimal a ∷ decimal b ∷ [])
two a b small small_b = number a (decimal b ∷ []) small (one b small_b)

pub three : (a b c : ℕ) → a < 2 ^ 32 → b < 2 ^ 32 → c < 2 ^ 32 → All IsWord (decimal a ∷ decimal b ∷ decimal c ∷ [])
three a b c small small_b small_c = number a (decimal b ∷ decimal c ∷ []) small (two b c small_b small_c)

four : (a b c d : ℕ) → a < 2 ^ 32 → b < 2 ^ 32 → c < 2 ^ 32 → d < 2 ^ 32 → All IsWord (decimal a ∷ decimal b ∷ decimal c ∷ decimal d ∷ [])
four a b c d small small_b small_c small_d = number a (decimal b ∷ decimal c ∷ decimal d ∷ []) small (three b c d small_b small_c small_d)

IsWord-flag_text : (flag : Bool) → IsWord (flag_text flag)
IsWord-flag_text true = IsWord-plain (codes "1") refl
IsWord-flag_text false = IsWord-plain (codes "0") refl

pub waited : (waited_for : Waited) (others : List (List ℕ)) → FitsWaited waited_for → All IsWord others → All IsWord (waited_words waited_for ++ others)
waited (Port port) others small plain =
    before (codes "p") (decimal port ∷ others) (IsWord-plain (codes "p") refl) (before (decimal port) others (IsWord-decimal port small) plain)
waited (Set set) others small plain =
    before (codes "s") (decimal set ∷ others) (IsWord-plain (codes "s") refl) (before (decimal set) others (IsWord-decimal set small) plain)

room_and_flag : (room : ℕ) (flag : Bool) → room < 2 ^ 32 → All IsWord (decimal room ∷ flag_text flag ∷ [])
room_and_flag room flag small = number room (flag_text flag ∷ []) small (before (flag_text flag) [] (IsWord-flag_text flag) none)

-- a call's keyword is plain
pub is_plain-call_word : (event : Event) → is_plain (call_word event) ≡ true
is_plain-call_word TaskCreate = refl
is_plain-call_word (TaskTerminate _) = refl
is_plain-call_word (Allocate _ _) = refl
is_plain-call_word (AllocateName _ _ _) = refl
is_plain-call_word (Deallocate _ _) = refl
is_plain-call_word (Destroy _ _) = refl
is_plain-call_word (ModRefs _ _ _ _) = refl
is_plain-call_word (GetRefs _ _ _) = refl
is_plain-call_word (NameType _ _) = refl
is_plain-call_word (Names _) = refl
is_plain-call_word (Rename _ _ _) = refl
is_plain-call_word (ReceiveStatus _ _) = refl
is_plain-call_word (SetQlimit _ _ _) = refl
is_plain-call_word (SetMscount _ _ _) = refl
is_plain-call_word (SetSeqno _ _ _) = refl
is_plain-call_word (InsertRight _ _ _ _ _) = refl
is_plain-call_word (ExtractRight _ _ _ _) = refl
is_plain-call_word (RequestNotification _ _ _ _ _ _) = refl
is_plain-call_word (MoveMember _ _ _) = refl
is_plain-call_word (InsertMember _ _ _) = refl
is_plain-call_word (ExtractMember _ _ _) = refl
is_plain-call_word (SetStatus _ _) = refl
is_plain-call_word (Send _ _) = refl
is_plain-call_word (Receive _ _ _ _) = refl
is_plain-call_word (ReceiveAgain _ _ _ _) = refl

pub plain-call_arguments : (event : Event) → Fits event → All IsWord (call_arguments event)
plain-call_arguments TaskCreate fits = none
plain-call_arguments (TaskTerminate task) fits = one task fits
plain-call_arguments (Allocate task right) fits = two task right fits.0 fits.1
plain-call_arguments (AllocateName task right name) fits = three task right name fits.0 fits.1 fits.2
plain-call_arguments (Deallocate task name) fits = two task name fits.0 fits.1
plain-call_arguments (Destroy task name) fits = two task name fits.0 fits.1
plain-call_arguments (ModRefs task name right delta) fits =
    number task (decimal name ∷ decimal right ∷ signed_decimal delta ∷ []) fits.0
    (number name (decimal right ∷ signed_decimal delta ∷ []) fits.1
    (number right (signed_decimal delta ∷ []) fits.2 (before (signed_decimal delta) [] (IsWord-signed_decimal delta fits.3) none)))
plain-call_arguments (GetRefs task name right) fits = three task name right fits.0 fits.1 fits.2
plain-call_arguments (NameType task name) fits = two task name fits.0 fits.1
plain-call_arguments (Names task) fits = one task fits
plain-call_arguments (Rename task old new) fits = three task old new fits.0 fits.1 fits.2
plain-call_arguments (ReceiveStatus task name) fits = two task name fits.0 fits.1
plain-call_arguments (SetQlimit task name limit) fits = three task name limit fits.0 fits.1 fits.2
plain-call_arguments (SetMscount task name count) fits = three task name count fits.0 fits.1 fits.2
plain-call_arguments (SetSeqno task name sequence) fits = three task name sequence fits.0 fits.1 fits.2
plain-call_arguments (InsertRight task name from poly disposition) fits = number task (decimal name ∷ decimal from ∷ decimal poly ∷ decimal disposition ∷ []) fits.0 (four name from poly disposition fits.1 fits.2 fits.3 fits.4)
plain-call_arguments (ExtractRight task name disposition to) fits = four task name disposition to fits.0 fits.1 fits.2 fits.3
plain-call_arguments (RequestNotification task name variant sync notify disposition) fits =
    number task (decimal name ∷ decimal variant ∷ decimal sync ∷ decimal notify ∷ decimal disposition ∷ []) fits.0
    (number name (decimal variant ∷ decimal sync ∷ decimal notify ∷ decimal disposition ∷ []) fits.1 (four variant sync notify disposition fits.2 fits.3 fits.4 fits.5))
plain-call_arguments (MoveMember task member set) fits = three task member set fits.0 fits.1 fits.2
plain-call_arguments (InsertMember task member set) fits = three task member set fits.0 fits.1 fits.2
plain-call_arguments (ExtractMember task member set) fits = three task member set fits.0 fits.1 fits.2
plain-call_arguments (SetStatus task name) fits = two task name fits.0 fits.1
plain-call_arguments (Send task bytes) fits = number task (bytes_text bytes ∷ []) fits.0 (before (bytes_text bytes) [] (IsWord-bytes_text bytes fits.1) none)
plain-call_arguments (Receive task name room large) fits =
    number task (decimal name ∷ decimal room ∷ flag_text large ∷ []) fits.0
    (number name (decimal room ∷ flag_text large ∷ []) fits.1 (room_and_flag room large fits.2))
plain-call_arguments (ReceiveAgain task waited_for room large) fits =
    number task (waited_words waited_for ++ decimal room ∷ flag_text large ∷ []) fits.0
    (waited waited_for (decimal room ∷ flag_text large ∷ []) fits.1 (room_and_flag room large fits.2))

pub plain-call : (event : Event) → Fits event → All IsWord (call_word event ∷ call_arguments event)
plain-call event fits = before (call_word event) (call_arguments event) (IsWord-plain (call_word event) (is_plain-call_word event)) (plain-call_arguments event fits)

-- where a call's line begins a text, the text's first line is the call's text
pub first_line : (event : Event) (rest text line others : List ℕ) → Fits event → line_text event ++ rest ≡ text → Lacks 10 line → line ++ 10 ∷ others ≡ text → call_text event ≡ line
first_line event rest text line others fits same lacks whole =
    let parts = same_parts 10 (call_text event) line rest others (Lacks-line 10 (call_word event ∷ call_arguments event) (omega arith) (plain-call event fits)) lacks
    (sym (append_assoc (call_text event) (10 ∷ []) rest) ∙ same ∙ sym whole) in
    parts.0

-- the line of a call that fits, at the front of a text, is told from what is behind it
one_line : (event other : Event) (rest behind : List ℕ) → Fits event → Fits other → line_text event ++ rest ≡ line_text other ++ behind → rest ≡ behind
one_line event other rest behind fits fits_too same =
    let plain = λ (e : Event) (f : Fits e). Lacks-line 10 (call_word e ∷ call_arguments e) (omega arith) (plain-call e f) in
    let parts = same_parts 10 (call_text event) (call_text other) rest behind (plain event fits) (plain other fits_too)
    (sym (append_assoc (call_text event) (10 ∷ []) rest) ∙ same ∙ append_assoc (call_text other) (10 ∷ []) behind) in
    parts.1

-- a text with a line feed in it is not empty
some_line : (text rest : List ℕ) → text ++ 10 ∷ rest ≡ [] → ⊥
some_line [] rest none = absurd cc
some_line (byte ∷ text) rest none = absurd cc

-- what is left of the text of calls that fit, when some are read, begins with the line of a call that fits
pub next_line : (done all : List Event) (rest : List ℕ) → All Fits done → All Fits all → flat_map line_text done ++ rest ≡ flat_map line_text all → (rest ≡ [] → ⊥) → StartsNoCall rest → ⊥
next_line [] [] rest fit fit_all same some bad = some same
next_line [] (event ∷ all) rest fit fit_all same some bad = bad event (flat_map line_text all) (All-head Fits event all fit_all) (sym same)
next_line (event ∷ done) [] rest fit fit_all same some bad =
    let rest_of = flat_map line_text done ++ rest in
    some_line (call_text event) rest_of (sym (append_assoc (call_text event) (10 ∷ []) rest_of) ∙ sym (append_assoc (line_text event) (flat_map line_text done) rest) ∙ same)
next_line (event ∷ done) (other ∷ all) rest fit fit_all same some bad =
    let left = one_line event other (flat_map line_text done ++ rest) (flat_map line_text all) (All-head Fits event done fit) (All-head Fits other all fit_all)
    (sym (append_assoc (line_text event) (flat_map line_text done) rest) ∙ same) in
    next_line done all rest (All-tail Fits event done fit) (All-tail Fits other all fit_all) left some bad

-- no text of calls that fit has a bad line
pub no_bad_line : (calls : List Event) (text : List ℕ) (n : ℕ) → All Fits calls → flat_map line_text calls ≡ text → IsFirstBadLine text n → ⊥
no_bad_line calls text n fit same line =
    let some : line.rest ≡ [] → ⊥ = λ none. let empty : length line.rest ≡ 0 = ap length none in omega (arith, line.some, empty) in
    next_line line.calls calls line.rest line.fit fit (line.parts ∙ sym same) some line.bad
