-- A reply is told by its words.
use Rattle.std.proofs.Common.{codes, ◌≡◌, ℕ, ◌<◌, ◌^◌, List, [], map, get_or, if◌then◌else◌, decimal, refl, sym, ap, ◌∙◌, arith}
use Rattle.std.specs.Str.{bytes_eq}
use Rattle.mach_types.specs.declared.calls.Reply.{Reply}
use Rattle.mach_types.specs.declared.calls.Reply.TheVariants.{Code, Task, Name, Refs, NameType, Names, Status, Members, Right, Previous, Message, Empty, TooLarge, NoRecord}
use Rattle.mach_types.specs.declared.calls.Status.{Status as PortStatus}
use Rattle.mach_types.specs.declared.calls.Waited.TheVariants.{Port, Set}
use Rattle.tracer_base.specs.Replies.{FitsReply, FitsStatus, FitsTypedName, typed_name_text, status_words, reply_word, reply_arguments, reply_words}
use Rattle.tracer_base.proofs.WordLemmas.{first_word}
use Rattle.tracer_base.proofs.SameWords.{number_of, bytes_of, code_of, typed_name_of, number_of-decimal, bytes_of-text, code_of-text, typed_name_of-text, map_of, one, two, three}

-- the value of a keyword, or of those behind it
abbrev case_of : List ℕ → List ℕ → Reply → Reply → Reply
case_of word keyword reply others = if bytes_eq word keyword then reply else others

abbrev at : List (List ℕ) → ℕ → List ℕ
at arguments place = get_or arguments place []

abbrev number_at : List (List ℕ) → ℕ → ℕ
number_at arguments place = number_of (at arguments place)

abbrev status_of : (a b c d e f g h i : ℕ) → Reply
status_of a b c d e f g h i =
    Status (record { set = a; sequence = b; make_send = c; limit = d; queued = e; send_once = f; has_send = g; port_destroyed = h; no_senders = i })

abbrev empty_of : List (List ℕ) → Reply
empty_of a = if bytes_eq (at a 0) (codes "p") then Empty (Port (number_at a 1)) else Empty (Set (number_at a 1))

abbrev number_reply_of : List ℕ → List (List ℕ) → Reply → Reply
number_reply_of word a others =
    case_of word (codes "code") (Code (code_of (at a 0)))
    (case_of word (codes "task") (Task (number_at a 0))
    (case_of word (codes "name") (Name (number_at a 0))
    (case_of word (codes "refs") (Refs (number_at a 0))
    (case_of word (codes "type") (NameType (code_of (at a 0)))
    (case_of word (codes "right") (Right (number_at a 0) (number_at a 1))
    (case_of word (codes "previous") (Previous (number_at a 0))
    (case_of word (codes "toolarge") (TooLarge (number_at a 0)) others)))))))

-- the reply that a keyword and the words behind it spell
abbrev reply_of : List ℕ → List (List ℕ) → Reply
reply_of word a = number_reply_of word a
    (case_of word (codes "names") (Names (map typed_name_of a))
    (case_of word (codes "status") (status_of (number_at a 0) (number_at a 1) (number_at a 2) (number_at a 3) (number_at a 4) (number_at a 5) (number_at a 6) (number_at a 7) (number_at a 8))
    (case_of word (codes "members") (Members (map number_of a))
    (case_of word (codes "message") (Message (bytes_of (at a 0)))
    (case_of word (codes "empty") (empty_of a) NoRecord)))))

status_of-words : (s : PortStatus) → FitsStatus s → reply_of (codes "status") (status_words s) ≡ Status s
status_of-words s fits =
    let number = λ (n : ℕ). number_of (decimal n) in
    three (λ a b c. status_of a b c (number s.limit) (number s.queued) (number s.send_once) (number s.has_send) (number s.port_destroyed) (number s.no_senders))
    s.set s.sequence s.make_send fits.set fits.sequence fits.make_send
    ∙ three (λ d e f. status_of s.set s.sequence s.make_send d e f (number s.has_send) (number s.port_destroyed) (number s.no_senders))
    s.limit s.queued s.send_once fits.limit fits.queued fits.send_once
    ∙ three (status_of s.set s.sequence s.make_send s.limit s.queued s.send_once)
    s.has_send s.port_destroyed s.no_senders fits.has_send fits.port_destroyed fits.no_senders

reply_of-words : (reply : Reply) → FitsReply reply → reply_of (reply_word reply) (reply_arguments reply) ≡ reply
reply_of-words (Code code) fits = ap Code (code_of-text code fits)
reply_of-words (Task task) fits = one Task task fits
reply_of-words (Name name) fits = one Name name fits
reply_of-words (Refs count) fits = one Refs count fits
reply_of-words (NameType bits) fits = ap NameType (code_of-text bits fits)
reply_of-words (Names names) fits = ap Names (map_of typed_name_text typed_name_of FitsTypedName names typed_name_of-text fits)
reply_of-words (Status status) fits = status_of-words status fits
reply_of-words (Members members) fits = ap Members (map_of decimal number_of (λ name. name < 2 ^ 32) members (λ name small. number_of-decimal name (omega (arith, small))) fits)
reply_of-words (Right name kind) fits = two Right name kind fits.0 (omega (arith, fits.1))
reply_of-words (Previous name) fits = one Previous name fits
reply_of-words (Message bytes) fits = ap Message (bytes_of-text bytes fits)
reply_of-words (Empty (Port port)) fits = ap (λ n. Empty (Port n)) (number_of-decimal port fits)
reply_of-words (Empty (Set set)) fits = ap (λ n. Empty (Set n)) (number_of-decimal set fits)
reply_of-words (TooLarge length_of) fits = one TooLarge length_of fits
reply_of-words NoRecord fits = refl

-- the words of a reply are no other reply's
pub same_reply : (reply other : Reply) → FitsReply reply → FitsReply other → reply_words reply ≡ reply_words other → reply ≡ other
same_reply reply other fits fits_too same =
    let parts = first_word (reply_word reply) (reply_word other) (reply_arguments reply) (reply_arguments other) same in
    sym (reply_of-words reply fits) ∙ ap (reply_of (reply_word reply)) parts.1 ∙ ap (λ word. reply_of word (reply_arguments other)) parts.0 ∙ reply_of-words other fits_too
