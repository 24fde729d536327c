-- The words of replies, and what was written piece by piece.
use Rattle.std.proofs.Common.{codes, length, ◌≡◌, ℕ, ◌<◌, List, [], ◌∷◌, ◌++◌, Option, Some, None, sym, ◌∙◌, ap, append_assoc, subst, ◌^◌, All, true, refl, arith, decimal, append-nil, Result, Ok, Err, OnOk}
use Rattle.std.specs.Io.KnownBytes.{Appends, Keeps}
use Rattle.std.proofs.lemmas.List.Elements.{All-append, All-cons, All-map, All-weaker}
use Rattle.mach_types.specs.declared.calls.Reply.{Reply}
use Rattle.mach_types.specs.declared.calls.Reply.TheVariants.{Code, Task, Name, Refs, NameType, Names, Status, Members, Right, Previous, Message, Empty, TooLarge, NoRecord}
use Rattle.mach_types.specs.declared.calls.Status.{Status as PortStatus}
use Rattle.tracer_base.specs.Replies.{typed_name_text, status_words, reply_word, reply_arguments, reply_line, FitsTypedName, FitsStatus, FitsReply}
use Rattle.tracer_base.specs.Text.{hex_digits, bytes_text, code_text, waited_words}
use Rattle.tracer_base.specs.Words.{IsWord}
use Rattle.tracer_base.proofs.CallLemmas.{none, before, number, one, three, waited}
use Rattle.tracer_base.proofs.NumberLemmas.{IsWord-decimal}
use Rattle.tracer_base.proofs.WordLemmas.{is_plain, IsWord-plain}
use Rattle.tracer_base.proofs.HexLemmas.{hex_digits-append, IsWord-bytes_text, IsWord-code_text}

-- two pieces in turn
pub appends-more : (a b c : Option (List ℕ)) (xs ys : List ℕ) → Appends a b xs → Appends b c ys → Appends a c (xs ++ ys)
appends-more None b c xs ys first next = tt
appends-more (Some a) None c xs ys first next = absurd first
appends-more (Some a) (Some b) None xs ys first next = absurd next
appends-more (Some a) (Some b) (Some c) xs ys first next = next ∙ ap (λ t. t ++ ys) first ∙ append_assoc a xs ys

-- a piece, and nothing more
pub appends-kept : (a b c : Option (List ℕ)) (xs : List ℕ) → Appends a b xs → Keeps b c → Appends a c xs
appends-kept None b c xs first kept = tt
appends-kept (Some a) None c xs first kept = absurd first
appends-kept (Some a) (Some b) None xs first kept = absurd kept
appends-kept (Some a) (Some b) (Some c) xs first kept = kept ∙ first

-- nothing yet
pub appends-none : (a : Option (List ℕ)) → Appends a a []
appends-none None = tt
appends-none (Some a) = sym (append-nil a)

-- nothing at all
pub keeps-same : (a : Option (List ℕ)) → Keeps a a
keeps-same None = tt
keeps-same (Some a) = refl

-- what is left of the bytes when a block more is written
pub parts_more : (done block rest others bytes : List ℕ) → done ++ rest ≡ bytes → block ++ others ≡ rest → (done ++ block) ++ others ≡ bytes
parts_more done block rest others bytes so_far next = append_assoc done block others ∙ ap (λ t. done ++ t) next ∙ so_far

-- the digits of more bytes behind those of the bytes before them
pub appends-digits : (a b c : Option (List ℕ)) (xs ys bytes : List ℕ) → xs ++ ys ≡ bytes → Appends a b (hex_digits xs) → Appends b c (hex_digits ys) → Appends a c (hex_digits bytes)
appends-digits a b c xs ys bytes parts first next =
    subst (Appends a c) (sym (hex_digits-append xs ys) ∙ ap hex_digits parts) (appends-more a b c (hex_digits xs) (hex_digits ys) first next)

pub ok-digits : {T E : Type 0} (r : Result T E) (a b c : Option (List ℕ)) (xs ys bytes : List ℕ) → xs ++ ys ≡ bytes → Appends a b (hex_digits xs) → OnOk r (Appends b c (hex_digits ys)) → OnOk r (Appends a c (hex_digits bytes))
ok-digits (Ok _) a b c xs ys bytes parts first next = appends-digits a b c xs ys bytes parts first next
ok-digits (Err _) a b c xs ys bytes parts first next = tt

-- a reply's keyword is plain
pub is_plain-reply_word : (reply : Reply) → is_plain (reply_word reply) ≡ true
is_plain-reply_word (Code _) = refl
is_plain-reply_word (Task _) = refl
is_plain-reply_word (Name _) = refl
is_plain-reply_word (Refs _) = refl
is_plain-reply_word (NameType _) = refl
is_plain-reply_word (Names _) = refl
is_plain-reply_word (Status _) = refl
is_plain-reply_word (Members _) = refl
is_plain-reply_word (Right _ _) = refl
is_plain-reply_word (Previous _) = refl
is_plain-reply_word (Message _) = refl
is_plain-reply_word (Empty _) = refl
is_plain-reply_word (TooLarge _) = refl
is_plain-reply_word NoRecord = refl

IsWord-typed_name : (entry : ℕ × ℕ) → FitsTypedName entry → IsWord (typed_name_text entry)
IsWord-typed_name entry fits =
    All-append (λ byte. 32 < byte) (decimal entry.0) (58 ∷ code_text entry.1) (IsWord-decimal entry.0 (omega (arith, fits.0)))
    (All-cons (λ byte. 32 < byte) 58 (code_text entry.1) (omega arith) (IsWord-code_text entry.1))

plain-status : (status : PortStatus) → FitsStatus status → All IsWord (status_words status)
plain-status status fits =
    let first = three status.set status.sequence status.make_send fits.set fits.sequence fits.make_send in
    let second = three status.limit status.queued status.send_once fits.limit fits.queued fits.send_once in
    let third = three status.has_send status.port_destroyed status.no_senders fits.has_send fits.port_destroyed fits.no_senders in
    let last : List (List ℕ) = decimal status.has_send ∷ decimal status.port_destroyed ∷ decimal status.no_senders ∷ [] in
    All-append IsWord (decimal status.set ∷ decimal status.sequence ∷ decimal status.make_send ∷ []) (decimal status.limit ∷ decimal status.queued ∷ decimal status.send_once ∷ last) first
    (All-append IsWord (decimal status.limit ∷ decimal status.queued ∷ decimal status.send_once ∷ []) last second third)

plain-reply_arguments : (reply : Reply) → FitsReply reply → All IsWord (reply_arguments reply)
plain-reply_arguments (Code code) fits = before (code_text code) [] (IsWord-code_text code) none
plain-reply_arguments (Task task) fits = one task fits
plain-reply_arguments (Name name) fits = one name fits
plain-reply_arguments (Refs count) fits = one count fits
plain-reply_arguments (NameType bits) fits = before (code_text bits) [] (IsWord-code_text bits) none
plain-reply_arguments (Names names) fits = All-map IsWord typed_name_text names (All-weaker FitsTypedName (λ entry. IsWord (typed_name_text entry)) IsWord-typed_name names fits)
plain-reply_arguments (Status status) fits = plain-status status fits
plain-reply_arguments (Members members) fits = All-map IsWord decimal members (All-weaker (λ name. name < 2 ^ 32) (λ name. IsWord (decimal name)) (λ name small. IsWord-decimal name (omega arith)) members fits)
plain-reply_arguments (Right name kind) fits = number name (decimal kind ∷ []) fits.0 (one kind (omega (arith, fits.1)))
plain-reply_arguments (Previous name) fits = one name fits
plain-reply_arguments (Message bytes) fits = before (bytes_text bytes) [] (IsWord-bytes_text bytes fits) none
plain-reply_arguments (Empty waited_for) fits = subst (All IsWord) (append-nil (waited_words waited_for)) (waited waited_for [] fits none)
plain-reply_arguments (TooLarge length_of) fits = one length_of fits
plain-reply_arguments NoRecord fits = none

pub plain-reply : (reply : Reply) → FitsReply reply → All IsWord (reply_word reply ∷ reply_arguments reply)
plain-reply reply fits = before (reply_word reply) (reply_arguments reply) (IsWord-plain (reply_word reply) (is_plain-reply_word reply)) (plain-reply_arguments reply fits)

-- the line of a message that isn't empty
pub message_line : (bytes : List ℕ) → 0 < length bytes → (codes "message " ++ hex_digits bytes) ++ 10 ∷ [] ≡ reply_line (Message bytes)
message_line [] some = absurd (omega (arith, some))
message_line (byte ∷ bytes) some = refl
