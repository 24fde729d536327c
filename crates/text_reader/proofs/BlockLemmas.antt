-- The lines of scripts, by their first words.
use Rattle.std.proofs.Common.{codes, decimal, ◌≡◌, ℕ, ◌<◌, ◌^◌, List, [], ◌∷◌, All, true, false, ◌==◌, slice_index, refl, arith, ap, sym, ◌∙◌, ◌++◌, Result, Ok, Err, IfOk, Bool, subst, append-nil}
use Rattle.std.specs.Str.{bytes_eq}
use Rattle.std.proofs.lemmas.Bool.{eqb-false}
use Rattle.std.proofs.lemmas.Fmt.{decimal_injective}
use Rattle.mach_types.specs.declared.calls.Event.{Event}
use Rattle.mach_types.specs.declared.calls.Event.TheVariants.{TaskCreate, TaskTerminate, Allocate, AllocateName, Deallocate, Destroy, ModRefs, GetRefs, NameType, Names, Rename, ReceiveStatus, SetQlimit, SetMscount, SetSeqno, InsertRight, ExtractRight, RequestNotification, MoveMember, InsertMember, ExtractMember, SetStatus, Send, Receive, ReceiveAgain}
use Rattle.tracer_base.specs.declared.blocks.MessageCall.{MessageCall}
use Rattle.tracer_base.specs.declared.blocks.ScriptLine.{ScriptLine}
use Rattle.tracer_base.specs.declared.blocks.ScriptLine.TheVariants.{Call, Message, Thread}
use Rattle.tracer_base.specs.Blocks.{FitsSaid, FitsMessage, message_arguments, said_words, said_text}
use Rattle.tracer_base.specs.Calls.{Fits, call_word, call_arguments}
use Rattle.tracer_base.specs.Text.{bytes_text, flag_text}
use Rattle.tracer_base.specs.Words.{IsWord, line, words}
use Rattle.tracer_base.proofs.CallLemmas.{none, before, number, one, plain-call, is_plain-call_word}
use Rattle.tracer_base.proofs.HexLemmas.{IsWord-bytes_text}
use Rattle.tracer_base.proofs.WordLemmas.{first_word, is_plain, IsWord-plain, line-words, words-line}

-- the first word of a line, and the others
abbrev pub said_word : ScriptLine → List ℕ
said_word (Call event) = call_word event
said_word (Message call) = codes "msg"
said_word (Thread number) = codes "thread"

abbrev pub said_arguments : ScriptLine → List (List ℕ)
said_arguments (Call event) = call_arguments event
said_arguments (Message call) = message_arguments call
said_arguments (Thread number) = decimal number ∷ []

pub said_parts : (said : ScriptLine) → said_words said ≡ said_word said ∷ said_arguments said
said_parts (Call event) = refl
said_parts (Message call) = refl
said_parts (Thread number) = refl

pub is_plain-said_word : (said : ScriptLine) → is_plain (said_word said) ≡ true
is_plain-said_word (Call event) = is_plain-call_word event
is_plain-said_word (Message call) = refl
is_plain-said_word (Thread number) = refl

plain-message : (call : MessageCall) → FitsMessage call → All IsWord (message_arguments call)
plain-message call fits =
    let small : call.room < 2 ^ 32 = omega (arith, fits.room) in
    number call.task (decimal call.options ∷ decimal call.name ∷ decimal call.room ∷ bytes_text call.bytes ∷ []) fits.task
    (number call.options (decimal call.name ∷ decimal call.room ∷ bytes_text call.bytes ∷ []) fits.options
    (number call.name (decimal call.room ∷ bytes_text call.bytes ∷ []) fits.name
    (number call.room (bytes_text call.bytes ∷ []) small (before (bytes_text call.bytes) [] (IsWord-bytes_text call.bytes fits.bytes) none))))

pub plain-said : (said : ScriptLine) → FitsSaid said → All IsWord (said_word said ∷ said_arguments said)
plain-said (Call event) fits = plain-call event fits
plain-said (Message call) fits = before (codes "msg") (message_arguments call) (IsWord-plain (codes "msg") refl) (plain-message call fits)
plain-said (Thread n) fits =
    let small : n < 2 ^ 32 = omega (arith, fits.0, fits.1) in
    before (codes "thread") (decimal n ∷ []) (IsWord-plain (codes "thread") refl) (one n small)

-- no call's keyword is `thread`, by its second letter, or `msg`, by its third
second_letter : (event : Event) → (slice_index (call_word event) 1 == 104) ≡ false
second_letter TaskCreate = refl
second_letter (TaskTerminate _) = refl
second_letter (Allocate _ _) = refl
second_letter (AllocateName _ _ _) = refl
second_letter (Deallocate _ _) = refl
second_letter (Destroy _ _) = refl
second_letter (ModRefs _ _ _ _) = refl
second_letter (GetRefs _ _ _) = refl
second_letter (NameType _ _) = refl
second_letter (Names _) = refl
second_letter (Rename _ _ _) = refl
second_letter (ReceiveStatus _ _) = refl
second_letter (SetQlimit _ _ _) = refl
second_letter (SetMscount _ _ _) = refl
second_letter (SetSeqno _ _ _) = refl
second_letter (InsertRight _ _ _ _ _) = refl
second_letter (ExtractRight _ _ _ _) = refl
second_letter (RequestNotification _ _ _ _ _ _) = refl
second_letter (MoveMember _ _ _) = refl
second_letter (InsertMember _ _ _) = refl
second_letter (ExtractMember _ _ _) = refl
second_letter (SetStatus _ _) = refl
second_letter (Send _ _) = refl
second_letter (Receive _ _ _ _) = refl
second_letter (ReceiveAgain _ _ _ _) = refl

third_letter : (event : Event) → (slice_index (call_word event) 2 == 103) ≡ false
third_letter TaskCreate = refl
third_letter (TaskTerminate _) = refl
third_letter (Allocate _ _) = refl
third_letter (AllocateName _ _ _) = refl
third_letter (Deallocate _ _) = refl
third_letter (Destroy _ _) = refl
third_letter (ModRefs _ _ _ _) = refl
third_letter (GetRefs _ _ _) = refl
third_letter (NameType _ _) = refl
third_letter (Names _) = refl
third_letter (Rename _ _ _) = refl
third_letter (ReceiveStatus _ _) = refl
third_letter (SetQlimit _ _ _) = refl
third_letter (SetMscount _ _ _) = refl
third_letter (SetSeqno _ _ _) = refl
third_letter (InsertRight _ _ _ _ _) = refl
third_letter (ExtractRight _ _ _ _) = refl
third_letter (RequestNotification _ _ _ _ _ _) = refl
third_letter (MoveMember _ _ _) = refl
third_letter (InsertMember _ _ _) = refl
third_letter (ExtractMember _ _ _) = refl
third_letter (SetStatus _ _) = refl
third_letter (Send _ _) = refl
third_letter (Receive _ _ _ _) = refl
third_letter (ReceiveAgain _ _ _ _) = refl

not_thread : (event : Event) → call_word event ≡ codes "thread" → ⊥
not_thread event same = eqb-false (slice_index (call_word event) 1) 104 (second_letter event) (ap (λ (word : List ℕ). slice_index word 1) same)

not_msg : (event : Event) → call_word event ≡ codes "msg" → ⊥
not_msg event same = eqb-false (slice_index (call_word event) 2) 103 (third_letter event) (ap (λ (word : List ℕ). slice_index word 2) same)

-- what a line says, by its first word
pub is_thread : (said : ScriptLine) → said_word said ≡ codes "thread" → (n : ℕ) × (said ≡ Thread n)
is_thread (Call event) same = absurd (not_thread event same)
is_thread (Message call) same = absurd (eqb-false 115 104 refl (ap (λ (word : List ℕ). slice_index word 1) same))
is_thread (Thread n) same = (n, refl)

pub is_message : (said : ScriptLine) → said_word said ≡ codes "msg" → (call : MessageCall) × (said ≡ Message call)
is_message (Call event) same = absurd (not_msg event same)
is_message (Message call) same = (call, refl)
is_message (Thread n) same = absurd (eqb-false 104 115 refl (ap (λ (word : List ℕ). slice_index word 1) same))

pub is_call : (said : ScriptLine) → (codes "thread" ≡ said_word said → ⊥) → (codes "msg" ≡ said_word said → ⊥) → (event : Event) × (said ≡ Call event)
is_call (Call event) no_thread no_message = (event, refl)
is_call (Message call) no_thread no_message = absurd (no_message refl)
is_call (Thread n) no_thread no_message = absurd (no_thread refl)

-- a line's words are those of its text
pub said_split : (said : ScriptLine) (text : List ℕ) → FitsSaid said → said_text said ≡ text → said_word said ∷ said_arguments said ≡ words text
said_split said text fits same =
    sym (words-line (said_word said) (said_arguments said) (plain-said said fits)) ∙ ap (λ ws. words (line ws)) (sym (said_parts said)) ∙ ap words same

-- a line that has the words of a text has that text
pub said_read : {E : Type 0} (read : Result ScriptLine E) (found : List (List ℕ)) (text : List ℕ) → found ≡ words text → IfOk read (λ said. said_words said ≡ found) → IfOk read (λ said. said_text said ≡ text)
said_read (Ok said) found text split is = ap line is ∙ ap line split ∙ line-words text
said_read (Err e) found text split is = tt

-- a number that was read is the one that is spelled
pub same_number : (m n : ℕ) (left found : List (List ℕ)) → m < 2 ^ 32 → n < 2 ^ 32 → decimal m ∷ left ≡ found → decimal n ∷ [] ≡ found → m ≡ n
same_number m n left found small small_too read spelled =
    let same : decimal m ≡ decimal n = cc in
    decimal_injective m n (omega arith) (omega arith) same

pub same_room : (call other : MessageCall) (left found : List (List ℕ)) → call.room < 2 ^ 32 → other.room < 2 ^ 32 → message_arguments call ++ left ≡ found → message_arguments other ≡ found → call.room ≡ other.room
same_room call other left found small small_too read spelled =
    let same : decimal call.room ≡ decimal other.room = cc in
    decimal_injective call.room other.room (omega arith) (omega arith) same

-- a line whose first word begins no block and no message call says a call
pub call_of : (said : ScriptLine) (word : List ℕ) (left : List (List ℕ)) (text : List ℕ) → FitsSaid said → said_text said ≡ text → word ∷ left ≡ words text → (codes "thread" ≡ word → ⊥) → (codes "msg" ≡ word → ⊥)
    → (event : Event) × Fits event × (call_word event ≡ word) × (call_arguments event ≡ left)
call_of (Call event) word left text fits same split no_thread no_message =
    let parts = first_word (call_word event) word (call_arguments event) left (said_split (Call event) text fits same ∙ sym split) in
    (event, fits, parts.0, parts.1)
call_of (Message call) word left text fits same split no_thread no_message =
    absurd (no_message (first_word (codes "msg") word (message_arguments call) left (said_split (Message call) text fits same ∙ sym split)).0)
call_of (Thread number) word left text fits same split no_thread no_message =
    absurd (no_thread (first_word (codes "thread") word (decimal number ∷ []) left (said_split (Thread number) text fits same ∙ sym split)).0)

-- a word with this second letter begins no block and no message call
pub no_block : (word : List ℕ) → slice_index word 1 ≡ 101 → (codes "thread" ≡ word → ⊥) × (codes "msg" ≡ word → ⊥)
no_block word second = (
  λ same. eqb-false 104 101 refl (ap (λ (w : List ℕ). slice_index w 1) same ∙ second),
  λ same. eqb-false 115 101 refl (ap (λ (w : List ℕ). slice_index w 1) same ∙ second),
)

-- a line that says the call alone, whose keyword and arguments are the words of a text, has that text
pub call_said : {E : Type 0} (read : Result ScriptLine E) (event : Event) (word : List ℕ) (arguments left : List (List ℕ)) (text : List ℕ) → word ∷ arguments ≡ words text → call_word event ≡ word → call_arguments event ++ left ≡ arguments
    → IfOk read (λ said. (said ≡ Call event) × (left ≡ [])) → IfOk read (λ said. said_text said ≡ text)
call_said (Ok said) event word arguments left text split named spelled is =
    let whole : call_arguments event ≡ arguments = sym (append-nil (call_arguments event)) ∙ ap (λ ws. call_arguments event ++ ws) (sym is.1) ∙ spelled in
    let found : call_word event ∷ call_arguments event ≡ words text = ap (λ w. w ∷ call_arguments event) named ∙ ap (λ ws. word ∷ ws) whole ∙ split in
    ap said_text is.0 ∙ ap line found ∙ line-words text
call_said (Err e) event word arguments left text split named spelled is = tt

is_send : (event : Event) → call_word event ≡ codes "send" → (task : ℕ) × (bytes : List ℕ) × (event ≡ Send task bytes)
is_send (Send task bytes) word = (task, bytes, refl)
is_send event word = absurd (let f : false ≡ true = ap (λ w. bytes_eq w (codes "send")) word in cc)

is_receive : (event : Event) → call_word event ≡ codes "recv" → (task name room : ℕ) × (large : Bool) × (event ≡ Receive task name room large)
is_receive (Receive task name room large) word = (task, name, room, large, refl)
is_receive event word = absurd (let f : false ≡ true = ap (λ w. bytes_eq w (codes "recv")) word in cc)

-- a line whose first word is `send` says which task sends which bytes
pub send_said : (said : ScriptLine) (arguments : List (List ℕ)) (text : List ℕ) → FitsSaid said → said_text said ≡ text → codes "send" ∷ arguments ≡ words text
    → (task : ℕ) × (bytes : List ℕ) × (task < 2 ^ 32) × All (λ byte. byte < 256) bytes × (decimal task ∷ bytes_text bytes ∷ [] ≡ arguments)
send_said said arguments text fits same split =
    let no = no_block (codes "send") refl in
    let call = call_of said (codes "send") arguments text fits same split no.0 no.1 in
    let is = is_send call.0 call.2 in
    let small = subst Fits is.2 call.1 in
    (is.0, is.1, small.0, small.1, ap call_arguments (sym is.2) ∙ call.3)

-- and one whose first word is `recv`, which task receives by which name, its room, and whether a longer message stays
pub receive_said : (said : ScriptLine) (arguments : List (List ℕ)) (text : List ℕ) → FitsSaid said → said_text said ≡ text → codes "recv" ∷ arguments ≡ words text
    → (task name room : ℕ) × (large : Bool) × (task < 2 ^ 32) × (name < 2 ^ 32) × (room < 2 ^ 32) × (decimal task ∷ decimal name ∷ decimal room ∷ flag_text large ∷ [] ≡ arguments)
receive_said said arguments text fits same split =
    let no = no_block (codes "recv") refl in
    let call = call_of said (codes "recv") arguments text fits same split no.0 no.1 in
    let is = is_receive call.0 call.2 in
    let small = subst Fits is.4 call.1 in
    (is.0, is.1, is.2, is.3, small.0, small.1, small.2, ap call_arguments (sym is.4) ∙ call.3)
