-- The text of calls.
use Rattle.std.specs.Prelude.{◌≡◌, ℕ, ◌+◌, List, [], ◌∷◌, ◌++◌, codes, decimal, ◌<◌, ◌^◌, All, ⊤, length, flat_map}
use Rattle.std.specs.Fmt.{signed_decimal}
use Rattle.mach_types.specs.declared.calls.Event.{Event}
use Rattle.mach_types.specs.declared.calls.Event.TheVariants.{TaskCreate, TaskTerminate, Allocate, AllocateName, Deallocate, Destroy, ModRefs, GetRefs, NameType, Names, Rename, ReceiveStatus, SetQlimit, SetMscount, SetSeqno, InsertRight, ExtractRight, RequestNotification, MoveMember, InsertMember, ExtractMember, SetStatus, Send, Receive, ReceiveAgain}
use Rattle.tracer_base.specs.Numbers.{FitsDelta}
use Rattle.tracer_base.specs.Text.{bytes_text, flag_text, waited_words, FitsWaited}
use Rattle.tracer_base.specs.Words.{line}

-- a call's keyword
abbrev pub call_word : Event → List ℕ
call_word TaskCreate = codes "task"
call_word (TaskTerminate task) = codes "end"
call_word (Allocate task right) = codes "alloc"
call_word (AllocateName task right name) = codes "allocname"
call_word (Deallocate task name) = codes "dealloc"
call_word (Destroy task name) = codes "destroy"
call_word (ModRefs task name right delta) = codes "modrefs"
call_word (GetRefs task name right) = codes "refs"
call_word (NameType task name) = codes "type"
call_word (Names task) = codes "names"
call_word (Rename task old new) = codes "rename"
call_word (ReceiveStatus task name) = codes "status"
call_word (SetQlimit task name limit) = codes "qlimit"
call_word (SetMscount task name count) = codes "mscount"
call_word (SetSeqno task name sequence) = codes "seqno"
call_word (InsertRight task name from poly disposition) = codes "insert"
call_word (ExtractRight task name disposition to) = codes "extract"
call_word (RequestNotification task name variant sync notify disposition) = codes "notify"
call_word (MoveMember task member set) = codes "move"
call_word (InsertMember task member set) = codes "insmember"
call_word (ExtractMember task member set) = codes "exmember"
call_word (SetStatus task name) = codes "members"
call_word (Send task bytes) = codes "send"
call_word (Receive task name room large) = codes "recv"
call_word (ReceiveAgain task waited room large) = codes "again"

-- a call's arguments, in their order
abbrev pub call_arguments : Event → List (List ℕ)
call_arguments TaskCreate = []
call_arguments (TaskTerminate task) = decimal task ∷ []
call_arguments (Allocate task right) = decimal task ∷ decimal right ∷ []
call_arguments (AllocateName task right name) = decimal task ∷ decimal right ∷ decimal name ∷ []
call_arguments (Deallocate task name) = decimal task ∷ decimal name ∷ []
call_arguments (Destroy task name) = decimal task ∷ decimal name ∷ []
call_arguments (ModRefs task name right delta) = decimal task ∷ decimal name ∷ decimal right ∷ signed_decimal delta ∷ []
call_arguments (GetRefs task name right) = decimal task ∷ decimal name ∷ decimal right ∷ []
call_arguments (NameType task name) = decimal task ∷ decimal name ∷ []
call_arguments (Names task) = decimal task ∷ []
call_arguments (Rename task old new) = decimal task ∷ decimal old ∷ decimal new ∷ []
call_arguments (ReceiveStatus task name) = decimal task ∷ decimal name ∷ []
call_arguments (SetQlimit task name limit) = decimal task ∷ decimal name ∷ decimal limit ∷ []
call_arguments (SetMscount task name count) = decimal task ∷ decimal name ∷ decimal count ∷ []
call_arguments (SetSeqno task name sequence) = decimal task ∷ decimal name ∷ decimal sequence ∷ []
call_arguments (InsertRight task name from poly disposition) = decimal task ∷ decimal name ∷ decimal from ∷ decimal poly ∷ decimal disposition ∷ []
call_arguments (ExtractRight task name disposition to) = decimal task ∷ decimal name ∷ decimal disposition ∷ decimal to ∷ []
call_arguments (RequestNotification task name variant sync notify disposition) =
    decimal task ∷ decimal name ∷ decimal variant ∷ decimal sync ∷ decimal notify ∷ decimal disposition ∷ []
call_arguments (MoveMember task member set) = decimal task ∷ decimal member ∷ decimal set ∷ []
call_arguments (InsertMember task member set) = decimal task ∷ decimal member ∷ decimal set ∷ []
call_arguments (ExtractMember task member set) = decimal task ∷ decimal member ∷ decimal set ∷ []
call_arguments (SetStatus task name) = decimal task ∷ decimal name ∷ []
call_arguments (Send task bytes) = decimal task ∷ bytes_text bytes ∷ []
call_arguments (Receive task name room large) = decimal task ∷ decimal name ∷ decimal room ∷ flag_text large ∷ []
call_arguments (ReceiveAgain task waited room large) = decimal task ∷ (waited_words waited ++ decimal room ∷ flag_text large ∷ [])

abbrev pub call_words : Event → List (List ℕ)
call_words event = call_word event ∷ call_arguments event

abbrev pub call_text : Event → List ℕ
call_text event = line (call_words event)

-- its numbers fit 32 bits, a delta with its sign and an identity 64, and its bytes are bytes
abbrev pub Fits : Event → Type 0
Fits TaskCreate = ⊤
Fits (TaskTerminate task) = task < 2 ^ 32
Fits (Allocate task right) = (task < 2 ^ 32) × (right < 2 ^ 32)
Fits (AllocateName task right name) = (task < 2 ^ 32) × (right < 2 ^ 32) × (name < 2 ^ 32)
Fits (Deallocate task name) = (task < 2 ^ 32) × (name < 2 ^ 32)
Fits (Destroy task name) = (task < 2 ^ 32) × (name < 2 ^ 32)
Fits (ModRefs task name right delta) = (task < 2 ^ 32) × (name < 2 ^ 32) × (right < 2 ^ 32) × FitsDelta delta
Fits (GetRefs task name right) = (task < 2 ^ 32) × (name < 2 ^ 32) × (right < 2 ^ 32)
Fits (NameType task name) = (task < 2 ^ 32) × (name < 2 ^ 32)
Fits (Names task) = task < 2 ^ 32
Fits (Rename task old new) = (task < 2 ^ 32) × (old < 2 ^ 32) × (new < 2 ^ 32)
Fits (ReceiveStatus task name) = (task < 2 ^ 32) × (name < 2 ^ 32)
Fits (SetQlimit task name limit) = (task < 2 ^ 32) × (name < 2 ^ 32) × (limit < 2 ^ 32)
Fits (SetMscount task name count) = (task < 2 ^ 32) × (name < 2 ^ 32) × (count < 2 ^ 32)
Fits (SetSeqno task name sequence) = (task < 2 ^ 32) × (name < 2 ^ 32) × (sequence < 2 ^ 32)
Fits (InsertRight task name from poly disposition) = (task < 2 ^ 32) × (name < 2 ^ 32) × (from < 2 ^ 32) × (poly < 2 ^ 32) × (disposition < 2 ^ 32)
Fits (ExtractRight task name disposition to) = (task < 2 ^ 32) × (name < 2 ^ 32) × (disposition < 2 ^ 32) × (to < 2 ^ 32)
Fits (RequestNotification task name variant sync notify disposition) =
    (task < 2 ^ 32) × (name < 2 ^ 32) × (variant < 2 ^ 32) × (sync < 2 ^ 32) × (notify < 2 ^ 32) × (disposition < 2 ^ 32)
Fits (MoveMember task member set) = (task < 2 ^ 32) × (member < 2 ^ 32) × (set < 2 ^ 32)
Fits (InsertMember task member set) = (task < 2 ^ 32) × (member < 2 ^ 32) × (set < 2 ^ 32)
Fits (ExtractMember task member set) = (task < 2 ^ 32) × (member < 2 ^ 32) × (set < 2 ^ 32)
Fits (SetStatus task name) = (task < 2 ^ 32) × (name < 2 ^ 32)
Fits (Send task bytes) = (task < 2 ^ 32) × All (λ byte. byte < 256) bytes
Fits (Receive task name room large) = (task < 2 ^ 32) × (name < 2 ^ 32) × (room < 2 ^ 32)
Fits (ReceiveAgain task waited room large) = (task < 2 ^ 32) × FitsWaited waited × (room < 2 ^ 32)

-- a line of a script: a call, and a line feed
abbrev pub line_text : Event → List ℕ
line_text event = call_text event ++ 10 ∷ []

-- no line of a call stands at its beginning
abbrev pub StartsNoCall : List ℕ → Type 0
StartsNoCall text = (event : Event) (rest : List ℕ) → Fits event → line_text event ++ rest ≡ text → ⊥

-- line n, from 1, is the first that is no call: calls stand before it, one a line, and there is more behind them
pub record IsFirstBadLine (text : List ℕ) (n : ℕ) : Type 0 where
  pub calls : List Event
  pub fit : All Fits calls
  pub number : length calls + 1 ≡ n
  pub rest : List ℕ
  pub parts : flat_map line_text calls ++ rest ≡ text
  pub some : 0 < length rest
  pub bad : StartsNoCall rest
