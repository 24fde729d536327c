-- Which replies a call can get. The machine's steps have no others (`proofs/Fitting`).
use Rattle.std.specs.Prelude.{◌≡◌, ◌≢◌, ℕ, ◌⊎◌}
use Rattle.mach_types.specs.declared.calls.Event.{Event}
use Rattle.mach_types.specs.declared.calls.Reply.{Reply}
use Rattle.mach_types.specs.declared.codes.KernReturn.{KernReturn}
use Rattle.mach_types.specs.Codes.{kern_number, code_number}
use Rattle.mach_types.specs.declared.codes.Code.{Code}

-- the number is the code by which a kernel call is refused
pub record IsKern (number : ℕ) : Type 0 where
  pub code : KernReturn
  pub is : kern_number code ≡ number
  pub fails : number ≢ 0

-- the number is a code by which a send or a receive is refused
pub record IsCode (number : ℕ) : Type 0 where
  pub code : Code
  pub is : code_number code ≡ number
  pub fails : number ≢ 0

abbrev pub IsDone : Reply → Type 0
IsDone (Reply.Code code) = (code ≡ 0) ⊎ IsKern code
IsDone reply = ⊥

abbrev pub IsTask : Reply → Type 0
IsTask (Reply.Task task) = Unit {0}
IsTask (Reply.Code code) = IsKern code
IsTask reply = ⊥

abbrev pub IsName : Reply → Type 0
IsName (Reply.Name name) = Unit {0}
IsName (Reply.Code code) = IsKern code
IsName reply = ⊥

abbrev pub IsRefs : Reply → Type 0
IsRefs (Reply.Refs n) = Unit {0}
IsRefs (Reply.Code code) = IsKern code
IsRefs reply = ⊥

abbrev pub IsNameType : Reply → Type 0
IsNameType (Reply.NameType n) = Unit {0}
IsNameType (Reply.Code code) = IsKern code
IsNameType reply = ⊥

abbrev pub IsNames : Reply → Type 0
IsNames (Reply.Names entries) = Unit {0}
IsNames (Reply.Code code) = IsKern code
IsNames reply = ⊥

abbrev pub IsStatus : Reply → Type 0
IsStatus (Reply.Status status) = Unit {0}
IsStatus (Reply.Code code) = IsKern code
IsStatus reply = ⊥

abbrev pub IsMembers : Reply → Type 0
IsMembers (Reply.Members members) = Unit {0}
IsMembers (Reply.Code code) = IsKern code
IsMembers reply = ⊥

abbrev pub IsRight : Reply → Type 0
IsRight (Reply.Right name kind) = Unit {0}
IsRight (Reply.Code code) = IsKern code
IsRight reply = ⊥

abbrev pub IsPrevious : Reply → Type 0
IsPrevious (Reply.Previous name) = Unit {0}
IsPrevious (Reply.Code code) = IsKern code
IsPrevious reply = ⊥

abbrev pub IsSent : Reply → Type 0
IsSent (Reply.Code code) = (code ≡ 0) ⊎ IsCode code
IsSent reply = ⊥

abbrev pub IsReceived : Reply → Type 0
IsReceived (Reply.Message bytes) = Unit {0}
IsReceived (Reply.Empty waited) = Unit {0}
IsReceived (Reply.TooLarge n) = Unit {0}
IsReceived (Reply.Code code) = IsCode code
IsReceived reply = ⊥

abbrev pub Fits : Event → Reply → Type 0
Fits Event.TaskCreate reply = IsTask reply
Fits (Event.TaskTerminate task) reply = IsDone reply
Fits (Event.Allocate task right) reply = IsName reply
Fits (Event.AllocateName task right name) reply = IsName reply
Fits (Event.Deallocate task name) reply = IsDone reply
Fits (Event.Destroy task name) reply = IsDone reply
Fits (Event.ModRefs task name right delta) reply = IsDone reply
Fits (Event.GetRefs task name right) reply = IsRefs reply
Fits (Event.NameType task name) reply = IsNameType reply
Fits (Event.Names task) reply = IsNames reply
Fits (Event.Rename task o n) reply = IsDone reply
Fits (Event.ReceiveStatus task name) reply = IsStatus reply
Fits (Event.SetQlimit task name n) reply = IsDone reply
Fits (Event.SetMscount task name n) reply = IsDone reply
Fits (Event.SetSeqno task name n) reply = IsDone reply
Fits (Event.SetStatus task name) reply = IsMembers reply
Fits (Event.MoveMember task member after) reply = IsDone reply
Fits (Event.InsertMember task member set) reply = IsDone reply
Fits (Event.ExtractMember task member set) reply = IsDone reply
Fits (Event.InsertRight task name from poly number) reply = IsDone reply
Fits (Event.ExtractRight task name number to) reply = IsRight reply
Fits (Event.RequestNotification task name variant sync notify number) reply = IsPrevious reply
Fits (Event.Send task bytes) reply = IsSent reply
Fits (Event.Receive task name room large) reply = IsReceived reply
Fits (Event.ReceiveAgain task waited room large) reply = IsReceived reply
