-- Which code refuses an event: the first guard that holds, from left to right (the order is this project's own).
use Rattle.std.specs.Prelude.{◌≡◌, ◌≢◌, ℕ, false, ℤ, pos, negsuc, ◌+◌, ◌<◌, ◌≤◌, ◌⊎◌, List, [], ◌∷◌, length, Option, Some, None}
use Rattle.mach_types.specs.declared.calls.Event.{Event}
use Rattle.mach_types.specs.declared.calls.Waited.{Waited}
use Rattle.mach_types.specs.declared.codes.KernReturn.TheVariants.{NoSpace, ResourceShortage, NameExists, InvalidName, InvalidTask, InvalidRight, InvalidValue, UrefsOverflow, InvalidCapability, NotInSet, AlreadyInSet, InvalidArgument}
use Rattle.mach_types.specs.declared.codes.MsgReturn.TheVariants.{ReceiveInvalidName, ReceiveInSet, ReceivePortDied, ReceivePortChanged}
use Rattle.mach_types.specs.declared.codes.KernReturn.{KernReturn}
use Rattle.mach_types.specs.Numbers.{most_tasks, most_rights, greatest_limit, most_references}
use Rattle.mach_types.specs.Codes.{kern_number, msg_number}
use Rattle.mach_types.specs.Tokens.{receive, in_task}
use Rattle.mach_types.specs.Guards.{Guards, FirstIs, NoneHolds}
use Rattle.mach_types.specs.TextGuards.{header_guards}
use Rattle.mach_model.specs.State.{State, Target, lookup, Holds}
use Rattle.mach_model.specs.NameGuards.{HasSeveral, IsNoTask, IsSet, NamesReceive, HasReference, IsLegalName, IsDeadName, IsMember, IsUnused, IsNoName}
use Rattle.mach_model.specs.Room.{IsFull}
use Rattle.mach_model.specs.TransferRefusals.{CopyRefuses, extracted_guards, inserted_guards}
use Rattle.mach_model.specs.SendRefusals.{SendRefuses}
use Rattle.mach_model.specs.Receive.{waits_for}
use Rattle.mach_model.specs.ReceiptRefusals.{ReceiptRefuses}
use Rattle.mach_model.specs.RequestRefusals.{RequestRefuses, notify_guards}
use Rattle.mach_model.specs.References.{CountsNoReferences}
use Rattle.mach_model.specs.Telling.{references}

-- the right numbers that nothing can be made of
abbrev pub IsNoMaking : ℕ → Type 0
IsNoMaking right = (right ≢ 1) × (right ≢ 3) × (right ≢ 4)

abbrev pub IsDisposition : ℕ → Type 0
IsDisposition number = (16 ≤ number) × (number ≤ 21)

-- ---- the tasks that an event names, which are judged first

abbrev pub tasks_of : Event → List ℕ
tasks_of Event.TaskCreate = []
tasks_of (Event.TaskTerminate task) = task ∷ []
tasks_of (Event.Allocate task right) = task ∷ []
tasks_of (Event.AllocateName task right name) = task ∷ []
tasks_of (Event.Deallocate task name) = task ∷ []
tasks_of (Event.Destroy task name) = task ∷ []
tasks_of (Event.ModRefs task name right delta) = task ∷ []
tasks_of (Event.GetRefs task name right) = task ∷ []
tasks_of (Event.NameType task name) = task ∷ []
tasks_of (Event.Names task) = task ∷ []
tasks_of (Event.Rename task o n) = task ∷ []
tasks_of (Event.ReceiveStatus task name) = task ∷ []
tasks_of (Event.SetQlimit task name n) = task ∷ []
tasks_of (Event.SetMscount task name n) = task ∷ []
tasks_of (Event.SetSeqno task name n) = task ∷ []
tasks_of (Event.SetStatus task name) = task ∷ []
tasks_of (Event.MoveMember task member after) = task ∷ []
tasks_of (Event.InsertMember task member set) = task ∷ []
tasks_of (Event.ExtractMember task member set) = task ∷ []
tasks_of (Event.InsertRight task name from poly number) = task ∷ from ∷ []
tasks_of (Event.ExtractRight task name number to) = task ∷ to ∷ []
tasks_of (Event.RequestNotification task name variant sync notify number) = task ∷ []
tasks_of (Event.Send task bytes) = task ∷ []
tasks_of (Event.Receive task name room large) = task ∷ []
tasks_of (Event.ReceiveAgain task waited room large) = task ∷ []

-- one of the tasks isn't live
abbrev pub IsOneDead : State → List ℕ → Type 0
IsOneDead s [] = ⊥
IsOneDead s (task ∷ []) = IsNoTask s task
IsOneDead s (task ∷ tasks) = IsNoTask s task ⊎ IsOneDead s tasks

-- ---- what a name has to stand for

abbrev pub used_guards : State → (task name : ℕ) → Guards
used_guards s task name = (IsUnused s task name, kern_number InvalidName) ∷ []

-- a receive right
abbrev pub receive_guards : State → (task name : ℕ) → Guards
receive_guards s task name =
    (IsUnused s task name, kern_number InvalidName)
    ∷ (¬ (NamesReceive s task name), kern_number InvalidRight)
    ∷ []

-- a port set
abbrev pub set_guards : State → (task name : ℕ) → Guards
set_guards s task name =
    (IsUnused s task name, kern_number InvalidName)
    ∷ (¬ (IsSet (lookup s task name)), kern_number InvalidRight)
    ∷ []

-- ---- references that are changed by a number

abbrev pub CountsReferences : (right : ℕ) → Type 0
CountsReferences right = (right ≡ 0) ⊎ (right ≡ 4)

abbrev pub references_under : State → (task : ℕ) → Option Target → (right : ℕ) → ℕ
references_under s task (Some target) right = references s task target right
references_under s task None right = 0

-- how many references of the right are under the name
abbrev pub references_at : State → (task name right : ℕ) → ℕ
references_at s task name right = references_under s task (lookup s task name) right

abbrev pub IsBelowZero : ℕ → ℤ → Type 0
IsBelowZero n (pos k) = ⊥
IsBelowZero n (negsuc k) = n < k + 1

abbrev pub IsAbove : ℕ → ℤ → Type 0
IsAbove n (pos k) = most_references < n + k
IsAbove n (negsuc k) = ⊥

abbrev pub added_rights : ℤ → ℕ
added_rights (pos k) = k
added_rights (negsuc k) = 0

-- ---- the guards of each call, of tasks that live

abbrev pub move_guards : State → (task member after : ℕ) → Guards
move_guards s task member after =
    (IsUnused s task member ⊎ (after ≢ 0) × IsUnused s task after, kern_number InvalidName)
    ∷ (¬ (NamesReceive s task member) ⊎ (after ≢ 0) × ¬ (IsSet (lookup s task after)), kern_number InvalidRight)
    ∷ ((after ≡ 0) × ((p : ℕ) × (lookup s task member ≡ Some (Target.port p)) × (s.sets_of p ≡ [])), kern_number NotInSet)
    ∷ []

-- a port's membership of a set, where it may be in several; the last guard is its own
abbrev pub member_guards : State → (task member set : ℕ) → Type 0 → KernReturn → Guards
member_guards s task member set last code =
    (¬ (HasSeveral s.profile), kern_number InvalidArgument)
    ∷ (IsUnused s task member ⊎ IsUnused s task set, kern_number InvalidName)
    ∷ (¬ (NamesReceive s task member) ⊎ ¬ (IsSet (lookup s task set)), kern_number InvalidRight)
    ∷ (last, kern_number code)
    ∷ []

-- what is waited for is gone, or was never there; or the task could not receive from it by a name
abbrev pub again_guards : State → (task : ℕ) → Waited → Guards
again_guards s task (Waited.Port p) =
    (s.live_port p ≡ false, msg_number ReceivePortDied)
    ∷ (¬ (Holds s task receive p) ⊎ (s.sets_of p ≢ []), msg_number ReceivePortChanged)
    ∷ []
again_guards s task (Waited.Set set) =
    (s.set_owner set ≡ None, msg_number ReceivePortDied)
    ∷ (s.set_owner set ≢ Some task, msg_number ReceivePortChanged)
    ∷ []

abbrev pub modify_guards : State → (task name right : ℕ) → ℤ → Guards
modify_guards s task name right delta =
    (4 < right, kern_number InvalidValue)
    ∷ (IsUnused s task name, kern_number InvalidName)
    ∷ (references_at s task name right ≡ 0, kern_number InvalidRight)
    ∷ (
      CountsReferences right × IsBelowZero (references_at s task name right) delta
          ⊎ CountsNoReferences right × (delta ≢ pos 0) × (delta ≢ negsuc 0),
      kern_number InvalidValue,
    )
    ∷ (CountsReferences right × IsAbove (references_at s task name right) delta, kern_number UrefsOverflow)
    ∷ ((right ≡ 0) × (most_rights < length s.ledger + added_rights delta), kern_number NoSpace)
    ∷ []

abbrev pub insert_guards : State → (task name from poly number : ℕ) → Guards
insert_guards s task name from poly number =
    (IsNoName name ⊎ ¬ (IsDisposition number), kern_number InvalidValue)
    ∷ (IsNoName poly ⊎ IsDeadName s from poly × (17 ≤ number) × (number ≤ 19), kern_number InvalidCapability)
    ∷ (IsUnused s from poly, kern_number InvalidName)
    ∷ (¬ (IsLegalName s from poly number), kern_number InvalidRight)
    ∷ []

abbrev pub extract_guards : State → (task name number to : ℕ) → Guards
extract_guards s task name number to =
    (¬ (IsDisposition number), kern_number InvalidValue)
    ∷ (IsUnused s task name, kern_number InvalidName)
    ∷ (¬ (IsLegalName s task name number) ⊎ IsDeadName s task name, kern_number InvalidRight)
    ∷ []

abbrev pub call_guards : State → Event → Guards
call_guards s Event.TaskCreate = (most_tasks ≤ s.tasks_made, kern_number NoSpace) ∷ []
call_guards s (Event.TaskTerminate task) = []
call_guards s (Event.Allocate task right) =
    (IsNoMaking right, kern_number InvalidValue)
    ∷ (IsFull s task right, kern_number NoSpace)
    ∷ []
call_guards s (Event.AllocateName task right name) =
    (IsNoMaking right ⊎ IsNoName name, kern_number InvalidValue)
    ∷ (lookup s task name ≢ None, kern_number NameExists)
    ∷ (IsFull s task right, kern_number NoSpace)
    ∷ []
call_guards s (Event.Deallocate task name) =
    (IsUnused s task name, kern_number InvalidName)
    ∷ (¬ (HasReference s task (lookup s task name)), kern_number InvalidRight)
    ∷ []
call_guards s (Event.Destroy task name) =
    (IsUnused s task name, kern_number InvalidName)
    ∷ []
call_guards s (Event.ModRefs task name right delta) = modify_guards s task name right delta
call_guards s (Event.GetRefs task name right) = (4 < right, kern_number InvalidValue) ∷ used_guards s task name
call_guards s (Event.NameType task name) = used_guards s task name
call_guards s (Event.Names task) = []
call_guards s (Event.Rename task o n) =
    (IsNoName n, kern_number InvalidValue)
    ∷ (IsUnused s task o, kern_number InvalidName)
    ∷ (lookup s task n ≢ None, kern_number NameExists)
    ∷ []
call_guards s (Event.ReceiveStatus task name) = receive_guards s task name
call_guards s (Event.SetQlimit task name n) = (greatest_limit < n, kern_number InvalidValue) ∷ receive_guards s task name
call_guards s (Event.SetMscount task name n) = receive_guards s task name
call_guards s (Event.SetSeqno task name n) = receive_guards s task name
call_guards s (Event.SetStatus task name) = set_guards s task name
call_guards s (Event.MoveMember task member after) = move_guards s task member after
call_guards s (Event.InsertMember task member set) = member_guards s task member set (IsMember s task member set) AlreadyInSet
call_guards s (Event.ExtractMember task member set) = member_guards s task member set (¬ (IsMember s task member set)) NotInSet
call_guards s (Event.InsertRight task name from poly number) = insert_guards s task name from poly number
call_guards s (Event.ExtractRight task name number to) = extract_guards s task name number to
call_guards s (Event.RequestNotification task name variant sync notify number) = notify_guards s task name variant sync notify number
call_guards s (Event.Send task bytes) = header_guards bytes
call_guards s (Event.Receive task name room large) =
    (¬ (NamesReceive s task name ⊎ IsSet (lookup s task name)), msg_number ReceiveInvalidName)
    ∷ ((p : ℕ) × (lookup s task name ≡ Some (Target.port p)) × (s.sets_of p ≢ []), msg_number ReceiveInSet)
    ∷ []
call_guards s (Event.ReceiveAgain task waited room large) = again_guards s task waited

-- the guards that are judged in the state before
abbrev pub guards : State → Event → Guards
guards s event = (IsOneDead s (tasks_of event), kern_number InvalidTask) ∷ call_guards s event

-- the code for want of memory of an event whose guards are all judged in the state before
abbrev pub memory_refusal : Event → Option ℕ
memory_refusal Event.TaskCreate = Some (kern_number ResourceShortage)
memory_refusal (Event.Allocate task right) = Some (kern_number ResourceShortage)
memory_refusal (Event.AllocateName task right name) = Some (kern_number ResourceShortage)
memory_refusal (Event.Names task) = Some (kern_number ResourceShortage)
memory_refusal (Event.Rename task o n) = Some (kern_number ResourceShortage)
memory_refusal (Event.SetStatus task name) = Some (kern_number ResourceShortage)
memory_refusal (Event.InsertMember task member set) = Some (kern_number ResourceShortage)
memory_refusal event = None

-- refusals that come after those guards
abbrev pub RefusesLater : State → Event → (code : ℕ) → Type 0
RefusesLater s (Event.InsertRight task name from poly number) code =
    CopyRefuses from (in_task task) number poly s (λ p kind copied. inserted_guards copied task name p kind) code
RefusesLater s (Event.ExtractRight task name number to) code =
    CopyRefuses task (in_task to) number name s (λ p kind copied. extracted_guards copied to p kind) code
RefusesLater s (Event.RequestNotification task name variant sync notify number) code =
    RequestRefuses s task name variant sync notify number code
RefusesLater s (Event.Send task bytes) code = SendRefuses s task bytes code
RefusesLater s (Event.Receive task name room large) code =
    (waited : Waited) × waits_for task name s waited × ReceiptRefuses s task waited room code
RefusesLater s (Event.ReceiveAgain task waited room large) code = ReceiptRefuses s task waited room code
RefusesLater s event code = memory_refusal event ≡ Some code

-- The event is refused in the state with this code.
abbrev pub Refuses : State → Event → (code : ℕ) → Type 0
Refuses s event code = FirstIs (guards s event) code ⊎ NoneHolds (guards s event) × RefusesLater s event code
