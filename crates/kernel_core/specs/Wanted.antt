-- Where a step may want memory, and what it keeps for names and messages to come.
use Rattle.std.specs.Prelude.{◌≡◌, ℕ, ◌+◌, ◌≤◌, ◌⊎◌, max, List, [], length, Some, Result, Ok, Err, IfOk, IfErr}
use Rattle.std.specs.Option.{option_and_then}
use Rattle.mach_types.specs.declared.calls.Event.{Event}
use Rattle.mach_types.specs.declared.calls.Reply.{Reply}
use Rattle.mach_types.specs.declared.calls.Waited.{Waited}
use Rattle.mach_types.specs.declared.codes.KernReturn.TheVariants.{ResourceShortage}
use Rattle.mach_types.specs.declared.codes.MsgReturn.TheVariants.{SendNoBuffer, ReceiveBodyErrorMemory}
use Rattle.mach_types.specs.Codes.{kern_number, msg_number, code_number}
use Rattle.mach_model.specs.State.{State}
use Rattle.mach_laws.specs.Counts.{accepts, takes_from}
use Rattle.mach_laws.specs.Queued.{MakesAsNeeded}
use Rattle.rights.specs.Unused.{IsUnusedOfAll}
use Rattle.mach_types.specs.declared.codes.Code.{Code}
use Rattle.copyin_base.specs.Serving.{IsDone, Serves}
use Rattle.copyin_base.specs.Shows.{Shows}
use Rattle.copyin_base.specs.Wanted.{room_of}
use Rattle.copyin_base.specs.Worlds.{WorldView, entry_at}
use Rattle.copyin.specs.Wanted.{WantsToSend}
use Rattle.copyout.specs.Wanted.{WantsToReceive}
use Rattle.transfer.specs.Wanted.{WantsToInsert, WantsToExtract}
use Rattle.notifications.specs.Wanted.{WantsToRequest}
use Rattle.kernel_core_base.specs.Wanted.{MayLackMemory}
use Rattle.kernel_core.specs.InTurn.{KeepsTurns, CompletesInTurn, told_by}
use Rattle.kernel_core.specs.Receive.{Brings, HasMessage, waited_at}

-- ---- want of memory

-- the code that tells of it
abbrev pub memory_code : Event → ℕ
memory_code (Event.Send task bytes) = msg_number SendNoBuffer
memory_code (Event.Receive task name room large) = msg_number ReceiveBodyErrorMemory
memory_code (Event.ReceiveAgain task waited room large) = msg_number ReceiveBodyErrorMemory
memory_code event = kern_number ResourceShortage

-- The task may take from a port whose front message may want memory.
pub record WantsToTake (w : WorldView) (task : ℕ) (waited : Waited) : Type 0 where
  pub port : ℕ
  pub has : HasMessage w waited port
  pub wants : WantsToReceive w task port

-- The event may want memory that isn't there.
abbrev pub WantsMemory : WorldView → Event → Type 0
WantsMemory w (Event.InsertRight task name from poly number) = WantsToInsert w (record { task = task; name = name }) (record { task = from; name = poly }) number
WantsMemory w (Event.ExtractRight task name number to) = WantsToExtract w (record { task = task; name = name }) number to
WantsMemory w (Event.Send task bytes) = WantsToSend w task bytes
WantsMemory w (Event.Receive task name room large) = (waited : Waited) × (option_and_then waited_at (entry_at w task name) ≡ Some waited) × WantsToTake w task waited
WantsMemory w (Event.ReceiveAgain task waited room large) = WantsToTake w task waited
WantsMemory w (Event.RequestNotification task name variant sync notify number) =
    WantsToRequest w task name (record { variant = variant; sync = sync; notify = notify; disposition = number })
WantsMemory w event = MayLackMemory w event

-- Want of memory is told only where it may be wanted.
pub record Wanted (old : WorldView) (event : Event) (reply : Reply) : Type 0 where
  pub wanted : reply ≡ Reply.Code (memory_code event) → WantsMemory old event

-- ---- room for names and messages

-- A call of this task receives, and may take from this.
abbrev pub Receives : WorldView → Event → (task : ℕ) → Waited → Type 0
Receives w (Event.Receive receiver name room large) task waited = (task ≡ receiver) × (option_and_then waited_at (entry_at w receiver name) ≡ Some waited)
Receives w (Event.ReceiveAgain receiver from room large) task waited = (task ≡ receiver) × (waited ≡ from)
Receives w event task waited = ⊥

-- The task gets a message that has so many rights.
pub record GetsRights (old : WorldView) (event : Event) (result : Result Reply Code) (task rights : ℕ) : Type 0 where
  pub bytes : List ℕ
  pub answer : result ≡ Ok (Reply.Message bytes)
  pub waited : Waited
  pub receives : Receives old event task waited
  pub brings : Brings old waited rights

-- A task's room for names grows by one at most, from none; and that of a task that gets a message, to as many as the message has rights.
abbrev pub LeavesRooms : WorldView → Event → Result Reply Code → WorldView → Type 0
LeavesRooms old event result new = (task : ℕ) → (number : ℕ) × ((number ≡ 1) ⊎ GetsRights old event result task number) × (room_of new task ≤ max (room_of old task) number)

-- Room for names is left so. Slots are made only as messages that are queued after the step, and send-once rights that none of them goes by, need one
-- each: a slot is used by each message that is accepted and each notice that is sent, and is spare again where a message is given or destroyed.
pub record Spares (old : WorldView) (event : Event) (reply : Reply) (new : WorldView) : Type 0 where
  pub rooms : LeavesRooms old event (Ok reply) new
  pub slots : (s t : State) → Shows old s → Shows new t → MakesAsNeeded old.ports.spare new.ports.spare s t

-- ---- what a call promises, before the end of its step

-- Each message that it accepts and each notice that it posts takes a spare slot, and each message that it takes from a queue leaves one. It makes
-- more only where it lost no port, and no more than there are send-once rights then that no queued message goes by.
abbrev pub UsesSlots : WorldView → Event → Reply → (posted : ℕ) → WorldView → Type 0
UsesSlots old event reply posted new =
    (new.ports.spare + posted + accepts event reply ≤ old.ports.spare + takes_from event reply)
    ⊎ (new.ports.spare ≤ new.ledger.unused) × (new.ports.lost ≡ [])

-- It posts the notices that it owes, and none where it is refused. Each ledger's number of unused send-once rights is the sum over all ports.
abbrev pub LeavesSlots : WorldView → Event → Result Reply Code → WorldView → Type 0
LeavesSlots old event (Ok reply) new = IsUnusedOfAll old.ledger → IsUnusedOfAll new.ledger →
    (now : ℕ) (s : State) → Shows old s → (done : IsDone now old s event reply new) → UsesSlots old event reply (length done.owed) new
LeavesSlots old event (Err code) new = new.ports.spare ≤ max old.ports.spare new.ledger.unused

-- What it leaves for what is to come.
pub record LeavesSpares (old : WorldView) (event : Event) (result : Result Reply Code) (new : WorldView) : Type 0 where
  pub rooms : LeavesRooms old event result new
  pub slots : LeavesSlots old event result new

-- The call's part of a step is done or refused as the machine says, wants and leaves no more than that, keeps the turns of a set's members, and takes
-- its message by turn.
pub record Performs (old : WorldView) (event : Event) (result : Result Reply Code) (new : WorldView) : Type 0 where
  pub serves : Serves old event result new
  pub wanted : IfErr result (λ code. code_number code ≡ memory_code event → WantsMemory old event)
  pub spares : LeavesSpares old event result new
  pub turns : KeepsTurns old event (told_by result) new
  pub takes : IfOk result (λ reply. CompletesInTurn old event reply new)
