-- What receiving takes from, and what it does to the tables.
use Rattle.std.specs.Prelude.{◌≡◌, ◌≢◌, ℕ, ◌+◌, ◌<◌, ◌≤◌, ◌⊎◌, Bool, List, [], length, max, Option, Some, None, false, if◌then◌else◌, Contains}
use Rattle.mach_types.specs.declared.calls.Event.{Event}
use Rattle.mach_types.specs.declared.calls.Reply.{Reply}
use Rattle.mach_types.specs.declared.calls.Waited.{Waited}
use Rattle.mach_types.specs.Guards.{Guards, NoneHolds}
use Rattle.mach_model.specs.State.{State}
use Rattle.mach_model.specs.Notices.{Owed}
use Rattle.mach_model.specs.Receive.{waits_for, Receipt}
use Rattle.mach_model.specs.ReceiptRefusals.{ReceiptRefuses}
use Rattle.mach_model.specs.Refusals.{again_guards, call_guards}
use Rattle.name_space.specs.declared.Entry.{Entry}
use Rattle.name_space.specs.declared.Entry.TheVariants as entry
use Rattle.port.specs.Ports.{PortView, sets_in}
use Rattle.copyin_base.specs.Changes.{NotesSenders, MakesNoSends}
use Rattle.copyin_base.specs.Kept.{Kept}
use Rattle.copyin_base.specs.Posted.{with_posted, IsLeft}
use Rattle.copyin_base.specs.Shows.{Agrees, HoldersAgree, CarriersAgree, SlotsSuffice, RequestsStand, Shows}
use Rattle.copyin_base.specs.Wanted.{room_of}
use Rattle.copyin_base.specs.Worlds.{WorldView, port_at}
use Rattle.copyout.specs.Ready.{HasFront, carried_by}

-- ---- where from, in each state that the tables show

-- the guards of a receive by the name, into whatever room
abbrev pub named_guards : State → (task name : ℕ) → Guards
named_guards s task name = call_guards s (Event.Receive task name 0 false)

-- what a receive by a name takes from, by what stands under the name
abbrev pub waited_at : Entry → Option Waited
waited_at (entry.Receive p) = Some (Waited.Port p)
waited_at (entry.ReceiveAndSend p n) = Some (Waited.Port p)
waited_at (entry.Set set) = Some (Waited.Set set)
waited_at x = None

-- The name stands for this, which the task may take from.
pub record Sources (w : WorldView) (task name : ℕ) (waited : Waited) : Type 0 where
  pub waits : (s : State) → Shows w s → waits_for task name s waited
  pub unrefused : (s : State) → Shows w s → NoneHolds (again_guards s task waited)

-- The port is in a set.
pub record IsMember (w : WorldView) (port : ℕ) : Type 0 where
  pub some : (s : State) → Shows w s → s.sets_of port ≢ []

-- It is in none.
pub record IsAlone (w : WorldView) (port : ℕ) : Type 0 where
  pub none : (s : State) → Shows w s → s.sets_of port ≡ []

-- ---- the ports that a receipt takes from: the port itself, or the set's members

abbrev pub IsOf : Waited → (port : ℕ) → PortView Kept → Type 0
IsOf (Waited.Port q) p v = p ≡ q
IsOf (Waited.Set set) p v = Contains (sets_in v) set

pub record IsFrom (w : WorldView) (waited : Waited) (port : ℕ) : Type 0 where
  pub v : PortView Kept
  pub there : port_at w port ≡ Some v
  pub is_of : IsOf waited port v

pub record HasMessage (w : WorldView) (waited : Waited) (port : ℕ) : Type 0 where
  pub from : IsFrom w waited port
  pub some : 0 < length from.v.queue

abbrev pub NoneWaits : WorldView → Waited → Type 0
NoneWaits w waited = (p : ℕ) (v : PortView Kept) → port_at w p ≡ Some v → IsOf waited p v → length v.queue ≡ 0

-- ---- what becomes of it, in each state that the tables show

-- The message in front of this port was taken, and no other.
pub record TakesOne (s t : State) (port : ℕ) : Type 0 where
  pub next : t.taken port ≡ s.taken port + 1
  pub others : (p : ℕ) → p ≢ port → t.taken p ≡ s.taken p

-- how many messages such an answer takes from a queue
abbrev pub taken_by : (large : Bool) → Reply → ℕ
taken_by large (Reply.Message bytes) = 1
taken_by large (Reply.TooLarge n) = if large then 0 else 1
taken_by large reply = 0

-- A receipt of the machine, after which the tables agree with its state, where what it owes was posted, each port knows who holds its receive
-- right, slots suffice, each request stands on what is there, a port that lost its last send right is noted, one that lost its receive right is
-- left to the step's end, and then no port has more send rights; old are the tables before. A message that it takes is this port's.
pub record ReceiptOf (now : ℕ) (old : WorldView) (s : State) (task : ℕ) (waited : Waited) (room : ℕ) (large : Bool) (from : Option ℕ) (reply : Reply) (new : WorldView) : Type 0 where
  pub mid : State
  pub owed : Owed
  pub receipt : Receipt s task waited room large reply mid owed
  pub takes : taken_by large reply ≡ 1 → (port : ℕ) × (from ≡ Some port) × TakesOne s mid port
  pub agrees : Agrees new (with_posted now mid owed)
  pub holders : HoldersAgree new
  pub carriers : CarriersAgree new
  pub slots : SlotsSuffice new
  pub requested : RequestsStand new
  pub notes : NotesSenders old new
  pub makes : MakesNoSends old new
  pub left : IsLeft new mid

-- It is answered so.
pub record IsReceipt (old : WorldView) (task : ℕ) (waited : Waited) (room : ℕ) (large : Bool) (from : Option ℕ) (reply : Reply) (new : WorldView) : Type 0 where
  pub receipt : (now : ℕ) (s : State) → Shows old s → ReceiptOf now old s task waited room large from reply new

-- The message at the front of a port that is taken from so has so many rights.
pub record Brings (old : WorldView) (waited : Waited) (rights : ℕ) : Type 0 where
  pub port : ℕ
  pub from : IsFrom old waited port
  pub message : Kept
  pub front : HasFront old port message
  pub count : rights ≡ length (carried_by message)

-- The receiver got a message, and this task is the receiver.
pub record TakesRights (old : WorldView) (receiver : ℕ) (waited : Waited) (reply : Reply) (task rights : ℕ) : Type 0 where
  pub is_receiver : task ≡ receiver
  pub bytes : List ℕ
  pub answer : reply ≡ Reply.Message bytes
  pub brings : Brings old waited rights

-- A task's room for names grows by one at most, from none, and the receiver's to as many as the rights of the message that it gets. The slot of a
-- message that is taken is spare again, and a spare slot goes with each send-once right that was unused and is no more: in it lies the notice for which
-- the right pays.
pub record FreesSlot (old : WorldView) (receiver : ℕ) (waited : Waited) (large : Bool) (reply : Reply) (new : WorldView) : Type 0 where
  pub rooms : (task : ℕ) → (number : ℕ) × ((number ≡ 1) ⊎ TakesRights old receiver waited reply task number) × (room_of new task ≤ max (room_of old task) number)
  pub slots : new.ports.spare ≤ old.ports.spare + taken_by large reply
  pub uses : new.ports.spare + old.ledger.unused ≤ old.ports.spare + new.ledger.unused + taken_by large reply

-- A message stays, for want of names or of memory.
pub record StaysFor (w : WorldView) (task : ℕ) (waited : Waited) (room code : ℕ) : Type 0 where
  pub refuses : (s : State) → Shows w s → ReceiptRefuses s task waited room code
