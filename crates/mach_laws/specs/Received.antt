-- What it means that a message is received, and that it is one that was sent or a notice (IPC Interface, `mach_msg` with MACH_RCV_MSG).
use Rattle.std.specs.Prelude.{◌≡◌, ◌≢◌, ℕ, ◌+◌, ◌<◌, ◌⊎◌, List, length, slice_get, Some, ◌%◌, ◌^◌}
use Rattle.mach_types.specs.declared.calls.Event.{Event}
use Rattle.mach_types.specs.declared.calls.Reply.{Reply}
use Rattle.mach_types.specs.declared.calls.Waited.{Waited}
use Rattle.mach_types.specs.Messages.{Message, Entry, asof}
use Rattle.mach_model.specs.State.{State}
use Rattle.mach_model.specs.SentMeans.{SentMeans}
use Rattle.mach_model.specs.ReceivedMeans.{ReceivedMeans}
use Rattle.mach_model.specs.Receive.{waits_for, TakesFrom, IsFront}
use Rattle.mach_laws.specs.Paths.{Stage}
use Rattle.mach_laws.specs.Notices.{IsToldBy}

-- The event asks for a message for the task, and may take one from the port: a receive by what its name stands for, or a later try by
-- what it waited for.
abbrev pub AsksFrom : State → Event → (task port : ℕ) → Type 0
AsksFrom s (Event.Receive caller name room large) task p =
    (caller ≡ task) × (waited : Waited) × waits_for task name s waited × TakesFrom s task waited p
AsksFrom s (Event.ReceiveAgain caller waited room large) task p = (caller ≡ task) × TakesFrom s task waited p
AsksFrom s event task p = ⊥

-- The bytes go to the task that asks: through its names after the step they mean the message in front of a port that it asked for, but
-- that rights for dead ports are dead. That message is taken, and no other. The port's sequence number goes on by one.
pub record Delivers (event : Event) (bytes : List ℕ) (old new : State) : Type 0 where
  pub task : ℕ
  pub port : ℕ
  pub asks : AsksFrom old event task port
  pub e : Entry
  pub front : IsFront old port e
  pub means : ReceivedMeans task old new bytes (asof new.live_port e.message)
  pub taken : new.taken port ≡ old.taken port + 1
  pub next : new.sequence port ≡ (old.sequence port + 1) % 2 ^ 32
  pub others : (p : ℕ) → p ≢ port → new.taken p ≡ old.taken p

-- The stage is a send, answered with 0, whose bytes mean this message for the port.
pub record IsSentBy (x : Stage) (port : ℕ) (m : Message) : Type 0 where
  pub sender : ℕ
  pub sent : List ℕ
  pub event : x.event ≡ Event.Send sender sent
  pub reply : x.reply ≡ Reply.Code 0
  pub meant : SentMeans (x.before.naming sender) sent m
  pub here : m.destination ≡ port

-- The entry came to this place of the port's log by the stage that is its origin: a send that was accepted for the port, or a step in
-- which the notice was due.
abbrev pub CameBy : List Stage → (port place : ℕ) → Entry → Type 0
CameBy path p place e = (x : Stage) × (slice_get path e.origin ≡ Some x)
    × (IsSentBy x p e.message × (place ≡ length (x.before.log p)) ⊎ IsToldBy e.origin x.before x.event x.reply x.after p place e)

-- The bytes that stage number k gives to the task that asks are an entry that came by an earlier stage. They mean through the receiver's
-- names what the sender's bytes meant through the sender's names when they were sent, or the notice. A right for a port that is dead by
-- then is dead.
pub record GivesWhatCame (path : List Stage) (k : ℕ) (bytes : List ℕ) (receiving : Stage) : Type 0 where
  pub delivers : Delivers receiving.event bytes receiving.before receiving.after
  pub open delivers use *
  pub earlier : delivers.e.origin < k
  pub came : CameBy path delivers.port (receiving.before.taken delivers.port) delivers.e
