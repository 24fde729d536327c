-- What it means that a message is destroyed as too long (IPC Interface, `mach_msg` with MACH_RCV_MSG).
use Rattle.std.specs.Prelude.{◌≡◌, ◌≢◌, ℕ, ◌+◌}
use Rattle.mach_types.specs.declared.calls.Event.{Event}
use Rattle.mach_types.specs.Messages.{Entry}
use Rattle.mach_model.specs.State.{State}
use Rattle.mach_model.specs.ReceivedMeans.{message_length}
use Rattle.mach_model.specs.Receive.{IsFront}
use Rattle.mach_laws.specs.Received.{AsksFrom}

-- The event asks for a message, and the one in front of a port that it asked for is taken, and no other; it has so many bytes, and is
-- given to nobody.
pub record DestroysTooLong (event : Event) (n : ℕ) (old new : State) : Type 0 where
  pub task : ℕ
  pub port : ℕ
  pub asks : AsksFrom old event task port
  pub e : Entry
  pub front : IsFront old port e
  pub long : n ≡ message_length e.message
  pub taken : new.taken port ≡ old.taken port + 1
  pub others : (p : ℕ) → p ≢ port → new.taken p ≡ old.taken p
