-- What is told of a step while it is done.
use Rattle.std.specs.Prelude.{◌≡◌, ℕ, Option, Bool, if◌then◌else◌}
use Rattle.mach_types.specs.declared.calls.Event.{Event}
use Rattle.mach_types.specs.declared.calls.Reply.{Reply}
use Rattle.copyin_base.specs.Worlds.{WorldView, IsIdle}
use Rattle.kernel_change.specs.declared.change.Change.{Change}
use Rattle.kernel_change.specs.Changing.{by_message, by_too_long, by_receipt, Changes}
use Rattle.message_send.specs.Telling.{TellsSend}
use Rattle.kernel_core.specs.InTurn.{source}

-- by the reply to a receipt: a message that is destroyed as too long is told of
abbrev pub by_length : WorldView → (large : Bool) → (from : Option ℕ) → Reply → (told : Change) → Change
by_length w large from (Reply.TooLarge n) told = if large then told else by_too_long w from
by_length w large from reply told = told

-- and one that is received
abbrev pub with_message : (task : ℕ) → Reply → (told : Change) → Change
with_message task (Reply.Message bytes) told = by_message task bytes
with_message task reply told = told

-- What is told of a call with this reply: of a send by where it went, of a receive by where it took from and by its reply, of each other call by the
-- tables before it.
abbrev pub TellsChange : WorldView → Event → Reply → (told : Change) → Type 0
TellsChange w (Event.Send task bytes) reply told = TellsSend w task bytes told
TellsChange w (Event.Receive task name room large) reply told = told ≡ by_receipt w task large (source w (Event.Receive task name room large)) reply
TellsChange w (Event.ReceiveAgain task waited room large) reply told = told ≡ by_receipt w task large (source w (Event.ReceiveAgain task waited room large)) reply
TellsChange w event reply told = Changes w event told

-- The end of a step had nothing to do: it left the tables, and what is told.
pub record EndsIdle (w : WorldView) (told ends : Change) (new : WorldView) : Type 0 where
  pub idle : IsIdle w
  pub same : new ≡ w
  pub told_is : ends ≡ told
