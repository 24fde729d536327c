-- Where a receipt wants memory, and what it leaves of what is kept for names and messages to come.
use Rattle.std.specs.Prelude.{◌≡◌, ◌≢◌, ℕ, ◌+◌, ◌<◌, ◌≤◌, ◌⊎◌, true, length, max}
use Rattle.copyin_base.specs.Kept.{Kept}
use Rattle.copyin_base.specs.Wanted.{room_of}
use Rattle.copyin_base.specs.Worlds.{WorldView}
use Rattle.copyout.specs.Giving.{LackRoom}
use Rattle.copyout.specs.Ready.{HasFront, carried_by}

-- so many names are kept without memory while the rights of a body are given
abbrev pub inline_names : ℕ
inline_names = 8

-- The message carries more than 8 rights in its body, or is a notice, whose bytes are to be made.
abbrev pub WantsToPrepare : Kept → Type 0
WantsToPrepare m = (inline_names < length m.rights) ⊎ (m.told ≡ true)

-- The port's front message is so, or needs more names than there is room for.
pub record WantsToReceive (w : WorldView) (task port : ℕ) : Type 0 where
  pub front : Kept
  pub waits : HasFront w port front
  pub wanted : WantsToPrepare front ⊎ LackRoom w task (carried_by front)

-- The task has room for no more names than it had, or than the port's front message has rights, and no other for more than it had. One slot more is
-- spare: that of the message.
pub record ReturnsSlot (old : WorldView) (task port : ℕ) (new : WorldView) : Type 0 where
  pub front : Kept
  pub waits : HasFront old port front
  pub room : room_of new task ≤ max (room_of old task) (length (carried_by front))
  pub others : (other : ℕ) → other ≢ task → room_of new other ≤ room_of old other
  pub slots : new.ports.spare ≡ old.ports.spare + 1
