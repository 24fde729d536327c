-- What the kernel of a follower shows once an entry was replayed whose reply it confirms.
use Rattle.std.specs.Prelude.{◌≡◌, ℕ}
use Rattle.mach_types.specs.declared.calls.Event.{Event}
use Rattle.mach_types.specs.declared.calls.Reply.{Reply}
use Rattle.mach_model.specs.State.{State}
use Rattle.mach_model.specs.Machine.{Step}
use Rattle.mach_model.specs.Refusals.{Refuses}
use Rattle.mach_laws.specs.Touching.{TouchesOnly}
use Rattle.copyin_base.specs.Shows.{Shows}
use Rattle.copyin_base.specs.Worlds.{WorldView}
use Rattle.kernel_core.specs.InTurn.{TakesByTurn}
use Rattle.kernel_core.specs.Kernels.{KernelView}

-- The reply is no code but 0.
abbrev pub IsNoRefusal : Reply → Type 0
IsNoRefusal reply = (code : ℕ) → reply ≡ Reply.Code code → code ≡ 0

-- The reply is a code by which the machine refuses the event in each state that the tables show.
pub record IsRefusal (w : WorldView) (event : Event) (reply : Reply) : Type 0 where
  pub code : ℕ
  pub told : reply ≡ Reply.Code code
  pub refuses : (s : State) → Shows w s → Refuses s event code

-- The reply is that the message was longer than the room.
abbrev pub IsTooLong : Reply → Type 0
IsTooLong (Reply.TooLarge n) = Unit {0}
IsTooLong reply = ⊥

-- From each state that the tables show before, a step of the machine with this event and reply leads to one that the kernel shows after. Where
-- it isn't refused, it changes what the kernel names alone. Where it destroys a message as too long, that is the one in front of the port, or of the
-- set's member whose turn it was.
abbrev pub Replays : (old : WorldView) → Event → Reply → (new : KernelView) → Type 0
Replays old event reply new = (now : ℕ) (s : State) → Shows old s →
    (t : State) × Step now s event reply t × Shows new.tables t × (IsNoRefusal reply → TouchesOnly s t new.touched) × (IsTooLong reply → TakesByTurn old event reply s t)
