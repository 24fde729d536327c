-- What a step promises of the ports and sets that it may have changed.
use Rattle.std.specs.Prelude.{◌≡◌, ◌≢◌, ℕ, [], ◌∷◌, None}
use Rattle.mach_types.specs.declared.calls.Event.{Event}
use Rattle.mach_types.specs.declared.calls.Reply.{Reply}
use Rattle.mach_types.specs.declared.touched.Touched.{Touched}
use Rattle.mach_types.specs.declared.touched.Touched.TheVariants.{Few}
use Rattle.mach_model.specs.State.{State}
use Rattle.mach_model.specs.Machine.{Step}
use Rattle.mach_laws.specs.Touching.{TouchesOnly}
use Rattle.copyin_base.specs.Shows.{Shows}
use Rattle.copyin_base.specs.Worlds.{WorldView}
use Rattle.kernel_core.specs.InTurn.{TakesByTurn}

-- From each state that the tables show before, a step of the machine with this event and reply leads to one that they show after. It changes what is
-- covered alone, and takes its message by turn.
abbrev pub Touches : (old : WorldView) → Event → Reply → (new : WorldView) → Touched → Type 0
Touches old event reply new touched = (now : ℕ) (s : State) → Shows old s →
    (t : State) × Step now s event reply t × Shows new t × TouchesOnly s t touched × TakesByTurn old event reply s t

-- A refusal, which has a code that isn't 0, touches no port and no set.
abbrev pub RefusalTouchesNone : Reply → Touched → Type 0
RefusalTouchesNone reply touched = (code : ℕ) → reply ≡ Reply.Code code → code ≢ 0 → touched ≡ Few (None ∷ None ∷ None ∷ None ∷ [])
