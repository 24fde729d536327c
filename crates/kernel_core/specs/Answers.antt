-- What a step promises.
use Rattle.std.specs.Prelude.{ℕ}
use Rattle.mach_types.specs.declared.calls.Event.{Event}
use Rattle.mach_types.specs.declared.calls.Reply.{Reply}
use Rattle.mach_model.specs.State.{State}
use Rattle.mach_model.specs.Machine.{Step}
use Rattle.copyin_base.specs.Worlds.{WorldView}
use Rattle.copyin_base.specs.Shows.{Shows}

-- From each state that the tables show before, a step of the machine with this event and reply leads to one that they show after.
abbrev pub Answers : (old : WorldView) → Event → Reply → (new : WorldView) → Type 0
Answers old event reply new = (now : ℕ) (s : State) → Shows old s → (t : State) × Step now s event reply t × Shows new t
