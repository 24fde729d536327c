-- A kernel as contracts see it, and the turns in which a step ends.
use Rattle.std.specs.Prelude.{◌≡◌, ℕ, ◌≤◌, ◌⊎◌, refl}
use Rattle.std.specs.Coded.{Coded, code_by, coded×, coded_ℕ}
use Rattle.mach_types.specs.declared.calls.Event.{Event}
use Rattle.mach_types.specs.declared.calls.Reply.{Reply}
use Rattle.mach_types.specs.declared.touched.Touched.{Touched}
use Rattle.mach_model.specs.State.{State}
use Rattle.mach_model.specs.Machine.{Refused, Done}
use Rattle.mach_model.specs.Notices.{Owed}
use Rattle.mach_model.specs.Work.{work_in, deaths, IsBounded}
use Rattle.copyin_base.specs.Shows.{Shows}
use Rattle.copyin_base.specs.Worlds.{WorldView}

pub record KernelView : Type 0 where
  pub tables : WorldView
  -- in how many turns the last step ended
  pub turns : ℕ
  -- which ports and sets it may have changed
  pub touched : Touched

abbrev pub kernel_code : Coded WorldView → Coded Touched → Coded KernelView
kernel_code world touched =
    code_by (WorldView × (ℕ × Touched)) (coded× world (coded× coded_ℕ touched)) (λ k. (k.tables, (k.turns, k.touched))) (λ x. record { tables = x.0; turns = x.1.0; touched = x.1.1 }) (λ _. refl)

-- So many turns are no more than there were rights, ports that live, and messages queued at them, together, before the step; no fewer than ports died in
-- it; and no more than what its end did.
pub record EndsInTurns (old mid : State) (owed : Owed) (new : State) (turns : ℕ) : Type 0 where
  pub most : turns ≤ work_in old
  pub least : deaths old new ≤ turns
  pub bounded : IsBounded mid owed new turns

-- A step that is refused ends in no turn; one that is done ends in so many.
abbrev pub TakesTurns : (old : WorldView) → Event → Reply → (new : WorldView) → (turns : ℕ) → Type 0
TakesTurns old event reply new turns = (now : ℕ) (s : State) → Shows old s →
    (t : State) × Shows new t × (Refused s event reply t × (turns ≡ 0) ⊎ ((d : Done now s event reply t) × EndsInTurns s d.mid d.owed t turns))
