-- A run, stage by stage: laws that speak of two of its steps are said over these (this project's own).
use Rattle.std.specs.Prelude.{◌≡◌, ℕ, ◌+◌, List, [], ◌∷◌}
use Rattle.mach_types.specs.declared.profiles.Profile.{Profile}
use Rattle.mach_types.specs.declared.calls.Event.{Event}
use Rattle.mach_types.specs.declared.calls.Reply.{Reply}
use Rattle.mach_model.specs.State.{State, opening_in}
use Rattle.mach_model.specs.Acts.{Acts}

-- An event in the state before it, its reply, and the state after it.
pub record Stage : Type 0 where
  pub before : State
  pub event : Event
  pub reply : Reply
  pub after : State

-- The stages are such steps, numbered from now, each from where the one before ended. They lead from the old state to the new one.
abbrev pub PathBy : (ℕ → State → Event → Reply → State → Type 0) → (now : ℕ) → State → List Stage → State → Type 0
PathBy step now old [] new = new ≡ old
PathBy step now old (x ∷ xs) new = (x.before ≡ old) × step now x.before x.event x.reply x.after × PathBy step (now + 1) x.after xs new

-- The stages lead from nothing to the state: number k is the stage at k. Each does what a step may do (`Acts`).
abbrev pub Path : Profile → List Stage → State → Type 0
Path profile path s = PathBy Acts 0 (opening_in profile) path s
