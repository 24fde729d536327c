-- What the laws of the machine say of the next step of a run.
use Rattle.std.specs.Prelude.{◌≡◌, ◌≢◌, ℕ, ◌<◌, ◌≤◌, false, List, [], ◌∷◌, ◌++◌, length}
use Rattle.mach_types.specs.declared.calls.Event.{Event}
use Rattle.mach_types.specs.declared.calls.Reply.{Reply}
use Rattle.mach_types.specs.declared.profiles.Profile.{Profile}
use Rattle.mach_model.specs.State.{State}
use Rattle.mach_model.specs.Lawful.{IsLawful}
use Rattle.mach_laws.specs.Paths.{Stage}
use Rattle.mach_laws.specs.JudgedPaths.{JudgedPath}
use Rattle.mach_laws.specs.Received.{Delivers}
use Rattle.mach_laws.specs.Delivered.{DestroysTooLong}
use Rattle.mach_laws.specs.Looks.{IsLook}

-- the path with one stage more
abbrev pub with_stage : List Stage → State → Event → Reply → State → List Stage
with_stage path s event reply t = path ++ record { before = s; event = event; reply = reply; after = t } ∷ []

-- No message is taken.
abbrev pub TakesNone : (s t : State) → Type 0
TakesNone s t = (p : ℕ) → t.taken p ≡ s.taken p

-- What is taken, by the reply.
abbrev pub TakesBy : (s : State) → Event → Reply → (t : State) → Type 0
TakesBy s event (Reply.Message bytes) t = Delivers event bytes s t
TakesBy s event (Reply.TooLarge n) t = (¬ (IsLook event (Reply.TooLarge n)) → DestroysTooLong event n s t) × (IsLook event (Reply.TooLarge n) → TakesNone s t)
TakesBy s event (Reply.Code code) t = (code ≢ 0 → t ≡ s) × TakesNone s t
TakesBy s event reply t = TakesNone s t

-- The step leads on: logs grow, messages are taken by the reply alone, and a port that was made and is dead stays dead.
pub record GoesOn (profile : Profile) (path : List Stage) (s : State) (event : Event) (reply : Reply) (t : State) : Type 0 where
  pub path_then : JudgedPath profile (with_stage path s event reply t) t
  pub lawful : IsLawful s
  pub lawful_then : IsLawful t
  pub logs : (p : ℕ) → length (s.log p) ≤ length (t.log p)
  pub takes : TakesBy s event reply t
  pub dead : (p : ℕ) → p < s.ports_made → s.live_port p ≡ false → t.live_port p ≡ false
