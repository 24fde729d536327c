-- What it means that a step tells each notice that is due in it (IPC Interface, notifications).
use Rattle.std.specs.Prelude.{◌≡◌, ℕ, List, ◌++◌, filter, if◌then◌else◌, ◌==◌}
use Rattle.mach_types.specs.declared.calls.Event.{Event}
use Rattle.mach_types.specs.declared.calls.Reply.{Reply}
use Rattle.mach_types.specs.Messages.{Entry}
use Rattle.mach_model.specs.State.{State}
use Rattle.mach_model.specs.Notices.{Notice, notice_message}
use Rattle.mach_model.specs.Settles.{due_notices}
use Rattle.mach_model.specs.SameEnd.{sum}
use Rattle.mach_model.specs.Machine.{Done}

-- the weights of those of these notices that are due to the port, each weighed as the entry that step number now makes of it
abbrev pub due_weight : (now port : ℕ) → (Entry → ℕ) → List (ℕ × Notice) → ℕ
due_weight now p g due = sum (λ (y : ℕ × Notice). if p == y.0 then g (record { origin = now; message = notice_message p y.1 }) else 0) due

-- Behind what the step's own part left in each log stand the notices that are due to its port, each as often as it is due, and nothing
-- else. Due are those that were paid for at the step's end, and those owed to a port that lives after it.
pub record TellsAll (now : ℕ) (old : State) (event : Event) (reply : Reply) (new : State) (done : Done now old event reply new) : Type 0 where
  pub told : ℕ → List Entry
  pub logs : (p : ℕ) → new.log p ≡ done.mid.log p ++ told p
  pub each : (p : ℕ) (g : Entry → ℕ) →
      sum g (told p) ≡ due_weight now p g (due_notices (done.settles.rights.paying ++ filter (λ x. new.live_port x.0.port) done.owed))
