-- Chains of receive rights that end at a task, and sets that are closed under death: for laws alone (this project's own).
use Rattle.std.specs.Prelude.{ℕ}
use Rattle.mach_types.specs.Tokens.{receive, in_task}
use Rattle.mach_model.specs.State.{State}
use Rattle.mach_model.specs.Death.{LiesAt, IsOrphan, CarriedAt, IsSaved}

-- Following ends at a task.
pub data IsGrounded (s : State) : ℕ → Type 0 where
  at_task : (p task : ℕ) → LiesAt s receive p (in_task task) → IsGrounded s p
  carried : (p q : ℕ) → CarriedAt s p q → IsGrounded s q → IsGrounded s p

-- Dies is contained in each set that is closed in this way.
pub record IsClosed (mid : State) (S : ℕ → Type 0) : Type 0 where
  pub orphans : (p : ℕ) → IsOrphan mid p → ¬ (IsSaved mid p) → S p
  pub carried : (p q : ℕ) → S q → CarriedAt mid p q → ¬ (IsSaved mid p) → S p
