-- Handing a right from a task to another (Port Manipulation Interface, `mach_port_insert_right` and `mach_port_extract_right`).
use Rattle.std.specs.Prelude.{◌≡◌, ◌≢◌, ℕ, ◌⊎◌, List, [], ◌∷◌, None, if◌then◌else◌, nat_lt}
use Rattle.mach_types.specs.Numbers.{kind_sent, kind_number, most_references}
use Rattle.mach_types.specs.Tokens.{Kind, send, send_once, in_task, Token, token, Moves}
use Rattle.mach_types.specs.Messages.{to_port}
use Rattle.mach_model.specs.State.{State, Target, lookup, held, with_name}
use Rattle.mach_model.specs.CopyIn.{CopyRight}
use Rattle.mach_model.specs.CopyOut.{NamedFor}

-- what a name of the right stands for
abbrev pub target_for : Kind → (port : ℕ) → Target
target_for send_once p = Target.once p
target_for kind p = Target.port p

-- ---- into a task, under a name that the caller gives

-- The right is copied in and put under this name of the task: one that it has already, or an unused one.
pub record Inserts (task name from poly number : ℕ) (old mid : State) : Type 0 where
  pub p : ℕ
  pub copied : State
  pub copy : CopyRight from (in_task task) number poly old (to_port p) copied
  pub named : (lookup copied task name ≢ None) × (mid ≡ copied)
      ⊎ (lookup copied task name ≡ None) × (mid ≡ with_name task name (target_for (kind_sent copy.given) p) copied)

-- ---- to a task, under the name that a received right would get

-- a send right that came out beyond the most references goes
abbrev pub pegged : (task port : ℕ) → State → List Token
pegged task p s = if nat_lt most_references (held s task send p) then token send p (in_task task) ∷ [] else []

-- The right is copied in, and comes out with the other task.
pub record Extracts (task name number to new_name kind : ℕ) (old mid : State) : Type 0 where
  pub p : ℕ
  pub copied : State
  pub copy : CopyRight task (in_task to) number name old (to_port p) copied
  pub kind_is : kind ≡ kind_number (kind_sent copy.given)
  pub named_state : State
  pub named : NamedFor (kind_sent copy.given) to new_name p copied named_state
  pub rest : mid ≡ record named_state { ledger = mid.ledger }
  pub tokens : Moves copied.ledger mid.ledger (pegged to p copied) []
