-- Where receive rights are, and which ports die (this project's own rules).
use Rattle.std.specs.Prelude.{◌≡◌, ℕ, ◌<◌, ◌⊎◌, Bool, true, false, ◌==◌, ◌&&◌}
use Rattle.mach_types.specs.Tokens.{Kind, receive, send_once, port_destroyed, Place, in_task, in_message, in_request, count, is_of}
use Rattle.mach_model.specs.State.{State, same_request}

-- ---- where a receive right is

abbrev pub same_place : Place → Place → Bool
same_place (in_task t) (in_task u) = t == u
same_place (in_message p k) (in_message q l) = p == q && k == l
same_place (in_request r) (in_request s) = same_request r s
same_place a b = false

-- a right of this kind for the port lies at the place
abbrev pub LiesAt : State → Kind → ℕ → Place → Type 0
LiesAt s kind p place = 0 < count (λ x. is_of kind p x && same_place place x.place) s.ledger

-- The first port's receive right lies in an entry of the second one's log.
abbrev pub CarriedAt : State → (port at : ℕ) → Type 0
CarriedAt s p q = (k : ℕ) × LiesAt s receive p (in_message q k)

-- ---- which ports die

-- a step's own part took the receive right and gave no new one
abbrev pub IsOrphan : State → ℕ → Type 0
IsOrphan mid p = (mid.live_port p ≡ true) × (count (is_of receive p) mid.ledger ≡ 0)

-- the port has a request to be sent away, to a port whose receive right lies with a task
pub record IsSaved (mid : State) (port : ℕ) : Type 0 where
  pub stands : mid.stands (port_destroyed port) ≡ true
  pub notify : ℕ
  pub kept : LiesAt mid send_once notify (in_request (port_destroyed port))
  pub task : ℕ
  pub with_task : LiesAt mid receive notify (in_task task)

-- The least set with each orphan, and with each port carried at a member, but for ports that are saved.
pub data Dies (mid : State) : ℕ → Type 0 where
  orphan : (p : ℕ) → IsOrphan mid p → ¬ (IsSaved mid p) → Dies mid p
  carried_at : (p q : ℕ) → Dies mid q → CarriedAt mid p q → ¬ (IsSaved mid p) → Dies mid p

-- a saved port that would have died
abbrev pub IsSentAway : State → ℕ → Type 0
IsSentAway mid p = IsSaved mid p × (IsOrphan mid p ⊎ ((q : ℕ) × Dies mid q × CarriedAt mid p q))
