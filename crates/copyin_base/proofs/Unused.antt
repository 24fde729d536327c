-- A task's send-once right is one that no queued message goes by.
use Rattle.std.proofs.Common.{◌≡◌, ℕ, ◌+◌, ◌<◌, ◌≤◌, Some, refl, arith, true}
use Rattle.std.proofs.lemmas.Bool.{eq-eqb}
use Rattle.mach_types.specs.Tokens.{send_once, count, is_of, is_held}
use Rattle.mach_model.specs.State.{State, Target, lookup, held, queue}
use Rattle.mach_model.specs.Lawful.{IsLawful, is_once}
use Rattle.mach_model.proofs.Names.{some_tally, left_of}
use Rattle.mach_model.proofs.Settling.{once_lives}
use Rattle.mach_model.proofs.SettledOnce.{are_apart, apart_count}
use Rattle.rights.specs.Ledger.{LedgerView, counts_of}
use Rattle.copyin_base.specs.Shows.{onces_queued, CountsAgree}

-- ---- in a state

module _ (s : State) (l : IsLawful s) (p : ℕ) (lives : s.live_port p ≡ true) where
  -- so many rights are with the task, and others go with queued messages
  pub held_and_queued : (task : ℕ) → held s task send_once p + onces_queued s p ≤ count (is_of send_once p) s.ledger
  held_and_queued task = apart_count p (is_held task send_once p) (λ x. left_of (is_of send_once p x) _) (s.taken p) (queue s p) s.ledger
      (λ i. grind arith) (are_apart s.live_port s.ports_made s.log s.taken s.ledger l.logs l.messages p lives)

pub once_unused : (s : State) → IsLawful s → (ledger : LedgerView) (task name p : ℕ) → CountsAgree ledger s.live_port s.ledger (onces_queued s) p → lookup s task name ≡ Some (Target.once p) →
    0 < (counts_of ledger p).send_once
once_unused s l ledger task name p c is =
    let some = some_tally (is_once p) (s.naming task) name (Target.once p) is (eq-eqb p p refl) in
    let names = (l.naming task).once_names p in
    let h = held_and_queued s l p (once_lives s l task name p is) task in
    let d = c.destinations (once_lives s l task name p is) in
    omega (arith, some, names, h, c.once_rights, d)
