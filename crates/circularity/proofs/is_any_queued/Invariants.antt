use Rattle.std.proofs.Common.{ℕ, ◌<◌, get_or}
use Rattle.port.specs.Holding.{IsHeldBy}
use Rattle.port.specs.declared.Holder.TheVariants.{QueueOf}
use Rattle.circularity.proofs.is_any_queued.Given as goal

abbrev pub invariant-loop-port : goal.invariant-loop-port
invariant-loop-port g l = (k : ℕ) → k < l.port-index → (queue : ℕ) → ¬ (IsHeldBy l.ports.bare (get_or l.carried k 0) (QueueOf queue))
