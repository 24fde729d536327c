use Rattle.std.proofs.Common.{ℕ, List, length}
use Rattle.shared_lists.specs.Shared.{more_of}
use Rattle.port_base.proofs.Settled.{IsLeaving}
use Rattle.port_base.proofs.moves.leave_further.Given as goal

abbrev pub invariant-loop-set : goal.invariant-loop-set
invariant-loop-set l = record {
  gone : List ℕ;
  out : IsLeaving l.fn.sets l.key l.is_ready gone l.sets;
}

abbrev pub decreases-loop-set : goal.decreases-loop-set
decreases-loop-set l = length (more_of l.sets l.key)
