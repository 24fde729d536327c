use Rattle.std.proofs.Common.{◌≡◌}
use Rattle.gelvonds_tests.proofs.callers.join_all.Given as goal

abbrev pub invariant-loop-handle : goal.invariant-loop-handle
invariant-loop-handle g l = l.watch.table ≡ l.fn.shared.table
