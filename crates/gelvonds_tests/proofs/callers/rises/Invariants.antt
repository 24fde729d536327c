use Rattle.std.proofs.Common.{◌≡◌}
use Rattle.gelvonds_tests.proofs.callers.rises.Given as goal

abbrev pub invariant-loop : goal.invariant-loop
invariant-loop l = l.watch.table ≡ l.fn.shared.table
