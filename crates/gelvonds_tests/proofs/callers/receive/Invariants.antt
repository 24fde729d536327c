use Rattle.std.proofs.Common.{◌≡◌}
use Rattle.gelvonds_tests.proofs.callers.receive.Given as goal

abbrev pub invariant-loop : goal.invariant-loop
invariant-loop g l = l.pass.table ≡ l.fn.shared.table
