use Rattle.std.proofs.Common.{◌≡◌}
use Rattle.gelvonds_tests.proofs.callers.ask.Given as goal

abbrev pub invariant-loop-number : goal.invariant-loop-number
invariant-loop-number g l = l.pass.table ≡ l.fn.shared.table
