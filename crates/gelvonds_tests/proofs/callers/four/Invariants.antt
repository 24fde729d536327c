use Rattle.std.proofs.Common.{◌≡◌, All}
use Rattle.gelvonds_tests.proofs.callers.four.Given as goal

abbrev pub invariant-loop : goal.invariant-loop
invariant-loop g l = All (λ p. p.table ≡ l.fn.shared.table) l.passes.items
