use Rattle.std.proofs.Common.{◌≡◌}
use Rattle.mach_bench.proofs.soak.make_tasks.Given as goal

abbrev pub invariant-loop : goal.invariant-loop
invariant-loop g l = l.pass.table ≡ l.fn.shared.table
