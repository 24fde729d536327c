use Rattle.std.proofs.Common.{◌≡◌}
use Rattle.mach_bench.proofs.soak.end_tasks.Given as goal

abbrev pub invariant-loop-task : goal.invariant-loop-task
invariant-loop-task g l = l.pass.table ≡ l.fn.shared.table
