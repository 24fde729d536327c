use Rattle.std.proofs.Common.{◌≡◌, All}
use Rattle.mach_bench.proofs.soak.run_threads.Given as goal

abbrev pub invariant-loop-index : goal.invariant-loop-index
invariant-loop-index g l = All (λ block. block.pass.table ≡ l.fn.shared.table) l.blocks.items
