use Rattle.std.proofs.Common.{◌≡◌}
use Rattle.mach_msg_threads.specs.Blocks.{Ran}
use Rattle.mach_msg_threads.proofs.block.run_block.Given as goal

abbrev pub invariant-loop-call : goal.invariant-loop-call
invariant-loop-call g l = (l.pass.table ≡ l.fn.shared.table) × Ran l.fn.block.pass l.yielded l.answers.items l.pass
