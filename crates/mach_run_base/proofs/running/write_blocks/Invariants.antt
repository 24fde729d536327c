use Rattle.std.proofs.Common.{take, All}
use Rattle.std.specs.Io.KnownBytes.{Appends}
use Rattle.mach_run_base.specs.Callers.{IsRecorded}
use Rattle.mach_run_base.specs.Output.{block_texts}
use Rattle.mach_run_base.proofs.running.write_blocks.Given as goal

-- the blocks before this one are written, and their calls were recorded
abbrev pub invariant-loop-place : goal.invariant-loop-place
invariant-loop-place g l = Appends (g.W.Write.contents l.fn.out) (g.W.Write.contents l.out) (block_texts (λ one. one.1.items) (take l.place l.numbers) (take l.place l.ran))
    × All (λ one. All IsRecorded one.1.items) (take l.place l.ran)
