use Rattle.std.proofs.Common.{◌++◌, take, flat_map, All}
use Rattle.std.specs.Io.KnownBytes.{Appends}
use Rattle.tracer_base.specs.Blocks.{thread_line}
use Rattle.mach_run_base.specs.Callers.{IsRecorded}
use Rattle.mach_run_base.specs.Output.{answer_line}
use Rattle.mach_run_base.proofs.running.write_block.Given as goal

-- the number and the answers before this one are written, and tell of calls that were recorded
abbrev pub invariant-loop-answer : goal.invariant-loop-answer
invariant-loop-answer g l = Appends (g.W.Write.contents l.fn.out) (g.W.Write.contents l.out) (thread_line l.number ++ flat_map answer_line (take l.answer-index l.answers))
    × All IsRecorded (take l.answer-index l.answers)
