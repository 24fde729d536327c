use Rattle.std.proofs.Common.{◌≡◌, ◌+◌, length, flat_map}
use Rattle.std.specs.Io.KnownBytes.{Consumes}
use Rattle.tracer_base.specs.Blocks.{said_line}
use Rattle.mach_run_base.specs.Scripts.{IsScript, said_script}
use Rattle.mach_run_base.proofs.reading.read_lines.Given as goal

-- what is read so far is the lines of the script, and this line's number is one more than theirs
abbrev pub invariant-loop-number : goal.invariant-loop-number
invariant-loop-number g l =
    IsScript (said_script l.script) × Consumes (g.B.Read.remaining l.fn.reader) (g.B.Read.remaining l.reader) (flat_map said_line (said_script l.script))
    × (length (said_script l.script) + 1 ≡ l.number)
