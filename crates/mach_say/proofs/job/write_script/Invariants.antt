use Rattle.std.proofs.Common.{take}
use Rattle.std.specs.Prelude.{flat_map}
use Rattle.std.specs.Io.KnownBytes.{Appends}
use Rattle.mach_say.specs.Jobs.{script_line}
use Rattle.mach_say.proofs.job.write_script.Given as goal

-- the entries before this one are written
abbrev pub invariant-loop-entry : goal.invariant-loop-entry
invariant-loop-entry g l =
    Appends (g.W.Write.contents l.fn.out) (g.W.Write.contents l.out) (flat_map script_line (take l.entry-index l.fn.entries))
