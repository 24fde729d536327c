use Rattle.std.proofs.Common.{◌++◌, take, flat_map}
use Rattle.std.specs.Io.KnownBytes.{Appends}
use Rattle.mach_run_base.specs.Jobs.{head_shown, entry_shown}
use Rattle.mach_run_base.proofs.job.write_history.Given as goal

-- the entries before this one are written
abbrev pub invariant-loop-entry : goal.invariant-loop-entry
invariant-loop-entry g l = Appends (g.W.Write.contents l.fn.out) (g.W.Write.contents l.out) (head_shown l.fn.layout.profile l.fn.layout.warn ++ flat_map (entry_shown l.fn.layout.warn) (take l.entry-index l.entries))
