use Rattle.std.proofs.Common.{take}
use Rattle.std.specs.Io.KnownBytes.{Appends}
use Rattle.tracer.specs.Histories.{history_text}
use Rattle.tracer.proofs.histories.write_history.Given as goal

-- the entries before this one are written
abbrev pub invariant-loop-entry : goal.invariant-loop-entry
invariant-loop-entry g l =
    Appends (g.W.Write.contents l.fn.out) (g.W.Write.contents l.out) (history_text l.fn.profile (take l.entry-index l.fn.entries))
