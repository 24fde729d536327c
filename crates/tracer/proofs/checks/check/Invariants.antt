use Rattle.std.proofs.Common.{◌≡◌, take}
use Rattle.kernel_lock.specs.Replays.{Replays}
use Rattle.tracer.proofs.checks.check.Given as goal

-- the entries before this one are confirmed
abbrev pub invariant-loop-entry : goal.invariant-loop-entry
invariant-loop-entry l = Replays l.fn.history.profile (take l.entry-index l.entry-items) l.kernel × (l.number ≡ l.entry-index)
