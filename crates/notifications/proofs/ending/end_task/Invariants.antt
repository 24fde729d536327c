use Rattle.std.specs.Prelude.{◌-◌, ◌^◌}
use Rattle.notifications.proofs.NameLost.{IsGoneOver}
use Rattle.notifications.proofs.ending.end_task.Given as goal

-- what the names below stood for is lost, and only slots for that were used
abbrev pub invariant-loop-named : goal.invariant-loop-named
invariant-loop-named l = IsGoneOver l.fn.world l.task l.from l.world

abbrev pub decreases-loop-named : goal.decreases-loop-named
decreases-loop-named l = 2 ^ 32 - l.from
