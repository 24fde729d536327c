use Rattle.std.specs.Prelude.{◌≡◌, length}
use Rattle.destroy.specs.Stages.{IsJudged, Continues}
use Rattle.destroy.proofs.losing.lose_messages.Given as goal

abbrev pub invariant-loop-queued : goal.invariant-loop-queued
invariant-loop-queued l = Continues IsJudged IsJudged l.initial.world l.turns l.world × (l.world.spaces ≡ l.initial.world.spaces)

abbrev pub decreases-loop-queued : goal.decreases-loop-queued
decreases-loop-queued l = length l.world.ports.destroyed
