use Rattle.std.proofs.Common.{◌≡◌}
use Rattle.destroy.specs.Judging.{remaining}
use Rattle.destroy.specs.Stages.{IsStarted, Continues}
use Rattle.destroy.proofs.judging.judge_ports.Given as goal

abbrev pub invariant-loop-port : goal.invariant-loop-port
invariant-loop-port l = Continues IsStarted IsStarted l.fn.world l.turns l.world × (l.world.spaces ≡ l.fn.world.spaces)

abbrev pub decreases-loop-port : goal.decreases-loop-port
decreases-loop-port l = remaining l.world
