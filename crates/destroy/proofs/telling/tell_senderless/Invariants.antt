use Rattle.std.specs.Prelude.{◌≡◌, length}
use Rattle.destroy.specs.Stages.{AreLost, Continues}
use Rattle.destroy.proofs.telling.tell_senderless.Given as goal

abbrev pub invariant-loop-port : goal.invariant-loop-port
invariant-loop-port l = Continues AreLost AreLost l.initial.world l.turns l.world × (l.world.spaces ≡ l.initial.world.spaces)

abbrev pub decreases-loop-port : goal.decreases-loop-port
decreases-loop-port l = length l.world.ports.noted
