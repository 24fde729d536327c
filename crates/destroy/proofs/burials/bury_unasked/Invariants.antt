use Rattle.std.specs.FinMap as map
use Rattle.destroy.specs.Burying.{AsksNone}
use Rattle.destroy.specs.Stages.{AreTold, Continues, KeepsRooms}
use Rattle.destroy.proofs.burials.bury_unasked.Given as goal

abbrev pub invariant-loop-port : goal.invariant-loop-port
invariant-loop-port l = Continues AreTold AreTold l.fn.world 0 l.world × KeepsRooms l.fn.world l.world × AsksNone l.world

abbrev pub decreases-loop-port : goal.decreases-loop-port
decreases-loop-port l = map.len l.world.ports.ports
