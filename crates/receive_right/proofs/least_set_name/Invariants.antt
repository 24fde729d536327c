use Rattle.std.proofs.Common.{◌≡◌, Some, length}
use Rattle.port.specs.Ports.{PortView, sets_in}
use Rattle.copyin_base.specs.Kept.{Kept}
use Rattle.copyin_base.specs.Worlds.{port_at}
use Rattle.receive_right.specs.Status.{least_name}
use Rattle.receive_right.proofs.Status.{with_least}
use Rattle.receive_right.proofs.least_set_name.Given as goal

abbrev pub invariant-loop-set : goal.invariant-loop-set
invariant-loop-set l = (v : PortView Kept) → port_at l.fn.world l.fn.port ≡ Some v → with_least l.fn.world.sets l.least l.sets ≡ least_name l.fn.world.sets (sets_in v)

abbrev pub decreases-loop-set : goal.decreases-loop-set
decreases-loop-set l = length l.sets
