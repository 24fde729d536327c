use Rattle.std.proofs.Common.{◌≡◌}
use Rattle.copyin_base.specs.Worlds.{port_at}
use Rattle.destroy.specs.Judging.{Empties, remaining, queued_at}
use Rattle.destroy.proofs.judging.destroy_queue.Given as goal

abbrev pub invariant-loop-port : goal.invariant-loop-port
invariant-loop-port l = Empties l.fn.world l.fn.port l.turns l.world × (remaining l.world ≡ remaining l.fn.world) × (l.world.spaces ≡ l.fn.world.spaces)

abbrev pub decreases-loop-port : goal.decreases-loop-port
decreases-loop-port l = queued_at (port_at l.world l.fn.port)
