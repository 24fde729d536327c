use Rattle.std.specs.Prelude.{take}
use Rattle.kernel_core_base.specs.Gathered.{AreGathered}
use Rattle.kernel_core_base.proofs.sets.gather.Given as goal

abbrev pub invariant-loop-port : goal.invariant-loop-port
invariant-loop-port l = AreGathered l.world l.set l.space.names (take l.port-index l.ports) l.numbers
