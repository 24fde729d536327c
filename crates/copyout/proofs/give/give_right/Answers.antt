use Rattle.std.proofs.Common.{◌∙◌, sym}
use Rattle.copyout.proofs.PortsGiven.{can_give_port}
use Rattle.copyout.proofs.give.give_right.Goals as goal

pub give_port-requires : goal.give_port-requires
give_port-requires c = can_give_port c.args.world.now c.args.task c.args.carried.now c.in-Port.port c.in-Port.is (sym c.has_port.ensures ∙ c.if-has_port.true) c.requires
