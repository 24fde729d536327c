use Rattle.std.proofs.Common.{refl}
use Rattle.kernel_core.proofs.InTurn.{set_first}
use Rattle.kernel_core.proofs.Ready.{port_ready, member_ready}
use Rattle.kernel_core.proofs.receive.ready.Goals as goal

pub returns-in-Port-clause-ready : goal.returns-in-Port-clause-ready
returns-in-Port-clause-ready c = port_ready c.args.world.now c.args.world.now.ports c.args.waited.now c.in-Port.port c.queued.result
    refl c.in-Port.is c.queued.ensures.live c.queued.ensures.gone c.if-queued-gt0.true

pub returns-in-Set-clause-ready : goal.returns-in-Set-clause-ready
returns-in-Set-clause-ready c = member_ready c.args.world.now c.args.world.now.ports c.args.waited.now c.in-Set.set c.ready_member.result
    refl c.in-Set.is c.ready_member.ensures.some c.ready_member.ensures.none

pub returns-in-Set-clause-first : goal.returns-in-Set-clause-first
returns-in-Set-clause-first c = set_first c.args.world.now c.args.world.now.ports c.in-Set.set c.ready_member.result c.args.waited.now refl c.in-Set.is c.ready_member.ensures.first
