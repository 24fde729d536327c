use Rattle.std.proofs.Common.{arith, refl}
use Rattle.kernel_core.proofs.Staying.{receivable_by, unfronted_by, fronted_by, not_queued}
use Rattle.kernel_core.proofs.memory.is_receivable.Goals as goal

pub is_receivable-requires-clause-waits : goal.is_receivable-requires-clause-waits
is_receivable-requires-clause-waits c =
    fronted_by c.args.world.now c.args.port c.args.world.now.ports refl c.queued.result c.queued.ensures.live c.queued.ensures.gone c.if-queued-gt0.true c.requires.stands

pub returns-then-queued-gt0 : goal.returns-then-queued-gt0
returns-then-queued-gt0 c =
    receivable_by c.args.world.now c.args.port c.args.world.now.ports refl c.queued.result c.queued.ensures.live c.queued.ensures.gone c.if-queued-gt0.true
    c.args.task c.args.room c.is_receivable.result c.is_receivable.ensures

pub returns-else-queued-gt0 : goal.returns-else-queued-gt0
returns-else-queued-gt0 c =
    let none = c.if-queued-gt0.false in
    not_queued c.queued.result (omega (arith, none)) (unfronted_by c.args.world.now c.args.port c.args.world.now.ports refl c.queued.result c.queued.ensures.live c.args.task c.args.room (omega (arith, none)))
