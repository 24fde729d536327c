use Rattle.copyin.proofs.Holding.{holds_next, holding_more}
use Rattle.copyin.proofs.carry_out.hold_rights.Goals as goal

pub hold_right-requires-clause-live : goal.hold_right-requires-clause-live
hold_right-requires-clause-live c =
    holds_next c.loop-carried.world c.args.rights.now c.loop-carried.carried-index c.carried-item.result c.loop-carried-test.true c.carried-item.is c.loop-carried.invariant.can

pub loop-carried-preserved : goal.loop-carried-preserved
loop-carried-preserved c = holding_more c.args.world.now c.loop-carried.world c.hold_right.new.world c.args.queue c.args.rights.now c.loop-carried.carried-index c.carried-item.result
    c.loop-carried-test.true c.carried-item.is c.loop-carried.invariant c.hold_right.ensures
