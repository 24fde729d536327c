use Rattle.copyin.proofs.LoopFound.{moved_more}
use Rattle.copyin.proofs.loops.moved_ports.Goals as goal

pub loop-carried-preserved : goal.loop-carried-preserved
loop-carried-preserved c = moved_more c.args.rights.now c.loop-carried.carried-index c.carried-item.result c.loop-carried.moved.items c.add_moved.new.moved.items
    c.loop-carried-test.true c.carried-item.is c.loop-carried.invariant c.in_ok-add_moved.ensures
