use Rattle.copyout.proofs.Rooms.{room_for_none}
use Rattle.copyout.proofs.receipt.make_room.Goals as goal

pub returns-then-needed-eq0-clause-ok : goal.returns-then-needed-eq0-clause-ok
returns-then-needed-eq0-clause-ok c = room_for_none c.args.world.now c.args.task c.args.needed c.requires c.if-needed-eq0.true
