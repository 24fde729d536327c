use Rattle.kernel_core.proofs.Limited.{limit_tells}
use Rattle.kernel_core.proofs.memory.has_room_for.Goals as goal

pub returns : goal.returns
returns c = limit_tells c.args.world.now c.args.event.now c.has_room.result (rw c.sent_length.ensures at c.has_room.ensures)
