use Rattle.copyout.proofs.Counting.{needs_alone}
use Rattle.copyout.proofs.room.lone_names.Goals as goal

pub returns-in-Some : goal.returns-in-Some
returns-in-Some c = needs_alone c.args.world.now.ports c.args.space.now.names c.args.carried.now c.in-Some.field-0 c.in-Some.ensures
