use Rattle.kernel_core.proofs.Receiving.{member_or_not}
use Rattle.kernel_core.proofs.receive.is_member.Goals as goal

pub returns : goal.returns
returns c = member_or_not c.args.world.now c.args.port c.attributes.result c.attributes.ensures c.is_some.result c.is_some.ensures
