use Rattle.kernel_core.proofs.Pairing.{pair_told}
use Rattle.kernel_core.proofs.kernel.leave_set.Goals as goal

pub returns-clause-tells : goal.returns-clause-tells
returns-clause-tells c = pair_told c.args.world.now c.args.task c.args.member c.args.set c.in_ok-pair.pair c.in_ok-pair.ensures.tells
