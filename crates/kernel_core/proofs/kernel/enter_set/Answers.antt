use Rattle.std.proofs.lemmas.Result.{err_from_is_err_and}
use Rattle.kernel_core.proofs.Pairing.{pair_told}
use Rattle.kernel_core.proofs.kernel.enter_set.Goals as goal

pub returns-clause-tells : goal.returns-clause-tells
returns-clause-tells c = pair_told c.args.world.now c.args.task c.args.member c.args.set c.in_ok-pair.pair c.in_ok-pair.ensures.tells

pub returns-in_err-pair-clause-wanted : goal.returns-in_err-pair-clause-wanted
returns-in_err-pair-clause-wanted c =
    let p = err_from_is_err_and c.from_residual.result c.from_residual.ensures.1 in
    rw (p.1, p.2) c.in_err-pair.ensures.wanted
