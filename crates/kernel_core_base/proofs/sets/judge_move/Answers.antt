use Rattle.std.proofs.Common.{◌≡◌, arith}
use Rattle.kernel_core_base.proofs.sets.judge_move.Goals as goal

pub returns-then-number-eq0-clause-err : goal.returns-then-number-eq0-clause-err
returns-then-number-eq0-clause-err c =
    let zero : c.args.after ≡ 0 = grind (arith, c.number.ensures, c.if-number-eq0.true) in rw zero c.judge_leaving.ensures.err
