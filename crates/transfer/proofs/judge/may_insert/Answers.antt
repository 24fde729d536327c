use Rattle.transfer.proofs.Results.{if_err}
use Rattle.transfer.proofs.Going.{none_goes_inserted}
use Rattle.transfer.proofs.judge.may_insert.Goals as goal

pub returns-clause-err : goal.returns-clause-err
returns-clause-err c = if_err c.find_going.result _ _ c.find_going.ensures.err (λ code r.
    none_goes_inserted c.args.world.now c.args.to.now.task c.args.to.now.name c.args.from.now.task c.args.from.now.name c.args.number c.in_ok-check_name.ensures.ok c.in_ok-given.given c.in_ok-given.ensures.ok
    c.in_ok-check_name-2.ensures.ok _ (r c.args.number c.in_ok-given.ensures.ok))
