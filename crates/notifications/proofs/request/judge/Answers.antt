use Rattle.std.proofs.lemmas.Result.{err_from_is_err_and}
use Rattle.notifications.proofs.Requested.{unfit_at, full_at}
use Rattle.notifications.proofs.RequestJudged.{incapable}
use Rattle.notifications.proofs.request.judge.Goals as goal

pub returns-in_err-paying-clause-err : goal.returns-in_err-paying-clause-err
returns-in_err-paying-clause-err c =
    let p = err_from_is_err_and c.from_residual-in_err-paying.result c.from_residual-in_err-paying.ensures.1 in
    let err = c.in_err-paying.ensures.err in
    rw (p.1, p.2) (incapable c.args.world.now c.args.task c.args.name c.args.asked.now c.requires.there c.in_ok-variant.ensures.ok.1 _ err.0 err.1)

pub returns-in_err-subject-clause-err : goal.returns-in_err-subject-clause-err
returns-in_err-subject-clause-err c =
    let p = err_from_is_err_and c.from_residual-in_err-subject.result c.from_residual-in_err-subject.ensures.1 in
    rw (p.1, p.2) (unfit_at c.args.world.now c.args.task c.args.name c.args.asked.now c.requires.there c.in_ok-variant.variant c.in_ok-variant.ensures.ok c.in_ok-paying.paying c.in_ok-paying.ensures.ok
    c.entry_then-entry.result c.entry_then-entry.ensures _ c.in_err-subject.ensures.err)

pub returns-in_err-judge_space-clause-err : goal.returns-in_err-judge_space-clause-err
returns-in_err-judge_space-clause-err c =
    let p = err_from_is_err_and c.from_residual-in_err-judge_space.result c.from_residual-in_err-judge_space.ensures.1 in
    let err = c.in_err-judge_space.ensures.err in
    rw (p.1, p.2, err.0) (full_at c.args.world.now c.args.task c.args.name c.args.asked.now c.requires.there c.in_ok-variant.variant c.in_ok-variant.ensures.ok c.in_ok-paying.paying c.in_ok-paying.ensures.ok
    c.entry_then-entry.result c.entry_then-entry.ensures c.in_ok-subject.subject c.in_ok-subject.ensures.ok c.previous_of-previous.result c.previous_of-previous.ensures err.1)
