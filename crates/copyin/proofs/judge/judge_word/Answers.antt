use Rattle.std.proofs.Common.{inl, inr}
use Rattle.copyin.proofs.Judging.{passes, goes_by_name, ok_as, err_as}
use Rattle.copyin.proofs.judge.judge_word.Goals as goal

pub returns-in-Some-clause-ok : goal.returns-in-Some-clause-ok
returns-in-Some-clause-ok c = λ now o. (now, passes now c.args.word c.unwrap-given.result c.in-Some.mark (cc) c.in-Some.ensures, o)

pub returns-in-None-clause-ok : goal.returns-in-None-clause-ok
returns-in-None-clause-ok c = ok_as c.judge_name.result _ _
    (λ d goes now o. let a = goes now o in (a.0, goes_by_name now c.args.word d a.0 c.in-None.ensures.0 c.in-None.ensures.1 a.1, a.2)) c.judge_name.ensures.ok

pub returns-in-None-clause-err : goal.returns-in-None-clause-err
returns-in-None-clause-err c = err_as c.judge_name.result _ _
    (λ code why. elim why [ inl h ↦ inl h | inr h ↦ inr (h.0, λ now o. (c.in-None.ensures.0, c.in-None.ensures.1, h.1 now o)) ]) c.judge_name.ensures.err
