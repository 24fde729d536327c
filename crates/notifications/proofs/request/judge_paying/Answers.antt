use Rattle.std.proofs.Common.{◌∙◌}
use Rattle.notifications.proofs.RequestJudged.{none_pays}
use Rattle.notifications.proofs.request.judge_paying.Goals as goal

pub returns-in-None-clause-err : goal.returns-in-None-clause-err
returns-in-None-clause-err c = ((λ e. c.if-number-eq0.false (c.number.ensures ∙ e)), none_pays c.args.world.now c.args.task c.args.asked.now.notify c.args.asked.now.disposition c.given_by.result c.given_by.ensures.given c.in-None.ensures.none)
