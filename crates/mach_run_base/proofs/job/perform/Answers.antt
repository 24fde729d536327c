use Rattle.std.proofs.Common.{rules, ◌∙◌, Ok, ap}
use Rattle.mach_run_base.proofs.HistoryLemmas.{one-left}
use Rattle.mach_run_base.proofs.job.perform.Goals as goal

pub returns-in-Ok-clause-bad : goal.returns-in-Ok-clause-bad
returns-in-Ok-clause-bad g c =
    λ bytes n known bad.
    let refused = c.start.ensures.bad bytes n known bad in
    (one-left c.in-Ok.status c.in-Ok.ensures.status (λ none. refused.0 (c.in-Ok.is ∙ ap Ok none)), refused.1)

pub returns-in-Err-clause-bad : goal.returns-in-Err-clause-bad
returns-in-Err-clause-bad g c =
    λ bytes n known bad.
    let refused = c.start.ensures.bad bytes n known bad in
    (search rules, refused.1)
