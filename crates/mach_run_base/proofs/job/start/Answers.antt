use Rattle.std.proofs.Common.{subst, sym}
use Rattle.mach_run_base.specs.declared.job.Job.{Job}
use Rattle.mach_run_base.specs.Jobs.{IsBad, IsDone}
use Rattle.mach_run_base.proofs.HistoryLemmas.{checked-status, checked-done, checked-bad, made-status, made-done, refused-not-done}
use Rattle.mach_run_base.proofs.job.start.Goals as goal

pub returns-in-Run-clause-status : goal.returns-in-Run-clause-status
returns-in-Run-clause-status g c = made-status _ c.run_file.ensures.status

pub returns-in-Run-clause-done : goal.returns-in-Run-clause-done
returns-in-Run-clause-done g c =
    λ is.
    let done = made-done c.run_file.result c.run_file.ensures.done is in
    (done.0, subst (λ (job : Job). IsDone job (g.R.Read.remaining c.args.file.now) done.0) (sym c.in-Run.is) done.1, done.2)

pub returns-in-Run-clause-bad : goal.returns-in-Run-clause-bad
returns-in-Run-clause-bad g c =
    λ bytes n known bad.
    let refused = c.run_file.ensures.bad bytes n known (subst (λ (job : Job). IsBad job bytes n) c.in-Run.is bad) in
    (refused-not-done c.run_file.result refused.0, λ _. refused.1)

pub returns-in-Trace-clause-status : goal.returns-in-Trace-clause-status
returns-in-Trace-clause-status g c = made-status _ c.run_file-in-Trace.ensures.status

pub returns-in-Trace-clause-done : goal.returns-in-Trace-clause-done
returns-in-Trace-clause-done g c =
    λ is.
    let done = made-done c.run_file-in-Trace.result c.run_file-in-Trace.ensures.done is in
    (done.0, subst (λ (job : Job). IsDone job (g.R.Read.remaining c.args.file.now) done.0) (sym c.in-Trace.is) done.1, done.2)

pub returns-in-Trace-clause-bad : goal.returns-in-Trace-clause-bad
returns-in-Trace-clause-bad g c =
    λ bytes n known bad.
    let refused = c.run_file-in-Trace.ensures.bad bytes n known (subst (λ (job : Job). IsBad job bytes n) c.in-Trace.is bad) in
    (refused-not-done c.run_file-in-Trace.result refused.0, λ _. refused.1)

pub returns-in-Check-clause-status : goal.returns-in-Check-clause-status
returns-in-Check-clause-status g c = checked-status c.check_file.result _ _ _ c.check_file.ensures

pub returns-in-Check-clause-done : goal.returns-in-Check-clause-done
returns-in-Check-clause-done g c =
    λ is.
    let done = checked-done c.check_file.result _ _ _ c.check_file.ensures is in
    (done.0, subst (λ (job : Job). IsDone job (g.R.Read.remaining c.args.file.now) done.0) (sym c.in-Check.is) done.1, done.2)

pub returns-in-Check-clause-bad : goal.returns-in-Check-clause-bad
returns-in-Check-clause-bad g c =
    λ bytes n known bad.
    let line = subst (λ (job : Job). IsBad job bytes n) c.in-Check.is bad in
    (checked-bad c.check_file.result _ _ _ bytes n c.check_file.ensures known line, λ other. absurd (other c.in-Check.is))
