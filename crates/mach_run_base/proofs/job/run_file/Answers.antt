use Rattle.tracer_base.proofs.ReplyLemmas.{appends-kept}
use Rattle.mach_run_base.specs.Jobs.{IsMadeOf}
use Rattle.mach_run_base.specs.Scripts.{said_script}
use Rattle.mach_run_base.proofs.ScriptLemmas.{read-whole}
use Rattle.mach_run_base.proofs.job.run_file.Goals as goal

pub returns-in_err-make-clause-bad : goal.returns-in_err-make-clause-bad
returns-in_err-make-clause-bad g c = λ bytes n known bad. absurd (read-whole bytes n _ (said_script c.in_ok-script.script) known c.in_ok-script.ensures.ok bad)

pub returns-in_err-flush-clause-bad : goal.returns-in_err-flush-clause-bad
returns-in_err-flush-clause-bad g c = λ bytes n known bad. absurd (read-whole bytes n _ (said_script c.in_ok-script.script) known c.in_ok-script.ensures.ok bad)

pub returns-clause-bad : goal.returns-clause-bad
returns-clause-bad g c = λ bytes n known bad. absurd (read-whole bytes n _ (said_script c.in_ok-script.script) known c.in_ok-script.ensures.ok bad)

pub returns-clause-done : goal.returns-clause-done
returns-clause-done g c =
    let made = c.in_ok-make.ensures in
    let done : IsMadeOf c.args.shown (g.R.Read.remaining c.args.file.now) made.0 = record {
      script = c.in_ok-script.script;
      good = c.in_ok-script.ensures.ok.0;
      spelled = c.in_ok-script.ensures.ok.1;
      made = made.1;
    } in
    (made.0, done, appends-kept _ _ _ made.0 made.2 c.in_ok-flush.ensures.bytes)
