use Rattle.std.proofs.Common.{map, subst}
use Rattle.mach_types.specs.declared.profiles.Profile.{Profile}
use Rattle.mach_run_base.specs.Enrolling.{pass_of}
use Rattle.mach_run_base.specs.Output.{IsAnswered}
use Rattle.mach_run_base.proofs.job.answer_script.Goals as goal

pub returns : goal.returns
returns g c =
    let ran = c.in_ok-run_script.ensures.answered in
    let callers = c.in_ok-run_script.field-0 in
    let blocks = map pass_of callers.blocks.items in
    let answered = subst (λ (p : Profile). IsAnswered p c.args.script ran.0 callers.main blocks) c.in_ok-shared.ensures.0 ran.1 in
    (ran.0, (callers.main, blocks, answered), ran.2)
