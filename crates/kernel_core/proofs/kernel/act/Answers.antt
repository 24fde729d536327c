use Rattle.std.proofs.Common.{sym, subst, ap, ◌∙◌, Result, Err}
use Rattle.std.proofs.lemmas.Result.{err_from_is_err_and}
use Rattle.mach_types.specs.declared.calls.Reply.{Reply}
use Rattle.mach_types.specs.Codes.{kern_number}
use Rattle.mach_types.specs.declared.codes.Code.{Code}
use Rattle.mach_types.specs.declared.codes.Code.TheVariants.{Kern}
use Rattle.copyin_base.specs.Serving.{Declines}
use Rattle.kernel_core.specs.Wanted.{Performs}
use Rattle.kernel_core.proofs.Keeping.{no_task}
use Rattle.kernel_core.proofs.kernel.act.Goals as goal

pub returns-in_err-check_tasks-clause-performs : goal.returns-in_err-check_tasks-clause-performs
returns-in_err-check_tasks-clause-performs c =
    let e = err_from_is_err_and c.from_residual.result c.from_residual.ensures.1 in
    let x = c.in_err-check_tasks.ensures.err in
    let is = x.0 in
    subst (λ (r : Result Reply Code). Performs c.args.world.now c.args.event.now r c.args.world.now) (sym (e.1 ∙ ap Err (e.2 ∙ ap Kern is)))
    (no_task c.args.world.now c.args.event.now (subst (λ code. Declines c.args.world.now c.args.event.now (kern_number code) c.args.world.now) is x.1))
