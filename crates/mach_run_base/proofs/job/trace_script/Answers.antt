use Rattle.std.proofs.Common.{refl, map, subst}
use Rattle.mach_types.specs.declared.profiles.Profile.{Profile}
use Rattle.kernel_lock.specs.History.{Legal}
use Rattle.mach_run_base.specs.Enrolling.{pass_of}
use Rattle.mach_run_base.specs.Jobs.{history_shown}
use Rattle.mach_run_base.proofs.OutputLemmas.{on-ok}
use Rattle.mach_run_base.proofs.OfScript.{of_script}
use Rattle.mach_run_base.proofs.job.trace_script.Goals as goal

pub returns-in-Ok : goal.returns-in-Ok
returns-in-Ok g c =
    let layout = c.args.layout in
    let ran = c.in-Ok.ensures.answered in
    on-ok c.write_whole.result
    (λ made. (
      history_shown layout.profile layout.warn made.0,
      record {
        entries = made.0;
        legal = subst (λ (p : Profile). Legal p made.0) c.requires.1 made.1;
        made = of_script c.args.shared.now.profile made.0 c.args.script ran.0 c.in-Ok.callers.main (map pass_of c.in-Ok.callers.blocks.items) ran.1 made.2;
        shown = refl;
      },
      made.3,
    ))
    (c.write_whole.ensures c.requires.0)
