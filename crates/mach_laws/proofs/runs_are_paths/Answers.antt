use Rattle.mach_model.specs.State.{opening_in}
use Rattle.mach_laws.proofs.Steps.{run_stages, path_runs}
use Rattle.mach_laws.proofs.runs_are_paths.Goals as goal

pub returns-clause-stages : goal.returns-clause-stages
returns-clause-stages c = λ profile events replies s run. let x = run_stages 0 (opening_in profile) events replies s run in (x.path, x.is_path, x.events_are, x.replies_are)

pub returns-clause-run : goal.returns-clause-run
returns-clause-run c = λ profile. path_runs 0 (opening_in profile)
