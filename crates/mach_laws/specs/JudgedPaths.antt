-- A run, stage by stage, with the codes and answers that are judged right (this project's own).
use Rattle.std.specs.Prelude.{List}
use Rattle.mach_types.specs.declared.profiles.Profile.{Profile}
use Rattle.mach_model.specs.State.{State, opening_in}
use Rattle.mach_model.specs.Machine.{Step}
use Rattle.mach_laws.specs.Paths.{Stage, PathBy}

-- The stages are steps of the machine from nothing to the state: a run.
abbrev pub JudgedPath : Profile → List Stage → State → Type 0
JudgedPath profile path s = PathBy Step 0 (opening_in profile) path s
