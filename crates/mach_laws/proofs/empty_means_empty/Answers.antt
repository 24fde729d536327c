use Rattle.mach_laws.proofs.Playing.{empty_is_empty, empty_is_none}
use Rattle.mach_laws.proofs.empty_means_empty.Goals as goal

pub returns-clause-named : goal.returns-clause-named
returns-clause-named c = λ now old new task name room large told step. empty_is_empty now old task name room large told new step

pub returns-clause-asked : goal.returns-clause-asked
returns-clause-asked c = λ now s event told new step. empty_is_none now s event told new step
