use Rattle.std.proofs.Common.{length}
use Rattle.mach_model.proofs.StepLawful.{Run-lawful}
use Rattle.mach_laws.proofs.Working.{few_turns, same_deaths}
use Rattle.mach_laws.proofs.turns_are_work.Goals as goal

pub returns-clause-most : goal.returns-clause-most
returns-clause-most c = λ profile events replies s run event reply new d. few_turns (length events) s event reply new (Run-lawful profile events replies s run) d

pub returns-clause-least : goal.returns-clause-least
returns-clause-least c = λ profile events replies s run event reply new d. same_deaths (length events) s event reply new (Run-lawful profile events replies s run) d
