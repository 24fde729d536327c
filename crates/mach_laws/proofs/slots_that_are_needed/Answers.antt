use Rattle.mach_model.proofs.StepLawful.{Run-lawful}
use Rattle.mach_laws.proofs.Slots.{needed, ending_needs}
use Rattle.mach_laws.proofs.slots_that_are_needed.Goals as goal

pub returns-clause-needed : goal.returns-clause-needed
returns-clause-needed c = λ profile events replies s run. let l = Run-lawful profile events replies s run in needed s l.ports l.logs l.messages

pub returns-clause-midway : goal.returns-clause-midway
returns-clause-midway c = λ mid owed l. needed mid l.ports l.logs l.messages

pub returns-clause-ending : goal.returns-clause-ending
returns-clause-ending c = ending_needs
