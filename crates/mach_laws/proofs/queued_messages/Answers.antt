use Rattle.std.proofs.Common.{length}
use Rattle.mach_model.proofs.StepLawful.{Run-lawful}
use Rattle.mach_laws.proofs.Counted.{Does-counted, Settles-counted}
use Rattle.mach_laws.proofs.queued_messages.Goals as goal

pub returns-clause-part : goal.returns-clause-part
returns-clause-part c = λ profile events replies s run event good reply mid owed does judged. Does-counted (length events) s event reply mid owed (Run-lawful profile events replies s run) good does judged

pub returns-clause-ending : goal.returns-clause-ending
returns-clause-ending c = λ now old mid owed new l x. Settles-counted now old mid owed new l x
