use Rattle.std.proofs.Common.{length}
use Rattle.mach_model.proofs.StepLawful.{Run-lawful}
use Rattle.mach_laws.proofs.Meanings.{Step-looks}
use Rattle.mach_laws.proofs.looks_change_nothing.Goals as goal

pub returns : goal.returns
returns c = λ profile events replies s run event reply new step look. Step-looks (length events) s event reply new (Run-lawful profile events replies s run) step look
