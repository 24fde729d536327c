use Rattle.std.proofs.Common.{length}
use Rattle.mach_model.proofs.StepLawful.{Run-lawful}
use Rattle.mach_laws.proofs.Steps.{Step-delivers}
use Rattle.mach_laws.proofs.received_messages_mean.Goals as goal

pub returns : goal.returns
returns c = λ profile events replies s run event bytes new step. Step-delivers (length events) s event bytes new (Run-lawful profile events replies s run) step
