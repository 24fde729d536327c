use Rattle.std.proofs.Common.{length}
use Rattle.mach_model.proofs.StepLawful.{Run-lawful}
use Rattle.mach_laws.proofs.Steps.{Step-accepts}
use Rattle.mach_laws.proofs.sent_messages_mean.Goals as goal

pub returns : goal.returns
returns c = λ profile events replies s run task bytes new step. Step-accepts (length events) s task bytes new (Run-lawful profile events replies s run) step
