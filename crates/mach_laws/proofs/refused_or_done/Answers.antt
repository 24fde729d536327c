use Rattle.std.proofs.Common.{length}
use Rattle.mach_model.proofs.StepLawful.{Run-lawful}
use Rattle.mach_laws.proofs.Deciding.{refused_not_done}
use Rattle.mach_laws.proofs.refused_or_done.Goals as goal

pub returns : goal.returns
returns c = λ profile events replies s run event code refuses not other reply new. refused_not_done (length events) s event code reply new (Run-lawful profile events replies s run) refuses not other
