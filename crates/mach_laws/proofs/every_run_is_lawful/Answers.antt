use Rattle.mach_model.proofs.StepLawful.{Run-lawful}
use Rattle.mach_laws.proofs.every_run_is_lawful.Goals as goal

pub returns : goal.returns
returns c = Run-lawful
