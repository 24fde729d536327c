use Rattle.std.proofs.Common.{length}
use Rattle.mach_model.proofs.StepLawful.{Run-lawful, can_step}
use Rattle.mach_laws.proofs.every_step_can_end.Goals as goal

pub returns : goal.returns
returns c = λ profile events replies s run event reply mid owed good does judged. let x = can_step (length events) s event reply mid owed (Run-lawful profile events replies s run) good does judged in (x.0, x.1)
