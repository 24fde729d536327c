use Rattle.std.proofs.Common.{length}
use Rattle.mach_model.proofs.StepLawful.{Run-lawful}
use Rattle.mach_laws.proofs.Onces.{needs_no_more}
use Rattle.mach_laws.proofs.few_calls_need_slots.Goals as goal

pub returns : goal.returns
returns c = λ profile events replies s run event reply new step other. needs_no_more (length events) s event reply new (Run-lawful profile events replies s run) step other
