use Rattle.std.proofs.Common.{length}
use Rattle.mach_model.proofs.StepLawful.{Run-lawful}
use Rattle.mach_laws.proofs.Made.{done_makes}
use Rattle.mach_laws.proofs.rights_are_made_by_these.Goals as goal

pub returns : goal.returns
returns c = λ profile events replies s run event reply new done kind p. done_makes (length events) s event reply new (Run-lawful profile events replies s run) done p kind
