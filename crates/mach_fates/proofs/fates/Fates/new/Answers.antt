use Rattle.std.proofs.Common.{refl}
use Rattle.mach_fates.proofs.Joining.{opens}
use Rattle.mach_fates.proofs.fates.Fates.new.Goals as goal

pub returns : goal.returns
returns c = record { begins = λ profile. opens profile _ c.new-ports.ensures.empty refl }
