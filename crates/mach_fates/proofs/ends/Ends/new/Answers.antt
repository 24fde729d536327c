use Rattle.mach_fates.proofs.Telling.{tells_nothing}
use Rattle.mach_fates.proofs.ends.Ends.new.Goals as goal

pub returns : goal.returns
returns c = record { begins = λ profile. tells_nothing profile _ c.new-ports.ensures.empty }
