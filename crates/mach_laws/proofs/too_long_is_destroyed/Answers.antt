use Rattle.mach_laws.proofs.Meanings.{Step-destroys}
use Rattle.mach_laws.proofs.too_long_is_destroyed.Goals as goal

pub returns : goal.returns
returns c = Step-destroys
