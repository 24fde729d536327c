use Rattle.mach_laws.proofs.Refusals.{never_full}
use Rattle.mach_laws.proofs.once_is_never_full.Goals as goal

pub returns : goal.returns
returns c = never_full
