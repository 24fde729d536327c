use Rattle.mach_laws.proofs.Dying.{slots_bounded}
use Rattle.mach_laws.proofs.slots_are_bounded.Goals as goal

pub returns : goal.returns
returns c = slots_bounded
