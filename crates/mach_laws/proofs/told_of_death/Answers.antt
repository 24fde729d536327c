use Rattle.mach_laws.proofs.ToldOfDeath.{dying_run}
use Rattle.mach_laws.proofs.told_of_death.Goals as goal

pub returns : goal.returns
returns c = dying_run
