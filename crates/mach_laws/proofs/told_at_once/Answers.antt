use Rattle.mach_laws.proofs.ToldAtOnce.{telling_run}
use Rattle.mach_laws.proofs.told_at_once.Goals as goal

pub returns : goal.returns
returns c = telling_run
