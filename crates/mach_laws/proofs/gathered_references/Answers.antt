use Rattle.mach_laws.proofs.Gathering.{gathered_run}
use Rattle.mach_laws.proofs.gathered_references.Goals as goal

pub returns : goal.returns
returns c = gathered_run
