use Rattle.mach_laws.proofs.Tagged.{tagging_run}
use Rattle.mach_laws.proofs.tagged_name.Goals as goal

pub returns : goal.returns
returns c = tagging_run
