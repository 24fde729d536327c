use Rattle.mach_laws.proofs.Naming.{naming_run}
use Rattle.mach_laws.proofs.renamed_dead_name.Goals as goal

pub returns : goal.returns
returns c = naming_run
