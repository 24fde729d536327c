use Rattle.mach_laws.proofs.Deleted.{deleting_run}
use Rattle.mach_laws.proofs.deleted_name.Goals as goal

pub returns : goal.returns
returns c = deleting_run
