use Rattle.mach_laws.proofs.Handed.{handed_run}
use Rattle.mach_laws.proofs.handed_receive_right.Goals as goal

pub returns : goal.returns
returns c = handed_run
