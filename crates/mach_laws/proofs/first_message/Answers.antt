use Rattle.mach_laws.proofs.Playing.{first_run}
use Rattle.mach_laws.proofs.first_message.Goals as goal

pub returns : goal.returns
returns c = first_run
