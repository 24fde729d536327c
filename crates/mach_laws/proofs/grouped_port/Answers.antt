use Rattle.mach_laws.proofs.Playing.{grouped_run}
use Rattle.mach_laws.proofs.grouped_port.Goals as goal

pub returns : goal.returns
returns c = grouped_run
