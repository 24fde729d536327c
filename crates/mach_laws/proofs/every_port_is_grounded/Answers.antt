use Rattle.mach_model.proofs.Grounded.{Run-grounded}
use Rattle.mach_laws.proofs.every_port_is_grounded.Goals as goal

pub returns : goal.returns
returns c = Run-grounded
