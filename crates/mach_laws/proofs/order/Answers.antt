use Rattle.mach_laws.proofs.Steps.{path_ordered}
use Rattle.mach_laws.proofs.order.Goals as goal

pub returns : goal.returns
returns c = path_ordered
