use Rattle.mach_laws.proofs.Destroyed.{destroying_run}
use Rattle.mach_laws.proofs.destroyed_message.Goals as goal

pub returns : goal.returns
returns c = destroying_run
