use Rattle.mach_laws.proofs.Answering.{answered_run}
use Rattle.mach_laws.proofs.answered_message.Goals as goal

pub returns : goal.returns
returns c = answered_run
