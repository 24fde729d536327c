use Rattle.mach_laws.proofs.Unanswered.{unanswered_run}
use Rattle.mach_laws.proofs.message_of_dead_port.Goals as goal

pub returns : goal.returns
returns c = unanswered_run
