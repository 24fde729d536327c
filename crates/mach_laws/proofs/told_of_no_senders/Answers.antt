use Rattle.mach_laws.proofs.Senderless.{senderless_run}
use Rattle.mach_laws.proofs.told_of_no_senders.Goals as goal

pub returns : goal.returns
returns c = senderless_run
