use Rattle.mach_laws.proofs.Steps.{path_told}
use Rattle.mach_laws.proofs.received_means_what_was_sent_or_told.Goals as goal

pub returns : goal.returns
returns c = path_told
