use Rattle.mach_msg_threads.proofs.Bounded.{called_bounded}
use Rattle.mach_msg_threads.proofs.tries.attempt.Goals as goal

pub returns-clause-bytes : goal.returns-clause-bytes
returns-clause-bytes g c = called_bounded _ _ _ _ c.call-reply.ensures.call
