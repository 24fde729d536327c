use Rattle.mach_laws.proofs.MemoryFree.{free_refused, free_replies, free_done}
use Rattle.mach_laws.proofs.never_lacks.Goals as goal

pub returns-clause-refused : goal.returns-clause-refused
returns-clause-refused c = free_refused

pub returns-clause-reply : goal.returns-clause-reply
returns-clause-reply c = free_replies

pub returns-clause-done : goal.returns-clause-done
returns-clause-done c = free_done
