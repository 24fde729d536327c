use Rattle.std.proofs.Common.{length}
use Rattle.kernel_change.proofs.ReceivedNames.{ReadsItems}
use Rattle.kernel_change.proofs.received.Received.by.Given as goal

abbrev pub invariant-loop-descriptor : goal.invariant-loop-descriptor
invariant-loop-descriptor l = ReadsItems l.fn.body l.received l.rest

abbrev pub decreases-loop-descriptor : goal.decreases-loop-descriptor
decreases-loop-descriptor l = length l.rest
