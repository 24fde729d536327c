use Rattle.std.proofs.Common.{length, ◌-◌}
use Rattle.message_codec.proofs.Walking.{IsWalk}
use Rattle.message_codec.proofs.items.read_spans.Given as goal

abbrev pub invariant-loop-at : goal.invariant-loop-at
invariant-loop-at l = IsWalk l.bytes l.at l.spans.items l.spans.capacity l.lacks_memory

abbrev pub decreases-loop-at : goal.decreases-loop-at
decreases-loop-at l = length l.bytes - l.at
