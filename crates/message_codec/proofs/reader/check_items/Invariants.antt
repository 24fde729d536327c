use Rattle.std.proofs.Common.{List, false, length, ◌-◌}
use Rattle.message_codec.specs.declared.spans.Span.{Span}
use Rattle.message_codec.proofs.Walking.{IsWalk}
use Rattle.message_codec.proofs.reader.check_items.Given as goal

abbrev pub invariant-loop-at : goal.invariant-loop-at
invariant-loop-at l = (spans : List Span) × IsWalk l.bytes l.at spans 8 false

abbrev pub decreases-loop-at : goal.decreases-loop-at
decreases-loop-at l = length l.bytes - l.at
