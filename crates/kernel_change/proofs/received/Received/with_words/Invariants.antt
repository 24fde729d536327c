use Rattle.std.proofs.Common.{◌≡◌, List, ℕ}
use Rattle.kernel_change.specs.Received.{first_words, received_by}
use Rattle.kernel_change.proofs.ReceivedNames.{Reads}
use Rattle.kernel_change.proofs.received.Received.with_words.Given as goal

abbrev pub invariant-loop-left : goal.invariant-loop-left
invariant-loop-left l = (names : List ℕ) → l.fn.self ≡ received_by names → Reads names (first_words l.fn.number l.fn.words) l.received (first_words l.left l.rest)

abbrev pub decreases-loop-left : goal.decreases-loop-left
decreases-loop-left l = l.left
