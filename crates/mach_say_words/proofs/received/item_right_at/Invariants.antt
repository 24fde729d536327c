use Rattle.mach_say_words.proofs.Items.{LeavesKinds}
use Rattle.mach_say_words.proofs.received.item_right_at.Given as goal

-- what is left of the items, and which of their rights is looked for
abbrev pub invariant-loop : goal.invariant-loop
invariant-loop l = LeavesKinds l.fn.items.bytes.now l.fn.number l.left.bytes.now l.number
