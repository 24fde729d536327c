use Rattle.mach_say_words.proofs.Items.{LeavesData}
use Rattle.mach_say_words.proofs.received.have_data.Given as goal

-- what is left of the items, and of the data
abbrev pub invariant-loop : goal.invariant-loop
invariant-loop l = LeavesData l.fn.items.bytes.now l.fn.wanted l.left.bytes.now l.rest
