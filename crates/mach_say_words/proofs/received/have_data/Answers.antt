use Rattle.mach_say_words.proofs.Items.{next-data}
use Rattle.mach_say_words.proofs.received.have_data.Goals as goal

-- the item's data is cut off
pub loop-preserved : goal.loop-preserved
loop-preserved c =
    next-data c.args.items.bytes.now c.args.wanted.now c.loop.left.bytes.now c.loop.rest.now c.in-Some.item c.next.new.self.bytes.now c.in-Some-behind.behind.now
    c.loop.invariant c.in-Some.ensures.steps c.in-Some-behind.ensures
