use Rattle.mach_say_words.proofs.Items.{here-kinds, next-kinds}
use Rattle.mach_say_words.proofs.received.item_right_at.Goals as goal

-- the right is one of the item's
pub returns-in-Ok : goal.returns-in-Ok
returns-in-Ok c =
    here-kinds c.args.items.bytes.now c.args.number c.loop.left.bytes.now c.loop.number c.in_ok-next.field-0 c.next.new.self.bytes.now c.in-Ok.right.kind
    c.loop.invariant c.in_ok-next.ensures.steps c.in-Ok.ensures.found

-- the item's rights are passed by
pub loop-preserved : goal.loop-preserved
loop-preserved c =
    next-kinds c.args.items.bytes.now c.args.number c.loop.left.bytes.now c.loop.number c.in_ok-next.field-0 c.next.new.self.bytes.now c.in-Err.behind
    c.loop.invariant c.in_ok-next.ensures.steps c.in-Err.ensures.behind
