use Rattle.member_lists.specs.Lists.{list_of}
use Rattle.member_lists.proofs.Listed.{told_none, told_more, told_fewer, told_all}
use Rattle.member_lists.proofs.marked.MarkedLists.items.Goals as goal

pub loop-next-init : goal.loop-next-init
loop-next-init c = rw c.new-items.ensures.items (told_none (list_of c.args.self.now.all c.args.list) c.first-next.result c.first-next.ensures)

pub loop-next-smaller : goal.loop-next-smaller
loop-next-smaller c =
    rw c.in_ok-push.ensures.items
    (told_fewer (list_of c.args.self.now.all c.args.list) c.loop-next.items.items c.in-Some.item c.loop-next.next c.loop-next.invariant c.in-Some.is)

pub loop-next-preserved : goal.loop-next-preserved
loop-next-preserved c =
    rw c.in_ok-push.ensures.items
    (told_more (list_of c.args.self.now.all c.args.list) c.loop-next.items.items c.in-Some.item c.loop-next.next c.after-next.result c.loop-next.invariant c.in-Some.is c.after-next.ensures)

pub returns : goal.returns
returns c = told_all (list_of c.args.self.now.all c.args.list) c.loop-next.items.items c.loop-next.next c.loop-next.invariant c.in_default.not-Some
