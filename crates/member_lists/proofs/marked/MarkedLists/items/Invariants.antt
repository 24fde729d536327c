use Rattle.std.proofs.Common.{◌-◌, length}
use Rattle.member_lists.specs.Lists.{list_of}
use Rattle.member_lists.proofs.Listed.{IsTold}
use Rattle.member_lists.proofs.marked.MarkedLists.items.Given as goal

abbrev pub invariant-loop-next : goal.invariant-loop-next
invariant-loop-next l = IsTold (list_of l.self.all l.list) l.items.items l.next

abbrev pub decreases-loop-next : goal.decreases-loop-next
decreases-loop-next l = length (list_of l.self.all l.list) - length l.items.items
