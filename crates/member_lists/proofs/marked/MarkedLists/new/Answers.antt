use Rattle.member_lists.proofs.Marks.{marked_none, view_none}
use Rattle.member_lists.proofs.marked.MarkedLists.new.Goals as goal

pub invariant_of-result : goal.invariant_of-result
invariant_of-result c = marked_none c.new.result.items c.new-2.result.items c.new-3.result c.new.ensures.items c.new-2.ensures.items c.new-3.ensures

pub returns : goal.returns
returns c = view_none c.new.result.items c.new-2.result.items c.new-3.result c.new.ensures.items c.new-2.ensures.items c.new-3.ensures
