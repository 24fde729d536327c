use Rattle.member_lists.proofs.Held.{kept_none}
use Rattle.member_lists.proofs.Kept.{lists_none}
use Rattle.member_lists.proofs.TwoLists.new.Goals as goal

pub invariant_of-result : goal.invariant_of-result
invariant_of-result c = kept_none c.new.result.items c.blank.result c.new.ensures.items c.blank.ensures

pub returns : goal.returns
returns c = lists_none c.new.result.items c.blank.result c.new.ensures.items c.blank.ensures
