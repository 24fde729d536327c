use Rattle.member_lists.proofs.Both.{blank_none, ends_none}
use Rattle.member_lists.proofs.marked.EndsMap.new.Goals as goal

pub invariant_of-result : goal.invariant_of-result
invariant_of-result c = blank_none c.new.result c.new.ensures

pub returns : goal.returns
returns c = ends_none c.new.result c.new.ensures
