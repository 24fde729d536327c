use Rattle.number_map.proofs.Planted.{kept_none}
use Rattle.number_map.proofs.NumberMap.new.Goals as goal

pub invariant_of-result : goal.invariant_of-result
invariant_of-result g c = kept_none c.new.result.items c.new-2.result.items _ c.new.ensures.items c.new-2.ensures.items
