use Rattle.name_space.proofs.Spaces.{sound_empty}
use Rattle.name_space.proofs.Space.new.Goals as goal

pub invariant_of-result : goal.invariant_of-result
invariant_of-result c = sound_empty c.new.result c.new-2.result _ c.new.ensures c.new-2.ensures
