use Rattle.tagged_names.proofs.Sounds.{sound_new}
use Rattle.tagged_names.proofs.TaggedNames.new.Goals as goal

pub invariant_of-result : goal.invariant_of-result
invariant_of-result g c = sound_new c.new.result c.new-2.result c.new.ensures
