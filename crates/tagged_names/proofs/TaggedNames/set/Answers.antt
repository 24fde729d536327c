use Rattle.std.proofs.Common.{ap, ◌∙◌}
use Rattle.std.specs.FinMap as map
use Rattle.tagged_names.specs.Names.{TaggedView}
use Rattle.tagged_names.proofs.Sounds.{sound_set}
use Rattle.tagged_names.proofs.TaggedNames.set.Goals as goal

pub invariant_of-self : goal.invariant_of-self
invariant_of-self g c =
    sound_set c.self.inside.places c.self.inside.counts c.self.inside.len c.self.inside.room c.self.invariant c.set.new.self c.args.name c.args.value c.set.ensures
    (ap (λ (w : TaggedView g.row.V.Denot). map.contains_key w.names c.args.name) c.self.view_is ∙ c.requires)
