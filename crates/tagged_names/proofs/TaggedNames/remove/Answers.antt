use Rattle.std.proofs.Common.{ap, sym, ◌∙◌, is_some}
use Rattle.tagged_names.proofs.Sounds.{sound_out, sound_same, some_left}
use Rattle.tagged_names.proofs.TaggedNames.remove.Goals as goal

pub invariant_of-self : goal.invariant_of-self
invariant_of-self g c = sound_same c.self.inside.places c.self.inside.counts c.self.inside.len c.self.inside.room c.self.invariant c.remove.new.self c.args.name c.remove.ensures.after (sym c.remove.ensures.value ∙ c.in_err-value.was)

pub overflow_sub-self : goal.overflow_sub-self
overflow_sub-self g c = some_left c.self.inside.places c.self.inside.counts c.self.inside.len c.self.inside.room c.self.invariant c.remove.new.self c.args.name (ap is_some (sym c.remove.ensures.value ∙ c.in_ok-value.was))

pub invariant_of-self-2 : goal.invariant_of-self-2
invariant_of-self-2 g c =
    sound_out c.self.inside.places c.self.inside.counts c.self.inside.len c.self.inside.room c.self.invariant c.remove.new.self c.args.name c.remove.ensures.after (ap is_some (sym c.remove.ensures.value ∙ c.in_ok-value.was))
