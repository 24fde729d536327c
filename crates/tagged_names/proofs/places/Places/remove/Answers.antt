use Rattle.std.proofs.Common.{sym, ◌∙◌}
use Rattle.tagged_names.proofs.Views.{get_placed, get_other, ready_out, view_out}
use Rattle.tagged_names.proofs.places.Places.remove.Goals as goal

pub invariant_of-self : goal.invariant_of-self
invariant_of-self g c = ready_out c.self.inside.slots c.self.inside.others c.self.invariant c.args.self.now c.self.view_is c.remove.new.self c.args.name (sym c.value_placed.ensures ∙ c.in_default.is) c.remove.ensures.after

pub returns-in_default-clause-value : goal.returns-in_default-clause-value
returns-in_default-clause-value g c = c.remove.ensures.value ∙ get_other c.self.inside.slots c.self.inside.others c.self.invariant c.args.self.now c.self.view_is c.args.name (sym c.value_placed.ensures ∙ c.in_default.is)

pub returns-in_default-clause-after : goal.returns-in_default-clause-after
returns-in_default-clause-after g c = view_out c.self.inside.slots c.self.inside.others c.self.invariant c.args.self.now c.self.view_is c.remove.new.self c.args.name (sym c.value_placed.ensures ∙ c.in_default.is) c.remove.ensures.after

pub returns-clause-value : goal.returns-clause-value
returns-clause-value g c = get_placed c.self.inside.slots c.self.inside.others c.self.invariant c.args.self.now c.self.view_is c.args.name c.in-Some.value (sym c.value_placed.ensures ∙ c.in-Some.is)
