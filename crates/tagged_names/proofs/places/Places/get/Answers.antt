use Rattle.std.proofs.Common.{sym, ◌∙◌}
use Rattle.tagged_names.proofs.Views.{get_placed, get_other}
use Rattle.tagged_names.proofs.places.Places.get.Goals as goal

pub returns-in-Some : goal.returns-in-Some
returns-in-Some g c = get_placed c.self.inside.slots c.self.inside.others c.self.invariant c.args.self.now c.self.view_is c.args.name c.in-Some.value (sym c.in-Some.ensures)

pub returns-in-None : goal.returns-in-None
returns-in-None g c = c.get.ensures ∙ get_other c.self.inside.slots c.self.inside.others c.self.invariant c.args.self.now c.self.view_is c.args.name (sym c.value_placed.ensures ∙ c.in-None.is)
