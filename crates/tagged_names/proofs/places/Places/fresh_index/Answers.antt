use Rattle.tagged_names.proofs.Views.{first_fresh}
use Rattle.tagged_names.proofs.places.Places.fresh_index.Goals as goal

pub returns-clause-fresh : goal.returns-clause-fresh
returns-clause-fresh g c = (first_fresh c.self.inside.slots c.self.inside.others c.self.invariant c.args.self.now c.self.view_is c.first_free.result c.first_free.ensures.first c.requires).0

pub returns-clause-small : goal.returns-clause-small
returns-clause-small g c = (first_fresh c.self.inside.slots c.self.inside.others c.self.invariant c.args.self.now c.self.view_is c.first_free.result c.first_free.ensures.first c.requires).1
