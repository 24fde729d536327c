use Rattle.std.proofs.Common.{inl, inr}
use Rattle.name_space_base.proofs.Options.{for_err}
use Rattle.tagged_names.proofs.Views.{lacks_page, keeps_used}
use Rattle.tagged_names.proofs.places.Places.keep.Goals as goal
use Rattle.std.specs.Prelude.{◌/◌}

pub returns-in_err-make_place-clause-wanted : goal.returns-in_err-make_place-clause-wanted
returns-in_err-make_place-clause-wanted g c = for_err c.from_residual.result (inr (lacks_page c.self.inside.slots c.self.inside.others c.self.invariant c.args.self.now c.self.view_is (c.args.name / 256) c.in_err-make_place.ensures.wanted))

pub returns-in_err-keep-clause-wanted : goal.returns-in_err-keep-clause-wanted
returns-in_err-keep-clause-wanted g c = for_err c.from_residual-in_err-keep.result (inl (keeps_used c.self.inside.slots c.self.inside.others c.self.invariant c.args.self.now c.self.view_is c.in_err-keep.ensures.wanted))
