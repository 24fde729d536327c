use Rattle.std.proofs.Common.{ap}
use Rattle.name_space_base.specs.High.{HighView}
use Rattle.tagged_names.proofs.Views.{same_places, ready_empty, names_empty}
use Rattle.tagged_names.proofs.places.Places.new.Goals as goal

pub invariant_of-result : goal.invariant_of-result
invariant_of-result g c = ready_empty c.new.result c.new-2.result c.new.ensures.values c.new-2.ensures

pub returns : goal.returns
returns g c = same_places _ _ _ 0 _ _ (names_empty c.new.result c.new-2.result c.new.ensures.values c.new-2.ensures) c.new.ensures.room (ap (λ (h : HighView g.row.V.Denot). h.kept) c.new-2.ensures)
