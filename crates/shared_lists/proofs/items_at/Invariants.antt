use Rattle.std.proofs.Common.{◌≡◌, map, take}
use Rattle.shared_lists.specs.Places.{item_at}
use Rattle.shared_lists.proofs.items_at.Given as goal

abbrev pub invariant-loop-place : goal.invariant-loop-place
invariant-loop-place l = l.items.items ≡ map (item_at l.several l.further) (take l.place-index l.places)
