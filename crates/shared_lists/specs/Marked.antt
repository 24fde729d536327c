-- Places that join lists or leave them, and their marked ones. No public clause cites this module.
use Rattle.std.specs.Prelude.{ℕ, Bool, cond, List, [], ◌∷◌}
use Rattle.slab.specs.Slab.{Slab}
use Rattle.member_lists.specs.Lists.{ListsView, MarkedView}
use Rattle.shared_lists.specs.declared.Further.{Further}
use Rattle.shared_lists.specs.Shared.{joined, parted}
use Rattle.shared_lists.specs.Places.{far, list_at}

abbrev pub joined_at : MarkedView → (list place : ℕ) → (is_marked : Bool) → MarkedView
joined_at v list place is_marked = record { all = joined v.all list place; marked = cond is_marked (joined v.marked list place) v.marked }

abbrev pub parted_at : MarkedView → (list place : ℕ) → (is_marked : Bool) → MarkedView
parted_at v list place is_marked = record { all = parted v.all list place; marked = cond is_marked (parted v.marked list place) v.marked }

-- these further places stand at the end of their lists, one after the other
abbrev pub joined_far : ListsView → Slab Further → (keys : List ℕ) → ListsView
joined_far v s [] = v
joined_far v s (k ∷ keys) = joined_far (joined v (list_at s k) (far k)) s keys

-- these further places are out of their lists
abbrev pub parted_far : ListsView → Slab Further → (keys : List ℕ) → ListsView
parted_far v s [] = v
parted_far v s (k ∷ keys) = parted_far (parted v (list_at s k) (far k)) s keys
