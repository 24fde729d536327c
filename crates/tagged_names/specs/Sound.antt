-- What always holds of values by names with a generation. No public clause cites this module.
use Rattle.std.specs.Prelude.{◌≡◌, ◌⊎◌, ℕ, ◌+◌, ◌<◌, ◌≤◌, Some, None, min}
use Rattle.std.specs.FinMap as map
use Rattle.tagged_names.specs.Places.{PlacesView}
use Rattle.tagged_names.specs.Counts.{CountsView}

-- A name may come for which a place was made: a fresh one, or the one for which a place is kept.
abbrev pub IsAwaited : {V : Type 0} → PlacesView V → (room : ℕ) → Type 0
IsAwaited places room = (0 < room) ⊎ ((name : ℕ) × (places.kept ≡ Some name) × (map.get places.names name ≡ None))

-- The places have room, and each index that a fresh name has while there is room has a place for its count.
pub record IsSound {V : Type 0} (places : PlacesView V) (counts : CountsView) (len room : ℕ) : Type 0 where
  pub counted : len ≡ map.len places.names
  pub few : len ≤ 65535
  pub has_room : room ≤ places.room
  pub has_counts : min (len + room) 65535 ≤ counts.reach
  pub has_one_more : IsAwaited places room → min (len + room + 1) 65535 ≤ counts.reach
