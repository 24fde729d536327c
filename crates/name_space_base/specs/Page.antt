-- A page: the values at its places, or no places where it isn't made. No public clause cites this module.
use Rattle.std.specs.Prelude.{◌≡◌, ℕ, suc, ◌<◌, ◌≤◌, List, [], ◌∷◌, length, Option, Some, None, is_some, slice_index_or}
use Rattle.name_space_base.specs.Bits.{has}

-- how many places have a value
abbrev pub used_in : {T : Type 0} → List (Option T) → ℕ
used_in [] = 0
used_in (None ∷ rest) = used_in rest
used_in (Some value ∷ rest) = suc (used_in rest)

-- made, and without values
pub record IsBlank {T : Type 0} (page : List (Option T)) : Type 0 where
  pub long : length page ≡ 256
  pub free : (i : ℕ) → slice_index_or page i None ≡ None

-- the bits of the places that have a value, and how many those are
pub record IsMarked {T : Type 0} (page : List (Option T)) (words : List ℕ) (len : ℕ) : Type 0 where
  pub short : length page ≤ 256
  pub marked : (i : ℕ) → i < 256 → has words i ≡ is_some (slice_index_or page i None)
  pub counted : len ≡ used_in page
