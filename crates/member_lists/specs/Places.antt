-- A place of four bytes for an item or for none: the item's number and 1, or 0.
use Rattle.std.specs.Prelude.{◌≡◌, ℕ, zero, suc, Option, Some, None, refl}

abbrev pub item_at : ℕ → Option ℕ
item_at zero = None
item_at (suc x) = Some x

abbrev pub place_of : Option ℕ → ℕ
place_of None = 0
place_of (Some x) = suc x

-- what is made of the place of the item at a place is what is made of the place
pub same_place : {A : Type 0} (f : ℕ → A) (n : ℕ) → f (place_of (item_at n)) ≡ f n
same_place f zero = refl
same_place f (suc x) = refl
