-- Where the ready ports of each set stand. No clause above the crate `port` cites this module.
use Rattle.std.specs.Prelude.{◌≡◌, ◌≢◌, ℕ, ◌++◌, [], ◌∷◌, Option, Some, None}
use Rattle.std.specs.List.{Contains}
use Rattle.member_lists.specs.Lists.{ListsView, list_of, with_list, without}

-- the item stands in this list, or in none, and in no other
pub record StandsIn (v : ListsView) (item : ℕ) (list : Option ℕ) : Type 0 where
  pub only : (l : ℕ) → Contains (list_of v l) item → list ≡ Some l
  pub there : (l : ℕ) → list ≡ Some l → Contains (list_of v l) item

-- the item stands in this list now, or in none; each other item stands where it stood
pub record IsMoved (old new : ListsView) (item : ℕ) (list : Option ℕ) : Type 0 where
  pub stands : StandsIn new item list
  pub was : (x l : ℕ) → x ≢ item → Contains (list_of new l) x → Contains (list_of old l) x
  pub stays : (x l : ℕ) → x ≢ item → Contains (list_of old l) x → Contains (list_of new l) x
  pub items : new.items ≡ old.items

-- the item left this list, or none
abbrev pub out_of : ListsView → (item : ℕ) → Option ℕ → ListsView
out_of v item None = v
out_of v item (Some list) = with_list v list (without item (list_of v list))

-- the item joined this list at its end, or none
abbrev pub at_end : ListsView → (item : ℕ) → Option ℕ → ListsView
at_end v item None = v
at_end v item (Some list) = with_list v list (list_of v list ++ item ∷ [])
