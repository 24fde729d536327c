-- How lists with shared items are kept: by places, which are the items of other lists. No public clause cites this module.
use Rattle.std.specs.Prelude.{◌≡◌, ℕ, max, ◌-◌, ◌*◌, ◌/◌, ◌%◌, ◌^◌, ◌<◌, ◌≤◌, Bool, true, false, cond, eqb, leb, List, [], ◌∷◌, Option, Some, None, IsSome, map as map_list, slice_get}
use Rattle.std.specs.Option.{option_map_or}
use Rattle.std.specs.List.{Contains}
use Rattle.std.specs.FinMap as finite
use Rattle.std.specs.Ordering.{nat_cmp}
use Rattle.slab.specs.Slab.{Slab, get, slab_len}
use Rattle.member_lists.specs.Lists.{ListsView, MarkedView, list_of, with_room}
use Rattle.member_lists.specs.Chains.{times}
use Rattle.member_lists.specs.Values.{with_values}
use Rattle.shared_lists.specs.declared.Further.{Further}
use Rattle.shared_lists.specs.Shared.{SharedView}
pub use Rattle.shared_lists.specs.Numbers.{own, far}

-- ---- places

abbrev pub item_in : Option Further → ℕ
item_in o = option_map_or (λ (f : Further). f.item) o 0

abbrev pub list_in : Option Further → ℕ
list_in o = option_map_or (λ (f : Further). f.list) o 0

-- the item at a place
abbrev pub item_at : Bool → Slab Further → ℕ → ℕ
item_at false s place = place
item_at true s place = cond (eqb (place % 2) 0) (place / 2) (item_in (get s (place / 2)))

-- these numbers from this one on
abbrev pub from_key : ℕ → List ℕ → List ℕ
from_key key [] = []
from_key key (k ∷ keys) = cond (eqb key k) (k ∷ keys) (from_key key keys)

-- the list of a further place
abbrev pub list_at : Slab Further → ℕ → ℕ
list_at s key = list_in (get s key)

-- ---- what is seen of them

-- how many items have places, of so many
abbrev pub fitting : Bool → ℕ → ℕ
fitting false places = places
fitting true places = places / 2

-- the lists of the items at these places
abbrev pub items_of : Bool → Slab Further → ListsView → ListsView
items_of several s v = record { lists = with_values (map_list (item_at several s)) v.lists; items = fitting several v.items }

-- the further lists of each item
abbrev pub more_in : Slab Further → ListsView → finite.FinMap nat_cmp (List ℕ)
more_in s keys = with_values (map_list (list_at s)) keys.lists

abbrev pub room_in : Slab Further → (fits : ℕ) → ℕ
room_in s fits = cond (leb s.capacity fits) (s.capacity - slab_len s) 0

-- ---- how they are kept

-- Each further place is among its item's keys, once. So many of them fit.
pub record IsKeyed (several : Bool) (s : Slab Further) (keys : ListsView) (fits : ℕ) : Type 0 where
  pub keyed : (item k : ℕ) → Contains (list_of keys item) k → (f : Further) × (get s k ≡ Some f) × (f.item ≡ item)
  pub listed : (k : ℕ) (f : Further) → get s k ≡ Some f → Contains (list_of keys f.item) k
  pub single : (item k : ℕ) → times k (list_of keys item) ≤ 1
  pub none : several ≡ false → (k : ℕ) → get s k ≡ None
  pub fit : fits ≤ keys.items

pub record IsShared (several : Bool) (p : MarkedView) (s : Slab Further) (keys : ListsView) (fits : ℕ) : Type 0 where
  pub keyed : IsKeyed several s keys fits
  -- a further place is in its list
  pub further : (l k : ℕ) → several ≡ true → Contains (list_of p.all l) (far k) → (f : Further) × (get s k ≡ Some f) × (f.list ≡ l)
  pub there : (k : ℕ) (f : Further) → get s k ≡ Some f → Contains (list_of p.all f.list) (far k)
  -- where an item has one, its own place is in a list too
  pub first : (k : ℕ) (f : Further) → get s k ≡ Some f → (l : ℕ) × Contains (list_of p.all l) (own several f.item)
  -- a place is in one list at most, and an item has one place in a list at most
  pub single : (l m x : ℕ) → Contains (list_of p.all l) x → Contains (list_of p.all m) x → l ≡ m
  pub once : (l x y : ℕ) → Contains (list_of p.all l) x → Contains (list_of p.all l) y → item_at several s x ≡ item_at several s y → x ≡ y
  pub marked : (l x : ℕ) → Contains (list_of p.marked l) x → Contains (list_of p.all l) x
  pub low : (l x : ℕ) → Contains (list_of p.all l) x → x < p.all.items
  pub fit : 2 * fits ≤ p.all.items
  pub few : p.all.items ≤ 2 ^ 33
  pub even : p.marked.items ≡ p.all.items

-- The list of each further place stands here once more.
abbrev pub AreListed : Slab Further → (lists : List ℕ) → Type 0
AreListed s lists = (k : ℕ) (f : Further) → get s k ≡ Some f → slice_get lists k ≡ Some f.list

-- how they are seen
abbrev pub seen : Bool → MarkedView → Slab Further → (keys : ListsView) → (fits : ℕ) → SharedView
seen several p s keys fits = record {
  all = items_of several s p.all;
  ready = items_of several s p.marked;
  more = more_in s keys;
  room = room_in s fits;
  several = several;
}

-- ---- a walk over the further lists of an item

-- the lists of the places with these numbers, from this one on
abbrev pub lists_from : Slab Further → (keys : List ℕ) → (next : Option ℕ) → List ℕ
lists_from s keys None = []
lists_from s keys (Some key) = map_list (list_at s) (from_key key keys)

-- it stands at one of the item's further places, or at none
pub record IsWalk (s : Slab Further) (keys : ListsView) (item : ℕ) (next : Option ℕ) : Type 0 where
  pub there : (k : ℕ) → Contains (list_of keys item) k → IsSome (get s k)
  pub single : (k : ℕ) → times k (list_of keys item) ≤ 1
  pub at : (k : ℕ) → next ≡ Some k → Contains (list_of keys item) k

-- there is room for so many places, and for so many keys; if not, all lists are as before
pub record AreLonger (p q : MarkedView) (keys keys' : ListsView) (most : ℕ) : Type 0 where
  pub few : most ≤ 2 ^ 31
  pub places : q ≡ with_room p (2 * most)
  pub longer : keys' ≡ record keys { items = max keys.items most }

pub record AreAsLong (p q : MarkedView) (keys keys' : ListsView) : Type 0 where
  pub places : q ≡ p
  pub lists : keys'.lists ≡ keys.lists
  pub longer : keys.items ≤ keys'.items
