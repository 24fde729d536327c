-- What contracts see of lists whose items may each be in several: the items of each list, the ready ones of each list in their turns, the further lists of each item, and how many further ones there is room for.
use Rattle.std.specs.Prelude.{◌≡◌, ◌≢◌, ℕ, ◌-◌, max, ◌++◌, Bool, true, false, cond, List, [], ◌∷◌, Option, Some, None, unwrap_or, refl}
use Rattle.std.specs.List.{Contains}
use Rattle.std.specs.Coded.{Coded, code_by, coded×, coded_ℕ, coded_list, coded_bool}
use Rattle.std.specs.FinMap as map
use Rattle.std.specs.Ordering.{nat_cmp}
use Rattle.member_lists.specs.Lists.{ListsView, lists_code, list_of, with_list, without, IsApart}

pub record SharedView : Type 0 where
  pub all : ListsView
  pub ready : ListsView
  -- by an item's number, its lists but for the first, in the order in which it entered them
  pub more : map.FinMap nat_cmp (List ℕ)
  pub room : ℕ
  -- whether an item may be in several lists
  pub several : Bool

abbrev pub shared_code : Coded SharedView
shared_code = code_by
    (ListsView × (ListsView × (map.FinMap nat_cmp (List ℕ) × (ℕ × Bool))))
    (coded× lists_code (coded× lists_code (coded× (map.code coded_ℕ (coded_list coded_ℕ)) (coded× coded_ℕ coded_bool))))
    (λ v. (v.all, (v.ready, (v.more, (v.room, v.several)))))
    (λ p. record { all = p.0; ready = p.1.0; more = p.1.1.0; room = p.1.1.1.0; several = p.1.1.1.1 })
    (λ _. refl)

-- ---- the lists of an item

-- an item's lists but for the first
abbrev pub more_of : SharedView → (item : ℕ) → List ℕ
more_of v item = unwrap_or (map.get v.more item) []

-- the item has these further lists, and each other item those that it had
abbrev pub with_more : map.FinMap nat_cmp (List ℕ) → (item : ℕ) → List ℕ → map.FinMap nat_cmp (List ℕ)
with_more more item [] = map.remove more item
with_more more item (x ∷ xs) = map.insert more item (x ∷ xs)

-- this is the first of the item's lists
pub record IsFirst (v : SharedView) (list item : ℕ) : Type 0 where
  pub inside : Contains (list_of v.all list) item
  pub not_further : ¬ (Contains (more_of v item) list)

-- the item is ready, in each of its lists, or it is in none
abbrev pub IsReady : SharedView → (item : ℕ) → Bool → Type 0
IsReady v item true = (list : ℕ) → Contains (list_of v.all list) item → Contains (list_of v.ready list) item
IsReady v item false = IsApart v.ready item

-- ---- what a call does

abbrev pub empty : (several : Bool) → SharedView
empty several = record { all = record { lists = map.empty; items = 0 }; ready = record { lists = map.empty; items = 0 }; more = map.empty; room = 0; several = several }

-- there is room for so many items, or for as many as before
abbrev pub with_items : SharedView → (items : ℕ) → SharedView
with_items v items = record v { all = record v.all { items = max v.all.items items }; ready = record v.ready { items = max v.ready.items items } }

-- there is room for so many items, and for so many further lists
abbrev pub roomier : SharedView → (items room : ℕ) → SharedView
roomier v items room = record v { all = record v.all { items = items }; ready = record v.ready { items = items }; room = room }

-- the item stands at the end of this list too
abbrev pub joined : ListsView → (list item : ℕ) → ListsView
joined v list item = with_list v list (list_of v list ++ item ∷ [])

-- the item is out of this list
abbrev pub parted : ListsView → (list item : ℕ) → ListsView
parted v list item = with_list v list (without item (list_of v list))

-- the item stands at the end of these lists, one after the other
abbrev pub joined_each : ListsView → (lists : List ℕ) → (item : ℕ) → ListsView
joined_each v [] item = v
joined_each v (list ∷ lists) item = joined_each (joined v list item) lists item

-- the item is out of these lists
abbrev pub parted_each : ListsView → (lists : List ℕ) → (item : ℕ) → ListsView
parted_each v [] item = v
parted_each v (list ∷ lists) item = parted_each (parted v list item) lists item

-- an item enters a list, at the end of its items, and of its ready ones, if it is ready
abbrev pub entered : SharedView → (list item : ℕ) → (is_ready : Bool) → SharedView
entered v list item is_ready = record v { all = joined v.all list item; ready = cond is_ready (joined v.ready list item) v.ready }

-- an item leaves a list, and its ready ones, if it is ready
abbrev pub left : SharedView → (list item : ℕ) → (is_ready : Bool) → SharedView
left v list item is_ready = record v { all = parted v.all list item; ready = cond is_ready (parted v.ready list item) v.ready }

-- the list is the last of the item's lists too
abbrev pub with_further : SharedView → (list item : ℕ) → SharedView
with_further v list item = record v { more = with_more v.more item (more_of v item ++ list ∷ []); room = v.room - 1 }

-- the list isn't one of the item's further lists, and there is room for so many more
abbrev pub without_further : SharedView → (list item room : ℕ) → SharedView
without_further v list item room = record v { more = with_more v.more item (without list (more_of v item)); room = room }

-- an item leaves these lists, and their ready ones, if it is ready
abbrev pub left_each : SharedView → (lists : List ℕ) → (item : ℕ) → (is_ready : Bool) → SharedView
left_each v lists item is_ready = record v { all = parted_each v.all lists item; ready = cond is_ready (parted_each v.ready lists item) v.ready }

-- the lists of an item: the first, if there is one, and the others
abbrev pub with_first : Option ℕ → List ℕ → List ℕ
with_first None lists = lists
with_first (Some first) lists = first ∷ lists

-- the further lists of each other item are as they were
abbrev pub OthersKeep : (old new : SharedView) → (item : ℕ) → Type 0
OthersKeep old new item = (other : ℕ) → other ≢ item → map.get new.more other ≡ map.get old.more other
