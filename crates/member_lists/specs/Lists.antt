-- What contracts see of lists of items: each list that has items, by its number, and how many items there is room for.
use Rattle.std.specs.Prelude.{ℕ, Bool, true, false, not, cond, eqb, max, map as map_list, List, [], ◌∷◌, unwrap_or, refl}
use Rattle.std.specs.List.{Contains, filter}
use Rattle.std.specs.Coded.{Coded, code_by, coded×, coded_ℕ, coded_list}
use Rattle.std.specs.FinMap as map
use Rattle.std.specs.Ordering.{nat_cmp}

pub record ListsView : Type 0 where
  pub lists : map.FinMap nat_cmp (List ℕ)
  pub items : ℕ

abbrev pub lists_code : Coded ListsView
lists_code = code_by
    (map.FinMap nat_cmp (List ℕ) × ℕ) (coded× (map.code coded_ℕ (coded_list coded_ℕ)) coded_ℕ)
    (λ v. (v.lists, v.items))
    (λ p. record { lists = p.0; items = p.1 })
    (λ _. refl)

-- the items of a list in order, none where no such list stands
abbrev pub list_of : ListsView → ℕ → List ℕ
list_of v list = unwrap_or (map.get v.lists list) []

-- an item that is in no list
abbrev pub IsApart : ListsView → ℕ → Type 0
IsApart v item = (list : ℕ) → ¬ (Contains (list_of v list) item)

-- one list has these items, and stands no longer where it has none; each other is as it was
abbrev pub with_list : ListsView → ℕ → List ℕ → ListsView
with_list v list [] = record v { lists = map.remove v.lists list }
with_list v list (x ∷ xs) = record v { lists = map.insert v.lists list (x ∷ xs) }

-- the items but this one, in their order
abbrev pub without : ℕ → List ℕ → List ℕ
without item = filter (λ x. not (eqb x item))

-- the items with another in the place of this one
abbrev pub exchanged : (item by : ℕ) → List ℕ → List ℕ
exchanged item by = map_list (λ x. cond (eqb x item) by x)

-- ---- lists of items of which some are marked: all lists, and those of the marked items

pub record MarkedView : Type 0 where
  pub all : ListsView
  pub marked : ListsView

abbrev pub marked_code : Coded MarkedView
marked_code = code_by
    (ListsView × ListsView) (coded× lists_code lists_code)
    (λ v. (v.all, v.marked))
    (λ p. record { all = p.0; marked = p.1 })
    (λ _. refl)

-- there is room for so many items, or for as many as before
abbrev pub with_room : MarkedView → (items : ℕ) → MarkedView
with_room v items = record {
  all = record v.all { items = max v.all.items items };
  marked = record v.marked { items = max v.marked.items items };
}

-- the item is marked in this list, or it is in none
abbrev pub IsMarkedIn : MarkedView → (list item : ℕ) → Bool → Type 0
IsMarkedIn v list item true = Contains (list_of v.marked list) item
IsMarkedIn v list item false = IsApart v.marked item

-- another item stands in the place of this one of a list, and among the marked ones too where it is marked
abbrev pub replaced : MarkedView → (list item by : ℕ) → (is_marked : Bool) → MarkedView
replaced v list item by is_marked = record {
  all = with_list v.all list (exchanged item by (list_of v.all list));
  marked = cond is_marked (with_list v.marked list (exchanged item by (list_of v.marked list))) v.marked;
}
