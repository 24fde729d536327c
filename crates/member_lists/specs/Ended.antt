-- How lists of items of which some are marked are kept. No public clause cites this module.
use Rattle.std.specs.Prelude.{◌≡◌, ℕ, ◌+◌, ◌<◌, ◌≤◌, ◌++◌, List, [], ◌∷◌, Some, None, length, slice_get, refl}
use Rattle.std.specs.List.{Contains}
use Rattle.std.specs.Coded.{Coded, code_by, coded×, coded_ℕ}
use Rattle.std.specs.FinMap as finite
use Rattle.std.specs.Ordering.{nat_cmp}
use Rattle.member_lists.specs.declared.Link.{Link}
use Rattle.member_lists.specs.declared.Ends.{Ends}
use Rattle.member_lists.specs.Lists.{ListsView, list_of, with_list, without}
use Rattle.member_lists.specs.Chains.{lists_of, ends_at, IsKept}

-- the ends of the lists that have items, and of those that have marked ones, and room for so many more lists
pub record EndsMapView : Type 0 where
  pub all : finite.FinMap nat_cmp Ends
  pub marked : finite.FinMap nat_cmp Ends
  pub room : ℕ

abbrev pub ends_map_code : Coded Ends → Coded EndsMapView
ends_map_code ends = code_by
    (finite.FinMap nat_cmp Ends × (finite.FinMap nat_cmp Ends × ℕ)) (coded× (finite.code coded_ℕ ends) (coded× (finite.code coded_ℕ ends) coded_ℕ))
    (λ v. (v.all, (v.marked, v.room)))
    (λ p. record { all = p.0; marked = p.1.0; room = p.1.1 })
    (λ _. refl)

-- the lists that these links and ends give
abbrev pub lists_in : List Link → finite.FinMap nat_cmp Ends → ListsView
lists_in links ends = record { lists = lists_of links ends; items = length links }

-- Both are kept, marked items are of the list, and there is room for as many lists as items.
pub record IsMarked (links marks : List Link) (ends : EndsMapView) : Type 0 where
  pub all : IsKept links ends.all
  pub marked : IsKept marks ends.marked
  pub long : length marks ≡ length links
  pub within : (list x : ℕ) → Contains (list_of (lists_in marks ends.marked) list) x → Contains (list_of (lists_in links ends.all) list) x
  pub enough : length links ≤ finite.len ends.all + ends.room

-- there are so many links, and the first ones are as they were
pub record IsLengthened (old new : List Link) (items : ℕ) : Type 0 where
  pub len : length new ≡ items
  pub first : (x : ℕ) → x < length old → slice_get new x ≡ slice_get old x

abbrev pub AreLengthened : (links links' marks marks' : List Link) (items : ℕ) → Type 0
AreLengthened links links' marks marks' items = IsLengthened links links' items × IsLengthened marks marks' items

-- ---- the first item of a list stands behind the others

-- the first item of this list stands behind its others, if it has any; each other list is as it was
pub record IsPassed (old new : List Link) (was now : finite.FinMap nat_cmp Ends) (list : ℕ) : Type 0 where
  pub kept : IsKept new now
  pub none : slice_get (list_of (lists_in old was) list) 0 ≡ None → lists_in new now ≡ lists_in old was
  pub some : (item : ℕ) → slice_get (list_of (lists_in old was) list) 0 ≡ Some item →
      lists_in new now ≡ with_list (lists_in old was) list (without item (list_of (lists_in old was) list) ++ item ∷ [])

-- they are the ends of one of the lists that are kept by these links
pub record AreSomeEnds (links : List Link) (e : Ends) : Type 0 where
  pub ends : finite.FinMap nat_cmp Ends
  pub list : ℕ
  pub kept : IsKept links ends
  pub are : e ≡ ends_at ends list

-- the first item of each list with the first ends stands behind the others, once the list has the other ends
abbrev pub IsPassedBy : (old new : List Link) (was now : Ends) → Type 0
IsPassedBy old new was now = (ends next : finite.FinMap nat_cmp Ends) (list : ℕ) → IsKept old ends → was ≡ ends_at ends list →
    (now.first ≡ None → next ≡ finite.remove ends list) → ((x : ℕ) → now.first ≡ Some x → next ≡ finite.insert ends list now) → IsPassed old new ends next list
