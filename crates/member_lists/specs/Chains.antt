-- How lists are kept: by links between their items, and by the ends of each. No public clause cites this module.
use Rattle.std.specs.Prelude.{◌≡◌, ◌≢◌, ℕ, zero, suc, ◌+◌, ◌<◌, ◌≤◌, ◌^◌, cond, eqb, List, [], ◌∷◌, length, Option, Some, None, slice_get, slice_set, unwrap_or}
use Rattle.std.specs.Option.{option_map_or, option_or}
use Rattle.std.specs.FinMap as finite
use Rattle.std.specs.Ordering.{nat_cmp}
use Rattle.number_map.specs.Maps.{MapView}
use Rattle.member_lists.specs.Values.{with_values}
use Rattle.member_lists.specs.declared.Link.{Link}
use Rattle.member_lists.specs.declared.Ends.{Ends}

abbrev pub blank_link : Link
blank_link = record { before = None; behind = None }

abbrev pub blank_ends : Ends
blank_ends = record { first = None; last = None }

-- ---- writes

-- the item behind this one, if there is one, is another; nothing else is changed
pub record IsBehindSet (old new : List Link) (item behind : Option ℕ) : Type 0 where
  pub set : (x : ℕ) (link : Link) → item ≡ Some x → slice_get old x ≡ Some link → slice_get new x ≡ Some (record link { behind = behind })
  pub others : (x : ℕ) → item ≢ Some x → slice_get new x ≡ slice_get old x
  pub len : length new ≡ length old

-- the item before this one, if there is one, is another; nothing else is changed
pub record IsBeforeSet (old new : List Link) (item before : Option ℕ) : Type 0 where
  pub set : (x : ℕ) (link : Link) → item ≡ Some x → slice_get old x ≡ Some link → slice_get new x ≡ Some (record link { before = before })
  pub others : (x : ℕ) → item ≢ Some x → slice_get new x ≡ slice_get old x
  pub len : length new ≡ length old

-- the other where nothing is beside, and else what was there
abbrev pub pick : (beside other was : Option ℕ) → Option ℕ
pick None other was = other
pick (Some _) other was = was

-- an item that was in no list is linked behind the last one of the list with these ends, which has others then
pub record IsLinkedLast (old new : List Link) (item : ℕ) (was now : Ends) : Type 0 where
  pub linked : IsBehindSet (slice_set old item (record { before = was.last; behind = None })) new was.last (Some item)
  pub first : now.first ≡ option_or was.first (Some item)
  pub last : now.last ≡ Some item

-- the neighbours of an item of the list with these ends are linked to one another, and the list has others then
pub record IsUnlinked (old new : List Link) (item : ℕ) (was now : Ends) : Type 0 where
  pub link : Link
  pub there : slice_get old item ≡ Some link
  pub between : List Link
  pub ahead : IsBehindSet old between link.before link.behind
  pub rear : IsBeforeSet between new link.behind link.before
  pub first : now.first ≡ pick link.before link.behind was.first
  pub last : now.last ≡ pick link.behind link.before was.last

-- another item is linked in the place of this one of the list with these ends, which has others then
pub record IsRelinked (old new : List Link) (item by : ℕ) (was now : Ends) : Type 0 where
  pub link : Link
  pub there : slice_get old item ≡ Some link
  pub between : List Link
  pub ahead : IsBehindSet (slice_set old by link) between link.before (Some by)
  pub rear : IsBeforeSet between new link.behind (Some by)
  pub first : now.first ≡ pick link.before (Some by) was.first
  pub last : now.last ≡ pick link.behind (Some by) was.last

-- the ends of a list once an item left it that stood between these two
abbrev pub left_by : (before behind : Option ℕ) → Ends → Ends
left_by before behind was = record { first = pick before behind was.first; last = pick behind before was.last }

-- the ends of a list once the item joined it at its end
abbrev pub joined_by : (item : ℕ) → Ends → Ends
joined_by item was = record { first = option_or was.first (Some item); last = Some item }

-- ---- lists

-- at most so many items, from this one on
abbrev pub walk : List Link → ℕ → Option ℕ → List ℕ
walk links zero from = []
walk links (suc n) None = []
walk links (suc n) (Some x) = option_map_or (λ link. x ∷ walk links n link.behind) (slice_get links x) []

-- the ends of a list, blank where it has no items
abbrev pub ends_at : finite.FinMap nat_cmp Ends → ℕ → Ends
ends_at ends list = unwrap_or (finite.get ends list) blank_ends

-- the items from the first of a list on
abbrev pub items_from : List Link → Ends → List ℕ
items_from links ends = walk links (length links) ends.first

-- the lists that have items: each has its ends in the map
abbrev pub lists_of : List Link → finite.FinMap nat_cmp Ends → finite.FinMap nat_cmp (List ℕ)
lists_of links ends = with_values (items_from links) ends

-- ---- chains

-- the first of these, or else this
abbrev pub first_or : List ℕ → Option ℕ → Option ℕ
first_or [] next = next
first_or (x ∷ xs) next = Some x

-- the last of these, or else this
abbrev pub last_or : Option ℕ → List ℕ → Option ℕ
last_or before [] = before
last_or before (x ∷ xs) = last_or (Some x) xs

-- how often the item stands there
abbrev pub times : ℕ → List ℕ → ℕ
times x [] = 0
times x (y ∷ ys) = cond (eqb x y) 1 0 + times x ys

-- the item has a link, with these neighbours
pub record IsBetween (links : List Link) (x : ℕ) (before behind : Option ℕ) : Type 0 where
  pub link : Link
  pub there : slice_get links x ≡ Some link
  pub before_is : link.before ≡ before
  pub behind_is : link.behind ≡ behind

-- the items are linked both ways, from the one before them to the one behind
abbrev pub IsLinked : List Link → Option ℕ → List ℕ → Option ℕ → Type 0
IsLinked links before [] behind = Unit {0}
IsLinked links before (x ∷ xs) behind = IsBetween links x before (first_or xs behind) × IsLinked links (Some x) xs behind

-- these are the items of a chain
pub record IsChain (links : List Link) (ends : Ends) (xs : List ℕ) : Type 0 where
  pub linked : IsLinked links None xs None
  pub first : ends.first ≡ first_or xs None
  pub last : ends.last ≡ last_or None xs
  pub once : (x : ℕ) → times x xs ≤ 1

pub record IsSound (links : List Link) (ends : ℕ → Ends) : Type 0 where
  pub chained : ℕ → List ℕ
  pub chain : (c : ℕ) → IsChain links (ends c) (chained c)
  pub apart : (c d x : ℕ) → 0 < times x (chained c) → 0 < times x (chained d) → c ≡ d

-- each list in the map has a first item, and each place fits
pub record IsKept (links : List Link) (ends : finite.FinMap nat_cmp Ends) : Type 0 where
  pub sound : IsSound links (ends_at ends)
  pub filled : (l : ℕ) (e : Ends) → finite.get ends l ≡ Some e → (x : ℕ) × (e.first ≡ Some x)
  pub few : length links < 2 ^ 32

-- there is room in the map for as many lists as items
pub record IsRoomy (links : List Link) (ends : MapView Ends) : Type 0 where
  pub kept : IsKept links ends.map
  pub enough : length links ≤ finite.len ends.map + ends.room
