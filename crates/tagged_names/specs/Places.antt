-- How names lie: of each index one in a page, under the index, and the others in a tree. No public clause cites this module.
use Rattle.std.specs.Prelude.{◌≡◌, ℕ, zero, suc, ◌/◌, ◌<◌, ◌≤◌, ◌==◌, if◌then◌else◌, true, cond, nat_lt, Option, Some, None, is_some, refl}
use Rattle.std.specs.Coded.{Coded, code_by, coded×, coded_ℕ, coded_option}
use Rattle.std.specs.FinMap as map
use Rattle.std.specs.Ordering.{nat_cmp}
use Rattle.name_space_base.specs.Pages.{PagesView, HasPage}
use Rattle.name_space_base.specs.High.{HighView}
use Rattle.tagged_names.specs.declared.places.Slot.{Slot}

-- the names, for how many more there is room at the least free indices, and the name for which a place is kept
pub record PlacesView (V : Type 0) : Type 0 where
  pub names : map.FinMap nat_cmp V
  pub room : ℕ
  pub kept : Option ℕ

-- a view is stored as the pair of its fields
abbrev pub places_code : {V : Type 0} → Coded V → Coded (PlacesView V)
places_code {V} code =
    code_by
    (map.FinMap nat_cmp V × (ℕ × Option ℕ))
    (coded× (map.code coded_ℕ code) (coded× coded_ℕ (coded_option coded_ℕ)))
    (λ v. (v.names, (v.room, v.kept)))
    (λ p. record { names = p.0; room = p.1.0; kept = p.1.1 })
    (λ _. refl)

-- the lesser of two numbers that may not be there
abbrev pub least_of : Option ℕ → Option ℕ → Option ℕ
least_of None b = b
least_of (Some a) None = Some a
least_of (Some a) (Some b) = Some (cond (nat_lt b a) b a)

-- what lies in the place of each index
abbrev pub Slots : Type 0 → Type 0
Slots V = map.FinMap nat_cmp (Slot V)

module _ {V : Type 0} where
  -- the value in a slot, if it is this name's
  abbrev pub value_for : ℕ → Option (Slot V) → Option V
  value_for name None = None
  value_for name (Some slot) = if slot.name == name then Some slot.value else None

  -- the value under a name that has the place of its index
  abbrev pub placed : Slots V → (name : ℕ) → Option V
  placed slots name = value_for name (map.get slots (name / 256))

  -- the map with what is in a slot
  abbrev pub with_slot : map.FinMap nat_cmp V → Option (Slot V) → map.FinMap nat_cmp V
  with_slot m None = m
  with_slot m (Some slot) = map.insert m slot.name slot.value

  -- the names in a tree, and those in the places of the indices below a bound
  unfoldable pub joined : Slots V → map.FinMap nat_cmp V → (bound : ℕ) → map.FinMap nat_cmp V
  joined slots others zero = others
  joined slots others (suc bound) = with_slot (joined slots others bound) (map.get slots bound)

  -- Each slot has a name of its index, and is in a page.
  pub record IsPlaced (slots : Slots V) : Type 0 where
    pub indexed : (index : ℕ) (slot : Slot V) → map.get slots index ≡ Some slot → slot.name / 256 ≡ index
    pub paged : (index : ℕ) → 65536 ≤ index → map.get slots index ≡ None

  -- The index lies in a page, and no name has its place.
  abbrev pub IsOpen : Slots V → (index : ℕ) → Type 0
  IsOpen slots index = (0 < index) × (index < 65536) × (map.get slots index ≡ None)

  -- the least name from another on that has the place of its index
  pub record IsNextPlaced (slots : Slots V) (start name : ℕ) : Type 0 where
    pub from : start ≤ name
    pub used : is_some (placed slots name) ≡ true
    pub least : (n : ℕ) → start ≤ n → n < name → placed slots n ≡ None

  -- A name in the tree with an index that can be fresh has the place of its index taken by another name.
  pub record IsLaid (slots : Slots V) (others : map.FinMap nat_cmp V) : Type 0 where
    pub slots_placed : IsPlaced slots
    pub apart : (name : ℕ) → map.contains_key others name ≡ true → placed slots name ≡ None
    pub beside : (name : ℕ) → map.contains_key others name ≡ true → 0 < name / 256 → name / 256 < 65536 → map.contains_key slots (name / 256) ≡ true

  -- Names lie so, and the page of the name for which a place is kept is made.
  pub record IsReady (slots : PagesView (Slot V)) (others : HighView V) : Type 0 where
    pub laid : IsLaid slots.values others.names
    pub paged : (name : ℕ) → others.kept ≡ Some name → 0 < name / 256 → name / 256 < 65536 → HasPage slots (name / 256)
