-- What contracts see of values by names with a generation: two finite maps, room, and the name for which a place is kept. The index of a name is the name divided by 256.
use Rattle.std.specs.Prelude.{◌≡◌, ◌≢◌, ◌⊎◌, ℕ, zero, suc, ◌+◌, ◌/◌, ◌%◌, ◌<◌, true, Option, Some, None, unwrap_or, refl}
use Rattle.std.specs.Coded.{Coded, code_by, coded×, coded_ℕ, coded_option}
use Rattle.std.specs.FinMap as map
use Rattle.std.specs.Ordering.{nat_cmp}
use Rattle.name_space_base.specs.High.{KeepsUsed}

-- how often a fresh name was counted at each index, modulo 256; where that is 0 the map has nothing
abbrev pub Given : Type 0
Given = map.FinMap nat_cmp ℕ

-- the values by names, the counts and the room of fresh names, and the kept place
pub record TaggedView (V : Type 0) : Type 0 where
  pub names : map.FinMap nat_cmp V
  pub given : Given
  -- for how many fresh names there is room
  pub room : ℕ
  -- the name for which a place is kept
  pub kept : Option ℕ

-- a view is stored as the tuple of its fields
abbrev pub tagged_code : {V : Type 0} → Coded V → Coded (TaggedView V)
tagged_code {V} code =
    code_by
    (map.FinMap nat_cmp V × (Given × (ℕ × Option ℕ)))
    (coded× (map.code coded_ℕ code) (coded× (map.code coded_ℕ coded_ℕ) (coded× coded_ℕ (coded_option coded_ℕ))))
    (λ v. (v.names, (v.given, (v.room, v.kept))))
    (λ p. record { names = p.0; given = p.1.0; room = p.1.1.0; kept = p.1.1.1 })
    (λ _. refl)

-- the count at an index
abbrev pub count_of : Given → (index : ℕ) → ℕ
count_of given index = unwrap_or (map.get given index) 0

-- the counts with this one at the index
abbrev pub with_count : Given → (index count : ℕ) → Given
with_count given index zero = map.remove given index
with_count given index (suc n) = map.insert given index (suc n)

-- the counts after a fresh name was counted at the index
abbrev pub counted : Given → (index : ℕ) → Given
counted given index = with_count given index ((count_of given index + 1) % 256)

-- a name of the index is in use
pub record IsTaken {V : Type 0} (names : map.FinMap nat_cmp V) (index : ℕ) : Type 0 where
  pub name : ℕ
  pub at : name / 256 ≡ index
  pub used : map.contains_key names name ≡ true

-- the least index from 1 under which no name is in use
pub record IsFreshIndex {V : Type 0} (names : map.FinMap nat_cmp V) (index : ℕ) : Type 0 where
  pub free : (name : ℕ) → name / 256 ≡ index → map.get names name ≡ None
  pub positive : 0 < index
  pub least : (i : ℕ) → 0 < i → i < index → IsTaken names i

-- the fresh name: it has the fresh index, and the count there, modulo 256, as its low 8 bits
pub record IsFreshName {V : Type 0} (v : TaggedView V) (name : ℕ) : Type 0 where
  pub index : IsFreshIndex v.names (name / 256)
  pub low : name % 256 ≡ count_of v.given (name / 256) % 256

-- A fresh name can be counted at the index: each lesser one is taken, and this one is too, or there is room for a name of it.
pub record CanCount {V : Type 0} (v : TaggedView V) (index : ℕ) : Type 0 where
  pub positive : 0 < index
  pub small : index < 65536
  pub least : (i : ℕ) → 0 < i → i < index → IsTaken v.names i
  pub here : (0 < v.room) ⊎ IsTaken v.names index

-- A name that isn't in use can be put in without memory: one of the fresh index, in room, or the one for which a place is kept.
abbrev pub HasPlace : {V : Type 0} → TaggedView V → (name : ℕ) → Type 0
HasPlace v name = (IsFreshIndex v.names (name / 256) × (0 < v.room)) ⊎ (v.kept ≡ Some name)

-- The index is from 1 to 65,535, and in its page of 256 such indices none is that of a name in use, nor of the one for which a place is kept.
pub record HasNoNeighbour {V : Type 0} (names : map.FinMap nat_cmp V) (kept : Option ℕ) (index : ℕ) : Type 0 where
  pub positive : 0 < index
  pub small : index < 65536
  pub alone : (name : ℕ) → map.contains_key names name ≡ true → 0 < name / 256 → name / 256 / 256 ≢ index / 256
  pub apart : (name : ℕ) → kept ≡ Some name → 0 < name / 256 → name / 256 / 256 ≢ index / 256

-- A place for the name may want memory: for a count, for the name that gives up the place, or for a page.
abbrev pub MayWantPlace : {V : Type 0} → TaggedView V → (name : ℕ) → Type 0
MayWantPlace v name = (v.room ≡ 0) ⊎ (KeepsUsed v.names v.kept ⊎ HasNoNeighbour v.names v.kept (name / 256))
