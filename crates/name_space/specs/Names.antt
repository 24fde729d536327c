-- What contracts see of a task's names: a finite map, for which names to come there is a place, and, where names have a generation, the counts of fresh ones.
use Rattle.std.specs.Prelude.{◌≡◌, ◌≢◌, ◌⊎◌, ⊤, ℕ, ◌/◌, ◌<◌, ◌≤◌, Bool, true, false, Option, Some, None, refl}
use Rattle.std.specs.Coded.{Coded, code_by, coded×, coded_ℕ, coded_option}
use Rattle.std.specs.Option.{option_and_then}
use Rattle.std.specs.FinMap as map
use Rattle.std.specs.Ordering.{nat_cmp}
use Rattle.mach_types.specs.Numbers.{null_word, dead_word}
use Rattle.tagged_names.specs.Names.{TaggedView, Given, counted, IsFreshIndex, CanCount}
use Rattle.tagged_names.specs.Names as tagged
use Rattle.name_space.specs.declared.Entry.{Entry}
use Rattle.name_space.specs.Entry.{port_named}

abbrev pub Names : Type 0
Names = map.FinMap nat_cmp Entry

pub record SpaceView : Type 0 where
  pub names : Names
  -- for how many fresh names there is room
  pub room : ℕ
  -- the name for which a place is kept
  pub kept : Option ℕ
  -- where names have a generation: how often a fresh one was counted at each index, modulo 256
  pub given : Option Given

abbrev pub space_code : Coded Entry → Coded SpaceView
space_code code =
    code_by
    (Names × (ℕ × (Option ℕ × Option Given)))
    (coded× (map.code coded_ℕ code) (coded× coded_ℕ (coded× (coded_option coded_ℕ) (coded_option (map.code coded_ℕ coded_ℕ)))))
    (λ v. (v.names, (v.room, (v.kept, v.given))))
    (λ p. record { names = p.0; room = p.1.0; kept = p.1.1.0; given = p.1.1.1 })
    (λ _. refl)

-- the space as names with a generation, of these counts
abbrev pub tagged_of : Given → SpaceView → TaggedView Entry
tagged_of given v = record { names = v.names; given = given; room = v.room; kept = v.kept }

-- a number under which something may stand
pub record IsUsable (name : ℕ) : Type 0 where
  pub not_null : name ≢ null_word
  pub not_dead : name ≢ dead_word

-- the port for which a receive right or send rights stand under the name
abbrev pub port_at : Names → ℕ → Option ℕ
port_at names name = option_and_then port_named (map.get names name)

-- no name has a receive right or send rights for the entry's port, if it is of such rights
abbrev pub HasNoOther : Names → Entry → Type 0
HasNoOther names entry = (port name : ℕ) → port_named entry ≡ Some port → port_at names name ≢ Some port

-- the least unused number from 1
pub record IsFreshName {X : Type 0} (names : map.FinMap nat_cmp X) (name : ℕ) : Type 0 where
  pub unused : map.get names name ≡ None
  pub not_null : 0 < name
  pub least : (n : ℕ) → 0 < n → n < name → map.contains_key names n ≡ true

-- the least name in use from this one on
pub record IsNextName {X : Type 0} (names : map.FinMap nat_cmp X) (start name : ℕ) : Type 0 where
  pub from : start ≤ name
  pub used : map.contains_key names name ≡ true
  pub least : (n : ℕ) → start ≤ n → n < name → map.get names n ≡ None

-- the fresh name: the least unused number, or with a generation that of the least unused index
abbrev pub IsFreshIn : Option Given → SpaceView → (name : ℕ) → Type 0
IsFreshIn None v name = IsFreshName v.names name
IsFreshIn (Some given) v name = tagged.IsFreshName (tagged_of given v) name

abbrev pub IsFreshFor : SpaceView → (name : ℕ) → Type 0
IsFreshFor v name = IsFreshIn v.given v name

-- The fresh name, or one of its index, can be put in, in room.
abbrev pub HasRoomIn : Option Given → SpaceView → (name : ℕ) → Type 0
HasRoomIn None v name = IsFreshName v.names name × (0 < v.room)
HasRoomIn (Some given) v name = IsFreshIndex v.names (name / 256) × (0 < v.room)

-- A name that isn't in use can be put in without memory: the fresh one, in room, or the one for which a place is kept.
abbrev pub HasPlace : SpaceView → (name : ℕ) → Type 0
HasPlace v name = HasRoomIn v.given v name ⊎ (v.kept ≡ Some name)

-- A fresh name can be counted: names have no generation, or the count has a place.
abbrev pub CanCountIn : Option Given → SpaceView → (name : ℕ) → Type 0
CanCountIn None v name = ⊤
CanCountIn (Some given) v name = CanCount (tagged_of given v) (name / 256)

-- the counts after the name was counted as a fresh one
abbrev pub given_after : Option Given → (name : ℕ) → Option Given
given_after None name = None
given_after (Some given) name = Some (counted given (name / 256))

-- the counts of a new space
abbrev pub first_given : (has_generations : Bool) → Option Given
first_given false = None
first_given true = Some map.empty

-- No name of the same 256 is in use, nor is a place kept for one.
pub record HasNoNeighbour (names : Names) (kept : Option ℕ) (name : ℕ) : Type 0 where
  pub alone : (n : ℕ) → map.contains_key names n ≡ true → n / 256 ≢ name / 256
  pub apart : (n : ℕ) → kept ≡ Some n → n / 256 ≢ name / 256

-- A port's name has the place that is kept.
abbrev pub HoldsPort : SpaceView → Type 0
HoldsPort v = (kept port : ℕ) × (v.kept ≡ Some kept) × (port_at v.names kept ≡ Some port)

-- A place for the name may want memory: above all pages, or for a page; with a generation also for a count, or for the name that gives up the place.
abbrev pub MayWantIn : Option Given → SpaceView → (name : ℕ) → Type 0
MayWantIn None v name = (65536 ≤ name) ⊎ HasNoNeighbour v.names v.kept name
MayWantIn (Some given) v name = tagged.MayWantPlace (tagged_of given v) name

-- Memory may be wanted for a place for the name: for the port that leaves the place, or where the name lies.
abbrev pub MayWantPlace : SpaceView → (name : ℕ) → Type 0
MayWantPlace v name = HoldsPort v ⊎ MayWantIn v.given v name
