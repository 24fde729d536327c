-- How names without a generation lie in pages and above them. No public clause cites this module.
use Rattle.std.specs.Prelude.{◌≡◌, ◌⊎◌, ℕ, ◌<◌, ◌≤◌, List, [], ◌∷◌, Option, Some, None, refl}
use Rattle.std.specs.Coded.{Coded, code_by, coded×, coded_ℕ, coded_option}
use Rattle.std.specs.FinMap as map
use Rattle.name_space_base.specs.Pages.{PagesView, HasPage}
use Rattle.name_space.specs.declared.Entry.{Entry}
use Rattle.name_space.specs.Names.{Names, IsFreshName}
use Rattle.name_space_base.specs.High.{HighView}

pub record PlainView : Type 0 where
  pub names : Names
  -- for how many fresh names there is room
  pub room : ℕ
  -- the name for which a place is kept
  pub kept : Option ℕ

abbrev pub plain_code : Coded Entry → Coded PlainView
plain_code code =
    code_by (Names × (ℕ × Option ℕ)) (coded× (map.code coded_ℕ code) (coded× coded_ℕ (coded_option coded_ℕ))) (λ v. (v.names, (v.room, v.kept))) (λ p. record { names = p.0; room = p.1.0; kept = p.1.1 }) (λ _. refl)

-- A name that isn't in use can be put in without memory: the fresh one, in room, or the one for which a place is kept.
abbrev pub HasPlainPlace : PlainView → (name : ℕ) → Type 0
HasPlainPlace v name = (IsFreshName v.names name × (0 < v.room)) ⊎ (v.kept ≡ Some name)

-- the map with each of these put in
abbrev pub with_all : List (ℕ × Entry) → Names → Names
with_all [] m = m
with_all (e ∷ es) m = map.insert (with_all es m) e.0 e.1

abbrev pub joined : (low high : Names) → Names
joined low high = with_all (map.entries high) low

-- Each name is where it belongs. There are places in pages for as many fresh names as there is room for, and for the name that is kept.
pub record IsLaid (low : PagesView Entry) (high : HighView Entry) (room : ℕ) (kept : Option ℕ) : Type 0 where
  pub low_names : (name : ℕ) → 65536 ≤ name → map.get low.values name ≡ None
  pub high_names : (name : ℕ) → name < 65536 → map.get high.names name ≡ None
  pub has_room : room ≤ low.room
  pub low_place : (name : ℕ) → kept ≡ Some name → name < 65536 → HasPage low name
  pub high_place : (name : ℕ) → kept ≡ Some name → 65536 ≤ name → high.kept ≡ Some name
