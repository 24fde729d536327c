-- What contracts see of values by small numbers: a finite map, for how many more there is room at the least free numbers, and which pages are made.
use Rattle.std.specs.Prelude.{◌≡◌, ◌≢◌, ℕ, ◌/◌, ◌<◌, ◌≤◌, true, ◌⊎◌, None, refl}
use Rattle.std.specs.Coded.{Coded, code_by, coded×, coded_ℕ}
use Rattle.std.specs.FinMap as map
use Rattle.std.specs.FinSet as set
use Rattle.std.specs.Ordering.{nat_cmp}

pub record PagesView (T : Type 0) : Type 0 where
  pub values : map.FinMap nat_cmp T
  pub room : ℕ
  -- the page of a number is the number divided by 256
  pub made : set.FinSet nat_cmp

abbrev pub pages_code : {T : Type 0} → Coded T → Coded (PagesView T)
pages_code {T} code =
    code_by
    (map.FinMap nat_cmp T × (ℕ × set.FinSet nat_cmp))
    (coded× (map.code coded_ℕ code) (coded× coded_ℕ (set.code coded_ℕ)))
    (λ v. (v.values, (v.room, v.made)))
    (λ p. record { values = p.0; room = p.1.0; made = p.1.1 })
    (λ _. refl)

-- the least number from 1 that has no value
pub record IsFirstFree {T : Type 0} (values : map.FinMap nat_cmp T) (number : ℕ) : Type 0 where
  pub free : map.get values number ≡ None
  pub positive : 0 < number
  pub least : (n : ℕ) → 0 < n → n < number → map.contains_key values n ≡ true

-- the page of the number is made
abbrev pub HasPage : {T : Type 0} → PagesView T → ℕ → Type 0
HasPage v number = set.contains v.made (number / 256) ≡ true

-- a value can be put in under the number with no memory
abbrev pub HasPlace : {T : Type 0} → PagesView T → ℕ → Type 0
HasPlace v number = (IsFirstFree v.values number × (0 < v.room)) ⊎ HasPage v number

-- The page of the number isn't made, so that no number in it has a value.
pub record WantsPage {T : Type 0} (v : PagesView T) (number : ℕ) : Type 0 where
  pub unmade : HasPage v number → ⊥
  pub alone : (n : ℕ) → map.contains_key v.values n ≡ true → n / 256 ≢ number / 256

-- the least used number from another on
pub record IsNextUsed {T : Type 0} (values : map.FinMap nat_cmp T) (start number : ℕ) : Type 0 where
  pub from : start ≤ number
  pub used : map.contains_key values number ≡ true
  pub least : (n : ℕ) → start ≤ n → n < number → map.get values n ≡ None
