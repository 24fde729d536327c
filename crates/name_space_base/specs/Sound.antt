-- How values lie in pages. No public clause cites this module.
use Rattle.std.specs.Prelude.{◌≡◌, ◌≢◌, ℕ, zero, suc, ◌+◌, ◌-◌, ◌*◌, ◌/◌, ◌%◌, ◌<◌, ◌≤◌, ◌==◌, ◌⊎◌, Bool, cond, List, [], length, Option, Some, None, nat_lt, slice_index_or}
use Rattle.std.specs.FinMap as map
use Rattle.std.specs.FinSet as set
use Rattle.std.specs.Ordering.{nat_cmp}
use Rattle.name_space_base.specs.Bits.{has}
use Rattle.name_space_base.specs.Page.{used_in, IsBlank}

module _ {T : Type 0} where
  abbrev pub page_at : List (List (Option T)) → ℕ → List (Option T)
  page_at pages page = slice_index_or pages page []

  -- the value under a number
  abbrev pub look : List (List (Option T)) → ℕ → Option T
  look pages number = slice_index_or (page_at pages (number / 256)) (number % 256) None

  abbrev pub with_value : map.FinMap nat_cmp T → ℕ → Option T → map.FinMap nat_cmp T
  with_value m number None = m
  with_value m number (Some value) = map.insert m number value

  -- the map of what stands under each number below a bound
  unfoldable pub tabulated : (ℕ → Option T) → ℕ → map.FinMap nat_cmp T
  tabulated at zero = map.empty
  tabulated at (suc bound) = with_value (tabulated at bound) bound (at bound)

  abbrev pub values_of : List (List (Option T)) → map.FinMap nat_cmp T
  values_of pages = tabulated (look pages) (256 * length pages)

-- the set of the numbers below a bound that pass a test
unfoldable pub chosen : (ℕ → Bool) → ℕ → set.FinSet nat_cmp
chosen test zero = set.empty
chosen test (suc bound) = cond (test bound) (set.insert (chosen test bound) bound) (chosen test bound)

-- f 0 + f 1 + .. below a bound
unfoldable pub sum_below : (ℕ → ℕ) → ℕ → ℕ
sum_below f zero = 0
sum_below f (suc bound) = sum_below f bound + f bound

-- how many places of a page are never used: the number 0
abbrev pub skipped : ℕ → ℕ
skipped page = cond (page == 0) 1 0

module _ {T : Type 0} where
  abbrev pub made_of : List (List (Option T)) → set.FinSet nat_cmp
  made_of pages = chosen (λ page. nat_lt 0 (length (page_at pages page))) (length pages)

  -- how many places of a page are taken, and how many are free
  abbrev pub taken : List (List (Option T)) → ℕ → ℕ
  taken pages page = used_in (page_at pages page) + skipped page

  abbrev pub free : List (List (Option T)) → ℕ → ℕ
  free pages page = 256 - taken pages page

  -- how many numbers are free in the first pages
  abbrev pub free_in_front : List (List (Option T)) → ℕ → ℕ
  free_in_front pages front = sum_below (free pages) front

  -- Pages are made or not, and the full ones are marked. The first ones are all made, and there is room
  -- for as many values as are free in them; where all pages are, each number has its place, and there is
  -- room for any.
  pub record IsSound (pages : List (List (Option T))) (full : List ℕ) (len front front_free room : ℕ) : Type 0 where
    pub few : length pages ≤ 256
    pub shaped : (page : ℕ) → (length (page_at pages page) ≡ 0) ⊎ (length (page_at pages page) ≡ 256)
    pub no_zero : look pages 0 ≡ None
    pub marked : (page : ℕ) → page < 256 → has full page ≡ (taken pages page == 256)
    pub front_few : front ≤ 256
    pub front_made : (page : ℕ) → page < front → length (page_at pages page) ≡ 256
    pub front_counted : front_free ≡ free_in_front pages front
    pub has_room : front < 256 → room ≤ front_free
    pub counted : len ≡ map.len (values_of pages)

  -- one page may be made, and nothing else changes
  pub record MakesOnly (old new : List (List (Option T))) (page : ℕ) : Type 0 where
    pub others : (other : ℕ) → other ≢ page → page_at new other ≡ page_at old other
    pub this : (page_at new page ≡ page_at old page) ⊎ ((page_at old page ≡ []) × IsBlank (page_at new page))
    pub few : length old ≤ 256 → length new ≤ 256
