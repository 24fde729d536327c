-- How counts of fresh names lie, a byte each. No public clause cites this module.
use Rattle.std.specs.Prelude.{ℕ, zero, suc, List, length, Option, Some, None, slice_index, refl}
use Rattle.std.specs.Coded.{Coded, code_by, coded×, coded_ℕ}
use Rattle.std.specs.FinMap as map
use Rattle.name_space_base.specs.Sound.{tabulated}
use Rattle.tagged_names.specs.Names.{Given}

-- the counts, and up to which index there are places for them
pub record CountsView : Type 0 where
  pub given : Given
  -- the greatest index that has a place
  pub reach : ℕ

-- a view is stored as the pair of its fields
abbrev pub counts_code : Coded CountsView
counts_code =
    code_by (Given × ℕ) (coded× (map.code coded_ℕ coded_ℕ) coded_ℕ) (λ v. (v.given, v.reach)) (λ p. record { given = p.0; reach = p.1 }) (λ _. refl)

-- a count, where it isn't 0
abbrev pub some_count : ℕ → Option ℕ
some_count zero = None
some_count (suc n) = Some (suc n)

-- the counts that aren't 0, of bytes by index
abbrev pub given_in : List ℕ → Given
given_in bytes = tabulated (λ index. some_count (slice_index bytes index)) (length bytes)
