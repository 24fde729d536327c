-- What contracts see of values by numbers of any size: a finite map, and the number for which a place is kept.
use Rattle.std.specs.Prelude.{◌≡◌, ℕ, true, Option, Some, None, nat_lt, cond, refl}
use Rattle.std.specs.Coded.{Coded, code_by, coded×, coded_ℕ, coded_option}
use Rattle.std.specs.FinMap as map
use Rattle.std.specs.Ordering.{nat_cmp}

pub record HighView (V : Type 0) : Type 0 where
  pub names : map.FinMap nat_cmp V
  -- the name for which a place is kept
  pub kept : Option ℕ

module _ {V : Type 0} where
  abbrev pub high_code : Coded V → Coded (HighView V)
  high_code code =
      code_by (map.FinMap nat_cmp V × Option ℕ) (coded× (map.code coded_ℕ code) (coded_option coded_ℕ)) (λ v. (v.names, v.kept)) (λ p. record { names = p.0; kept = p.1 }) (λ _. refl)

  -- The name for which a place is kept is in use.
  abbrev pub KeepsUsed : map.FinMap nat_cmp V → (kept : Option ℕ) → Type 0
  KeepsUsed names kept = (name : ℕ) × (kept ≡ Some name) × (map.contains_key names name ≡ true)

  -- the map with just this under a name
  abbrev pub with_value : ℕ → Option V → map.FinMap nat_cmp V → map.FinMap nat_cmp V
  with_value name None m = map.remove m name
  with_value name (Some value) m = map.insert m name value

  -- the map with the value under the name for which a place is kept
  abbrev pub with_kept : Option ℕ → Option V → map.FinMap nat_cmp V → map.FinMap nat_cmp V
  with_kept None value m = m
  with_kept (Some name) value m = with_value name value m

  -- The others have no value under the name for which a place is kept.
  abbrev pub HasApart : Option ℕ → map.FinMap nat_cmp V → Type 0
  HasApart kept others = (name : ℕ) → kept ≡ Some name → map.get others name ≡ None

-- the lesser of a name and one that may not be there
abbrev pub least_name : ℕ → Option ℕ → ℕ
least_name name None = name
least_name name (Some other) = cond (nat_lt other name) other name
