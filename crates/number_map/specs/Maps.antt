-- What contracts see of a map from numbers: the values under their keys, and how many more keys fit with no memory taken.
use Rattle.std.specs.Prelude.{ℕ, refl}
use Rattle.std.specs.Coded.{Coded, code_by, coded×, coded_ℕ}
use Rattle.std.specs.FinMap as map
use Rattle.std.specs.Ordering.{nat_cmp}

pub record MapView (V : Type 0) : Type 0 where
  pub map : map.FinMap nat_cmp V
  pub room : ℕ

abbrev pub map_code : {V : Type 0} → Coded V → Coded (MapView V)
map_code {V} v = code_by (map.FinMap nat_cmp V × ℕ) (coded× (map.code coded_ℕ v) coded_ℕ) (λ m. (m.map, m.room)) (λ p. record { map = p.0; room = p.1 }) (λ _. refl)
