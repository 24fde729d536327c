-- A finite map with other values.
use Rattle.std.specs.Prelude.{map}
use Rattle.std.specs.FinMap as finite
use Rattle.std.specs.Ordering.{nat_cmp}

-- the map with each value v replaced by f v
abbrev pub with_values : {Y X : Type 0} → (Y → X) → finite.FinMap nat_cmp Y → finite.FinMap nat_cmp X
with_values f m = finite.from_sorted (map (λ e. (e.0, f e.1)) (finite.entries m))
