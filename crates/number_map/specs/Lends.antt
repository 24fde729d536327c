-- What a map ends as, where a value in it was lent.
use Rattle.std.specs.Prelude.{ℕ}
use Rattle.std.specs.Borrow.{Lends, Fml, RattleType, MutBor}
use Rattle.std.specs.FinMap as map
use Rattle.number_map.specs.Maps.{MapView}
use Rattle.number_map.specs.contracts.NumberMap.{the_row}

-- the value under a key changes
abbrev pub with_value_at : {V : Type 0} → MapView V → ℕ → V → MapView V
with_value_at m key value = record m { map = map.insert m.map key value }

-- once the borrow ends, what was left behind it stands under the key
abbrev pub lends_value : (V : RattleType) → MutBor (MapView V.Denot) → ℕ → MutBor V.Denot → Fml
lends_value V s key r = Lends (the_row V) V s r (with_value_at s.now key)
