-- What pages end as, where a value in them was lent.
use Rattle.std.specs.Prelude.{ℕ}
use Rattle.std.specs.Borrow.{Lends, Fml, RattleType, MutBor}
use Rattle.std.specs.FinMap as map
use Rattle.name_space_base.specs.Pages.{PagesView}
use Rattle.name_space_base.specs.contracts.Pages.{the_row}

-- the value under a number changes
abbrev pub with_value_at : {T : Type 0} → PagesView T → ℕ → T → PagesView T
with_value_at v number value = record v { values = map.insert v.values number value }

-- once the borrow ends, what was left behind it stands under the number
abbrev pub lends_value : (T : RattleType) → MutBor (PagesView T.Denot) → ℕ → MutBor T.Denot → Fml
lends_value T s number r = Lends (the_row T) T s r (with_value_at s.now number)
