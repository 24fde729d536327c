-- What a page ends as, where a value in it was lent. No public clause cites this module.
use Rattle.std.specs.Prelude.{ℕ, List, Option, Some, slice_set}
use Rattle.std.specs.Borrow.{Lends, Fml, RattleType, MutBor}
use Rattle.name_space_base.specs.contracts.page.Page.{the_row}

abbrev pub lends_place : (T : RattleType) → MutBor (List (Option T.Denot)) → ℕ → MutBor T.Denot → Fml
lends_place T s place r = Lends (the_row T) T s r (λ w. slice_set s.now place (Some w))
