use Rattle.std.proofs.Common.{◌≡◌, List, [], ◌∷◌, None, refl, arith}
use Rattle.std.specs.Prelude.{slice_get}
use Rattle.kernel_change.proofs.change.none_went.Goals as goal

none_first : {A : Type 0} (xs : List A) → slice_get xs 0 ≡ None → xs ≡ []
none_first [] e = refl
none_first (x ∷ xs) e = absurd (cc)

pub returns : goal.returns
returns c = grind (arith, none_first)
