-- Refusals: guards in order, of which the first that holds gives the code (this project's own).
use Rattle.std.specs.Prelude.{◌≡◌, ℕ, ◌⊎◌, List, [], ◌∷◌}

-- A guard and its code.
abbrev pub Guards : Type 1
Guards = List {1} (Type 0 × ℕ)

abbrev pub FirstIs : Guards → ℕ → Type 0
FirstIs [] code = ⊥
FirstIs (g ∷ gs) code = (g.0 × (code ≡ g.1)) ⊎ (¬ g.0 × FirstIs gs code)

abbrev pub NoneHolds : Guards → Type 0
NoneHolds [] = Unit {0}
NoneHolds (g ∷ gs) = ¬ g.0 × NoneHolds gs
