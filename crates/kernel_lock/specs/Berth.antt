-- One place for the kernel.
use Rattle.std.specs.Prelude.{◌≡◌, ◌≢◌, ℕ, List, [], ◌∷◌, Some}
use Rattle.std.specs.declared.option.Option as maybe
use mathlib.Core.Option.{some}
use Rattle.atomic_table.specs.Table.{State}
use Rattle.kernel_lock.specs.Replays.{Stored}

-- the kernel k is tied to the board that the first one was tied to, goes by its profile, and keeps entries where that one did
pub record IsLike (first k : Stored) : Type 0 where
  pub table : k.table ≡ first.table
  pub profile : k.profile ≡ first.profile
  pub keeps : k.keeps ≡ first.keeps

module _ {K : Type 0} where
  -- where the word isn't 0, a kernel like the first one lies here
  abbrev pub IsMoored : Stored → State (maybe.Option Stored) K → Type 0
  IsMoored first s = (n : ℕ) × (s.words ≡ n ∷ []) × (n ≢ 0 → (k : Stored) × (s.homes ≡ some (Some k) ∷ []) × IsLike first k)

-- where the word was not 0, the kernel was taken
abbrev pub Takes : Stored → ℕ → List (ℕ × maybe.Option Stored) → Type 0
Takes first found held = found ≢ 0 → (k : Stored) × (held ≡ (0, Some k) ∷ []) × IsLike first k
