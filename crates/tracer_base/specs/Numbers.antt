-- Which numbers are read, and how their texts begin.
use Rattle.std.specs.Prelude.{◌≡◌, ℕ, ℤ, pos, negsuc, ◌<◌, ◌≤◌, ◌^◌, List, length, slice_index}

-- from -2^31 to 2^31 - 1
abbrev pub FitsDelta : ℤ → Type 0
FitsDelta (pos n) = n < 2 ^ 31
FitsDelta (negsuc n) = n < 2 ^ 31

-- it begins with a digit, which is no `0` unless it stands alone
pub record HasPlainStart (text : List ℕ) : Type 0 where
  pub some : 0 < length text
  pub least : 48 ≤ slice_index text 0
  pub most : slice_index text 0 ≤ 57
  pub alone : slice_index text 0 ≡ 48 → length text ≡ 1
