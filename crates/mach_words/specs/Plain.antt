-- What is written of bytes that come from data, labels and lines.
use Rattle.std.specs.Prelude.{◌≤◌, ℕ, List, All}

-- The byte is printable ASCII, the space among it.
pub record IsPlain (byte : ℕ) : Type 0 where
  pub least : 32 ≤ byte
  pub most : byte ≤ 126

-- All bytes are.
abbrev pub IsPlainText : List ℕ → Type 0
IsPlainText = All IsPlain
