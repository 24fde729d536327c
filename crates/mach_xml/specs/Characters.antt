-- Characters of text and of the values of attributes.
use Rattle.std.specs.Prelude.{◌≡◌, ◌≢◌, ◌≤◌, ◌⊎◌, ℕ, List, [], ◌∷◌, ◌++◌, codes}

-- The byte stands for itself: a line feed, or printable ASCII, but no `"`, `&`, `<` or `>`.
pub record IsBare (byte : ℕ) : Type 0 where
  pub shown : (byte ≡ 10) ⊎ ((32 ≤ byte) × (byte ≤ 126))
  pub no_quote : byte ≢ 34
  pub no_ampersand : byte ≢ 38
  pub no_less : byte ≢ 60
  pub no_greater : byte ≢ 62

-- References to characters: four by name, and a full stop, an arrow and an ellipsis by number.
pub data IsReference : List ℕ → Type 0 where
  quote : IsReference (codes "&quot;")
  ampersand : IsReference (codes "&amp;")
  less : IsReference (codes "&lt;")
  greater : IsReference (codes "&gt;")
  stop : IsReference (codes "&#46;")
  arrow : IsReference (codes "&#8594;")
  ellipsis : IsReference (codes "&#8230;")

-- Text without markup: bare bytes and references.
pub data IsText : List ℕ → Type 0 where
  none : IsText []
  bare : (before : List ℕ) (byte : ℕ) → IsText before → IsBare byte → IsText (before ++ byte ∷ [])
  reference : (before name : List ℕ) → IsText before → IsReference name → IsText (before ++ name)
