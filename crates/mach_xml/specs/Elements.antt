-- Well-formed XML elements, as bytes.
use Rattle.std.specs.Prelude.{◌≡◌, ℕ, List, [], ◌∷◌, ◌++◌, codes, Contains}
use Rattle.mach_xml.specs.Names.{IsName}
use Rattle.mach_xml.specs.Characters.{IsText}

-- An attribute, with the space before it: NAME="VALUE".
abbrev pub attribute : (name value : List ℕ) → List ℕ
attribute name value = 32 ∷ (name ++ codes "=\"" ++ value ++ codes "\"")

-- Attributes of a tag. No name stands twice.
pub data IsAttributes : (names : List (List ℕ)) → List ℕ → Type 0 where
  none : IsAttributes [] []
  more : (names : List (List ℕ)) (before name value : List ℕ) → IsAttributes names before
      → IsName name → (Contains names name → ⊥) → IsText value
      → IsAttributes (name ∷ names) (before ++ attribute name value)

-- A start tag.
abbrev pub start_tag : (name attributes : List ℕ) → List ℕ
start_tag name attributes = 60 ∷ (name ++ attributes ++ codes ">")

-- An end tag.
abbrev pub end_tag : (name : List ℕ) → List ℕ
end_tag name = codes "</" ++ name ++ codes ">"

-- The tag of an element without content.
abbrev pub empty_tag : (name attributes : List ℕ) → List ℕ
empty_tag name attributes = 60 ∷ (name ++ attributes ++ codes "/>")

mutual
  -- An element: its tag, or its start tag, its content, and an end tag of the same name.
  pub data IsElement : List ℕ → Type 0 where
    empty : (names : List (List ℕ)) (name attributes : List ℕ) → IsName name → IsAttributes names attributes
        → IsElement (empty_tag name attributes)
    full : (names : List (List ℕ)) (name attributes content : List ℕ) → IsName name → IsAttributes names attributes
        → IsContent content → IsElement (start_tag name attributes ++ content ++ end_tag name)

  -- Content: text and elements.
  pub data IsContent : List ℕ → Type 0 where
    none : IsContent []
    text : (before shown : List ℕ) → IsContent before → IsText shown → IsContent (before ++ shown)
    element : (before shown : List ℕ) → IsContent before → IsElement shown → IsContent (before ++ shown)

-- What is added to the bytes.
pub record Adds (P : List ℕ → Type 0) (before after : List ℕ) : Type 0 where
  pub shown : List ℕ
  pub is : P shown
  pub at : after ≡ before ++ shown

-- An attribute of this name.
pub record IsAttribute (name shown : List ℕ) : Type 0 where
  pub value : List ℕ
  pub is : IsText value
  pub at : shown ≡ attribute name value

-- Attributes of a tag.
pub record HasAttributes (shown : List ℕ) : Type 0 where
  pub names : List (List ℕ)
  pub is : IsAttributes names shown

-- A tag of this name, with attributes, and this end: `>` or `/>`.
pub record IsTag (name end shown : List ℕ) : Type 0 where
  pub attributes : List ℕ
  pub has : HasAttributes attributes
  pub at : shown ≡ 60 ∷ (name ++ attributes ++ end)
