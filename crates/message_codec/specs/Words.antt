-- The port words of a body, one by one.
use Rattle.std.specs.Prelude.{◌≡◌, ℕ, ◌+◌, ◌*◌, ◌<◌, List, [], ◌∷◌, ◌++◌, length, map, slice_index}
use Rattle.mach_types.specs.Grammar.{Wire, data_item, port_item, WireBody, raw, items}
use Rattle.mach_types.specs.TextGuards.{word_at}
use Rattle.message_codec.specs.declared.words.PortWord.{PortWord}

-- each name with the disposition of its item
abbrev pub named : (disposition : ℕ) → List ℕ → List PortWord
named number names = map (λ w. record { disposition = number; name = w }) names

abbrev pub items_words : List Wire → List PortWord
items_words [] = []
items_words (data_item form name size number bytes padding ∷ xs) = items_words xs
items_words (port_item form number words ∷ xs) = named number words ++ items_words xs

-- each with the disposition of its item, from the front
abbrev pub body_words : WireBody → List PortWord
body_words (raw bytes) = []
body_words (items xs) = items_words xs

-- how many words are kept without an allocation
abbrev pub inline_words : ℕ
inline_words = 4

-- These words stand in the bytes, from an offset on.
pub record StandsAt (bytes : List ℕ) (at : ℕ) (names : List ℕ) : Type 0 where
  pub each : (k : ℕ) → k < length names → word_at bytes (at + 4 * k) ≡ slice_index names k
