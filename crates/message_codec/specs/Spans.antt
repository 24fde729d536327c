-- Where the port words of a text stand.
use Rattle.std.specs.Prelude.{ℕ, ◌+◌, ◌*◌, ◌≤◌, Bool, true, false, List, [], ◌∷◌, ◌++◌, length, if◌then◌else◌}
use Rattle.mach_types.specs.Grammar.{Wire, data_item, port_item, wire_text, WireBody, raw, items}
use Rattle.mach_types.specs.Messages.{Form, short, long}
use Rattle.message_codec.specs.declared.spans.Span.{Span}

abbrev pub is_long : Form → Bool
is_long short = false
is_long long = true

-- the item's span, if it has port words; the item begins at this offset
abbrev pub wire_spans : (at : ℕ) → Wire → List Span
wire_spans at (data_item form name size number bytes padding) = []
wire_spans at (port_item form disposition words) =
    record { at = at; long = is_long form; disposition = disposition; number = length words } ∷ []

abbrev pub spans_at : (at : ℕ) → List Wire → List Span
spans_at at [] = []
spans_at at (x ∷ xs) = wire_spans at x ++ spans_at (at + length (wire_text x)) xs

abbrev pub body_spans : WireBody → List Span
body_spans (raw bytes) = []
body_spans (items xs) = spans_at 24 xs

-- where the byte of the disposition stands, and the first word
abbrev pub kind_place : Span → ℕ
kind_place s = s.at + (if s.long then 4 else 0)

abbrev pub words_place : Span → ℕ
words_place s = s.at + (if s.long then 12 else 4)

-- of how many items with words the spans are kept without an allocation
abbrev pub inline_spans : ℕ
inline_spans = 8

-- how many words there are
abbrev pub word_count : List Span → ℕ
word_count [] = 0
word_count (s ∷ ss) = s.number + word_count ss

-- all words stand within so many bytes
abbrev pub SpansFit : ℕ → List Span → Type 0
SpansFit n [] = Unit {0}
SpansFit n (s ∷ ss) = (words_place s + 4 * s.number ≤ n) × SpansFit n ss
