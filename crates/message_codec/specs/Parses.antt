-- What is read of a message's text.
use Rattle.std.specs.Prelude.{◌≡◌, ℕ, ◌/◌, ◌%◌, ◌^◌, ◌<◌, Bool, true, false, List, length}
use Rattle.mach_types.specs.Grammar.{Header, WireBody, raw, items, Spells}
use Rattle.mach_types.specs.TextGuards.{TextRefuses, is_bit, word_at}
use Rattle.message_codec.specs.declared.spans.Span.{Span}
use Rattle.message_codec.specs.declared.text.Parsed.{Parsed}
use Rattle.message_codec.specs.Spans.{body_spans, inline_spans}

abbrev pub is_items : WireBody → Bool
is_items (raw bytes) = false
is_items (items xs) = true

-- The bytes are the text of this header and this body, and nothing in them is refused.
pub record IsMessage (bytes : List ℕ) (header : Header) (written : WireBody) : Type 0 where
  pub spells : Spells bytes header written
  pub unrefused : (code : ℕ) → ¬ (TextRefuses bytes code)

-- the header that stands in front
abbrev pub header_at : List ℕ → Header
header_at bytes = record {
  remote_kind = word_at bytes 0 % 2 ^ 8;
  local_kind = word_at bytes 0 / 2 ^ 8 % 2 ^ 8;
  size = word_at bytes 4;
  remote = word_at bytes 8;
  local = word_at bytes 12;
  sequence = word_at bytes 16;
  id = word_at bytes 20;
}

-- The bytes are such a text, and its port words stand at these places.
pub record ReadsBody (bytes : List ℕ) (spans : List Span) : Type 0 where
  pub written : WireBody
  pub message : IsMessage bytes (header_at bytes) written
  pub spans_are : spans ≡ body_spans written
  pub if_complex : is_bit (word_at bytes 0) 31 → is_items written ≡ true
  pub if_plain : ¬ (is_bit (word_at bytes 0) 31) → is_items written ≡ false

-- The bytes are a whole text within the limits, and this is what it says.
pub record Parses (bytes : List ℕ) (parsed : Parsed) : Type 0 where
  pub header : Header
  pub written : WireBody
  pub message : IsMessage bytes header written
  pub remote_kind : parsed.remote_kind ≡ header.remote_kind
  pub local_kind : parsed.local_kind ≡ header.local_kind
  pub remote : parsed.remote ≡ header.remote
  pub local : parsed.local ≡ header.local
  pub id : parsed.id ≡ header.id
  pub is_complex : parsed.is_complex ≡ is_items written
  pub spans : parsed.spans ≡ body_spans written

-- The bytes are such a text, with more items of port words than are kept without an allocation.
pub record IsCrowded (bytes : List ℕ) : Type 0 where
  pub header : Header
  pub written : WireBody
  pub message : IsMessage bytes header written
  pub many : inline_spans < length (body_spans written)
