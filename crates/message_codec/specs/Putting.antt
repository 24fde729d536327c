-- Bytes after the kind and the words of items were written over them, place by place.
use Rattle.std.specs.Prelude.{ℕ, ◌+◌, ◌*◌, ◌^◌, ◌<◌, List, [], ◌∷◌, ◌++◌, length, take, drop, slice_set}
use Rattle.mach_types.specs.Grammar.{words_text}
use Rattle.message_codec.specs.declared.header.Header.{Header}
use Rattle.message_codec.specs.declared.spans.Span.{Span}
use Rattle.message_codec.specs.Received.{received_kind}
use Rattle.message_codec.specs.Spans.{kind_place, words_place}

-- The words that are neither counted nor put together are words.
pub record WordsFit (h : Header) : Type 0 where
  pub remote : h.remote < 2 ^ 32
  pub local : h.local < 2 ^ 32
  pub id : h.id < 2 ^ 32

abbrev pub with_kind : Span → List ℕ → List ℕ
with_kind s bytes = slice_set bytes (kind_place s) (received_kind s.disposition)

abbrev pub with_words : (at : ℕ) → (names bytes : List ℕ) → List ℕ
with_words at names bytes = take at bytes ++ words_text names ++ drop (at + 4 * length names) bytes

abbrev pub with_span : Span → (names bytes : List ℕ) → List ℕ
with_span s names bytes = with_words (words_place s) names (with_kind s bytes)

abbrev pub with_spans : List Span → (names bytes : List ℕ) → List ℕ
with_spans [] names bytes = bytes
with_spans (s ∷ ss) names bytes = with_spans ss (drop s.number names) (with_span s (take s.number names) bytes)
