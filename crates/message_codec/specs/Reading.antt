-- What is read of items.
use Rattle.std.specs.Prelude.{◌≡◌, ℕ, ◌+◌, ◌<◌, ◌≤◌, Option, MatchOption, List, ◌++◌, length, drop, All}
use Rattle.std.specs.Option.{option_to_list}
use Rattle.mach_types.specs.Grammar.{Wire, wire_text, wires_text, IsWire, NamesPorts}
use Rattle.type_descriptor.specs.declared.descriptor.Descriptor.{Descriptor}
use Rattle.message_codec.specs.declared.spans.Span.{Span}
use Rattle.message_codec.specs.Spans.{wire_spans, spans_at, inline_spans}

-- the span of an item with this descriptor at this offset
abbrev pub DescriptorSpan : Descriptor → (at : ℕ) → Option Span → Type 0
DescriptorSpan d at span =
    MatchOption span (¬ (NamesPorts d.name))
    (λ s. NamesPorts d.name × (s.at ≡ at) × (s.long ≡ d.long) × (s.disposition ≡ d.name) × (s.number ≡ d.number))

-- An item stands at the offset, with this span and up to this end.
pub record ReadsItem (bytes : List ℕ) (at : ℕ) (span : Option Span) (end : ℕ) : Type 0 where
  pub wire : Wire
  pub fits : IsWire wire
  pub parts : drop at bytes ≡ wire_text wire ++ drop end bytes
  pub end_is : end ≡ at + length (wire_text wire)
  pub within : end ≤ length bytes
  pub span_is : option_to_list span ≡ wire_spans at wire

-- The whole body is items, with these spans.
pub record ReadsItems (bytes : List ℕ) (spans : List Span) : Type 0 where
  pub xs : List Wire
  pub text : drop 24 bytes ≡ wires_text xs
  pub fits : All IsWire xs
  pub spans_are : spans ≡ spans_at 24 xs

-- The whole body is items, and those with port words are more than are kept without an allocation.
pub record HasMany (bytes : List ℕ) : Type 0 where
  pub xs : List Wire
  pub text : drop 24 bytes ≡ wires_text xs
  pub fits : All IsWire xs
  pub many : inline_spans < length (spans_at 24 xs)
