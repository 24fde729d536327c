-- What is written of a message that is received.
use Rattle.std.specs.Prelude.{◌≡◌, ℕ, ◌≤◌, List, [], ◌∷◌, ◌++◌, length, take, drop, unwrap_or}
use Rattle.std.specs.Option.{option_map}
use Rattle.mach_types.specs.Grammar.{Wire, data_item, port_item, WireBody, raw, items, word, body_text, IsWireBody}
use Rattle.mach_types.specs.Numbers.{disposition, kind_number, kind_sent}
use Rattle.message_codec.specs.declared.header.Header.{Header}
use Rattle.message_codec.specs.declared.spans.Span.{Span}
use Rattle.message_codec.specs.Spans.{body_spans}

-- a header's six words, each in four bytes, the lowest byte first
abbrev pub header_text : Header → List ℕ
header_text h = word h.bits ++ word h.size ++ word h.remote ++ word h.local ++ word h.sequence ++ word h.id

-- the number of the kind of right that is sent under a disposition
abbrev pub received_kind : ℕ → ℕ
received_kind number = unwrap_or (option_map (λ given. kind_number (kind_sent given)) (disposition number)) number

-- the items with these names in place of their words, from the front
abbrev pub received_wires : List Wire → (names : List ℕ) → List Wire
received_wires [] names = []
received_wires (data_item form name size number bytes padding ∷ xs) names =
    data_item form name size number bytes padding ∷ received_wires xs names
received_wires (port_item form sent words ∷ xs) names =
    port_item form (received_kind sent) (take (length words) names) ∷ received_wires xs (drop (length words) names)

abbrev pub received_body : WireBody → (names : List ℕ) → WireBody
received_body (raw bytes) names = raw bytes
received_body (items xs) names = items (received_wires xs names)

-- After 24 bytes comes this body, whose port words stand at these places.
pub record IsLaidOut (bytes : List ℕ) (spans : List Span) (written : WireBody) : Type 0 where
  pub room : 24 ≤ length bytes
  pub body : drop 24 bytes ≡ body_text written
  pub fits : IsWireBody written
  pub spans_are : spans ≡ body_spans written
