-- The bytes that a receiver gets are a text.
use Rattle.std.proofs.Common.{◌≡◌, ℕ, ◌+◌, ◌^◌, ◌<◌, ◌≤◌, List, [], ◌∷◌, ◌++◌, length, take, drop, refl, arith, All}
use Rattle.std.proofs.lemmas.List.{length-take-le, length-drop}
use Rattle.std.proofs.lemmas.List.Elements.{All-take, All-drop}
use Rattle.mach_types.specs.Grammar as wire
use Rattle.mach_types.specs.Grammar.{word, Wire, data_item, port_item, wire_text, IsWire, FitsForm, WireBody, raw, items, body_text, IsWireBody, Spells, IsHeader}
use Rattle.message_codec.specs.declared.header.Header.{Header}
use Rattle.message_codec.specs.declared.spans.Span.{Span}
use Rattle.message_codec.specs.declared.text.Parsed.{Parsed}
use Rattle.message_codec.specs.Parses.{Parses}
use Rattle.message_codec.specs.Received.{header_text, received_kind, received_wires, received_body, IsLaidOut}
use Rattle.message_codec.specs.Spans.{spans_at, word_count}
use Rattle.message_codec.proofs.PutWords.{received_kind-ports}
use Rattle.message_codec.proofs.PutSpans.{fits-kind}
use Rattle.message_codec.proofs.Shapes.{All-head, All-tail, All-cons}

abbrev IsWord : ℕ → Type 0
IsWord w = w < 2 ^ 32

received_wires-fit : (xs : List Wire) (names : List ℕ) (at : ℕ) → All IsWire xs → length names ≡ word_count (spans_at at xs) → All IsWord names
    → All IsWire (received_wires xs names)
received_wires-fit [] names at are named words = λ k d h. absurd (omega arith)
received_wires-fit (data_item f n s c bytes padding ∷ xs) names at are named words =
    let x = data_item f n s c bytes padding in
    All-cons IsWire x (received_wires xs names) (All-head IsWire x xs are)
    (received_wires-fit xs names (at + length (wire_text x)) (All-tail IsWire x xs are) named words)
received_wires-fit (port_item f d sent ∷ xs) names at are named words =
    let x = port_item f d sent in
    let is : IsWire x = All-head IsWire x xs are in
    let count : length names ≡ length sent + word_count (spans_at (at + length (wire_text x)) xs) = named in
    let len : length (take (length sent) names) ≡ length sent = length-take-le (length sent) names (omega arith) in
    let left : length (drop (length sent) names) ≡ word_count (spans_at (at + length (wire_text x)) xs) = omega (arith, length-drop (length sent) names) in
    let ports = received_kind-ports d is.1 in
    let fits : FitsForm f (received_kind d) 32 (length sent) = fits-kind f d (received_kind d) (length sent) is.0 (omega (arith, ports.1)) in
    All-cons IsWire (port_item f (received_kind d) (take (length sent) names)) (received_wires xs (drop (length sent) names))
    (rw len fits, ports, All-take IsWord (length sent) names words)
    (received_wires-fit xs (drop (length sent) names) (at + length (wire_text x)) (All-tail IsWire x xs are) left (All-drop IsWord (length sent) names words))

received_body-fits : (bytes : List ℕ) (spans : List Span) (written : WireBody) (names : List ℕ) → IsLaidOut bytes spans written → length names ≡ word_count spans
    → All IsWord names → IsWireBody (received_body written names)
received_body-fits bytes spans (raw body) names is named words = is.fits
received_body-fits bytes spans (items xs) names is named words = grind (arith, received_wires-fit)

-- The bytes that `put_received` leaves spell this header and this body.
pub received-spells : (h : Header) (header : wire.Header) (bytes : List ℕ) (spans : List Span) (written : WireBody) (names : List ℕ)
    → IsLaidOut bytes spans written → length names ≡ word_count spans → All IsWord names
    → h.bits ≡ wire.bits header (received_body written names)
    → header.size ≡ h.size → header.remote ≡ h.remote → header.local ≡ h.local → header.sequence ≡ h.sequence → header.id ≡ h.id
    → IsHeader header
    → Spells (header_text h ++ body_text (received_body written names)) header (received_body written names)
received-spells h header bytes spans written names laid named words first size remote local sequence id fits = grind (arith, received_body-fits)

body_in_text : (h : wire.Header) (written : WireBody) → drop 24 (wire.text h written) ≡ body_text written
body_in_text h written = refl

length-text : (h : wire.Header) (written : WireBody) → 24 ≤ length (wire.text h written)
length-text h written = omega arith

-- A message that was parsed is laid out as its spans say.
pub laid_out-parsed : (bytes : List ℕ) (parsed : Parsed) (p : Parses bytes parsed) → IsLaidOut bytes parsed.spans p.written
laid_out-parsed bytes parsed p = grind (arith, length-text, body_in_text)
