-- What a receiver gets, item by item.
use Rattle.std.proofs.Common.{◌≡◌, ℕ, ◌+◌, ◌*◌, ◌^◌, ◌<◌, ◌≤◌, List, [], ◌∷◌, ◌++◌, length, take, drop, set, refl, sym, ap, subst, ◌∙◌, arith, length-append, append_assoc, All}
use Rattle.std.proofs.lemmas.List.{length-drop, length-take-le}
use Rattle.mach_types.specs.Grammar.{words_text, Wire, data_item, port_item, wire_text, wires_text, IsWire, WireBody, raw, items, body_text, descriptor_text, FitsForm, NamesPorts}
use Rattle.mach_types.specs.Messages.{Form, short, long}
use Rattle.type_descriptor.specs.Describes.{form_length}
use Rattle.message_codec.specs.declared.spans.Span.{Span}
use Rattle.message_codec.specs.Putting.{with_kind, with_words, with_span, with_spans}
use Rattle.message_codec.specs.Received.{received_kind, received_wires, received_body, IsLaidOut}
use Rattle.message_codec.specs.Spans.{is_long, spans_at, kind_place, words_place, word_count, SpansFit}
use Rattle.message_codec.proofs.Fronts.{length-descriptor_text}
use Rattle.message_codec.proofs.PutWords.{with_words-at, with_kind-at, kind_offset, received_kind-ports}
use Rattle.message_codec.proofs.Shapes.{All-head, All-tail, length-words_text}

kind_place-is : (f : Form) (at d n : ℕ) → kind_place (record { at = at; long = is_long f; disposition = d; number = n }) ≡ at + kind_offset f
kind_place-is short at d n = refl
kind_place-is long at d n = refl

pub words_place-is : (f : Form) (at d n : ℕ) → words_place (record { at = at; long = is_long f; disposition = d; number = n }) ≡ at + form_length f
words_place-is short at d n = refl
words_place-is long at d n = refl

pub fits-kind : (f : Form) (d k n : ℕ) → FitsForm f d 32 n → k < 2 ^ 8 → FitsForm f k 32 n
fits-kind short d k n fits small = (small, fits.1, fits.2)
fits-kind long d k n fits small = (small, fits.1, fits.2)

-- one item's kind and words, written over what was sent
with_span-at : (f : Form) (front tail words names : List ℕ) (d at : ℕ) → FitsForm f d 32 (length words) → NamesPorts d → length names ≡ length words → length front ≡ at
    → with_span (record { at = at; long = is_long f; disposition = d; number = length words }) names (front ++ (wire_text (port_item f d words) ++ tail))
    ≡ front ++ (wire_text (port_item f (received_kind d) names) ++ tail)
with_span-at f front tail words names d at fits ports same len =
    let s : Span = record { at = at; long = is_long f; disposition = d; number = length words } in
    let k = received_kind d in
    let n = length words in
    let ports' = received_kind-ports d ports in
    let small : k < 2 ^ 8 = omega (arith, ports'.1) in
    let split : front ++ (wire_text (port_item f d words) ++ tail) ≡ front ++ (descriptor_text f d 32 n ++ (words_text words ++ tail)) =
    ap (λ (t : List ℕ). front ++ t) (append_assoc (descriptor_text f d 32 n) (words_text words) tail) in
    let kind_at : length front + kind_offset f ≡ kind_place s = ap (λ (m : ℕ). m + kind_offset f) len ∙ sym (kind_place-is f at d n) in
    let kind : with_kind s (front ++ (wire_text (port_item f d words) ++ tail)) ≡ (front ++ descriptor_text f k 32 n) ++ (words_text words ++ tail) =
    ap (λ (t : List ℕ). set t (kind_place s) k) split
    ∙ with_kind-at f front (words_text words ++ tail) d k n (kind_place s) fits small kind_at
    ∙ sym (append_assoc front (descriptor_text f k 32 n) (words_text words ++ tail)) in
    let place : length (front ++ descriptor_text f k 32 n) ≡ words_place s =
    length-append front (descriptor_text f k 32 n) ∙ ap (λ (m : ℕ). length front + m) (length-descriptor_text f k 32 n) ∙ ap (λ (m : ℕ). m + form_length f) len ∙ sym (words_place-is f at d n) in
    let old : length (words_text words) ≡ 4 * length names = length-words_text words ∙ ap (λ (m : ℕ). 4 * m) (sym same) in
    ap (with_words (words_place s) names) kind
    ∙ with_words-at (words_place s) (front ++ descriptor_text f k 32 n) (words_text words) tail names place old
    ∙ append_assoc front (descriptor_text f k 32 n) (words_text names ++ tail)
    ∙ ap (λ (t : List ℕ). front ++ t) (sym (append_assoc (descriptor_text f k 32 n) (words_text names) tail))
    ∙ ap (λ (m : ℕ). front ++ ((descriptor_text f k 32 m ++ words_text names) ++ tail)) (sym same)

length-received : (f : Form) (d k : ℕ) (words names : List ℕ) → length names ≡ length words
    → length (wire_text (port_item f k names)) ≡ length (wire_text (port_item f d words))
length-received f d k words names same = grind (arith, length-append, length-descriptor_text, length-words_text)

-- all items' kinds and words
with_spans-at : (xs : List Wire) (front names : List ℕ) (at : ℕ) → All IsWire xs → length front ≡ at → length names ≡ word_count (spans_at at xs)
    → with_spans (spans_at at xs) names (front ++ wires_text xs) ≡ front ++ wires_text (received_wires xs names)
with_spans-at [] front names at are len named = refl
with_spans-at (data_item f n s c bytes padding ∷ xs) front names at are len named =
    let x = data_item f n s c bytes padding in
    let next : length (front ++ wire_text x) ≡ at + length (wire_text x) = length-append front (wire_text x) ∙ ap (λ (m : ℕ). m + length (wire_text x)) len in
    ap (with_spans (spans_at (at + length (wire_text x)) xs) names) (sym (append_assoc front (wire_text x) (wires_text xs)))
    ∙ with_spans-at xs (front ++ wire_text x) names (at + length (wire_text x)) (All-tail IsWire x xs are) next named
    ∙ append_assoc front (wire_text x) (wires_text (received_wires xs names))
with_spans-at (port_item f d words ∷ xs) front names at are len named =
    let x = port_item f d words in
    let is : IsWire x = All-head IsWire x xs are in
    let mine = take (length words) names in
    let y = port_item f (received_kind d) mine in
    let after = at + length (wire_text x) in
    let count : length names ≡ length words + word_count (spans_at after xs) = named in
    let len_mine : length mine ≡ length words = length-take-le (length words) names (omega arith) in
    let left : length (drop (length words) names) ≡ word_count (spans_at after xs) = omega (arith, length-drop (length words) names) in
    let next : length (front ++ wire_text y) ≡ after = omega (arith, length-append front (wire_text y), length-received f d (received_kind d) words mine len_mine) in
    ap (with_spans (spans_at after xs) (drop (length words) names)) (with_span-at f front (wires_text xs) words mine d at is.0 is.1 len_mine len ∙ sym (append_assoc front (wire_text y) (wires_text xs)))
    ∙ with_spans-at xs (front ++ wire_text y) (drop (length words) names) after (All-tail IsWire x xs are) next left
    ∙ append_assoc front (wire_text y) (wires_text (received_wires xs (drop (length words) names)))

-- the words stand within the bytes
spans_at-fit : (n at : ℕ) (xs : List Wire) → at + length (wires_text xs) ≤ n → SpansFit n (spans_at at xs)
spans_at-fit n at [] room = tt
spans_at-fit n at (data_item f m s c bytes padding ∷ xs) room =
    let x = data_item f m s c bytes padding in
    spans_at-fit n (at + length (wire_text x)) xs (omega (arith, length-append (wire_text x) (wires_text xs)))
spans_at-fit n at (port_item f d words ∷ xs) room =
    let x = port_item f d words in
    let place : words_place (record { at = at; long = is_long f; disposition = d; number = length words }) ≡ at + form_length f = words_place-is f at d (length words) in
    let len : length (wire_text x) ≡ form_length f + 4 * length words =
    length-append (descriptor_text f d 32 (length words)) (words_text words) ∙ ap (λ (m : ℕ). m + length (words_text words)) (length-descriptor_text f d 32 (length words)) ∙ ap (λ (m : ℕ). form_length f + m) (length-words_text words) in
    (omega (arith, length-append (wire_text x) (wires_text xs)), spans_at-fit n (at + length (wire_text x)) xs (omega (arith, length-append (wire_text x) (wires_text xs))))

pub laid_out-fit : (bytes : List ℕ) (spans : List Span) (written : WireBody) → IsLaidOut bytes spans written → SpansFit (length bytes) spans
laid_out-fit bytes spans (raw body) is = subst (SpansFit (length bytes)) (sym is.spans_are) tt
laid_out-fit bytes spans (items xs) is = grind (arith, length-drop, spans_at-fit)

-- the whole
pub laid_out-received : (bytes : List ℕ) (spans : List Span) (names front : List ℕ) (written : WireBody) → IsLaidOut bytes spans written → length front ≡ 24
    → length names ≡ word_count spans → with_spans spans names (front ++ drop 24 bytes) ≡ front ++ body_text (received_body written names)
laid_out-received bytes spans names front (raw body) is len named = grind arith
laid_out-received bytes spans names front (items xs) is len named = grind (arith, with_spans-at)
