-- A body of one port word in the short form.
use Rattle.std.proofs.Common.{◌≡◌, false, ℕ, ◌+◌, ◌*◌, ◌^◌, ◌<◌, ◌≤◌, List, [], ◌∷◌, ◌++◌, length, drop, get_or, refl, sym, ap, ◌∙◌, arith, All}
use Rattle.std.proofs.lemmas.List.{drop_all, get_or-drop}
use Rattle.mach_types.specs.Grammar.{word, Wire, data_item, port_item, wire_text, wires_text, IsWire, NamesPorts, WireBody, raw, items}
use Rattle.mach_types.specs.Guards.{NoneHolds}
use Rattle.mach_types.specs.Messages.{Form, short, long}
use Rattle.mach_types.specs.TextGuards.{word_at, is_bit, header_guards}
use Rattle.type_descriptor.proofs.ByteWords.{AreBytes, word-word_at, word_at-lt, word_at-word}
use Rattle.message_codec.specs.declared.spans.Span.{Span}
use Rattle.message_codec.specs.declared.words.PortWord.{PortWord}
use Rattle.message_codec.specs.Parses.{header_at, IsMessage}
use Rattle.message_codec.specs.Short.{one_word_span}
use Rattle.message_codec.specs.Received.{IsLaidOut}
use Rattle.message_codec.specs.Spans.{is_long, spans_at}
use Rattle.message_codec.specs.Words.{named, body_words}
use Rattle.message_codec.proofs.Messages.{items-message}
use Rattle.message_codec.proofs.ReadWords.{laid_out-say}
use Rattle.message_codec.proofs.Shapes.{All-head, All-cons, shape_of, length-wire_text, form_length-ge}

-- the word of its descriptor
abbrev pub one_first : ℕ → ℕ
one_first d = d + 32 * 2 ^ 8 + 1 * 2 ^ 16 + 2 ^ 28

abbrev pub one_wire : (d w : ℕ) → Wire
one_wire d w = port_item short d (w ∷ [])

-- ---- such bytes are a message

one_text : (bytes : List ℕ) (d : ℕ) → AreBytes bytes → length bytes ≡ 32 → word_at bytes 24 ≡ one_first d
    → drop 24 bytes ≡ wires_text (one_wire d (word_at bytes 28) ∷ [])
one_text bytes d are len first =
    let w0 : drop 24 bytes ≡ word (word_at bytes 24) ++ drop 28 bytes = word-word_at bytes 24 are (omega arith) in
    let w1 : drop 28 bytes ≡ word (word_at bytes 28) ++ drop 32 bytes = word-word_at bytes 28 are (omega arith) in
    let end : drop 32 bytes ≡ [] = drop_all 32 bytes (omega arith) in
    w0
    ∙ ap (λ (n : ℕ). word n ++ drop 28 bytes) first
    ∙ ap (λ (r : List ℕ). word (one_first d) ++ r) (w1 ∙ ap (λ (r : List ℕ). word (word_at bytes 28) ++ r) end)

one_fits : (d w : ℕ) → NamesPorts d → w < 2 ^ 32 → IsWire (one_wire d w)
one_fits d w ports small = grind arith

pub one-message : (bytes : List ℕ) (d : ℕ) → AreBytes bytes → NoneHolds (header_guards bytes) → is_bit (word_at bytes 0) 31 → length bytes ≡ 32
    → NamesPorts d → word_at bytes 24 ≡ one_first d → IsMessage bytes (header_at bytes) (items (one_wire d (word_at bytes 28) ∷ []))
one-message bytes d are none complex len ports first =
    let x = one_wire d (word_at bytes 28) in
    items-message bytes (x ∷ []) are none complex (one_text bytes d are len first)
    (All-cons IsWire x [] (one_fits d (word_at bytes 28) ports (word_at-lt bytes 28 are)) (λ k y h. absurd (omega arith)))

-- ---- the word

one_name : (names : List ℕ) → length names ≡ 1 → names ≡ get_or names 0 0 ∷ []
one_name [] one = absurd (omega arith)
one_name (n ∷ []) one = refl
one_name (n ∷ m ∷ names) one = absurd (omega arith)

pub one-words : (bytes : List ℕ) (d w : ℕ) (written : WireBody) → IsLaidOut bytes (one_word_span d ∷ []) written → w ≡ word_at bytes 28
    → body_words written ≡ record { disposition = d; name = w } ∷ []
one-words bytes d w written laid word_is =
    let say = laid_out-say bytes (one_word_span d ∷ []) written laid in
    let names : List ℕ = say.0 in
    let one : length names ≡ 1 = say.2 in
    let value : word_at bytes 28 ≡ get_or names 0 0 = say.3.each 0 (omega arith) in
    say.4
    ∙ ap (λ (rest : List PortWord). named d names ++ rest) say.5
    ∙ ap (λ (ns : List ℕ). named d ns ++ []) (one_name names one ∙ ap (λ (n : ℕ). n ∷ []) (sym value ∙ sym word_is))

-- ---- each message with such a body has such a descriptor

spans_at-from : (at : ℕ) (xs : List Wire) (s : Span) (rest : List Span) → spans_at at xs ≡ s ∷ rest → at ≤ s.at
spans_at-from at [] s rest is = absurd (cc)
spans_at-from at (data_item f n t c bytes padding ∷ xs) s rest is = grind (arith, spans_at-from (at + length (wire_text (data_item f n t c bytes padding))) xs s rest is)
spans_at-from at (port_item f e words ∷ xs) s rest is = grind arith

one_word : (f : Form) (e d : ℕ) (words rest : List ℕ) → is_long f ≡ false → e ≡ d → length words ≡ 1 → IsWire (port_item f e words)
    → NamesPorts d × (word_at (wire_text (port_item f e words) ++ rest) 0 ≡ one_first d)
one_word short e d words rest form same one fits = grind (arith, word_at-word)
one_word long e d words rest form same one fits = absurd (cc)

one_items : (xs : List Wire) (d : ℕ) → All IsWire xs → spans_at 24 xs ≡ one_word_span d ∷ []
    → NamesPorts d × (word_at (wires_text xs) 0 ≡ one_first d)
one_items [] d fits is = absurd (cc)
one_items (data_item f n t c bytes padding ∷ xs) d fits is = grind (arith, shape_of, spans_at-from, length-wire_text, form_length-ge)
one_items (port_item f e words ∷ xs) d fits is =
    let head : List Span → Span = λ ss. get_or ss 0 (one_word_span d) in
    one_word f e d words (wires_text xs) (ap (λ (ss : List Span). (head ss).long) is) (ap (λ (ss : List Span). (head ss).disposition) is) (ap (λ (ss : List Span). (head ss).number) is)
    (All-head IsWire (port_item f e words) xs fits)

one_body : (bytes : List ℕ) (d : ℕ) (written : WireBody) → IsLaidOut bytes (one_word_span d ∷ []) written
    → NamesPorts d × (word_at (drop 24 bytes) 0 ≡ one_first d)
one_body bytes d (raw body) laid = absurd (let e : one_word_span d ∷ [] ≡ [] = laid.spans_are in cc)
one_body bytes d (items xs) laid = grind (arith, one_items)

word_at-body : (bytes : List ℕ) → word_at (drop 24 bytes) 0 ≡ word_at bytes 24
word_at-body bytes = rw (get_or-drop 24 bytes 0 0, get_or-drop 24 bytes 1 0, get_or-drop 24 bytes 2 0, get_or-drop 24 bytes 3 0) refl

pub one-descriptor : (bytes : List ℕ) (d : ℕ) (written : WireBody) → IsLaidOut bytes (one_word_span d ∷ []) written
    → NamesPorts d × (word_at bytes 24 ≡ one_first d)
one-descriptor bytes d written laid =
    let t = one_body bytes d written laid in
    (t.0, sym (word_at-body bytes) ∙ t.1)
