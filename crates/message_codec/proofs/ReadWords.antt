-- The port words that are read are those of the text.
use Rattle.std.proofs.Common.{◌≡◌, ℕ, zero, suc, ◌+◌, ◌*◌, ◌^◌, ◌<◌, List, [], ◌∷◌, ◌++◌, length, take, get_or, refl, sym, ap, subst, ◌∙◌, arith, length-append, append_assoc, All}
use Rattle.std.proofs.lemmas.List.{take_more, map-append, get_or-append-add, take-append-drop, length-take-le, length-map, append-nil}
use Rattle.mach_types.specs.Grammar.{word, words_text, Wire, data_item, port_item, wire_text, wires_text, IsWire, WireBody, raw, items, descriptor_text}
use Rattle.mach_types.specs.TextGuards.{word_at}
use Rattle.type_descriptor.proofs.ByteWords.{word_at-word}
use Rattle.message_codec.specs.declared.spans.Span.{Span}
use Rattle.message_codec.specs.declared.words.PortWord.{PortWord}
use Rattle.message_codec.specs.Received.{IsLaidOut}
use Rattle.message_codec.specs.Spans.{is_long, spans_at, words_place, word_count, SpansFit}
use Rattle.message_codec.specs.Words.{named, items_words, body_words, StandsAt}
use Rattle.message_codec.proofs.Fronts.{length-descriptor_text}
use Rattle.message_codec.proofs.PutSpans.{words_place-is}
use Rattle.message_codec.proofs.Shapes.{All-head, All-tail}

abbrev IsWord : ℕ → Type 0
IsWord w = w < 2 ^ 32

-- The bytes have these words at the places of the spans.
abbrev pub SpansSay : (bytes : List ℕ) → List Span → List PortWord → Type 0
SpansSay bytes [] ws = ws ≡ []
SpansSay bytes (s ∷ ss) ws =
    (names : List ℕ) × (rest : List PortWord) × (length names ≡ s.number) × StandsAt bytes (words_place s) names
    × (ws ≡ named s.disposition names ++ rest) × SpansSay bytes ss rest

-- ---- the words of a text stand at their places

get_at : (front rest : List ℕ) (i j : ℕ) → j ≡ length front + i → get_or (front ++ rest) j 0 ≡ get_or rest i 0
get_at front rest i j e = rw e (get_or-append-add front rest i 0)

word_after : (front rest : List ℕ) (i j : ℕ) → j ≡ length front + i → word_at (front ++ rest) j ≡ word_at rest i
word_after front rest i j e = grind (arith, get_at)

pub word_in : (words tail : List ℕ) (k : ℕ) → All IsWord words → k < length words → word_at (words_text words ++ tail) (4 * k) ≡ get_or words k 0
word_in [] tail k are h = absurd (omega arith)
word_in (w ∷ ws) tail zero are h = word_at-word w (words_text ws ++ tail) (are 0 w (omega arith))
word_in (w ∷ ws) tail (suc k) are h =
    word_after (word w) (words_text ws ++ tail) (4 * k) (4 * suc k) (omega arith) ∙ word_in ws tail k (λ i d below. are (suc i) d (omega arith)) (omega arith)

stands : (front words tail : List ℕ) (place : ℕ) → All IsWord words → place ≡ length front → StandsAt (front ++ (words_text words ++ tail)) place words
stands front words tail place are e = record {
  each = λ k h. word_after front (words_text words ++ tail) (4 * k) (place + 4 * k) (omega arith) ∙ word_in words tail k are h;
}

say_at : (bytes : List ℕ) (xs : List Wire) (front : List ℕ) (at : ℕ) → All IsWire xs → length front ≡ at → bytes ≡ front ++ wires_text xs
    → SpansSay bytes (spans_at at xs) (items_words xs)
say_at bytes [] front at are len is = refl
say_at bytes (data_item f n s c data_bytes padding ∷ xs) front at are len is =
    let x = data_item f n s c data_bytes padding in
    say_at bytes xs (front ++ wire_text x) (at + length (wire_text x)) (All-tail IsWire x xs are) (omega (arith, length-append front (wire_text x)))
    (is ∙ sym (append_assoc front (wire_text x) (wires_text xs)))
say_at bytes (port_item f d words ∷ xs) front at are len is =
    let x = port_item f d words in
    let head = descriptor_text f d 32 (length words) in
    let fits : IsWire x = All-head IsWire x xs are in
    let place = words_place (record { at = at; long = is_long f; disposition = d; number = length words }) in
    let place_is : place ≡ length (front ++ head) =
    words_place-is f at d (length words) ∙ omega (arith, length-append front head, length-descriptor_text f d 32 (length words), len) in
    let parts : bytes ≡ (front ++ head) ++ (words_text words ++ wires_text xs) =
    is ∙ ap (λ (t : List ℕ). front ++ t) (append_assoc head (words_text words) (wires_text xs)) ∙ sym (append_assoc front head (words_text words ++ wires_text xs)) in (
      words,
      items_words xs,
      refl,
      subst (λ (b : List ℕ). StandsAt b place words) (sym parts) (stands (front ++ head) words (wires_text xs) place fits.2 place_is),
      refl,
      say_at bytes xs (front ++ wire_text x) (at + length (wire_text x)) (All-tail IsWire x xs are) (omega (arith, length-append front (wire_text x)))
          (is ∙ sym (append_assoc front (wire_text x) (wires_text xs))),
    )

pub laid_out-say : (bytes : List ℕ) (spans : List Span) (written : WireBody) → IsLaidOut bytes spans written → SpansSay bytes spans (body_words written)
laid_out-say bytes spans (raw body) is = subst (λ (ss : List Span). SpansSay bytes ss []) (sym is.spans_are) refl
laid_out-say bytes spans (items xs) is =
    let parts : bytes ≡ take 24 bytes ++ wires_text xs = sym (take-append-drop 24 bytes) ∙ ap (λ (t : List ℕ). take 24 bytes ++ t) is.body in
    let len : length (take 24 bytes) ≡ 24 = length-take-le 24 bytes is.room in
    subst (λ (ss : List Span). SpansSay bytes ss (items_words xs)) (sym is.spans_are) (say_at bytes xs (take 24 bytes) 24 is.fits len parts)

-- ---- and are read

pub words-step : (bytes names : List ℕ) (place k d v : ℕ) (before now after : List PortWord) → StandsAt bytes place names → k < length names
    → now ≡ before ++ named d (take k names) → after ≡ now ++ record { disposition = d; name = v } ∷ [] → v ≡ word_at bytes (place + 4 * k)
    → after ≡ before ++ named d (take (k + 1) names)
words-step bytes names place k d v before now after s h n a e =
    let value : v ≡ get_or names k 0 = e ∙ s.each k h in
    let more : named d (take (k + 1) names) ≡ named d (take k names) ++ record { disposition = d; name = get_or names k 0 } ∷ [] =
    ap (named d) (take_more names k 0 h) ∙ map-append (λ w. record { disposition = d; name = w }) (take k names) (get_or names k 0 ∷ []) in
    a
    ∙ ap (λ (ws : List PortWord). ws ++ record { disposition = d; name = v } ∷ []) n
    ∙ append_assoc before (named d (take k names)) (record { disposition = d; name = v } ∷ [])
    ∙ ap (λ (m : ℕ). before ++ (named d (take k names) ++ record { disposition = d; name = m } ∷ [])) value
    ∙ ap (λ (ws : List PortWord). before ++ ws) (sym more)

-- The words so far, and those that the other spans say, are all words.
pub record IsRead (bytes : List ℕ) (spans rest : List Span) (words : List PortWord) : Type 0 where
  pub fit : SpansFit (length bytes) rest
  pub whole : (ws : List PortWord) → SpansSay bytes spans ws → (others : List PortWord) × SpansSay bytes rest others × (ws ≡ words ++ others)

pub read-none : (bytes : List ℕ) (spans : List Span) → SpansFit (length bytes) spans → IsRead bytes spans spans []
read-none bytes spans fit = record { fit = fit; whole = λ ws say. (ws, say, refl) }

pub read-all : (bytes : List ℕ) (spans : List Span) (words : List PortWord) (written : WireBody) → IsRead bytes spans [] words → IsLaidOut bytes spans written
    → words ≡ body_words written
read-all bytes spans words written is laid =
    let t = is.whole (body_words written) (laid_out-say bytes spans written laid) in
    sym (t.2 ∙ ap (λ (os : List PortWord). words ++ os) t.1 ∙ append-nil words)

-- as many as the spans say
say-length : (bytes : List ℕ) (spans : List Span) (words : List PortWord) → SpansSay bytes spans words → length words ≡ word_count spans
say-length bytes [] words say = ap length say
say-length bytes (s ∷ ss) words say = grind (arith, say-length bytes ss say.1 say.5, length-map, length-append)

pub laid_out-count : (bytes : List ℕ) (spans : List Span) (written : WireBody) → IsLaidOut bytes spans written → length (body_words written) ≡ word_count spans
laid_out-count bytes spans written laid = say-length bytes spans (body_words written) (laid_out-say bytes spans written laid)
