-- Whole texts: what a judged header and a judged body make.
use Rattle.std.proofs.Common.{◌≡◌, ℕ, ◌+◌, ◌*◌, ◌/◌, ◌%◌, ◌^◌, ◌<◌, ◌≤◌, ◌⊎◌, IsTrue, Bool, true, false, Result, Ok, Err, IfErr, OnOk, List, [], ◌∷◌, ◌++◌, length, drop, refl, sym, ap, ◌∙◌, inl, inr, arith, All, subst}
use Rattle.std.proofs.lemmas.Bool.{cases_eq}
use Rattle.std.proofs.lemmas.List.{length-drop}
use Rattle.std.specs.Prelude.{◌↔◌}
use Rattle.mach_types.specs.Grammar.{word, Header, WireBody, raw, items, text, complex_bit, body_text, wires_text, Spells, IsHeader, IsWireBody, IsWire}
use Rattle.mach_types.specs.Guards.{Guards, FirstIs, NoneHolds}
use Rattle.mach_types.specs.declared.codes.MsgReturn.{MsgReturn}
use Rattle.mach_types.specs.declared.codes.MsgReturn.TheVariants.{SendNoBuffer}
use Rattle.mach_types.specs.Codes.{msg_number}
use Rattle.mach_types.specs.TextGuards.{word_at, is_bit, BadHeader, header_guards, TextRefuses, ItemsRefuse}
use Rattle.type_descriptor.proofs.ByteWords.{AreBytes, word-word_at, word_at-lt, word_at-word}
use Rattle.message_codec.specs.declared.spans.Span.{Span}
use Rattle.message_codec.specs.Parses.{header_at, is_items, IsMessage, ReadsBody, IsCrowded}
use Rattle.message_codec.specs.Reading.{ReadsItems, HasMany}
use Rattle.message_codec.specs.Words.{body_words}
use Rattle.message_codec.proofs.Shapes.{text_not_refused}

-- ---- headers

-- a list of at least six words
six_words : (bytes : List ℕ) → AreBytes bytes → 24 ≤ length bytes
    → bytes ≡ word (word_at bytes 0) ++ word (word_at bytes 4) ++ word (word_at bytes 8) ++ word (word_at bytes 12) ++ word (word_at bytes 16) ++ word (word_at bytes 20) ++ drop 24 bytes
six_words bytes are room =
    let w0 : bytes ≡ word (word_at bytes 0) ++ drop 4 bytes = word-word_at bytes 0 are (omega arith) in
    let w1 : drop 4 bytes ≡ word (word_at bytes 4) ++ drop 8 bytes = word-word_at bytes 4 are (omega arith) in
    let w2 : drop 8 bytes ≡ word (word_at bytes 8) ++ drop 12 bytes = word-word_at bytes 8 are (omega arith) in
    let w3 : drop 12 bytes ≡ word (word_at bytes 12) ++ drop 16 bytes = word-word_at bytes 12 are (omega arith) in
    let w4 : drop 16 bytes ≡ word (word_at bytes 16) ++ drop 20 bytes = word-word_at bytes 16 are (omega arith) in
    let w5 : drop 20 bytes ≡ word (word_at bytes 20) ++ drop 24 bytes = word-word_at bytes 20 are (omega arith) in
    w0
    ∙ ap (λ (r : List ℕ). word (word_at bytes 0) ++ r) (w1
    ∙ ap (λ (r : List ℕ). word (word_at bytes 4) ++ r) (w2
    ∙ ap (λ (r : List ℕ). word (word_at bytes 8) ++ r) (w3
    ∙ ap (λ (r : List ℕ). word (word_at bytes 12) ++ r) (w4
    ∙ ap (λ (r : List ℕ). word (word_at bytes 16) ++ r) w5))))

-- a first word without unknown bits
first_word : (n flag : ℕ) → n < 2 ^ 32 → n / 2 ^ 16 % 2 ^ 15 ≡ 0 → flag ≡ n / 2 ^ 31 * 2 ^ 31 → n ≡ n % 2 ^ 8 + n / 2 ^ 8 % 2 ^ 8 * 2 ^ 8 + flag
first_word n flag fits known is = omega arith

known_of : (n local : ℕ) → ¬ (BadHeader n local) → n / 2 ^ 16 % 2 ^ 15 ≡ 0
known_of n local good = elim (cases_eq (n / 2 ^ 16 % 2 ^ 15) 0) [ inl h ↦ h | inr h ↦ absurd (good (inl h)) ]

-- what a judged header says of the local port where there is no right to answer with
pub local_of : (bytes : List ℕ) → NoneHolds (header_guards bytes) → 0 ≡ word_at bytes 0 / 2 ^ 8 % 2 ^ 8 → 0 ≡ word_at bytes 12
local_of bytes none alone = elim (cases_eq (word_at bytes 12) 0) [ inl h ↦ sym h | inr h ↦ absurd (none.1.1.0 (inr (inr (inr (sym alone, h))))) ]

-- what a judged header says of the length
pub long_enough : (bytes : List ℕ) → NoneHolds (header_guards bytes) → 24 ≤ length bytes
long_enough bytes none = let h : length bytes < 24 → ⊥ = λ few. none.0 (inl few) in omega arith

pub in_words : (bytes : List ℕ) → NoneHolds (header_guards bytes) → length bytes % 4 ≡ 0
in_words bytes none = elim (cases_eq (length bytes % 4) 0) [ inl h ↦ h | inr h ↦ absurd (none.0 (inr h)) ]

pub header-spells : (bytes : List ℕ) (written : WireBody) → AreBytes bytes → 24 ≤ length bytes → word_at bytes 0 / 2 ^ 16 % 2 ^ 15 ≡ 0
    → drop 24 bytes ≡ body_text written → IsWireBody written → complex_bit written ≡ word_at bytes 0 / 2 ^ 31 * 2 ^ 31
    → Spells bytes (header_at bytes) written
header-spells bytes written are room known body fits flag = grind (arith, first_word, word_at-lt, six_words)

-- ---- refusals

pub none_is_first : (gs : Guards) (code : ℕ) → NoneHolds gs → FirstIs gs code → ⊥
none_is_first [] code none first = first
none_is_first (g ∷ gs) code none first = elim first [ inl h ↦ none.0 h.0 | inr h ↦ none_is_first gs code none.1 h.1 ]

raw_not_refused : (bytes : List ℕ) (code : ℕ) → NoneHolds (header_guards bytes) → ¬ (is_bit (word_at bytes 0) 31) → ¬ (TextRefuses bytes code)
raw_not_refused bytes code none plain refused = elim refused [ inl h ↦ none_is_first (header_guards bytes) code none h | inr h ↦ plain h.1 ]

items_are_not_refused : (bytes : List ℕ) (xs : List _) (code : ℕ) → NoneHolds (header_guards bytes) → drop 24 bytes ≡ wires_text xs → All IsWire xs → ¬ (TextRefuses bytes code)
items_are_not_refused bytes xs code none body fits refused = elim refused [
  | inl h ↦ none_is_first (header_guards bytes) code none h
  | inr h ↦ text_not_refused (drop 24 bytes) xs code fits body h.2
]

-- ---- whole texts

pub no_flag : (n : ℕ) → n < 2 ^ 32 → ¬ (is_bit n 31) → 0 ≡ n / 2 ^ 31 * 2 ^ 31
no_flag n fits plain = omega arith

pub flag_is : (n : ℕ) → n < 2 ^ 32 → is_bit n 31 → 2 ^ 31 ≡ n / 2 ^ 31 * 2 ^ 31
flag_is n fits complex = omega arith

pub raw-message : (bytes : List ℕ) → AreBytes bytes → NoneHolds (header_guards bytes) → ¬ (is_bit (word_at bytes 0) 31)
    → IsMessage bytes (header_at bytes) (raw (drop 24 bytes))
raw-message bytes are none plain =
    let room : 24 ≤ length bytes = long_enough bytes none in
    let whole : length bytes % 4 ≡ 0 = in_words bytes none in
    record {
      spells = header-spells bytes (raw (drop 24 bytes)) are room (known_of (word_at bytes 0) (word_at bytes 12) none.1.1.0) refl (omega (arith, length-drop 24 bytes)) (no_flag (word_at bytes 0) (word_at-lt bytes 0 are) plain);
      unrefused = λ code. raw_not_refused bytes code none plain;
    }

pub items-message : (bytes : List ℕ) (xs : List _) → AreBytes bytes → NoneHolds (header_guards bytes) → is_bit (word_at bytes 0) 31
    → drop 24 bytes ≡ wires_text xs → All IsWire xs → IsMessage bytes (header_at bytes) (items xs)
items-message bytes xs are none complex body fits = record {
  spells = header-spells bytes (items xs) are (long_enough bytes none) (known_of (word_at bytes 0) (word_at bytes 12) none.1.1.0) body fits (flag_is (word_at bytes 0) (word_at-lt bytes 0 are) complex);
  unrefused = λ code. items_are_not_refused bytes xs code none body fits;
}

pub raw-body : (bytes : List ℕ) (spans : List Span) → AreBytes bytes → NoneHolds (header_guards bytes) → ¬ (is_bit (word_at bytes 0) 31)
    → spans ≡ [] → ReadsBody bytes spans
raw-body bytes spans are none plain empty = record {
  written = raw (drop 24 bytes);
  message = raw-message bytes are none plain;
  spans_are = empty;
  if_complex = λ h. absurd (plain h);
  if_plain = λ h. refl;
}

pub items-body : (bytes : List ℕ) (spans : List Span) → AreBytes bytes → NoneHolds (header_guards bytes) → is_bit (word_at bytes 0) 31
    → ReadsItems bytes spans → ReadsBody bytes spans
items-body bytes spans are none complex read = record {
  written = items read.xs;
  message = items-message bytes read.xs are none complex read.text read.fits;
  spans_are = read.spans_are;
  if_complex = λ h. refl;
  if_plain = λ h. absurd (h complex);
}

pub items-crowded : (bytes : List ℕ) → AreBytes bytes → NoneHolds (header_guards bytes) → is_bit (word_at bytes 0) 31 → HasMany bytes → IsCrowded bytes
items-crowded bytes are none complex many = record {
  header = header_at bytes;
  written = items many.xs;
  message = items-message bytes many.xs are none complex many.text many.fits;
  many = many.many;
}

-- ---- what the walk over the items answers

pub body-read : {A B : Type 0} (r : Result A B) (spans : List Span) (bytes : List ℕ) → AreBytes bytes → NoneHolds (header_guards bytes) → is_bit (word_at bytes 0) 31
    → OnOk r (ReadsItems bytes spans) → OnOk r (ReadsBody bytes spans)
body-read (Ok v) spans bytes are none complex read = items-body bytes spans are none complex read
body-read (Err e) spans bytes are none complex read = tt

pub body-refused : {A : Type 0} (r : Result A MsgReturn) (bytes : List ℕ) → AreBytes bytes → NoneHolds (header_guards bytes) → is_bit (word_at bytes 0) 31
    → IfErr r (λ code. ItemsRefuse (drop 24 bytes) (msg_number code) ⊎ (code ≡ SendNoBuffer) × HasMany bytes)
    → IfErr r (λ code. TextRefuses bytes (msg_number code) ⊎ (code ≡ SendNoBuffer) × IsCrowded bytes)
body-refused (Ok v) bytes are none complex refused = tt
body-refused (Err e) bytes are none complex refused = grind (arith, items-crowded)

-- ---- texts of the grammar

no_flag_in : (remote local : ℕ) → remote < 2 ^ 8 → local < 2 ^ 8 → (remote + local * 2 ^ 8 + 0) / 2 ^ 31 % 2 ≡ 1 → ⊥
no_flag_in remote local r l h = omega arith

word_at-first : (n : ℕ) (rest : List ℕ) → n < 2 ^ 32 → word_at (word n ++ rest) 0 ≡ n
word_at-first n rest fits = word_at-word n rest fits

pub raw_bits : (h : Header) (body : List ℕ) → IsHeader h → ¬ (is_bit (word_at (text h (raw body)) 0) 31)
raw_bits h body fits set = grind (arith, word_at-first, no_flag_in)

text-not_refused : (h : Header) (written : WireBody) (code : ℕ) → IsHeader h → IsWireBody written → NoneHolds (header_guards (text h written))
    → ¬ (TextRefuses (text h written) code)
text-not_refused h (raw body) code fits body_fits none refused = grind (arith, raw_not_refused, raw_bits)
text-not_refused h (items xs) code fits body_fits none refused =
    items_are_not_refused (text h (items xs)) xs code none refl body_fits refused

-- a text whose header is lawful isn't refused
pub message_not_refused : (bytes : List ℕ) (h : Header) (written : WireBody) (code : ℕ) → Spells bytes h written → NoneHolds (header_guards bytes)
    → ¬ (TextRefuses bytes code)
message_not_refused bytes h written code spells none refused =
    text-not_refused h written code spells.header_fits spells.body_fits
    (subst (λ (t : List ℕ). NoneHolds (header_guards t)) spells.is_text none)
    (subst (λ (t : List ℕ). TextRefuses t code) spells.is_text refused)

pub only_crowded : {A : Type 0} (r : Result A MsgReturn) (bytes : List ℕ) (h : Header) (written : WireBody) → Spells bytes h written → NoneHolds (header_guards bytes)
    → IfErr r (λ code. TextRefuses bytes (msg_number code) ⊎ (code ≡ SendNoBuffer) × IsCrowded bytes)
    → IfErr r (λ code. (code ≡ SendNoBuffer) × IsCrowded bytes)
only_crowded (Ok v) bytes h written spells none refused = tt
only_crowded (Err e) bytes h written spells none refused = elim refused [
  | inl r ↦ absurd (message_not_refused bytes h written (msg_number e) spells none r)
  | inr r ↦ r
]

-- raw bytes have no port words
pub raw-words : (written : WireBody) → is_items written ≡ false → body_words written ≡ []
raw-words (raw bytes) plain = refl
raw-words (items xs) plain = absurd (cc)
