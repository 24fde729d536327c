-- Words written one after another, and the byte of a kind.
use Rattle.std.proofs.Common.{◌≡◌, ℕ, ◌+◌, ◌*◌, ◌/◌, ◌%◌, ◌^◌, ◌<◌, ◌≤◌, ◌⊎◌, List, [], ◌∷◌, ◌++◌, length, take, drop, get_or, set, refl, sym, ap, ◌∙◌, arith, length-append, append_assoc, All, subst}
use Rattle.std.proofs.lemmas.Bool.{cases_eq}
use Rattle.std.proofs.lemmas.List.{drop_at, take_at, set_at, drop-drop, take_more, length-take-le, get_or_read}
use Rattle.std.proofs.lemmas.List.Elements.{All-push}
use Rattle.mach_types.specs.Grammar.{word, half, words_text, descriptor_text, FitsForm, NamesPorts}
use Rattle.mach_types.specs.Messages.{Form, short, long}
use Rattle.type_descriptor.proofs.ByteWords.{one_more_word}
use Rattle.message_codec.specs.Putting.{with_words}
use Rattle.message_codec.specs.Received.{received_kind}
use Rattle.message_codec.proofs.Shapes.{length-words_text}

-- ---- words

words_text-push : (ws : List ℕ) (w : ℕ) → words_text (ws ++ w ∷ []) ≡ words_text ws ++ word w
words_text-push [] w = refl
words_text-push (v ∷ ws) w = ap (λ (t : List ℕ). word v ++ t) (words_text-push ws w)

pub names-step : (at i v next : ℕ) (names bytes old new : List ℕ) → at + 4 * length names ≤ length bytes → i < length names → v ≡ get_or names i v
    → next ≡ at + 4 * i → old ≡ (take at bytes ++ words_text (take i names)) ++ drop (at + 4 * i) bytes
    → new ≡ take next old ++ word v ++ drop (next + 4) old
    → new ≡ (take at bytes ++ words_text (take (i + 1) names)) ++ drop (at + 4 * (i + 1)) bytes
names-step at i v next names bytes old new room within value next_is before wrote =
    let front = take at bytes ++ words_text (take i names) in
    let len : length front ≡ next = omega (arith, length-append (take at bytes) (words_text (take i names)), length-take-le at bytes (omega arith), length-words_text (take i names), length-take-le i names (omega arith)) in
    let old_is : old ≡ front ++ drop next bytes = before ∙ ap (λ (n : ℕ). front ++ drop n bytes) (sym next_is) in
    let more : words_text (take (i + 1) names) ≡ words_text (take i names) ++ word v =
    ap words_text (take_more names i 0 within) ∙ words_text-push (take i names) (get_or names i 0) ∙ ap (λ (n : ℕ). words_text (take i names) ++ word n) (sym (get_or_read names i v within value 0)) in
    let e : next + 4 ≡ at + 4 * (i + 1) = omega arith in
    one_more_word next v front bytes old new len old_is wrote
    ∙ ap (λ (t : List ℕ). t ++ drop (next + 4) bytes) (append_assoc (take at bytes) (words_text (take i names)) (word v) ∙ ap (λ (t : List ℕ). take at bytes ++ t) (sym more))
    ∙ ap (λ (n : ℕ). (take at bytes ++ words_text (take (i + 1) names)) ++ drop n bytes) e

-- one word more is a word
pub words-step : (names : List ℕ) (i v : ℕ) → i < length names → v ≡ get_or names i v → v < 2 ^ 32
    → All (λ (w : ℕ). w < 2 ^ 32) (take i names) → All (λ (w : ℕ). w < 2 ^ 32) (take (i + 1) names)
words-step names i v within value small all =
    let more : take (i + 1) names ≡ take i names ++ v ∷ [] = take_more names i v within ∙ ap (λ (n : ℕ). take i names ++ n ∷ []) (sym value) in
    subst (λ (t : List ℕ). All (λ (w : ℕ). w < 2 ^ 32) t) (sym more) (All-push (λ (w : ℕ). w < 2 ^ 32) (take i names) v all small)

-- words written in the place of as many
pub with_words-at : (at : ℕ) (front old tail names : List ℕ) → length front ≡ at → length old ≡ 4 * length names
    → with_words at names (front ++ (old ++ tail)) ≡ front ++ (words_text names ++ tail)
with_words-at at front old tail names len same =
    let kept : take at (front ++ (old ++ tail)) ≡ front = take_at front (old ++ tail) at len in
    let rest : drop (at + 4 * length names) (front ++ (old ++ tail)) ≡ tail =
    sym (drop-drop (4 * length names) at (front ++ (old ++ tail))) ∙ ap (drop (4 * length names)) (drop_at front (old ++ tail) at len) ∙ drop_at old tail (4 * length names) same in
    rw (kept, rest) (append_assoc front (words_text names) tail)

-- ---- kinds

pub six : (d : ℕ) → NamesPorts d → (d ≡ 16) ⊎ ((d ≡ 17) ⊎ ((d ≡ 18) ⊎ ((d ≡ 19) ⊎ ((d ≡ 20) ⊎ (d ≡ 21)))))
six d ports = grind (arith, cases_eq)

-- a kind at receipt is a disposition too
pub received_kind-ports : (d : ℕ) → NamesPorts d → NamesPorts (received_kind d)
received_kind-ports d ports = grind (arith, six)

-- the upper bytes of a short descriptor don't know the kind
upper_bytes : (d k n : ℕ) → d < 2 ^ 8 → k < 2 ^ 8 → n < 2 ^ 12
    → ((d + 32 * 2 ^ 8 + n * 2 ^ 16 + 2 ^ 28) / 2 ^ 8 % 2 ^ 8 ≡ (k + 32 * 2 ^ 8 + n * 2 ^ 16 + 2 ^ 28) / 2 ^ 8 % 2 ^ 8)
    × ((d + 32 * 2 ^ 8 + n * 2 ^ 16 + 2 ^ 28) / 2 ^ 16 % 2 ^ 8 ≡ (k + 32 * 2 ^ 8 + n * 2 ^ 16 + 2 ^ 28) / 2 ^ 16 % 2 ^ 8)
    × ((d + 32 * 2 ^ 8 + n * 2 ^ 16 + 2 ^ 28) / 2 ^ 24 % 2 ^ 8 ≡ (k + 32 * 2 ^ 8 + n * 2 ^ 16 + 2 ^ 28) / 2 ^ 24 % 2 ^ 8)
    × (k ≡ (k + 32 * 2 ^ 8 + n * 2 ^ 16 + 2 ^ 28) % 2 ^ 8)
upper_bytes d k n hd hk hn = (omega arith, omega arith, omega arith, omega arith)

short-kind : (front tail : List ℕ) (d k n at : ℕ) → d < 2 ^ 8 → k < 2 ^ 8 → n < 2 ^ 12 → length front ≡ at
    → set (front ++ (descriptor_text short d 32 n ++ tail)) at k ≡ front ++ (descriptor_text short k 32 n ++ tail)
short-kind front tail d k n at hd hk hn len = grind (arith, upper_bytes, set_at)

low_and_high : (d k : ℕ) → d < 2 ^ 8 → k < 2 ^ 8 → (d / 2 ^ 8 % 2 ^ 8 ≡ k / 2 ^ 8 % 2 ^ 8) × (k ≡ k % 2 ^ 8)
low_and_high d k hd hk = (omega arith, omega arith)

long-kind : (front tail : List ℕ) (d k n at : ℕ) → d < 2 ^ 8 → k < 2 ^ 8 → length front + 4 ≡ at
    → set (front ++ (descriptor_text long d 32 n ++ tail)) at k ≡ front ++ (descriptor_text long k 32 n ++ tail)
long-kind front tail d k n at hd hk len =
    let first = word (2 ^ 28 + 2 ^ 29) in
    let rest = half 32 ++ (word n ++ tail) in
    let e = low_and_high d k hd hk in
    let split : front ++ (descriptor_text long d 32 n ++ tail) ≡ (front ++ first) ++ (d % 2 ^ 8 ∷ d / 2 ^ 8 % 2 ^ 8 ∷ rest) =
    sym (append_assoc front first (d % 2 ^ 8 ∷ d / 2 ^ 8 % 2 ^ 8 ∷ rest)) in
    ap (λ (t : List ℕ). set t at k) split
    ∙ set_at (front ++ first) (d % 2 ^ 8) (d / 2 ^ 8 % 2 ^ 8 ∷ rest) k at (omega (arith, length-append front first))
    ∙ ap (λ (b : ℕ). (front ++ first) ++ (k ∷ b ∷ rest)) e.0
    ∙ ap (λ (b : ℕ). (front ++ first) ++ (b ∷ k / 2 ^ 8 % 2 ^ 8 ∷ rest)) e.1
    ∙ append_assoc front first (k % 2 ^ 8 ∷ k / 2 ^ 8 % 2 ^ 8 ∷ rest)

abbrev pub kind_offset : Form → ℕ
kind_offset short = 0
kind_offset long = 4

-- the kind written over the one that was sent
pub with_kind-at : (f : Form) (front tail : List ℕ) (d k n at : ℕ) → FitsForm f d 32 n → k < 2 ^ 8 → length front + kind_offset f ≡ at
    → set (front ++ (descriptor_text f d 32 n ++ tail)) at k ≡ front ++ (descriptor_text f k 32 n ++ tail)
with_kind-at short front tail d k n at fits small is = short-kind front tail d k n at fits.0 small fits.2 (omega arith)
with_kind-at long front tail d k n at fits small is = long-kind front tail d k n at fits.0 small is
