-- Of a body of items the names are found under which receive rights come.
use Rattle.std.proofs.Common.{◌≡◌, ℕ, zero, suc, ◌+◌, ◌*◌, ◌/◌, ◌%◌, ◌^◌, ◌<◌, ◌≤◌, true, false, inl, inr, List, [], ◌∷◌, ◌++◌, length, drop, refl, sym, ap, subst, ◌∙◌, arith, length-append, append_assoc, All}
use Rattle.std.specs.Prelude.{◌==◌, Contains, flat_map}
use Rattle.std.proofs.lemmas.Bool.{cases_lt, eq-eqb, ne_eqb, le-ltb}
use Rattle.std.proofs.lemmas.Bool.Decides.{eqb_tells}
use Rattle.std.proofs.lemmas.List.{drop_at}
use Rattle.std.proofs.lemmas.List.Elements.{All-nil, All-cons, All-head, All-tail, All-append, All-map, Contains-append_left, Contains-append_right}
use Rattle.mach_types.specs.Bodies.{wire_words}
use Rattle.mach_types.specs.Grammar.{word, words_text, descriptor_text, Wire, data_item, port_item, wire_text, wires_text, IsWire}
use Rattle.mach_types.specs.Messages.{Form, short, long}
use Rattle.mach_types.specs.TextGuards.{word_at, data_length}
use Rattle.mach_laws.proofs.Giving.{ComesUnder}
use Rattle.type_descriptor.specs.Describes.{form_length}
use Rattle.type_descriptor.proofs.ByteWords.{word_at-word}
use Rattle.message_codec.proofs.Fronts.{IsFront, front_of as text_front, length-descriptor_text}
use Rattle.message_codec.proofs.Shapes.{HasShape, shape_of, front_of_wire, length-wire_text, form_length-ge}
use Rattle.kernel_change.specs.Received.{front_of, head_length, item_length, first_words, item_names, items_names}

-- ---- an item's descriptor, and where the item ends

-- The bytes begin with a descriptor of this form with these fields.
record IsRead (bytes : List ℕ) (form : Form) (name size number : ℕ) : Type 0 where
  named : (front_of bytes).name ≡ name
  sized : (front_of bytes).size ≡ size
  numbered : (front_of bytes).number ≡ number
  head : head_length (front_of bytes) ≡ form_length form

is_read : (bytes : List ℕ) (form : Form) (name size number : ℕ) → IsFront bytes form name size number → IsRead bytes form name size number
is_read bytes form name size number f = elim f.has [
  | inl h ↦
      let bit : (word_at bytes 0 / 2 ^ 29 % 2 == 1) ≡ false = ne_eqb (word_at bytes 0 / 2 ^ 29 % 2) 1 h.0 in
      let k = f.before_is.1 h.0 in
      record { named = rw bit (sym h.1); sized = rw bit (sym h.2); numbered = rw bit (sym h.3); head = rw bit (sym k) }
  | inr h ↦
      let bit : (word_at bytes 0 / 2 ^ 29 % 2 == 1) ≡ true = eq-eqb (word_at bytes 0 / 2 ^ 29 % 2) 1 h.0 in
      let k = f.before_is.0 h.0 in
      record { named = rw bit (sym h.1); sized = rw bit (sym h.2); numbered = rw bit (sym h.3); head = rw bit (sym k) }
]

filled : (m n : ℕ) → m ≤ n → n < m + 4 → n % 4 ≡ 0 → (m + 3) / 4 * 4 ≡ n
filled m n low high whole = omega arith

ends_there : (x : Wire) (s : HasShape x) (rest : List ℕ) → IsRead (wire_text x ++ rest) s.form s.name s.size s.number → length (wire_text x) ≡ item_length (front_of (wire_text x ++ rest))
ends_there x s rest r =
    let bytes = wire_text x ++ rest in
    let e : data_length (front_of bytes).size (front_of bytes).number ≡ data_length s.size s.number = ap (λ (n : ℕ). data_length n (front_of bytes).number) r.sized ∙ ap (data_length s.size) r.numbered in
    let f : (data_length (front_of bytes).size (front_of bytes).number + 3) / 4 * 4 ≡ length s.data_bytes = ap (λ (n : ℕ). (n + 3) / 4 * 4) e ∙ filled (data_length s.size s.number) (length s.data_bytes) s.low s.high s.whole in
    length-wire_text x s ∙ ap (λ (n : ℕ). n + length s.data_bytes) (sym r.head) ∙ ap (λ (n : ℕ). head_length (front_of bytes) + n) (sym f)

behind_it : (x : Wire) → IsWire x → (rest : List ℕ) → drop (item_length (front_of (wire_text x ++ rest))) (wire_text x ++ rest) ≡ rest
behind_it x is rest =
    let s : HasShape x = shape_of x is in
    drop_at (wire_text x) rest (item_length (front_of (wire_text x ++ rest))) (ends_there x s rest (is_read (wire_text x ++ rest) s.form s.name s.size s.number (front_of_wire x s rest)))

-- ---- the words of an item of rights

one_read : (n w : ℕ) (behind : List ℕ) → w < 2 ^ 32 → first_words (suc n) (word w ++ behind) ≡ w ∷ first_words n behind
one_read n w behind fits = rw (le-ltb (length (word w ++ behind)) 4 (omega arith), word_at-word w behind fits) refl

all_read : (ws : List ℕ) (rest : List ℕ) → All (λ (w : ℕ). w < 2 ^ 32) ws → first_words (length ws) (words_text ws ++ rest) ≡ ws
all_read [] rest fit = refl
all_read (w ∷ ws) rest fit =
    one_read (length ws) w (words_text ws ++ rest) (All-head (λ (x : ℕ). x < 2 ^ 32) w ws fit) ∙ ap (λ (xs : List ℕ). w ∷ xs) (all_read ws rest (All-tail (λ (x : ℕ). x < 2 ^ 32) w ws fit))

port_read : (form : Form) (d : ℕ) (ws rest : List ℕ) → IsWire (port_item form d ws) → IsRead (wire_text (port_item form d ws) ++ rest) form d 32 (length ws)
port_read form d ws rest is =
    is_read (wire_text (port_item form d ws) ++ rest) form d 32 (length ws)
    (subst (λ (bytes : List ℕ). IsFront bytes form d 32 (length ws)) (sym (append_assoc (descriptor_text form d 32 (length ws)) (words_text ws) rest)) (text_front form d 32 (length ws) (words_text ws ++ rest) is.0 (λ ports. refl)))

port_names : (form : Form) (d : ℕ) (ws rest : List ℕ) → IsWire (port_item form d ws) → d ≡ 16 → item_names (front_of (wire_text (port_item form d ws) ++ rest)) (wire_text (port_item form d ws) ++ rest) ≡ ws
port_names form d ws rest is receives =
    let bytes = wire_text (port_item form d ws) ++ rest in
    let r = port_read form d ws rest is in
    let kind : ((front_of bytes).name == 16) ≡ true = eq-eqb (front_of bytes).name 16 (r.named ∙ receives) in
    let head : length (descriptor_text form d 32 (length ws)) ≡ head_length (front_of bytes) = length-descriptor_text form d 32 (length ws) ∙ sym r.head in
    let words : drop (head_length (front_of bytes)) bytes ≡ words_text ws ++ rest =
    ap (drop (head_length (front_of bytes))) (append_assoc (descriptor_text form d 32 (length ws)) (words_text ws) rest) ∙ drop_at (descriptor_text form d 32 (length ws)) (words_text ws ++ rest) (head_length (front_of bytes)) head in
    rw kind (ap (λ (n : ℕ). first_words n (drop (head_length (front_of bytes)) bytes)) r.numbered ∙ ap (first_words (length ws)) words ∙ all_read ws rest is.2)

-- ---- and those of all items

-- items of less than eight bytes have none
pub few_words : (xs : List Wire) → length (wires_text xs) < 8 → flat_map wire_words xs ≡ []
few_words [] few = refl
few_words (data_item short name size number bytes padding ∷ xs) few = few_words xs (let e = length-append (bytes ++ padding) (wires_text xs) in omega (arith, few, e))
few_words (data_item long name size number bytes padding ∷ xs) few = few_words xs (let e = length-append (bytes ++ padding) (wires_text xs) in omega (arith, few, e))
few_words (port_item short number [] ∷ xs) few = few_words xs (omega (arith, few))
few_words (port_item long number [] ∷ xs) few = few_words xs (omega (arith, few))
few_words (port_item short number (v ∷ vs) ∷ xs) few = absurd (omega (arith, few))
few_words (port_item long number (v ∷ vs) ∷ xs) few = absurd (omega (arith, few))

-- so have those with less than a word behind the first descriptor
none_behind : (x : Wire) (xs : List Wire) → IsWire x → length (wires_text (x ∷ xs)) < head_length (front_of (wires_text (x ∷ xs))) + 4 → flat_map wire_words (x ∷ xs) ≡ []
none_behind (data_item form name size number bytes padding) xs is few =
    let x = data_item form name size number bytes padding in
    let s : HasShape x = shape_of x is in
    let r = is_read (wire_text x ++ wires_text xs) s.form s.name s.size s.number (front_of_wire x s (wires_text xs)) in
    few_words xs (omega (arith, few, r.head, length-wire_text x s, length-append (wire_text x) (wires_text xs)))
none_behind (port_item form d ws) xs is few =
    let r = port_read form d ws (wires_text xs) is in
    no_words ws (subst (λ (n : ℕ). length (wires_text (port_item form d ws ∷ xs)) < n + 4) r.head few)
  where
    no_words : (ws : List ℕ) → length (wires_text (port_item form d ws ∷ xs)) < form_length form + 4 → flat_map wire_words (port_item form d ws ∷ xs) ≡ []
    no_words [] few =
        let k = length-descriptor_text form d 32 0 in
        let e = length-append (descriptor_text form d 32 0 ++ words_text []) (wires_text xs) in
        let f = length-append (descriptor_text form d 32 0) (words_text []) in
        few_words xs (omega (arith, few, k, e, f))
    no_words (v ∷ vs) few =
        let k = length-descriptor_text form d 32 (length (v ∷ vs)) in
        let e = length-append (descriptor_text form d 32 (length (v ∷ vs)) ++ words_text (v ∷ vs)) (wires_text xs) in
        let f = length-append (descriptor_text form d 32 (length (v ∷ vs))) (words_text (v ∷ vs)) in
        absurd (omega (arith, few, k, e, f))

more_names : (names more : List ℕ) → ((n : ℕ) → Contains names n → Contains more n) → (ws : List (ℕ × ℕ)) → All (ComesUnder names) ws → All (ComesUnder more) ws
more_names names more to [] all = All-nil (ComesUnder more)
more_names names more to (w ∷ ws) all = All-cons (ComesUnder more) w ws (λ is. to w.1 (All-head (ComesUnder names) w ws all is)) (more_names names more to ws (All-tail (ComesUnder names) w ws all))

each_in : (names ws : List ℕ) → ((n : ℕ) → Contains ws n → Contains names n) → (d : ℕ) → All (λ (w : ℕ). ComesUnder names (d, w)) ws
each_in names [] to d = All-nil (λ (w : ℕ). ComesUnder names (d, w))
each_in names (w ∷ ws) to d = All-cons (λ (x : ℕ). ComesUnder names (d, x)) w ws (λ is. to w (0, omega arith, refl)) (each_in names ws (λ n (i, below, is). to n (suc i, omega (arith, below), is)) d)

none_come : (names ws : List ℕ) (d : ℕ) → (d ≡ 16 → ⊥) → All (λ (w : ℕ). ComesUnder names (d, w)) ws
none_come names [] d other = All-nil (λ (w : ℕ). ComesUnder names (d, w))
none_come names (w ∷ ws) d other = All-cons (λ (x : ℕ). ComesUnder names (d, x)) w ws (λ is. absurd (other is)) (none_come names ws d other)

item_named : (x : Wire) → IsWire x → (rest : List ℕ) → All (ComesUnder (item_names (front_of (wire_text x ++ rest)) (wire_text x ++ rest))) (wire_words x)
item_named (data_item form name size number bytes padding) is rest = All-nil (ComesUnder (item_names (front_of (wire_text (data_item form name size number bytes padding) ++ rest)) (wire_text (data_item form name size number bytes padding) ++ rest)))
item_named (port_item form d ws) is rest =
    let names = item_names (front_of (wire_text (port_item form d ws) ++ rest)) (wire_text (port_item form d ws) ++ rest) in
    All-map (ComesUnder names) (λ (w : ℕ). (d, w)) ws (elim (eqb_tells d 16) [
      | inl h ↦ each_in names ws (λ n in_it. subst (λ (xs : List ℕ). Contains xs n) (sym (port_names form d ws rest is h.1)) in_it) d
      | inr h ↦ none_come names ws d h.1
    ])

pub words_named : (xs : List Wire) → All IsWire xs → (n : ℕ) → length (wires_text xs) ≤ n → All (ComesUnder (items_names n (wires_text xs))) (flat_map wire_words xs)
words_named [] are n few = All-nil (ComesUnder (items_names n []))
words_named (x ∷ xs) are n few = elim (cases_lt (length (wires_text (x ∷ xs))) (head_length (front_of (wires_text (x ∷ xs))) + 4)) [
  | inl h ↦ subst (All (ComesUnder (items_names n (wires_text (x ∷ xs))))) (sym (none_behind x xs is h)) (All-nil (ComesUnder (items_names n (wires_text (x ∷ xs)))))
  | inr h ↦ go n few h (words_named xs (All-tail IsWire x xs are))
]
  where
    is : IsWire x
    is = All-head IsWire x xs are

    go : (n : ℕ) → length (wires_text (x ∷ xs)) ≤ n → head_length (front_of (wires_text (x ∷ xs))) + 4 ≤ length (wires_text (x ∷ xs)) →
        ((k : ℕ) → length (wires_text xs) ≤ k → All (ComesUnder (items_names k (wires_text xs))) (flat_map wire_words xs)) → All (ComesUnder (items_names n (wires_text (x ∷ xs)))) (flat_map wire_words (x ∷ xs))
    go zero few enough others = absurd (omega (arith, few, enough))
    go (suc n) few enough others =
        let bytes = wires_text (x ∷ xs) in
        let own = item_names (front_of bytes) bytes in
        let more = items_names n (wires_text xs) in
        let s : HasShape x = shape_of x is in
        let step : items_names (suc n) bytes ≡ own ++ items_names n (drop (item_length (front_of bytes)) bytes) = rw (le-ltb (length bytes) (head_length (front_of bytes) + 4) enough) refl in
        let e : items_names (suc n) bytes ≡ own ++ more = step ∙ ap (λ (ys : List ℕ). own ++ items_names n ys) (behind_it x is (wires_text xs)) in
        let shorter : length (wires_text xs) ≤ n = omega (arith, few, length-append (wire_text x) (wires_text xs), length-wire_text x s, form_length-ge s.form) in
        subst (λ (names : List ℕ). All (ComesUnder names) (flat_map wire_words (x ∷ xs))) (sym e)
        (All-append (ComesUnder (own ++ more)) (wire_words x) (flat_map wire_words xs)
        (more_names own (own ++ more) (λ k. Contains-append_left own more k) (wire_words x) (item_named x is (wires_text xs)))
        (more_names more (own ++ more) (λ k. Contains-append_right own more k) (flat_map wire_words xs) (others n shorter)))
