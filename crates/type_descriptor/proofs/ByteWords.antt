-- Words in a list of bytes: what is read, and what is written.
use Rattle.std.proofs.Common.{◌∙◌, IsTrue, false, ◌≡◌, ℕ, ◌+◌, ◌-◌, ◌*◌, ◌/◌, ◌%◌, ◌^◌, ◌<◌, ◌≤◌, List, [], ◌∷◌, ◌++◌, length, get_or, take, drop, refl, sym, ap, arith}
use Rattle.std.proofs.lemmas.List.{take_at, drop_at, length-take-le, length-append, drop_more, drop-drop, take_all, drop_all, append-nil, append_assoc, length-drop}
use borrow.Rule.Slice.PartMut.{put_mid, mid_of}
use Rattle.mach_types.specs.Grammar.{word}
use Rattle.mach_types.specs.TextGuards.{word_at}

-- each number is a byte
pub record AreBytes (bytes : List ℕ) : Type 0 where
  pub below : (k : ℕ) → get_or bytes k 0 < 2 ^ 8

-- the bytes of a number made of four bytes
pub word-of_bytes : (a b c d : ℕ) → a < 2 ^ 8 → b < 2 ^ 8 → c < 2 ^ 8 → d < 2 ^ 8
    → word (a + b * 2 ^ 8 + c * 2 ^ 16 + d * 2 ^ 24) ≡ a ∷ b ∷ c ∷ d ∷ []
word-of_bytes a b c d ha hb hc hd =
    let e0 : (a + b * 2 ^ 8 + c * 2 ^ 16 + d * 2 ^ 24) % 2 ^ 8 ≡ a = omega arith in
    let e1 : (a + b * 2 ^ 8 + c * 2 ^ 16 + d * 2 ^ 24) / 2 ^ 8 % 2 ^ 8 ≡ b = omega arith in
    let e2 : (a + b * 2 ^ 8 + c * 2 ^ 16 + d * 2 ^ 24) / 2 ^ 16 % 2 ^ 8 ≡ c = omega arith in
    let e3 : (a + b * 2 ^ 8 + c * 2 ^ 16 + d * 2 ^ 24) / 2 ^ 24 % 2 ^ 8 ≡ d = omega arith in
    rw (e0, e1, e2, e3) refl

-- what is left of a list, and what is left a place further on
drop-next : (bytes : List ℕ) (at next : ℕ) → next ≡ at + 1 → at < length bytes → drop at bytes ≡ get_or bytes at 0 ∷ drop next bytes
drop-next bytes at next is room = rw is (drop_more bytes at 0 room)

-- a word read from an offset is what stands there
pub word-word_at : (bytes : List ℕ) (at : ℕ) → AreBytes bytes → at + 4 ≤ length bytes
    → drop at bytes ≡ word (word_at bytes at) ++ drop (at + 4) bytes
word-word_at bytes at are room =
    let same = word-of_bytes (get_or bytes at 0) (get_or bytes (at + 1) 0) (get_or bytes (at + 2) 0) (get_or bytes (at + 3) 0)
    (are.below at) (are.below (at + 1)) (are.below (at + 2)) (are.below (at + 3)) in
    let d0 : drop at bytes ≡ get_or bytes at 0 ∷ drop (at + 1) bytes = drop_more bytes at 0 (omega arith) in
    let d1 : drop (at + 1) bytes ≡ get_or bytes (at + 1) 0 ∷ drop (at + 2) bytes = drop-next bytes (at + 1) (at + 2) (omega arith) (omega arith) in
    let d2 : drop (at + 2) bytes ≡ get_or bytes (at + 2) 0 ∷ drop (at + 3) bytes = drop-next bytes (at + 2) (at + 3) (omega arith) (omega arith) in
    let d3 : drop (at + 3) bytes ≡ get_or bytes (at + 3) 0 ∷ drop (at + 4) bytes = drop-next bytes (at + 3) (at + 4) (omega arith) (omega arith) in
    rw (d0, d1, d2, d3) (ap (λ (r : List ℕ). r ++ drop (at + 4) bytes) (sym same))

-- a word of bytes fits
pub word_at-lt : (bytes : List ℕ) (at : ℕ) → AreBytes bytes → word_at bytes at < 2 ^ 32
word_at-lt bytes at are =
    omega (arith, are.below at, are.below (at + 1), are.below (at + 2), are.below (at + 3))

-- the word that stands in front of a list
pub word_at-word : (n : ℕ) (rest : List ℕ) → n < 2 ^ 32 → word_at (word n ++ rest) 0 ≡ n
word_at-word n rest fits = omega arith

-- after a write of a word into the rest of a list
pub put_mid-word : (at n : ℕ) (bytes written : List ℕ) → at + 4 ≤ length bytes
    → written ≡ word n ++ drop 4 (mid_of at (length bytes - at) bytes)
    → put_mid at (length bytes - at) bytes written ≡ take at bytes ++ word n ++ drop (at + 4) bytes
put_mid-word at n bytes written room is =
    let whole : take (length bytes - at) (drop at bytes) ≡ drop at bytes = take_all (length bytes - at) (drop at bytes) (omega (arith, length-drop at bytes)) in
    let after : drop (length bytes - at) (drop at bytes) ≡ [] = drop_all (length bytes - at) (drop at bytes) (omega (arith, length-drop at bytes)) in
    rw (is, whole, after, drop-drop 4 at bytes, append-nil (drop (at + 4) bytes)) (sym (append_assoc (take at bytes) (word n) (drop (at + 4) bytes)))

-- a test that gave false was not true
pub not_true : IsTrue false → ⊥
not_true e = cc

-- One word more is written where the last one ended.
pub one_more_word : (at n : ℕ) (front bytes old new : List ℕ) → length front ≡ at → old ≡ front ++ drop at bytes
    → new ≡ take at old ++ word n ++ drop (at + 4) old → new ≡ (front ++ word n) ++ drop (at + 4) bytes
one_more_word at n front bytes old new len before wrote =
    let kept : take at old ≡ front = ap (take at) before ∙ take_at front (drop at bytes) at len in
    let rest : drop (at + 4) old ≡ drop (at + 4) bytes =
    sym (drop-drop 4 at old) ∙ ap (drop 4) (ap (drop at) before ∙ drop_at front (drop at bytes) at len) ∙ drop-drop 4 at bytes in
    wrote ∙ rw (kept, rest) refl

-- Three words written one after another.
pub three_words : (at a b c : ℕ) (bytes one two three : List ℕ) → at + 12 ≤ length bytes
    → one ≡ take at bytes ++ word a ++ drop (at + 4) bytes
    → two ≡ take (at + 4) one ++ word b ++ drop (at + 4 + 4) one
    → three ≡ take (at + 8) two ++ word c ++ drop (at + 8 + 4) two
    → three ≡ take at bytes ++ (word a ++ word b ++ word c) ++ drop (at + 12) bytes
three_words at a b c bytes one two three room wrote_a wrote_b wrote_c =
    let front = take at bytes in
    let len : length front ≡ at = length-take-le at bytes (omega arith) in
    let len4 : length (front ++ word a) ≡ at + 4 = omega (arith, length-append front (word a)) in
    let len8 : length ((front ++ word a) ++ word b) ≡ at + 8 = omega (arith, length-append (front ++ word a) (word b)) in
    let e8 : at + 4 + 4 ≡ at + 8 = omega arith in
    let e12 : at + 8 + 4 ≡ at + 12 = omega arith in
    let two_is : two ≡ ((front ++ word a) ++ word b) ++ drop (at + 8) bytes =
    one_more_word (at + 4) b (front ++ word a) bytes one two len4 wrote_a wrote_b ∙ ap (λ (n : ℕ). ((front ++ word a) ++ word b) ++ drop n bytes) e8 in
    one_more_word (at + 8) c ((front ++ word a) ++ word b) bytes two three len8 two_is wrote_c
    ∙ ap (λ (n : ℕ). (((front ++ word a) ++ word b) ++ word c) ++ drop n bytes) e12
    ∙ ap (λ (r : List ℕ). r ++ drop (at + 12) bytes) (append_assoc (front ++ word a) (word b) (word c) ∙ append_assoc front (word a) (word b ++ word c))
