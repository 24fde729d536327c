-- A number's bit in four words: changed in one of them, and searched in one after the other.
use Rattle.std.proofs.Common.{◌≡◌, ◌≢◌, ℕ, min, ◌-◌, ◌*◌, ◌/◌, ◌%◌, ◌^◌, ◌<◌, ◌≤◌, inl, inr, if◌then◌else◌, ◌==◌, List, length, get_or, set, refl, ap, sym, ◌∙◌, arith}
use Rattle.std.specs.Int.{bit_at, w64, bit_not, trailing_zeros}
use Rattle.std.specs.Int.RustNames.{bit_or}
use lib.Bits.{bit_and}
use Rattle.std.proofs.lemmas.Bool.{eq-eqb, ne_eqb, cases_eq, cases_lt}
use Rattle.std.proofs.lemmas.List.{get_or-set_same, get_or-set_other}
use Rattle.std.proofs.lemmas.Nat.Bits.{bit_at_set_same, bit_at_set_other, bit_at_clear_same, bit_at_clear_other, bit_at-lt, bit_at_and, bit_at_mask_inside, bit_at_mask_below, bit_at-zero, ones_shl, bit_at-trailing_zeros}
use Rattle.std.proofs.lemmas.Nat.{and_le_l}
use Rattle.name_space_base.specs.Bits.{has}

pub bit_set : (w k i : ℕ) → k < 64 → i < 64 → bit_at (bit_or w (1 * 2 ^ k % 2 ^ 64)) i ≡ (if i == k then 1 else bit_at w i)
bit_set w k i within h = elim (cases_eq i k) [
  | inl e ↦ rw (eq-eqb i k e, e) (bit_at_set_same w64 w k within)
  | inr n ↦ rw (ne_eqb i k n) (bit_at_set_other w64 w k within i n)
]

pub bit_cleared : (w k i : ℕ) → k < 64 → i < 64 → bit_at (bit_and w (bit_not w64 (1 * 2 ^ k % 2 ^ 64))) i ≡ (if i == k then 0 else bit_at w i)
bit_cleared w k i within h = elim (cases_eq i k) [
  | inl e ↦ rw (eq-eqb i k e, e) (bit_at_clear_same w64 w k within)
  | inr n ↦ rw (ne_eqb i k n) (bit_at_clear_other w64 w k within i h n)
]

-- the mask leaves the bits from k on
pub masked_above : (w k i : ℕ) → k ≤ i → i < 64 → bit_at (bit_and w ((2 ^ 64 - 1) * 2 ^ k % 2 ^ 64)) i ≡ bit_at w i
masked_above w k i above h =
    let few : bit_at w i < 2 = bit_at-lt w i in
    let one : bit_at (2 ^ 64 - 2 ^ k) i ≡ 1 = bit_at_mask_inside k 64 i above h in
    let e : bit_at (bit_and w ((2 ^ 64 - 1) * 2 ^ k % 2 ^ 64)) i ≡ min (bit_at w i) 1 = rw (ones_shl 64 k (omega arith), bit_at_and w (2 ^ 64 - 2 ^ k) i, one) refl in
    omega arith

pub masked_below : (w k i : ℕ) → k ≤ 64 → i < k → bit_at (bit_and w ((2 ^ 64 - 1) * 2 ^ k % 2 ^ 64)) i ≡ 0
masked_below w k i within h =
    let zero : bit_at (2 ^ 64 - 2 ^ k) i ≡ 0 = bit_at_mask_below k 64 i h in
    let e : bit_at (bit_and w ((2 ^ 64 - 1) * 2 ^ k % 2 ^ 64)) i ≡ min (bit_at w i) 0 = rw (ones_shl 64 k within, bit_at_and w (2 ^ 64 - 2 ^ k) i, zero) refl in
    omega arith

-- the place of a number in the words gives the number back
same_place : (i n : ℕ) → i / 64 ≡ n / 64 → i % 64 ≡ n % 64 → i ≡ n
same_place i n d m = omega arith

-- a bit of one word is changed
pub has_changed : (words : List ℕ) (n word b : ℕ) → length words ≡ 4 → n < 256 → ((i : ℕ) → i < 64 → bit_at word i ≡ (if i == n % 64 then b else bit_at (get_or words (n / 64) 0) i)) → (i : ℕ) → i < 256 → has (set words (n / 64) word) i ≡ (if i == n then b == 1 else has words i)
has_changed words n word b long small changed i small_i =
    let at : n / 64 < length words = omega arith in
    elim (cases_eq (i / 64) (n / 64)) [
      | inl d ↦ elim (cases_eq (i % 64) (n % 64)) [
        | inl m ↦ rw (eq-eqb i n (same_place i n d m), d, get_or-set_same words (n / 64) word 0 at, changed (i % 64) (omega arith), eq-eqb (i % 64) (n % 64) m) refl
        | inr m ↦ rw (ne_eqb i n (λ q. m (ap (λ x. x % 64) q)), d, get_or-set_same words (n / 64) word 0 at, changed (i % 64) (omega arith), ne_eqb (i % 64) (n % 64) m) refl
      ]
      | inr d ↦ rw (ne_eqb i n (λ q. d (ap (λ x. x / 64) q)), get_or-set_other words (n / 64) (i / 64) word 0 d) refl
    ]

-- the least bit from one on, by a mask
pub record IsNextBit (word start place : ℕ) : Type 0 where
  pub from : start ≤ place
  pub bound : place < 64
  pub present : bit_at word place ≡ 1
  pub between : (i : ℕ) → start ≤ i → i < place → bit_at word i ≡ 0

abbrev pub masked : ℕ → ℕ → ℕ
masked word from = bit_and word ((2 ^ 64 - 1) * 2 ^ from % 2 ^ 64)

pub next_bit : (word start : ℕ) → start < 64 → word < 2 ^ 64 → masked word start ≢ 0 → IsNextBit word start (trailing_zeros w64 (masked word start))
next_bit word start h fits some =
    let m : ℕ = masked word start in
    let z : ℕ = trailing_zeros w64 m in
    let small : m ≤ word = and_le_l word ((2 ^ 64 - 1) * 2 ^ start % 2 ^ 64) in
    let positive : 0 < m = omega arith in
    let fits_m : m < 2 ^ 64 = omega arith in
    let found = bit_at-trailing_zeros w64 m positive fits_m in
    let from : start ≤ z = elim (cases_lt z start) [
      | inl below ↦ absurd (let zero : bit_at m z ≡ 0 = masked_below word start z (omega arith) below in let one : bit_at m z ≡ 1 = found.1 in omega arith)
      | inr above ↦ above
    ] in
    record {
      from = from;
      bound = found.0;
      present = sym (masked_above word start z from found.0) ∙ found.1;
      between = λ i a b. sym (masked_above word start i a (let bound : z < 64 = found.0 in omega arith)) ∙ found.2 i b;
    }

pub no_bit : (word start : ℕ) → masked word start ≡ 0 → (i : ℕ) → start ≤ i → i < 64 → bit_at word i ≡ 0
no_bit word start none i a b = sym (masked_above word start i a b) ∙ ap (λ m. bit_at m i) none ∙ bit_at-zero i
