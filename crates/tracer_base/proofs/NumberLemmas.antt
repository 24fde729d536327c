-- Decimal numbers and their texts.
use Rattle.std.proofs.Common.{◌≡◌, ℕ, ℤ, pos, negsuc, suc, ◌+◌, ◌-◌, ◌<◌, ◌≤◌, ◌^◌, List, [], ◌∷◌, length, slice_index, get_or, decimal, Option, Some, Result, Ok, Err, IfSome, All, refl, sym, ap, ◌∙◌, rules, arith, inl, inr}
use Rattle.std.specs.Fmt.{signed_decimal}
use Rattle.std.specs.Result.{result_ok}
use Rattle.std.specs.Str.Parse.{ParsesUnsigned, digits_value}
use Rattle.std.specs.Int.{IsInRange}
use Rattle.std.proofs.Math.Nat.{eq-zero-or-pos}
use Rattle.std.proofs.lemmas.Fmt.{decimal_digit, decimal_nonempty, first_decimal, digits_decimal, decimal_injective, decimal-digits_value}
use Rattle.std.proofs.lemmas.Str.Parse.{IsNumeralModel, numerals_by_value, tells_by_index, parse_plain}
use Rattle.std.proofs.lemmas.List.Elements.{All-from_get_or, All-cons}
use Rattle.tracer_base.specs.Numbers.{HasPlainStart, FitsDelta}
use Rattle.tracer_base.specs.Words.{IsWord}

abbrev pub Digits : List ℕ → Type 0
Digits ds = (i : ℕ) → i < length ds → IsInRange 48 57 (get_or ds i 0)

pub own : IsNumeralModel Digits (digits_value 10)
own = numerals_by_value Digits tells_by_index

one_digit : (n : ℕ) → n < 2 ^ 64 → slice_index (decimal n) 0 ≡ 48 → length (decimal n) ≡ 1
one_digit n small first = elim (eq-zero-or-pos n) [
  | inl zero_is ↦ rw zero_is (rw (decimal_digit 0 (omega arith)) refl)
  | inr above ↦ let more : 48 < slice_index (decimal n) 0 = first_decimal n above small in absurd (omega arith)
]

-- what is written for a number begins plainly
pub HasPlainStart-decimal : (n : ℕ) → n < 2 ^ 64 → HasPlainStart (decimal n)
HasPlainStart-decimal n small =
    let some : 0 < length (decimal n) = decimal_nonempty n small in
    let first = digits_decimal own n small 0 some in
    record { some = some; least = first.0; most = first.1; alone = one_digit n small }

-- what is read from a text that begins plainly is written as that text
pub decimal-parsed : {E : Type 0} (text : List ℕ) (r : Result ℕ E) → HasPlainStart text → ParsesUnsigned 64 10 text r → IfSome (result_ok r) (λ n. decimal n ≡ text)
decimal-parsed {E} text (Ok n) plain parsed =
    let least : 48 ≤ slice_index text 0 = plain.least in
    let read = parse_plain own {E = E} 64 text (Ok n) parsed (λ e. omega (arith, e)) in
    rw read.1 (decimal-digits_value own text read.0.0 read.0.1 plain.alone read.0.2)
decimal-parsed text (Err e) plain parsed = search rules

-- a text of one digit is that of the digit's value
pub decimal-one : (text : List ℕ) → HasPlainStart text → 1 ≤ length text → length text < 2 → decimal (slice_index text 0 - 48) ≡ text
decimal-one [] plain some short = absurd (omega (arith, some))
decimal-one (digit ∷ []) plain some short =
    let least : 48 ≤ digit = plain.least in
    let most : digit ≤ 57 = plain.most in
    decimal_digit (digit - 48) (omega arith) ∙ ap (λ (byte : ℕ). byte ∷ []) (omega arith)
decimal-one (digit ∷ next ∷ rest) plain some short = absurd (omega (arith, short))

-- and of no other number
pub only-one : (text : List ℕ) (n : ℕ) → HasPlainStart text → 1 ≤ length text → length text < 2 → n < 2 ^ 64 → decimal n ≡ text → slice_index text 0 - 48 ≡ n
only-one text n plain some short small same =
    let most : slice_index text 0 ≤ 57 = plain.most in
    decimal_injective (slice_index text 0 - 48) n (omega arith) small (decimal-one text plain some short ∙ sym same)

-- what holds of each digit holds of each byte of a number's text
pub All-decimal : (P : ℕ → Type 0) → ((byte : ℕ) → IsInRange 48 57 byte → P byte) → (n : ℕ) → n < 2 ^ 64 → All P (decimal n)
All-decimal P of_digits n small = All-from_get_or P (decimal n) 0 (λ k low. of_digits _ (digits_decimal own n small k low))

pub IsWord-decimal : (n : ℕ) → n < 2 ^ 64 → IsWord (decimal n)
IsWord-decimal n small = All-decimal (λ byte. 32 < byte) (λ byte digit. omega (arith, digit.0)) n small

pub IsWord-signed_decimal : (z : ℤ) → FitsDelta z → IsWord (signed_decimal z)
IsWord-signed_decimal (pos n) small = IsWord-decimal n (omega arith)
IsWord-signed_decimal (negsuc n) small =
    All-cons (λ byte. 32 < byte) 45 (decimal (suc n)) (omega arith) (IsWord-decimal (suc n) (omega arith))

-- a number's text begins with no minus
starts_unsigned : (n : ℕ) (rest : List ℕ) → n < 2 ^ 31 → decimal n ≡ 45 ∷ rest → ⊥
starts_unsigned n rest small same =
    let some : 0 < length (decimal n) = decimal_nonempty n (omega arith) in
    let first : slice_index (decimal n) 0 ≡ 45 = rw same refl in
    let digit = digits_decimal own n (omega arith) 0 some in
    omega (arith, first, digit.0)

rests : (a b : ℕ) (xs ys : List ℕ) → a ∷ xs ≡ b ∷ ys → xs ≡ ys
rests a b xs ys same = cc

same_number : (n k : ℕ) → Some n ≡ Some k → n ≡ k
same_number n k same = cc

-- a number whose text begins with a minus is below 0, and the text behind the minus is that of what it lacks to 0
pub below_zero : (z : ℤ) (digits : List ℕ) → FitsDelta z → signed_decimal z ≡ 45 ∷ digits → (n : ℕ) × (n < 2 ^ 31) × (z ≡ negsuc n) × (decimal (n + 1) ≡ digits)
below_zero (pos n) digits small same = absurd (starts_unsigned n digits small same)
below_zero (negsuc n) digits small same = (n, small, refl, ap decimal (omega arith) ∙ rests 45 45 _ _ same)

-- two answers of one parse are one number
pub one_number : (found : Option ℕ) (n k : ℕ) → found ≡ Some n → found ≡ Some k → n ≡ k
one_number found n k first next = same_number n k (sym first ∙ next)
