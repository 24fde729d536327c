-- Bytes and their digits.
use Rattle.std.proofs.Common.{◌≡◌, ℕ, ◌+◌, ◌-◌, ◌*◌, ◌<◌, ◌≤◌, ◌/◌, ◌%◌, ◌==◌, List, [], ◌∷◌, ◌++◌, All, length, get_or, take, map, nat_lt, if◌then◌else◌, zero, suc, refl, sym, ◌∙◌, ap, arith, rules, append_assoc}
use Rattle.std.specs.Int.{w32, to_be_bytes, from_be_bytes}
use Rattle.std.proofs.lemmas.Bool.Decides.{nat_tests}
use Rattle.std.proofs.lemmas.List.Elements.{All-nil, All-cons, All-head, All-tail}
use Rattle.std.proofs.lemmas.List.{nil_from_length, take_more, length-append, length-take-le}
use Rattle.std.proofs.lemmas.List.FromFn.{get_or-map-range_with_len}
use Rattle.std.specs.List.{range_with_len}
use Rattle.tracer_base.specs.declared.hexadecimal.TheConstants.{PAIRS, VALUES}
use Rattle.std.proofs.lemmas.Nat.{be_bytes_4}
use Rattle.tracer_base.specs.Text.{hex_digit, hex_digits, bytes_text, code_text}
use Rattle.tracer_base.specs.Words.{IsWord}

pub hex_digits-append : (xs ys : List ℕ) → hex_digits (xs ++ ys) ≡ hex_digits xs ++ hex_digits ys
hex_digits-append [] ys = refl
hex_digits-append (x ∷ xs) ys = ap (λ text. hex_digit (x / 16) ∷ hex_digit (x % 16) ∷ text) (hex_digits-append xs ys)

-- the digit at a place of the text of all bytes, rising
abbrev digit_at : ℕ → ℕ
digit_at place = if place % 2 == 0 then hex_digit (place / 2 / 16) else hex_digit (place / 2 % 16)

pairs_rule : PAIRS ≡ map digit_at (range_with_len 0 512)
pairs_rule = refl

pair_at : (place : ℕ) → place < 512 → get_or PAIRS place 0 ≡ digit_at place
pair_at place low = ap (λ (l : List ℕ). get_or l place 0) pairs_rule ∙ get_or-map-range_with_len digit_at 0 512 place place 0 low (omega arith)

pub high_in_pairs : (byte : ℕ) → byte < 256 → get_or PAIRS (2 * byte) 0 ≡ hex_digit (byte / 16)
high_in_pairs byte small =
    let even : 2 * byte % 2 ≡ 0 = omega arith in
    let half : 2 * byte / 2 ≡ byte = omega arith in
    pair_at (2 * byte) (omega arith) ∙ rw (even, half) refl

pub low_in_pairs : (byte : ℕ) → byte < 256 → get_or PAIRS (2 * byte + 1) 0 ≡ hex_digit (byte % 16)
low_in_pairs byte small =
    let odd : (2 * byte + 1) % 2 ≡ 1 = omega arith in
    let half : (2 * byte + 1) / 2 ≡ byte = omega arith in
    pair_at (2 * byte + 1) (omega arith) ∙ rw (odd, half) refl

-- the value of the digit of this code, 256 where it is no digit's
abbrev pub digit_value : ℕ → ℕ
digit_value code = if nat_lt code 48 then 256 else (if nat_lt code 58 then code - 48 else (if nat_lt code 97 then 256 else (if nat_lt code 103 then code - 87 else 256)))

values_rule : VALUES ≡ map digit_value (range_with_len 0 256)
values_rule = refl

pub value_in_values : (code : ℕ) → code < 256 → get_or VALUES code 0 ≡ digit_value code
value_in_values code low = ap (λ (l : List ℕ). get_or l code 0) values_rule ∙ get_or-map-range_with_len digit_value 0 256 code code 0 low (omega arith)

pub digit_value-spelled : (code value : ℕ) → digit_value code ≡ value → value < 16 → hex_digit value ≡ code
digit_value-spelled code value is small = grind (arith, nat_tests)

pub digit_value-hex_digit : (code value : ℕ) → value < 16 → hex_digit value ≡ code → digit_value code ≡ value
digit_value-hex_digit code value small is = grind (arith, nat_tests)

pub digit_value-small : (code : ℕ) → digit_value code < 256 → digit_value code < 16
digit_value-small code small = grind (arith, nat_tests)

pub digit_value-most : (code : ℕ) → digit_value code ≤ 256
digit_value-most code = grind (arith, nat_tests)

-- one more byte's digits behind those of the bytes before it
pub digits_more : (start bytes : List ℕ) (i byte : ℕ) (so_far now : List ℕ) → i < length bytes → get_or bytes i 0 ≡ byte → so_far ≡ start ++ hex_digits (take i bytes)
    → now ≡ (so_far ++ hex_digit (byte / 16) ∷ []) ++ hex_digit (byte % 16) ∷ [] → now ≡ start ++ hex_digits (take (i + 1) bytes)
digits_more start bytes i byte so_far now low here before made =
    let split : hex_digits (take (i + 1) bytes) ≡ hex_digits (take i bytes) ++ hex_digits (get_or bytes i 0 ∷ []) =
    ap hex_digits (take_more bytes i 0 low) ∙ hex_digits-append (take i bytes) (get_or bytes i 0 ∷ []) in
    let same : hex_digits (take i bytes) ++ hex_digits (byte ∷ []) ≡ hex_digits (take (i + 1) bytes) =
    ap (λ n. hex_digits (take i bytes) ++ hex_digits (n ∷ [])) (sym here) ∙ sym split in
    made ∙ append_assoc so_far (hex_digit (byte / 16) ∷ []) (hex_digit (byte % 16) ∷ [])
    ∙ ap (λ t. t ++ hex_digits (byte ∷ [])) before
    ∙ append_assoc start (hex_digits (take i bytes)) (hex_digits (byte ∷ []))
    ∙ ap (λ t. start ++ t) same

pub length-hex_digits : (bytes : List ℕ) → length (hex_digits bytes) ≡ 2 * length bytes
length-hex_digits [] = refl
length-hex_digits (byte ∷ bytes) = let inner = length-hex_digits bytes in omega (arith, inner)

-- two digits more than those of the bytes before one of a block fit where the block's fit
pub digits_fit : (start bytes : List ℕ) (i : ℕ) (digits : List ℕ) → i < length bytes → length start + 2 * length bytes ≤ 73 → digits ≡ start ++ hex_digits (take i bytes) → length digits + 2 ≤ 73
digits_fit start bytes i digits low block before =
    let count = ap length before ∙ length-append start (hex_digits (take i bytes)) in
    let of_digits = length-hex_digits (take i bytes) in
    let taken : length (take i bytes) ≡ i = length-take-le i bytes (omega arith) in
    omega (arith, count, of_digits, taken)

-- one more byte is read
pub reads_more : (bytes : List ℕ) (byte : ℕ) (rest others text : List ℕ) → hex_digits bytes ++ rest ≡ text → hex_digits (byte ∷ []) ++ others ≡ rest → hex_digits (bytes ++ byte ∷ []) ++ others ≡ text
reads_more bytes byte rest others text so_far next =
    ap (λ t. t ++ others) (hex_digits-append bytes (byte ∷ []))
    ∙ append_assoc (hex_digits bytes) (hex_digits (byte ∷ [])) others
    ∙ ap (λ t. hex_digits bytes ++ t) next
    ∙ so_far

tails : (a b c d : ℕ) (xs ys : List ℕ) → a ∷ b ∷ xs ≡ c ∷ d ∷ ys → xs ≡ ys
tails a b c d xs ys same = cc

-- what is left of a text of bytes, when some bytes are read, is a text of bytes
pub digits_left : (done all rest : List ℕ) → All (λ byte. byte < 256) all → hex_digits done ++ rest ≡ hex_digits all → (left : List ℕ) × (All (λ byte. byte < 256) left) × (hex_digits left ≡ rest)
digits_left [] all rest small same = (all, small, sym same)
digits_left (x ∷ done) [] rest small same = absurd cc
digits_left (x ∷ done) (y ∷ all) rest small same =
    digits_left done all rest (All-tail (λ byte. byte < 256) y all small) (tails _ _ _ _ _ _ same)

-- a text of bytes that is not empty begins with the two digits of a byte
pub first_byte : (left rest : List ℕ) → All (λ byte. byte < 256) left → hex_digits left ≡ rest → (rest ≡ [] → ⊥) → (byte : ℕ) × (others : List ℕ) × (byte < 256) × (hex_digits (byte ∷ []) ++ others ≡ rest)
first_byte [] rest small same some = absurd (some (sym same))
first_byte (byte ∷ others) rest small same some = (byte, hex_digits others, small 0 0 (omega arith), same)

-- the bytes of a code
pub bytes_of_code : (code : ℕ) → All (λ byte. byte < 256) (to_be_bytes w32 code)
bytes_of_code code = search (rules, All-cons, All-nil, arith)

small_at : (bytes : List ℕ) (i : ℕ) → All (λ byte. byte < 256) bytes → get_or bytes i 0 < 256
small_at [] i small = omega arith
small_at (byte ∷ bytes) zero small = All-head (λ b. b < 256) byte bytes small
small_at (byte ∷ bytes) (suc i) small = small_at bytes i (All-tail (λ b. b < 256) byte bytes small)

-- a code that is made of four bytes has their digits
pub code_text-bytes : (code a b c d : ℕ) (first second third fourth text : List ℕ) → All (λ byte. byte < 256) (a ∷ b ∷ c ∷ d ∷ []) → code ≡ from_be_bytes w32 (a ∷ b ∷ c ∷ d ∷ [])
    → hex_digits (a ∷ []) ++ first ≡ text → hex_digits (b ∷ []) ++ second ≡ first → hex_digits (c ∷ []) ++ third ≡ second → hex_digits (d ∷ []) ++ fourth ≡ third → length fourth ≡ 0
    → code_text code ≡ text
code_text-bytes code a b c d first second third fourth text small made in_a in_b in_c in_d none =
    let bytes : to_be_bytes w32 code ≡ a ∷ b ∷ c ∷ d ∷ [] = be_bytes_4 (a ∷ b ∷ c ∷ d ∷ []) code refl (λ i. small_at (a ∷ b ∷ c ∷ d ∷ []) i small) made in
    let end : fourth ≡ [] = nil_from_length fourth none in
    ap hex_digits bytes ∙ cc

-- the texts of bytes are words
hex_digit-above : (n : ℕ) → n < 16 → 32 < hex_digit n
hex_digit-above n small = grind (arith, nat_tests)

IsWord-hex_digits : (bytes : List ℕ) → All (λ byte. byte < 256) bytes → IsWord (hex_digits bytes)
IsWord-hex_digits [] small = All-nil (λ byte. 32 < byte)
IsWord-hex_digits (byte ∷ bytes) small =
    let below : byte < 256 = All-head (λ b. b < 256) byte bytes small in
    All-cons (λ b. 32 < b) (hex_digit (byte / 16)) (hex_digit (byte % 16) ∷ hex_digits bytes) (hex_digit-above (byte / 16) (omega arith))
    (All-cons (λ b. 32 < b) (hex_digit (byte % 16)) (hex_digits bytes) (hex_digit-above (byte % 16) (omega arith))
    (IsWord-hex_digits bytes (All-tail (λ b. b < 256) byte bytes small)))

pub IsWord-bytes_text : (bytes : List ℕ) → All (λ byte. byte < 256) bytes → IsWord (bytes_text bytes)
IsWord-bytes_text [] small = All-cons (λ b. 32 < b) 45 [] (omega arith) (All-nil (λ b. 32 < b))
IsWord-bytes_text (byte ∷ bytes) small = IsWord-hex_digits (byte ∷ bytes) small

pub IsWord-code_text : (code : ℕ) → IsWord (code_text code)
IsWord-code_text code = IsWord-hex_digits (to_be_bytes w32 code) (bytes_of_code code)

-- a text that is no dash is the text of bytes only as digits
pub digits_unless_dash : (bytes text : List ℕ) → bytes_text bytes ≡ text → (text ≡ 45 ∷ [] → ⊥) → hex_digits bytes ≡ text
digits_unless_dash [] text same no_dash = absurd (no_dash (sym same))
digits_unless_dash (byte ∷ bytes) text same no_dash = same
