-- What a word spells is told by the word.
use Rattle.std.proofs.Common.{◌≡◌, ℕ, ℤ, pos, negsuc, suc, ◌+◌, ◌-◌, ◌*◌, ◌/◌, ◌%◌, ◌<◌, ◌^◌, ◌==◌, Bool, true, false, if◌then◌else◌, List, [], ◌∷◌, ◌++◌, length, get_or, take, drop, map, append_assoc, decimal, All, refl, sym, ap, ◌∙◌, arith}
use Rattle.std.specs.Fmt.{signed_decimal}
use Rattle.std.specs.Int.{w32, to_be_bytes, from_be_bytes}
use Rattle.std.specs.Str.Parse.{digits_value}
use Rattle.std.proofs.lemmas.Bool.{ne_eqb}
use Rattle.std.proofs.lemmas.Fmt.{digits_decimal, digits_value-decimal, decimal_nonempty}
use Rattle.std.proofs.lemmas.List.{take_at, drop_at, length-append}
use Rattle.std.proofs.lemmas.List.Elements.{All-head, All-tail}
use Rattle.std.proofs.lemmas.Nat.{from_be_bytes-to_be_bytes_4}
use Rattle.tracer_base.specs.Numbers.{FitsDelta}
use Rattle.tracer_base.specs.Replies.{typed_name_text, FitsTypedName}
use Rattle.tracer_base.specs.Text.{hex_digit, hex_digits, bytes_text, code_text, flag_text}
use Rattle.tracer_base.proofs.NumberLemmas.{own}
use Rattle.tracer_base.proofs.HexLemmas.{digit_value, digit_value-hex_digit, bytes_of_code, length-hex_digits}

-- ---- what the words spell

abbrev pub number_of : List ℕ → ℕ
number_of text = digits_value 10 text

abbrev pub delta_of : List ℕ → ℤ
delta_of text = if get_or text 0 0 == 45 then negsuc (number_of (drop 1 text) - 1) else pos (number_of text)

abbrev pub bytes_of : List ℕ → List ℕ
bytes_of [] = []
bytes_of (high ∷ []) = []
bytes_of (high ∷ low ∷ rest) = (digit_value high * 16 + digit_value low) ∷ bytes_of rest

abbrev pub code_of : List ℕ → ℕ
code_of text = from_be_bytes w32 (bytes_of text)

abbrev pub flag_of : List ℕ → Bool
flag_of text = get_or text 0 0 == 49

abbrev pub typed_name_of : List ℕ → ℕ × ℕ
typed_name_of text = (number_of (take (length text - 9) text), code_of (drop (length text - 8) text))

-- ---- each gives back what was written

pub number_of-decimal : (n : ℕ) → n < 2 ^ 64 → number_of (decimal n) ≡ n
number_of-decimal n small = digits_value-decimal own n small

pub delta_of-signed : (z : ℤ) → FitsDelta z → delta_of (signed_decimal z) ≡ z
delta_of-signed (pos n) small =
    let some : 0 < length (decimal n) = decimal_nonempty n (omega arith) in
    let digit = digits_decimal own n (omega arith) 0 some in
    let unsigned : (get_or (decimal n) 0 0 == 45) ≡ false = ne_eqb _ _ (λ same. omega (arith, same, digit.0)) in
    rw unsigned (ap pos (number_of-decimal n (omega arith)))
delta_of-signed (negsuc n) small =
    let less : suc n - 1 ≡ n = omega arith in
    ap (λ m. negsuc (m - 1)) (number_of-decimal (suc n) (omega arith)) ∙ ap negsuc less

bytes_of-hex_digits : (bytes : List ℕ) → All (λ byte. byte < 256) bytes → bytes_of (hex_digits bytes) ≡ bytes
bytes_of-hex_digits [] small = refl
bytes_of-hex_digits (byte ∷ bytes) small =
    let below : byte < 256 = All-head (λ b. b < 256) byte bytes small in
    let high = digit_value-hex_digit (hex_digit (byte / 16)) (byte / 16) (omega arith) refl in
    let low = digit_value-hex_digit (hex_digit (byte % 16)) (byte % 16) (omega arith) refl in
    let whole : byte / 16 * 16 + byte % 16 ≡ byte = omega arith in
    let first : digit_value (hex_digit (byte / 16)) * 16 + digit_value (hex_digit (byte % 16)) ≡ byte = ap (λ n. n * 16 + digit_value (hex_digit (byte % 16))) high ∙ ap (λ n. byte / 16 * 16 + n) low ∙ whole in
    ap (λ n. n ∷ bytes_of (hex_digits bytes)) first ∙ ap (λ rest. byte ∷ rest) (bytes_of-hex_digits bytes (All-tail (λ b. b < 256) byte bytes small))

pub bytes_of-text : (bytes : List ℕ) → All (λ byte. byte < 256) bytes → bytes_of (bytes_text bytes) ≡ bytes
bytes_of-text [] small = refl
bytes_of-text (byte ∷ bytes) small = bytes_of-hex_digits (byte ∷ bytes) small

pub code_of-text : (code : ℕ) → code < 2 ^ 32 → code_of (code_text code) ≡ code
code_of-text code small = ap (from_be_bytes w32) (bytes_of-hex_digits (to_be_bytes w32 code) (bytes_of_code code)) ∙ from_be_bytes-to_be_bytes_4 code small

pub flag_of-text : (flag : Bool) → flag_of (flag_text flag) ≡ flag
flag_of-text true = refl
flag_of-text false = refl

drop_colon : (before behind : List ℕ) (n : ℕ) → length before + 1 ≡ n → drop n (before ++ 58 ∷ behind) ≡ behind
drop_colon before behind n same = ap (drop n) (sym (append_assoc before (58 ∷ []) behind)) ∙ drop_at (before ++ 58 ∷ []) behind n (length-append before (58 ∷ []) ∙ same)

length-code_text : (code : ℕ) → length (code_text code) ≡ 8
length-code_text code = length-hex_digits (to_be_bytes w32 code)

pub typed_name_of-text : (entry : ℕ × ℕ) → FitsTypedName entry → typed_name_of (typed_name_text entry) ≡ entry
typed_name_of-text entry fits =
    let name = decimal entry.0 in
    let code = code_text entry.1 in
    let eight : length code ≡ 8 = length-code_text entry.1 in
    let all : length (name ++ 58 ∷ code) ≡ length name + length (58 ∷ code) = length-append name (58 ∷ code) in
    let first : take (length (name ++ 58 ∷ code) - 9) (name ++ 58 ∷ code) ≡ name = take_at name (58 ∷ code) (length (name ++ 58 ∷ code) - 9) (omega (arith, all, eight)) in
    let second : drop (length (name ++ 58 ∷ code) - 8) (name ++ 58 ∷ code) ≡ code = drop_colon name code (length (name ++ 58 ∷ code) - 8) (omega (arith, all, eight)) in
    ap (λ text. (number_of text, code_of (drop (length (name ++ 58 ∷ code) - 8) (name ++ 58 ∷ code)))) first
    ∙ ap (λ text. (number_of name, code_of text)) second
    ∙ ap (λ n. (n, code_of code)) (number_of-decimal entry.0 (omega (arith, fits.0)))
    ∙ ap (λ n. (entry.0, n)) (code_of-text entry.1 fits.1)

-- values are told by their texts, where each is
pub map_of : {X : Type 0} (f : X → List ℕ) (g : List ℕ → X) (P : X → Type 0) (xs : List X) → ((x : X) → P x → g (f x) ≡ x) → All P xs → map g (map f xs) ≡ xs
map_of f g P [] back all = refl
map_of f g P (x ∷ xs) back all = ap (λ y. y ∷ map g (map f xs)) (back x (All-head P x xs all)) ∙ ap (λ ys. x ∷ ys) (map_of f g P xs back (All-tail P x xs all))

-- ---- numbers side by side

pub one : {X : Type 0} (f : ℕ → X) (a : ℕ) → a < 2 ^ 32 → f (number_of (decimal a)) ≡ f a
one f a small = ap f (number_of-decimal a (omega arith))

pub two : {X : Type 0} (f : ℕ → ℕ → X) (a b : ℕ) → a < 2 ^ 32 → b < 2 ^ 32 → f (number_of (decimal a)) (number_of (decimal b)) ≡ f a b
two f a b small small_b = one (λ n. f n (number_of (decimal b))) a small ∙ one (f a) b small_b

pub three : {X : Type 0} (f : ℕ → ℕ → ℕ → X) (a b c : ℕ) → a < 2 ^ 32 → b < 2 ^ 32 → c < 2 ^ 32 → f (number_of (decimal a)) (number_of (decimal b)) (number_of (decimal c)) ≡ f a b c
three f a b c small small_b small_c = one (λ n. f n (number_of (decimal b)) (number_of (decimal c))) a small ∙ two (f a) b c small_b small_c
