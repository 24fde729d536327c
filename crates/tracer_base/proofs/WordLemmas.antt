-- Lines and their words.
use Rattle.std.proofs.Common.{◌≡◌, ◌≢◌, ℕ, ◌+◌, ◌*◌, ◌/◌, ◌%◌, ◌-◌, ◌<◌, ◌≤◌, ◌^◌, ◌==◌, decimal, Bool, true, false, List, [], ◌∷◌, ◌++◌, All, length, take, drop, refl, sym, ◌∙◌, ap, subst, arith, nat_lt, ◌&&◌, append-nil, map, flat_map}
use Rattle.std.specs.List.{list_all, slice_index_or}
use Rattle.std.proofs.lemmas.List.{take_rest}
use Rattle.std.specs.Str.{IsAscii}
use Rattle.std.proofs.lemmas.Str.Ascii.{IsAscii-from_all}
use Rattle.std.proofs.lemmas.Bool.{ne_eqb, and_parts, ltb-true}
use Rattle.std.proofs.lemmas.List.Elements.{All-weaker, All-nil, All-cons, All-append, All-head, All-tail}
use Rattle.std.proofs.lemmas.Grind.{flat_map-append}
use Rattle.std.proofs.lemmas.List.Splits.{slice_split_none, slice_split_at, length-slice_split, join_with_byte-slice_split}
use Rattle.std.proofs.lemmas.Fmt.{decimal_digit, decimal_step}
use Rattle.tracer_base.specs.Replies.{typed_name_text}
use Rattle.tracer_base.specs.Text.{code_text}
use Rattle.tracer_base.specs.Words.{line, words, Lacks, IsWord}
use Rattle.tracer_base.proofs.NumberLemmas.{All-decimal}

-- a byte that a text lacks is nowhere in it
nowhere : (byte : ℕ) (text : List ℕ) → Lacks byte text → All (λ other. (other == byte) ≡ false) text
nowhere byte text lacks = All-weaker (λ other. other ≢ byte) (λ other. (other == byte) ≡ false) (λ other. ne_eqb other byte) text lacks

pub words-some : (text : List ℕ) → words text ≡ [] → ⊥
words-some text none =
    let count = length-slice_split (λ byte. byte == 32) text in
    let empty : length (words text) ≡ 0 = ap length none in
    omega (arith, count, empty)

pub words-one : (text : List ℕ) → Lacks 32 text → words text ≡ text ∷ []
words-one text lacks = slice_split_none (λ byte. byte == 32) text (nowhere 32 text lacks)

pub words-more : (word rest text : List ℕ) → Lacks 32 word → word ++ 32 ∷ rest ≡ text → word ∷ words rest ≡ words text
words-more word rest text lacks same =
    sym (slice_split_at (λ byte. byte == 32) word 32 rest (nowhere 32 word lacks) refl) ∙ ap words same

-- a text is parted in one way alone at the first place of a byte
pub same_parts : (byte : ℕ) (before other behind rest : List ℕ) → Lacks byte before → Lacks byte other → before ++ byte ∷ behind ≡ other ++ byte ∷ rest → (before ≡ other) × (behind ≡ rest)
same_parts byte [] [] behind rest lacks lacks_too same = (refl, cc)
same_parts byte [] (b ∷ other) behind rest lacks lacks_too same = absurd (All-head (λ a. a ≢ byte) b other lacks_too cc)
same_parts byte (a ∷ before) [] behind rest lacks lacks_too same = absurd (All-head (λ b. b ≢ byte) a before lacks cc)
same_parts byte (a ∷ before) (b ∷ other) behind rest lacks lacks_too same =
    let inner = same_parts byte before other behind rest (All-tail (λ c. c ≢ byte) a before lacks) (All-tail (λ c. c ≢ byte) b other lacks_too) cc in
    (cc, inner.1)

Lacks-IsWord : (byte : ℕ) (word : List ℕ) → byte < 33 → IsWord word → Lacks byte word
Lacks-IsWord byte word low is_word = All-weaker (λ other. 32 < other) (λ other. other ≢ byte) (λ other above same. omega (arith, above, same)) word is_word

-- words without spaces are the words of their line
pub words-line : (word : List ℕ) (others : List (List ℕ)) → All IsWord (word ∷ others) → words (line (word ∷ others)) ≡ word ∷ others
words-line word [] plain = words-one word (Lacks-IsWord 32 word (omega arith) (All-head IsWord word [] plain))
words-line word (next ∷ others) plain =
    sym (words-more word (line (next ∷ others)) _ (Lacks-IsWord 32 word (omega arith) (All-head IsWord word (next ∷ others) plain)) refl)
    ∙ ap (λ ws. word ∷ ws) (words-line next others (All-tail IsWord word (next ∷ others) plain))

-- a plain word before a space is the first word
pub word_then : (word rest text : List ℕ) → IsWord word → word ++ 32 ∷ rest ≡ text → word ∷ words rest ≡ words text
word_then word rest text plain same = words-more word rest text (Lacks-IsWord 32 word (omega arith) plain) same

-- the text of a number of two digits
two_digits : (x y : ℕ) → 1 ≤ x → x < 10 → y < 10 → decimal (x * 10 + y) ≡ (48 + x) ∷ (48 + y) ∷ []
two_digits x y some small small_y =
    let tens : (x * 10 + y) / 10 ≡ x = omega arith in
    let ones : (x * 10 + y) % 10 ≡ y = omega arith in
    decimal_step (x * 10 + y) (omega arith) (omega arith)
    ∙ ap (λ n. decimal n ++ (48 + (x * 10 + y) % 10) ∷ []) tens
    ∙ ap (λ n. decimal x ++ (48 + n) ∷ []) ones
    ∙ ap (λ text. text ++ (48 + y) ∷ []) (decimal_digit x small)

-- a text whose first bytes are four letters and a space has the letters' word first
pub four_letters : (a b c d : ℕ) (text : List ℕ) → IsWord (a ∷ b ∷ c ∷ d ∷ []) → 5 ≤ length text → slice_index_or text 0 0 ≡ a → slice_index_or text 1 0 ≡ b → slice_index_or text 2 0 ≡ c → slice_index_or text 3 0 ≡ d
    → slice_index_or text 4 0 ≡ 32 → (a ∷ b ∷ c ∷ d ∷ []) ∷ words (take (length text - 5) (drop 5 text)) ≡ words text
four_letters a b c d [] plain some is_a is_b is_c is_d space = absurd (omega (arith, some))
four_letters a b c d (_ ∷ []) plain some is_a is_b is_c is_d space = absurd (omega (arith, some))
four_letters a b c d (_ ∷ _ ∷ []) plain some is_a is_b is_c is_d space = absurd (omega (arith, some))
four_letters a b c d (_ ∷ _ ∷ _ ∷ []) plain some is_a is_b is_c is_d space = absurd (omega (arith, some))
four_letters a b c d (_ ∷ _ ∷ _ ∷ _ ∷ []) plain some is_a is_b is_c is_d space = absurd (omega (arith, some))
four_letters a b c d (t ∷ u ∷ v ∷ w ∷ x ∷ rest) plain some is_a is_b is_c is_d space =
    let tail : take (length (t ∷ u ∷ v ∷ w ∷ x ∷ rest) - 5) rest ≡ rest = take_rest (t ∷ u ∷ v ∷ w ∷ x ∷ rest) 5 in
    word_then (a ∷ b ∷ c ∷ d ∷ []) (take (length (t ∷ u ∷ v ∷ w ∷ x ∷ rest) - 5) rest) (t ∷ u ∷ v ∷ w ∷ x ∷ rest) plain (cc)

-- a text is its first byte, its second, and what stands behind them
pub first_two : (text : List ℕ) → 2 ≤ length text → slice_index_or text 0 0 ∷ slice_index_or text 1 0 ∷ take (length text - 2) (drop 2 text) ≡ text
first_two [] some = absurd (omega (arith, some))
first_two (a ∷ []) some = absurd (omega (arith, some))
first_two (a ∷ b ∷ rest) some = ap (λ tail. a ∷ b ∷ tail) (take_rest (a ∷ b ∷ rest) 2)

pub first_three : (text : List ℕ) → 3 ≤ length text → slice_index_or text 0 0 ∷ slice_index_or text 1 0 ∷ slice_index_or text 2 0 ∷ take (length text - 3) (drop 3 text) ≡ text
first_three [] some = absurd (omega (arith, some))
first_three (a ∷ []) some = absurd (omega (arith, some))
first_three (a ∷ b ∷ []) some = absurd (omega (arith, some))
first_three (a ∷ b ∷ c ∷ rest) some = ap (λ tail. a ∷ b ∷ c ∷ tail) (take_rest (a ∷ b ∷ c ∷ rest) 3)

-- a digit before a space is the first word, that of its number
pub digit_then : (digit : ℕ) (rest text : List ℕ) → 48 ≤ digit → digit ≤ 57 → digit ∷ 32 ∷ rest ≡ text → decimal (digit - 48) ∷ words rest ≡ words text
digit_then digit rest text least most same =
    let number : decimal (digit - 48) ≡ digit ∷ [] = decimal_digit (digit - 48) (omega arith) ∙ ap (λ (byte : ℕ). byte ∷ []) (omega arith) in
    ap (λ word. word ∷ words rest) number
    ∙ word_then (digit ∷ []) rest text (All-cons (λ byte. 32 < byte) digit [] (omega arith) (All-nil (λ byte. 32 < byte))) same

-- and so are two, of which the first is no zero
pub two_digits_then : (a b : ℕ) (rest text : List ℕ) → 49 ≤ a → a ≤ 57 → 48 ≤ b → b ≤ 57 → a ∷ b ∷ 32 ∷ rest ≡ text → decimal ((a - 48) * 10 + (b - 48)) ∷ words rest ≡ words text
two_digits_then a b rest text least most least_b most_b same =
    let first : 48 + (a - 48) ≡ a = omega arith in
    let second : 48 + (b - 48) ≡ b = omega arith in
    let number : decimal ((a - 48) * 10 + (b - 48)) ≡ a ∷ b ∷ [] =
    two_digits (a - 48) (b - 48) (omega arith) (omega arith) (omega arith) ∙ ap (λ n. n ∷ (48 + (b - 48)) ∷ []) first ∙ ap (λ n. a ∷ n ∷ []) second in
    let plain : IsWord (a ∷ b ∷ []) = All-cons (λ byte. 32 < byte) a (b ∷ []) (omega arith) (All-cons (λ byte. 32 < byte) b [] (omega arith) (All-nil (λ byte. 32 < byte))) in
    ap (λ word. word ∷ words rest) number ∙ word_then (a ∷ b ∷ []) rest text plain same

-- a text is the line of its words
pub line-words : (text : List ℕ) → line (words text) ≡ text
line-words text = join_with_byte-slice_split 32 text

has : (byte : ℕ) (before behind : List ℕ) → Lacks byte (before ++ byte ∷ behind) → ⊥
has byte [] behind lacks = All-head (λ other. other ≢ byte) byte behind lacks refl
has byte (a ∷ before) behind lacks = has byte before behind (All-tail (λ other. other ≢ byte) a (before ++ byte ∷ behind) lacks)

-- a text that the byte parts does not lack it
pub parted-lacks : (byte : ℕ) (before behind text : List ℕ) → before ++ byte ∷ behind ≡ text → Lacks byte text → ⊥
parted-lacks byte before behind text same lacks = has byte before behind (subst (Lacks byte) (sym same) lacks)

-- the one colon in the text of a name and its type stands between them
pub typed_parts : (entry : ℕ × ℕ) (text name bits : List ℕ) → entry.0 < 2 ^ 32 → typed_name_text entry ≡ text → name ++ 58 ∷ bits ≡ text → Lacks 58 name → (decimal entry.0 ≡ name) × (code_text entry.1 ≡ bits)
typed_parts entry text name bits small same parted lacks =
    let digits : Lacks 58 (decimal entry.0) = All-decimal (λ byte. byte ≢ 58) (λ byte digit there. omega (arith, digit.1, there)) entry.0 (omega arith) in
    same_parts 58 (decimal entry.0) name (code_text entry.1) bits digits lacks (same ∙ sym parted)

-- each byte is above a space, and ASCII
abbrev pub is_plain : List ℕ → Bool
is_plain text = list_all (λ byte. nat_lt 32 byte && nat_lt byte 128) text

all_plain : (text : List ℕ) → is_plain text ≡ true → All (λ byte. (32 < byte) × (byte < 128)) text
all_plain [] plain = All-nil (λ byte. (32 < byte) × (byte < 128))
all_plain (a ∷ text) plain =
    let parts = and_parts (nat_lt 32 a && nat_lt a 128) (is_plain text) plain in
    let bounds = and_parts (nat_lt 32 a) (nat_lt a 128) parts.0 in
    All-cons (λ byte. (32 < byte) × (byte < 128)) a text (ltb-true 32 a bounds.0, ltb-true a 128 bounds.1) (all_plain text parts.1)

pub IsWord-plain : (text : List ℕ) → is_plain text ≡ true → IsWord text
IsWord-plain text plain = All-weaker (λ byte. (32 < byte) × (byte < 128)) (λ byte. 32 < byte) (λ byte both. both.0) text (all_plain text plain)

pub IsAscii-plain : (text : List ℕ) → is_plain text ≡ true → IsAscii text
IsAscii-plain text plain =
    IsAscii-from_all text (All-weaker (λ byte. (32 < byte) × (byte < 128)) (λ byte. byte < 128) (λ byte both. both.1) text (all_plain text plain))

-- a byte below a space is in no line of words
pub Lacks-line : (byte : ℕ) (ws : List (List ℕ)) → byte < 32 → All IsWord ws → Lacks byte (line ws)
Lacks-line byte [] low plain = All-nil (λ other. other ≢ byte)
Lacks-line byte (word ∷ []) low plain = Lacks-IsWord byte word (omega arith) (All-head IsWord word [] plain)
Lacks-line byte (word ∷ next ∷ others) low plain =
    All-append (λ other. other ≢ byte) word (32 ∷ line (next ∷ others)) (Lacks-IsWord byte word (omega arith) (All-head IsWord word (next ∷ others) plain))
    (All-cons (λ other. other ≢ byte) 32 (line (next ∷ others)) (λ same. omega (arith, same))
    (Lacks-line byte (next ∷ others) low (All-tail IsWord word (next ∷ others) plain)))

-- words that were read as all the words of a text are its line's
pub line_of_words : (read left : List (List ℕ)) (text : List ℕ) → read ++ left ≡ words text → left ≡ [] → line read ≡ text
line_of_words read left text split none =
    ap line (sym (append-nil read) ∙ ap (λ rest. read ++ rest) (sym none) ∙ split) ∙ line-words text

-- the first words of two equal lists are one, and so are those behind them
pub first_word : (word keyword : List ℕ) (others behind : List (List ℕ)) → word ∷ others ≡ keyword ∷ behind → (word ≡ keyword) × (others ≡ behind)
first_word word keyword others behind same = (cc, cc)

-- where texts of values are left to read, they begin with the text of a value
pub next_of : {X : Type 0} (f : X → List ℕ) (P : X → Type 0) (done all : List X) (left : List (List ℕ)) → All P all → map f done ++ left ≡ map f all → (left ≡ [] → ⊥)
    → (x : X) × (rest : List (List ℕ)) × P x × (f x ∷ rest ≡ left)
next_of f P [] [] left small same some = absurd (some same)
next_of f P [] (x ∷ all) left small same some = (x, map f all, All-head P x all small, sym same)
next_of f P (y ∷ done) [] left small same some = absurd cc
next_of f P (y ∷ done) (x ∷ all) left small same some = next_of f P done all left (All-tail P x all small) (cc) some

-- the line of a word and the texts of values, text by text
pub line_map : {X : Type 0} (f : X → List ℕ) (word : List ℕ) (xs : List X) → word ++ flat_map (λ x. 32 ∷ f x) xs ≡ line (word ∷ map f xs)
line_map f word [] = append-nil word
line_map f word (x ∷ xs) = ap (λ text. word ++ 32 ∷ text) (line_map f (f x) xs)

-- the texts of values, one after another, and of one more
pub texts_push : {X : Type 0} (f : X → List ℕ) (xs : List X) (x : X) → flat_map f (xs ++ x ∷ []) ≡ flat_map f xs ++ f x
texts_push f xs x = flat_map-append f xs (x ∷ []) ∙ ap (λ t. flat_map f xs ++ t) (append-nil (f x))
