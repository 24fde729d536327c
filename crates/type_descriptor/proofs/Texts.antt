-- Descriptors and their texts.
use Rattle.std.proofs.Common.{◌≡◌, ℕ, ◌+◌, ◌*◌, ◌/◌, ◌%◌, ◌^◌, ◌<◌, ◌≤◌, ◌⊎◌, inl, inr, Bool, true, false, List, ◌++◌, length, drop, refl, ap, subst, ◌∙◌, arith}
use Rattle.std.proofs.lemmas.Bool.{cases_eq}
use Rattle.mach_types.specs.declared.codes.MsgReturn.TheVariants.{SendMsgTooSmall, SendInvalidType}
use Rattle.mach_types.specs.Grammar.{word, half, descriptor_text, NamesPorts}
use Rattle.mach_types.specs.Messages.{short, long}
use Rattle.mach_types.specs.Codes.{msg_number}
use Rattle.mach_types.specs.TextGuards.{BadType, DescriptorFields, is_bit, word_at}
use Rattle.type_descriptor.specs.declared.descriptor.Descriptor.{Descriptor}
use Rattle.type_descriptor.specs.Describes.{Describes, DescriptorRefuses, form_of, form_length}
use Rattle.type_descriptor.specs.Fields.{HasFields, IsCutLong}
use Rattle.type_descriptor.proofs.ByteWords.{AreBytes, word-word_at, word_at-lt}

-- ---- what a first word says where it isn't refused

-- the two cases of the longform bit
pub cases_long : (first : ℕ) → is_bit first 29 ⊎ ¬ (is_bit first 29)
cases_long first = cases_eq (first / 2 ^ 29 % 2) 1

is_inline : (first name size : ℕ) → ¬ (BadType first name size) → is_bit first 28
is_inline first name size good = elim (cases_eq (first / 2 ^ 28 % 2) 1) [ inl h ↦ h | inr h ↦ absurd (good (inl h)) ]

keeps : (first name size : ℕ) → ¬ (BadType first name size) → ¬ (is_bit first 30)
keeps first name size good h = good (inr (inl h))

is_known : (first name size : ℕ) → ¬ (BadType first name size) → ¬ (is_bit first 31)
is_known first name size good h = good (inr (inr (inl h)))

no_short_fields : (first name size : ℕ) → ¬ (BadType first name size) → is_bit first 29 → first % 2 ^ 28 ≡ 0
no_short_fields first name size good is_long = elim (cases_eq (first % 2 ^ 28) 0) [ inl h ↦ h | inr h ↦ absurd (good (inr (inr (inr (inl (is_long, h)))))) ]

right_size : (first name size : ℕ) → ¬ (BadType first name size) → NamesPorts name → size ≡ 32
right_size first name size good ports = elim (cases_eq size 32) [ inl h ↦ h | inr h ↦ absurd (good (inr (inr (inr (inr (inl (ports, h))))))) ]

small_name : (first name size : ℕ) → ¬ (BadType first name size) → name < 2 ^ 8
small_name first name size good = let h : 2 ^ 8 ≤ name → ⊥ = λ large. good (inr (inr (inr (inr (inr large))))) in omega arith

-- ---- the words of a text

short_word : (first : ℕ) → first < 2 ^ 32 → is_bit first 28 → ¬ (is_bit first 29) → ¬ (is_bit first 30) → ¬ (is_bit first 31)
    → first ≡ first % 2 ^ 8 + first / 2 ^ 8 % 2 ^ 8 * 2 ^ 8 + first / 2 ^ 16 % 2 ^ 12 * 2 ^ 16 + 2 ^ 28
short_word first fits b28 b29 b30 b31 = omega arith

long_word : (first : ℕ) → first < 2 ^ 32 → is_bit first 28 → is_bit first 29 → ¬ (is_bit first 30) → ¬ (is_bit first 31)
    → first % 2 ^ 28 ≡ 0 → first ≡ 2 ^ 28 + 2 ^ 29
long_word first fits b28 b29 b30 b31 zero_fields = omega arith

-- a word is its two halves
halves : (n : ℕ) → word n ≡ half (n % 2 ^ 16) ++ half (n / 2 ^ 16)
halves n =
    let e0 : n % 2 ^ 16 % 2 ^ 8 ≡ n % 2 ^ 8 = omega arith in
    let e1 : n % 2 ^ 16 / 2 ^ 8 % 2 ^ 8 ≡ n / 2 ^ 8 % 2 ^ 8 = omega arith in
    let e3 : n / 2 ^ 16 / 2 ^ 8 % 2 ^ 8 ≡ n / 2 ^ 24 % 2 ^ 8 = omega arith in
    rw (e0, e1, e3) refl

-- ---- reading

short_text : (bytes : List ℕ) → AreBytes bytes → 4 ≤ length bytes
    → word_at bytes 0 ≡ word_at bytes 0 % 2 ^ 8 + word_at bytes 0 / 2 ^ 8 % 2 ^ 8 * 2 ^ 8 + word_at bytes 0 / 2 ^ 16 % 2 ^ 12 * 2 ^ 16 + 2 ^ 28
    → bytes ≡ descriptor_text short (word_at bytes 0 % 2 ^ 8) (word_at bytes 0 / 2 ^ 8 % 2 ^ 8) (word_at bytes 0 / 2 ^ 16 % 2 ^ 12) ++ drop 4 bytes
short_text bytes are room first =
    word-word_at bytes 0 are room ∙ ap (λ (n : ℕ). word n ++ drop 4 bytes) first

long_text : (bytes : List ℕ) → AreBytes bytes → 12 ≤ length bytes → word_at bytes 0 ≡ 2 ^ 28 + 2 ^ 29
    → bytes ≡ descriptor_text long (word_at bytes 4 % 2 ^ 16) (word_at bytes 4 / 2 ^ 16) (word_at bytes 8) ++ drop 12 bytes
long_text bytes are room first =
    let w0 : bytes ≡ word (word_at bytes 0) ++ drop 4 bytes = word-word_at bytes 0 are (omega arith) in
    let w1 : drop 4 bytes ≡ word (word_at bytes 4) ++ drop 8 bytes = word-word_at bytes 4 are (omega arith) in
    let w2 : drop 8 bytes ≡ word (word_at bytes 8) ++ drop 12 bytes = word-word_at bytes 8 are (omega arith) in
    w0
    ∙ ap (λ (n : ℕ). word n ++ drop 4 bytes) first
    ∙ ap (λ (r : List ℕ). word (2 ^ 28 + 2 ^ 29) ++ r) (w1
    ∙ ap (λ (r : List ℕ). r ++ drop 8 bytes) (halves (word_at bytes 4))
    ∙ ap (λ (r : List ℕ). half (word_at bytes 4 % 2 ^ 16) ++ half (word_at bytes 4 / 2 ^ 16) ++ r) w2)

Describes-short : (bytes : List ℕ) (d : Descriptor) → AreBytes bytes → HasFields bytes d → ¬ (BadType (word_at bytes 0) d.name d.size)
    → ¬ (is_bit (word_at bytes 0) 29) → Describes bytes d
Describes-short bytes d are has good is_short =
    let form : d.long ≡ false = has.if_short is_short in
    let room : 4 ≤ length bytes = subst (λ (l : Bool). form_length (form_of l) ≤ length bytes) form has.room in
    let first = word_at bytes 0 in
    let whole = short_word first (word_at-lt bytes 0 are) (is_inline first d.name d.size good) is_short (keeps first d.name d.size good) (is_known first d.name d.size good) in
    elim has.fields [
      | inl f ↦ record {
        rest = drop 4 bytes;
        is_text = rw (form, f.1, f.2, f.3) (short_text bytes are room whole);
        lawful = record {
          fits = rw form (small_name first d.name d.size good, omega (arith, f.2), omega (arith, f.3));
          right_size = right_size first d.name d.size good;
        };
      }
      | inr f ↦ absurd (is_short f.0)
    ]

Describes-long : (bytes : List ℕ) (d : Descriptor) → AreBytes bytes → HasFields bytes d → ¬ (BadType (word_at bytes 0) d.name d.size)
    → is_bit (word_at bytes 0) 29 → Describes bytes d
Describes-long bytes d are has good is_long =
    let form : d.long ≡ true = has.if_long is_long in
    let room : 12 ≤ length bytes = subst (λ (l : Bool). form_length (form_of l) ≤ length bytes) form has.room in
    let first = word_at bytes 0 in
    let whole = long_word first (word_at-lt bytes 0 are) (is_inline first d.name d.size good) is_long (keeps first d.name d.size good) (is_known first d.name d.size good) (no_short_fields first d.name d.size good is_long) in
    elim has.fields [
      | inl f ↦ absurd (f.0 is_long)
      | inr f ↦ record {
        rest = drop 12 bytes;
        is_text = rw (form, f.1, f.2, f.3) (long_text bytes are room whole);
        lawful = record {
          fits = rw form (small_name first d.name d.size good, omega (arith, f.2, word_at-lt bytes 4 are), omega (arith, f.3, word_at-lt bytes 8 are));
          right_size = right_size first d.name d.size good;
        };
      }
    ]

-- what is not refused is a descriptor
pub Describes-from_fields : (bytes : List ℕ) (d : Descriptor) → AreBytes bytes → HasFields bytes d → ¬ (BadType (word_at bytes 0) d.name d.size) → Describes bytes d
Describes-from_fields bytes d are has good = elim (cases_long (word_at bytes 0)) [
  | inl is_long ↦ Describes-long bytes d are has good is_long
  | inr is_short ↦ Describes-short bytes d are has good is_short
]

-- ---- refusing

some_fields : (bytes : List ℕ) → (name : ℕ) × ((size : ℕ) × ((number : ℕ) × DescriptorFields bytes name size number))
some_fields bytes = elim (cases_long (word_at bytes 0)) [
  | inl is_long ↦ (word_at bytes 4 % 2 ^ 16, (word_at bytes 4 / 2 ^ 16, (word_at bytes 8, inr (is_long, refl, refl, refl))))
  | inr is_short ↦ (word_at bytes 0 % 2 ^ 8, (word_at bytes 0 / 2 ^ 8 % 2 ^ 8, (word_at bytes 0 / 2 ^ 16 % 2 ^ 12, inl (is_short, refl, refl, refl))))
]

-- fewer bytes than a word
pub refuses_short : (bytes : List ℕ) → length bytes < 4 → DescriptorRefuses bytes (msg_number SendMsgTooSmall)
refuses_short bytes few =
    let some = some_fields bytes in
    record { name = some.0; size = some.1.0; number = some.1.1.0; fields = some.1.1.1; refused = inl (few, refl) }

-- a long form that is cut
pub refuses_cut : (bytes : List ℕ) → 4 ≤ length bytes → IsCutLong bytes → DescriptorRefuses bytes (msg_number SendMsgTooSmall)
refuses_cut bytes room cut =
    let some = some_fields bytes in
    record { name = some.0; size = some.1.0; number = some.1.1.0; fields = some.1.1.1; refused = inr ((λ few. omega arith), inl (cut, refl)) }

-- a long form has its room
not_cut : (bytes : List ℕ) (d : Descriptor) → HasFields bytes d → ¬ (IsCutLong bytes)
not_cut bytes d has cut =
    let room : 12 ≤ length bytes = subst (λ (l : Bool). form_length (form_of l) ≤ length bytes) (has.if_long cut.0) has.room in
    omega (arith, cut.1)

pub refuses_type : (bytes : List ℕ) (d : Descriptor) → 4 ≤ length bytes → HasFields bytes d → BadType (word_at bytes 0) d.name d.size
    → DescriptorRefuses bytes (msg_number SendInvalidType)
refuses_type bytes d room has bad = record {
  name = d.name;
  size = d.size;
  number = d.number;
  fields = has.fields;
  refused = inr ((λ few. omega arith), inr (not_cut bytes d has, inl (bad, refl)));
}

-- ---- writing

-- the three words of a long form
pub long_words : (name size number : ℕ) → name < 2 ^ 16 → word (2 ^ 28 + 2 ^ 29) ++ word (name + size * 2 ^ 16) ++ word number ≡ descriptor_text long name size number
long_words name size number fits =
    let low : (name + size * 2 ^ 16) % 2 ^ 16 ≡ name = omega arith in
    let high : (name + size * 2 ^ 16) / 2 ^ 16 ≡ size = omega arith in
    ap (λ (r : List ℕ). word (2 ^ 28 + 2 ^ 29) ++ r ++ word number) (halves (name + size * 2 ^ 16) ∙ ap (λ (n : ℕ). half n ++ half ((name + size * 2 ^ 16) / 2 ^ 16)) low ∙ ap (λ (n : ℕ). half name ++ half n) high)
