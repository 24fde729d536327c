-- What stands at the front of a descriptor's text.
use Rattle.std.proofs.Common.{◌≡◌, ℕ, ◌+◌, ◌*◌, ◌/◌, ◌%◌, ◌^◌, ◌<◌, List, ◌++◌, length, refl, arith}
use Rattle.mach_types.specs.Grammar.{descriptor_text, FitsForm, NamesPorts}
use Rattle.mach_types.specs.Messages.{Form, short, long}
use Rattle.mach_types.specs.TextGuards.{BadType, DescriptorFields, IsDescriptorLength, is_bit, word_at}
use Rattle.type_descriptor.specs.Describes.{form_length}
use Rattle.type_descriptor.proofs.ByteWords.{word_at-word}

-- The bytes begin with a descriptor of this form with these fields, and with no other.
pub record IsFront (bytes : List ℕ) (form : Form) (name size number : ℕ) : Type 0 where
  pub has : DescriptorFields bytes name size number
  pub only : (m t c : ℕ) → DescriptorFields bytes m t c → (m ≡ name) × (t ≡ size) × (c ≡ number)
  pub before_is : IsDescriptorLength bytes (form_length form)
  pub before_only : (k : ℕ) → IsDescriptorLength bytes k → k ≡ form_length form
  pub good : ¬ (BadType (word_at bytes 0) name size)
  pub not_cut : ¬ (is_bit (word_at bytes 0) 29 × (length bytes < 12))

-- ---- the short form

short_first : (name size number : ℕ) (rest : List ℕ) → FitsForm short name size number
    → word_at (descriptor_text short name size number ++ rest) 0 ≡ name + size * 2 ^ 8 + number * 2 ^ 16 + 2 ^ 28
short_first name size number rest fits = grind (arith, word_at-word)

good_word : (first name size : ℕ) → is_bit first 28 → ¬ (is_bit first 30) → ¬ (is_bit first 31) → (is_bit first 29 → first % 2 ^ 28 ≡ 0)
    → (NamesPorts name → size ≡ 32) → name < 2 ^ 8 → ¬ (BadType first name size)
good_word first name size b28 b30 b31 b29 right small bad = grind arith

short_bits : (w name size number : ℕ) → FitsForm short name size number → w ≡ name + size * 2 ^ 8 + number * 2 ^ 16 + 2 ^ 28
    → is_bit w 28 × ¬ (is_bit w 29) × ¬ (is_bit w 30) × ¬ (is_bit w 31) × (name ≡ w % 2 ^ 8) × (size ≡ w / 2 ^ 8 % 2 ^ 8) × (number ≡ w / 2 ^ 16 % 2 ^ 12)
short_bits w name size number fits e = grind arith

short_front : (name size number : ℕ) (rest : List ℕ) → FitsForm short name size number → (NamesPorts name → size ≡ 32)
    → IsFront (descriptor_text short name size number ++ rest) short name size number
short_front name size number rest fits right = grind (arith, short_bits, short_first, good_word)

-- ---- the long form

long_second : (name size number : ℕ) (rest : List ℕ) → FitsForm long name size number
    → (name ≡ word_at (descriptor_text long name size number ++ rest) 4 % 2 ^ 16) × (size ≡ word_at (descriptor_text long name size number ++ rest) 4 / 2 ^ 16)
long_second name size number rest fits = grind arith

long_third : (name size number : ℕ) (rest : List ℕ) → FitsForm long name size number
    → number ≡ word_at (descriptor_text long name size number ++ rest) 8
long_third name size number rest fits = let c : number < 2 ^ 32 = fits.2 in omega arith

long_front : (name size number : ℕ) (rest : List ℕ) → FitsForm long name size number → (NamesPorts name → size ≡ 32)
    → IsFront (descriptor_text long name size number ++ rest) long name size number
long_front name size number rest fits right = grind (arith, long_second, long_third, good_word)

pub front_of : (form : Form) (name size number : ℕ) (rest : List ℕ) → FitsForm form name size number → (NamesPorts name → size ≡ 32)
    → IsFront (descriptor_text form name size number ++ rest) form name size number
front_of short name size number rest fits right = short_front name size number rest fits right
front_of long name size number rest fits right = long_front name size number rest fits right

-- what fits neither form has no name above 255
pub small_name : (form : Form) (name size number : ℕ) → FitsForm form name size number → name < 2 ^ 8
small_name short name size number fits = fits.0
small_name long name size number fits = fits.0

pub length-descriptor_text : (form : Form) (name size number : ℕ) → length (descriptor_text form name size number) ≡ form_length form
length-descriptor_text short name size number = refl
length-descriptor_text long name size number = refl
