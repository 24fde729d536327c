-- Which texts are no messages, and the code that says so. The whole text is judged before any right; the order is this project's own.
use Rattle.std.specs.Prelude.{◌≡◌, ◌≢◌, ℕ, ◌+◌, ◌*◌, ◌/◌, ◌%◌, ◌^◌, ◌<◌, ◌≤◌, ◌⊎◌, List, [], ◌∷◌, ◌++◌, length, slice_index, drop, All}
use Rattle.mach_types.specs.Numbers.{most_bytes}
use Rattle.mach_types.specs.Codes.{msg_number}
use Rattle.mach_types.specs.declared.codes.MsgReturn.TheVariants.{SendMsgTooSmall, SendInvalidData, SendInvalidHeader, SendInvalidType}
use Rattle.mach_types.specs.Grammar.{Wire, wires_text, IsWire, NamesPorts}
use Rattle.mach_types.specs.Guards.{Guards, FirstIs, NoneHolds}

-- the little-endian word at an offset
abbrev pub word_at : List ℕ → ℕ → ℕ
word_at bytes i = slice_index bytes i + slice_index bytes (i + 1) * 2 ^ 8 + slice_index bytes (i + 2) * 2 ^ 16 + slice_index bytes (i + 3) * 2 ^ 24

abbrev pub is_bit : ℕ → ℕ → Type 0
is_bit n k = n / 2 ^ k % 2 ≡ 1

-- The dispositions by which a message may be sent, or answered.
abbrev pub IsSendable : ℕ → Type 0
IsSendable disposition = (17 ≤ disposition) × (disposition ≤ 21)

-- bits and local word of a header that no message has
abbrev pub BadHeader : (bits local : ℕ) → Type 0
BadHeader bits local =
    (bits / 2 ^ 16 % 2 ^ 15 ≢ 0)
    ⊎ ¬ (IsSendable (bits % 2 ^ 8))
    ⊎ (bits / 2 ^ 8 % 2 ^ 8 ≢ 0) × ¬ (IsSendable (bits / 2 ^ 8 % 2 ^ 8))
    ⊎ (bits / 2 ^ 8 % 2 ^ 8 ≡ 0) × (local ≢ 0)

abbrev pub header_guards : List ℕ → Guards
header_guards bytes =
    ((length bytes < 24) ⊎ (length bytes % 4 ≢ 0), msg_number SendMsgTooSmall)
    ∷ (most_bytes < length bytes, msg_number SendInvalidData)
    ∷ (BadHeader (word_at bytes 0) (word_at bytes 12), msg_number SendInvalidHeader)
    ∷ []

-- A descriptor at the front of these bytes: its fields are those of the first word, or of the two after it.
abbrev pub DescriptorFields : (bytes : List ℕ) → (name size number : ℕ) → Type 0
DescriptorFields bytes name size number =
    (¬ (is_bit (word_at bytes 0) 29)
    × (name ≡ word_at bytes 0 % 2 ^ 8) × (size ≡ word_at bytes 0 / 2 ^ 8 % 2 ^ 8) × (number ≡ word_at bytes 0 / 2 ^ 16 % 2 ^ 12))
    ⊎ (is_bit (word_at bytes 0) 29 × (name ≡ word_at bytes 4 % 2 ^ 16) × (size ≡ word_at bytes 4 / 2 ^ 16) × (number ≡ word_at bytes 8))

-- how long the descriptor at the front of these bytes is
abbrev pub IsDescriptorLength : (bytes : List ℕ) → ℕ → Type 0
IsDescriptorLength bytes n = (is_bit (word_at bytes 0) 29 → n ≡ 12) × (¬ (is_bit (word_at bytes 0) 29) → n ≡ 4)

-- Data of so many bits, padded to whole bytes.
abbrev pub data_length : (size number : ℕ) → ℕ
data_length size number = (number * size + 7) / 8

-- the first word of a descriptor, and a name and a size, that no item has
abbrev pub BadType : (first name size : ℕ) → Type 0
BadType first name size =
    ¬ (is_bit first 28)
    ⊎ is_bit first 30
    ⊎ is_bit first 31
    ⊎ is_bit first 29 × (first % 2 ^ 28 ≢ 0)
    ⊎ NamesPorts name × (size ≢ 32)
    ⊎ (2 ^ 8 ≤ name)

abbrev pub descriptor_guards : (bytes : List ℕ) → (name size : ℕ) → Guards
descriptor_guards bytes name size =
    (is_bit (word_at bytes 0) 29 × (length bytes < 12), msg_number SendMsgTooSmall)
    ∷ (BadType (word_at bytes 0) name size, msg_number SendInvalidType)
    ∷ []

-- the descriptor's data ends within these bytes, or doesn't
abbrev pub item_guards : (bytes : List ℕ) → (name size number before : ℕ) → Guards
item_guards bytes name size number before =
    descriptor_guards bytes name size ++ (length bytes < before + data_length size number, msg_number SendMsgTooSmall) ∷ []

-- The bytes begin with no item, and this is the code that says so.
pub record ItemRefuses (bytes : List ℕ) (code : ℕ) : Type 0 where
  pub name : ℕ
  pub size : ℕ
  pub number : ℕ
  pub fields : DescriptorFields bytes name size number
  pub before : ℕ
  pub before_is : IsDescriptorLength bytes before
  pub refused : FirstIs (item_guards bytes name size number before) code

-- After some whole items comes one that is refused with this code.
pub record ItemsRefuse (bytes : List ℕ) (code : ℕ) : Type 0 where
  pub front : List Wire
  pub rest : List ℕ
  pub parts : bytes ≡ wires_text front ++ rest
  pub front_fits : All IsWire front
  pub more : 0 < length rest
  pub refused : ItemRefuses rest code

-- The bytes are no message that the kernel takes, and this is the code that says so.
abbrev pub TextRefuses : List ℕ → (code : ℕ) → Type 0
TextRefuses bytes code =
    FirstIs (header_guards bytes) code
    ⊎ NoneHolds (header_guards bytes) × is_bit (word_at bytes 0) 31 × ItemsRefuse (drop 24 bytes) code
