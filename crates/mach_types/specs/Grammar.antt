-- Whole texts of messages (IPC Interface, `mach_msg_header_t`, `mach_msg_type_t`): six words, then raw bytes or a list of items.
use Rattle.std.specs.Prelude.{◌≡◌, ℕ, ◌+◌, ◌*◌, ◌/◌, ◌%◌, ◌^◌, ◌<◌, ◌≤◌, List, [], ◌∷◌, ◌++◌, length, All}
use Rattle.mach_types.specs.Messages.{Form, short, long}

-- An item as it is written: data of a type, or port words under a disposition.
pub data Wire : Type 0 where
  data_item : Form → (name size number : ℕ) → (bytes padding : List ℕ) → Wire
  port_item : Form → (disposition : ℕ) → (words : List ℕ) → Wire

pub data WireBody : Type 0 where
  raw : (bytes : List ℕ) → WireBody
  items : List Wire → WireBody

-- The header's six words; the first is the two kinds here, and the flag of a list of items.
pub record Header : Type 0 where
  pub remote_kind : ℕ
  pub local_kind : ℕ
  pub size : ℕ
  pub remote : ℕ
  pub local : ℕ
  pub sequence : ℕ
  pub id : ℕ

-- a number in little-endian bytes: two, or four
abbrev pub half : ℕ → List ℕ
half n = n % 2 ^ 8 ∷ n / 2 ^ 8 % 2 ^ 8 ∷ []

abbrev pub word : ℕ → List ℕ
word n = n % 2 ^ 8 ∷ n / 2 ^ 8 % 2 ^ 8 ∷ n / 2 ^ 16 % 2 ^ 8 ∷ n / 2 ^ 24 % 2 ^ 8 ∷ []

abbrev pub words_text : List ℕ → List ℕ
words_text [] = []
words_text (w ∷ ws) = word w ++ words_text ws

abbrev pub descriptor_text : Form → (name size number : ℕ) → List ℕ
descriptor_text short name size number = word (name + size * 2 ^ 8 + number * 2 ^ 16 + 2 ^ 28)
descriptor_text long name size number = word (2 ^ 28 + 2 ^ 29) ++ half name ++ half size ++ word number

abbrev pub wire_text : Wire → List ℕ
wire_text (data_item form name size number bytes padding) = descriptor_text form name size number ++ bytes ++ padding
wire_text (port_item form disposition words) = descriptor_text form disposition 32 (length words) ++ words_text words

abbrev pub wires_text : List Wire → List ℕ
wires_text [] = []
wires_text (x ∷ xs) = wire_text x ++ wires_text xs

abbrev pub body_text : WireBody → List ℕ
body_text (raw bytes) = bytes
body_text (items xs) = wires_text xs

abbrev pub complex_bit : WireBody → ℕ
complex_bit (raw bytes) = 0
complex_bit (items xs) = 2 ^ 31

abbrev pub bits : Header → WireBody → ℕ
bits h body = h.remote_kind + h.local_kind * 2 ^ 8 + complex_bit body

abbrev pub text : Header → WireBody → List ℕ
text h body = word (bits h body) ++ word h.size ++ word h.remote ++ word h.local ++ word h.sequence ++ word h.id ++ body_text body

-- What fits a descriptor of the form; a name above 255 fits neither.
abbrev pub FitsForm : Form → (name size number : ℕ) → Type 0
FitsForm short name size number = (name < 2 ^ 8) × (size < 2 ^ 8) × (number < 2 ^ 12)
FitsForm long name size number = (name < 2 ^ 8) × (size < 2 ^ 16) × (number < 2 ^ 32)

abbrev pub NamesPorts : ℕ → Type 0
NamesPorts name = (16 ≤ name) × (name ≤ 21)

abbrev pub IsWire : Wire → Type 0
IsWire (data_item form name size number bytes padding) =
    FitsForm form name size number × ¬ (NamesPorts name)
    × (length bytes ≡ (number * size + 7) / 8) × (length padding < 4) × ((length bytes + length padding) % 4 ≡ 0)
IsWire (port_item form disposition words) =
    FitsForm form disposition 32 (length words) × NamesPorts disposition × All (λ w. w < 2 ^ 32) words

abbrev pub IsWireBody : WireBody → Type 0
IsWireBody (raw bytes) = length bytes % 4 ≡ 0
IsWireBody (items xs) = All IsWire xs

pub record IsHeader (h : Header) : Type 0 where
  pub remote_kind : h.remote_kind < 2 ^ 8
  pub local_kind : h.local_kind < 2 ^ 8
  pub size : h.size < 2 ^ 32
  pub remote : h.remote < 2 ^ 32
  pub local : h.local < 2 ^ 32
  pub sequence : h.sequence < 2 ^ 32
  pub id : h.id < 2 ^ 32

-- The bytes are the text of this header and this body.
pub record Spells (bytes : List ℕ) (header : Header) (body : WireBody) : Type 0 where
  pub is_text : bytes ≡ text header body
  pub header_fits : IsHeader header
  pub body_fits : IsWireBody body
