-- The text of a message that is to be sent, by its fields.
use Rattle.std.specs.Prelude.{◌≡◌, ℕ, ◌+◌, ◌-◌, ◌*◌, ◌/◌, ◌^◌, ◌<◌, ◌≤◌, ◌&&◌, nat_lt, if◌then◌else◌, Option, Some, None, List, [], ◌∷◌, ◌++◌, length, map, replicate, take, drop, All}
use Rattle.mach_types.specs.declared.codes.MsgReturn.TheVariants.{SendInvalidType}
use Rattle.mach_types.specs.Grammar.{Wire, data_item, port_item, WireBody, raw, items, Header, text, bits, body_text, wires_text, NamesPorts, Spells}
use Rattle.mach_types.specs.Guards.{Guards, FirstIs, NoneHolds}
use Rattle.mach_types.specs.Messages.{Form, short, long}
use Rattle.mach_types.specs.Numbers.{most_bytes, null_word}
use Rattle.mach_types.specs.Rights.{disposition_number}
use Rattle.mach_types.specs.Codes.{msg_number}
use Rattle.mach_types.specs.TextGuards.{TextRefuses, data_length, header_guards}
use Rattle.message_codec.specs.declared.header.Header.{Header as Words}
use Rattle.message_codec.specs.declared.writer.PortRight.{PortRight}
use Rattle.message_codec.specs.declared.writer.SendHeader.{SendHeader}
use Rattle.message_codec.specs.declared.writer.SendItem.{SendItem}
use Rattle.message_codec.specs.declared.writer.SendItem.TheVariants.{Data, Ports}
use Rattle.message_codec.specs.declared.writer.SendBody.{SendBody}
use Rattle.message_codec.specs.declared.writer.SendBody.TheVariants.{Raw, Items}
use Rattle.message_codec.specs.declared.writer.WriteError.{WriteError}
use Rattle.message_codec.specs.declared.writer.WriteError.TheVariants.{Refused, OutOfMemory}

-- the short form where it fits
abbrev pub form_for : (size number : ℕ) → Form
form_for size number = if nat_lt size (2 ^ 8) && nat_lt number (2 ^ 12) then short else long

-- how many elements of so many bits so many bytes have
abbrev pub element_number : (size count : ℕ) → ℕ
element_number size count = count * 8 / size

-- how many bytes more make whole words
abbrev pub padding_length : ℕ → ℕ
padding_length count = (count + 3) / 4 * 4 - count

abbrev pub data_wire : (name size : ℕ) → List ℕ → Wire
data_wire name size bytes =
    let number = element_number size (length bytes) in
    data_item (form_for size number) name size number bytes (replicate (padding_length (length bytes)) 0)

abbrev pub port_wire : (disposition : ℕ) → List ℕ → Wire
port_wire disposition names = port_item (form_for 32 (length names)) disposition names

abbrev pub item_wire : SendItem → Wire
item_wire (Data name size bytes) = data_wire name size bytes.now
item_wire (Ports disposition names) = port_wire (disposition_number disposition) names.now

abbrev pub items_text : List SendItem → List ℕ
items_text xs = wires_text (map item_wire xs)

abbrev pub written_body : SendBody → WireBody
written_body (Raw bytes) = raw bytes.now
written_body (Items xs) = items (map item_wire xs.now)

abbrev pub reply_number : Option PortRight → ℕ
reply_number None = 0
reply_number (Some right) = disposition_number right.disposition

abbrev pub reply_name : Option PortRight → ℕ
reply_name None = null_word
reply_name (Some right) = right.name

-- the header of a message of so many bytes
abbrev pub written_header : SendHeader → (size : ℕ) → Header
written_header h size = record {
  remote_kind = disposition_number h.destination.disposition;
  local_kind = reply_number h.reply;
  size = size;
  remote = h.destination.name;
  local = reply_name h.reply;
  sequence = 0;
  id = h.id;
}

abbrev pub written_length : SendBody → ℕ
written_length b = 24 + length (body_text (written_body b))

abbrev pub written_text : SendHeader → SendBody → List ℕ
written_text h b = text (written_header h (written_length b)) (written_body b)

-- Data is an item where its type is no disposition, and some number of elements takes its bytes.
abbrev pub IsData : (name size : ℕ) → List ℕ → Type 0
IsData name size bytes = ¬ (NamesPorts name) × (data_length size (element_number size (length bytes)) ≡ length bytes)

abbrev pub IsItem : SendItem → Type 0
IsItem (Data name size bytes) = IsData name size bytes.now
IsItem (Ports disposition names) = Unit {0}

abbrev pub AreItems : SendBody → Type 0
AreItems (Raw bytes) = Unit {0}
AreItems (Items xs) = All IsItem xs.now

-- The faults of fields: those of their text, and then an item that has none.
abbrev pub field_guards : SendHeader → SendBody → Guards
field_guards h b = header_guards (written_text h b) ++ (¬ (AreItems b), msg_number SendInvalidType) ∷ []

-- The bytes are the text of these fields, and no guard refuses it.
pub record IsWritten (bytes : List ℕ) (h : SendHeader) (b : SendBody) : Type 0 where
  pub spells : Spells bytes (written_header h (length bytes)) (written_body b)
  pub lawful : NoneHolds (header_guards bytes)
  pub unrefused : (code : ℕ) → ¬ (TextRefuses bytes code)

-- Why nothing was written; want of memory is told only where no fault is.
abbrev pub WriteFails : SendHeader → SendBody → WriteError → Type 0
WriteFails h b (Refused code) = FirstIs (field_guards h b) (msg_number code)
WriteFails h b OutOfMemory = NoneHolds (field_guards h b)

-- ---- on the way

-- A length that is told, or a number that says that there is no message of it.
abbrev pub IsLength : (told meant : ℕ) → Type 0
IsLength told n = (n ≤ most_bytes → told ≡ n) × (most_bytes < n → most_bytes < told)

-- The words of these fields, but for the size.
pub record HasWords (w : Words) (h : SendHeader) (b : SendBody) : Type 0 where
  pub bits : w.bits ≡ bits (written_header h 0) (written_body b)
  pub remote : w.remote ≡ h.destination.name
  pub local : w.local ≡ reply_name h.reply
  pub sequence : w.sequence ≡ 0
  pub id : w.id ≡ h.id

-- the bytes with these written over those from an offset on
abbrev pub with_text : (at : ℕ) → (text bytes : List ℕ) → List ℕ
with_text at t bytes = take at bytes ++ t ++ drop (at + length t) bytes
