-- What is read of a message that was received.
use Rattle.std.specs.Prelude.{◌≡◌, ℕ, ◌*◌, ◌/◌, ◌^◌, Option, Some, None, List, [], ◌∷◌, drop, All}
use Rattle.std.specs.Borrow.{Bor}
use Rattle.mach_types.specs.Grammar.{Header, Wire, data_item, port_item, WireBody, raw, items, IsWire, IsWireBody, NamesPorts, Spells, body_text, complex_bit, wires_text, words_text}
use Rattle.mach_types.specs.TextGuards.{ItemsRefuse, is_bit, word_at}
use Rattle.type_descriptor.specs.declared.descriptor.Descriptor.{Descriptor}
use Rattle.message_codec.specs.declared.reader.ReceivedHeader.{ReceivedHeader}
use Rattle.message_codec.specs.declared.reader.ReceivedItem.{ReceivedItem}
use Rattle.message_codec.specs.declared.reader.ReceivedItem.TheVariants.{Data, Ports}
use Rattle.message_codec.specs.declared.reader.ReceivedItems.{ReceivedItems}
use Rattle.message_codec.specs.declared.reader.ReceivedBody.{ReceivedBody}
use Rattle.message_codec.specs.declared.reader.ReceivedBody.TheVariants.{Raw, Items}
use Rattle.message_codec.specs.declared.reader.Received.{Received}

-- ---- items

-- the item has just the fields of the one that is written
abbrev pub ItemShows : ReceivedItem → Wire → Type 0
ItemShows (Data d) (data_item form name size number bytes padding) =
    (d.type_name ≡ name) × (d.size ≡ size) × (d.number ≡ number) × (d.bytes.now ≡ bytes)
ItemShows (Ports p) (port_item form disposition words) = (p.kind ≡ disposition) × (p.words.now ≡ words_text words)
ItemShows item wire = ⊥

-- Of these items the first was read, and the text of the others is left; or there is none.
abbrev pub GivesFirst : List Wire → Option ReceivedItem → (left : List ℕ) → Type 0
GivesFirst [] None left = left ≡ []
GivesFirst (x ∷ xs) (Some item) left = ItemShows item x × (left ≡ wires_text xs)
GivesFirst xs given left = ⊥

-- Of each list of items whose text is left the first is given.
abbrev pub GivesItem : ReceivedItems → Option ReceivedItem → ReceivedItems → Type 0
GivesItem old given new = (xs : List Wire) → All IsWire xs → old.bytes.now ≡ wires_text xs → GivesFirst xs given new.bytes.now

-- ---- messages

pub record HeaderShows (read : ReceivedHeader) (header : Header) : Type 0 where
  pub remote_kind : read.remote_kind ≡ header.remote_kind
  pub local_kind : read.local_kind ≡ header.local_kind
  pub size : read.size ≡ header.size
  pub remote : read.remote ≡ header.remote
  pub local : read.local ≡ header.local
  pub sequence : read.sequence ≡ header.sequence
  pub id : read.id ≡ header.id

-- A body of items is given by their text, of which `next` gives one after another.
abbrev pub BodyShows : ReceivedBody → WireBody → Type 0
BodyShows (Raw bytes) (raw written) = bytes.now ≡ written
BodyShows (Items read) (items xs) = read.bytes.now ≡ wires_text xs
BodyShows read written = ⊥

abbrev pub ShowsBoth : Received → Header → WireBody → Type 0
ShowsBoth message header written = HeaderShows message.header header × BodyShows message.body written

-- The bytes are a text, and this is what it says.
pub record Shows (bytes : List ℕ) (message : Received) : Type 0 where
  pub header : Header
  pub written : WireBody
  pub spells : Spells bytes header written
  pub header_shows : HeaderShows message.header header
  pub body_shows : BodyShows message.body written

-- ---- on the way

abbrev pub ItemOf : Descriptor → List ℕ → ReceivedItem → Type 0
ItemOf d bytes (Data x) = ¬ (NamesPorts d.name) × (x.type_name ≡ d.name) × (x.size ≡ d.size) × (x.number ≡ d.number) × (x.bytes.now ≡ bytes)
ItemOf d bytes (Ports p) = NamesPorts d.name × (p.kind ≡ d.name) × (p.words.now ≡ bytes)

abbrev pub FirstOf : List Wire → Option (ReceivedItem × Bor (List ℕ)) → Type 0
FirstOf [] None = Unit {0}
FirstOf (x ∷ xs) (Some r) = ItemShows r.0 x × (r.1.now ≡ wires_text xs)
FirstOf xs given = ⊥

pub record HasBody (bytes : List ℕ) (body : ReceivedBody) : Type 0 where
  pub written : WireBody
  pub text : drop 24 bytes ≡ body_text written
  pub fits : IsWireBody written
  pub flag : complex_bit written ≡ word_at bytes 0 / 2 ^ 31 * 2 ^ 31
  pub shows : BodyShows body written

abbrev pub NotBody : List ℕ → Type 0
NotBody bytes = is_bit (word_at bytes 0) 31 × ((code : ℕ) × ItemsRefuse (drop 24 bytes) code)
