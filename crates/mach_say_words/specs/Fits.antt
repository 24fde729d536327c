-- When a reply is what a statement says of it.
use Rattle.std.specs.Prelude.{◌≡◌, ◌≢◌, ℕ, Some, List, All, IfSome, IsTrue, length, slice_get}
use Rattle.mach_types.specs.Grammar.{Header, WireBody, Spells}
use Rattle.mach_types.specs.declared.calls.Reply.{Reply}
use Rattle.mach_types.specs.declared.calls.Status.{Status}
use Rattle.mach_say_words.specs.declared.vocabulary.Field.{Field}
use Rattle.mach_say_words.specs.declared.vocabulary.Kind.{Kind}
use Rattle.mach_say_words.specs.Numbers.{kind_number}
use Rattle.mach_say_words.specs.declared.expected.Expected.{Expected}
use Rattle.mach_say_words.specs.declared.expected.ExpectedMessage.{ExpectedMessage}
use Rattle.mach_say_words.specs.declared.expected.ExpectedNotice.{ExpectedNotice}
use Rattle.mach_say_words.specs.declared.expected.FieldValue.{FieldValue}
use Rattle.mach_say_words.specs.Bodies.{data_of, kinds_of}

-- The reply is no refusal, and not that no message came.
abbrev pub Succeeds : Reply → Type 0
Succeeds (Reply.Code code) = code ≡ 0
Succeeds (Reply.Empty waited) = ⊥
Succeeds (Reply.TooLarge length_of) = ⊥
Succeeds Reply.NoRecord = ⊥
Succeeds reply = Unit {0}

abbrev pub field_value : Status → Field → ℕ
field_value status Field.Set = status.set
field_value status Field.Seqno = status.sequence
field_value status Field.MakeSend = status.make_send
field_value status Field.Limit = status.limit
field_value status Field.Queued = status.queued
field_value status Field.SendOnce = status.send_once
field_value status Field.Senders = status.has_send
field_value status Field.PortDestroyed = status.port_destroyed
field_value status Field.NoSenders = status.no_senders

-- The status has each field that is said.
abbrev pub HasFields : List FieldValue → Status → Type 0
HasFields fields status = All (λ (said : FieldValue). field_value status said.field ≡ said.value) fields

-- The message has each part that is said.
pub record HasParts (said : ExpectedMessage) (header : Header) (body : WireBody) : Type 0 where
  pub id : header.id ≡ said.id
  pub at : IfSome said.at (λ name. header.local ≡ name)
  pub reply_right : IsTrue said.answer → header.remote_kind ≢ 0
  pub contents : data_of body ≡ said.bytes.items
  pub rights : (n : ℕ) (kind : Kind) → slice_get said.with.items n ≡ Some kind → slice_get (kinds_of body) n ≡ Some (kind_number kind)

-- The bytes are a message that has each part that is said.
pub record IsMessage (said : ExpectedMessage) (bytes : List ℕ) : Type 0 where
  pub header : Header
  pub body : WireBody
  pub spells : Spells bytes header body
  pub parts : HasParts said header body

-- The bytes are a notice that has each part that is said; what it tells of is not looked at here.
pub record IsNotice (said : ExpectedNotice) (bytes : List ℕ) : Type 0 where
  pub header : Header
  pub body : WireBody
  pub spells : Spells bytes header body
  pub id : header.id ≡ said.id
  pub at : IfSome said.at (λ name. header.local ≡ name)

-- The reply is what is said. Of members only their number is said here, and of a reply that is said by its own text nothing.
abbrev pub Fits : Expected → Reply → Type 0
Fits Expected.Success reply = Succeeds reply
Fits (Expected.Code said) (Reply.Code code) = code ≡ said
Fits Expected.Empty (Reply.Empty waited) = Unit {0}
Fits (Expected.TooLarge said) (Reply.TooLarge length_of) = length_of ≡ said
Fits (Expected.Refs said) (Reply.Refs count) = count ≡ said
Fits (Expected.Names said) (Reply.Names names) = length names ≡ said
Fits (Expected.Type said) (Reply.NameType bits) = bits ≡ said
Fits (Expected.Fields said) (Reply.Status status) = HasFields said.items status
Fits (Expected.Members said) (Reply.Members members) = length members ≡ length said.items
Fits Expected.NoPrevious (Reply.Previous name) = name ≡ 0
Fits Expected.Previous (Reply.Previous name) = name ≢ 0
Fits (Expected.Reply said) reply = Unit {0}
Fits (Expected.Message said) (Reply.Message bytes) = IsMessage said bytes
Fits (Expected.Notice said) (Reply.Message bytes) = IsNotice said bytes
Fits said reply = ⊥
