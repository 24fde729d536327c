-- A queued message as it is kept: its bytes as they were sent, where its port words stand, and its rights. A notice is kept as the message that is made of it.
use Rattle.std.specs.Prelude.{◌≡◌, ◌≢◌, ℕ, ◌^◌, ◌<◌, ◌≤◌, Bool, true, List, [], ◌∷◌, ◌++◌, length, take, drop, map, replicate, if◌then◌else◌, Option, Some, None, refl}
use Rattle.std.specs.Coded.{Coded, code_by, coded×, coded_ℕ, coded_bool, coded_list, coded_option}
use Rattle.std.specs.Option.{option_map, unwrap_or}
use Rattle.mach_types.specs.declared.rights.Disposition.{Disposition}
use Rattle.mach_types.specs.declared.rights.Disposition.TheVariants.{MoveReceive}
use Rattle.mach_types.specs.Numbers.{disposition, kind_sent}
use Rattle.mach_types.specs.Rights.{disposition_number}
use Rattle.mach_types.specs.Tokens.{Kind, send, send_once}
use Rattle.mach_types.specs.Messages.{to_port, null, dead, ReplyRight, absent, present, Item, plain, rights, Body, Message}
use Rattle.mach_types.specs.Messages.{Mark as MachineMark}
use Rattle.mach_types.specs.Grammar.{Wire, data_item, port_item, WireBody}
use Rattle.message_codec.specs.declared.spans.Span.{Span}
use Rattle.message_codec.specs.Received.{IsLaidOut}
use Rattle.message_codec.specs.Parses.{is_items}
use Rattle.tables_base.specs.declared.message.Mark.{Mark}
use Rattle.tables_base.specs.declared.message.Mark.TheVariants as mark
use Rattle.tables_base.specs.declared.message.Carried.{Carried}

pub record Kept : Type 0 where
  pub bytes : List ℕ
  pub id : ℕ
  pub is_complex : Bool
  -- where the port words of the body stand
  pub spans : List Span
  -- whether it goes by a send-once right
  pub by_once : Bool
  -- the right to answer with
  pub reply : Option Carried
  -- the rights of the body's words, from the front
  pub rights : List Carried
  -- whether it is a notice, whose bytes are made when it is received
  pub told : Bool

abbrev pub span_code : Coded Span
span_code = code_by (ℕ × (Bool × (ℕ × ℕ))) (coded× coded_ℕ (coded× coded_bool (coded× coded_ℕ coded_ℕ)))
    (λ x. (x.at, (x.long, (x.disposition, x.number))))
    (λ x. record { at = x.0; long = x.1.0; disposition = x.1.1.0; number = x.1.1.1 })
    (λ _. refl)

abbrev pub kept_code : Coded Carried → Coded Kept
kept_code one = code_by
    (List ℕ × (ℕ × (Bool × (List Span × (Bool × (Option Carried × (List Carried × Bool)))))))
    (coded× (coded_list coded_ℕ) (coded× coded_ℕ (coded× coded_bool (coded× (coded_list span_code) (coded× coded_bool (coded× (coded_option one) (coded× (coded_list one) coded_bool)))))))
    (λ m. (m.bytes, (m.id, (m.is_complex, (m.spans, (m.by_once, (m.reply, (m.rights, m.told))))))))
    (λ x. record { bytes = x.0; id = x.1.0; is_complex = x.1.1.0; spans = x.1.1.1.0; by_once = x.1.1.1.1.0; reply = x.1.1.1.1.1.0; rights = x.1.1.1.1.1.1.0; told = x.1.1.1.1.1.1.1 })
    (λ _. refl)

-- ---- the message that it is

abbrev pub mark_of : Mark → MachineMark
mark_of (mark.Port p) = to_port p
mark_of mark.Null = null
mark_of mark.Dead = dead

abbrev pub marks_of : List Carried → List MachineMark
marks_of carried = map (λ c. mark_of c.mark) carried

-- the kind of right that goes by the disposition of this number
abbrev pub kind_of : ℕ → Kind
kind_of number = unwrap_or (option_map kind_sent (disposition number)) send

-- the items, with a right for each port word
abbrev pub items_of : List Wire → List Carried → List Item
items_of [] carried = []
items_of (data_item form name size number bytes padding ∷ xs) carried = plain form name size number bytes padding ∷ items_of xs carried
items_of (port_item form number words ∷ xs) carried =
    rights form (kind_of number) (marks_of (take (length words) carried)) ∷ items_of xs (drop (length words) carried)

abbrev pub body_of : WireBody → List Carried → Body
body_of (WireBody.raw bytes) carried = Body.raw bytes
body_of (WireBody.items xs) carried = Body.items (items_of xs carried)

abbrev pub reply_of : Option Carried → ReplyRight
reply_of None = absent
reply_of (Some c) = present (kind_sent c.given) (mark_of c.mark)

abbrev pub message_of : (port : ℕ) → Kept → WireBody → Message
message_of p m written = record {
  destination = p;
  kind = if m.by_once then send_once else send;
  reply = reply_of m.reply;
  id = m.id;
  body = body_of written m.rights;
}

-- the dispositions of all port words, from the front
abbrev pub items_given : List Wire → List ℕ
items_given [] = []
items_given (data_item form name size number bytes padding ∷ xs) = items_given xs
items_given (port_item form number words ∷ xs) = replicate (length words) number ++ items_given xs

abbrev pub body_given : WireBody → List ℕ
body_given (WireBody.raw bytes) = []
body_given (WireBody.items xs) = items_given xs

-- What is kept at the port is this message.
pub record Keeps (port : ℕ) (m : Kept) (message : Message) : Type 0 where
  pub written : WireBody
  pub laid_out : IsLaidOut m.bytes m.spans written
  pub is_complex : m.is_complex ≡ is_items written
  pub given : map (λ c. disposition_number c.given) m.rights ≡ body_given written
  pub few : length m.bytes ≤ 65536
  pub id_fits : m.id < 2 ^ 32
  -- the right to answer with is no receive right
  pub reply_sent : (c : Carried) → m.reply ≡ Some c → c.given ≢ MoveReceive
  pub message_is : message ≡ message_of port m written

-- The message m is what lies there, whether it was sent or is a notice.
abbrev pub IsMessageOf : (queued m : Kept) → Type 0
IsMessageOf queued m = m ≡ record queued { told = m.told }

-- Where a notice lies there, this is its message.
abbrev pub Makes : (queued : Kept) → Option Kept → Type 0
Makes queued made = queued.told ≡ true → (m : Kept) × (made ≡ Some m) × IsMessageOf queued m

-- ---- receive rights that it carries

abbrev pub receive_moved : Disposition → Mark → Option ℕ
receive_moved MoveReceive (mark.Port p) = Some p
receive_moved given m = None

-- the port whose receive right it is, if it is one
abbrev pub receive_of : Carried → Option ℕ
receive_of c = receive_moved c.given c.mark
