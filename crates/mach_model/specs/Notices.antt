-- Notices: what the kernel sends by the send-once rights that requests keep, or that are lost unused (IPC Interface, notifications).
use Rattle.std.specs.Prelude.{ℕ, List, [], ◌∷◌, ◌++◌}
use Rattle.mach_types.specs.Tokens.{receive, send_once, Place, in_message, Token, token}
use Rattle.mach_types.specs.Messages.{to_port, absent, short, rights, Body, Message}
use Rattle.mach_types.specs.Grammar.{word}

pub data Notice : Type 0 where
  port_deleted : (name : ℕ) → Notice
  port_sent : (port : ℕ) → Notice
  no_more_senders : (make_send : ℕ) → Notice
  right_unused : Notice
  name_died : (name : ℕ) → Notice

abbrev pub notice_id : Notice → ℕ
notice_id (port_deleted name) = 65
notice_id (port_sent port) = 69
notice_id (no_more_senders n) = 70
notice_id right_unused = 71
notice_id (name_died name) = 72

abbrev pub notice_body : Notice → Body
notice_body (port_deleted name) = Body.raw (word 0x1001200f ++ word name)
notice_body (port_sent port) = Body.items (rights short receive (to_port port ∷ []) ∷ [])
notice_body (no_more_senders n) = Body.raw (word 0x10012002 ++ word n)
notice_body right_unused = Body.raw []
notice_body (name_died name) = Body.raw (word 0x1001200f ++ word name)

-- rights, each with the notice that it is owed, or pays for
abbrev pub Owed : Type 0
Owed = List (Token × Notice)

abbrev pub notice_message : (port : ℕ) → Notice → Message
notice_message port notice = record { destination = port; kind = send_once; reply = absent; id = notice_id notice; body = notice_body notice }

-- A notice that stands in a port's log, at this entry.
pub record Posted : Type 0 where
  pub port : ℕ
  pub entry : ℕ
  pub notice : Notice

abbrev pub carried_by : Notice → Place → List Token
carried_by (port_sent p) place = token receive p place ∷ []
carried_by notice place = []

-- the rights that it brought there
abbrev pub posted_tokens : Posted → List Token
posted_tokens x = token send_once x.port (in_message x.port x.entry) ∷ carried_by x.notice (in_message x.port x.entry)

abbrev pub all_posted_tokens : List Posted → List Token
all_posted_tokens [] = []
all_posted_tokens (x ∷ xs) = posted_tokens x ++ all_posted_tokens xs
