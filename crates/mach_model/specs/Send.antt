-- Sending a message (IPC Interface, `mach_msg` with MACH_SEND_MSG).
use Rattle.std.specs.Prelude.{◌≡◌, ℕ, List, [], ◌∷◌, ◌++◌, length}
use Rattle.mach_types.specs.Numbers.{kind_sent}
use Rattle.mach_types.specs.Tokens.{Place, in_message}
use Rattle.mach_types.specs.Messages.{to_port, Message, Entry}
use Rattle.mach_types.specs.Grammar.{WireBody, Header, Spells}
use Rattle.mach_model.specs.State.{State, at}
use Rattle.mach_model.specs.CopyIn.{CopyRight, CopyReply, CopyBody}

-- where the rights of a message to this port will lie: at its next entry
abbrev pub place_at : State → (port : ℕ) → Place
place_at s p = in_message p (length (s.log p))

-- The rights of the text are copied in, in the order destination, reply, body, and make this message.
pub record Copied (task : ℕ) (header : Header) (written : WireBody) (old : State) (m : Message) (new : State) : Type 0 where
  pub first : State
  pub second : State
  pub destination : CopyRight task (place_at old m.destination) header.remote_kind header.remote old (to_port m.destination) first
  pub kind : m.kind ≡ kind_sent destination.given
  pub reply : CopyReply task (place_at old m.destination) header.local_kind header.local first m.reply second
  pub id : m.id ≡ header.id
  pub body : CopyBody task (place_at old m.destination) written second m.body new

abbrev pub entry : ℕ → Message → Entry
entry now m = record { origin = now; message = m }

-- The bytes' message is appended to its destination's log, with the rights that it carries.
pub record Sends (now task : ℕ) (bytes : List ℕ) (old mid : State) : Type 0 where
  pub header : Header
  pub written : WireBody
  pub spells : Spells bytes header written
  pub m : Message
  pub copied_state : State
  pub copied : Copied task header written old m copied_state
  pub rest : mid ≡ record copied_state { log = at copied_state.log m.destination (copied_state.log m.destination ++ entry now m ∷ []) }
