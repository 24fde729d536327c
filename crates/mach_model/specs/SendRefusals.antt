-- Which code refuses a send (IPC Interface, `mach_msg`; the order, and the rule on loops, are this project's own).
use Rattle.std.specs.Prelude.{◌≡◌, ◌≢◌, ℕ, ◌<◌, ◌≤◌, ◌⊎◌, List, [], ◌∷◌, length, drop}
use Rattle.mach_types.specs.declared.codes.MsgReturn.TheVariants.{SendInvalidDest, SendTimedOut, SendInvalidReply, SendInvalidRight, SendNoBuffer}
use Rattle.mach_types.specs.Numbers.{null_word, dead_word, most_rights}
use Rattle.mach_types.specs.Codes.{msg_number}
use Rattle.mach_types.specs.Tokens.{receive, send, Place}
use Rattle.mach_types.specs.Messages.{Mark, to_port, ReplyRight, Message}
use Rattle.mach_types.specs.Grammar.{WireBody, Header, Spells}
use Rattle.mach_types.specs.Bodies.{body_words, OneFails}
use Rattle.mach_types.specs.Guards.{Guards, FirstIs}
use Rattle.mach_types.specs.TextGuards.{word_at, is_bit, ItemsRefuse}
use Rattle.mach_model.specs.State.{State, queue}
use Rattle.mach_model.specs.CopyIn.{CopyRight, CopyWord, CopyReply}
use Rattle.mach_model.specs.Death.{LiesAt, CarriedAt}
use Rattle.mach_model.specs.NameGuards.{IsLegalName, IsDeadName}
use Rattle.mach_model.specs.Send.{place_at, Copied}

-- Following from port to carrying port reaches it.
pub data Reaches (s : State) : ℕ → ℕ → Type 0 where
  here : (p : ℕ) → Reaches s p p
  there : (p q r : ℕ) → CarriedAt s p q → Reaches s q r → Reaches s p r

-- The message at this place carries the receive right of a port that is its destination, or to which the chain from there leads.
abbrev pub ClosesLoop : State → (destination : ℕ) → Place → Type 0
ClosesLoop copied destination place = (p : ℕ) × LiesAt copied receive p place × Reaches copied destination p

-- The message as a whole is judged in the state after copying in.
abbrev pub sent_guards : Message → Place → State → Guards
sent_guards m place copied =
    (ClosesLoop copied m.destination place, msg_number SendInvalidRight)
    ∷ ((m.kind ≡ send) × (copied.limit m.destination ≤ length (queue copied m.destination)), msg_number SendTimedOut)
    ∷ (most_rights < length copied.ledger, msg_number SendNoBuffer)
    ∷ []

-- the word under this disposition can't be copied in
abbrev pub IsBadWord : State → (task number word : ℕ) → Type 0
IsBadWord s task number word = (word ≢ null_word) × (word ≢ dead_word) × ¬ (IsLegalName s task word number)

-- a word of the body that is refused where it stands
abbrev pub IsRefused : (task : ℕ) → State → ℕ × ℕ → Type 0
IsRefused task s w = IsBadWord s task w.0 w.1

-- The destination's right can't be copied in, or is for a dead port.
abbrev pub DestinationRefuses : State → (task : ℕ) → Header → Type 0
DestinationRefuses s task header = ¬ (IsLegalName s task header.remote header.remote_kind) ⊎ IsDeadName s task header.remote

-- The right to answer with can't be copied in, once the destination's was.
pub record ReplyRefuses (s : State) (task : ℕ) (header : Header) : Type 0 where
  pub port : ℕ
  pub first : State
  pub destination : CopyRight task (place_at s port) header.remote_kind header.remote s (to_port port) first
  pub some : header.local_kind ≢ 0
  pub bad : IsBadWord first task header.local_kind header.local

-- A word of the body is refused, once destination, reply and the words before it were copied in.
pub record BodyRefuses (s : State) (task : ℕ) (header : Header) (written : WireBody) : Type 0 where
  pub port : ℕ
  pub first : State
  pub destination : CopyRight task (place_at s port) header.remote_kind header.remote s (to_port port) first
  pub answer : ReplyRight
  pub second : State
  pub reply : CopyReply task (place_at s port) header.local_kind header.local first answer second
  pub refused : OneFails (IsRefused task) (λ old w new. (mark : Mark) × CopyWord task (place_at s port) w.0 w.1 old mark new)
      second (body_words written)

-- All can be copied in, and the message as a whole is refused with this code.
pub record WholeRefuses (s : State) (task : ℕ) (header : Header) (written : WireBody) (code : ℕ) : Type 0 where
  pub m : Message
  pub copied_state : State
  pub copied : Copied task header written s m copied_state
  pub refused : FirstIs (sent_guards m (place_at s m.destination) copied_state) code

-- Words are judged in the order destination, reply, body, each in what the one before left; then the message as a whole.
abbrev pub RightsRefuse : State → (task : ℕ) → Header → WireBody → (code : ℕ) → Type 0
RightsRefuse s task header written code =
    DestinationRefuses s task header × (code ≡ msg_number SendInvalidDest)
    ⊎ ReplyRefuses s task header × (code ≡ msg_number SendInvalidReply)
    ⊎ BodyRefuses s task header written × (code ≡ msg_number SendInvalidRight)
    ⊎ WholeRefuses s task header written code

-- The items of the text are judged first. Want of memory may be answered as soon as the text is a message.
abbrev pub SendRefuses : State → (task : ℕ) → List ℕ → (code : ℕ) → Type 0
SendRefuses s task bytes code =
    is_bit (word_at bytes 0) 31 × ItemsRefuse (drop 24 bytes) code
    ⊎ ((header : Header) × (written : WireBody) × Spells bytes header written
    × ((code ≡ msg_number SendNoBuffer) ⊎ RightsRefuse s task header written code))
