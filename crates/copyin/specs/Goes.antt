-- How the words of a message are judged in a task's names. No public clause cites this module.
use Rattle.std.specs.Prelude.{◌≡◌, ℕ, ◌+◌, ◌<◌, ◌≤◌, ◌⊎◌, false, List, [], ◌∷◌, length, Option, IsSome, IfSome, All}
use Rattle.std.specs.Option.{option_to_list}
use Rattle.mach_types.specs.Numbers.{disposition, kind_sent, most_rights}
use Rattle.mach_types.specs.declared.codes.MsgReturn.{MsgReturn}
use Rattle.mach_types.specs.declared.codes.MsgReturn.TheVariants.{SendInvalidDest, SendTimedOut, SendInvalidReply, SendInvalidRight, SendNoBuffer}
use Rattle.mach_types.specs.Tokens.{send_once, same_kind}
use Rattle.message_codec.specs.declared.spans.Span.{Span}
use Rattle.message_codec.specs.declared.text.Parsed.{Parsed}
use Rattle.message_codec.specs.declared.words.PortWord.{PortWord}
use Rattle.message_codec.specs.Words.{inline_words}
use Rattle.name_space.specs.Names.{Names}
use Rattle.copyin.specs.declared.judge.Destination.{Destination}
use Rattle.copyin.specs.declared.judge.Head.{Head}
use Rattle.copyin.specs.declared.judge.Rights.{Rights}
use Rattle.copyin_base.specs.declared.Carried.{Carried}
use Rattle.copyin_base.specs.declared.Mark.TheVariants as mark
use Rattle.copyin_base.specs.Kept.{Kept}
use Rattle.copyin_base.specs.Worlds.{WorldView, put}
use Rattle.copyin.specs.Judging.{CopiesName, CopiesReply, CopiesBody, IsBad, BodyIsBad, made_by, made_by_reply, made_by_all}
use Rattle.copyin.specs.Loops.{MakesLoop}
use Rattle.copyin.specs.Plans.{HasSlot, HasNoSlot, destination_word, reply_words}
use Rattle.copyin.specs.PortWords.{PortWords}

-- Each word has a disposition.
pub record AreGiven (words : PortWords) : Type 0 where
  pub destination : IsSome (disposition words.destination.disposition)
  pub reply : IfSome words.reply (λ w. IsSome (disposition w.disposition))
  pub body : All (λ w. IsSome (disposition w.disposition)) words.body

-- The text of which this was read says so.
pub record IsHead (parsed : Parsed) (head : Head) : Type 0 where
  pub destination : head.destination ≡ destination_word parsed
  pub reply : option_to_list head.reply ≡ reply_words parsed
  pub id : head.id ≡ parsed.id
  pub is_complex : head.is_complex ≡ parsed.is_complex

abbrev pub RepliesBadly : Names → List PortWord → Type 0
RepliesBadly names ws = (w : PortWord) × (ws ≡ w ∷ []) × IsBad names w

abbrev pub LeadsNowhere : Names → PortWord → Type 0
LeadsNowhere names w = (p : ℕ) (c : Carried) (after : Names) → c.mark ≡ mark.Port p → ¬ (CopiesName names w c after)

-- The destination's right goes to this port from what stands under the word's name, and this is left there.
pub record StartsAt (names : Names) (w : PortWord) (d : Destination) : Type 0 where
  pub to_port : d.carried.mark ≡ mark.Port d.port
  pub copies : CopiesName names w d.carried (put names w.name d.left)

-- The rights beside the destination's go.
pub record OthersGo (first : Names) (words : PortWords) (given : Option Carried) (rights : List Carried) : Type 0 where
  pub second : Names
  pub reply : CopiesReply first (option_to_list words.reply) given second
  pub last : Names
  pub body : CopiesBody second words.body rights last

-- One of them can't.
abbrev pub OthersCannot : Names → PortWords → MsgReturn → Type 0
OthersCannot first words code =
    (code ≡ SendInvalidReply) × RepliesBadly first (option_to_list words.reply)
    ⊎ (code ≡ SendInvalidRight) × ((reply : Option Carried) × (second : Names)
    × CopiesReply first (option_to_list words.reply) reply second × BodyIsBad second words.body)

-- All rights go, the destination's to a port.
pub record GoAll (names : Names) (words : PortWords) (rights : Rights) (carried : List Carried) : Type 0 where
  pub to_port : rights.destination.mark ≡ mark.Port rights.port
  pub first : Names
  pub destination : CopiesName names words.destination rights.destination first
  pub others : OthersGo first words rights.reply carried

-- The destination may go, and leaves these names.
pub record Starts (names : Names) (words : PortWords) (first : Names) : Type 0 where
  pub port : ℕ
  pub destination : Carried
  pub to_port : destination.mark ≡ mark.Port port
  pub copies : CopiesName names words.destination destination first

abbrev pub CannotGo : Names → PortWords → MsgReturn → Type 0
CannotGo names words code =
    (code ≡ SendInvalidDest) × LeadsNowhere names words.destination
    ⊎ (code ≡ SendInvalidReply) × ((first : Names) × Starts names words first × RepliesBadly first (option_to_list words.reply))
    ⊎ (code ≡ SendInvalidRight) × ((first : Names) × Starts names words first × (reply : Option Carried) × (second : Names)
    × CopiesReply first (option_to_list words.reply) reply second × BodyIsBad second words.body)

abbrev pub made_by_rights : Rights → List Carried → ℕ
made_by_rights rights carried = made_by rights.destination + made_by_reply rights.reply + made_by_all carried

-- All rights go, and the message with them: it closes no loop, there is a slot for it, and there may be as many rights as it makes.
abbrev pub MayGo : WorldView → Rights → List Carried → Type 0
MayGo w rights carried =
    ¬ (MakesLoop w.ports rights.port carried) × HasSlot w rights.port rights.destination × (w.ledger.total + made_by_rights rights carried ≤ most_rights)

abbrev pub MayNotGo : WorldView → Rights → List Carried → MsgReturn → Type 0
MayNotGo w rights carried code =
    MakesLoop w.ports rights.port carried × (code ≡ SendInvalidRight)
    ⊎ (inline_words < length carried) × (code ≡ SendNoBuffer)
    ⊎ ¬ (MakesLoop w.ports rights.port carried) × HasNoSlot w rights.port rights.destination × (code ≡ SendTimedOut)
    ⊎ ¬ (MakesLoop w.ports rights.port carried) × HasSlot w rights.port rights.destination × (most_rights < w.ledger.total + made_by_rights rights carried) × (code ≡ SendNoBuffer)

-- the message that is queued of this text, with these rights
abbrev pub message_with : Head → (bytes : List ℕ) → Rights → List Span → List Carried → Kept
message_with head bytes rights spans carried = record {
  bytes = bytes;
  id = head.id;
  is_complex = head.is_complex;
  spans = spans;
  by_once = same_kind (kind_sent rights.destination.given) send_once;
  reply = rights.reply;
  rights = carried;
  told = false;
}
