-- What is decided of a message before anything changes, and what is then done.
use Rattle.std.specs.Prelude.{◌≡◌, ℕ, ◌+◌, ◌-◌, ◌<◌, ◌≤◌, ◌⊎◌, false, List, [], ◌∷◌, ◌++◌, length, Option, Some, None, if◌then◌else◌, ◌==◌, MatchBool}
use Rattle.mach_types.specs.declared.codes.MsgReturn.TheVariants.{SendInvalidDest, SendTimedOut, SendInvalidReply, SendInvalidRight, SendNoBuffer}
use Rattle.mach_types.specs.Numbers.{kind_sent, most_rights, null_word, dead_word}
use Rattle.mach_types.specs.Codes.{msg_number}
use Rattle.mach_types.specs.Tokens.{send, send_once, same_kind}
use Rattle.mach_types.specs.Bodies.{Through}
use Rattle.mach_types.specs.Grammar.{WireBody}
use Rattle.message_codec.specs.declared.text.Parsed.{Parsed}
use Rattle.message_codec.specs.declared.words.PortWord.{PortWord}
use Rattle.message_codec.specs.Words.{body_words, inline_words}
use Rattle.name_space.specs.Names.{Names, SpaceView}
use Rattle.port.specs.Ports.{PortView, with_port}
use Rattle.copyin_base.specs.declared.Carried.{Carried}
use Rattle.copyin_base.specs.declared.Mark.TheVariants as mark
use Rattle.copyin_base.specs.Kept.{Kept}
use Rattle.copyin_base.specs.Worlds.{WorldView, port_at, space_at}
use Rattle.copyin.specs.Copies.{CopiesRight, ledger_queued}
use Rattle.copyin.specs.Loops.{MakesLoop, HoldsRights}
use Rattle.copyin.specs.Judging.{CopiesName, CopiesReply, CopiesBody, IsBad, BodyIsBad, made_by, made_by_reply, made_by_all}

abbrev pub destination_word : Parsed → PortWord
destination_word parsed = record { disposition = parsed.remote_kind; name = parsed.remote }

abbrev pub reply_words : Parsed → List PortWord
reply_words parsed = if parsed.local_kind == 0 then [] else record { disposition = parsed.local_kind; name = parsed.local } ∷ []

-- The rights of the text can be copied in one after the other.
pub record Judged (w : WorldView) (task : ℕ) (parsed : Parsed) (written : WireBody) : Type 0 where
  pub space : SpaceView
  pub there : space_at w task ≡ Some space
  pub destination : Carried
  pub port : ℕ
  pub to_port : destination.mark ≡ mark.Port port
  pub first : Names
  pub copies_destination : CopiesName space.names (destination_word parsed) destination first
  pub reply : Option Carried
  pub second : Names
  pub copies_reply : CopiesReply first (reply_words parsed) reply second
  pub rights : List Carried
  pub last : Names
  pub copies_body : CopiesBody second (body_words written) rights last

abbrev pub made_in : {w : WorldView} {task : ℕ} {parsed : Parsed} {written : WireBody} → Judged w task parsed written → ℕ
made_in j = made_by j.destination + made_by_reply j.reply + made_by_all j.rights

-- There is a slot in the queue: for a message by a send-once right always.
abbrev pub HasSlot : (w : WorldView) → (port : ℕ) → Carried → Type 0
HasSlot w p c = (kind_sent c.given ≡ send_once) ⊎ ((v : PortView Kept) × (port_at w p ≡ Some v) × (length v.queue < v.attributes.limit))

abbrev pub HasNoSlot : (w : WorldView) → (port : ℕ) → Carried → Type 0
HasNoSlot w p c = (kind_sent c.given ≡ send) × ((v : PortView Kept) × (port_at w p ≡ Some v) × (v.attributes.limit ≤ length v.queue))

-- what is queued
abbrev pub message_for : {w : WorldView} {task : ℕ} {parsed : Parsed} {written : WireBody} → (bytes : List ℕ) → Judged w task parsed written → Kept
message_for {w} {task} {parsed} bytes j = record {
  bytes = bytes;
  id = parsed.id;
  is_complex = parsed.is_complex;
  spans = parsed.spans;
  by_once = same_kind (kind_sent j.destination.given) send_once;
  reply = j.reply;
  rights = j.rights;
  told = false;
}

-- The message may be sent so: it closes no loop, there is a slot for it, and there may be as many rights as it makes.
pub record Plans (w : WorldView) (task : ℕ) (parsed : Parsed) (written : WireBody) : Type 0 where
  pub judged : Judged w task parsed written
  pub no_loop : ¬ (MakesLoop w.ports judged.port judged.rights)
  pub slot : HasSlot w judged.port judged.destination
  pub few : w.ledger.total + made_in judged ≤ most_rights

-- Memory may be wanted: the message may be sent, or has more words than are kept without an allocation.
abbrev pub MayWantMemory : WorldView → (task : ℕ) → Parsed → WireBody → Type 0
MayWantMemory w task parsed written = Plans w task parsed written ⊎ (inline_words < length (body_words written))

-- No right for a port goes by the word of the destination.
pub record BadDestination (w : WorldView) (task : ℕ) (parsed : Parsed) : Type 0 where
  pub space : SpaceView
  pub there : space_at w task ≡ Some space
  pub nowhere : (p : ℕ) (c : Carried) (after : Names) → c.mark ≡ mark.Port p → ¬ (CopiesName space.names (destination_word parsed) c after)

-- A right for a port goes by it, and leaves these names.
pub record Begins (w : WorldView) (task : ℕ) (parsed : Parsed) (first : Names) : Type 0 where
  pub space : SpaceView
  pub there : space_at w task ≡ Some space
  pub port : ℕ
  pub destination : Carried
  pub to_port : destination.mark ≡ mark.Port port
  pub copies : CopiesName space.names (destination_word parsed) destination first

-- Then the word of the reply is bad.
pub record BadReply (w : WorldView) (task : ℕ) (parsed : Parsed) : Type 0 where
  pub first : Names
  pub begins : Begins w task parsed first
  pub word : PortWord
  pub is : reply_words parsed ≡ word ∷ []
  pub bad : IsBad first word

-- Then the reply's right goes, and a word of the body is bad.
pub record BadBody (w : WorldView) (task : ℕ) (parsed : Parsed) (written : WireBody) : Type 0 where
  pub first : Names
  pub begins : Begins w task parsed first
  pub reply : Option Carried
  pub second : Names
  pub copies : CopiesReply first (reply_words parsed) reply second
  pub bad : BodyIsBad second (body_words written)

-- All rights can go, but the message would close a loop; or not, but the queue is full; or not, but there would be too many rights.
abbrev pub IsRefusedWhole : WorldView → (task : ℕ) → Parsed → WireBody → (code : ℕ) → Type 0
IsRefusedWhole w task parsed written code =
    (j : Judged w task parsed written)
    × (MakesLoop w.ports j.port j.rights × (code ≡ msg_number SendInvalidRight)
    ⊎ ¬ (MakesLoop w.ports j.port j.rights) × HasNoSlot w j.port j.destination × (code ≡ msg_number SendTimedOut)
    ⊎ ¬ (MakesLoop w.ports j.port j.rights) × HasSlot w j.port j.destination × (most_rights < w.ledger.total + made_in j) × (code ≡ msg_number SendNoBuffer))

-- It is refused with this code.
abbrev pub CannotPlan : WorldView → (task : ℕ) → Parsed → WireBody → (code : ℕ) → Type 0
CannotPlan w task parsed written code =
    BadDestination w task parsed × (code ≡ msg_number SendInvalidDest)
    ⊎ BadReply w task parsed × (code ≡ msg_number SendInvalidReply)
    ⊎ BadBody w task parsed written × (code ≡ msg_number SendInvalidRight)
    ⊎ IsRefusedWhole w task parsed written code
    ⊎ MayWantMemory w task parsed written × (code ≡ msg_number SendNoBuffer)

-- ---- what is done

-- A word changes the tables as its right goes; two words change nothing.
abbrev pub ChangesWord : WorldView → (task : ℕ) → PortWord → Carried → WorldView → Type 0
ChangesWord old task w c new =
    MatchBool (w.name == null_word) (new ≡ old)
    (MatchBool (w.name == dead_word) (new ≡ old)
    (CopiesRight old task c.given w.name c.mark new))

abbrev pub ChangesWords : WorldView → (task : ℕ) → List PortWord → List Carried → WorldView → Type 0
ChangesWords old task = Through (λ old w c new. ChangesWord old task w c new) old

abbrev pub option_list : Option Carried → List Carried
option_list None = []
option_list (Some c) = c ∷ []

-- The rights go; the port's queue holds those that are receive rights; and the message stands at its end, in a slot that was spare.
pub record Commits (old : WorldView) (task : ℕ) (parsed : Parsed) (written : WireBody) (j : Judged old task parsed written) (bytes : List ℕ) (new : WorldView) : Type 0 where
  pub mid : WorldView
  pub changes : ChangesWords old task (destination_word parsed ∷ reply_words parsed ++ body_words written) (j.destination ∷ option_list j.reply ++ j.rights) mid
  pub held : WorldView
  pub holds : HoldsRights mid j.port j.rights held
  pub v : PortView Kept
  pub there : port_at held j.port ≡ Some v
  pub rest : new ≡ record held {
    ports = record (with_port held.ports j.port (record v { queue = v.queue ++ message_for bytes j ∷ [] })) { spare = old.ports.spare - 1 };
    ledger = ledger_queued (same_kind (kind_sent j.destination.given) send_once) j.port held.ledger;
  }
