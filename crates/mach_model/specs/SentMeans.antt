-- What the bytes of a sent message mean, read through the sender's names (IPC Interface, `mach_msg`).
use Rattle.std.specs.Prelude.{◌≡◌, ℕ, List, Option, Some, None, if◌then◌else◌, ◌==◌}
use Rattle.std.specs.FinMap as map
use Rattle.mach_types.specs.declared.rights.Disposition.{Disposition}
use Rattle.mach_types.specs.declared.rights.Disposition.TheVariants.{MoveSend, MoveSendOnce, CopySend}
use Rattle.mach_types.specs.Numbers.{disposition, kind_sent, null_word, dead_word}
use Rattle.mach_types.specs.Tokens.{Kind}
use Rattle.mach_types.specs.Messages.{Mark, to_port, null, dead, ReplyRight, absent, present, Message}
use Rattle.mach_model.specs.State.{Target, Names}
use Rattle.mach_types.specs.Grammar.{WireBody, Header, Spells}
use Rattle.mach_types.specs.Bodies.{body_words, body_rights, SameBody, AllZip}

-- a right of this kind is sent by the disposition of this number
abbrev pub IsSent : (number : ℕ) → Kind → Type 0
IsSent number kind = (given : Disposition) × (disposition number ≡ Some given) × (kind ≡ kind_sent given)

-- what a name that stands for this means under a disposition
abbrev pub target_mark : Disposition → Target → Option Mark
target_mark d (Target.port p) = Some (to_port p)
target_mark d (Target.once p) = Some (to_port p)
target_mark MoveSend (Target.dead references) = Some dead
target_mark MoveSendOnce (Target.dead references) = Some dead
target_mark CopySend (Target.dead references) = Some dead
target_mark d (Target.dead references) = None
target_mark d (Target.set s) = None

abbrev pub name_mark : Disposition → Option Target → Option Mark
name_mark d (Some target) = target_mark d target
name_mark d None = None

-- what a right word means
abbrev pub word_mark : Names → Disposition → ℕ → Option Mark
word_mark names d w =
    if w == null_word then Some null else
    if w == dead_word then Some dead else name_mark d (map.get names w)

-- The word under the disposition means a right of this kind for this mark.
pub record WordMeans (names : Names) (number word : ℕ) (kind : Kind) (mark : Mark) : Type 0 where
  pub given : Disposition
  pub is_given : disposition number ≡ Some given
  pub kind_is : kind ≡ kind_sent given
  pub mark_is : word_mark names given word ≡ Some mark

abbrev pub ReplyMeans : Names → (number word : ℕ) → ReplyRight → Type 0
ReplyMeans names number word absent = (number ≡ 0) × (word ≡ null_word)
ReplyMeans names number word (present kind mark) = WordMeans names number word kind mark

-- The bytes, read through the sender's names, mean this message.
pub record SentMeans (names : Names) (bytes : List ℕ) (m : Message) : Type 0 where
  pub header : Header
  pub written : WireBody
  pub spells : Spells bytes header written
  pub destination : WordMeans names header.remote_kind header.remote m.kind (to_port m.destination)
  pub reply : ReplyMeans names header.local_kind header.local m.reply
  pub id : m.id ≡ header.id
  pub body : SameBody IsSent written m.body
  pub rights : AllZip (λ w r. WordMeans names w.0 w.1 r.0 r.1) (body_words written) (body_rights m.body)
