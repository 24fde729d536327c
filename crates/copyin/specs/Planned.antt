-- What a plan holds.
use Rattle.std.specs.Prelude.{◌≡◌, ℕ, ◌+◌, ◌≤◌, List, Some, All}
use Rattle.std.specs.Option.{option_to_list}
use Rattle.std.specs.FinMap as map
use Rattle.mach_types.specs.Bodies.{Through}
use Rattle.mach_types.specs.Grammar.{WireBody}
use Rattle.mach_types.specs.Numbers.{most_rights}
use Rattle.message_codec.specs.declared.text.Parsed.{Parsed}
use Rattle.message_codec.specs.declared.words.PortWord.{PortWord}
use Rattle.message_codec.specs.Words.{body_words}
use Rattle.name_space.specs.declared.Entry.{Entry}
use Rattle.rights.specs.Ledger.{IsEntered}
use Rattle.name_space.specs.Names.{Names, SpaceView}
use Rattle.port.specs.Ports.{IsLive}
use Rattle.copyin.specs.declared.judge.Plan.{Plan}
use Rattle.copyin_base.specs.declared.Carried.{Carried}
use Rattle.copyin_base.specs.declared.Mark.TheVariants as mark
use Rattle.dispositions.specs.declared.Copied.{Copied}
use Rattle.dispositions.specs.Copies.{copied_from}
use Rattle.copyin.specs.Judging.{CopiesWord, made_by, made_by_all}
use Rattle.copyin.specs.Plans.{destination_word, reply_words, Plans, message_for}
use Rattle.copyin.specs.PortWords.{PortWords, listed}
use Rattle.copyin_base.specs.Kept.{Kept, receive_of}
use Rattle.copyin_base.specs.Stands.{AreTied}
use Rattle.copyin_base.specs.Worlds.{WorldView, space_at}

-- These are the port words of the text.
pub record AreWords (parsed : Parsed) (written : WireBody) (words : PortWords) : Type 0 where
  pub destination : words.destination ≡ destination_word parsed
  pub reply : option_to_list words.reply ≡ reply_words parsed
  pub body : words.body ≡ body_words written

-- what is done by a plan
pub record PlanView : Type 0 where
  pub task : ℕ
  pub words : PortWords
  pub destination : Carried
  pub port : ℕ
  pub message : Kept

abbrev pub plan_view : Plan → PlanView
plan_view plan = record { task = plan.task; words = listed plan.words; destination = plan.destination; port = plan.port; message = plan.message }

-- The plan sends this text, as the tables allow.
pub record IsPlan (w : WorldView) (task : ℕ) (parsed : Parsed) (written : WireBody) (bytes : List ℕ) (plan : PlanView) : Type 0 where
  pub plans : Plans w task parsed written
  pub task_is : plan.task ≡ task
  pub words : AreWords parsed written plan.words
  pub destination : plan.destination ≡ plans.judged.destination
  pub port : plan.port ≡ plans.judged.port
  pub message : plan.message ≡ message_for bytes plans.judged

-- ---- words that are carried out one after the other

-- Each right can be copied in, in what the ones before left.
abbrev pub CopiesAll : Names → List PortWord → List Carried → Names → Type 0
CopiesAll = Through CopiesWord

-- The words can be carried out in these tables, and there is room for the rights that they make.
pub record CanGo (w : WorldView) (task : ℕ) (ws : List PortWord) (cs : List Carried) : Type 0 where
  pub space : SpaceView
  pub there : space_at w task ≡ Some space
  pub last : Names
  pub copies : CopiesAll space.names ws cs last
  pub few : w.ledger.total + made_by_all cs ≤ most_rights
  pub tied : AreTied space.names w.ports w.ledger

-- Each port is there whose receive right is among these.
abbrev pub CanHoldAll : WorldView → List Carried → Type 0
CanHoldAll w cs = All (λ c. (port : ℕ) → receive_of c ≡ Some port → IsLive w.ports port) cs

-- The right can be copied in from what stands under the name.
pub record CanCopy (w : WorldView) (task name : ℕ) (c : Carried) : Type 0 where
  pub space : SpaceView
  pub there : space_at w task ≡ Some space
  pub entry : Entry
  pub found : map.get space.names name ≡ Some entry
  pub copied : Copied
  pub is : copied_from c.given entry ≡ Some copied
  pub mark_is : c.mark ≡ copied.mark
  pub entered : (p : ℕ) → c.mark ≡ mark.Port p → IsEntered w.ledger p
  pub few : w.ledger.total + made_by c ≤ most_rights
