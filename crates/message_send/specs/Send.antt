-- What sending does to the tables.
use Rattle.std.specs.Prelude.{◌≡◌, ◌≢◌, ℕ, ◌+◌, ◌≤◌, List, All, max}
use Rattle.message_codec.specs.declared.text.Parsed.{Parsed}
use Rattle.message_codec.specs.declared.words.PortWord.{PortWord}
use Rattle.message_codec.specs.Parses.{Parses}
use Rattle.copyin_base.specs.Wanted.{room_of}
use Rattle.copyin_base.specs.Worlds.{WorldView}
use Rattle.copyin.specs.declared.short.ShortPlan.{ShortPlan}
use Rattle.copyin.specs.Planned.{IsPlan, PlanView}
use Rattle.copyin.specs.Short.{IsShortPlan}
use Rattle.copyin.specs.Plans.{Plans, Commits}
use Rattle.copyin.specs.Slots.{slots_for}
use Rattle.transfer.specs.Room.{slotted}

-- The plan sends these bytes, as the tables allow.
pub record PlansText (w : WorldView) (task : ℕ) (bytes : List ℕ) (plan : PlanView) : Type 0 where
  pub parsed : Parsed
  pub text : Parses bytes parsed
  pub is_plan : IsPlan w task parsed text.written bytes plan

-- So does the plan of a short message.
pub record PlansShort (w : WorldView) (task : ℕ) (bytes : List ℕ) (plan : ShortPlan) : Type 0 where
  pub parsed : Parsed
  pub text : Parses bytes parsed
  pub is_plan : IsShortPlan w task parsed text.written bytes plan

-- The bytes are a message that may be sent, and it is, once the slots were made that it wants.
pub record SendsText (old : WorldView) (task : ℕ) (bytes : List ℕ) (new : WorldView) : Type 0 where
  pub parsed : Parsed
  pub text : Parses bytes parsed
  pub more : ℕ
  pub plans : Plans (slotted old more) task parsed text.written
  pub wants : more ≡ slots_for plans.judged.destination plans.judged.reply plans.judged.rights
  pub commits : Commits (slotted old more) task parsed text.written plans.judged bytes new

-- No receive right goes by one of these words.
abbrev pub MovesNoReceive : List PortWord → Type 0
MovesNoReceive words = All (λ (w : PortWord). w.disposition ≢ 16) words

-- A spare slot is used; slots are made only where fewer are spare than that one and those of the send-once rights that no queued message
-- goes by then. There is as much room for names as before.
pub record UsesSlot (old new : WorldView) : Type 0 where
  pub slots : new.ports.spare + 1 ≤ max old.ports.spare (new.ledger.unused + 1)
  pub rooms : (task : ℕ) → room_of new task ≡ room_of old task
