-- How far a step's end is, part by part, and what each part comes to (this project's own).
use Rattle.std.specs.Prelude.{◌≡◌, ℕ, ◌≤◌, ◌+◌, ◌-◌, ◌^◌, ◌↔◌, min, [], length, Some, Contains}
use Rattle.mach_model.specs.State.{State}
use Rattle.mach_model.specs.Notices.{Owed}
use Rattle.mach_model.specs.Settles.{Settles}
use Rattle.mach_model.specs.Turns.{Ending, IsReached, IsDone, AreJudged, Begins, went_in}
use Rattle.mach_model.specs.Work.{IsBounded, deaths}
use Rattle.port.specs.declared.Holder.TheVariants as holder
use Rattle.port.specs.Holding.{IsHeldBy}
use Rattle.port.specs.Ports.{PortView}
use Rattle.copyin_base.specs.Serving.{ShowsMid}
use Rattle.copyin_base.specs.Kept.{Kept}
use Rattle.copyin_base.specs.Shows.{Shows}
use Rattle.copyin_base.specs.Wanted.{room_of}
use Rattle.copyin_base.specs.Worlds.{WorldView, port_at}
use Rattle.destroy.specs.Between.{Between}

-- ---- how far it is

-- The queue of each doomed port is empty.
abbrev pub IsEmptied : WorldView → Type 0
IsEmptied w = (p : ℕ) (v : PortView Kept) → port_at w p ≡ Some v → v.attributes.holder ≡ holder.Doomed → v.queue ≡ []

-- All ports are judged that are found.
pub record IsJudged (mid : State) (e : Ending) (w : WorldView) : Type 0 where
  pub emptied : IsEmptied w
  pub judged : AreJudged mid e
  pub none_lost : w.ports.lost ≡ []

-- Besides, the rights of the messages that were destroyed are lost.
pub record AreLost (mid : State) (e : Ending) (w : WorldView) : Type 0 where
  pub judged : IsJudged mid e w
  pub none_destroyed : w.ports.destroyed ≡ []

-- Besides, ports without senders were told.
pub record AreTold (mid : State) (e : Ending) (w : WorldView) : Type 0 where
  pub lost : AreLost mid e w
  pub none_noted : w.ports.noted ≡ []

-- Besides, the doomed ports were buried.
pub record AreBuried (mid : State) (e : Ending) (w : WorldView) : Type 0 where
  pub told : AreTold mid e w
  pub none_doomed : w.ports.doomed ≡ []

abbrev pub IsStarted : State → Ending → WorldView → Type 0
IsStarted mid e w = IsEmptied w

-- ---- the parts

-- The tables are between parts, and so far.
pub record IsAt (stage : State → Ending → WorldView → Type 0) (w : WorldView) : Type 0 where
  pub now : ℕ
  pub tables : WorldView
  pub old : State
  pub mid : State
  pub owed : Owed
  pub ending : Ending
  pub between : Between now tables old mid owed ending w
  pub stage_is : stage mid ending w

-- It went on from so many turns to so many, and this tells how many more they are: as many as 64 bits hold, where they are more.
abbrev pub IsCount : (before after told : ℕ) → Type 0
IsCount before after told = (many : ℕ) × (after ≡ before + many) × (told ≡ min many (2 ^ 64 - 1))

-- No message slot is made or lost: each that is paid for takes a spare one, and one is spare again once a destroyed message was taken out.
abbrev pub SameSlots : Ending → WorldView → Ending → WorldView → Type 0
SameSlots e w f v = v.ports.spare + length v.ports.destroyed + length f.paid + length e.destroyed ≡ w.ports.spare + length w.ports.destroyed + length e.paid + length f.destroyed

-- Each task has room for as many fresh names as before.
abbrev pub KeepsRooms : WorldView → WorldView → Type 0
KeepsRooms w v = (task : ℕ) → room_of v task ≡ room_of w task

-- From wherever the tables are between parts, and so far, they are so after so many turns.
abbrev pub Continues : (before after : State → Ending → WorldView → Type 0) → WorldView → (turns : ℕ) → WorldView → Type 0
Continues before after w turns v = (now : ℕ) (tables : WorldView) (old mid : State) (owed : Owed) (e : Ending) →
    Between now tables old mid owed e w → before mid e w → (f : Ending) × Between now tables old mid owed f v × IsCount e.turns f.turns turns × SameSlots e w f v × after mid f v

-- A step's own part left the tables so.
pub record IsMidway (w : WorldView) : Type 0 where
  pub now : ℕ
  pub tables : WorldView
  pub old : State
  pub mid : State
  pub owed : Owed
  pub shown : Shows tables old
  pub shows : ShowsMid now tables w mid owed

-- The list of ports that were lost tells whom nobody holds.
abbrev pub TellsLost : WorldView → Type 0
TellsLost w = (port : ℕ) → Contains w.ports.lost port ↔ IsHeldBy w.ports port holder.Nobody

-- The list of doomed ports tells which are doomed.
abbrev pub TellsDoomed : WorldView → Type 0
TellsDoomed w = (port : ℕ) → Contains w.ports.doomed port ↔ IsHeldBy w.ports port holder.Doomed

-- The first part starts there, and no turn was made yet.
abbrev pub Starts : WorldView → WorldView → Type 0
Starts w v = (now : ℕ) (tables : WorldView) (old mid : State) (owed : Owed) → Shows tables old → ShowsMid now tables w mid owed →
    (e : Ending) × Between now tables old mid owed e v × Begins mid owed e × (v.ports.spare + length (went_in e.begun) ≡ w.ports.spare) × (v.ports.destroyed ≡ []) × IsEmptied v

-- A chain of turns with nothing left to do, and how many there are, within the machine's bounds; and the message slots: as many as before, of which each
-- notice that was paid for took one.
pub record EndsIn (old mid : State) (owed : Owed) (new : State) (w : WorldView) (turns : ℕ) (v : WorldView) : Type 0 where
  pub ending : Ending
  pub reached : IsReached old mid owed ending
  pub done : IsDone old mid ending
  pub number : turns ≡ min ending.turns (2 ^ 64 - 1)
  pub bounded : IsBounded mid owed new ending.turns
  pub deaths_are : deaths mid new ≤ ending.turns
  pub slots : v.ports.spare + length ending.paid + length (went_in ending.begun) ≡ w.ports.spare + length ending.destroyed

-- From the tables that a step's own part left, its end leads to tables that show a state in which the machine's step ends.
abbrev pub SettlesIn : WorldView → (turns : ℕ) → WorldView → Type 0
SettlesIn w turns v = (now : ℕ) (tables : WorldView) (old mid : State) (owed : Owed) → Shows tables old → ShowsMid now tables w mid owed →
    (new : State) × Settles now old mid owed new × Shows v new × EndsIn old mid owed new w turns v
