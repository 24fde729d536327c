-- The memory that is made for a right that is handed on: for its name, and for what may come by it.
use Rattle.std.specs.Prelude.{◌≡◌, ℕ, ◌+◌, ◌≤◌, max, MatchBool}
use Rattle.copyin_base.specs.declared.Mark.TheVariants as mark
use Rattle.copyin_base.specs.Changes.{MakesRoom, KeepsPlace, SameButRoom, with_slots}
use Rattle.copyin_base.specs.Wanted.{room_of, KeepsSpares}
use Rattle.copyin_base.specs.Worlds.{WorldView}
use Rattle.copyin.specs.Slots.{once_made_by_mark}
use Rattle.transfer.specs.declared.judge.Handed.{Handed}
use Rattle.transfer.specs.declared.judge.TaskName.{TaskName}
use Rattle.transfer.specs.Transfer.{names_needed}

-- with slots made where fewer are spare than one for each send-once right that no queued message goes by, and so many more
abbrev pub slotted : WorldView → (more : ℕ) → WorldView
slotted w more = with_slots w (max w.ports.spare (w.ledger.unused + more))

-- how many slots more it needs: one where it is a send-once right that is made
abbrev pub slots_needed : Handed → ℕ
slots_needed handed = once_made_by_mark handed.given (mark.Port handed.port)

-- A place is kept for its name, where that is new, and a slot made, where it needs one.
pub record ReadiesInsert (old : WorldView) (to : TaskName) (handed : Handed) (new : WorldView) : Type 0 where
  pub mid : WorldView
  pub placed : MatchBool handed.is_new (KeepsPlace old to.task to.name mid) (mid ≡ old)
  pub slot : new ≡ slotted mid (slots_needed handed)

-- Room is made for its name, where it needs one, and a slot.
pub record ReadiesExtract (old : WorldView) (to : ℕ) (handed : Handed) (new : WorldView) : Type 0 where
  pub mid : WorldView
  pub roomy : MakesRoom old to (names_needed handed) mid
  pub slot : new ≡ slotted mid (slots_needed handed)

-- Nothing but room for a name was made.
pub record IsRoomier (old new : WorldView) : Type 0 where
  pub same : SameButRoom old new
  pub keeps : KeepsSpares old new

-- Room for fresh names grows by one name at most; slots are made only where fewer are spare than there are send-once rights then that no
-- queued message goes by.
pub record MakesSlots (old new : WorldView) : Type 0 where
  pub rooms : (task : ℕ) → room_of new task ≤ max (room_of old task) 1
  pub slots : new.ports.spare ≤ max old.ports.spare new.ledger.unused
