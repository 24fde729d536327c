-- What became of each message of a run, and when what is told of it is true.
use Rattle.std.specs.Prelude.{◌≡◌, ℕ, ◌+◌, ◌<◌, ◌≤◌, true, false, List, [], length, slice_get, Option, Some, None}
use Rattle.std.specs.BTreeMap.{get}
use Rattle.std.specs.Ordering.{nat_cmp}
use Rattle.mach_types.specs.declared.calls.Reply.{Reply}
use Rattle.mach_model.specs.State.{State}
use Rattle.mach_laws.specs.Paths.{Stage}
use Rattle.mach_fates.specs.declared.ends.End.{End}
use Rattle.mach_fates.specs.declared.ends.Ends.{Ends}
use Rattle.mach_fates.specs.declared.ends.Noted.{Noted}

-- ---- what becomes of a message

-- A message is named by its port and by its place in the port's log, counted from 0 over all that ever came there.

-- the stage of the entry of this number, from 1
abbrev pub IsStage : (path : List Stage) → (entry : ℕ) → Stage → Type 0
IsStage path entry x = (k : ℕ) × (entry ≡ k + 1) × (slice_get path k ≡ Some x)

-- The stage takes the message from its port.
abbrev pub Removes : Stage → (port place : ℕ) → Type 0
Removes x p place = (x.before.taken p ≡ place) × (x.after.taken p ≡ place + 1)

-- The message is queued at its port, which lives.
abbrev pub IsQueued : State → (port place : ℕ) → Type 0
IsQueued s p place = (s.live_port p ≡ true) × (s.taken p ≤ place) × (place < length (s.log p))

-- The port dies in the stage, and has the message then.
abbrev pub DiesWith : Stage → (port place : ℕ) → Type 0
DiesWith x p place = (x.before.live_port p ≡ true) × (x.after.live_port p ≡ false) × (x.after.taken p ≤ place) × (place < length (x.after.log p))

-- Each message has one of four fates.
abbrev pub IsEnd : (path : List Stage) → State → (port place : ℕ) → End → Type 0
IsEnd path s p place End.Queued = IsQueued s p place
IsEnd path s p place (End.Received entry who) = (x : Stage) × IsStage path entry x × Removes x p place × ((bytes : List ℕ) × (x.reply ≡ Reply.Message bytes))
IsEnd path s p place (End.TooLong entry) = (x : Stage) × IsStage path entry x × Removes x p place × ((n : ℕ) × (x.reply ≡ Reply.TooLarge n))
IsEnd path s p place (End.Died entry) = (x : Stage) × IsStage path entry x × DiesWith x p place

-- Both are the same fate, by the same entry.
abbrev pub AreSame : End → End → Type 0
AreSame End.Queued End.Queued = Unit {0}
AreSame (End.Received m who) (End.Received n other) = m ≡ n
AreSame (End.TooLong m) (End.TooLong n) = m ≡ n
AreSame (End.Died m) (End.Died n) = m ≡ n
AreSame a b = ⊥

-- No message has two fates. One that was taken or died is queued no more.
pub record HaveOneEnd (path : List Stage) (s : State) : Type 0 where
  pub one : (p place : ℕ) (a b : End) → IsEnd path s p place a → IsEnd path s p place b → AreSame a b
  pub removed : (entry : ℕ) (x : Stage) → IsStage path entry x → (p place : ℕ) → Removes x p place → place < s.taken p
  pub dead : (entry : ℕ) (x : Stage) → IsStage path entry x → (p place : ℕ) → DiesWith x p place → (s.live_port p ≡ false) × (place < length (s.log p))

-- ---- what is told of it

-- what is noted of a port: how many of its messages were taken, and what became of each
pub record Known : Type 0 where
  pub taken : ℕ
  pub ends : List End

abbrev pub known : Noted → Known
known noted = record { taken = noted.taken; ends = noted.ends.items }

abbrev pub or_none : Option Noted → Known
or_none None = record { taken = 0; ends = [] }
or_none (Some noted) = known noted

abbrev pub noted_at : Ends → ℕ → Known
noted_at e p = or_none (get nat_cmp e.ports p)

-- what is told of a message
abbrev pub end_at : Ends → (port place : ℕ) → Option End
end_at e p place = slice_get (noted_at e p).ends place

-- What is told of a message is what became of it, and nothing else became of it. Of each message that was ever queued something is told.
pub record Tells (e : Ends) (path : List Stage) (s : State) : Type 0 where
  pub is_so : (p place : ℕ) (end : End) → end_at e p place ≡ Some end → IsEnd path s p place end
  pub ends : HaveOneEnd path s
  pub all : (entry : ℕ) (x : Stage) → IsStage path entry x → (p place : ℕ) → IsQueued x.after p place → (end : End) × (end_at e p place ≡ Some end)
  -- what was taken is counted, and nothing is told of what never came
  pub taken : (p : ℕ) → (noted_at e p).taken ≡ s.taken p
  pub few : (p : ℕ) → length (noted_at e p).ends ≤ length (s.log p)
  pub whole : (p : ℕ) → s.live_port p ≡ true → length (noted_at e p).ends ≡ length (s.log p)
