-- A task ends: what is lost of each of its names, which stay where they are until all of them go at once.
use Rattle.std.specs.Prelude.{◌≡◌, ℕ, ◌<◌, ◌≤◌, Some, None}
use Rattle.std.specs.FinMap as map
use Rattle.mach_model.specs.State.{State}
use Rattle.mach_model.specs.Notices.{Owed}
use Rattle.mach_model.specs.Tasks.{EndsTask}
use Rattle.name_space.specs.declared.Entry.{Entry}
use Rattle.name_space.specs.declared.Entry.TheVariants as entry
use Rattle.name_space.specs.Names.{Names}
use Rattle.rights.specs.Ledger.{IsEntered, counts_of}
use Rattle.copyin_base.specs.declared.Notice.TheVariants as notice
use Rattle.copyin_base.specs.Changes.{NotesSenders}
use Rattle.copyin_base.specs.Posted.{with_posted, IsLeft}
use Rattle.request_table.specs.Tables.{request_left}
use Rattle.copyin_base.specs.Shows.{Agrees, HoldersAgree, CarriersAgree, SlotsSuffice, RequestsStand, Shows}
use Rattle.copyin_base.specs.Worlds.{WorldView}
use Rattle.copyin_base.specs.Losing.{CanLose, CanPost, DropsSet, LosesPort, LosesSends, Posts}

-- ---- a name

-- The least name from this one on, and what is kept there.
pub record IsNextEntry (names : Names) (start name : ℕ) (entry : Entry) : Type 0 where
  pub from : start ≤ name
  pub found : map.get names name ≡ Some entry
  pub least : (n : ℕ) → start ≤ n → n < name → map.get names n ≡ None

-- ---- what stands there is lost

-- A send-once right goes that no queued message went by, and its port is told.
pub record LosesOnce (old : WorldView) (port : ℕ) (new : WorldView) : Type 0 where
  pub posts : Posts old port notice.SendOnce new
  pub slots : SlotsSuffice new

-- What the entry stands for is lost, the send rights first.
abbrev pub LosesEntry : WorldView → Entry → WorldView → Type 0
LosesEntry old (entry.Receive p) new = LosesPort old p new
LosesEntry old (entry.Send p n) new = LosesSends old p n new
LosesEntry old (entry.ReceiveAndSend p n) new = (mid : WorldView) × LosesSends old p n mid × LosesPort mid p new
LosesEntry old (entry.SendOnce p) new = LosesOnce old p new
LosesEntry old (entry.DeadName n) new = new ≡ old
LosesEntry old (entry.Set set) new = DropsSet old set new

-- The request on the name ends, if there is one, and what stands there is lost.
abbrev pub LosesName : WorldView → (task name : ℕ) → Entry → WorldView → Type 0
LosesName old task name e new = LosesEntry (record old { requests = request_left old.requests task name }) e new

-- The rights that the entry stands for are counted, and a slot is spare for the notice.
abbrev pub CanLoseEntry : WorldView → Entry → Type 0
CanLoseEntry w (entry.Receive p) = CanLose w p
CanLoseEntry w (entry.Send p n) = IsEntered w.ledger p × (n ≤ (counts_of w.ledger p).send)
CanLoseEntry w (entry.ReceiveAndSend p n) = IsEntered w.ledger p × (n ≤ (counts_of w.ledger p).send) × CanLose w p
CanLoseEntry w (entry.SendOnce p) = CanPost w p
CanLoseEntry w (entry.DeadName n) = Unit {0}
CanLoseEntry w (entry.Set set) = Unit {0}

-- ---- the whole

-- The task is gone with all that it had; the notices that are owed stand in the queues.
pub record HasEnded (now : ℕ) (old : WorldView) (task : ℕ) (s : State) (new : WorldView) : Type 0 where
  pub mid : State
  pub owed : Owed
  pub ends : EndsTask task s mid owed
  pub agrees : Agrees new (with_posted now mid owed)
  pub holders : HoldersAgree new
  pub carriers : CarriersAgree new
  pub slots : SlotsSuffice new
  pub requested : RequestsStand new
  pub notes : NotesSenders old new
  pub left : IsLeft new mid

pub record Ends (old : WorldView) (task : ℕ) (new : WorldView) : Type 0 where
  pub ends : (now : ℕ) (s : State) → Shows old s → HasEnded now old task s new
