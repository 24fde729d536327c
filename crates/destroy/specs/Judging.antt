-- Ports are judged: what each verb changes of the tables, and what holds while the queue of a doomed port is emptied.
use Rattle.std.specs.Prelude.{◌≡◌, ◌≢◌, ℕ, ◌+◌, ◌-◌, ◌<◌, ◌⊎◌, Bool, true, false, List, [], ◌∷◌, ◌++◌, length, slice_get, Option, Some, None, All, if◌then◌else◌, ◌==◌}
use Rattle.std.specs.FinMap as map
use Rattle.mach_types.specs.declared.rights.Disposition.TheVariants.{MoveReceive}
use Rattle.mach_types.specs.Tokens.{receive, port_destroyed, in_task, in_message, in_request, Token}
use Rattle.mach_model.specs.State.{State}
use Rattle.mach_model.specs.Death.{LiesAt}
use Rattle.mach_model.specs.Notices.{Notice, port_sent, Owed}
use Rattle.mach_model.specs.Turns.{Ending, listed}
use Rattle.mach_model.specs.Work.{number}
use Rattle.port.specs.declared.Holder.{Holder}
use Rattle.port.specs.declared.Holder.TheVariants as holder
use Rattle.port.specs.Holding.{held, IsHeldBy}
use Rattle.port.specs.Ports.{PortView, restarted, with_port}
use Rattle.rights.specs.declared.RightKind.TheVariants.{Receive}
use Rattle.rights.specs.Ledger.{LedgerView, counts_of, made}
use Rattle.copyin_base.specs.declared.Carried.{Carried}
use Rattle.copyin_base.specs.declared.Mark.TheVariants as mark
use Rattle.copyin_base.specs.Kept.{Kept}
use Rattle.copyin_base.specs.Worlds.{WorldView, port_at}
use Rattle.destroy.specs.Between.{Between}
use Rattle.destroy.specs.Stages.{IsCount, SameSlots, IsAt, IsStarted}

-- ---- a port is doomed

-- The port is doomed, and is no longer among those that were lost.
pub record DoomsPort (old : WorldView) (port : ℕ) (new : WorldView) : Type 0 where
  pub v : PortView Kept
  pub there : port_at old port ≡ Some v
  pub rest : new ≡ record old { ports = record (with_port old.ports port (held v holder.Doomed)) { lost = new.ports.lost; doomed = new.ports.doomed } }

-- A task has the port's receive right.
abbrev pub IsWithTask : WorldView → (port : ℕ) → Type 0
IsWithTask w port = (task : ℕ) × IsHeldBy w.ports port (holder.Task task)

-- The port's request to be sent away names this port, whose receive right is with a task.
pub record GoesTo (w : WorldView) (port notify : ℕ) : Type 0 where
  pub asked : map.get w.requests.port_destroyed.map port ≡ Some notify
  pub with_task : IsWithTask w notify

-- ---- receive rights are lost

-- A queue has the port's receive right.
abbrev pub IsQueued : WorldView → (port : ℕ) → Type 0
IsQueued w port = (q : ℕ) × IsHeldBy w.ports port (holder.QueueOf q)

-- Where a queue has its receive right, the port loses it; else all stays.
pub record LosesPort (old : WorldView) (port : ℕ) (new : WorldView) : Type 0 where
  pub loses : (v : PortView Kept) (q : ℕ) → port_at old port ≡ Some v → v.attributes.holder ≡ holder.QueueOf q →
      new ≡ record old { ports = record (with_port old.ports port (held v holder.Nobody)) { lost = old.ports.lost ++ port ∷ [] } }
  pub stays : ¬ (IsQueued old port) → new ≡ old

-- a receive right, as a message carries it
abbrev pub receive_right : ℕ → Carried
receive_right port = record { given = MoveReceive; mark = mark.Port port }

-- The message carries the port's receive right, to answer with or as one of the first of its body.
abbrev pub CarriesAmong : Kept → (number : ℕ) → (port : ℕ) → Type 0
CarriesAmong m number port = (m.reply ≡ Some (receive_right port)) ⊎ ((k : ℕ) × (k < number) × (slice_get m.rights k ≡ Some (receive_right port)))

-- What became of a port: nothing, or its receive right was lost, which a queue had, and which is one of these.
abbrev pub LosesAt : (ports : ℕ → Type 0) → ℕ → (old new : Option (PortView Kept)) → Type 0
LosesAt ports p old new = (new ≡ old) ⊎ ((v : PortView Kept) × (q : ℕ) × (old ≡ Some v) × (v.attributes.holder ≡ holder.QueueOf q) × (new ≡ Some (held v holder.Nobody)) × ports p)

-- Each of these ports whose receive right a queue had loses it; all else stays.
pub record LosesAmong (ports : ℕ → Type 0) (old new : WorldView) : Type 0 where
  pub rest : new ≡ record old { ports = record old.ports { ports = new.ports.ports; ready = new.ports.ready; lost = new.ports.lost } }
  pub each : (p : ℕ) → LosesAt ports p (port_at old p) (port_at new p)
  pub lost : (p : ℕ) → ports p → ¬ (IsQueued new p)

-- ---- a message is destroyed

-- the message that was destroyed last
abbrev pub last_destroyed : WorldView → Option Kept
last_destroyed w = slice_get w.ports.destroyed (length w.ports.destroyed - 1)

-- ---- while ports are judged

-- A right that has paid by now sent a port away that was saved; the receive right of its own port is with a task.
pub record HasSent (mid : State) (saved : List ℕ) (x : Token × Notice) : Type 0 where
  pub port : ℕ
  pub is_saved : listed saved port ≡ true
  pub kept : x.0.place ≡ in_request (port_destroyed port)
  pub tells : x.1 ≡ port_sent port
  pub task : ℕ
  pub with_task : LiesAt mid receive x.0.port (in_task task)

abbrev pub HasLeft : (saved : List ℕ) → Token → Type 0
HasLeft saved x = (x.kind ≡ receive) × (listed saved x.port ≡ true)

pub record IsJudging (mid : State) (e : Ending) : Type 0 where
  pub unburied : e.buried ≡ []
  pub paid : All (HasSent mid e.saved) e.paid
  pub gone : All (HasLeft e.saved) e.gone

-- No port whose receive right lay in a message of this one was sent away.
abbrev pub NoneSaved : State → Ending → (port : ℕ) → Type 0
NoneSaved mid e port = (q k : ℕ) → LiesAt mid receive q (in_message port k) → listed e.saved q ≡ false

-- The queue of a doomed port is emptied; those of the others are empty.
pub record Emptying (now : ℕ) (tables : WorldView) (old mid : State) (owed : Owed) (e : Ending) (w : WorldView) (port : ℕ) : Type 0 where
  pub between : Between now tables old mid owed e w
  pub judging : IsJudging mid e
  pub doomed : listed e.doomed port ≡ true
  pub unsaved : NoneSaved mid e port
  pub others : (q : ℕ) (v : PortView Kept) → port_at w q ≡ Some v → v.attributes.holder ≡ holder.Doomed → q ≢ port → v.queue ≡ []

-- From wherever that is so, it is so after so many turns.
abbrev pub Empties : WorldView → (port turns : ℕ) → WorldView → Type 0
Empties w port turns v = (now : ℕ) (tables : WorldView) (old mid : State) (owed : Owed) (e : Ending) →
    Emptying now tables old mid owed e w port → (f : Ending) × Emptying now tables old mid owed f v port × IsCount e.turns f.turns turns × SameSlots e w f v

-- ---- how much is left

abbrev pub can_be_doomed : Holder → Bool
can_be_doomed (holder.Task task) = true
can_be_doomed (holder.QueueOf q) = true
can_be_doomed holder.Nobody = true
can_be_doomed holder.Doomed = false

abbrev pub is_undoomed : Option (PortView Kept) → Bool
is_undoomed None = false
is_undoomed (Some v) = can_be_doomed v.attributes.holder

-- how many ports may still be doomed, and how many requests to be sent away stand: a port that is judged is one of them less
abbrev pub remaining : WorldView → ℕ
remaining w = number (λ q. is_undoomed (port_at w q)) w.ports.made + number (λ q. map.contains_key w.requests.port_destroyed.map q) w.ports.made

-- how many messages wait at a port
abbrev pub queued_at : Option (PortView Kept) → ℕ
queued_at None = 0
queued_at (Some v) = length v.queue

-- ---- a port that was lost is judged

-- The port has lost its receive right, and is sent away to this one.
pub record CanSend (w : WorldView) (port notify : ℕ) : Type 0 where
  pub at : IsAt IsStarted w
  pub lost : IsHeldBy w.ports port holder.Nobody
  pub goes : GoesTo w port notify

-- It leaves all its sets, and its counts start again.
pub record ResetsPort (old : WorldView) (port : ℕ) (new : WorldView) : Type 0 where
  pub v : PortView Kept
  pub there : port_at old port ≡ Some v
  pub rest : new ≡ record old { ports = with_port old.ports port (restarted v) }

-- The queue has its receive right now.
pub record HoldsPort (old : WorldView) (port queue : ℕ) (new : WorldView) : Type 0 where
  pub v : PortView Kept
  pub there : port_at old port ≡ Some v
  pub rest : new ≡ record old { ports = record (with_port old.ports port (held v (holder.QueueOf queue))) { lost = new.ports.lost; doomed = new.ports.doomed } }

-- the counts with its receive right, where that was taken
abbrev pub brought : LedgerView → (port : ℕ) → LedgerView
brought l port = if (counts_of l port).receive == 0 then made l port Receive 1 else l
