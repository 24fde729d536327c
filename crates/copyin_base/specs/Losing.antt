-- Rights are lost, and notices are posted: what that asks of the tables, and what it changes.
use Rattle.std.specs.Prelude.{◌≡◌, ℕ, ◌-◌, ◌<◌, ◌++◌, ◌∷◌, [], Some}
use Rattle.port.specs.declared.Holder.TheVariants.{Nobody}
use Rattle.port.specs.Holding.{CanHold, held}
use Rattle.port.specs.Ports.{DestroysFirst, PortView, IsLive, with_port}
use Rattle.port_set.specs.Sets.{removed, IsDisbanded}
use Rattle.rights.specs.declared.RightKind.TheVariants.{Receive, Send}
use Rattle.rights.specs.Ledger.{IsEntered, counts_of, shifted, taken}
use Rattle.tables_base.specs.declared.notice.Notice.{Notice}
use Rattle.copyin_base.specs.Changes.{NotesSenderless}
use Rattle.tables_base.specs.Kept.{Kept}
use Rattle.tables_base.specs.Queued.{notice_kept}
use Rattle.copyin_base.specs.Shows.{SlotsSuffice}
use Rattle.copyin_base.specs.Worlds.{WorldView, port_at}

-- ---- a notice is posted

-- The port is there and has a send-once right that no queued message goes by, and for each such right a slot is spare.
pub record CanPost (w : WorldView) (port : ℕ) : Type 0 where
  pub live : IsLive w.ports port
  pub paid : 0 < (counts_of w.ledger port).send_once
  pub slots : SlotsSuffice w

-- The notice goes to the end of the port's queue, in a spare slot, and one of those rights is now one that a queued message goes by.
pub record Posts (old : WorldView) (port : ℕ) (notice : Notice) (new : WorldView) : Type 0 where
  pub v : PortView Kept
  pub there : port_at old port ≡ Some v
  pub counted : 0 < old.ledger.unused
  pub spare : 0 < old.ports.spare
  pub rest : new ≡ record old {
    ports = record (with_port old.ports port (record v { queue = v.queue ++ notice_kept notice ∷ [] })) { spare = old.ports.spare - 1 };
    ledger = shifted old.ledger port;
  }

-- ---- a right is lost

-- The port is there, and a task or a queue holds its receive right, which is counted.
pub record CanLose (w : WorldView) (port : ℕ) : Type 0 where
  pub v : PortView Kept
  pub there : port_at w port ≡ Some v
  pub held : CanHold v.attributes.holder
  pub entered : IsEntered w.ledger port
  pub counted : 0 < (counts_of w.ledger port).receive

-- Nobody holds it now, and the port is the last of those that were lost.
pub record LosesPort (old : WorldView) (port : ℕ) (new : WorldView) : Type 0 where
  pub v : PortView Kept
  pub there : port_at old port ≡ Some v
  pub rest : new ≡ record old {
    ports = record (with_port old.ports port (held v Nobody)) { lost = old.ports.lost ++ port ∷ [] };
    ledger = taken old.ledger port Receive 1;
  }

-- So many send rights go, and the port is noted if it has none now.
abbrev pub LosesSends : WorldView → (port number : ℕ) → WorldView → Type 0
LosesSends old port number new = NotesSenderless (record old { ledger = taken old.ledger port Send number }) port new

-- A set goes, and its members are in their other sets alone.
pub record DropsSet (old : WorldView) (set : ℕ) (new : WorldView) : Type 0 where
  pub disbanded : IsDisbanded old.ports new.ports set
  pub rest : new ≡ record old { ports = new.ports; sets = removed old.sets set }

-- ---- a message is destroyed

-- The first message of the port's queue is now the last of the destroyed ones.
pub record DestroysNext (old : WorldView) (port : ℕ) (new : WorldView) : Type 0 where
  pub first : DestroysFirst old.ports port new.ports
  pub rest : new ≡ record old { ports = new.ports }
