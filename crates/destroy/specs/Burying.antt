-- A doomed port is buried: its requests end, and those on its names, one after the other; then it leaves with all rights for it.
use Rattle.std.specs.Prelude.{◌≡◌, ℕ, ◌+◌, true, List, [], min, max}
use Rattle.std.specs.FinMap as map
use Rattle.mach_types.specs.Tokens.{Request, dead_name}
use Rattle.mach_model.specs.State.{State}
use Rattle.mach_model.specs.Notices.{Owed}
use Rattle.mach_model.specs.Turns.{Ending, is_among, IsRequestOf}
use Rattle.port.specs.declared.Holder.TheVariants as holder
use Rattle.port.specs.Holding.{IsHeldBy}
use Rattle.port.specs.Ports.{PortsView}
use Rattle.request_table.specs.declared.Request.{Request as NameRequest}
use Rattle.request_table.specs.Requests.{IsOn}
use Rattle.rights.specs.Ledger.{left}
use Rattle.copyin_base.specs.Kept.{Kept}
use Rattle.copyin_base.specs.Reading.{read_spaces, live_in}
use Rattle.copyin_base.specs.Worlds.{WorldView}
use Rattle.destroy.specs.Between.{Between}
use Rattle.destroy.specs.Stages.{IsCount, SameSlots, AreTold, IsAt, KeepsRooms}

-- ---- what a burial leaves of the tables

-- the references of the dead name that is left of a name with so many send rights whose request ended: one more, and at least two
abbrev pub dead_count : ℕ → ℕ
dead_count n = min (max n 1) 65534 + 1

-- The port is gone; these are doomed still.
abbrev pub without_port : PortsView Kept → ℕ → (doomed : List ℕ) → PortsView Kept
without_port ports p doomed = record ports { ports = map.remove ports.ports p; lost = []; doomed = doomed; noted = [] }

-- So are the rights for it; names of it are read as dead.
abbrev pub buried : WorldView → ℕ → (doomed : List ℕ) → WorldView
buried w p doomed = record w { spaces = read_spaces (live_in (without_port w.ports p doomed)) w.spaces; ports = without_port w.ports p doomed; ledger = left w.ledger p }

-- ---- what the parts of a burial promise

-- No request stands.
pub record AsksNone (w : WorldView) : Type 0 where
  pub names : w.requests.names.requests ≡ map.empty
  pub no_senders : w.requests.no_senders.map ≡ map.empty
  pub port_destroyed : w.requests.port_destroyed.map ≡ map.empty

-- A port is buried that may be: it is doomed, and the first of those that are left.
pub record IsNextToBury (port : ℕ) (w : WorldView) : Type 0 where
  pub at : IsAt AreTold w
  pub doomed : IsHeldBy w.ports port holder.Doomed

-- From wherever the tables are between turns, requests end, in so many turns; those of the port that these are have then ended.
abbrev pub GoesOn : (port : ℕ) → (these : Request → Type 0) → WorldView → (turns : ℕ) → WorldView → Type 0
GoesOn port these w turns v = (now : ℕ) (tables : WorldView) (old mid : State) (owed : Owed) (e : Ending) → Between now tables old mid owed e w → AreTold mid e w →
    (f : Ending) × Between now tables old mid owed f v × IsCount e.turns f.turns turns × SameSlots e w f v × AreTold mid f v
    × ((r : Request) → is_among e.ended r ≡ true → is_among f.ended r ≡ true) × ((r : Request) → these r → mid.stands r ≡ true → IsRequestOf mid port r → is_among f.ended r ≡ true)

pub record EndsRequests (port : ℕ) (these : Request → Type 0) (old : WorldView) (turns : ℕ) (new : WorldView) : Type 0 where
  pub goes_on : GoesOn port these old turns new
  pub doomed : IsHeldBy new.ports port holder.Doomed
  pub ports : map.len new.ports.ports ≡ map.len old.ports.ports
  pub rooms : KeepsRooms old new

abbrev pub IsAny : Request → Type 0
IsAny r = Unit {0}

abbrev pub IsNone : Request → Type 0
IsNone r = ⊥

abbrev pub IsOnName : Request → Type 0
IsOnName (dead_name task name) = Unit {0}
IsOnName request = ⊥

-- The request is on a name of the port, and so is kept by its own name.
pub record IsDueOn (port : ℕ) (request : NameRequest) (w : WorldView) : Type 0 where
  pub next : IsNextToBury port w
  pub is_on : IsOn w.requests.names port request
