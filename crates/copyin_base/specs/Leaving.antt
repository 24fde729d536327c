-- Requests end, and ports leave: what that changes of the tables.
use Rattle.std.specs.Prelude.{◌≡◌, ℕ, ◌∷◌}
use Rattle.std.specs.FinMap as map
use Rattle.member_lists.specs.Lists.{without}
use Rattle.port.specs.Ports.{PortsView}
use Rattle.request_table.specs.declared.Request.{Request}
use Rattle.request_table.specs.Requests.{without_first_went, without_request}
use Rattle.rights.specs.Ledger.{left}
use Rattle.tables_base.specs.Kept.{Kept}
use Rattle.copyin_base.specs.Reading.{live_in, read_spaces}
use Rattle.copyin_base.specs.Worlds.{WorldView}

-- ---- requests

-- the tables where none is to be told that the port has no senders
abbrev pub without_no_senders : WorldView → (port : ℕ) → WorldView
without_no_senders w port = record w { requests = record w.requests { no_senders = record w.requests.no_senders { map = map.remove w.requests.no_senders.map port } } }

-- the tables where none is to be sent the port's receive right
abbrev pub without_port_destroyed : WorldView → (port : ℕ) → WorldView
without_port_destroyed w port = record w { requests = record w.requests { port_destroyed = record w.requests.port_destroyed { map = map.remove w.requests.port_destroyed.map port } } }

-- the tables without this request on a name
abbrev pub without_on_name : WorldView → Request → WorldView
without_on_name w r = record w { requests = record w.requests { names = without_request w.requests.names r } }

-- This request is no longer among those whose names went, of which it was the first.
pub record TakesWent (old : WorldView) (r : Request) (new : WorldView) : Type 0 where
  pub went : old.requests.names.went ≡ r ∷ new.requests.names.went
  pub rest : new ≡ record old { requests = record old.requests { names = without_first_went old.requests.names } }

-- ---- a port

-- the ports without this one, which is in none of their lists
abbrev pub without_port : PortsView Kept → (port : ℕ) → PortsView Kept
without_port ports port = record ports {
  ports = map.remove ports.ports port;
  lost = without port ports.lost;
  doomed = without port ports.doomed;
  noted = without port ports.noted;
}

-- The port is gone with all rights for it; names of it are read as dead.
abbrev pub port_removed : WorldView → (port : ℕ) → WorldView
port_removed w port = record w { spaces = read_spaces (live_in (without_port w.ports port)) w.spaces; ports = without_port w.ports port; ledger = left w.ledger port }
