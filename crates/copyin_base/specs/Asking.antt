-- A request is made, or ends: the room for it, and the requests after that.
use Rattle.std.specs.Prelude.{◌≡◌, ℕ, ◌+◌, ◌-◌, max, Option, Some, None, []}
use Rattle.std.specs.FinMap as map
use Rattle.number_map.specs.Maps.{MapView}
use Rattle.request_table.specs.declared.Request.{Request}
use Rattle.request_table.specs.Requests.{with_request}
use Rattle.request_table.specs.Tables.{RequestTablesView}
use Rattle.copyin_base.specs.Worlds.{WorldView}

-- ---- with room for one

abbrev pub with_room_no_senders : WorldView → WorldView
with_room_no_senders w = record w { requests = record w.requests { no_senders = record w.requests.no_senders { room = max w.requests.no_senders.room 1 } } }

abbrev pub with_room_port_destroyed : WorldView → WorldView
with_room_port_destroyed w = record w { requests = record w.requests { port_destroyed = record w.requests.port_destroyed { room = max w.requests.port_destroyed.room 1 } } }

abbrev pub with_room_on_name : WorldView → WorldView
with_room_on_name w = record w { requests = record w.requests { names = record w.requests.names { room = max w.requests.names.room 1 } } }

-- ---- with one, in a place that was made

-- The notify port is to be told that the port has no senders.
abbrev pub with_no_senders : WorldView → (port notify : ℕ) → WorldView
with_no_senders w port notify = record w { requests = record w.requests { no_senders = record { map = map.insert w.requests.no_senders.map port notify; room = w.requests.no_senders.room - 1 } } }

-- The notify port is to be sent the port's receive right.
abbrev pub with_port_destroyed : WorldView → (port notify : ℕ) → WorldView
with_port_destroyed w port notify = record w { requests = record w.requests { port_destroyed = record { map = map.insert w.requests.port_destroyed.map port notify; room = w.requests.port_destroyed.room - 1 } } }

abbrev pub with_on_name : WorldView → Request → WorldView
with_on_name w r = record w { requests = record w.requests { names = with_request w.requests.names r } }

-- ---- a request ends

abbrev pub taken_at : MapView ℕ → (port : ℕ) → Option ℕ → MapView ℕ
taken_at m p (Some notify) = record { map = map.remove m.map p; room = m.room + 1 }
taken_at m p None = m

-- the notify ports without that of a port, if it has one, whose place stays
abbrev pub port_taken : MapView ℕ → (port : ℕ) → MapView ℕ
port_taken m p = taken_at m p (map.get m.map p)

-- No request stands, and none waits whose name went.
abbrev pub HasNone : RequestTablesView → Type 0
HasNone v = ((v.names.requests ≡ map.empty) × (v.names.went ≡ [])) × (map.len v.no_senders.map ≡ 0) × (map.len v.port_destroyed.map ≡ 0)
