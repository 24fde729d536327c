-- The requests for notices that are kept, each with its notify port.
use Rattle.std.specs.Prelude.{ℕ, Option, Some, None, refl}
use Rattle.std.specs.Coded.{Coded, code_by, coded×}
use Rattle.std.specs.FinMap as map
use Rattle.number_map.specs.Maps.{MapView, map_code}
use Rattle.request_table.specs.declared.Request.{Request}
use Rattle.request_table.specs.Requests.{RequestsView, requests_code, no_requests, name_key, with_request, without_request, with_name_gone}

pub record RequestTablesView : Type 0 where
  -- the dead-name requests, by names and by ports
  pub names : RequestsView
  -- the notify ports of the two requests on a port, by ports
  pub no_senders : MapView ℕ
  pub port_destroyed : MapView ℕ

abbrev pub request_tables_code : Coded Request → Coded ℕ → Coded RequestTablesView
request_tables_code request port =
    code_by
    (RequestsView × (MapView ℕ × MapView ℕ))
    (coded× (requests_code request) (coded× (map_code port) (map_code port)))
    (λ v. (v.names, (v.no_senders, v.port_destroyed)))
    (λ x. record { names = x.0; no_senders = x.1.0; port_destroyed = x.1.1 })
    (λ _. refl)

abbrev pub none_requested : RequestTablesView
none_requested = record {
  names = no_requests;
  no_senders = record { map = map.empty; room = 0 };
  port_destroyed = record { map = map.empty; room = 0 };
}

-- ---- a name goes

abbrev pub left_by : RequestsView → Option Request → RequestsView
left_by names (Some r) = with_name_gone names r
left_by names None = names

-- The request on the name ends, if there is one, as the name goes.
abbrev pub request_left : RequestTablesView → (task name : ℕ) → RequestTablesView
request_left v task name = record v { names = left_by v.names (map.get v.names.requests (name_key task name)) }

-- ---- a request goes along

-- the dead-name requests after one, if there is one, comes to this name: it is the last of its port's then
abbrev pub renamed_by : RequestsView → (name : ℕ) → Option Request → RequestsView
renamed_by names name (Some r) = with_request (without_request names r) (record r { name = name })
renamed_by names name None = names

-- the requests after what was under the first name of the task comes under the second
abbrev pub request_moved : RequestTablesView → (task from to : ℕ) → RequestTablesView
request_moved v task from to = record v { names = renamed_by v.names to (map.get v.names.requests (name_key task from)) }
