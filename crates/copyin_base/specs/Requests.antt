-- The requests for notices that the tables keep, each with its notify port.
use Rattle.std.specs.Prelude.{◌≡◌, ℕ, ◌+◌, ◌<◌, ◌^◌, Bool, false, List, [], ◌∷◌, Option, Some, None, is_some, if◌then◌else◌, nat_lt, ◌==◌, ◌&&◌}
use Rattle.std.specs.Option.{option_map}
use Rattle.std.specs.FinMap as map
use Rattle.request_table.specs.declared.Request.{Request as NameRequest}
use Rattle.request_table.specs.Requests.{name_key}
use Rattle.request_table.specs.Tables.{RequestTablesView, request_left}
use Rattle.mach_types.specs.Tokens.{Kind, receive, send, send_once, Request, no_senders, port_destroyed, dead_name, in_request, Token}
use Rattle.mach_model.specs.Carried.{lying_among}

-- the notify port of a request that stands; no name is 2^32 or more
abbrev pub notify_of : RequestTablesView → Request → Option ℕ
notify_of v (no_senders p) = map.get v.no_senders.map p
notify_of v (port_destroyed p) = map.get v.port_destroyed.map p
notify_of v (dead_name task name) = if nat_lt name (2 ^ 32) then option_map (λ (r : NameRequest). r.notify) (map.get v.names.requests (name_key task name)) else None

-- how many rights of this kind for the port a request with this notify port keeps: one send-once right, as long as its port lives
abbrev pub rights_kept : (live : ℕ → Bool) → (notify : Option ℕ) → Kind → (port : ℕ) → ℕ
rights_kept live (Some notify) send_once q = if notify == q && live q then 1 else 0
rights_kept live (Some notify) receive q = 0
rights_kept live (Some notify) send q = 0
rights_kept live None kind q = 0

-- The request that ended as its name went was on this name.
abbrev pub was_on : Request → NameRequest → Bool
was_on (dead_name task name) r = task == r.task && name == r.name
was_on request r = false

-- how many rights of this kind for the port a request on a name keeps that ended as the name went, until its right has paid for a notice
abbrev pub rights_went : (live : ℕ → Bool) → (went : List NameRequest) → Request → Kind → (port : ℕ) → ℕ
rights_went live [] request kind q = 0
rights_went live (r ∷ went) request kind q = (if was_on request r then rights_kept live (Some r.notify) kind q else 0) + rights_went live went request kind q

-- The notify port of each was made.
abbrev pub AreMade : (made : ℕ) → List NameRequest → Type 0
AreMade made [] = Unit {0}
AreMade made (r ∷ went) = (r.notify < made) × AreMade made went

-- No request stands on a name of these.
abbrev pub AreEnded : (stands : Request → Bool) → List NameRequest → Type 0
AreEnded stands [] = Unit {0}
AreEnded stands (r ∷ went) = (stands (dead_name r.task r.name) ≡ false) × AreEnded stands went

-- The requests that stand are those that are kept, each with the right for its notify port, which was made. Those that ended as their names
-- went still keep theirs.
pub record RequestsAgree (notify : Request → Option ℕ) (went : List NameRequest) (made : ℕ) (stands : Request → Bool) (live : ℕ → Bool) (tokens : List Token) : Type 0 where
  pub standing : (r : Request) → stands r ≡ is_some (notify r)
  pub kept : (r : Request) (kind : Kind) (q : ℕ) → lying_among tokens kind q (in_request r) ≡ rights_kept live (notify r) kind q + rights_went live went r kind q
  pub given : (r : Request) (q : ℕ) → notify r ≡ Some q → q < made
  pub given_went : AreMade made went
  pub ended_went : AreEnded stands went

-- ---- a name goes

-- the requests after this was left under a name: it goes where nothing is
abbrev pub requests_after : {A : Type 0} → RequestTablesView → (task name : ℕ) → (left : Option A) → RequestTablesView
requests_after v task name (Some entry) = v
requests_after v task name None = request_left v task name
