-- What the tables tell of a port whose receive right is named.
use Rattle.std.specs.Prelude.{◌≡◌, ℕ, ◌+◌, ◌<◌, ◌≤◌, ◌^◌, false, length, min, List, [], ◌∷◌, Some}
use Rattle.std.specs.Option.{option_map, unwrap_or}
use Rattle.std.specs.FinMap as map
use Rattle.mach_types.specs.declared.calls.Status.{Status}
use Rattle.mach_model.specs.Telling.{one_if}
use Rattle.port.specs.Ports.{PortView, sets_in}
use Rattle.port_set.specs.declared.SetRecord.{SetRecord}
use Rattle.port_set.specs.Sets.{SetsView}
use Rattle.rights.specs.declared.Counts.{Counts}
use Rattle.rights.specs.Ledger.{IsEntered, counts_of}
use Rattle.copyin_base.specs.Kept.{Kept}
use Rattle.request_table.specs.Tables.{RequestTablesView}
use Rattle.copyin_base.specs.Worlds.{WorldView, has_several_sets, port_at}

-- a task's name for its set
abbrev pub set_name : SetsView → (set : ℕ) → ℕ
set_name sets set = unwrap_or (option_map (λ (r : SetRecord). r.name) (map.get sets.sets set)) 0

-- the least of a task's names for these sets, 0 for none
abbrev pub least_name : SetsView → (of_port : List ℕ) → ℕ
least_name sets [] = 0
least_name sets (set ∷ []) = set_name sets set
least_name sets (set ∷ other ∷ others) = min (set_name sets set) (least_name sets (other ∷ others))

-- the status of a port
abbrev pub status_of : SetsView → RequestTablesView → (port : ℕ) → PortView Kept → Counts → Status
status_of sets requests port v c = record {
  set = least_name sets (sets_in v);
  sequence = v.attributes.sequence;
  make_send = v.attributes.make_send;
  limit = v.attributes.limit;
  queued = length v.queue;
  send_once = c.send_once + c.destination;
  has_send = min c.send 1;
  port_destroyed = one_if (map.contains_key requests.port_destroyed.map port);
  no_senders = one_if (map.contains_key requests.no_senders.map port);
}

-- The port and its counts are there, and a 32-bit number counts its messages, as another its send-once rights. It is in one set at most, where a port
-- can't be in several.
pub record HasPort (w : WorldView) (port : ℕ) : Type 0 where
  pub v : PortView Kept
  pub there : port_at w port ≡ Some v
  pub entered : IsEntered w.ledger port
  pub few : length v.queue < 2 ^ 32
  pub few_sets : has_several_sets w.profile ≡ false → length (sets_in v) ≤ 1
  pub few_once : (counts_of w.ledger port).send_once + (counts_of w.ledger port).destination < 2 ^ 32

pub record TellsPort (w : WorldView) (port : ℕ) (status : Status) : Type 0 where
  pub v : PortView Kept
  pub there : port_at w port ≡ Some v
  pub is : status ≡ status_of w.sets w.requests port v (counts_of w.ledger port)
