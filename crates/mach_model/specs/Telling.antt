-- What calls tell of names, references, receive rights and port sets (Port Manipulation Interface, `mach_port_type`, `mach_port_names`,
-- `mach_port_get_refs`, `mach_port_get_receive_status` and `mach_port_get_set_status`).
use Rattle.std.specs.Prelude.{◌≡◌, ℕ, ◌+◌, ◌≤◌, ◌⊎◌, Bool, List, [], length, map, Some, if◌then◌else◌, nat_lt, ◌<◌, ◌==◌, ◌&&◌, Contains, ◌↔◌, AllPairs}
use Rattle.std.specs.FinMap as names
use Rattle.mach_types.specs.declared.rights.Right.TheVariants.{Send, Receive, SendOnce, PortSet, DeadName}
use Rattle.mach_types.specs.Numbers.{right_number}
use Rattle.mach_types.specs.Rights.{right_bit, request_bit}
use Rattle.mach_types.specs.Tokens.{receive, send, dead_name, send_once, count, no_senders, port_destroyed, is_of}
use Rattle.mach_model.specs.State.{State, Target, lookup, held, senders, queue}
use Rattle.mach_types.specs.declared.calls.Status.{Status}

-- ---- types and names

-- the bits of the rights that are held
abbrev pub target_bits : State → (task : ℕ) → Target → ℕ
target_bits s task (Target.port p) =
    (if nat_lt 0 (held s task send p) then right_bit Send else 0) + (if nat_lt 0 (held s task receive p) then right_bit Receive else 0)
target_bits s task (Target.once p) = right_bit SendOnce
target_bits s task (Target.set set) = right_bit PortSet
target_bits s task (Target.dead n) = right_bit DeadName

-- and of a dead-name request that stands on the name
abbrev pub type_of : State → (task name : ℕ) → Target → ℕ
type_of s task name target = target_bits s task target + (if s.stands (dead_name task name) then request_bit else 0)

abbrev pub TellsType : State → (task name type : ℕ) → Type 0
TellsType s task name n = (target : Target) × (lookup s task name ≡ Some target) × (n ≡ type_of s task name target)

-- the names with their types, names rising
abbrev pub names_of : State → (task : ℕ) → List (ℕ × ℕ)
names_of s task = map (λ e. (e.0, type_of s task e.0 e.1)) (names.entries (s.naming task))

-- ---- references

-- how many references of the right of this number are under a name that stands for the target; 0 where it isn't held
abbrev pub references : State → (task : ℕ) → Target → (right : ℕ) → ℕ
references s task (Target.port p) right =
    if right == right_number Send then held s task send p else
    if right == right_number Receive && nat_lt 0 (held s task receive p) then 1 else 0
references s task (Target.once p) right = if right == right_number SendOnce then 1 else 0
references s task (Target.set set) right = if right == right_number PortSet then 1 else 0
references s task (Target.dead n) right = if right == right_number DeadName then n else 0

abbrev pub TellsReferences : State → (task name right references : ℕ) → Type 0
TellsReferences s task name right n = (target : Target) × (lookup s task name ≡ Some target) × (n ≡ references s task target right)

-- ---- the status of a receive right, and the members of a set

abbrev pub one_if : Bool → ℕ
one_if b = if b then 1 else 0

-- The number is the least of the task's names of sets that the port is in, or 0 where it is in none.
abbrev pub NamesSetOf : State → (task port name : ℕ) → Type 0
NamesSetOf s task p name =
    (s.sets_of p ≡ []) × (name ≡ 0)
    ⊎ ((set : ℕ) × Contains (s.sets_of p) set × (lookup s task name ≡ Some (Target.set set))
    × ((other n : ℕ) → Contains (s.sets_of p) other → lookup s task n ≡ Some (Target.set other) → name ≤ n))

pub record TellsStatus (s : State) (task name : ℕ) (status : Status) : Type 0 where
  pub p : ℕ
  pub found : lookup s task name ≡ Some (Target.port p)
  pub set : NamesSetOf s task p status.set
  pub sequence : status.sequence ≡ s.sequence p
  pub make_send : status.make_send ≡ s.make_send p
  pub limit : status.limit ≡ s.limit p
  pub queued : status.queued ≡ length (queue s p)
  pub send_once : status.send_once ≡ count (is_of send_once p) s.ledger
  pub has_send : status.has_send ≡ one_if (nat_lt 0 (senders s p))
  pub port_destroyed : status.port_destroyed ≡ one_if (s.stands (port_destroyed p))
  pub no_senders : status.no_senders ≡ one_if (s.stands (no_senders p))

-- The members' names, rising.
pub record TellsMembers (s : State) (task name : ℕ) (members : List ℕ) : Type 0 where
  pub set : ℕ
  pub found : lookup s task name ≡ Some (Target.set set)
  pub rising : AllPairs (λ a b. a < b) members
  pub each : (n : ℕ) → Contains members n ↔ ((p : ℕ) × (lookup s task n ≡ Some (Target.port p)) × Contains (s.sets_of p) set)
