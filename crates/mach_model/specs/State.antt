-- The machine's state, and how parts of it are read and changed (this project's own).
use Rattle.std.specs.Prelude.{◌≡◌, ℕ, ◌<◌, Bool, true, false, List, [], Option, None, drop, if◌then◌else◌, ◌==◌, ◌&&◌, ◌/◌, ◌%◌, ◌+◌}
use Rattle.std.specs.FinMap as map
use Rattle.std.specs.Ordering.{nat_cmp}
use Rattle.mach_types.specs.Tokens.{Kind, send, Request, no_senders, port_destroyed, dead_name, Token, count, is_of, is_held}
use Rattle.mach_types.specs.Messages.{Entry}
use Rattle.mach_types.specs.declared.profiles.Profile.{Profile}
use Rattle.mach_types.specs.declared.profiles.Profile.TheVariants.{One}

-- What a name stands for. The references of a port's name are the task's send tokens of that port.
pub data Target : Type 0 where
  port : ℕ → Target
  once : ℕ → Target
  dead : (references : ℕ) → Target
  set : ℕ → Target

abbrev pub Names : Type 0
Names = map.FinMap nat_cmp Target

pub record State : Type 0 where
  -- how fresh names are made; whether a port may be in several sets
  pub profile : Profile
  -- tasks
  pub live_task : ℕ → Bool
  pub tasks_made : ℕ
  pub naming : ℕ → Names
  -- how many fresh names each task was given under each index; none are counted where fresh names have no generation
  pub given : ℕ → ℕ → ℕ
  -- ports
  pub live_port : ℕ → Bool
  pub ports_made : ℕ
  pub log : ℕ → List Entry
  pub taken : ℕ → ℕ
  pub limit : ℕ → ℕ
  pub make_send : ℕ → ℕ
  pub sequence : ℕ → ℕ
  -- port sets: the task of each, and the sets that each port is in
  pub set_owner : ℕ → Option ℕ
  pub sets_made : ℕ
  pub sets_of : ℕ → List ℕ
  -- rights and requests
  pub ledger : List Token
  pub stands : Request → Bool

-- Nothing was made yet.
abbrev pub opening_in : Profile → State
opening_in profile = record {
  profile = profile;
  live_task = λ task. false;
  tasks_made = 0;
  naming = λ task. map.empty;
  given = λ task index. 0;
  live_port = λ p. false;
  ports_made = 0;
  log = λ p. [];
  taken = λ p. 0;
  limit = λ p. 0;
  make_send = λ p. 0;
  sequence = λ p. 0;
  set_owner = λ set. None;
  sets_made = 0;
  sets_of = λ p. [];
  ledger = [];
  stands = λ request. false;
}

-- the function with this value at k
abbrev pub at : {A : Type 0} → (ℕ → A) → ℕ → A → ℕ → A
at f k v = λ q. if q == k then v else f q

abbrev pub lookup : State → (task name : ℕ) → Option Target
lookup s task name = map.get (s.naming task) name

-- what wasn't taken from a port's log; of a live port the messages that are queued
abbrev pub queue : State → ℕ → List Entry
queue s p = drop (s.taken p) (s.log p)

-- how many tokens of this kind a task holds for a port
abbrev pub held : State → (task : ℕ) → Kind → ℕ → ℕ
held s task kind p = count (is_held task kind p) s.ledger

abbrev pub Holds : State → (task : ℕ) → Kind → ℕ → Type 0
Holds s task kind p = 0 < held s task kind p

abbrev pub senders : State → ℕ → ℕ
senders s p = count (is_of send p) s.ledger

-- a fresh name: the least unused number from 1
pub record IsFresh (names : Names) (name : ℕ) : Type 0 where
  pub unused : map.get names name ≡ None
  pub not_null : 0 < name
  pub least : (n : ℕ) → 0 < n → n < name → map.contains_key names n ≡ true

-- A fresh name with a generation: its index (the name divided by 256) is the least from 1 that no name of the task has. Its low 8 bits
-- are, modulo 256, the number of fresh names that the task was given at this index before.
pub record IsFreshIndex (names : Names) (given : ℕ → ℕ) (name : ℕ) : Type 0 where
  pub unused : (n : ℕ) → n / 256 ≡ name / 256 → map.get names n ≡ None
  pub not_null : 0 < name / 256
  pub least : (i : ℕ) → 0 < i → i < name / 256 → (n : ℕ) × (n / 256 ≡ i) × (map.contains_key names n ≡ true)
  pub generation : name % 256 ≡ given (name / 256) % 256

abbrev pub IsFreshIn : Profile → Names → (ℕ → ℕ) → ℕ → Type 0
IsFreshIn One names given name = IsFresh names name
IsFreshIn profile names given name = IsFreshIndex names given name

-- the name is fresh for the task
abbrev pub IsFreshFor : State → (task name : ℕ) → Type 0
IsFreshFor s task name = IsFreshIn s.profile (s.naming task) (s.given task) name

-- how many were given, with one more under the name's index; in the first profile none are counted
abbrev pub given_with : Profile → (task name : ℕ) → (ℕ → ℕ → ℕ) → ℕ → ℕ → ℕ
given_with One task name given = given
given_with profile task name given = at given task (at (given task) (name / 256) (given task (name / 256) + 1))

-- one fresh name more was given to the task
abbrev pub gives : (task name : ℕ) → State → State
gives task name s = record s { given = given_with s.profile task name s.given }

abbrev pub same_request : Request → Request → Bool
same_request (no_senders p) (no_senders q) = p == q
same_request (port_destroyed p) (port_destroyed q) = p == q
same_request (dead_name t n) (dead_name u m) = t == u && n == m
same_request a b = false

-- the requests with this one made or ended
abbrev pub request_at : (Request → Bool) → Request → Bool → Request → Bool
request_at stands request now = λ r. if same_request r request then now else stands r

-- The name goes, and a request on it ends; the right that such a request kept is then owed a notice.
abbrev pub without_name : (task name : ℕ) → State → State
without_name task name s = record s {
  naming = at s.naming task (map.remove (s.naming task) name);
  stands = request_at s.stands (dead_name task name) false;
}

abbrev pub with_name : (task name : ℕ) → Target → State → State
with_name task name target s = record s { naming = at s.naming task (map.insert (s.naming task) name target) }
