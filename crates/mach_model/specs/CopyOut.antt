-- Copying out: what a right in a message becomes with its receiver (IPC Interface, `mach_msg` with MACH_RCV_MSG).
use Rattle.std.specs.Prelude.{◌≡◌, ◌≢◌, ℕ, ◌<◌, List, [], ◌∷◌, Some, if◌then◌else◌, ◌⊎◌, nat_lt, MatchBool}
use Rattle.std.specs.FinMap as map
use Rattle.mach_types.specs.Numbers.{null_word, dead_word, most_names, most_references}
use Rattle.mach_types.specs.Tokens.{Kind, send, send_once, Place, in_task, Token, token, Moves}
use Rattle.mach_types.specs.Messages.{Mark, to_port, null, dead}
use Rattle.mach_model.specs.State.{State, Target, lookup, held, with_name, IsFreshFor, gives}

-- The name is fresh, there is room for it, and it is given to the target.
pub record Named (task name : ℕ) (target : Target) (old new : State) : Type 0 where
  pub room : map.len (old.naming task) < most_names
  pub fresh : IsFreshFor old task name
  pub rest : new ≡ with_name task name target (gives task name old)

-- A send or receive right goes under the task's name for the port, if it has one.
abbrev pub NamedOnce : (task name : ℕ) → (port : ℕ) → State → State → Type 0
NamedOnce task name p old new =
    (lookup old task name ≡ Some (Target.port p)) × (new ≡ old)
    ⊎ ((n : ℕ) → lookup old task n ≢ Some (Target.port p)) × Named task name (Target.port p) old new

-- the name that the right gets
abbrev pub NamedFor : Kind → (task name : ℕ) → (port : ℕ) → State → State → Type 0
NamedFor send_once task name p old new = Named task name (Target.once p) old new
NamedFor kind task name p old new = NamedOnce task name p old new

-- the token that the task gets: none where it has as many references as there may be
abbrev pub given_to : Kind → (port task : ℕ) → State → List Token
given_to send p task s = if nat_lt (held s task send p) most_references then token send p (in_task task) ∷ [] else []
given_to kind p task s = token kind p (in_task task) ∷ []

-- A right of this kind for a live port goes from its place to the task, under this name.
pub record GiveRight (task : ℕ) (place : Place) (kind : Kind) (port : ℕ) (old : State) (name : ℕ) (new : State) : Type 0 where
  pub named_state : State
  pub named : NamedFor kind task name port old named_state
  pub rest : new ≡ record named_state { ledger = new.ledger }
  pub tokens : Moves old.ledger new.ledger (token kind port place ∷ []) (given_to kind port task old)

-- What stands for a right in the received message. A right whose port is dead is dead.
abbrev pub GiveMark : (task : ℕ) → Place → Kind → Mark → State → (word : ℕ) → State → Type 0
GiveMark task place kind null old word new = (word ≡ null_word) × (new ≡ old)
GiveMark task place kind dead old word new = (word ≡ dead_word) × (new ≡ old)
GiveMark task place kind (to_port p) old word new =
    MatchBool (old.live_port p) (GiveRight task place kind p old word new) ((word ≡ dead_word) × (new ≡ old))

-- the same of a word that stands beside its disposition's number
abbrev pub GiveWord : (task : ℕ) → Place → State → ℕ × ℕ → Kind × Mark → State → Type 0
GiveWord task place old w r new = GiveMark task place r.0 r.1 old w.1 new
