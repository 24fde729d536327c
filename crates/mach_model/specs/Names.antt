-- Names: making a port, a set or a dead name under one, renaming, and what is set of the port under one (Port Manipulation Interface,
-- `mach_port_allocate`, `mach_port_rename`, `mach_port_set_qlimit`, `mach_port_move_member` and the like).
use Rattle.std.specs.Prelude.{◌≡◌, ℕ, ◌+◌, ◌⊎◌, Bool, true, false, [], ◌∷◌, Some, if◌then◌else◌, filter, ◌==◌, not, ◌++◌}
use Rattle.std.specs.FinMap as names
use Rattle.mach_types.specs.Numbers.{first_limit}
use Rattle.mach_types.specs.Tokens.{receive, Request, dead_name, Place, in_task, in_message, in_request, Token, token, Moves, weigh}
use Rattle.mach_model.specs.State.{State, Target, lookup, at, with_name, same_request, request_at, Holds}

-- ---- allocating

-- a new port, whose receive right the task has under this name
abbrev pub with_port : (task name : ℕ) → State → State
with_port task name s = record (with_name task name (Target.port s.ports_made) s) {
  live_port = at s.live_port s.ports_made true;
  ports_made = s.ports_made + 1;
  log = at s.log s.ports_made [];
  taken = at s.taken s.ports_made 0;
  limit = at s.limit s.ports_made first_limit;
  make_send = at s.make_send s.ports_made 0;
  sequence = at s.sequence s.ports_made 0;
  sets_of = at s.sets_of s.ports_made [];
}

pub record AllocatesPort (task name : ℕ) (old mid : State) : Type 0 where
  pub rest : mid ≡ record (with_port task name old) { ledger = mid.ledger }
  pub tokens : Moves old.ledger mid.ledger [] (token receive old.ports_made (in_task task) ∷ [])

-- a new set of no ports, which the task has under this name
abbrev pub with_set : (task name : ℕ) → State → State
with_set task name s = record (with_name task name (Target.set s.sets_made) s) {
  set_owner = at s.set_owner s.sets_made (Some task);
  sets_made = s.sets_made + 1;
}

-- what is made of the right of this number, under the name
abbrev pub Makes : (task right name : ℕ) → State → State → Type 0
Makes task right name old mid =
    (right ≡ 1) × AllocatesPort task name old mid
    ⊎ (right ≡ 3) × (mid ≡ with_set task name old)
    ⊎ (right ≡ 4) × (mid ≡ with_name task name (Target.dead 1) old)

-- ---- renaming

-- a right that a request on the name keeps is kept by the request on the new one
abbrev pub renamed_place : (task old_name new_name : ℕ) → Place → Place
renamed_place task o n (in_request r) = if same_request r (dead_name task o) then in_request (dead_name task n) else in_request r
renamed_place task o n (in_task t) = in_task t
renamed_place task o n (in_message p k) = in_message p k

abbrev pub renamed_token : (task old_name new_name : ℕ) → Token → Token
renamed_token task o n x = record x { place = renamed_place task o n x.place }

-- the request on the name goes along
abbrev pub renamed_requests : (task old_name new_name : ℕ) → (Request → Bool) → Request → Bool
renamed_requests task o n stands = request_at (request_at stands (dead_name task n) (stands (dead_name task o))) (dead_name task o) false

pub record Renames (task old_name new_name : ℕ) (old mid : State) : Type 0 where
  pub target : Target
  pub found : lookup old task old_name ≡ Some target
  pub rest : mid ≡ record old {
    naming = at old.naming task (names.insert (names.remove (old.naming task) old_name) new_name target);
    stands = renamed_requests task old_name new_name old.stands;
    ledger = mid.ledger;
  }
  pub tokens : (h : Token → ℕ) → weigh h mid.ledger ≡ weigh (λ x. h (renamed_token task old_name new_name x)) old.ledger

-- ---- a port's numbers, and its sets

-- A number of the port under the name is set; the receive right is the task's.
abbrev pub ChangesPort : State → (task name : ℕ) → (ℕ → State) → State → Type 0
ChangesPort old task name change mid = (p : ℕ) × (lookup old task name ≡ Some (Target.port p)) × Holds old task receive p × (mid ≡ change p)

-- The port under the first name leaves its sets for the one under the second, or for none where that is 0.
abbrev pub JoinsSet : (task member after : ℕ) → State → State → Type 0
JoinsSet task member after old mid =
    (p : ℕ) × (lookup old task member ≡ Some (Target.port p))
    × ((after ≡ 0) × (mid ≡ record old { sets_of = at old.sets_of p [] })
    ⊎ ((set : ℕ) × (lookup old task after ≡ Some (Target.set set)) × (mid ≡ record old { sets_of = at old.sets_of p (set ∷ []) })))

-- It enters the set, besides those that it is in.
pub record EntersSet (task member set : ℕ) (old mid : State) : Type 0 where
  pub port : ℕ
  pub found : lookup old task member ≡ Some (Target.port port)
  pub entered : ℕ
  pub found_set : lookup old task set ≡ Some (Target.set entered)
  pub rest : mid ≡ record old { sets_of = at old.sets_of port (old.sets_of port ++ entered ∷ []) }

-- It leaves the set, and stays in the others.
pub record LeavesSet (task member set : ℕ) (old mid : State) : Type 0 where
  pub port : ℕ
  pub found : lookup old task member ≡ Some (Target.port port)
  pub left : ℕ
  pub found_set : lookup old task set ≡ Some (Target.set left)
  pub rest : mid ≡ record old { sets_of = at old.sets_of port (filter (λ t. not (t == left)) (old.sets_of port)) }
