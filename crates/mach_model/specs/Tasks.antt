-- Making and ending tasks (Task Interface, `task_create` and `task_terminate`).
use Rattle.std.specs.Prelude.{◌≡◌, ℕ, ◌+◌, Bool, true, false, filter, not, Option, Some, None, if◌then◌else◌, ◌==◌}
use Rattle.std.specs.FinMap as names
use Rattle.mach_types.specs.Tokens.{Request, no_senders, port_destroyed, dead_name, is_in_task}
use Rattle.mach_model.specs.State.{State, at}
use Rattle.mach_model.specs.References.{LosesAll, unused_among}
use Rattle.mach_model.specs.Notices.{Owed}

-- A new task has no names.
pub record CreatesTask (old : State) (task : ℕ) (mid : State) : Type 0 where
  pub task_is : task ≡ old.tasks_made
  pub rest : mid ≡ record old { live_task = at old.live_task task true; tasks_made = task + 1; naming = at old.naming task names.empty }

-- ---- a task ends

-- the request is on a name of the task
abbrev pub ends_with : (task : ℕ) → Request → Bool
ends_with task (no_senders p) = false
ends_with task (port_destroyed p) = false
ends_with task (dead_name t name) = t == task

abbrev pub is_owner : (task : ℕ) → Option ℕ → Bool
is_owner task (Some t) = t == task
is_owner task None = false

-- The task is gone with its names, the requests on them, its sets and its rights.
pub record EndsTask (task : ℕ) (old mid : State) (owed : Owed) : Type 0 where
  pub loses : LosesAll (λ x. is_in_task task x.place) old.ledger mid.ledger
  pub rest : mid ≡ record old {
    live_task = at old.live_task task false;
    naming = at old.naming task names.empty;
    set_owner = λ set. if is_owner task (old.set_owner set) then None else old.set_owner set;
    sets_of = λ p. filter (λ set. not (is_owner task (old.set_owner set))) (old.sets_of p);
    stands = λ r. if ends_with task r then false else old.stands r;
    ledger = mid.ledger;
  }
  pub owed_are : owed ≡ unused_among loses.gone
