-- What guards ask of tasks and names (Port Manipulation Interface, IPC Interface).
use Rattle.std.specs.Prelude.{◌≡◌, ℕ, false, Option, Some, None, ◌≤◌, ◌⊎◌, Contains}
use Rattle.mach_types.specs.Tokens.{receive, send}
use Rattle.mach_model.specs.State.{State, Target, lookup, Holds}
use Rattle.mach_types.specs.Numbers.{null_word, dead_word, disposition}
use Rattle.mach_types.specs.declared.rights.Disposition.{Disposition}
use Rattle.mach_model.specs.CopyIn.{IsLegal}
use Rattle.mach_types.specs.declared.profiles.Profile.{Profile}
use Rattle.mach_types.specs.declared.profiles.Profile.TheVariants.{Three}

abbrev pub IsNoTask : State → ℕ → Type 0
IsNoTask s task = s.live_task task ≡ false

abbrev pub IsUnused : State → (task name : ℕ) → Type 0
IsUnused s task name = lookup s task name ≡ None

-- numbers that are no names
abbrev pub IsNoName : ℕ → Type 0
IsNoName name = (name ≡ null_word) ⊎ (dead_word ≤ name)

-- the name is a port set's
abbrev pub IsSet : Option Target → Type 0
IsSet (Some (Target.set set)) = Unit {0}
IsSet target = ⊥

-- the name is a port's, whose receive right the task has
abbrev pub NamesReceive : State → (task name : ℕ) → Type 0
NamesReceive s task name = (p : ℕ) × (lookup s task name ≡ Some (Target.port p)) × Holds s task receive p

-- what may be deallocated
abbrev pub HasReference : State → (task : ℕ) → Option Target → Type 0
HasReference s task (Some (Target.port p)) = Holds s task send p
HasReference s task (Some (Target.once p)) = Unit {0}
HasReference s task (Some (Target.dead n)) = Unit {0}
HasReference s task (Some (Target.set set)) = ⊥
HasReference s task None = ⊥

-- the right under the name can be copied in under this disposition
abbrev pub IsLegalName : State → (task name number : ℕ) → Type 0
IsLegalName s task name number =
    (d : Disposition) × (target : Target) × (disposition number ≡ Some d) × (lookup s task name ≡ Some target) × IsLegal s task d target

abbrev pub IsDeadName : State → (task name : ℕ) → Type 0
IsDeadName s task name = (references : ℕ) × (lookup s task name ≡ Some (Target.dead references))

-- a port may be in several sets
abbrev pub HasSeveral : Profile → Type 0
HasSeveral Three = Unit {0}
HasSeveral profile = ⊥

-- The port under the first name is in the set under the second.
abbrev pub IsMember : State → (task member set : ℕ) → Type 0
IsMember s task member set =
    (p t : ℕ) × (lookup s task member ≡ Some (Target.port p)) × (lookup s task set ≡ Some (Target.set t)) × Contains (s.sets_of p) t
