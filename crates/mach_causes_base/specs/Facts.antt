-- What a cause tells of the state in which the call was refused, and when that is true. That a cause is about the call's own tasks, names,
-- numbers and bytes isn't said here, nor since when a name or a task is gone.
use Rattle.std.specs.Prelude.{◌≡◌, ◌≢◌, ℕ, pos, negsuc, ◌<◌, ◌≤◌, ◌+◌, Bool, true, false, [], length, Option, Some, None, Contains}
use Rattle.std.specs.FinMap as map
use Rattle.mach_types.specs.Numbers.{most_tasks, most_names, most_references, most_rights, greatest_limit}
use Rattle.mach_types.specs.Tokens.{receive, send}
use Rattle.mach_types.specs.declared.calls.Waited.{Waited}
use Rattle.mach_model.specs.State.{State, Target, lookup, queue, held, Holds}
use Rattle.mach_model.specs.Telling.{one_if}
use Rattle.mach_model.specs.NameGuards.{IsNoTask, IsUnused, IsDeadName, IsNoName, HasSeveral}
use Rattle.mach_model.specs.Refusals.{IsNoMaking, IsDisposition}
use Rattle.mach_model.specs.SendRefusals.{Reaches}
use Rattle.name_space.specs.declared.Entry.{Entry as Standing}
use Rattle.name_space.specs.Entry.{port_named, has_receive, send_references}
use Rattle.copyin_base.specs.Shows.{target_of, HasCount}
use Rattle.mach_follow.specs.declared.follower.Place.{Place}
use Rattle.mach_causes_base.specs.declared.cause.Reason.{Reason}
use Rattle.mach_causes_base.specs.Needs.{meets, counted, is_dead, is_set, IsWanted, IsOutOfRange}

-- The task's name stands for this, with these references.
pub record StandsFor (s : State) (place : Place) (standing : Standing) : Type 0 where
  pub named : lookup s place.task place.name ≡ Some (target_of standing)
  pub some : HasCount standing
  pub rights : (p : ℕ) → port_named standing ≡ Some p →
      (held s place.task receive p ≡ one_if (has_receive standing)) × (held s place.task send p ≡ send_references standing)

-- The task has the port's receive right under the name.
pub record Receives (s : State) (place : Place) (port : ℕ) : Type 0 where
  pub named : lookup s place.task place.name ≡ Some (Target.port port)
  pub holds : Holds s place.task receive port

-- The task doesn't live. It ended, or was never made.
abbrev pub IsMissing : State → (task : ℕ) → (ended : Option ℕ) → Type 0
IsMissing s task (Some entry) = IsNoTask s task × (task < s.tasks_made)
IsMissing s task None = IsNoTask s task × (s.tasks_made ≤ task)

-- The port or set doesn't live. It was made once, or never.
abbrev pub IsGone : State → Waited → (was_made : Bool) → Type 0
IsGone s (Waited.Port port) true = (s.live_port port ≡ false) × (port < s.ports_made)
IsGone s (Waited.Port port) false = (s.live_port port ≡ false) × (s.ports_made ≤ port)
IsGone s (Waited.Set set) true = (s.set_owner set ≡ None) × (set < s.sets_made)
IsGone s (Waited.Set set) false = (s.set_owner set ≡ None) × (s.sets_made ≤ set)

-- The port or set lives, and the task doesn't have the receive right, or the set.
abbrev pub IsOutOfReach : State → (task : ℕ) → Waited → Type 0
IsOutOfReach s task (Waited.Port port) = (s.live_port port ≡ true) × ¬ (Holds s task receive port)
IsOutOfReach s task (Waited.Set set) = (s.set_owner set ≢ None) × (s.set_owner set ≢ Some task)

-- What the reason tells of the state is true.
abbrev pub IsTrueIn : State → Reason → Type 0
IsTrueIn s (Reason.NoTask task ended) = IsMissing s task ended
IsTrueIn s Reason.TasksFull = s.tasks_made ≡ most_tasks
IsTrueIn s (Reason.NamesFull task) = map.len (s.naming task) ≡ most_names
IsTrueIn s (Reason.NamesShort task names) = map.len (s.naming task) ≡ names
IsTrueIn s (Reason.RightsFull rights more) = (length s.ledger ≡ rights) × (most_rights < rights + more)
IsTrueIn s (Reason.Absent place before) = (s.live_task place.task ≡ true) × IsUnused s place.task place.name
IsTrueIn s (Reason.Lacks place standing wanted) = StandsFor s place standing × IsWanted wanted × (meets wanted standing ≡ false) × (is_dead standing ≡ false)
IsTrueIn s (Reason.Dead place) = IsDeadName s place.task place.name
IsTrueIn s (Reason.TakenBefore place standing) = StandsFor s place standing × (is_set standing ≡ false)
IsTrueIn s (Reason.Used place standing) = StandsFor s place standing
IsTrueIn s (Reason.Elsewhere place port) = lookup s place.task place.name ≡ Some (Target.port port)
IsTrueIn s (Reason.References place standing) = StandsFor s place standing × (counted standing ≡ most_references)
IsTrueIn s (Reason.Change place standing delta) = StandsFor s place standing × (0 < counted standing) × IsOutOfRange (counted standing) delta
IsTrueIn s (Reason.DeadUnasked place) = IsDeadName s place.task place.name
IsTrueIn s (Reason.InNoSet place port) = Receives s place port × (s.sets_of port ≡ [])
IsTrueIn s (Reason.InSet place port set) = Receives s place port × Contains (s.sets_of port) set
IsTrueIn s (Reason.AlreadyIn place port set) = Receives s place port × Contains (s.sets_of port) set
IsTrueIn s (Reason.NotIn place port set) = Receives s place port × ¬ (Contains (s.sets_of port) set)
IsTrueIn s (Reason.Full port queued limit) = (s.live_port port ≡ true) × (length (queue s port) ≡ queued) × (s.limit port ≡ limit) × (limit ≤ queued)
IsTrueIn s (Reason.Died waited was_made) = IsGone s waited was_made
IsTrueIn s (Reason.Member port set) = Contains (s.sets_of port) set
IsTrueIn s (Reason.Changed task waited) = IsOutOfReach s task waited
IsTrueIn s (Reason.OwnDestination place port) = Receives s place port
IsTrueIn s (Reason.Loop place carried destination) = Receives s place carried × (carried ≢ destination) × Reaches s destination carried
IsTrueIn s Reason.OneSet = ¬ (HasSeveral s.profile)
-- of numbers alone
IsTrueIn s (Reason.NotMade right) = IsNoMaking right
IsTrueIn s (Reason.NoRight right) = 4 < right
IsTrueIn s (Reason.NoName name) = IsNoName name
IsTrueIn s (Reason.Limit limit) = greatest_limit < limit
IsTrueIn s (Reason.NoDisposition number) = ¬ (IsDisposition number)
IsTrueIn s (Reason.NoVariant variant) = (variant ≢ 69) × (variant ≢ 70) × (variant ≢ 72)
IsTrueIn s (Reason.PaysBy number) = (number ≢ 18) × (number ≢ 21)
IsTrueIn s (Reason.Sync number) = 0 < number
IsTrueIn s (Reason.NoReferences delta) = (delta ≢ pos 0) × (delta ≢ negsuc 0)
-- of the call's bytes, or of the kernel's memory
IsTrueIn s (Reason.Message fault) = Unit {0}
IsTrueIn s Reason.Memory = Unit {0}
IsTrueIn s Reason.NoBuffer = Unit {0}
