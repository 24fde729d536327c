-- Where a call here may be refused for want of memory: only where it may have to take some.
use Rattle.std.specs.Prelude.{◌≡◌, ◌≢◌, ℕ, ◌<◌, [], Some}
use Rattle.std.specs.FinMap as map
use Rattle.mach_types.specs.declared.calls.Event.{Event}
use Rattle.name_space.specs.Names.{SpaceView}
use Rattle.copyin_base.specs.Wanted.{LacksRoom, LacksPlace}
use Rattle.copyin_base.specs.Finds.{FindsReceive}
use Rattle.copyin_base.specs.Worlds.{WorldView, sets_at, space_at}

-- The task has a name.
pub record HasName (w : WorldView) (task : ℕ) : Type 0 where
  pub space : SpaceView
  pub there : space_at w task ≡ Some space
  pub some : 0 < map.len space.names

-- The port whose receive right is under the name is in a set already.
pub record WantsToEnter (w : WorldView) (task member : ℕ) : Type 0 where
  pub port : ℕ
  pub finds : FindsReceive w task member port
  pub elsewhere : sets_at w port ≢ []

-- The call may lack memory. A dead name, number 4, takes none but a place for its name, a name that is changed none but its own place, a
-- list of no names none, a port's first set none, and a call that isn't named here none.
abbrev pub MayLackMemory : WorldView → Event → Type 0
MayLackMemory w Event.TaskCreate = Unit {0}
MayLackMemory w (Event.Allocate task right) = right ≡ 4 → LacksRoom w task
MayLackMemory w (Event.AllocateName task right name) = right ≡ 4 → LacksPlace w task name
MayLackMemory w (Event.Names task) = HasName w task
MayLackMemory w (Event.Rename task from to) = LacksPlace w task to
MayLackMemory w (Event.SetStatus task name) = Unit {0}
MayLackMemory w (Event.InsertMember task member set) = WantsToEnter w task member
MayLackMemory w event = ⊥
