-- What a reason tells, as the kernel's tables have it. From this follows what it tells of each state that they show.
use Rattle.std.specs.Prelude.{◌≡◌, ◌≢◌, ℕ, ◌<◌, ◌≤◌, ◌+◌, pos, negsuc, Bool, true, false, List, [], ◌∷◌, length, Option, Some, None, is_some, Contains}
use Rattle.std.specs.FinMap as map
use Rattle.mach_types.specs.Numbers.{most_tasks, most_names, most_references, most_rights, greatest_limit}
use Rattle.mach_types.specs.declared.calls.Waited.{Waited}
use Rattle.mach_model.specs.NameGuards.{IsNoName}
use Rattle.mach_model.specs.Refusals.{IsNoMaking, IsDisposition}
use Rattle.name_space.specs.declared.Entry.{Entry as Standing}
use Rattle.name_space.specs.declared.Entry.TheVariants.{DeadName}
use Rattle.name_space.specs.Entry.{port_named, receive_named}
use Rattle.name_space.specs.Names.{SpaceView}
use Rattle.circularity.specs.Chains.{LeadsToAny}
use Rattle.port.specs.Ports.{PortView, sets_in, IsIn as IsMember}
use Rattle.port.specs.declared.Holder.TheVariants.{Task}
use Rattle.port_set.specs.declared.SetRecord.{SetRecord}
use Rattle.copyin_base.specs.Kept.{Kept}
use Rattle.copyin_base.specs.Worlds.{WorldView, HasTask, has_several_sets, space_at, entry_at, port_at}
use Rattle.mach_follow.specs.declared.follower.Place.{Place}
use Rattle.mach_causes_base.specs.declared.cause.Reason.{Reason}
use Rattle.mach_causes_base.specs.Needs.{meets, counted, is_dead, is_set, IsWanted, IsOutOfRange}

-- what stands under the name
abbrev pub under : WorldView → Place → Option Standing
under w place = entry_at w place.task place.name

-- of this number fewer were made, or not
abbrev pub WasMade : (number made : ℕ) → (was_made : Bool) → Type 0
WasMade number made true = number < made
WasMade number made false = made ≤ number

abbrev pub LacksTask : WorldView → (task : ℕ) → (was_made : Bool) → Type 0
LacksTask w task was_made = (space_at w task ≡ None) × WasMade task (length w.spaces) was_made

-- the task lives and has so many names
pub record HasNames (w : WorldView) (task names : ℕ) : Type 0 where
  pub space : SpaceView
  pub there : space_at w task ≡ Some space
  pub number : map.len space.names ≡ names

-- a dead name is there
pub record IsDead (w : WorldView) (place : Place) : Type 0 where
  pub references : ℕ
  pub there : under w place ≡ Some (DeadName references)

-- a right for the port is there, by these entries' ports
pub record HasPort (port_in : Standing → Option ℕ) (w : WorldView) (place : Place) (port : ℕ) : Type 0 where
  pub standing : Standing
  pub there : under w place ≡ Some standing
  pub for_port : port_in standing ≡ Some port

-- the port is there, and is in this set, or in none
abbrev pub AreIn : List ℕ → Option ℕ → Type 0
AreIn sets None = sets ≡ []
AreIn sets (Some set) = Contains sets set

pub record IsIn (w : WorldView) (port : ℕ) (set : Option ℕ) : Type 0 where
  pub view : PortView Kept
  pub there : port_at w port ≡ Some view
  pub in_set : AreIn (sets_in view) set

pub record IsNotIn (w : WorldView) (port set : ℕ) : Type 0 where
  pub view : PortView Kept
  pub there : port_at w port ≡ Some view
  pub not_in : ¬ (IsMember w.ports set port)

pub record IsFull (w : WorldView) (port queued limit : ℕ) : Type 0 where
  pub view : PortView Kept
  pub there : port_at w port ≡ Some view
  pub waiting : length view.queue ≡ queued
  pub at_most : view.attributes.limit ≡ limit
  pub full : limit ≤ queued

abbrev pub IsNotThere : WorldView → Waited → Type 0
IsNotThere w (Waited.Port port) = port_at w port ≡ None
IsNotThere w (Waited.Set set) = map.get w.sets.sets set ≡ None

abbrev pub WasMadeOnce : WorldView → Waited → (once : Bool) → Type 0
WasMadeOnce w (Waited.Port port) once = WasMade port w.ports.made once
WasMadeOnce w (Waited.Set set) once = WasMade set w.sets.made once

abbrev pub LacksWaited : WorldView → Waited → (once : Bool) → Type 0
LacksWaited w waited once = IsNotThere w waited × WasMadeOnce w waited once

-- the port is there, and another holds its receive right
pub record IsKeptFrom (w : WorldView) (task port : ℕ) : Type 0 where
  pub view : PortView Kept
  pub there : port_at w port ≡ Some view
  pub kept : view.attributes.holder ≢ Task task

pub record IsOthers (w : WorldView) (task set : ℕ) : Type 0 where
  pub set_record : SetRecord
  pub there : map.get w.sets.sets set ≡ Some set_record
  pub other : set_record.owner ≢ task

abbrev pub IsOutOfReach : WorldView → (task : ℕ) → Waited → Type 0
IsOutOfReach w task (Waited.Port port) = IsKeptFrom w task port
IsOutOfReach w task (Waited.Set set) = IsOthers w task set

-- What the reason tells is so in the tables.
abbrev pub Tells : WorldView → Reason → Type 0
Tells w (Reason.NoTask task ended) = LacksTask w task (is_some ended)
Tells w Reason.TasksFull = length w.spaces ≡ most_tasks
Tells w (Reason.NamesFull task) = HasNames w task most_names
Tells w (Reason.NamesShort task names) = HasNames w task names
Tells w (Reason.RightsFull rights more) = (w.ledger.total ≡ rights) × (most_rights < rights + more)
Tells w (Reason.Absent place before) = HasTask w place.task × (under w place ≡ None)
Tells w (Reason.Lacks place standing wanted) = (under w place ≡ Some standing) × IsWanted wanted × (meets wanted standing ≡ false) × (is_dead standing ≡ false)
Tells w (Reason.Dead place) = IsDead w place
Tells w (Reason.TakenBefore place standing) = (under w place ≡ Some standing) × (is_set standing ≡ false)
Tells w (Reason.Used place standing) = under w place ≡ Some standing
Tells w (Reason.Elsewhere place port) = HasPort port_named w place port
Tells w (Reason.References place standing) = (under w place ≡ Some standing) × (counted standing ≡ most_references)
Tells w (Reason.Change place standing delta) = (under w place ≡ Some standing) × (0 < counted standing) × IsOutOfRange (counted standing) delta
Tells w (Reason.DeadUnasked place) = IsDead w place
Tells w (Reason.InNoSet place port) = HasPort receive_named w place port × IsIn w port None
Tells w (Reason.InSet place port set) = HasPort receive_named w place port × IsIn w port (Some set)
Tells w (Reason.AlreadyIn place port set) = HasPort receive_named w place port × IsIn w port (Some set)
Tells w (Reason.NotIn place port set) = HasPort receive_named w place port × IsNotIn w port set
Tells w (Reason.Full port queued limit) = IsFull w port queued limit
Tells w (Reason.Died waited was_made) = LacksWaited w waited was_made
Tells w (Reason.Member port set) = IsIn w port (Some set)
Tells w (Reason.Changed task waited) = IsOutOfReach w task waited
Tells w (Reason.OwnDestination place port) = HasPort receive_named w place port
Tells w (Reason.Loop place carried destination) = HasPort receive_named w place carried × (carried ≢ destination) × LeadsToAny w.ports destination (carried ∷ [])
Tells w (Reason.NotMade right) = IsNoMaking right
Tells w (Reason.NoRight right) = 4 < right
Tells w (Reason.NoName name) = IsNoName name
Tells w (Reason.Limit limit) = greatest_limit < limit
Tells w (Reason.NoDisposition number) = ¬ (IsDisposition number)
Tells w (Reason.NoVariant variant) = (variant ≢ 69) × (variant ≢ 70) × (variant ≢ 72)
Tells w (Reason.PaysBy number) = (number ≢ 18) × (number ≢ 21)
Tells w (Reason.Sync number) = 0 < number
Tells w (Reason.NoReferences delta) = (delta ≢ pos 0) × (delta ≢ negsuc 0)
Tells w (Reason.Message fault) = Unit {0}
Tells w Reason.Memory = Unit {0}
Tells w Reason.NoBuffer = Unit {0}
Tells w Reason.OneSet = has_several_sets w.profile ≡ false
