-- What stands under a task's names after a port, a port set or a dead name was made; where nothing more can be made; what is kept of a
-- set that is renamed; and the types of all names.
use Rattle.std.specs.Prelude.{◌≡◌, ℕ, ◌+◌, ◌-◌, ◌<◌, ◌≤◌, ◌⊎◌, List, Option, Some, None, slice_set}
use Rattle.std.specs.Prelude as std
use Rattle.std.specs.FinMap as map
use Rattle.mach_types.specs.Numbers.{most_names, most_rights, most_identities}
use Rattle.mach_types.specs.Rights.{request_bit}
use Rattle.name_space.specs.declared.Entry.{Entry}
use Rattle.name_space.specs.declared.Entry.TheVariants as entry
use Rattle.name_space.specs.Entry.{type_in}
use Rattle.name_space.specs.Names.{Names, SpaceView, IsUsable, HasPlace, HasNoOther}
use Rattle.port_set.specs.declared.SetRecord.{SetRecord}
use Rattle.port_set.specs.Sets.{SetsView, created, renamed}
use Rattle.request_table.specs.declared.Request.{Request}
use Rattle.request_table.specs.Requests.{name_key}
use Rattle.copyin_base.specs.Coming.{HasRoomForPort, with_new_port}
use Rattle.request_table.specs.Tables.{RequestTablesView}
use Rattle.copyin_base.specs.Worlds.{WorldView, space_at}
use Rattle.kernel_core_base.specs.declared.names.NewRight.{NewRight}
use Rattle.kernel_core_base.specs.declared.names.NewRight.TheVariants as new_right

-- ---- what is made

-- the number of the right of which it is made
abbrev pub right_made : NewRight → ℕ
right_made new_right.Port = 1
right_made new_right.Set = 3
right_made new_right.DeadName = 4

-- one more of what is made, before it stands under its name
abbrev pub with_made : WorldView → (task : ℕ) → NewRight → (name : ℕ) → WorldView
with_made w task new_right.Port name = with_new_port w task
with_made w task new_right.Set name = record w { sets = created w.sets task name }
with_made w task new_right.DeadName name = w

-- what stands under its name
abbrev pub entry_made : WorldView → NewRight → Entry
entry_made w new_right.Port = entry.Receive w.ports.made
entry_made w new_right.Set = entry.Set w.sets.made
entry_made w new_right.DeadName = entry.DeadName 1

pub record MakesRight (old : WorldView) (task : ℕ) (right : NewRight) (name : ℕ) (e : Entry) (new : WorldView) : Type 0 where
  pub made : e ≡ entry_made old right
  pub rest : new ≡ with_made old task right name

-- It is made, and the task has it under the name, in the place that was made for it.
pub record Adds (old : WorldView) (task : ℕ) (right : NewRight) (name : ℕ) (new : WorldView) : Type 0 where
  pub space : SpaceView
  pub there : space_at old task ≡ Some space
  pub rest : new ≡ record (with_made old task right name) {
    spaces = slice_set old.spaces task (Some (record space { names = map.insert space.names name (entry_made old right); room = space.room - 1 }));
  }

-- ---- where it can't be made

-- There is room for one more, wherever it is named.
abbrev pub HasRoomFor : WorldView → NewRight → Type 0
HasRoomFor w new_right.Port = HasRoomForPort w
HasRoomFor w new_right.Set = w.sets.made < most_identities
HasRoomFor w new_right.DeadName = Unit {0}

abbrev pub IsFullFor : WorldView → NewRight → Type 0
IsFullFor w new_right.Port = (most_rights ≤ w.ledger.total) ⊎ (most_identities ≤ w.ports.made)
IsFullFor w new_right.Set = most_identities ≤ w.sets.made
IsFullFor w new_right.DeadName = ⊥

-- There is room for one more that the task names.
pub record HasRoomOf (w : WorldView) (task : ℕ) (right : NewRight) : Type 0 where
  pub space : SpaceView
  pub there : space_at w task ≡ Some space
  pub room : map.len space.names < most_names
  pub more : HasRoomFor w right

pub record IsFullOf (w : WorldView) (task : ℕ) (right : NewRight) : Type 0 where
  pub space : SpaceView
  pub there : space_at w task ≡ Some space
  pub full : (most_names ≤ map.len space.names) ⊎ IsFullFor w right

-- It is what the right of this number makes, and there is room for it.
pub record MayMake (w : WorldView) (task number : ℕ) (right : NewRight) : Type 0 where
  pub number_is : right_made right ≡ number
  pub room : HasRoomOf w task right

-- The task may have it under the name, for which there is a place; neither the ledger nor the task's names know the next port.
pub record CanAdd (w : WorldView) (task : ℕ) (right : NewRight) (name : ℕ) : Type 0 where
  pub has : HasRoomOf w task right
  pub usable : IsUsable name
  pub unused : map.get has.space.names name ≡ None
  pub place : HasPlace has.space name
  pub unknown : map.get w.ledger.counts w.ports.made ≡ None
  pub apart : HasNoOther has.space.names (entry_made w right)

-- ---- renaming

-- the sets after their task's name for one of them, if it is there
abbrev pub renamed_in : Option SetRecord → SetsView → (set name : ℕ) → SetsView
renamed_in (Some r) sets set name = renamed sets set r name
renamed_in None sets set name = sets

-- the sets after what was under another name of the task comes under this one
abbrev pub sets_named : Entry → (name : ℕ) → SetsView → SetsView
sets_named (entry.Set set) name sets = renamed_in (map.get sets.sets set) sets set name
sets_named e name sets = sets

-- ---- types

-- the bit for a request on the name
abbrev pub bit_requested : Option Request → ℕ
bit_requested (Some r) = request_bit
bit_requested None = 0

-- the type of a task's name under which this stands
abbrev pub type_of_entry : RequestTablesView → (task name : ℕ) → Entry → ℕ
type_of_entry requests task name e = type_in e + bit_requested (map.get requests.names.requests (name_key task name))

-- the type of what is under a name, 0 where nothing is
abbrev pub type_found : RequestTablesView → (task name : ℕ) → Option Entry → ℕ
type_found requests task name (Some e) = type_of_entry requests task name e
type_found requests task name None = 0

-- the names of the task with their types, names rising
abbrev pub types_of : RequestTablesView → (task : ℕ) → Names → List (ℕ × ℕ)
types_of requests task names = std.map (λ n. (n, type_found requests task n (map.get names n))) (map.keys names)
