-- Where memory is wanted, and what is kept of it for what is to come.
use Rattle.std.specs.Prelude.{◌≡◌, ◌≢◌, ◌⊎◌, ℕ, ◌+◌, ◌<◌, ◌≤◌, max, Option, Some, None}
use Rattle.name_space_base.specs.High.{KeepsUsed}
use Rattle.name_space.specs.Names.{SpaceView, MayWantIn}
use Rattle.copyin_base.specs.Worlds.{WorldView, space_at}

abbrev pub room_in : Option SpaceView → ℕ
room_in (Some space) = space.room
room_in None = 0

-- for how many fresh names of the task there is room; 0 where the task isn't there
abbrev pub room_of : WorldView → (task : ℕ) → ℕ
room_of w task = room_in (space_at w task)

-- There is less room than for so many fresh names of the task.
abbrev pub LacksRoomFor : WorldView → (task number : ℕ) → Type 0
LacksRoomFor w task number = room_of w task < number

-- There is no room for a fresh name of the task.
abbrev pub LacksRoom : WorldView → (task : ℕ) → Type 0
LacksRoom w task = room_of w task ≡ 0

abbrev pub kept_in : Option SpaceView → Option ℕ
kept_in (Some space) = space.kept
kept_in None = None

-- the name of the task for which a place is kept
abbrev pub kept_of : WorldView → (task : ℕ) → Option ℕ
kept_of w task = kept_in (space_at w task)

-- Memory may be wanted for a place for the name of the task that is chosen: no place is kept for it, and the one that is given up has a name in
-- use, or memory may be wanted where the name lies.
pub record LacksPlace (w : WorldView) (task name : ℕ) : Type 0 where
  pub space : SpaceView
  pub there : space_at w task ≡ Some space
  pub none_kept : space.kept ≢ Some name
  pub wanted : KeepsUsed space.names space.kept ⊎ MayWantIn space.given space name

-- Fewer message slots are spare than send-once rights that no queued message goes by, and so many more.
abbrev pub LacksSlots : WorldView → (more : ℕ) → Type 0
LacksSlots w more = w.ports.spare < w.ledger.unused + more

-- Room for fresh names grows by one name at most, and spare slots stay.
pub record KeepsSpares (old new : WorldView) : Type 0 where
  pub rooms : (task : ℕ) → room_of new task ≤ max (room_of old task) 1
  pub slots : new.ports.spare ≡ old.ports.spare

-- Room for fresh names grows by one name at most, and a spare slot goes with each send-once right that was unused and is no more: in it lies the
-- notice for which the right pays.
pub record UsesSpares (old new : WorldView) : Type 0 where
  pub rooms : (task : ℕ) → room_of new task ≤ max (room_of old task) 1
  pub fewer : new.ledger.unused ≤ old.ledger.unused
  pub slots : new.ports.spare + old.ledger.unused ≡ old.ports.spare + new.ledger.unused
