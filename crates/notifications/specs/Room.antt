-- The memory that is made before a request is carried out: for the name of the right that comes out, for the request, and for the notice that
-- a right brings which is made.
use Rattle.std.specs.Prelude.{◌≡◌, ℕ, ◌+◌, ◌<◌, ◌≤◌, true, Option, Some, None, is_some, if◌then◌else◌, max}
use Rattle.copyin_base.specs.Changes.{SameButRoom, with_slots}
use Rattle.request_table.specs.Tables.{RequestTablesView}
use Rattle.copyin_base.specs.Wanted.{room_of}
use Rattle.copyin_base.specs.Worlds.{WorldView}
use Rattle.notifications.specs.declared.request.Paying.{Paying}
use Rattle.notifications.specs.declared.request.Subject.{Subject}
use Rattle.notifications.specs.declared.request.Subject.TheVariants.{Receive, Senders, Live, Dead}
use Rattle.notifications.specs.Requesting.{is_made_by, ComesOut}

-- how many rights are made
abbrev pub made_by : Option Paying → ℕ
made_by paying = if is_made_by paying then 1 else 0

-- ---- room for a request

-- with room for one on the subject; none is kept on a name that is dead
abbrev pub with_place : RequestTablesView → Subject → RequestTablesView
with_place v (Receive p) = record v { port_destroyed = record v.port_destroyed { room = max v.port_destroyed.room 1 } }
with_place v (Senders p) = record v { no_senders = record v.no_senders { room = max v.no_senders.room 1 } }
with_place v (Live p) = record v { names = record v.names { room = max v.names.room 1 } }
with_place v (Dead n) = v

-- ... where a right is given that pays
abbrev pub place_for : RequestTablesView → Subject → Option Paying → RequestTablesView
place_for v subject None = v
place_for v subject (Some g) = with_place v subject

-- There is none.
abbrev pub LacksPlace : RequestTablesView → Subject → Type 0
LacksPlace v (Receive p) = v.port_destroyed.room ≡ 0
LacksPlace v (Senders p) = v.no_senders.room ≡ 0
LacksPlace v (Live p) = v.names.room ≡ 0
LacksPlace v (Dead n) = ⊥

-- There is room for one.
abbrev pub HasPlace : RequestTablesView → Subject → Type 0
HasPlace v (Receive p) = 0 < v.port_destroyed.room
HasPlace v (Senders p) = 0 < v.no_senders.room
HasPlace v (Live p) = 0 < v.names.room
HasPlace v (Dead n) = Unit {0}

-- ---- all of it

-- the requests with so much room
abbrev pub with_rooms : RequestTablesView → (names senders destroyed : ℕ) → RequestTablesView
with_rooms v names senders destroyed = record {
  names = record v.names { room = names };
  no_senders = record v.no_senders { room = senders };
  port_destroyed = record v.port_destroyed { room = destroyed };
}

-- All is as before, but for room and for spare slots, of which there are no fewer.
pub record SameButRooms (old new : WorldView) : Type 0 where
  pub spare : ℕ
  pub names : ℕ
  pub senders : ℕ
  pub destroyed : ℕ
  pub more : old.ports.spare ≤ spare
  pub same : SameButRoom (record (with_slots old spare) { requests = with_rooms old.requests names senders destroyed }) new

-- There is room for the name of the right that comes out, where one does; all else is as before.
pub record HasNameRoom (old : WorldView) (task : ℕ) (previous : Option ℕ) (new : WorldView) : Type 0 where
  pub same : SameButRoom old new
  pub room : ComesOut old previous → 0 < room_of new task

-- There is room for all that is to be done.
pub record Readies (old : WorldView) (task : ℕ) (subject : Subject) (paying : Option Paying) (previous : Option ℕ) (new : WorldView) : Type 0 where
  pub same : SameButRooms old new
  pub room : ComesOut old previous → 0 < room_of new task
  pub place : is_some paying ≡ true → HasPlace new.requests subject
  pub slots : new.ledger.unused + made_by paying ≤ new.ports.spare
