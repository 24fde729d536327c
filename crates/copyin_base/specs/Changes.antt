-- What the verbs of the tables change: what stands under one name, or the attributes of one port. All else stays.
use Rattle.std.specs.Prelude.{◌≤◌, ◌≡◌, ◌⊎◌, ℕ, ◌-◌, ◌<◌, List, [], Option, Some, None, IfSome, length, max, true, Contains}
use Rattle.std.specs.Option.{option_map}
use Rattle.std.specs.FinMap as map
use Rattle.mach_types.specs.Numbers.{most_names}
use Rattle.name_space.specs.declared.Entry.{Entry}
use Rattle.name_space.specs.Entry.{port_named, port_of, with_send}
use Rattle.name_space.specs.Names.{SpaceView, IsUsable, HasPlace, HasRoomIn, HasNoOther, CanCountIn, given_after}
use Rattle.name_space.specs.Names.{port_at as named_at}
use Rattle.port.specs.declared.Attributes.{Attributes}
use Rattle.port.specs.declared.Holder.{Holder}
use Rattle.port.specs.Ports.{PortView, with_port, IsLive}
use Rattle.rights.specs.Ledger.{counts_of}
use Rattle.tables_base.specs.Kept.{Kept}
use Rattle.copyin_base.specs.Requests.{requests_after}
use Rattle.copyin_base.specs.Worlds.{WorldView, entry_at, space_at, with_space, port_at, put}

-- ---- what stands under a name

-- The port is there that the entry is for, if it is for any.
abbrev pub IsForLive : WorldView → Entry → Type 0
IsForLive w entry = (port : ℕ) → port_of entry ≡ Some port → IsLive w.ports port

-- The name is in use, and what is left there is for the port that it was for, if for any, which is there.
pub record CanPutLeft (w : WorldView) (task name : ℕ) (left : Option Entry) : Type 0 where
  pub space : SpaceView
  pub there : space_at w task ≡ Some space
  pub used : map.contains_key space.names name ≡ true
  pub same : IfSome left (λ e. (port : ℕ) → port_named e ≡ Some port → named_at space.names name ≡ Some port)
  pub lives : IfSome left (λ e. IsForLive w e)

-- This is left under the name; the name goes where nothing is, and the request on it ends.
pub record PutsLeft (old : WorldView) (task name : ℕ) (left : Option Entry) (new : WorldView) : Type 0 where
  pub space : SpaceView
  pub there : space_at old task ≡ Some space
  pub rest : new ≡ record (with_space old task (record space { names = put space.names name left })) { requests = requests_after old.requests task name left }

-- The task may have the entry under the name, in a place that was made: the name isn't in use, no other is for the entry's port, and that is
-- there.
pub record CanInsert (w : WorldView) (task name : ℕ) (entry : Entry) : Type 0 where
  pub space : SpaceView
  pub there : space_at w task ≡ Some space
  pub usable : IsUsable name
  pub unused : map.get space.names name ≡ None
  pub few : map.len space.names < most_names
  pub place : HasPlace space name
  pub apart : HasNoOther space.names entry
  pub lives : IsForLive w entry

pub record InsertsEntry (old : WorldView) (task name : ℕ) (entry : Entry) (new : WorldView) : Type 0 where
  pub space : SpaceView
  pub there : space_at old task ≡ Some space
  pub rest : new ≡ with_space old task (record space { names = map.insert space.names name entry; room = space.room - 1 })

-- There is room for just so many fresh names of the task, or for as many as there was where that is more.
pub record MakesRoom (old : WorldView) (task number : ℕ) (new : WorldView) : Type 0 where
  pub space : SpaceView
  pub there : space_at old task ≡ Some space
  pub rest : new ≡ with_space old task (record space { room = max space.room number })

-- A place is kept for this name of the task, and for no other.
pub record KeepsPlace (old : WorldView) (task name : ℕ) (new : WorldView) : Type 0 where
  pub space : SpaceView
  pub there : space_at old task ≡ Some space
  pub rest : new ≡ with_space old task (record space { kept = Some name })

-- The task may have the entry under a fresh name, in room, and the name can be counted.
pub record CanInsertFresh (w : WorldView) (task name : ℕ) (entry : Entry) : Type 0 where
  pub can : CanInsert w task name entry
  pub room : HasRoomIn can.space.given can.space name
  pub counts : CanCountIn can.space.given can.space name

-- The task has the entry under the name, which is counted as a fresh one where names have a generation.
pub record InsertsFresh (old : WorldView) (task name : ℕ) (entry : Entry) (new : WorldView) : Type 0 where
  pub space : SpaceView
  pub there : space_at old task ≡ Some space
  pub rest : new ≡ with_space old task (record space { names = map.insert space.names name entry; room = space.room - 1; given = given_after space.given name })

-- The task's name for the port, under which this stood, has a send reference more.
pub record AddsSend (old : WorldView) (task port name : ℕ) (entry : Entry) (new : WorldView) : Type 0 where
  pub space : SpaceView
  pub there : space_at old task ≡ Some space
  pub found : map.get space.names name ≡ Some entry
  pub named : port_named entry ≡ Some port
  pub rest : new ≡ with_space old task (record space { names = map.insert space.names name (with_send entry) })

-- This stands under the first name of the task and may stand under the second, which isn't in use.
pub record MayRename (w : WorldView) (task from to : ℕ) (e : Entry) : Type 0 where
  pub found : entry_at w task from ≡ Some e
  pub unused : entry_at w task to ≡ None
  pub usable : IsUsable to

-- What is under the first name of the task goes under the second, for which a place is kept, in its names alone.
pub record MovesEntry (old : WorldView) (task from to : ℕ) (e : Entry) (new : WorldView) : Type 0 where
  pub space : SpaceView
  pub there : space_at old task ≡ Some space
  pub rest : new ≡ with_space old task (record space { names = map.insert (map.remove space.names from) to e; room = space.room - 1 })

-- All is as before, but for places for names to come and for counts of fresh ones.
pub record SameButNaming (old new : WorldView) : Type 0 where
  pub tasks : length new.spaces ≡ length old.spaces
  pub names : (task : ℕ) → option_map (λ (x : SpaceView). x.names) (space_at new task) ≡ option_map (λ (x : SpaceView). x.names) (space_at old task)
  pub ports : new.ports ≡ old.ports
  pub ledger : new.ledger ≡ old.ledger
  pub sets : new.sets ≡ old.sets
  pub requests : new.requests ≡ old.requests
  pub profile : new.profile ≡ old.profile

-- All is as before, but for places for names to come.
pub record SameButRoom (old new : WorldView) : Type 0 where
  pub naming : SameButNaming old new
  pub open naming use *
  pub given : (task : ℕ) → option_map (λ (x : SpaceView). x.given) (space_at new task) ≡ option_map (λ (x : SpaceView). x.given) (space_at old task)

-- All is as before but the number of spare message slots.
abbrev pub with_slots : WorldView → ℕ → WorldView
with_slots w n = record w { ports = record w.ports { spare = n } }

-- ---- a port

pub record SetsAttributes (old : WorldView) (port : ℕ) (attributes : Attributes) (new : WorldView) : Type 0 where
  pub v : PortView Kept
  pub there : port_at old port ≡ Some v
  pub rest : new ≡ record old { ports = with_port old.ports port (record v { attributes = attributes }) }

-- This holds the port's receive right now; all else of the port is as it was.
pub record SetsHolder (old : WorldView) (port : ℕ) (holder : Holder) (new : WorldView) : Type 0 where
  pub v : PortView Kept
  pub there : port_at old port ≡ Some v
  pub rest : new ≡ record old { ports = with_port old.ports port (record v { attributes = record v.attributes { holder = holder } }) }

-- These are the attributes of a port that is there. Where they tell of no set it is in none.
pub record HasAttributes (w : WorldView) (port : ℕ) (attributes : Attributes) : Type 0 where
  pub v : PortView Kept
  pub there : port_at w port ≡ Some v
  pub are : v.attributes ≡ attributes
  pub none : attributes.set ≡ None → v.more ≡ []

-- ---- send rights that go

-- The port is there and has no send rights, and a request stands to be told of that.
pub record IsSenderless (w : WorldView) (port : ℕ) : Type 0 where
  pub live : IsLive w.ports port
  pub asked : map.contains_key w.requests.no_senders.map port ≡ true
  pub none : (counts_of w.ledger port).send ≡ 0

-- Where the port is so, it is noted, for the end of the step; all else stays.
pub record NotesSenderless (old : WorldView) (port : ℕ) (new : WorldView) : Type 0 where
  pub noted : List ℕ
  pub rest : new ≡ record old { ports = record old.ports { noted = noted } }
  pub notes : IsSenderless old port → Contains noted port
  pub stay : (q : ℕ) → Contains old.ports.noted q → Contains noted q
  pub only : (q : ℕ) → Contains noted q → Contains old.ports.noted q ⊎ (q ≡ port) × IsSenderless old port

-- Where a port was lost, no port has more send rights than before: no call makes send rights and loses a receive right.
abbrev pub MakesNoSends : (old new : WorldView) → Type 0
MakesNoSends old new = (lost : ℕ) → Contains new.ports.lost lost → (port : ℕ) → (counts_of new.ledger port).send ≤ (counts_of old.ledger port).send

-- Each port that had send rights, and is senderless now, is noted; each that is noted had send rights.
pub record NotesSenders (old new : WorldView) : Type 0 where
  pub noted : (port : ℕ) → 0 < (counts_of old.ledger port).send → IsSenderless new port → Contains new.ports.noted port
  pub had : (port : ℕ) → Contains new.ports.noted port → 0 < (counts_of old.ledger port).send
