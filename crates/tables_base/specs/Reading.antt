-- What stands under a name: what is kept there, read with the ports that are there. The record of a right whose port has died stays as it
-- is, and is read as a dead name with as many references. So no entry that is read is for a port that is gone, and the death of a port
-- rewrites no name.
use Rattle.std.specs.Prelude.{◌≡◌, ℕ, ◌<◌, Bool, if◌then◌else◌, List, Option, Some, is_some, get_or, None}
use Rattle.std.specs.Prelude.{map as map_list}
use Rattle.std.specs.Option.{option_map}
use Rattle.std.specs.FinMap as map
use Rattle.name_space.specs.declared.Entry.{Entry}
use Rattle.name_space.specs.declared.Entry.TheVariants.{Receive, Send, ReceiveAndSend, SendOnce, DeadName, Set}
use Rattle.name_space.specs.Entry.{port_of}
use Rattle.name_space.specs.Names.{Names, SpaceView}
use Rattle.port.specs.Ports.{PortsView, IsLive}
use Rattle.tables_base.specs.Kept.{Kept}

-- the entry, or the dead name that is left of it once its port is gone
abbrev pub reading : (live : ℕ → Bool) → Entry → Entry
reading live (Receive port) = if live port then Receive port else DeadName 1
reading live (Send port references) = if live port then Send port references else DeadName references
reading live (ReceiveAndSend port references) = if live port then ReceiveAndSend port references else DeadName references
reading live (SendOnce port) = if live port then SendOnce port else DeadName 1
reading live (DeadName references) = DeadName references
reading live (Set set) = Set set

abbrev pub read_names : (live : ℕ → Bool) → Names → Names
read_names live names = map.from_sorted (map_list (λ e. (e.0, reading live e.1)) (map.entries names))

abbrev pub read_space : (live : ℕ → Bool) → SpaceView → SpaceView
read_space live space = record space { names = read_names live space.names }

abbrev pub read_spaces : (live : ℕ → Bool) → List (Option SpaceView) → List (Option SpaceView)
read_spaces live spaces = map_list (option_map (read_space live)) spaces

-- whether the port is there
abbrev pub live_in : PortsView Kept → ℕ → Bool
live_in ports port = is_some (map.get ports.ports port)

-- ---- what is kept

-- What a name keeps is for a port that was made, and so is each port that is there. So a port that comes later, whose identity is new, makes
-- nothing live that was read as dead.
pub record AreGiven (spaces : List (Option SpaceView)) (ports : PortsView Kept) : Type 0 where
  pub kept : (task name : ℕ) (space : SpaceView) (entry : Entry) (port : ℕ) → get_or spaces task None ≡ Some space → map.get space.names name ≡ Some entry →
      port_of entry ≡ Some port → port < ports.made
  pub there : (port : ℕ) → IsLive ports port → port < ports.made
