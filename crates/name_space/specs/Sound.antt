-- What always holds of a space. No public clause cites this module.
use Rattle.std.specs.Prelude.{◌≡◌, ◌⊎◌, ℕ, ◌<◌, ◌≤◌, Option, Some, None}
use Rattle.std.specs.FinMap as map
use Rattle.mach_types.specs.Numbers.{null_word, dead_word, most_names}
use Rattle.name_space.specs.Names.{SpaceView, port_at}
use Rattle.name_space.specs.Ports.{PortsView}

-- A port leads to the name that is for it, and room is for ports too.
pub record IsSound (table : SpaceView) (ports : PortsView) (len : ℕ) : Type 0 where
  pub named : (port name : ℕ) → map.get ports.names port ≡ Some name → port_at table.names name ≡ Some port
  pub found : (port name : ℕ) → port_at table.names name ≡ Some port → map.get ports.names port ≡ Some name
  pub same_kept : ports.kept ≡ table.kept
  pub has_room : table.room ≤ ports.room
  pub counted : len ≡ map.len table.names
  pub few : len ≤ most_names
  pub not_null : map.get table.names null_word ≡ None
  pub not_dead : map.get table.names dead_word ≡ None

-- the port that goes where an entry for the second is put in place of one for the first: none where a port stays
abbrev pub lost : Option ℕ → Option ℕ → Option ℕ
lost from None = from
lost from (Some port) = None

-- There is room for the port that leaves the place, beside so many fresh names, or no port has to.
abbrev pub CanMove : SpaceView → PortsView → Type 0
CanMove table ports = (table.room < ports.room) ⊎ ((kept : ℕ) → table.kept ≡ Some kept → port_at table.names kept ≡ None)
