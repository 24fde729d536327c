-- Who holds a port's receive right, and which ports nobody holds.
use Rattle.std.specs.Prelude.{◌≡◌, ◌≢◌, ℕ, Some}
use Rattle.std.specs.FinMap as map
use Rattle.std.specs.List.{Contains}
use Rattle.port_base.specs.Attributes.{held_by}
use Rattle.port_base.specs.declared.Attributes.{Attributes}
use Rattle.port_base.specs.declared.Holder.{Holder}
use Rattle.port_base.specs.declared.Holder.TheVariants.{Task, QueueOf, Nobody, Doomed}
use Rattle.port.specs.Ports.{PortView, PortsView}

-- a task or a queue
abbrev pub CanHold : Holder → Type 0
CanHold (Task task) = Unit {0}
CanHold (QueueOf port) = Unit {0}
CanHold Nobody = ⊥
CanHold Doomed = ⊥

module _ {M : Type 0} where
  -- the same port with another holder
  abbrev pub held : PortView M → Holder → PortView M
  held p holder = record p { attributes = held_by p.attributes holder }

  -- the port's holder is the one of these attributes, if the port is there
  abbrev pub KeepsHolder : PortsView M → (port : ℕ) → Attributes → Type 0
  KeepsHolder v port a = (p : PortView M) → map.get v.ports port ≡ Some p → a.holder ≡ p.attributes.holder

  -- the first of the port's sets is the one of these attributes, if the port is there
  abbrev pub KeepsSet : PortsView M → (port : ℕ) → Attributes → Type 0
  KeepsSet v port a = (p : PortView M) → map.get v.ports port ≡ Some p → a.set ≡ p.attributes.set

  -- the port is there, and this is its holder
  pub record IsHeldBy (v : PortsView M) (port : ℕ) (holder : Holder) : Type 0 where
    pub view : PortView M
    pub there : map.get v.ports port ≡ Some view
    pub holder_is : view.attributes.holder ≡ holder

  -- no port there has this holder
  abbrev pub NoneHeldBy : PortsView M → Holder → Type 0
  NoneHeldBy v holder = (port : ℕ) (p : PortView M) → map.get v.ports port ≡ Some p → p.attributes.holder ≢ holder

  -- this port isn't doomed: its holder isn't `Doomed`, or it isn't among the doomed ones
  abbrev pub IsNotDoomed : PortsView M → (port : ℕ) → PortView M → Type 0
  IsNotDoomed v port p = p.attributes.holder ≡ Doomed → Contains v.doomed port → ⊥
