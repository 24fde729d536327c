-- The way of a port's receive right: from the port to the one in whose queue its right lies, and so on.
use Rattle.std.specs.Prelude.{ℕ, List}
use Rattle.std.specs.List.{Contains}
use Rattle.port.specs.declared.Holder.TheVariants.{QueueOf}
use Rattle.port.specs.Holding.{IsHeldBy}
use Rattle.port.specs.Ports.{PortsView}

-- The way from a port comes to a port, if only to itself.
pub data Leads {M : Type 0} (v : PortsView M) : ℕ → ℕ → Type 0 where
  here : (port : ℕ) → Leads v port port
  there : (port queue last : ℕ) → IsHeldBy v port (QueueOf queue) → Leads v queue last → Leads v port last

-- The way from the destination comes to a carried port.
abbrev pub LeadsToAny : {M : Type 0} → PortsView M → (destination : ℕ) → (carried : List ℕ) → Type 0
LeadsToAny v destination carried = (port : ℕ) × Contains carried port × Leads v destination port
