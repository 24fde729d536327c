-- Receive rights in a message: whether they close a loop, and whose queue holds them once it is sent.
use Rattle.std.specs.Prelude.{◌≡◌, ℕ, List, [], ◌∷◌, Contains, MatchOption}
use Rattle.circularity.specs.Chains.{Leads}
use Rattle.mach_types.specs.declared.rights.Disposition.TheVariants.{MoveReceive}
use Rattle.port.specs.declared.Holder.TheVariants.{QueueOf}
use Rattle.port.specs.Ports.{PortsView}
use Rattle.copyin_base.specs.declared.Carried.{Carried}
use Rattle.copyin_base.specs.declared.Mark.TheVariants as mark
use Rattle.copyin_base.specs.Changes.{SetsHolder}
use Rattle.copyin_base.specs.Kept.{Kept, receive_of}
use Rattle.copyin_base.specs.Worlds.{WorldView}

-- Among the rights of a message to this port is the receive right of one to which the way from there comes, or its own.
pub record MakesLoop (ports : PortsView Kept) (destination : ℕ) (rights : List Carried) : Type 0 where
  pub port : ℕ
  pub moved : Contains rights (record { given = MoveReceive; mark = mark.Port port })
  pub leads : Leads ports destination port

-- The queue holds the receive right now, if it is one.
abbrev pub HoldsRight : WorldView → (queue : ℕ) → Carried → WorldView → Type 0
HoldsRight old queue c new = MatchOption (receive_of c) (new ≡ old) (λ port. SetsHolder old port (QueueOf queue) new)

-- So it does each receive right among these.
abbrev pub HoldsRights : WorldView → (queue : ℕ) → List Carried → WorldView → Type 0
HoldsRights old queue [] new = new ≡ old
HoldsRights old queue (c ∷ cs) new = (mid : WorldView) × HoldsRight old queue c mid × HoldsRights mid queue cs new
