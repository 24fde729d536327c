use Rattle.std.proofs.Common.{ℕ, subst}
use Rattle.std.specs.Prelude.{◌↔◌, Contains}
use Rattle.port.specs.declared.Holder.TheVariants as holder
use Rattle.port.specs.Holding.{IsHeldBy}
use Rattle.copyin_base.specs.Worlds.{WorldView}
use Rattle.copyin_base.proofs.world.World.are_ports_idle.Goals as goal

pub returns-clause-lost : goal.returns-clause-lost
returns-clause-lost c = subst (λ (w : WorldView). (port : ℕ) → Contains w.ports.lost port ↔ IsHeldBy w.ports port holder.Nobody) c.self.view_is c.is_idle.ensures.lost

pub returns-clause-doomed : goal.returns-clause-doomed
returns-clause-doomed c = subst (λ (w : WorldView). (port : ℕ) → Contains w.ports.doomed port ↔ IsHeldBy w.ports port holder.Doomed) c.self.view_is c.is_idle.ensures.doomed
