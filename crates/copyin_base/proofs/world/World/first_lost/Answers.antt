use Rattle.std.proofs.Common.{ℕ, subst}
use Rattle.std.specs.Prelude.{◌↔◌, Contains}
use Rattle.port.specs.declared.Holder.TheVariants as holder
use Rattle.port.specs.Holding.{IsHeldBy}
use Rattle.copyin_base.specs.Worlds.{WorldView}
use Rattle.copyin_base.proofs.world.World.first_lost.Goals as goal

pub returns-clause-all : goal.returns-clause-all
returns-clause-all c = subst (λ (w : WorldView). (port : ℕ) → Contains w.ports.lost port ↔ IsHeldBy w.ports port holder.Nobody) c.self.view_is c.first_lost.ensures.all
