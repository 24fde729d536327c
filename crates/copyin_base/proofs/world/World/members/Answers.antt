use Rattle.std.proofs.Common.{ℕ, IfOk, subst}
use Rattle.std.specs.Prelude.{Contains}
use Rattle.port.specs.Ports.{IsIn}
use Rattle.copyin_base.specs.Worlds.{WorldView}
use Rattle.copyin_base.proofs.world.World.members.Goals as goal

pub returns-clause-only : goal.returns-clause-only
returns-clause-only c = subst (λ (w : WorldView). IfOk c.members.result (λ ports. (port : ℕ) → Contains ports.items port → IsIn w.ports c.args.set port)) c.self.view_is c.members.ensures.only
