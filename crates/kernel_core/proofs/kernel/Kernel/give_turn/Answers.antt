use Rattle.std.proofs.Common.{◌≡◌, sym, ap, subst}
use Rattle.copyin_base.specs.Worlds.{WorldView}
use Rattle.copyin_base.specs.Shows.{Shows}
use Rattle.kernel_core.specs.Kernels.{KernelView}
use Rattle.kernel_core.proofs.Chosen.{turned-shows, turned-stands}
use Rattle.kernel_core.proofs.kernel.Kernel.give_turn.Goals as goal

pub invariant_of-self : goal.invariant_of-self
invariant_of-self c = turned-stands c.self.inside.world c.give_turn.new.world c.give_turn.ensures c.self.invariant

pub returns-clause-shows : goal.returns-clause-shows
returns-clause-shows c =
    let same : c.self.inside.world ≡ c.args.self.now.tables = ap (λ (k : KernelView). k.tables) c.self.view_is in
    λ s shown. turned-shows c.self.inside.world c.give_turn.new.world s c.give_turn.ensures (subst (λ (w : WorldView). Shows w s) (sym same) shown)
