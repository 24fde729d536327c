use Rattle.std.proofs.Common.{ℕ, sym, ap, ◌∙◌, subst}
use Rattle.kernel_core.specs.Bounds.{most_told, IsWithin}
use Rattle.kernel_core.specs.Kernels.{KernelView}
use Rattle.kernel_core.proofs.Bounding.{bounded}
use Rattle.kernel_core.proofs.kernel.Kernel.reply_bound.Goals as goal

pub returns-clause-within : goal.returns-clause-within
returns-clause-within c = λ now s t reply sh step.
    subst
    (λ (n : ℕ). IsWithin c.args.event.now n reply)
    (sym (c.most_told.ensures.most ∙ ap (λ (k : KernelView). most_told k.tables c.args.event.now) c.self.view_is))
    (bounded c.args.self.now.tables now s c.args.event.now reply t sh step)
