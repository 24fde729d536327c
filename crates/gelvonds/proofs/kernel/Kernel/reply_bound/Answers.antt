use Rattle.std.proofs.Common.{sym, subst}
use Rattle.copyin_base.specs.Shows.{Shows}
use Rattle.kernel_core.specs.Kernels.{KernelView}
use Rattle.gelvonds.proofs.kernel.Kernel.reply_bound.Goals as goal

pub returns-clause-within : goal.returns-clause-within
returns-clause-within c = λ now s t reply shown step. c.reply_bound.ensures.within now s t reply (subst (λ (k : KernelView). Shows k.tables s) (sym c.self.view_is) shown) step
