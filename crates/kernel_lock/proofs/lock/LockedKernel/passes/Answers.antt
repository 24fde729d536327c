use Rattle.std.proofs.Common.{◌≡◌, ◌≤◌, ℕ, [], List, ap, subst}
use Rattle.kernel_lock.specs.declared.entry.Entry.{Entry}
use Rattle.kernel_lock.specs.History.{calls_by}
use Rattle.kernel_lock.proofs.Lists.{no_calls_past}
use Rattle.kernel_lock.proofs.lock.LockedKernel.passes.Goals as goal

pub returns-clause-others : goal.returns-clause-others
returns-clause-others c =
    let k = c.self.inside in
    subst (λ (x : ℕ × List Entry). (d : ℕ) → x.0 ≤ d → calls_by d x.1 ≡ []) (λ i. (ap (λ x. x.passes) c.self.view_is i, ap (λ x. x.log) c.self.view_is i))
    (no_calls_past k.counts.items k.seat.me.0.seen c.self.invariant.1)
