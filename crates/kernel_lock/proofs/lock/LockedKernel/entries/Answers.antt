use Rattle.std.proofs.Common.{ap, subst, List}
use Rattle.mach_types.specs.declared.profiles.Profile.{Profile}
use Rattle.kernel_core.specs.Kernels.{KernelView}
use Rattle.kernel_lock.specs.declared.entry.Entry.{Entry}
use Rattle.kernel_lock.specs.Replays.{Replays}
use Rattle.kernel_lock.proofs.lock.LockedKernel.entries.Goals as goal

pub returns-clause-replays : goal.returns-clause-replays
returns-clause-replays c = subst (λ (x : Profile × List Entry × KernelView). Replays x.0 x.1 x.2) (λ i. (ap (λ x. x.profile) c.self.view_is i, ap (λ x. x.log) c.self.view_is i, ap (λ x. x.kernel) c.self.view_is i)) c.self.invariant.0
