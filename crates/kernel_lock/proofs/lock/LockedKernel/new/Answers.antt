use Rattle.kernel_lock.proofs.Opening.{opens}
use Rattle.kernel_lock.proofs.lock.LockedKernel.new.Goals as goal

pub invariant_of-result : goal.invariant_of-result
invariant_of-result c = opens _ _ _ _ _ _ c.new-2.ensures.items c.with_profile.ensures.shows c.requires.seat c.new.ensures.1
