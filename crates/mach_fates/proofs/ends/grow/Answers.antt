use Rattle.mach_fates.proofs.Growing.{grown_more}
use Rattle.mach_fates.proofs.ends.grow.Goals as goal

pub loop-place-preserved : goal.loop-place-preserved
loop-place-preserved c = grown_more c.loop-place.place _ c.loop-place.ends.items c.push.new.self.items c.loop-place.invariant c.in_ok-push.ensures.items
