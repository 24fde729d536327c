use Rattle.mach_fates.proofs.Growing.{Grown}
use Rattle.mach_fates.proofs.ends.grow.Given as goal

-- queued messages came behind, up to this place
abbrev pub invariant-loop-place : goal.invariant-loop-place
invariant-loop-place l = Grown l.place l.initial.ends.items l.ends.items
