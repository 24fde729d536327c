use Rattle.mach_fates.proofs.Counting.{Appended}
use Rattle.mach_fates.proofs.effects.Effects.append.Given as goal

-- the number came behind, up to this place
abbrev pub invariant-loop-place : goal.invariant-loop-place
invariant-loop-place l = Appended l.turn.number l.place l.initial.waiting.origins l.waiting.origins
