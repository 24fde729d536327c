use Rattle.std.specs.Prelude.{◌<◌, ◌≤◌, ◌⊎◌}
use Rattle.mach_fates.specs.Keeping.{VisitsBut}
use Rattle.mach_fates.proofs.fates.Fates.visit_made.Given as goal

-- the ports from the first that was made up to this one were visited
abbrev pub invariant-loop-port : goal.invariant-loop-port
invariant-loop-port l = VisitsBut (λ p. (p < l.initial.self.made) ⊎ (l.port ≤ p)) l.turn.number l.world l.initial.self l.self
