use Rattle.std.specs.Prelude.{take}
use Rattle.mach_fates.specs.Keeping.{Apart, VisitsBut}
use Rattle.mach_fates.proofs.fates.Fates.visit_kept.Given as goal

-- the ports before this place were visited
abbrev pub invariant-loop-port : goal.invariant-loop-port
invariant-loop-port l = VisitsBut (λ p. Apart p (take l.port-index l.ports)) l.turn.number l.world l.initial.self l.self
