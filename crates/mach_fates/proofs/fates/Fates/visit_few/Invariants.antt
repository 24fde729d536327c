use Rattle.std.specs.Prelude.{Some, take}
use Rattle.mach_types.specs.declared.calls.Waited.TheVariants.{Port}
use Rattle.mach_fates.specs.Keeping.{Apart, VisitsBut}
use Rattle.mach_fates.proofs.fates.Fates.visit_few.Given as goal

-- the ports before this place were visited
abbrev pub invariant-loop-waited : goal.invariant-loop-waited
invariant-loop-waited l = VisitsBut (λ p. Apart (Some (Port p)) (take l.waited-index l.named)) l.turn.number l.world l.initial.self l.self
