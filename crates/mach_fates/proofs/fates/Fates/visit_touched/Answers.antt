use Rattle.std.proofs.Common.{Some, inl, inr, sym, subst}
use Rattle.mach_types.specs.declared.calls.Waited.TheVariants.{Port}
use Rattle.mach_types.specs.declared.touched.Touched.{Touched}
use Rattle.mach_fates.specs.Keeping.{IsPassed}
use Rattle.mach_fates.proofs.Visiting.{weaker, apart_all, on_ok}
use Rattle.mach_fates.proofs.fates.Fates.visit_touched.Goals as goal

pub returns-in-Few : goal.returns-in-Few
returns-in-Few c =
    let number = c.args.turn.now.number in
    let w = c.args.world.now in
    let old = c.args.self.now in
    on_ok c.visit_few.result _ _ c.visit_few.ensures
    (λ v few. weaker _ _ number w old c.visit_few.new.self v (λ p apart. subst (λ (x : Touched). IsPassed x w.ports.made old p) (sym c.in-Few.is) (inl (apart_all (Some (Port p)) c.in-Few.named apart))))

pub returns-in-All : goal.returns-in-All
returns-in-All c =
    let number = c.args.turn.now.number in
    let w = c.args.world.now in
    let old = c.args.self.now in
    on_ok c.visit_all.result _ _ c.visit_all.ensures (λ v few. weaker _ _ number w old c.visit_all.new.self (v few) (λ p none. inr none))
