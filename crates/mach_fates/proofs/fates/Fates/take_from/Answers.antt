use Rattle.std.proofs.Common.{Some, sym, subst, ap, ◌∙◌, ℕ, Option}
use Rattle.mach_fates.specs.Keeping.{TakesFrom, Visits}
use Rattle.mach_fates.proofs.Visiting.{on_ok}
use Rattle.mach_fates.proofs.fates.Fates.take_from.Goals as goal

pub returns : goal.returns
returns c =
    let number = c.args.turn.now.number in
    let w = c.args.world.now in
    on_ok c.visit.result (Visits number w c.number-from.result c.take.new.self c.visit.new.self) (TakesFrom number w c.args.source c.args.self.now c.visit.new.self) c.visit.ensures
    (λ v. subst (λ (o : Option ℕ). TakesFrom number w o c.args.self.now c.visit.new.self) (ap Some c.number-from.ensures ∙ sym c.in-Some.is) (c.take.new.self, c.in_ok-take.ensures, v))
