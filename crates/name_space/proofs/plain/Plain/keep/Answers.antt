use Rattle.std.proofs.Common.{Some, inr, sym, subst}
use Rattle.name_space.specs.Plain.{IsLaid}
use Rattle.name_space.specs.declared.plain.Plain.TheInside.{Inside}
use Rattle.name_space.proofs.Keys.{for_err}
use Rattle.name_space.proofs.Tables.{laid-page, laid-kept, no_neighbour}
use Rattle.name_space.proofs.plain.Plain.keep.Goals.{then-number-lt-FIRST_HIGH+in_ok-make_page, else-number-lt-FIRST_HIGH+in_ok-keep}
use Rattle.name_space.proofs.plain.Plain.keep.Goals as goal

pub invariant_of-self-2 : goal.invariant_of-self-2
invariant_of-self-2 c = elim c.if-number-lt-FIRST_HIGH.branch [
  | then-number-lt-FIRST_HIGH+in_ok-make_page w ↦
      subst (λ (i : Inside). IsLaid i.low i.high i.room (Some c.args.name)) (sym w.self-inside-is)
      (subst (λ n. IsLaid w.make_page.new.self c.self.inside.high c.self.inside.room (Some n)) c.number-number.ensures
      (laid-page c.self.inside.low c.self.inside.high c.self.inside.room c.self.inside.kept c.self.invariant w.make_page.new.self c.number-number.result w.in_ok-make_page.ensures.ok w.if-number-lt-FIRST_HIGH.true))
  | else-number-lt-FIRST_HIGH+in_ok-keep w ↦
      subst (λ (i : Inside). IsLaid i.low i.high i.room (Some c.args.name)) (sym w.self-inside-is)
      (subst (λ n. IsLaid c.self.inside.low w.keep.new.self c.self.inside.room (Some n)) c.number-number.ensures
      (laid-kept c.self.inside.low c.self.inside.high c.self.inside.room c.self.inside.kept c.self.invariant w.keep.new.self c.number-number.result w.in_ok-keep.ensures.ok w.if-number-lt-FIRST_HIGH.false))
]

pub returns-in_err-make_page-clause-wanted : goal.returns-in_err-make_page-clause-wanted
returns-in_err-make_page-clause-wanted c =
    for_err c.from_residual.result (inr (no_neighbour c.self.inside.low c.self.inside.high c.self.inside.room c.self.inside.kept c.self.invariant c.args.self.now c.self.view_is c.number-number.result c.args.name c.number-number.ensures c.if-number-lt-FIRST_HIGH.true c.in_err-make_page.ensures.wanted))
