use Rattle.std.proofs.Common.{refl, ◌∙◌, arith}
use Rattle.std.specs.Prelude.{◌≢◌}
use Rattle.copyin.proofs.AfterFirst.{as_before, nothing_goes}
use Rattle.copyin.proofs.Judging.{goes_by_name, passes}
use Rattle.copyin.proofs.short.judge_beside.Goals as goal

pub returns-in-Some-clause-ok : goal.returns-in-Some-clause-ok
returns-in-Some-clause-ok c = λ k after x. record { by = refl; after = after; copies = passes after c.args.word.now c.unwrap-given.result c.in-Some.mark (cc) c.in-Some.ensures }

pub returns-in-Some-carried_after-clause-ok : goal.returns-in-Some-carried_after-clause-ok
returns-in-Some-carried_after-clause-ok c = λ k after x.
    let g = c.in-Some-carried_after.ensures k after x in
    record { by = refl; after = g.0; copies = goes_by_name after c.args.word.now c.in-Some-carried_after.carried g.0 c.in_default.ensures.0 c.in_default.ensures.1 g.1 }

pub returns-in_default-find-clause-err : goal.returns-in_default-find-clause-err
returns-in_default-find-clause-err c =
    let not : c.args.word.now.name ≢ c.args.first.now.name = λ same. omega (arith, same, c.if-number.false, c.number.ensures, c.number-2.ensures) in (
      refl,
      λ k after x. (
        c.in_default.ensures.0,
        c.in_default.ensures.1,
        nothing_goes after c.args.word.now (as_before c.args.space.now.names c.args.first.now k after x c.args.word.now.name not ∙ c.in_default-find.ensures.none),
      ),
    )

pub returns-in-Some-carried_from-clause-ok : goal.returns-in-Some-carried_from-clause-ok
returns-in-Some-carried_from-clause-ok c = λ k after x.
    let not : c.args.word.now.name ≢ c.args.first.now.name = λ same. omega (arith, same, c.if-number.false, c.number.ensures, c.number-2.ensures) in
    let g = c.in-Some-carried_from.ensures after (as_before c.args.space.now.names c.args.first.now k after x c.args.word.now.name not ∙ c.in-Some-find.ensures.some) in
    record { by = refl; after = g.0; copies = goes_by_name after c.args.word.now c.in-Some-carried_from.carried g.0 c.in_default.ensures.0 c.in_default.ensures.1 g.1 }

pub returns-in-None-carried_from-clause-err : goal.returns-in-None-carried_from-clause-err
returns-in-None-carried_from-clause-err c =
    let not : c.args.word.now.name ≢ c.args.first.now.name = λ same. omega (arith, same, c.if-number.false, c.number.ensures, c.number-2.ensures) in (
      refl,
      λ k after x. (
        c.in_default.ensures.0,
        c.in_default.ensures.1,
        c.in-None-carried_from.ensures after (as_before c.args.space.now.names c.args.first.now k after x c.args.word.now.name not ∙ c.in-Some-find.ensures.some),
      ),
    )
