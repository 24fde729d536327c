use Rattle.std.proofs.Common.{◌∙◌, ap, sym, subst, Option}
use Rattle.std.specs.Option.{option_to_list}
use Rattle.copyin_base.specs.declared.Carried.{Carried}
use Rattle.copyout.specs.Giving.{GivesAll}
use Rattle.copyout.specs.Takes.{reply_word}
use Rattle.copyout.proofs.Delivered.{answers_only, body_only, gives_one}
use Rattle.copyout.proofs.short.spell_short.Goals as goal

pub spell_body-requires-clause-alone : goal.spell_body-requires-clause-alone
spell_body-requires-clause-alone c = let h = body_only c.args.message c.args.short.now c.in-Some.carried c.requires.short (sym c.body_right.ensures ∙ c.in-Some.is) in h.1

pub spell_body-requires-clause-spans : goal.spell_body-requires-clause-spans
spell_body-requires-clause-spans c = let h = body_only c.args.message c.args.short.now c.in-Some.carried c.requires.short (sym c.body_right.ensures ∙ c.in-Some.is) in h.2

pub spell_body-requires-clause-rights : goal.spell_body-requires-clause-rights
spell_body-requires-clause-rights c = let h = body_only c.args.message c.args.short.now c.in-Some.carried c.requires.short (sym c.body_right.ensures ∙ c.in-Some.is) in h.3

pub spell_raw-requires-clause-none : goal.spell_raw-requires-clause-none
spell_raw-requires-clause-none c = let h = answers_only c.args.message c.args.short.now c.requires.short (sym c.body_right.ensures ∙ c.in-None.is) in (h.1, h.2)

pub spell_raw-requires-clause-answered : goal.spell_raw-requires-clause-answered
spell_raw-requires-clause-answered c = let h = answers_only c.args.message c.args.short.now c.requires.short (sym c.body_right.ensures ∙ c.in-None.is) in h.0

pub returns-in-Some : goal.returns-in-Some
returns-in-Some c =
    let h = body_only c.args.message c.args.short.now c.in-Some.carried c.requires.short (sym c.body_right.ensures ∙ c.in-Some.is) in
    λ w new task words gives is. c.spell_body.ensures w new task (gives_one w new task c.args.short.now.right c.in-Some.carried h.0 words c.args.name gives is)

pub returns-in-None : goal.returns-in-None
returns-in-None c =
    let h = answers_only c.args.message c.args.short.now c.requires.short (sym c.body_right.ensures ∙ c.in-None.is) in
    λ w new task words gives is. c.spell_raw.ensures w new task words (subst (λ (o : Option Carried). GivesAll w task (option_to_list o) words new) h.0 gives)
    (is ∙ ap (λ (o : Option Carried). reply_word o words) h.0)
