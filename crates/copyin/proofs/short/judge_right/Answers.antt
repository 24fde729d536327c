use Rattle.std.proofs.Common.{◌≡◌, Some, None, [], ◌∷◌, sym, ap, ◌∙◌, inl, inr}
use Rattle.std.specs.Option.{option_to_list}
use Rattle.std.proofs.lemmas.Result.{err_from_is_err_and}
use Rattle.message_codec.specs.declared.text.ShortRight.TheVariants as right
use Rattle.message_codec.specs.declared.words.PortWord.{PortWord}
use Rattle.message_codec.specs.Short.{words_in}
use Rattle.copyin.specs.Short.{reply_of, short_words}
use Rattle.copyin.proofs.Judging.{none_go, none_replies, one_bad, one_goes, reply_goes}
use Rattle.copyin.proofs.short.judge_right.Goals as goal

pub returns-in-None-clause-ok : goal.returns-in-None-clause-ok
returns-in-None-clause-ok c = λ first port g.
    let reply = ap reply_of c.in-None.is in
    let body = ap words_in c.in-None.is in (
      record { to_port = g.to_port; first = g.after; destination = g.copies; others = none_go g.after (short_words c.args.short.now) reply body },
      record { reply = sym reply; body = sym body },
    )

pub returns-in_ok-going-in-Some-Reply-clause-ok : goal.returns-in_ok-going-in-Some-Reply-clause-ok
returns-in_ok-going-in-Some-Reply-clause-ok c = λ first port g.
    let is : c.args.short.now.right ≡ Some (right.Reply c.in-Some-Reply.word) = c.in-Some-Reply.is ∙ ap Some c.in-Some-Reply.field-0-is in
    let reply = ap reply_of is in
    let body = ap words_in is in
    let going = c.in_ok-going-in-Some-Reply.going in
    let a = c.in_ok-going-in-Some-Reply.ensures.ok first.carried g.after g.copies in (
      record {
        to_port = g.to_port;
        first = g.after;
        destination = g.copies;
        others = reply_goes g.after (short_words c.args.short.now) c.in-Some-Reply.word going.carried a.after reply body a.copies;
      },
      record { reply = ap Some a.by ∙ sym reply; body = sym body },
    )

pub returns-in_ok-going-in-Some-Body-clause-ok : goal.returns-in_ok-going-in-Some-Body-clause-ok
returns-in_ok-going-in-Some-Body-clause-ok c = λ first port g.
    let is : c.args.short.now.right ≡ Some (right.Body c.in-Some-Body.word) = c.in-Some-Body.is ∙ ap Some c.in-Some-Body.field-0-is in
    let reply = ap reply_of is in
    let body = ap words_in is in
    let going = c.in_ok-going-in-Some-Body.going in
    let a = c.in_ok-going-in-Some-Body.ensures.ok first.carried g.after g.copies in (
      record {
        to_port = g.to_port;
        first = g.after;
        destination = g.copies;
        others = one_goes g.after (short_words c.args.short.now) c.in-Some-Body.word going.carried a.after reply body a.copies;
      },
      record { reply = sym reply; body = ap (λ (w : PortWord). w ∷ []) a.by ∙ sym body },
    )

pub returns-in_err-going-in-Some-Reply-clause-err : goal.returns-in_err-going-in-Some-Reply-clause-err
returns-in_err-going-in-Some-Reply-clause-err c =
    let is : c.args.short.now.right ≡ Some (right.Reply c.in-Some-Reply.word) = c.in-Some-Reply.is ∙ ap Some c.in-Some-Reply.field-0-is in
    let bad = c.in_err-going-in-Some-Reply.ensures.err in
    let p = err_from_is_err_and c.from_residual.result c.from_residual.ensures.1 in
    rw (p.1, p.2) (λ first port g. inr (inl (
      bad.0,
      (
        g.after,
        record { port = port; destination = first.carried; to_port = g.to_port; copies = g.copies },
        (c.in-Some-Reply.word, ap (λ o. option_to_list (reply_of o)) is, bad.1 first.carried g.after g.copies),
      ),
    )))

pub returns-in_err-going-in-Some-Body-clause-err : goal.returns-in_err-going-in-Some-Body-clause-err
returns-in_err-going-in-Some-Body-clause-err c =
    let is : c.args.short.now.right ≡ Some (right.Body c.in-Some-Body.word) = c.in-Some-Body.is ∙ ap Some c.in-Some-Body.field-0-is in
    let words = short_words c.args.short.now in
    let bad = c.in_err-going-in-Some-Body.ensures.err in
    let p = err_from_is_err_and c.from_residual-in_err-going-in-Some-Body.result c.from_residual-in_err-going-in-Some-Body.ensures.1 in
    rw (p.1, p.2) (λ first port g. inr (inr (
      bad.0,
      (
        g.after,
        record { port = port; destination = first.carried; to_port = g.to_port; copies = g.copies },
        None,
        g.after,
        none_replies g.after words.reply (ap reply_of is),
        one_bad g.after words c.in-Some-Body.word (ap words_in is) (bad.1 first.carried g.after g.copies),
      ),
    )))
