use Rattle.std.proofs.Common.{List, length, ◌<◌, subst, inl, inr, arith}
use Rattle.std.proofs.lemmas.Result.{err_from_is_err_and}
use Rattle.message_codec.specs.declared.words.PortWord.{PortWord}
use Rattle.message_codec.specs.Words.{inline_words}
use Rattle.copyin_base.specs.Worlds.{put}
use Rattle.copyin.specs.Judging.{CopiesBody, BodyIsBad}
use Rattle.copyin.proofs.judge.judge_others.Goals as goal

pub returns-in_err-reply-clause-err : goal.returns-in_err-reply-clause-err
returns-in_err-reply-clause-err c =
    let names = c.args.space.now.names in
    let first = put names c.args.words.now.destination.name c.args.left in
    let p = err_from_is_err_and c.from_residual.result c.from_residual.ensures.1 in
    rw (p.1, p.2) (elim c.in_err-reply.ensures.err [
      | inl h ↦ absurd (omega (arith, h.1, c.first-touched.ensures.one))
      | inr h ↦ inr (inl (h.0, h.1 first (c.first-touched.ensures.names names)))
    ])

pub returns-in_err-judge_body-clause-err : goal.returns-in_err-judge_body-clause-err
returns-in_err-judge_body-clause-err c =
    let names = c.args.space.now.names in
    let first = put names c.args.words.now.destination.name c.args.left in
    let r = c.in_ok-reply.ensures.ok first (c.first-touched.ensures.names names) in
    let p = err_from_is_err_and c.from_residual-in_err-judge_body.result c.from_residual-in_err-judge_body.ensures.1 in
    rw (p.1, p.2) (elim c.in_err-judge_body.ensures.err [
      | inl h ↦ inl (h.0, subst (λ (ws : List PortWord). inline_words < length ws) c.as_slice.ensures h.1)
      | inr h ↦ inr (inr (h.0, (c.in_ok-reply.reply, r.0, r.1, subst (λ (ws : List PortWord). BodyIsBad r.0 ws) c.as_slice.ensures (h.1 r.0 r.2))))
    ])

pub returns-clause-ok : goal.returns-clause-ok
returns-clause-ok c =
    let names = c.args.space.now.names in
    let first = put names c.args.words.now.destination.name c.args.left in
    let r = c.in_ok-reply.ensures.ok first (c.first-touched.ensures.names names) in
    let b = c.in_ok-judge_body.ensures.ok r.0 r.2 in
    record {
      second = r.0;
      reply = r.1;
      last = b.0;
      body = subst (λ (ws : List PortWord). CopiesBody r.0 ws c.judge_body.new.rights.items b.0) c.as_slice.ensures b.1;
    }
