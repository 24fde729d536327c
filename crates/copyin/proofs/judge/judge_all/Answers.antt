use Rattle.std.proofs.Common.{inl, inr}
use Rattle.std.proofs.lemmas.Result.{err_from_is_err_and}
use Rattle.copyin_base.specs.Worlds.{put}
use Rattle.copyin.specs.Goes.{Starts}
use Rattle.copyin.specs.PortWords.{listed}
use Rattle.copyin.proofs.judge.judge_all.Goals as goal

pub returns-in_err-reply-clause-err : goal.returns-in_err-reply-clause-err
returns-in_err-reply-clause-err c =
    let starts = c.in_ok-carried.ensures.ok in
    let d = c.in_ok-carried.field-0 in
    let first = put c.args.space.now.names c.args.words.now.destination.name d.left in
    let begins : Starts c.args.space.now.names (listed c.args.words.now) first = record { port = d.port; destination = d.carried; to_port = starts.to_port; copies = starts.copies } in
    let p = err_from_is_err_and c.from_residual-in_err-reply.result c.from_residual-in_err-reply.ensures.1 in
    rw (p.1, p.2) (elim c.in_err-reply.ensures.err [
      | inl h ↦ inl h
      | inr h ↦ inr (inr (elim h [ inl bad ↦ inl (bad.0, (first, begins, bad.1)) | inr bad ↦ inr (bad.0, (first, begins, bad.1.0, bad.1.1, bad.1.2, bad.1.3)) ]))
    ])

pub returns-clause-ok : goal.returns-clause-ok
returns-clause-ok c =
    let starts = c.in_ok-carried.ensures.ok in
    record {
      to_port = starts.to_port;
      first = put c.args.space.now.names c.args.words.now.destination.name c.in_ok-carried.field-0.left;
      destination = starts.copies;
      others = c.in_ok-reply.ensures.ok;
    }
