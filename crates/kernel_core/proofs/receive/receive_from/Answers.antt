use Rattle.std.proofs.Common.{ap, ◌∙◌}
use Rattle.std.proofs.lemmas.Result.{err_from_is_err_and}
use Rattle.kernel_core.specs.Telling.{with_message}
use Rattle.kernel_core.proofs.receive.receive_from.Goals as goal

pub returns-in_err-reply-clause-err : goal.returns-in_err-reply-clause-err
returns-in_err-reply-clause-err c =
    let p = err_from_is_err_and c.from_residual.result c.from_residual.ensures.1 in
    rw (p.1, p.2) c.in_err-reply.ensures.err

pub returns-in_err-reply-clause-wanted : goal.returns-in_err-reply-clause-wanted
returns-in_err-reply-clause-wanted c =
    let p = err_from_is_err_and c.from_residual.result c.from_residual.ensures.1 in
    rw (p.1, p.2) c.in_err-reply.ensures.wanted

pub returns-clause-tells : goal.returns-clause-tells
returns-clause-tells c = c.tell_message.ensures ∙ ap (with_message c.args.task c.in_ok-reply.reply) c.in_ok-reply.ensures.tells
