use Rattle.std.proofs.Common.{inl, Err, ℕ}
use Rattle.std.proofs.lemmas.Result.{err_from_is_err_and}
use Rattle.message_codec.proofs.Messages.{only_crowded}
use Rattle.message_codec.proofs.text.parse.Goals as goal

pub returns-in_err-check_header-clause-err : goal.returns-in_err-check_header-clause-err
returns-in_err-check_header-clause-err c =
    let p = err_from_is_err_and c.from_residual.result c.from_residual.ensures.1 in
    rw (p.1, p.2) (inl (inl c.in_err-check_header.ensures.err))

pub returns-in_err-read_body-clause-whole : goal.returns-in_err-read_body-clause-whole
returns-in_err-read_body-clause-whole c =
    let p = err_from_is_err_and c.from_residual-in_err-read_body.result c.from_residual-in_err-read_body.ensures.1 in
    rw (p.1, p.2) (λ header written spells none. only_crowded {A = ℕ} (Err c.in_err-read_body.field-0.0) c.args.bytes.now header written spells none c.in_err-read_body.ensures.err)
