use Rattle.std.proofs.Common.{rules}
use Rattle.std.proofs.lemmas.Result.{err_from_is_err_and}
use Rattle.kernel_core.proofs.Limited.{set_in_limit}
use Rattle.tracer.proofs.CheckLemmas.{no_want_else, no_want_zero, no_want_told}
use Rattle.tracer.proofs.checks.tells_want_of_memory.Goals as goal

pub returns-in_default-clause-not : goal.returns-in_default-clause-not
returns-in_default-clause-not c = λ _. no_want_else c.args.kernel.now c.args.event.now c.args.reply.now c.in_default.not-Code

pub returns-then-code-eq0-clause-not : goal.returns-then-code-eq0-clause-not
returns-then-code-eq0-clause-not c = λ _. no_want_zero c.args.kernel.now c.args.event.now c.args.reply.now (search rules)

pub returns-clause-not : goal.returns-clause-not
returns-clause-not c =
    λ told. no_want_told c.args.kernel.now c.args.event.now c.args.reply.now _ c.in_ok-memory_code.field-0 c.in-Code.is c.in_ok-memory_code.ensures.ok
    (λ same. absurd (search (rules, told, same)))

pub returns-in_err-memory_code-clause-err : goal.returns-in_err-memory_code-clause-err
returns-in_err-memory_code-clause-err c =
    let p = err_from_is_err_and c.from_residual.result c.from_residual.ensures.1 in
    rw p.1 (λ s shown x. set_in_limit s c.args.event.now (c.in_err-memory_code.ensures.err s shown) x)
