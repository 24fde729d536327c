use Rattle.std.proofs.Common.{sym, ◌∙◌}
use Rattle.kernel_core_base.proofs.Members.{not_true}
use Rattle.kernel_core_base.proofs.Paired.{already_in, may_enter}
use Rattle.kernel_core_base.proofs.sets.judge_insert.Goals as goal

pub returns-then-is_in-clause-err : goal.returns-then-is_in-clause-err
returns-then-is_in-clause-err c = already_in c.args.world.now c.args.task c.args.member c.args.set c.in_ok-pair.pair c.in_ok-pair.ensures.ok (c.is_in.ensures.0 c.if-is_in.true)

pub returns-clause-ok : goal.returns-clause-ok
returns-clause-ok c = (
  c.in_ok-pair.ensures.ok,
  may_enter c.args.world.now c.args.task c.args.member c.args.set c.in_ok-pair.pair c.in_ok-pair.ensures.ok (λ i. not_true (sym c.if-is_in.false ∙ c.is_in.ensures.1 i)),
)
