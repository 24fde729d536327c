use Rattle.name_space_base.proofs.Options.{for_none}
use Rattle.name_space_base.proofs.Tree.{first_in_range, none_in_range}
use Rattle.name_space_base.proofs.high.next_in.Goals as goal

pub returns-in_err-name-clause-none : goal.returns-in_err-name-clause-none
returns-in_err-name-clause-none g c = for_none c.from_residual.result (none_in_range c.args.others.now c.args.from c.range.result (c.range.ensures.in_range tt) c.in_err-name.ensures.steps.0)

pub returns-clause-found : goal.returns-clause-found
returns-clause-found g c =
    first_in_range c.args.others.now c.args.from c.range.result (c.range.ensures.in_range tt) c.next.new.self c.in_ok-name.name.now c.in_ok-name.field-0-1.now c.in_ok-name.ensures.steps
