use Rattle.transfer.proofs.Results.{if_ok}
use Rattle.kernel_core.proofs.Staying.{told_again, never_again}
use Rattle.kernel_core.proofs.memory.may_lack_again.Goals as goal

pub returns-in-Ok-clause-ok : goal.returns-in-Ok-clause-ok
returns-in-Ok-clause-ok c = if_ok c.may_stay.result _ _ c.may_stay.ensures.ok (λ may h. told_again c.args.world.now c.args.task c.args.room c.requires.there c.args.waited.now c.in-Ok.ensures.ok may h)

pub returns-in-Err-clause-ok : goal.returns-in-Err-clause-ok
returns-in-Err-clause-ok c = never_again c.args.world.now c.args.task c.args.room c.requires.there c.args.waited.now _ c.in-Err.ensures.err
