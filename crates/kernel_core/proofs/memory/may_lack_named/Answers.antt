use Rattle.transfer.proofs.Results.{if_ok}
use Rattle.kernel_core.proofs.Staying.{told_named}
use Rattle.kernel_core.proofs.memory.may_lack_named.Goals as goal

pub returns-in-Ok-clause-ok : goal.returns-in-Ok-clause-ok
returns-in-Ok-clause-ok c = if_ok c.may_stay.result _ _ c.may_stay.ensures.ok (λ may h. told_named c.args.world.now c.args.task c.args.room c.requires.there c.args.name c.in-Ok.source.waited c.in-Ok.ensures.ok may h)
