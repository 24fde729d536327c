use Rattle.kernel_core.proofs.Lacking.{told_sent}
use Rattle.kernel_core.proofs.memory.may_lack_memory.Goals as goal

pub returns-in-Send-clause-ok : goal.returns-in-Send-clause-ok
returns-in-Send-clause-ok c =
    let there = rw c.in-Send.is at c.requires.there in
    rw c.in-Send.is (told_sent c.args.world.now _ _ c.is_message.result there c.is_message.ensures)
