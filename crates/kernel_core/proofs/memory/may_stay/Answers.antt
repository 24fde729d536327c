use Rattle.std.proofs.Common.{refl}
use Rattle.kernel_core.proofs.Staying.{told_port, told_set}
use Rattle.kernel_core.proofs.memory.may_stay.Goals as goal

pub returns-in-Port-clause-ok : goal.returns-in-Port-clause-ok
returns-in-Port-clause-ok c =
    let may = rw c.in-Port.is at c.requires.may in
    rw c.in-Port.is (told_port c.args.world.now c.args.task c.requires.there c.in-Port.port c.args.room may c.is_receivable.result c.is_receivable.ensures)

pub returns-in_ok-members-in-Set-clause-ok : goal.returns-in_ok-members-in-Set-clause-ok
returns-in_ok-members-in-Set-clause-ok c =
    let may = rw c.in-Set.is at c.requires.may in
    let found = rw c.deref.ensures.value at c.is_one_receivable.ensures in
    rw c.in-Set.is (told_set c.args.world.now c.args.task c.requires.there c.in-Set.set c.args.room may c.args.world.now.ports refl
    c.in_ok-members-in-Set.members.items c.in_ok-members-in-Set.ensures.only c.in_ok-members-in-Set.ensures.all c.is_one_receivable.result found)
