use Rattle.kernel_core_base.proofs.Members.{set_told}
use Rattle.kernel_core_base.proofs.sets.set_status.Goals as goal

pub returns-in-Ok : goal.returns-in-Ok
returns-in-Ok c =
    rw (c.from_vec.ensures, c.in-Ok.ensures)
    (set_told c.args.world.now c.args.task c.args.name c.in_ok-set.set c.in_ok-set.ensures.ok c.requires c.space.result c.space.ensures)
