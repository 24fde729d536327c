use Rattle.kernel_core_base.proofs.Allocated.{can_insert, adds}
use Rattle.kernel_core_base.proofs.names.add_right.Goals as goal

pub insert_entry-requires : goal.insert_entry-requires
insert_entry-requires c =
    can_insert c.args.world.now c.make_right.new.world c.args.task c.args.name c.args.right c.in_ok-entry.entry c.requires c.in_ok-entry.ensures.ok

pub returns-clause-ok : goal.returns-clause-ok
returns-clause-ok c =
    adds c.args.world.now c.make_right.new.world c.args.task c.args.name c.args.right c.in_ok-entry.entry c.requires c.in_ok-entry.ensures.ok
    c.insert_entry.new.self c.insert_entry.ensures
