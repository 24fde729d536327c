use Rattle.kernel_core_base.proofs.ReferencesLost.{can_put_left, can_count, still_counts, references_set}
use Rattle.kernel_core_base.proofs.references.count_references.Goals as goal

pub put_left-requires : goal.put_left-requires
put_left-requires c = can_put_left c.args.world.now c.args.task c.args.name c.args.references c.args.entry.now c.left_under.result c.requires.stands c.requires.can c.left_under.ensures

pub count_sends-requires : goal.count_sends-requires
count_sends-requires c = still_counts c.args.world.now c.put_left.new.self c.args.task c.args.name c.args.references c.args.entry.now c.left_under.result c.put_left.ensures
    (can_count c.args.world.now c.args.task c.args.name c.args.references c.args.entry.now c.requires.stands c.requires.can)

pub returns : goal.returns
returns c = references_set c.args.world.now c.put_left.new.self c.count_sends.new.world c.args.task c.args.name c.args.references c.args.entry.now c.left_under.result c.requires.can c.put_left.ensures c.left_under.ensures
    c.count_sends.ensures
