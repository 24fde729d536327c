use Rattle.name_space.specs.declared.Entry.TheVariants.{SendOnce}
use Rattle.kernel_core_base.proofs.ReferencesLost.{can_post, can_put_none}
use Rattle.kernel_core_base.proofs.references.lose_name_once.Goals as goal

pub put_left-requires : goal.put_left-requires
put_left-requires c = can_put_none c.args.world.now c.args.task c.args.name (SendOnce c.args.port) c.requires.can

pub post-requires : goal.post-requires
post-requires c = can_post c.args.world.now c.args.task c.args.name c.args.port c.put_left.new.self c.requires.stands c.requires.can c.put_left.ensures
