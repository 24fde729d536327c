use Rattle.name_space.specs.declared.Entry.TheVariants.{Set}
use Rattle.kernel_core_base.proofs.ReferencesLost.{can_put_none, set_removed}
use Rattle.kernel_core_base.proofs.references.remove_set.Goals as goal

pub put_left-requires : goal.put_left-requires
put_left-requires c = can_put_none c.args.world.now c.args.task c.args.name (Set c.args.set) c.requires

pub returns : goal.returns
returns c = set_removed c.args.world.now c.put_left.new.self _ c.args.task c.args.name c.args.set c.requires c.put_left.ensures c.drop_set.ensures
