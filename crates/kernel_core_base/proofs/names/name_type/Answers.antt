use Rattle.kernel_core_base.proofs.NamesListed.{type_told}
use Rattle.kernel_core_base.proofs.names.name_type.Goals as goal

pub returns : goal.returns
returns c = rw c.type_of.ensures (type_told c.args.world.now c.args.task c.args.name c.in_ok-entry.entry c.requires.there c.in_ok-entry.ensures.ok)
