use Rattle.std.proofs.Common.{rules}
use Rattle.name_space_base.proofs.Words.{has_changed}
use Rattle.name_space_base.proofs.bits.Bits.remove.Goals as goal

pub returns : goal.returns
returns c = has_changed c.args.self.now.words c.args.number c.without_bit.result 0 (search rules) c.requires c.without_bit.ensures
