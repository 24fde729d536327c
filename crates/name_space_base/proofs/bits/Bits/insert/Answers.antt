use Rattle.std.proofs.Common.{rules}
use Rattle.name_space_base.proofs.Words.{has_changed}
use Rattle.name_space_base.proofs.bits.Bits.insert.Goals as goal

pub returns : goal.returns
returns c = has_changed c.args.self.now.words c.args.number c.with_bit.result 1 (search rules) c.requires c.with_bit.ensures
