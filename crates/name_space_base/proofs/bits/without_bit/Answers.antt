use Rattle.name_space_base.proofs.Words.{bit_cleared}
use Rattle.name_space_base.proofs.bits.without_bit.Goals as goal

pub returns : goal.returns
returns c = λ i h. bit_cleared c.args.word c.args.place i c.requires h
