use Rattle.name_space_base.proofs.Words.{bit_set}
use Rattle.name_space_base.proofs.bits.with_bit.Goals as goal

pub returns : goal.returns
returns c = λ i h. bit_set c.args.word c.args.place i c.requires h
