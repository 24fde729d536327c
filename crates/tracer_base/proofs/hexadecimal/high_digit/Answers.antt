use Rattle.std.proofs.Common.{arith}
use Rattle.tracer_base.proofs.HexLemmas.{high_in_pairs}
use Rattle.tracer_base.proofs.hexadecimal.high_digit.Goals as goal

pub returns : goal.returns
returns c = rw c.from.ensures (high_in_pairs c.args.byte (omega arith))
