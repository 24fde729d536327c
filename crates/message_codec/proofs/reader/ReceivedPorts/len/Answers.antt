use Rattle.std.proofs.Common.{length, ap, ◌∙◌, arith}
use Rattle.message_codec.proofs.Shapes.{length-words_text}
use Rattle.message_codec.proofs.reader.ReceivedPorts.len.Goals as goal

pub returns : goal.returns
returns c = λ names is. omega (arith, ap length is ∙ length-words_text names)
