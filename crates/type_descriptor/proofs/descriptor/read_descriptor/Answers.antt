use Rattle.std.proofs.Common.{drop, arith}
use Rattle.std.proofs.lemmas.List.{length-drop}
use Rattle.type_descriptor.proofs.Texts.{refuses_short}
use Rattle.type_descriptor.proofs.descriptor.read_descriptor.Goals as goal

pub returns-then-bytes-at-clause-err : goal.returns-then-bytes-at-clause-err
returns-then-bytes-at-clause-err c =
    refuses_short (drop c.args.at c.args.bytes.now) (omega (arith, length-drop c.args.at c.args.bytes.now))
