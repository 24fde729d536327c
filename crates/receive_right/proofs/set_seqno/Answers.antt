use Rattle.std.proofs.Common.{refl, arith}
use Rattle.receive_right.proofs.Status.{sequence_set}
use Rattle.receive_right.proofs.set_seqno.Goals as goal

pub returns-clause-serves : goal.returns-clause-serves
returns-clause-serves c =
    sequence_set c.args.world.now c.args.task c.args.name c.in_ok-port.port c.requires.there c.in_ok-port.ensures.ok c.attributes-attributes.result c.attributes-attributes.ensures
    c.set_attributes.new.self c.args.number (omega arith) c.set_attributes.ensures
