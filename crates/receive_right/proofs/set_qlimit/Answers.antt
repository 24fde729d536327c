use Rattle.std.proofs.Common.{refl, arith}
use Rattle.receive_right.proofs.Status.{limit_set}
use Rattle.receive_right.proofs.set_qlimit.Goals as goal

pub returns-clause-serves : goal.returns-clause-serves
returns-clause-serves c =
    limit_set c.args.world.now c.args.task c.args.name c.in_ok-port.port c.requires.there c.in_ok-port.ensures.ok c.attributes-attributes.result c.attributes-attributes.ensures
    c.set_attributes.new.self c.args.limit (let h = c.if-limit-gt-GREATEST_LIMIT.false in omega (arith, h)) c.set_attributes.ensures
