use Rattle.std.proofs.Common.{refl}
use Rattle.destroy.proofs.TellTurns.{told_none, told_one}
use Rattle.destroy.proofs.telling.tell_no_senders.Goals as goal

pub returns-in_default : goal.returns-in_default
returns-in_default c = told_none c.args.world.now c.args.port c.take_no_senders.new.self c.take_no_senders.result c.take_no_senders.ensures.notify c.in_default.is c.take_no_senders.ensures.ended

pub returns : goal.returns
returns c = told_one c.args.world.now c.args.port c.take_no_senders.new.self c.pay.new.world c.attributes-made.result c.take_no_senders.result c.in-Some.notify
    (c.if-not-lives.ensures.0 refl) c.if-has_senders.ensures.1 c.attributes-made.ensures c.take_no_senders.ensures.notify c.in-Some.is c.take_no_senders.ensures.ended
    c.pay.ensures.pays c.pay.result c.pay.ensures.many
