use Rattle.kernel_core_base.proofs.ReferencesLost.{can_kill, can_leave, still_entered, still_enough, receive_taken}
use Rattle.kernel_core_base.proofs.references.take_receive.Goals as goal

pub lose_receive-requires : goal.lose_receive-requires
lose_receive-requires c = can_kill c.args.world.now c.requires.stands c.args.task c.args.name c.args.loss c.requires.can

pub put_left-requires : goal.put_left-requires
put_left-requires c = can_leave c.args.world.now c.requires.stands c.args.task c.args.name c.args.loss c.requires.can c.lose_receive.new.self c.lose_receive.ensures c.left_sending-left.result c.left_sending-left.ensures

pub take_sends-requires-clause-entered : goal.take_sends-requires-clause-entered
take_sends-requires-clause-entered c = still_entered c.args.world.now c.requires.stands c.args.task c.args.name c.args.loss c.requires.can c.lose_receive.new.self c.lose_receive.ensures
    c.put_left.new.self c.left_sending-left.result c.put_left.ensures

pub take_sends-requires-clause-there : goal.take_sends-requires-clause-there
take_sends-requires-clause-there c = still_enough c.args.world.now c.requires.stands c.args.task c.args.name c.args.loss c.requires.can c.lose_receive.new.self c.lose_receive.ensures
    c.put_left.new.self c.left_sending-left.result c.put_left.ensures

pub returns : goal.returns
returns c = receive_taken c.args.world.now c.lose_receive.new.self c.put_left.new.self c.take_sends.new.world c.args.task c.args.name c.args.loss c.left_sending-left.result
    c.lose_receive.ensures c.put_left.ensures c.left_sending-left.ensures c.take_sends.ensures
