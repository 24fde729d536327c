use Rattle.notifications.proofs.MessageRights.{body_can, message_lost, front_notes}
use Rattle.notifications.proofs.destroyed.lose_message.Goals as goal

pub lose_body-requires : goal.lose_body-requires
lose_body-requires c =
    let t = c.take_front-queued.ensures in
    let notes = front_notes c.args.world.now c.args.port c.take_front-queued.new.world t.0 c.take_front-queued.result t.1 c.by_once.result c.by_once.ensures c.note_front.new.world c.note_front.ensures in
    body_can c.args.world.now c.args.port c.requires c.take_front-queued.new.world t.0 c.note_front.new.world notes c.take_front-queued.result t.1 c.reply.result c.reply.ensures c.lose_reply.new.world c.lose_reply.ensures

pub returns : goal.returns
returns c =
    let t = c.take_front-queued.ensures in
    let notes = front_notes c.args.world.now c.args.port c.take_front-queued.new.world t.0 c.take_front-queued.result t.1 c.by_once.result c.by_once.ensures c.note_front.new.world c.note_front.ensures in
    message_lost c.args.world.now c.args.port c.requires c.take_front-queued.new.world t.0 c.note_front.new.world notes c.take_front-queued.result t.1 c.reply.result c.reply.ensures c.lose_reply.new.world c.lose_reply.ensures
    c.lose_body.new.world c.lose_body.ensures
