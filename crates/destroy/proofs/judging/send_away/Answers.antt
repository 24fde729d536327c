use Rattle.std.proofs.Common.{ap, ◌∙◌}
use Rattle.copyin_base.specs.Worlds.{WorldView}
use Rattle.destroy.proofs.JudgeSent.{can_post, live_then, held_then, entered_then, room_then, sends_fewer}
use Rattle.destroy.proofs.JudgeCarried.{sends_continues}
use Rattle.destroy.proofs.judging.send_away.Goals as goal

pub post-requires : goal.post-requires
post-requires c = can_post c.args.world.now c.args.port c.args.notify c.requires

pub reset-requires : goal.reset-requires
reset-requires c = live_then c.args.world.now c.args.port c.args.notify c.requires c.post.new.self c.post.ensures.posts c.take_port_destroyed.new.self c.take_port_destroyed.ensures.ended

pub hold_in-requires : goal.hold_in-requires
hold_in-requires c = held_then c.args.world.now c.args.port c.args.notify c.requires c.post.new.self c.post.ensures.posts c.take_port_destroyed.new.self c.take_port_destroyed.ensures.ended c.reset.new.world c.reset.ensures

pub bring_receive-requires-clause-entered : goal.bring_receive-requires-clause-entered
bring_receive-requires-clause-entered c = entered_then c.args.world.now c.args.port c.args.notify c.requires c.post.new.self c.post.ensures.posts c.take_port_destroyed.new.self c.take_port_destroyed.ensures.ended
    c.reset.new.world c.reset.ensures c.hold_in.new.world c.hold_in.ensures

pub bring_receive-requires-clause-room : goal.bring_receive-requires-clause-room
bring_receive-requires-clause-room c = room_then c.args.world.now c.args.port c.args.notify c.requires c.post.new.self c.post.ensures.posts c.take_port_destroyed.new.self c.take_port_destroyed.ensures.ended
    c.reset.new.world c.reset.ensures c.hold_in.new.world c.hold_in.ensures

pub returns-clause-continues : goal.returns-clause-continues
returns-clause-continues c = sends_continues c.args.world.now c.args.port c.args.notify c.requires
    c.post.new.self c.post.ensures.posts c.take_port_destroyed.new.self c.take_port_destroyed.ensures.ended c.reset.new.world c.reset.ensures c.hold_in.new.world c.hold_in.ensures c.bring_receive.new.world c.bring_receive.ensures

pub returns-clause-fewer : goal.returns-clause-fewer
returns-clause-fewer c = sends_fewer c.args.world.now c.args.port c.args.notify c.requires c.post.new.self c.post.ensures.posts c.take_port_destroyed.new.self c.take_port_destroyed.ensures.ended
    c.reset.new.world c.reset.ensures c.hold_in.new.world c.hold_in.ensures c.bring_receive.new.world c.bring_receive.ensures

pub returns-clause-spaces : goal.returns-clause-spaces
returns-clause-spaces c = ap (λ (w : WorldView). w.spaces) c.bring_receive.ensures ∙ ap (λ (w : WorldView). w.spaces) c.hold_in.ensures.rest ∙ ap (λ (w : WorldView). w.spaces) c.reset.ensures.rest
    ∙ ap (λ (w : WorldView). w.spaces) c.take_port_destroyed.ensures.ended ∙ ap (λ (w : WorldView). w.spaces) c.post.ensures.posts.rest
