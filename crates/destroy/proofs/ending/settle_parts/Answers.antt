use Rattle.std.proofs.Common.{◌∙◌, arith}
use Rattle.destroy.specs.Stages.{IsJudged, AreLost, AreTold, IsStarted}
use Rattle.destroy.proofs.EndSteps.{started, continued, settles}
use Rattle.destroy.proofs.BuryNames.{rooms_more}
use Rattle.destroy.proofs.Rooms.{same_rooms}
use Rattle.destroy.proofs.ending.settle_parts.Goals as goal

pub judge_ports-judged-requires : goal.judge_ports-judged-requires
judge_ports-judged-requires c = started c.args.world.now c.pay_for_names.new.world c.requires.midway c.pay_for_names.ensures.starts

pub lose_messages-lost-requires : goal.lose_messages-lost-requires
lose_messages-lost-requires c = continued IsStarted IsJudged c.pay_for_names.new.world c.judge_ports-judged.result c.judge_ports-judged.new.world
    (started c.args.world.now c.pay_for_names.new.world c.requires.midway c.pay_for_names.ensures.starts) c.judge_ports-judged.ensures.continues

pub tell_senderless-told-requires : goal.tell_senderless-told-requires
tell_senderless-told-requires c = continued IsJudged AreLost c.judge_ports-judged.new.world c.lose_messages-lost.result c.lose_messages-lost.new.world
    (continued IsStarted IsJudged c.pay_for_names.new.world c.judge_ports-judged.result c.judge_ports-judged.new.world
    (started c.args.world.now c.pay_for_names.new.world c.requires.midway c.pay_for_names.ensures.starts) c.judge_ports-judged.ensures.continues) c.lose_messages-lost.ensures.continues

pub bury_ports-ended-requires : goal.bury_ports-ended-requires
bury_ports-ended-requires c = continued AreLost AreTold c.lose_messages-lost.new.world c.tell_senderless-told.result c.tell_senderless-told.new.world
    (continued IsJudged AreLost c.judge_ports-judged.new.world c.lose_messages-lost.result c.lose_messages-lost.new.world
    (continued IsStarted IsJudged c.pay_for_names.new.world c.judge_ports-judged.result c.judge_ports-judged.new.world
    (started c.args.world.now c.pay_for_names.new.world c.requires.midway c.pay_for_names.ensures.starts) c.judge_ports-judged.ensures.continues) c.lose_messages-lost.ensures.continues) c.tell_senderless-told.ensures.continues

pub returns-clause-settles : goal.returns-clause-settles
returns-clause-settles c = settles c.args.world.now c.pay_for_names.new.world c.judge_ports-judged.new.world c.lose_messages-lost.new.world c.tell_senderless-told.new.world c.bury_ports-ended.new.world
    c.judge_ports-judged.result c.lose_messages-lost.result c.tell_senderless-told.result c.bury_ports-ended.result _
    c.pay_for_names.ensures.starts c.judge_ports-judged.ensures.continues c.lose_messages-lost.ensures.continues c.tell_senderless-told.ensures.continues c.bury_ports-ended.ensures.continues
    c.bury_ports-ended.ensures.doomed
    (let a = c.saturating_add.ensures in let b = c.saturating_add-2.ensures in let d = c.saturating_add-3.ensures in omega (arith, a, b, d))

pub returns-clause-rooms : goal.returns-clause-rooms
returns-clause-rooms c = rooms_more c.args.world.now c.tell_senderless-told.new.world c.bury_ports-ended.new.world
    (same_rooms c.args.world.now c.tell_senderless-told.new.world (c.tell_senderless-told.ensures.spaces ∙ c.lose_messages-lost.ensures.spaces ∙ c.judge_ports-judged.ensures.spaces ∙ c.pay_for_names.ensures.spaces))
    c.bury_ports-ended.ensures.rooms
