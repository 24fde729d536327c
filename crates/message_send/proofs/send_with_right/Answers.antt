use Rattle.message_codec.specs.Short.{parsed_short}
use Rattle.copyin_base.proofs.Tied.{stands_is_tied}
use Rattle.message_send.proofs.Carrying.{plan_refused, short_planned, short_sends}
use Rattle.message_send.proofs.send_with_right.Goals as goal

pub check_short-requires-clause-tied : goal.check_short-requires-clause-tied
check_short-requires-clause-tied c = stands_is_tied c.args.world.now c.args.task c.requires.stands

pub carry_out_short-requires-clause-planned : goal.carry_out_short-requires-clause-planned
carry_out_short-requires-clause-planned c =
    (c.args.task, c.args.bytes.now, short_planned c.args.world.now c.args.task c.args.bytes.now c.in-Some.short c.in-Some.ensures.some c.in-Ok.plan c.in-Ok.ensures.ok)

pub returns-in-Ok : goal.returns-in-Ok
returns-in-Ok c =
    let done = c.carry_out_short.ensures in
    short_sends c.args.world.now c.args.task c.args.bytes.now c.in-Some.short c.in-Some.ensures.some c.in-Ok.plan c.in-Ok.ensures.ok
    c.carry_out_short.new.world c.requires.there c.carry_out_short.new.told c.carry_out_short.result done.ok done.tells done.err done.refused

pub returns-in-Err : goal.returns-in-Err
returns-in-Err c =
    let text = c.in-Some.ensures.some.parses in
    plan_refused c.args.world.now c.args.task c.args.bytes.now c.requires.there (parsed_short c.in-Some.short) text c.in-Err.code _ (c.in-Err.ensures.err text)
