use Rattle.std.proofs.Common.{refl}
use Rattle.copyin.specs.Planned.{plan_view}
use Rattle.copyin_base.proofs.Tied.{stands_is_tied}
use Rattle.message_send.specs.Send.{PlansText}
use Rattle.message_send.proofs.Carrying.{carried, plan_refused, sends}
use Rattle.message_send.proofs.Sending.{text_declined}
use Rattle.message_send.proofs.Wanting.{parse_wants}
use Rattle.message_send.proofs.send_any.Goals as goal

pub returns-in-Err : goal.returns-in-Err
returns-in-Err c = record {
  ok = tt;
  tells = tt;
  err = text_declined c.args.world.now c.args.task c.requires.there c.args.bytes.now c.in-Err.code c.in-Err.ensures.err;
  refused = refl;
  wanted = parse_wants c.args.world.now c.args.task c.args.bytes.now c.in-Err.code c.in-Err.ensures.err;
}

pub check-requires-clause-tied : goal.check-requires-clause-tied
check-requires-clause-tied c = stands_is_tied c.args.world.now c.args.task c.requires.stands

pub carry_out-requires-clause-planned : goal.carry_out-requires-clause-planned
carry_out-requires-clause-planned c =
    let text = c.in-Ok.ensures.ok in
    (c.args.task, c.args.bytes.now, record { parsed = c.in-Ok.parsed; text = text; is_plan = c.in-Ok-check.ensures.ok text })

pub returns-in-Ok-check : goal.returns-in-Ok-check
returns-in-Ok-check c =
    let text = c.in-Ok.ensures.ok in
    let plan = plan_view c.in-Ok-check.plan in
    let p : PlansText c.args.world.now c.args.task c.args.bytes.now plan = record { parsed = c.in-Ok.parsed; text = text; is_plan = c.in-Ok-check.ensures.ok text } in
    sends c.args.world.now c.carry_out.new.world c.args.task c.args.bytes.now plan p c.requires.there c.carry_out.new.told c.carry_out.result
    (carried c.args.world.now c.carry_out.new.world c.args.task c.args.bytes.now plan p c.carry_out.result c.carry_out.ensures.ok)
    c.carry_out.ensures.tells c.carry_out.ensures.err c.carry_out.ensures.refused

pub returns : goal.returns
returns c =
    let text = c.in-Ok.ensures.ok in
    plan_refused c.args.world.now c.args.task c.args.bytes.now c.requires.there c.in-Ok.parsed text c.in-Err-check.code _ (c.in-Err-check.ensures.err text)
