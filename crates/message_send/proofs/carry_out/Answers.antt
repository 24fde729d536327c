use Rattle.copyin.specs.Planned.{plan_view}
use Rattle.copyin_base.proofs.Tied.{stands_is_tied}
use Rattle.message_send.proofs.Carrying.{still_tells}
use Rattle.message_send.proofs.Sending.{still_plan, still_tied, still_none_lost, sends_text, has_slot}
use Rattle.message_send.proofs.carry_out.Goals as goal

pub commit-requires-clause-planned : goal.commit-requires-clause-planned
commit-requires-clause-planned c =
    let q = c.requires.planned in
    let p = q.2 in
    (q.0, p.parsed, p.text.written, q.1, still_plan c.args.world.now c.reserve_slots.new.self _ q.0 p.parsed p.text.written q.1 (plan_view c.args.plan) c.in-Ok.ensures.ok p.is_plan)

pub commit-requires-clause-spare : goal.commit-requires-clause-spare
commit-requires-clause-spare c =
    let q = c.requires.planned in
    let p = q.2 in
    has_slot c.args.world.now c.reserve_slots.new.self q.0 p.parsed p.text.written q.1 (plan_view c.args.plan) c.count_slots.result
    c.in-Ok.ensures.ok c.count_slots.ensures c.reserve_slots.ensures.all c.requires.stands p.is_plan

pub commit-requires-clause-tied : goal.commit-requires-clause-tied
commit-requires-clause-tied c =
    still_tied c.args.world.now c.reserve_slots.new.self _ c.args.plan.task c.in-Ok.ensures.ok (stands_is_tied c.args.world.now c.args.plan.task c.requires.stands)

pub commit-requires-clause-none_lost : goal.commit-requires-clause-none_lost
commit-requires-clause-none_lost c = still_none_lost c.args.world.now c.reserve_slots.new.self _ c.in-Ok.ensures.ok c.requires.stands.shown.idle.none_lost

pub returns-clause-ok : goal.returns-clause-ok
returns-clause-ok c = λ task bytes p. sends_text c.args.world.now c.reserve_slots.new.self c.commit.new.world task bytes p.parsed p.text (plan_view c.args.plan) c.count_slots.result
    c.in-Ok.ensures.ok c.count_slots.ensures p.is_plan (λ q. c.commit.ensures task p.parsed p.text.written bytes q)

pub returns-clause-tells : goal.returns-clause-tells
returns-clause-tells c = still_tells c.args.world.now c.reserve_slots.new.self _ (plan_view c.args.plan) c.tell_sent.new.told c.in-Ok.ensures.ok c.tell_sent.ensures
