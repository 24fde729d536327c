use Rattle.copyin.specs.Short.{short_view}
use Rattle.copyin_base.proofs.Tied.{stands_is_tied}
use Rattle.message_send.proofs.Carrying.{still_tells}
use Rattle.message_send.proofs.Sending.{short_slots, still_short, still_tied, still_none_lost, sends_text, has_slot}
use Rattle.message_send.proofs.carry_out_short.Goals as goal

pub commit_short-requires-clause-planned : goal.commit_short-requires-clause-planned
commit_short-requires-clause-planned c =
    let q = c.requires.planned in
    let p = q.2 in
    (q.0, p.parsed, p.text.written, q.1, still_short c.args.world.now c.reserve_slots.new.self _ q.0 p.parsed p.text.written q.1 c.args.plan c.in-Ok.ensures.ok p.is_plan)

pub commit_short-requires-clause-spare : goal.commit_short-requires-clause-spare
commit_short-requires-clause-spare c =
    let q = c.requires.planned in
    let p = q.2 in
    has_slot c.args.world.now c.reserve_slots.new.self q.0 p.parsed p.text.written q.1 (short_view c.args.plan) c.count_slots.result
    c.in-Ok.ensures.ok (short_slots c.args.world.now q.0 p.parsed p.text.written q.1 c.args.plan p.is_plan c.count_slots.result c.count_slots.ensures) c.reserve_slots.ensures.all c.requires.stands p.is_plan.is_plan

pub commit_short-requires-clause-tied : goal.commit_short-requires-clause-tied
commit_short-requires-clause-tied c =
    still_tied c.args.world.now c.reserve_slots.new.self _ c.args.plan.task c.in-Ok.ensures.ok (stands_is_tied c.args.world.now c.args.plan.task c.requires.stands)

pub commit_short-requires-clause-none_lost : goal.commit_short-requires-clause-none_lost
commit_short-requires-clause-none_lost c = still_none_lost c.args.world.now c.reserve_slots.new.self _ c.in-Ok.ensures.ok c.requires.stands.shown.idle.none_lost

pub returns-clause-ok : goal.returns-clause-ok
returns-clause-ok c = λ task bytes p. sends_text c.args.world.now c.reserve_slots.new.self c.commit_short.new.world task bytes p.parsed p.text (short_view c.args.plan) c.count_slots.result
    c.in-Ok.ensures.ok (short_slots c.args.world.now task p.parsed p.text.written bytes c.args.plan p.is_plan c.count_slots.result c.count_slots.ensures) p.is_plan.is_plan
    (λ q. c.commit_short.ensures task p.parsed p.text.written bytes (record { is_plan = q; reply = p.is_plan.reply; rights = p.is_plan.rights }))

pub returns-clause-tells : goal.returns-clause-tells
returns-clause-tells c = still_tells c.args.world.now c.reserve_slots.new.self _ (short_view c.args.plan) c.tell_short.new.told c.in-Ok.ensures.ok c.tell_short.ensures
