use Rattle.notifications.proofs.Requested.{reserved, reserved_some}
use Rattle.notifications.proofs.Results.{if_err, on_ok}
use Rattle.notifications.proofs.request.reserve.Goals as goal

pub returns-clause-ok : goal.returns-clause-ok
returns-clause-ok c = on_ok c.reserve_slot.result _ _ c.reserve_slot.ensures.ok (λ slots.
    reserved c.args.world.now c.reserve_name.new.world c.reserve_place.new.world c.reserve_slot.new.world c.args.task c.args.subject.now c.args.paying.now c.args.previous.now
    c.in_ok-reserve_name.ensures.ok c.in_ok-reserve_place.ensures.ok slots)

pub returns-clause-err : goal.returns-clause-err
returns-clause-err c = if_err c.reserve_slot.result _ _ c.reserve_slot.ensures.err (λ code h. (
  h.0,
  reserved_some c.args.world.now c.reserve_name.new.world c.reserve_place.new.world c.reserve_slot.new.world c.args.task c.args.subject.now c.args.paying.now c.args.previous.now
      c.in_ok-reserve_name.ensures.ok c.in_ok-reserve_place.ensures.ok h.1,
))
