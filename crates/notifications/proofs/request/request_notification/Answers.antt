use Rattle.std.proofs.lemmas.Result.{err_from_is_err_and}
use Rattle.notifications.proofs.Requested.{can_carry, carried}
use Rattle.notifications.proofs.RequestJudged.{leaves_request, short_of}
use Rattle.notifications.proofs.request.request_notification.Goals as goal

pub returns-in_err-reserve-clause-serves : goal.returns-in_err-reserve-clause-serves
returns-in_err-reserve-clause-serves c =
    let p = err_from_is_err_and c.from_residual.result c.from_residual.ensures.1 in
    let err = c.in_err-reserve.ensures.err in
    let j = c.in-Ok.judged in
    rw (p.1, p.2, err.0) (short_of c.args.world.now c.args.task c.args.name c.args.asked.now j.paying j.subject j.previous c.requires.there c.in-Ok.ensures.ok c.reserve.new.world err.1)

pub returns-in_err-reserve-clause-wanted : goal.returns-in_err-reserve-clause-wanted
returns-in_err-reserve-clause-wanted c =
    let p = err_from_is_err_and c.from_residual.result c.from_residual.ensures.1 in
    let j = c.in-Ok.judged in
    rw (p.1, p.2) (λ e. record { paying = j.paying; subject = j.subject; previous = j.previous; may = c.in-Ok.ensures.ok; lacks = c.in_err-reserve.ensures.lacks })

pub carry_out-given-requires : goal.carry_out-given-requires
carry_out-given-requires c =
    let j = c.in-Ok.judged in
    can_carry c.args.world.now c.args.task c.args.name c.args.asked.now j.subject j.previous c.requires.there c.requires.stands c.reserve.new.world j.paying c.in-Ok.ensures.ok c.in_ok-reserve.ensures.ok

pub returns-clause-serves : goal.returns-clause-serves
returns-clause-serves c =
    let j = c.in-Ok.judged in
    carried c.args.world.now c.args.task c.args.name c.args.asked.now j.subject j.previous c.requires.there c.requires.stands c.reserve.new.world j.paying c.in-Ok.ensures.ok c.in_ok-reserve.ensures.ok
    c.carry_out-given.result c.carry_out-given.new.world c.carry_out-given.ensures

pub returns-clause-spares : goal.returns-clause-spares
returns-clause-spares c =
    let j = c.in-Ok.judged in
    leaves_request c.args.world.now c.reserve.new.world c.args.task c.args.name c.args.asked.now j.paying j.subject j.previous c.in-Ok.ensures.ok.pays
    c.in_ok-reserve.ensures.ok.same c.in_ok-reserve.ensures.made c.carry_out-given.result c.carry_out-given.new.world c.carry_out-given.ensures
