use Rattle.std.proofs.Common.{refl}
use Rattle.std.proofs.lemmas.Result.{err_from_is_err_and}
use Rattle.copyin_base.proofs.Spares.{keeps_same}
use Rattle.kernel_core.proofs.Keeping.{refused_spares}
use Rattle.kernel_core.proofs.Sourced.{again_took, again_serves, again_leaves, again_keeps, again_tells}
use Rattle.kernel_core.proofs.Sparing.{not_short_again}
use Rattle.kernel_core.proofs.receive.receive_again.Goals as goal

pub returns-in_err-judge_again-clause-wanted : goal.returns-in_err-judge_again-clause-wanted
returns-in_err-judge_again-clause-wanted c =
    let p = err_from_is_err_and c.from_residual.result c.from_residual.ensures.1 in
    rw (p.1, p.2) (λ e. absurd (not_short_again c.args.world.now c.args.task c.args.waited _ c.requires.stands c.in_err-judge_again.ensures.err e))

pub returns-in_err-judge_again-clause-spares : goal.returns-in_err-judge_again-clause-spares
returns-in_err-judge_again-clause-spares c =
    let p = err_from_is_err_and c.from_residual.result c.from_residual.ensures.1 in
    rw (p.1, p.2) (refused_spares _ _ _ _ (keeps_same c.args.world.now c.args.world.now refl))

pub returns-in_err-judge_again-clause-turns : goal.returns-in_err-judge_again-clause-turns
returns-in_err-judge_again-clause-turns c =
    let p = err_from_is_err_and c.from_residual.result c.from_residual.ensures.1 in
    rw p.1 refl

pub returns-clause-takes : goal.returns-clause-takes
returns-clause-takes c =
    again_took c.args.world.now c.receive_from.new.world c.args.task c.args.buffer.room c.args.buffer.large c.requires.there c.args.waited c.ready-ready.result c.ready-ready.ensures.first c.ready-ready.ensures.ready c.in_ok-judge_again.ensures.ok
    c.receive_from.result c.receive_from.ensures.ok

pub returns-clause-serves : goal.returns-clause-serves
returns-clause-serves c =
    again_serves c.args.world.now c.receive_from.new.world c.args.task c.args.buffer.room c.args.buffer.large c.requires.there c.args.waited c.ready-ready.result c.ready-ready.ensures.first c.ready-ready.ensures.ready c.in_ok-judge_again.ensures.ok
    c.receive_from.result c.receive_from.ensures.ok c.receive_from.ensures.err

pub returns-clause-spares : goal.returns-clause-spares
returns-clause-spares c =
    again_leaves c.args.world.now c.receive_from.new.world c.args.task c.args.buffer.room c.args.buffer.large c.requires.there c.args.waited c.ready-ready.result c.ready-ready.ensures.first c.ready-ready.ensures.ready c.in_ok-judge_again.ensures.ok
    c.receive_from.result c.receive_from.ensures.err c.receive_from.ensures.spares

pub returns-clause-turns : goal.returns-clause-turns
returns-clause-turns c =
    again_keeps c.args.world.now c.receive_from.new.world c.args.task c.args.buffer.room c.args.buffer.large c.requires.there c.args.waited c.ready-ready.result c.ready-ready.ensures.first c.ready-ready.ensures.ready c.in_ok-judge_again.ensures.ok
    c.receive_from.result c.receive_from.ensures.err c.receive_from.ensures.turns

pub returns-clause-tells : goal.returns-clause-tells
returns-clause-tells c =
    again_tells c.args.world.now c.receive_from.new.world c.args.task c.args.buffer.room c.args.buffer.large c.requires.there c.args.waited c.ready-ready.result c.ready-ready.ensures.first c.ready-ready.ensures.ready c.in_ok-judge_again.ensures.ok
    c.requires.stands c.args.told.now c.receive_from.new.told c.receive_from.result c.receive_from.ensures.ok c.requires.nothing c.receive_from.ensures.tells
