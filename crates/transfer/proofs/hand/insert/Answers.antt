use Rattle.std.proofs.lemmas.Result.{err_from_is_err_and}
use Rattle.std.proofs.Common.{refl}
use Rattle.copyin_base.proofs.Spares.{keeps_refl}
use Rattle.transfer.specs.Room.{slots_needed}
use Rattle.transfer.proofs.Going.{usable_name}
use Rattle.transfer.proofs.Transferring.{insert_short_of, inserts_copies, inserts_puts, insert_done}
use Rattle.transfer.proofs.Sparing.{wants_insert, placed_keeps, placed_room, insert_keeps, roomier_slots}
use Rattle.transfer.proofs.hand.insert.Goals as goal

pub returns-in_err-handed-clause-wanted : goal.returns-in_err-handed-clause-wanted
returns-in_err-handed-clause-wanted c =
    let p = err_from_is_err_and c.from_residual.result c.from_residual.ensures.1 in
    rw (p.1, p.2) (λ e. absurd (c.in_err-handed.ensures.early e))

pub ready_insert-requires-clause-usable : goal.ready_insert-requires-clause-usable
ready_insert-requires-clause-usable c = usable_name c.args.to.now.name c.in_ok-handed.ensures.ok.to_named

pub returns-in_err-ready_insert-clause-serves : goal.returns-in_err-ready_insert-clause-serves
returns-in_err-ready_insert-clause-serves c =
    let p = err_from_is_err_and c.from_residual-in_err-ready_insert.result c.from_residual-in_err-ready_insert.ensures.1 in
    let short = c.in_err-ready_insert.ensures.err in
    rw (p.1, p.2, short.0) (insert_short_of c.args.world.now c.args.to.now c.args.from.now c.args.number c.in_ok-handed.handed c.in_ok-handed.ensures.ok c.requires.there c.ready_insert.new.world short.1)

pub returns-in_err-ready_insert-clause-wanted : goal.returns-in_err-ready_insert-clause-wanted
returns-in_err-ready_insert-clause-wanted c =
    let p = err_from_is_err_and c.from_residual-in_err-ready_insert.result c.from_residual-in_err-ready_insert.ensures.1 in
    rw (p.1, p.2) (λ e. wants_insert c.args.world.now c.args.to.now c.args.from.now c.args.number c.in_ok-handed.handed c.requires.stands c.in_ok-handed.ensures.ok c.in_err-ready_insert.ensures.lacks)

pub returns-in_err-ready_insert-clause-spares : goal.returns-in_err-ready_insert-clause-spares
returns-in_err-ready_insert-clause-spares c = roomier_slots c.args.world.now c.ready_insert.new.world c.in_err-ready_insert.ensures.err.1.keeps

pub returns-in_err-handed-clause-spares : goal.returns-in_err-handed-clause-spares
returns-in_err-handed-clause-spares c = roomier_slots c.args.world.now c.args.world.now (keeps_refl c.args.world.now)

pub copy_name-requires : goal.copy_name-requires
copy_name-requires c =
    inserts_copies c.args.world.now c.args.to.now c.args.from.now c.args.number c.in_ok-handed.handed c.in_ok-handed.ensures.ok c.ready_insert.new.world c.in_ok-ready_insert.ensures.ok c.requires.there.0 c.requires.stands

pub put_right-requires : goal.put_right-requires
put_right-requires c =
    inserts_puts c.args.world.now c.args.to.now c.args.from.now c.args.number c.in_ok-handed.handed c.in_ok-handed.ensures.ok c.ready_insert.new.world c.in_ok-ready_insert.ensures.ok c.requires.there.0
    c.copy_name.new.world c.copy_name.ensures c.requires.stands

pub returns-clause-serves : goal.returns-clause-serves
returns-clause-serves c =
    rw c.number.ensures (insert_done c.args.world.now c.args.to.now c.args.from.now c.args.number c.in_ok-handed.handed c.in_ok-handed.ensures.ok c.ready_insert.new.world c.in_ok-ready_insert.ensures.ok c.requires.there.0
    c.copy_name.new.world c.copy_name.ensures c.put_right.new.world c.put_right.ensures c.requires.there)

pub returns-clause-spares : goal.returns-clause-spares
returns-clause-spares c =
    let w = c.args.world.now in
    let handed = c.in_ok-handed.handed in
    let made = c.in_ok-ready_insert.ensures.ok in
    insert_keeps w made.mid c.ready_insert.new.world c.copy_name.new.world c.put_right.new.world c.args.from.now.task c.args.to.now.task (slots_needed handed)
    (placed_keeps w made.mid c.args.to.now.task handed.is_new c.args.to.now.name made.placed) (placed_room w made.mid c.args.to.now.task handed.is_new c.args.to.now.name made.placed) made.slot
    handed.given _ handed.port c.copy_name.ensures refl _ _ c.put_right.ensures
