use Rattle.std.proofs.Common.{refl}
use Rattle.std.proofs.lemmas.Result.{err_from_is_err_and}
use Rattle.copyin_base.proofs.Roomier.{room_made}
use Rattle.copyin_base.proofs.Spares.{keeps_refl}
use Rattle.transfer.specs.Room.{slots_needed}
use Rattle.transfer.proofs.Transferring.{extract_short_of, extracts_copies, extracts_gives, extract_done}
use Rattle.transfer.proofs.Sparing.{wants_extract, ready_keeps, extract_keeps, roomier_slots}
use Rattle.transfer.proofs.hand.extract.Goals as goal

pub returns-in_err-handed-clause-wanted : goal.returns-in_err-handed-clause-wanted
returns-in_err-handed-clause-wanted c =
    let p = err_from_is_err_and c.from_residual.result c.from_residual.ensures.1 in
    rw (p.1, p.2) (λ e. absurd (c.in_err-handed.ensures.early e))

pub returns-in_err-ready_extract-clause-serves : goal.returns-in_err-ready_extract-clause-serves
returns-in_err-ready_extract-clause-serves c =
    let p = err_from_is_err_and c.from_residual-in_err-ready_extract.result c.from_residual-in_err-ready_extract.ensures.1 in
    let short = c.in_err-ready_extract.ensures.err in
    rw (p.1, p.2, short.0) (extract_short_of c.args.world.now c.args.from.now c.args.number c.args.to c.in_ok-handed.handed c.in_ok-handed.ensures.ok c.requires.there c.ready_extract.new.world short.1)

pub returns-in_err-ready_extract-clause-wanted : goal.returns-in_err-ready_extract-clause-wanted
returns-in_err-ready_extract-clause-wanted c =
    let p = err_from_is_err_and c.from_residual-in_err-ready_extract.result c.from_residual-in_err-ready_extract.ensures.1 in
    rw (p.1, p.2) (λ e. wants_extract c.args.world.now c.args.from.now c.args.number c.args.to c.in_ok-handed.handed c.requires.stands c.in_ok-handed.ensures.ok c.in_err-ready_extract.ensures.lacks)

pub returns-in_err-ready_extract-clause-spares : goal.returns-in_err-ready_extract-clause-spares
returns-in_err-ready_extract-clause-spares c = roomier_slots c.args.world.now c.ready_extract.new.world c.in_err-ready_extract.ensures.err.1.keeps

pub returns-in_err-handed-clause-spares : goal.returns-in_err-handed-clause-spares
returns-in_err-handed-clause-spares c = roomier_slots c.args.world.now c.args.world.now (keeps_refl c.args.world.now)

pub copy_name-requires : goal.copy_name-requires
copy_name-requires c =
    extracts_copies c.args.world.now c.args.from.now c.args.number c.args.to c.in_ok-handed.handed c.in_ok-handed.ensures.ok c.ready_extract.new.world c.in_ok-ready_extract.ensures.ok c.requires.stands

pub give_right-name-requires : goal.give_right-name-requires
give_right-name-requires c =
    extracts_gives c.args.world.now c.args.from.now c.args.number c.args.to c.in_ok-handed.handed c.in_ok-handed.ensures.ok c.ready_extract.new.world c.in_ok-ready_extract.ensures.ok
    c.copy_name.new.world c.copy_name.ensures c.requires.stands

pub returns-clause-serves : goal.returns-clause-serves
returns-clause-serves c =
    rw c.kind_number.ensures (extract_done c.args.world.now c.args.from.now c.args.number c.args.to c.in_ok-handed.handed c.in_ok-handed.ensures.ok c.ready_extract.new.world c.in_ok-ready_extract.ensures.ok
    c.copy_name.new.world c.copy_name.ensures c.give_right-name.result c.give_right-name.new.world c.give_right-name.ensures c.requires.there)

pub returns-clause-spares : goal.returns-clause-spares
returns-clause-spares c =
    let w = c.args.world.now in
    let handed = c.in_ok-handed.handed in
    let made = c.in_ok-ready_extract.ensures.ok in
    extract_keeps w made.mid c.ready_extract.new.world c.copy_name.new.world c.give_right-name.new.world c.args.from.now.task c.args.to (slots_needed handed)
    (ready_keeps w made.mid c.args.to handed made.roomy) (room_made w made.mid c.args.to _ made.roomy) made.slot
    handed.given _ handed.port c.copy_name.ensures refl _ _ c.give_right-name.ensures
