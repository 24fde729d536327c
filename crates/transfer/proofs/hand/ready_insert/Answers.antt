use Rattle.std.proofs.Common.{inl, inr}
use Rattle.std.proofs.lemmas.Result.{err_from_is_err_and}
use Rattle.transfer.specs.Room.{slots_needed}
use Rattle.transfer.proofs.Results.{if_err, on_ok, on_err}
use Rattle.transfer.proofs.Sparing.{still_lacks, none_made, placed_room, placed_roomier}
use Rattle.transfer.proofs.hand.ready_insert.Goals as goal

pub returns-in_err-keep_place-clause-err : goal.returns-in_err-keep_place-clause-err
returns-in_err-keep_place-clause-err c =
    let p = err_from_is_err_and c.from_residual.result c.from_residual.ensures.1 in
    let short = c.in_err-keep_place.ensures.err in
    rw (p.1, p.2) (short.0, none_made c.args.world.now c.keep_place.new.world short.1)

pub returns-in_err-keep_place-clause-lacks : goal.returns-in_err-keep_place-clause-lacks
returns-in_err-keep_place-clause-lacks c =
    let p = err_from_is_err_and c.from_residual.result c.from_residual.ensures.1 in
    rw p.1 (inl c.in_err-keep_place.ensures.lacks)

pub returns-clause-ok : goal.returns-clause-ok
returns-clause-ok c = on_ok c.make_slot.result _ _ c.make_slot.ensures.ok (λ slot. record { mid = c.keep_place.new.world; placed = c.in_ok-keep_place.ensures.ok; slot = slot })

pub returns-clause-err : goal.returns-clause-err
returns-clause-err c = if_err c.make_slot.result _ _ c.make_slot.ensures.err (λ code h. (h.0, placed_roomier c.args.world.now c.keep_place.new.world c.args.to.now.task c.args.handed.now c.args.to.now.name c.make_slot.new.world c.in_ok-keep_place.ensures.ok h.1))

pub returns-clause-lacks : goal.returns-clause-lacks
returns-clause-lacks c = on_err c.make_slot.result _ _ c.make_slot.ensures.lacks (λ few. inr (still_lacks c.args.world.now c.keep_place.new.world (slots_needed c.args.handed.now)
    (placed_room c.args.world.now c.keep_place.new.world c.args.to.now.task c.args.handed.now.is_new c.args.to.now.name c.in_ok-keep_place.ensures.ok) few))
