use Rattle.std.proofs.Common.{ℕ, subst, inl, inr}
use Rattle.std.proofs.lemmas.Result.{err_from_is_err_and}
use Rattle.copyin_base.specs.Changes.{MakesRoom}
use Rattle.copyin_base.specs.Wanted.{LacksRoomFor}
use Rattle.copyin_base.proofs.Roomier.{room_made}
use Rattle.transfer.specs.Room.{slots_needed}
use Rattle.transfer.proofs.Results.{if_err, on_ok, on_err}
use Rattle.transfer.proofs.Sparing.{still_lacks, none_made, made_roomier}
use Rattle.transfer.proofs.hand.ready_extract.Goals as goal

pub returns-in_err-reserve_names-clause-err : goal.returns-in_err-reserve_names-clause-err
returns-in_err-reserve_names-clause-err c =
    let p = err_from_is_err_and c.from_residual.result c.from_residual.ensures.1 in
    let short = c.in_err-reserve_names.ensures.err in
    rw (p.1, p.2) (short.0, none_made c.args.world.now c.reserve_names.new.self short.1)

pub returns-in_err-reserve_names-clause-lacks : goal.returns-in_err-reserve_names-clause-lacks
returns-in_err-reserve_names-clause-lacks c =
    let p = err_from_is_err_and c.from_residual.result c.from_residual.ensures.1 in
    rw p.1 (inl (subst (LacksRoomFor c.args.world.now c.args.to) c.count_names.ensures c.in_err-reserve_names.ensures.lacks))

pub returns-clause-ok : goal.returns-clause-ok
returns-clause-ok c = on_ok c.make_slot.result _ _ c.make_slot.ensures.ok (λ slot. record {
  mid = c.reserve_names.new.self;
  roomy = subst (λ (n : ℕ). MakesRoom c.args.world.now c.args.to n c.reserve_names.new.self) c.count_names.ensures c.in_ok-reserve_names.ensures.ok;
  slot = slot;
})

pub returns-clause-err : goal.returns-clause-err
returns-clause-err c =
    let roomy = subst (λ (n : ℕ). MakesRoom c.args.world.now c.args.to n c.reserve_names.new.self) c.count_names.ensures c.in_ok-reserve_names.ensures.ok in
    if_err c.make_slot.result _ _ c.make_slot.ensures.err (λ code h. (h.0, made_roomier c.args.world.now c.reserve_names.new.self c.args.to c.args.handed.now c.make_slot.new.world roomy h.1))

pub returns-clause-lacks : goal.returns-clause-lacks
returns-clause-lacks c = on_err c.make_slot.result _ _ c.make_slot.ensures.lacks (λ few. inr (still_lacks c.args.world.now c.reserve_names.new.self (slots_needed c.args.handed.now)
    (room_made c.args.world.now c.reserve_names.new.self c.args.to _ c.in_ok-reserve_names.ensures.ok) few))
