use Rattle.std.proofs.Common.{◌≡◌, sym, subst, ◌∙◌}
use Rattle.std.proofs.lemmas.Result.{on_ok_weaker, IfErr-weaker}
use Rattle.copyin_base.specs.Changes.{MakesRoom}
use Rattle.copyin_base.specs.Worlds.{WorldView}
use Rattle.copyout.proofs.Rooms.{needed_has, needed_lacks, where_err}
use Rattle.copyout.proofs.receipt.make_enough.Goals as goal

pub returns-clause-ok : goal.returns-clause-ok
returns-clause-ok c =
    let old = c.args.world.now in
    let e = c.requires.enough in
    let same : c.make_room.new.world ≡ old = where_err c.make_room.result _ (sym c.is_ok.ensures.value ∙ c.if-is_ok.false) c.make_room.ensures.err in
    on_ok_weaker c.make_room-2.result
    (λ r. (
      c.room_needed-needed.result,
      subst (λ (w : WorldView). MakesRoom w c.args.task c.room_needed-needed.result c.make_room-2.new.world) same r,
      needed_has old c.make_room.new.world same c.args.task c.args.found.port c.args.number c.room_needed-needed.result e.0 e.1 e.2 c.front.result.0.now c.front.ensures.front c.space.result c.space.ensures c.room_needed-needed.ensures,
    )) c.make_room-2.ensures.ok

pub returns-clause-lacks : goal.returns-clause-lacks
returns-clause-lacks c =
    let old = c.args.world.now in
    let e = c.requires.enough in
    let same : c.make_room.new.world ≡ old = where_err c.make_room.result _ (sym c.is_ok.ensures.value ∙ c.if-is_ok.false) c.make_room.ensures.err in
    IfErr-weaker c.make_room-2.result _ _
    (λ code less. needed_lacks old c.make_room.new.world same c.args.task c.args.found.port c.args.number c.room_needed-needed.result e.0 e.1 e.2 c.front.result.0.now c.front.ensures.front c.space.result c.space.ensures c.room_needed-needed.ensures less)
    c.make_room-2.ensures.lacks
