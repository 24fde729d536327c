use Rattle.destroy.specs.Judging.{CarriesAmong}
use Rattle.destroy.proofs.JudgeCarried.{still_last, loses_reply, loses_next}
use Rattle.destroy.proofs.judging.lose_carried.Goals as goal

pub loop-place-init : goal.loop-place-init
loop-place-init c m last =
    let l = loses_reply m c.args.world.now last c.lose_if_any.new.world c.carried_reply.result (c.carried_reply.ensures m last) c.lose_if_any.ensures.some c.lose_if_any.ensures.none in
    (c.count_carried-place-end.ensures m (still_last m c.args.world.now last (CarriesAmong m 0) c.lose_if_any.new.world l), l)

pub loop-place-preserved : goal.loop-place-preserved
loop-place-preserved c m last =
    let i = c.loop-place.invariant m last in
    let now = still_last m c.args.world.now last (CarriesAmong m c.loop-place.place) c.loop-place.world i.1 in (
      i.0,
      loses_next m c.args.world.now last c.loop-place.place c.loop-place.world c.lose_if_any-in-loop-place.new.world c.carried_at.result (c.carried_at.ensures m now) i.1
          c.lose_if_any-in-loop-place.ensures.some c.lose_if_any-in-loop-place.ensures.none,
    )
