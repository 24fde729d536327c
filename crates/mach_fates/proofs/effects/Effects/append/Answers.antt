use Rattle.mach_fates.proofs.Counting.{appended_more}
use Rattle.mach_fates.proofs.effects.Effects.append.Goals as goal

pub loop-place-preserved : goal.loop-place-preserved
loop-place-preserved c =
    appended_more c.args.turn.now.number c.loop-place.place c.args.waiting.now.origins c.loop-place.waiting.origins c.push_back.new.self c.in_ok-origin.origin c.loop-place.invariant c.in_ok-origin.ensures c.in_ok-push_back.ensures.items
