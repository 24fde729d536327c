use Rattle.kernel_core.proofs.Chosen.{passed-more}
use Rattle.kernel_core.proofs.choice.advance.Goals as goal

pub loop-preserved : goal.loop-preserved
loop-preserved c = passed-more c.args.world.now c.loop.world c.pass_turn.new.self c.args.set c.in-Some.first c.loop.invariant c.pass_turn.ensures.passes c.pass_turn.ensures.rest
