use Rattle.destroy.proofs.EndIdle.{settles_idle}
use Rattle.kernel_core.proofs.kernel.end_step.Goals as goal

pub returns-then-is_idle-clause-settles : goal.returns-then-is_idle-clause-settles
returns-then-is_idle-clause-settles c = settles_idle c.args.world.now (c.is_idle.ensures.idle.0 c.if-is_idle.true) c.is_idle.ensures.lost c.is_idle.ensures.doomed
