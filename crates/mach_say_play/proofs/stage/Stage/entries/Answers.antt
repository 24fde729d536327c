use Rattle.std.proofs.Common.{subst}
use Rattle.kernel_lock.specs.History.{Legal}
use Rattle.kernel_lock.proofs.Replaying.{legal_of}
use Rattle.mach_say_play.specs.Stages.{StageView}
use Rattle.mach_say_play.proofs.stage.Stage.entries.Goals as goal

pub returns-clause-legal : goal.returns-clause-legal
returns-clause-legal c = subst (λ (x : StageView). Legal x.profile x.entries) c.self.view_is (legal_of _ _ _ c.self.invariant)
