use Rattle.mach_laws.proofs.Playing.{refusal_leaves}
use Rattle.mach_laws.proofs.refusals_change_nothing.Goals as goal

pub returns : goal.returns
returns c = λ now old new event code step some. refusal_leaves now old event code new step some
