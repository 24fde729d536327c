use Rattle.kernel_core.proofs.Stepping.{opening_shows, opening_stands}
use Rattle.kernel_core.proofs.kernel.Kernel.with_profile.Goals as goal

pub returns-clause-shows : goal.returns-clause-shows
returns-clause-shows c = rw c.new.ensures (opening_shows c.args.profile)

pub invariant_of-result : goal.invariant_of-result
invariant_of-result c = rw c.new.ensures (opening_stands c.args.profile)
