use Rattle.std.proofs.Common.{length}
use Rattle.mach_state.proofs.words.State.write_sets.Given as goal

abbrev pub decreases-loop-set : goal.decreases-loop-set
decreases-loop-set l = length l.sets
