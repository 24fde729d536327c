use Rattle.std.proofs.Common.{◌≡◌, length}
use Rattle.std.specs.FinMap as map
use Rattle.copyin.specs.Overlays.{puts}
use Rattle.copyin.proofs.touched.after_few.Given as goal

abbrev pub invariant-loop-last : goal.invariant-loop-last
invariant-loop-last l = map.get (puts l.space.names l.few) l.name ≡ map.get (puts l.space.names l.earlier) l.name

abbrev pub decreases-loop-last : goal.decreases-loop-last
decreases-loop-last l = length l.earlier
