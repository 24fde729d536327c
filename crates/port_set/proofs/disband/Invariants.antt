use Rattle.std.proofs.Common.{◌≡◌}
use Rattle.port_set.specs.Kept.{members_below, IsLeaving}
use Rattle.port_set.proofs.disband.Given as goal

abbrev pub invariant-loop-set : goal.invariant-loop-set
invariant-loop-set g l = IsLeaving l.initial.ports.bare l.ports.bare l.set × (l.ports.counts ≡ l.initial.ports.counts)

abbrev pub decreases-loop-set : goal.decreases-loop-set
decreases-loop-set g l = members_below l.ports.bare l.set l.ports.bare.made
