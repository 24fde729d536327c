use Rattle.std.proofs.Common.{◌-◌, ◌<◌}
use Rattle.number_map.specs.Kept.{link_at}
use Rattle.number_map.proofs.Trees.{left}
use Rattle.number_map.proofs.Rows.{IsLeading}
use Rattle.number_map.proofs.lead_below.Given as goal

abbrev pub invariant-loop-link : goal.invariant-loop-link
invariant-loop-link g l = (0 < l.above) × IsLeading l.nodes l.first l.key (l.above - 1) l.bits l.link

abbrev pub decreases-loop-link : goal.decreases-loop-link
decreases-loop-link g l = left (link_at l.nodes) 66 l.above l.bits
