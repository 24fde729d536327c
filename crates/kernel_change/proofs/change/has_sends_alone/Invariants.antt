use Rattle.std.specs.Prelude.{◌-◌, ◌^◌}
use Rattle.kernel_change.proofs.NamesAsked.{AreSends}
use Rattle.kernel_change.proofs.change.has_sends_alone.Given as goal

-- the names below stand for send rights and dead names
abbrev pub invariant-loop-name : goal.invariant-loop-name
invariant-loop-name l = AreSends l.space.names l.from

abbrev pub decreases-loop-name : goal.decreases-loop-name
decreases-loop-name l = 2 ^ 32 - l.from
