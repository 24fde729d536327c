use Rattle.std.proofs.Common.{◌≡◌, ◌≤◌, ◌+◌, ◌-◌, ◌^◌, Some, length, drop}
use Rattle.std.specs.Prelude.{min}
use Rattle.port.specs.Ports.{PortView, sets_in}
use Rattle.copyin_base.specs.Kept.{Kept}
use Rattle.copyin_base.specs.Worlds.{port_at}
use Rattle.mach_state.specs.Said.{number_of}
use Rattle.mach_state.proofs.states.count_more_sets.Given as goal

abbrev pub invariant-loop-more : goal.invariant-loop-more
invariant-loop-more l = (l.more ≤ 2 ^ 64 - 1) × ((v : PortView Kept) → port_at l.world l.fn.port ≡ Some v → min (l.more + length l.sets) (2 ^ 64 - 1) ≡ number_of (drop 1 (sets_in v)))

abbrev pub decreases-loop-more : goal.decreases-loop-more
decreases-loop-more l = length l.sets
