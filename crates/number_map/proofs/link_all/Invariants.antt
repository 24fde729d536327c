use Rattle.std.proofs.Common.{◌≡◌, length}
use Rattle.number_map.specs.Kept.{IsPlanted, SameEntries}
use Rattle.number_map.proofs.link_all.Given as goal

abbrev pub invariant-loop-place : goal.invariant-loop-place
invariant-loop-place g l =
    IsPlanted l.nodes l.heads l.place 0
    × SameEntries l.initial.nodes l.nodes
    × (length l.nodes ≡ length l.initial.nodes)
    × (length l.heads ≡ length l.initial.heads)
