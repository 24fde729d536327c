use Rattle.std.proofs.Common.{◌≡◌, ℕ, suc}
use Rattle.number_map.specs.Kept.{link_at}
use Rattle.number_map.proofs.Trees.{left}
use Rattle.number_map.proofs.Planted.{below_at, fall}
use Rattle.number_map.proofs.leaf_below.Given as goal

abbrev pub invariant-loop-link : goal.invariant-loop-link
invariant-loop-link g l =
    (d : ℕ) × (suc l.leaf ≡ fall l.nodes (suc l.place) d) × (l.link ≡ below_at l.nodes l.leaf) × (l.link ≡ 0 → (i : ℕ) → link_at l.nodes l.leaf i ≡ 0)

abbrev pub decreases-loop-link : goal.decreases-loop-link
decreases-loop-link g l = left (λ x i. below_at l.nodes x) 66 l.link 0
