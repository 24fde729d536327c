use Rattle.std.proofs.Common.{◌≡◌, ◌≤◌, ◌/◌, ◌^◌, ℕ, suc}
use Rattle.number_map.specs.Kept.{walk, link_at, head_at, HasKey}
use Rattle.number_map.proofs.Trees.{left}
use Rattle.number_map.proofs.find.Given as goal

abbrev pub invariant-loop-link : goal.invariant-loop-link
invariant-loop-link g l =
    (d : ℕ) × (l.bits ≡ l.key / 2 ^ d)
    × (l.link ≡ walk (link_at l.nodes) (head_at l.heads l.key) l.key d)
    × ((x : ℕ) → HasKey l.nodes l.key x → (e : ℕ) × (d ≤ e) × (walk (link_at l.nodes) (head_at l.heads l.key) l.key e ≡ suc x))

abbrev pub decreases-loop-link : goal.decreases-loop-link
decreases-loop-link g l = left (link_at l.nodes) 66 l.link l.bits
