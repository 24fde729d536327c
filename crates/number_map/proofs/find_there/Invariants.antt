use Rattle.std.proofs.Common.{◌≡◌, ◌≤◌, ◌/◌, ◌^◌, ℕ, suc}
use Rattle.number_map.specs.Kept.{walk, link_at, head_at, HasKey}
use Rattle.number_map.proofs.Trees.{left}
use Rattle.number_map.proofs.find_there.Given as goal

abbrev pub invariant-loop-place : goal.invariant-loop-place
invariant-loop-place g l =
    (d : ℕ) × (l.bits ≡ l.key / 2 ^ d)
    × (suc l.place ≡ walk (link_at l.nodes) (head_at l.heads l.key) l.key d)
    × ((x : ℕ) → HasKey l.nodes l.key x → (e : ℕ) × (d ≤ e) × (walk (link_at l.nodes) (head_at l.heads l.key) l.key e ≡ suc x))

abbrev pub decreases-loop-place : goal.decreases-loop-place
decreases-loop-place g l = left (link_at l.nodes) 66 (suc l.place) l.bits
