use Rattle.std.proofs.Common.{◌≡◌, Bor, ℕ, map}
use Rattle.kernel_core_base.proofs.sets.names_of.Given as goal

-- the names so far
abbrev pub invariant-loop-number : goal.invariant-loop-number
invariant-loop-number l = l.names.items ≡ map (λ (n : Bor ℕ). n.now) l.yielded
