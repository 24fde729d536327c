use Rattle.std.proofs.Common.{◌≡◌}
use Rattle.mach_follow.proofs.follower.Follower.remember_ports.Given as goal

-- the kernel stays as it was
abbrev pub invariant-loop-index : goal.invariant-loop-index
invariant-loop-index l = l.self.kernel ≡ l.initial.self.kernel
