use Rattle.std.proofs.Common.{◌≡◌}
use Rattle.mach_follow.proofs.follower.Follower.remember_message.Given as goal

-- the kernel stays as it was
abbrev pub invariant-loop-item : goal.invariant-loop-item
invariant-loop-item l = l.self.kernel ≡ l.initial.self.kernel
