use Rattle.std.proofs.Common.{◌≡◌, ◌+◌, All, length}
use Rattle.mach_run_base.specs.Enrolling.{AreEnrolled}
use Rattle.mach_run_base.proofs.running.enroll.Given as goal

-- each block so far has a new pass, which is the next caller
abbrev pub invariant-loop-block : goal.invariant-loop-block
invariant-loop-block l =
    (l.held.kernel.table ≡ l.fn.shared.table) × (l.held.kernel.log ≡ l.fn.held.kernel.log) × (l.held.kernel.passes ≡ l.fn.held.kernel.passes + length l.yielded)
    × All (λ one. one.pass.table ≡ l.fn.shared.table) l.all.items × AreEnrolled l.fn.held.kernel.passes l.yielded l.all.items
