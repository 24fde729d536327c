use Rattle.std.proofs.Common.{◌≡◌, All}
use Rattle.mach_run_base.specs.Callers.{SeesAll}
use Rattle.mach_run_base.proofs.running.show_all.Given as goal

-- the passes so far have seen all
abbrev pub invariant-loop-block : goal.invariant-loop-block
invariant-loop-block l = (l.held.kernel ≡ l.fn.held.kernel) × All (λ one. SeesAll one.0 l.fn.held.kernel.log) l.yielded
