use Rattle.std.proofs.Common.{◌≡◌, All, map}
use Rattle.std.specs.List.{AllZip}
use Rattle.mach_run_base.specs.Enrolling.{IsReady}
use Rattle.mach_run_base.proofs.BlockTexts.{number_of}
use Rattle.mach_run_base.proofs.running.run_threads.Given as goal

-- each block so far has its number, and stands ready with its pass, which has seen what the main thread's has
abbrev pub invariant-loop-block : goal.invariant-loop-block
invariant-loop-block g l =
    (l.held.kernel.table ≡ l.fn.shared.table) × (l.held.kernel.profile ≡ l.fn.shared.profile) × (l.held.kernel.log ≡ l.main.seen) × (l.numbers.items ≡ map number_of l.yielded)
    × AllZip (λ one ready. IsReady l.fn.shared.profile l.main.seen one ready.pass ready.calls.items) l.yielded l.ready.items × All (λ one. one.pass.table ≡ l.fn.shared.table) l.ready.items
