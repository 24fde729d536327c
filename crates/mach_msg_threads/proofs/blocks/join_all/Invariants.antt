use Rattle.std.proofs.Common.{◌≡◌}
use Rattle.std.specs.List.{AllZip}
use Rattle.mach_msg_threads.specs.Blocks.{Ran}
use Rattle.mach_msg_threads.proofs.blocks.join_all.Given as goal

abbrev pub invariant-loop-handle : goal.invariant-loop-handle
invariant-loop-handle g l =
    AllZip (λ h ran. (ran.0.table ≡ h.promise.pass.value.table) × Ran h.promise.pass.value h.promise.calls.value.items ran.1.items ran.0) l.yielded l.all.items
