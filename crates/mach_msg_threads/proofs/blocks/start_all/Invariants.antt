use Rattle.std.proofs.Common.{◌≡◌}
use Rattle.std.specs.List.{AllZip}
use Rattle.mach_msg_threads.proofs.blocks.start_all.Given as goal

abbrev pub invariant-loop-block : goal.invariant-loop-block
invariant-loop-block g l = AllZip (λ block h. (h.promise.pass.value ≡ block.pass) × (h.promise.calls.value ≡ block.calls)) l.yielded l.handles.items
