use Rattle.std.specs.Prelude.{ℕ, Contains, take}
use Rattle.kernel_core.specs.MemoryCodes.{IsReceivable}
use Rattle.kernel_core.proofs.memory.is_one_receivable.Given as goal

abbrev pub invariant-loop-port : goal.invariant-loop-port
invariant-loop-port l = (port : ℕ) → Contains (take l.port-index l.ports) port → ¬ (IsReceivable l.world l.task port l.room)
