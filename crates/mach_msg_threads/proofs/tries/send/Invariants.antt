use Rattle.std.proofs.Common.{◌≡◌, true}
use Rattle.std.specs.Prelude.{None}
use Rattle.mach_types.specs.declared.calls.Event.{Event}
use Rattle.mach_msg_threads.specs.Tries.{Retries, IsFull}
use Rattle.mach_msg_threads.specs.ByGate.{Pauses}
use Rattle.mach_msg_threads.proofs.tries.send.Given as goal

abbrev pub invariant-loop : goal.invariant-loop
invariant-loop g l =
    (l.pass.table ≡ l.fn.shared.table) × Retries (Event.Send l.fn.sending.task l.fn.bytes) IsFull l.fn.pass l.pass × (l.fn.sending.once ≡ true → l.pass ≡ l.fn.pass)
    × Pauses g.G.Gate.passes (Event.Send l.fn.sending.task l.fn.bytes) IsFull None l.fn.sending.once 0 l.turn l.fn.pass l.fn.gate l.pass l.gate
