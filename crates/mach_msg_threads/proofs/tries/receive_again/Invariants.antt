use Rattle.std.proofs.Common.{◌≡◌, false}
use Rattle.std.specs.Prelude.{Some}
use Rattle.mach_types.specs.declared.calls.Event.{Event}
use Rattle.mach_msg_threads.specs.Tries.{Retries, IsEmpty}
use Rattle.mach_msg_threads.specs.ByGate.{Pauses}
use Rattle.mach_msg_threads.proofs.tries.receive_again.Given as goal

abbrev pub invariant-loop : goal.invariant-loop
invariant-loop g l =
    (l.pass.table ≡ l.fn.shared.table) × Retries (Event.ReceiveAgain l.fn.receiving.task l.fn.waited l.fn.receiving.room l.fn.receiving.large) IsEmpty l.fn.pass l.pass
    × Pauses g.G.Gate.passes (Event.ReceiveAgain l.fn.receiving.task l.fn.waited l.fn.receiving.room l.fn.receiving.large) IsEmpty (Some l.fn.waited) false 1 l.turn l.fn.pass l.fn.gate l.pass l.gate
