use Rattle.std.proofs.Common.{◌≡◌, length}
use Rattle.port_base.proofs.slots.blank_slots.Given as goal

abbrev pub invariant-loop : goal.invariant-loop
invariant-loop g l = length l.slots ≡ l.counter
