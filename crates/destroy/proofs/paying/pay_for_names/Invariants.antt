use Rattle.std.proofs.Common.{◌≡◌, length}
use Rattle.destroy.proofs.PayTurns.{PaysOn}
use Rattle.destroy.proofs.paying.pay_for_names.Given as goal

abbrev pub invariant-loop-request : goal.invariant-loop-request
invariant-loop-request l = PaysOn l.initial.world l.world × (l.world.spaces ≡ l.initial.world.spaces)

abbrev pub decreases-loop-request : goal.decreases-loop-request
decreases-loop-request l = length l.world.requests.names.went
