use Rattle.std.proofs.Common.{drop}
use Rattle.copyin.proofs.Holding.{IsHolding}
use Rattle.copyin.proofs.carry_out.hold_rights.Given as goal

abbrev pub invariant-loop-carried : goal.invariant-loop-carried
invariant-loop-carried l = IsHolding l.initial.world l.world l.queue l.rights (drop l.carried-index l.rights)
