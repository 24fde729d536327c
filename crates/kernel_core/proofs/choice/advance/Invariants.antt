use Rattle.kernel_core.specs.Choices.{SameButTurns}
use Rattle.kernel_core.proofs.choice.advance.Given as goal

abbrev pub invariant-loop : goal.invariant-loop
invariant-loop l = SameButTurns l.fn.world l.world
