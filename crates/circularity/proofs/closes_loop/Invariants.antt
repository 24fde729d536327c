use Rattle.circularity.proofs.Following.{IsFollowed}
use Rattle.circularity.proofs.closes_loop.Given as goal

abbrev pub invariant-loop-step : goal.invariant-loop-step
invariant-loop-step g l = IsFollowed l.ports.bare l.carried l.fn.destination l.port l._step
