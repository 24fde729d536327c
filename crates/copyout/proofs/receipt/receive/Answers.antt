use Rattle.std.proofs.Common.{ℕ, sym, subst}
use Rattle.copyout.specs.Ready.{IsNumbered}
use Rattle.copyout.proofs.receipt.receive.Goals as goal

pub receive_short-requires-clause-short : goal.receive_short-requires-clause-short
receive_short-requires-clause-short c = (c.front-sequence.result.0.now, c.front-sequence.ensures.front, c.in-Some.ensures.0)

pub receive_short-requires-clause-numbered : goal.receive_short-requires-clause-numbered
receive_short-requires-clause-numbered c = subst (λ (n : ℕ). IsNumbered c.args.world.now c.args.found.port n) (sym c.in-Some.ensures.1) c.front-sequence.ensures.numbered

pub receive_with_right-requires-clause-short : goal.receive_with_right-requires-clause-short
receive_with_right-requires-clause-short c = (c.front-sequence.result.0.now, c.front-sequence.ensures.front, c.in-Some-short_of.ensures.0)

pub receive_with_right-requires-clause-numbered : goal.receive_with_right-requires-clause-numbered
receive_with_right-requires-clause-numbered c = subst (λ (n : ℕ). IsNumbered c.args.world.now c.args.found.port n) (sym c.in-Some-short_of.ensures.1) c.front-sequence.ensures.numbered
