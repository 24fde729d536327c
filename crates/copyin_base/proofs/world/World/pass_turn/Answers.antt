use Rattle.std.proofs.Common.{subst}
use Rattle.port.specs.Ports.{PassesTurn}
use Rattle.copyin_base.specs.Worlds.{WorldView}
use Rattle.copyin_base.proofs.Queueing.{turn_passed}
use Rattle.copyin_base.proofs.Reading.{same_given}
use Rattle.copyin_base.proofs.Written.{ports_written}
use Rattle.copyin_base.proofs.Recounted.{ledger_of, still_counted}
use Rattle.copyin_base.proofs.world.World.pass_turn.Goals as goal

pub invariant_of-self : goal.invariant_of-self
invariant_of-self c =
    let i = c.self.inside in
    (same_given i.spaces.items i.ports.bare c.pass_turn.new.self.bare (turn_passed i.ports.bare c.args.set c.args.port c.pass_turn.new.self.bare c.pass_turn.ensures.after) c.self.invariant.0, still_counted c.pass_turn.ensures.counts c.self.invariant.1)

pub returns-clause-passes : goal.returns-clause-passes
returns-clause-passes c = subst (λ (w : WorldView). PassesTurn w.ports c.args.set c.args.port c.pass_turn.new.self.bare) c.self.view_is c.pass_turn.ensures.after

pub returns-clause-rest : goal.returns-clause-rest
returns-clause-rest c =
    let i = c.self.inside in
    rw c.pass_turn.ensures.counts (ports_written c.args.self.now i.spaces.items i.ports.bare (ledger_of i.ports.counts i.ledger) i.sets i.requests c.self.view_is c.pass_turn.new.self.bare (turn_passed i.ports.bare c.args.set c.args.port c.pass_turn.new.self.bare c.pass_turn.ensures.after))
