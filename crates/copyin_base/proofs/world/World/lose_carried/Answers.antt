use Rattle.copyin_base.specs.Worlds.{port_at}
use Rattle.copyin_base.proofs.Lost.{with_lost, lost_keeps, lost_given}
use Rattle.copyin_base.proofs.Told.{port_got}
use Rattle.copyin_base.proofs.Written.{changed_written}
use Rattle.copyin_base.proofs.Recounted.{ledger_of, still_counted}
use Rattle.copyin_base.proofs.world.World.lose_carried.Goals as goal

pub invariant_of-self : goal.invariant_of-self
invariant_of-self c =
    let i = c.self.inside in
    let found = port_got (port_at c.args.self.now c.args.port) c.requires.live in
    (lost_given c.args.self.now i.spaces.items i.ports.bare (ledger_of i.ports.counts i.ledger) i.sets i.requests c.self.view_is c.args.port found.0 c.lose.new.self.bare found.1 (c.lose.ensures.after found.0) c.self.invariant.0, still_counted c.lose.ensures.counts c.self.invariant.1)

pub returns : goal.returns
returns c = λ v there.
    let i = c.self.inside in
    rw c.lose.ensures.counts (changed_written c.args.self.now i.spaces.items i.ports.bare (ledger_of i.ports.counts i.ledger) i.sets i.requests c.self.view_is c.args.port v (λ x. with_lost x c.args.port v) (lost_keeps c.args.port v) c.lose.new.self.bare there (c.lose.ensures.after v))
