use Rattle.copyin_base.proofs.Queueing.{next_given, next_destroyed}
use Rattle.copyin_base.proofs.Recounted.{ledger_of, still_counted}
use Rattle.copyin_base.proofs.world.World.destroy_first.Goals as goal

pub invariant_of-self : goal.invariant_of-self
invariant_of-self c =
    let i = c.self.inside in
    (next_given c.args.self.now i.spaces.items i.ports.bare (ledger_of i.ports.counts i.ledger) i.sets i.requests c.self.view_is c.args.port c.destroy_first.new.self.bare c.destroy_first.result c.destroy_first.ensures.after c.self.invariant.0, still_counted c.destroy_first.ensures.counts c.self.invariant.1)

pub returns : goal.returns
returns c =
    let i = c.self.inside in
    rw c.destroy_first.ensures.counts (next_destroyed c.args.self.now i.spaces.items i.ports.bare (ledger_of i.ports.counts i.ledger) i.sets i.requests c.self.view_is c.args.port c.destroy_first.new.self.bare c.destroy_first.result c.destroy_first.ensures.after)
