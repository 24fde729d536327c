use Rattle.port.specs.Ports.{restarted}
use Rattle.copyin_base.proofs.Queueing.{put_given, none_put}
use Rattle.copyin_base.proofs.Written.{port_written}
use Rattle.copyin_base.proofs.Recounted.{ledger_of, still_counted, bare_same}
use Rattle.copyin_base.proofs.world.World.restart_port.Goals as goal

pub invariant_of-self : goal.invariant_of-self
invariant_of-self c =
    let i = c.self.inside in
    (put_given c.args.self.now i.spaces.items i.ports.bare (ledger_of i.ports.counts i.ledger) i.sets i.requests c.self.view_is c.args.port c.restart.new.self.bare restarted c.restart.ensures.live (λ h. bare_same (c.restart.ensures.gone h)) c.self.invariant.0, still_counted c.restart.ensures.counts c.self.invariant.1)

pub returns-clause-live : goal.returns-clause-live
returns-clause-live c = λ v there.
    let i = c.self.inside in
    rw c.restart.ensures.counts (port_written c.args.self.now i.spaces.items i.ports.bare (ledger_of i.ports.counts i.ledger) i.sets i.requests c.self.view_is c.args.port v (restarted v) c.restart.new.self.bare there (c.restart.ensures.live v))

pub returns-clause-gone : goal.returns-clause-gone
returns-clause-gone c =
    let i = c.self.inside in
    rw c.restart.ensures.counts (none_put c.args.self.now i.spaces.items i.ports.bare (ledger_of i.ports.counts i.ledger) i.sets i.requests c.self.view_is c.args.port c.restart.new.self.bare restarted c.restart.ensures.live (λ h. bare_same (c.restart.ensures.gone h)))
