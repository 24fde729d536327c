use Rattle.port.specs.Ports.{in_set}
use Rattle.copyin_base.specs.Worlds.{port_at}
use Rattle.copyin_base.proofs.Told.{port_got}
use Rattle.copyin_base.proofs.Written.{port_given, port_written}
use Rattle.copyin_base.proofs.Recounted.{ledger_of, still_counted}
use Rattle.copyin_base.proofs.world.World.move_to_set.Goals as goal

pub invariant_of-self : goal.invariant_of-self
invariant_of-self c =
    let i = c.self.inside in
    let x = port_got (port_at c.args.self.now c.args.port) c.requires in
    (port_given c.args.self.now i.spaces.items i.ports.bare (ledger_of i.ports.counts i.ledger) i.sets i.requests c.self.view_is c.args.port x.0 (in_set x.0 c.args.set) c.move_member.new.ports.bare x.1 (c.move_member.ensures.after x.0) c.self.invariant.0, still_counted c.move_member.ensures.counts c.self.invariant.1)

pub returns : goal.returns
returns c = λ v there.
    let i = c.self.inside in
    rw c.move_member.ensures.counts (port_written c.args.self.now i.spaces.items i.ports.bare (ledger_of i.ports.counts i.ledger) i.sets i.requests c.self.view_is c.args.port v (in_set v c.args.set) c.move_member.new.ports.bare there (c.move_member.ensures.after v))
