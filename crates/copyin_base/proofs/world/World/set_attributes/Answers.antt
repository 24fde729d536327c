use Rattle.std.proofs.Common.{sym, subst}
use Rattle.port.specs.Holding.{KeepsHolder, KeepsSet}
use Rattle.copyin_base.specs.Worlds.{WorldView, port_at}
use Rattle.copyin_base.proofs.Told.{port_got}
use Rattle.copyin_base.proofs.Written.{port_given, port_written}
use Rattle.copyin_base.proofs.Recounted.{ledger_of, still_counted}
use Rattle.copyin_base.proofs.world.World.set_attributes.Goals as goal

pub set_attributes-requires-clause-holder : goal.set_attributes-requires-clause-holder
set_attributes-requires-clause-holder c = subst (λ (w : WorldView). KeepsHolder w.ports c.args.port c.args.attributes) (sym c.self.view_is) c.requires.holder

pub set_attributes-requires-clause-set : goal.set_attributes-requires-clause-set
set_attributes-requires-clause-set c = subst (λ (w : WorldView). KeepsSet w.ports c.args.port c.args.attributes) (sym c.self.view_is) c.requires.set

pub invariant_of-self : goal.invariant_of-self
invariant_of-self c =
    let x = port_got (port_at c.args.self.now c.args.port) c.requires.there in
    (port_given c.args.self.now c.self.inside.spaces.items c.self.inside.ports.bare (ledger_of c.self.inside.ports.counts c.self.inside.ledger) c.self.inside.sets c.self.inside.requests c.self.view_is c.args.port x.0 (record x.0 { attributes = c.args.attributes }) c.set_attributes.new.self.bare x.1 (c.set_attributes.ensures.after x.0) c.self.invariant.0, still_counted c.set_attributes.ensures.counts c.self.invariant.1)

pub returns : goal.returns
returns c =
    let x = port_got (port_at c.args.self.now c.args.port) c.requires.there in
    rw c.set_attributes.ensures.counts (record {
      v = x.0;
      there = x.1;
      rest = port_written c.args.self.now c.self.inside.spaces.items c.self.inside.ports.bare (ledger_of c.self.inside.ports.counts c.self.inside.ledger) c.self.inside.sets c.self.inside.requests c.self.view_is c.args.port x.0 (record x.0 { attributes = c.args.attributes }) c.set_attributes.new.self.bare x.1 (c.set_attributes.ensures.after x.0);
    })
