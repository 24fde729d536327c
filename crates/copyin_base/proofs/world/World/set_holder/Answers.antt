use Rattle.std.proofs.Common.{ap, ◌∙◌}
use Rattle.port.specs.Holding.{held}
use Rattle.copyin_base.specs.Worlds.{WorldView, port_at}
use Rattle.copyin_base.proofs.Listed.{none_listed}
use Rattle.copyin_base.proofs.Told.{port_got}
use Rattle.copyin_base.proofs.Written.{port_given, port_written, held_put}
use Rattle.copyin_base.proofs.Recounted.{ledger_of, still_counted}
use Rattle.copyin_base.proofs.world.World.set_holder.Goals as goal

pub hold-requires-clause-stays : goal.hold-requires-clause-stays
hold-requires-clause-stays c = λ v at _ has.
    none_listed c.self.inside.ports.bare.doomed (ap (λ (w : WorldView). w.ports.doomed) c.self.view_is ∙ c.requires.none_lost.doomed) c.args.port has

pub invariant_of-self : goal.invariant_of-self
invariant_of-self c =
    let x = port_got (port_at c.args.self.now c.args.port) c.requires.there in
    let lost = ap (λ (w : WorldView). w.ports.lost) c.self.view_is ∙ c.requires.none_lost.lost in (
      port_given c.args.self.now c.self.inside.spaces.items c.self.inside.ports.bare (ledger_of c.self.inside.ports.counts c.self.inside.ledger) c.self.inside.sets c.self.inside.requests c.self.view_is c.args.port x.0 (held x.0 c.args.holder) c.hold.new.self.bare x.1
          (λ at. held_put c.self.inside.ports.bare c.args.port (held x.0 c.args.holder) c.hold.new.self.bare lost (c.hold.ensures.after x.0 at)) c.self.invariant.0,
      still_counted c.hold.ensures.counts c.self.invariant.1,
    )

pub returns : goal.returns
returns c =
    let x = port_got (port_at c.args.self.now c.args.port) c.requires.there in
    let lost = ap (λ (w : WorldView). w.ports.lost) c.self.view_is ∙ c.requires.none_lost.lost in
    rw c.hold.ensures.counts (record {
      v = x.0;
      there = x.1;
      rest = port_written c.args.self.now c.self.inside.spaces.items c.self.inside.ports.bare (ledger_of c.self.inside.ports.counts c.self.inside.ledger) c.self.inside.sets c.self.inside.requests c.self.view_is c.args.port x.0 (held x.0 c.args.holder) c.hold.new.self.bare x.1
          (λ at. held_put c.self.inside.ports.bare c.args.port (held x.0 c.args.holder) c.hold.new.self.bare lost (c.hold.ensures.after x.0 at));
    })
