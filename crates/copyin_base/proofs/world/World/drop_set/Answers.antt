use Rattle.std.proofs.Common.{refl, sym, ap, subst}
use Rattle.copyin_base.specs.Losing.{DropsSet}
use Rattle.copyin_base.specs.Worlds.{WorldView}
use Rattle.copyin_base.proofs.Lost.{set_dropped}
use Rattle.copyin_base.proofs.Written.{disbanded_ports, ports_written}
use Rattle.copyin_base.proofs.Reading.{same_given}
use Rattle.copyin_base.proofs.Recounted.{ledger_of, still_counted}
use Rattle.copyin_base.proofs.world.World.drop_set.Goals as goal

pub invariant_of-self : goal.invariant_of-self
invariant_of-self c =
    let i = c.self.inside in
    (same_given i.spaces.items i.ports.bare c.disband.new.ports.bare (disbanded_ports i.ports.bare c.disband.new.ports.bare c.args.set c.disband.ensures.after) c.self.invariant.0, still_counted c.disband.ensures.counts c.self.invariant.1)

pub returns : goal.returns
returns c = rw c.disband.ensures.counts (subst (DropsSet c.args.self.now c.args.set)
    (sym (ap (λ (x : WorldView). record x { sets = c.remove.new.self })
    (ports_written _ c.self.inside.spaces.items c.self.inside.ports.bare (ledger_of c.self.inside.ports.counts c.self.inside.ledger) c.self.inside.sets c.self.inside.requests refl c.disband.new.ports.bare
    (disbanded_ports c.self.inside.ports.bare c.disband.new.ports.bare c.args.set c.disband.ensures.after))))
    (set_dropped c.args.self.now _ c.args.set c.disband.new.ports.bare c.remove.new.self c.self.view_is c.remove.ensures c.disband.ensures.after))
