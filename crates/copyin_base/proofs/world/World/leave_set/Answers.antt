use Rattle.std.proofs.Common.{ℕ, sym, subst}
use Rattle.member_lists.specs.Lists.{without}
use Rattle.port.specs.Ports.{IsIn, PortView, sets_in, with_sets}
use Rattle.tables_base.specs.Kept.{Kept}
use Rattle.copyin_base.specs.Worlds.{WorldView}
use Rattle.copyin_base.proofs.Written.{port_given, port_written}
use Rattle.copyin_base.proofs.Recounted.{ledger_of, still_counted}
use Rattle.copyin_base.proofs.world.World.leave_set.Goals as goal

abbrev left : PortView Kept → (set : ℕ) → PortView Kept
left v set = with_sets v (without set (sets_in v))

pub leave-requires : goal.leave-requires
leave-requires c = subst (λ (w : WorldView). IsIn w.ports c.args.set c.args.port) (sym c.self.view_is) c.requires

pub invariant_of-self : goal.invariant_of-self
invariant_of-self c =
    let i = c.self.inside in
    let r = c.requires in
    (port_given c.args.self.now i.spaces.items i.ports.bare (ledger_of i.ports.counts i.ledger) i.sets i.requests c.self.view_is c.args.port r.view (left r.view c.args.set) c.leave.new.self.bare r.there (c.leave.ensures.after r.view) c.self.invariant.0, still_counted c.leave.ensures.counts c.self.invariant.1)

pub returns : goal.returns
returns c = λ v there.
    let i = c.self.inside in
    rw c.leave.ensures.counts (port_written c.args.self.now i.spaces.items i.ports.bare (ledger_of i.ports.counts i.ledger) i.sets i.requests c.self.view_is c.args.port v (left v c.args.set) c.leave.new.self.bare there (c.leave.ensures.after v))
