use Rattle.std.proofs.Common.{is_some, ap, sym, ◌∙◌, Option}
use Rattle.rights.specs.declared.Counts.{Counts}
use Rattle.rights.proofs.Found.{lent-within, counted-gone}
use Rattle.copyin_base.proofs.Recounted.{ledger_of, is_entered, sums_are, gone_ledger}
use Rattle.copyin_base.proofs.Removed.{left_given, port_left}
use Rattle.copyin_base.proofs.world.World.remove_port.Goals as goal

pub unwrap-counts-requires : goal.unwrap-counts-requires
unwrap-counts-requires c = let i = c.self.inside in ap (λ (o : Option Counts). is_some o) c.remove.ensures.rights ∙ is_entered c.args.self.now i.spaces.items i.ports i.ledger i.sets i.requests c.self.view_is c.args.port c.requires.entered

pub leave-requires-clause-all : goal.leave-requires-clause-all
leave-requires-clause-all c =
    let i = c.self.inside in
    (lent-within i.ports.counts i.ledger.total i.ledger.unused c.self.invariant.1 c.args.port c.unwrap-counts.result (sym c.remove.ensures.rights ∙ c.unwrap-counts.ensures)).0

pub leave-requires-clause-once : goal.leave-requires-clause-once
leave-requires-clause-once c =
    let i = c.self.inside in
    (lent-within i.ports.counts i.ledger.total i.ledger.unused c.self.invariant.1 c.args.port c.unwrap-counts.result (sym c.remove.ensures.rights ∙ c.unwrap-counts.ensures)).1

pub invariant_of-self : goal.invariant_of-self
invariant_of-self c =
    let i = c.self.inside in
    let gone = counted-gone i.ports.counts i.ledger.total i.ledger.unused c.self.invariant.1 c.args.port c.unwrap-counts.result (sym c.remove.ensures.rights ∙ c.unwrap-counts.ensures) in
    (left_given c.args.self.now i.spaces.items i.ports.bare (ledger_of i.ports.counts i.ledger) i.sets i.requests c.self.view_is c.args.port c.remove.new.self.bare c.remove.ensures.after c.self.invariant.0, sums_are c.remove.ensures.counts c.leave.ensures gone)

pub returns : goal.returns
returns c =
    let i = c.self.inside in
    port_left c.args.self.now i.spaces.items i.ports.bare (ledger_of i.ports.counts i.ledger) i.sets i.requests c.self.view_is c.args.port c.remove.new.self.bare c.remove.ensures.after (ledger_of c.remove.new.self.counts c.leave.new.self)
    (gone_ledger i.ports.counts i.ledger c.args.port c.unwrap-counts.result (sym c.remove.ensures.rights ∙ c.unwrap-counts.ensures) c.remove.ensures.counts c.leave.ensures)
