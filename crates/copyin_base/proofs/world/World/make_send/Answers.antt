use Rattle.std.proofs.Common.{◌+◌, ◌%◌, ◌^◌, ap, sym, ◌∙◌, arith}
use Rattle.std.specs.FinMap as map
use Rattle.rights.specs.declared.RightKind.TheVariants.{Send}
use Rattle.rights.specs.Ledger.{LedgerView, made}
use Rattle.rights.proofs.Changing.{counted-more, more_fits}
use Rattle.port.specs.Ports.{PortView}
use Rattle.tables_base.specs.Kept.{Kept}
use Rattle.copyin_base.specs.Worlds.{WorldView}
use Rattle.copyin_base.proofs.Recounted.{ledger_of, is_entered, total_is, sums_are, ledgers_are, sent_ledger}
use Rattle.copyin_base.proofs.Told.{port_got}
use Rattle.copyin_base.proofs.Written.{tables, port_given, port_written}
use Rattle.copyin_base.proofs.world.World.make_send.Goals as goal

abbrev counted : PortView Kept → PortView Kept
counted v = record v { attributes = record v.attributes { make_send = (v.attributes.make_send + 1) % 2 ^ 32 } }

pub count_one-requires : goal.count_one-requires
count_one-requires c =
    let i = c.self.inside in
    let total = total_is c.args.self.now i.spaces.items i.ports i.ledger i.sets i.requests c.self.view_is c.args.found.port in
    let room = c.requires.room in
    omega (arith, total, room)

pub make_send-requires-clause-there : goal.make_send-requires-clause-there
make_send-requires-clause-there c = let i = c.self.inside in is_entered c.args.self.now i.spaces.items i.ports i.ledger i.sets i.requests c.self.view_is c.args.found.port c.requires.entered

pub make_send-requires-clause-fits : goal.make_send-requires-clause-fits
make_send-requires-clause-fits c =
    let i = c.self.inside in
    let total = total_is c.args.self.now i.spaces.items i.ports i.ledger i.sets i.requests c.self.view_is c.args.found.port in
    let room = c.requires.room in
    more_fits i.ports.counts i.ledger.total i.ledger.unused c.self.invariant.1 c.args.found.port (is_entered c.args.self.now i.spaces.items i.ports i.ledger i.sets i.requests c.self.view_is c.args.found.port c.requires.entered) 1 (omega (arith, total, room))

pub invariant_of-self : goal.invariant_of-self
invariant_of-self c =
    let i = c.self.inside in
    let found = port_got (map.get i.ports.bare.ports c.args.found.port) c.make_send.ensures.there in
    let there = sym (ap (λ (w : WorldView). map.get w.ports.ports c.args.found.port) c.self.view_is) ∙ found.1 in
    let more = counted-more i.ports.counts i.ledger.total i.ledger.unused c.self.invariant.1 c.args.found.port (is_entered c.args.self.now i.spaces.items i.ports i.ledger i.sets i.requests c.self.view_is c.args.found.port c.requires.entered) Send 1 in (
      port_given c.args.self.now i.spaces.items i.ports.bare (ledger_of i.ports.counts i.ledger) i.sets i.requests c.self.view_is c.args.found.port found.0 (counted found.0) c.make_send.new.self.bare there (c.make_send.ensures.after found.0) c.self.invariant.0,
      sums_are c.make_send.ensures.counts (sent_ledger i.ledger c.count_one.new.self c.count_one.ensures) more,
    )

pub returns-clause-there : goal.returns-clause-there
returns-clause-there c = ap (λ (w : WorldView). map.contains_key w.ports.ports c.args.found.port) (sym c.self.view_is) ∙ c.make_send.ensures.there

pub returns-clause-after : goal.returns-clause-after
returns-clause-after c = λ v there.
    let i = c.self.inside in
    ap (λ (l : LedgerView). record (tables i.profile i.spaces.items c.make_send.new.self.bare (ledger_of i.ports.counts i.ledger) i.sets i.requests) { ledger = l })
    (ledgers_are c.make_send.ensures.counts (sent_ledger i.ledger c.count_one.new.self c.count_one.ensures) ∙ ap (λ (w : WorldView). made w.ledger c.args.found.port Send 1) c.self.view_is)
    ∙ ap (λ (w : WorldView). record w { ledger = made c.args.self.now.ledger c.args.found.port Send 1 })
    (port_written c.args.self.now i.spaces.items i.ports.bare (ledger_of i.ports.counts i.ledger) i.sets i.requests c.self.view_is c.args.found.port v (counted v) c.make_send.new.self.bare there (c.make_send.ensures.after v))
