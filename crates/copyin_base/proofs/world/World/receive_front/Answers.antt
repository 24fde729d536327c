use Rattle.std.proofs.Common.{◌≡◌, ap, sym, ◌∙◌, Option, is_some, slice_get}
use Rattle.std.specs.Option.{option_and_then}
use Rattle.rights.specs.declared.RightKind.{RightKind}
use Rattle.rights.specs.Ledger.{LedgerView, taken}
use Rattle.rights.proofs.Changing.{counted-fewer, fewer_within}
use Rattle.port.specs.Ports.{PortView}
use Rattle.port.proofs.Keys.{same_some}
use Rattle.tables_base.specs.Kept.{Kept}
use Rattle.copyin_base.specs.Destinations.{destination_right}
use Rattle.copyin_base.specs.Worlds.{WorldView, port_at}
use Rattle.copyin_base.proofs.Queueing.{front_given, front_taken}
use Rattle.copyin_base.proofs.Recounted.{ledger_of, is_entered, sums_are, ledgers_are, counted_some}
use Rattle.copyin_base.proofs.Written.{tables}
use Rattle.copyin_base.proofs.world.World.receive_front.Goals as goal

abbrev front_of : PortView Kept → Option Kept
front_of p = slice_get p.queue 0

pub take-requires-clause-all : goal.take-requires-clause-all
take-requires-clause-all c =
    let i = c.self.inside in
    let some = counted_some c.args.self.now i.spaces.items i.ports i.ledger i.sets i.requests c.self.view_is c.args.found.port c.in-Some.front.now c.in-Some.ensures.some c.requires.counted c.destination_right-kind.result c.destination_right-kind.ensures in
    (fewer_within i.ports.counts i.ledger.total i.ledger.unused c.self.invariant.1 c.args.found.port (is_entered c.args.self.now i.spaces.items i.ports i.ledger i.sets i.requests c.self.view_is c.args.found.port c.requires.entered) c.destination_right-kind.result 1 some).0

pub take-requires-clause-once : goal.take-requires-clause-once
take-requires-clause-once c =
    let i = c.self.inside in
    let some = counted_some c.args.self.now i.spaces.items i.ports i.ledger i.sets i.requests c.self.view_is c.args.found.port c.in-Some.front.now c.in-Some.ensures.some c.requires.counted c.destination_right-kind.result c.destination_right-kind.ensures in
    (fewer_within i.ports.counts i.ledger.total i.ledger.unused c.self.invariant.1 c.args.found.port (is_entered c.args.self.now i.spaces.items i.ports i.ledger i.sets i.requests c.self.view_is c.args.found.port c.requires.entered) c.destination_right-kind.result 1 some).1

pub take_counted-requires-clause-place : goal.take_counted-requires-clause-place
take_counted-requires-clause-place c = c.in-Some.ensures.place

pub take_counted-requires-clause-waits : goal.take_counted-requires-clause-waits
take_counted-requires-clause-waits c = ap is_some c.in-Some.ensures.some

pub take_counted-requires-clause-some : goal.take_counted-requires-clause-some
take_counted-requires-clause-some c =
    let i = c.self.inside in
    let some = counted_some c.args.self.now i.spaces.items i.ports i.ledger i.sets i.requests c.self.view_is c.args.found.port c.in-Some.front.now c.in-Some.ensures.some c.requires.counted c.destination_right-kind.result c.destination_right-kind.ensures in
    some

pub invariant_of-self : goal.invariant_of-self
invariant_of-self c =
    let i = c.self.inside in
    let some = counted_some c.args.self.now i.spaces.items i.ports i.ledger i.sets i.requests c.self.view_is c.args.found.port c.in-Some.front.now c.in-Some.ensures.some c.requires.counted c.destination_right-kind.result c.destination_right-kind.ensures in
    let fewer = counted-fewer i.ports.counts i.ledger.total i.ledger.unused c.self.invariant.1 c.args.found.port (is_entered c.args.self.now i.spaces.items i.ports i.ledger i.sets i.requests c.self.view_is c.args.found.port c.requires.entered) c.destination_right-kind.result 1 some in
    (front_given c.args.self.now i.spaces.items i.ports.bare (ledger_of i.ports.counts i.ledger) i.sets i.requests c.self.view_is c.args.found.port c.take_counted.new.self.bare c.take_counted.result c.take_counted.ensures.front c.take_counted.ensures.taken c.self.invariant.0, sums_are c.take_counted.ensures.counts c.take.ensures fewer)

pub returns-clause-front : goal.returns-clause-front
returns-clause-front c = c.take_counted.ensures.front ∙ ap (λ (w : WorldView). option_and_then front_of (port_at w c.args.found.port)) c.self.view_is

pub returns-clause-taken : goal.returns-clause-taken
returns-clause-taken c = λ v there.
    let i = c.self.inside in
    let old : WorldView = c.args.self.now in
    let same : c.in-Some.front.now ≡ c.take_counted.result = same_some c.in-Some.front.now c.take_counted.result (sym c.in-Some.ensures.some ∙ sym c.take_counted.ensures.front) in
    let kind : c.destination_right-kind.result ≡ destination_right c.take_counted.result = c.destination_right-kind.ensures ∙ ap destination_right same in
    ap (λ (l : LedgerView). record (tables i.profile i.spaces.items c.take_counted.new.self.bare (ledger_of i.ports.counts i.ledger) i.sets i.requests) { ledger = l })
    (ledgers_are c.take_counted.ensures.counts c.take.ensures ∙ ap (λ (w : WorldView). taken w.ledger c.args.found.port c.destination_right-kind.result 1) c.self.view_is ∙ ap (λ (k : RightKind). taken old.ledger c.args.found.port k 1) kind)
    ∙ ap (λ (w : WorldView). record w { ledger = taken old.ledger c.args.found.port (destination_right c.take_counted.result) 1 })
    (front_taken c.args.self.now i.spaces.items i.ports.bare (ledger_of i.ports.counts i.ledger) i.sets i.requests c.self.view_is c.args.found.port c.take_counted.new.self.bare v there (c.take_counted.ensures.taken v))
