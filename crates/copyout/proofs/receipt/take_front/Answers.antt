use Rattle.std.proofs.Common.{◌≡◌, ◌+◌, ◌%◌, ◌^◌, ◌<◌, List, Option, ap, sym, subst, ◌∙◌, drop, slice_get}
use Rattle.std.specs.Prelude.{is_some}
use Rattle.std.specs.Option.{option_and_then}
use Rattle.port.specs.Ports.{PortView, PortsView, with_port}
use Rattle.rights.specs.Counts.{number_of}
use Rattle.rights.specs.Ledger.{counts_of, taken}
use Rattle.copyin_base.specs.Kept.{Kept}
use Rattle.copyin_base.specs.Worlds.{WorldView}
use Rattle.copyout.specs.Takes.{destination_right}
use Rattle.copyout.proofs.Fronts.{is_front}
use Rattle.copyout.proofs.receipt.take_front.Goals as goal

abbrev front_of : PortView Kept → Option Kept
front_of p = slice_get p.queue 0

pub receive_front-requires-clause-waits : goal.receive_front-requires-clause-waits
receive_front-requires-clause-waits c = ap (λ o. is_some (option_and_then front_of o)) c.requires.there ∙ ap (λ (l : List Kept). is_some (slice_get l 0)) c.requires.queue

pub receive_front-requires-clause-entered : goal.receive_front-requires-clause-entered
receive_front-requires-clause-entered c = c.requires.entered c.args.found.port (ap is_some c.requires.there)

pub receive_front-requires-clause-counted : goal.receive_front-requires-clause-counted
receive_front-requires-clause-counted c = λ m is.
    let r = c.requires in
    let w : WorldView = c.args.world.now in
    let same : m ≡ r.front = is_front w.ports c.args.found.port r.v r.front m r.behind r.there r.queue (sym is) in
    subst (λ (x : Kept). 0 < number_of (destination_right x) (counts_of w.ledger c.args.found.port)) (sym same) r.destination

pub returns : goal.returns
returns c =
    let r = c.requires in
    let w : WorldView = c.args.world.now in
    let found : c.receive_front.result ≡ r.front = is_front w.ports c.args.found.port r.v r.front c.receive_front.result r.behind r.there r.queue c.receive_front.ensures.front in
    let after : List Kept → PortsView Kept = λ l. record (with_port w.ports c.args.found.port (record r.v { queue = l; attributes = record r.v.attributes { sequence = (r.v.attributes.sequence + 1) % 2 ^ 32 } })) { spare = w.ports.spare + 1 } in (
      record {
        v = r.v;
        there = r.there;
        front = r.front;
        behind = r.behind;
        queue = r.queue;
        rest = c.receive_front.ensures.taken r.v r.there
            ∙ ap (λ (l : List Kept). record w { ports = after (drop 1 l); ledger = taken w.ledger c.args.found.port (destination_right c.receive_front.result) 1 }) r.queue
            ∙ ap (λ (m : Kept). record w { ports = after r.behind; ledger = taken w.ledger c.args.found.port (destination_right m) 1 }) found;
      },
      found,
    )
