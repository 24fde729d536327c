use Rattle.std.proofs.Common.{◌≡◌, ◌<◌, ◌≤◌, Some, sym, subst, arith}
use Rattle.std.specs.FinMap as map
use Rattle.rights.specs.declared.Counts.{Counts}
use Rattle.rights.proofs.Changing.{counted-shifted, some_unused, own_within}
use Rattle.tables_base.specs.Kept.{Kept}
use Rattle.tables_base.specs.Queued.{notice_kept}
use Rattle.copyin_base.specs.Worlds.{WorldView, port_at}
use Rattle.copyin_base.proofs.Lost.{with_message, posted_given, posted_written}
use Rattle.copyin_base.proofs.Recounted.{ledger_of, ledgers_are, sums_are, own_is, unused_is, once_entered}
use Rattle.copyin_base.proofs.Told.{port_got}
use Rattle.copyin_base.proofs.world.World.post.Goals as goal

pub shift-requires : goal.shift-requires
shift-requires c =
    let i = c.self.inside in
    let paid = subst (λ (k : Counts). 0 < k.send_once) (sym (own_is c.args.self.now i.spaces.items i.ports i.ledger i.sets i.requests c.self.view_is c.args.port)) c.requires.paid in
    some_unused i.ports.counts i.ledger.total i.ledger.unused c.self.invariant.1 c.args.port (once_entered i.ports.counts c.args.port paid) paid

pub enqueue_counted-requires-clause-some : goal.enqueue_counted-requires-clause-some
enqueue_counted-requires-clause-some c once = rw c.of.ensures (let i = c.self.inside in subst (λ (k : Counts). 0 < k.send_once) (sym (own_is c.args.self.now i.spaces.items i.ports i.ledger i.sets i.requests c.self.view_is c.args.port)) c.requires.paid)

pub enqueue_counted-requires-clause-fits : goal.enqueue_counted-requires-clause-fits
enqueue_counted-requires-clause-fits c =
    let i = c.self.inside in
    let paid = subst (λ (k : Counts). 0 < k.send_once) (sym (own_is c.args.self.now i.spaces.items i.ports i.ledger i.sets i.requests c.self.view_is c.args.port)) c.requires.paid in
    let within = own_within i.ports.counts i.ledger.total i.ledger.unused c.self.invariant.1 c.args.port (once_entered i.ports.counts c.args.port paid) in
    rw c.of.ensures (omega (arith, within.0, c.self.ranges))

pub invariant_of-self : goal.invariant_of-self
invariant_of-self c =
    let i = c.self.inside in
    let found = port_got (port_at c.args.self.now c.args.port) c.requires.live in
    let paid = subst (λ (k : Counts). 0 < k.send_once) (sym (own_is c.args.self.now i.spaces.items i.ports i.ledger i.sets i.requests c.self.view_is c.args.port)) c.requires.paid in
    let shifted = counted-shifted i.ports.counts i.ledger.total i.ledger.unused c.self.invariant.1 c.args.port (once_entered i.ports.counts c.args.port paid) paid in (
      posted_given c.args.self.now i.spaces.items i.ports.bare (ledger_of i.ports.counts i.ledger) i.sets i.requests c.self.view_is c.args.port found.0 (notice_kept c.args.notice) c.enqueue_counted.new.self.bare found.1
          (subst (λ (m : Kept). map.get i.ports.bare.ports c.args.port ≡ Some found.0 → c.enqueue_counted.new.self.bare ≡ with_message i.ports.bare c.args.port found.0 m) c.told.ensures.value ((rw c.of.ensures at c.enqueue_counted.ensures.after) found.0)) c.self.invariant.0,
      sums_are (rw c.of.ensures at c.enqueue_counted.ensures.counts) c.shift.ensures shifted,
    )

pub enqueue_counted-requires-clause-spare : goal.enqueue_counted-requires-clause-spare
enqueue_counted-requires-clause-spare c =
    let i = c.self.inside in
    let paid = subst (λ (k : Counts). 0 < k.send_once) (sym (own_is c.args.self.now i.spaces.items i.ports i.ledger i.sets i.requests c.self.view_is c.args.port)) c.requires.paid in
    let some = some_unused i.ports.counts i.ledger.total i.ledger.unused c.self.invariant.1 c.args.port (once_entered i.ports.counts c.args.port paid) paid in
    let slots = subst (λ (w : WorldView). w.ledger.unused ≤ w.ports.spare) (sym c.self.view_is) c.requires.slots in
    omega (arith, some, slots)

pub returns-clause-posts : goal.returns-clause-posts
returns-clause-posts c =
    let i = c.self.inside in
    let found = port_got (port_at c.args.self.now c.args.port) c.requires.live in
    let paid = subst (λ (k : Counts). 0 < k.send_once) (sym (own_is c.args.self.now i.spaces.items i.ports i.ledger i.sets i.requests c.self.view_is c.args.port)) c.requires.paid in
    let some = subst (λ n. 0 < n) (unused_is c.args.self.now i.spaces.items i.ports i.ledger i.sets i.requests c.self.view_is c.args.port) (some_unused i.ports.counts i.ledger.total i.ledger.unused c.self.invariant.1 c.args.port (once_entered i.ports.counts c.args.port paid) paid) in
    record {
      v = found.0;
      there = found.1;
      counted = some;
      spare = let slots = c.requires.slots in omega (arith, some, slots);
      rest = posted_written c.args.self.now i.spaces.items i.ports.bare (ledger_of i.ports.counts i.ledger) i.sets i.requests c.self.view_is c.args.port found.0 (notice_kept c.args.notice) c.enqueue_counted.new.self.bare found.1
          (subst (λ (m : Kept). map.get i.ports.bare.ports c.args.port ≡ Some found.0 → c.enqueue_counted.new.self.bare ≡ with_message i.ports.bare c.args.port found.0 m) c.told.ensures.value ((rw c.of.ensures at c.enqueue_counted.ensures.after) found.0))
          (ledger_of c.enqueue_counted.new.self.counts c.shift.new.self) (ledgers_are (rw c.of.ensures at c.enqueue_counted.ensures.counts) c.shift.ensures);
    }

pub returns-clause-slots : goal.returns-clause-slots
returns-clause-slots c = let slots = c.requires.slots in let posts = returns-clause-posts c in grind (arith, slots, posts)
