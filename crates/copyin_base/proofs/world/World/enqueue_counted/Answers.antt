use Rattle.std.proofs.Common.{◌≡◌, ◌<◌, if◌then◌else◌, Bool, true, Some, sym, subst, ap, ◌∙◌, arith}
use Rattle.std.specs.FinMap as map
use Rattle.rights.specs.declared.Counts.{Counts}
use Rattle.rights.specs.Ledger.{LedgerView, shifted}
use Rattle.port.specs.Ports.{rights_for}
use Rattle.tables_base.specs.Kept.{Kept}
use Rattle.copyin_base.specs.Worlds.{WorldView, port_at}
use Rattle.copyin_base.proofs.Lost.{with_message, message_keeps, posted_given}
use Rattle.copyin_base.proofs.Recounted.{ledger_of, own_is, within_all, paid_unused, sums_shifted, ledger_shifted}
use Rattle.copyin_base.proofs.Told.{port_got}
use Rattle.copyin_base.proofs.Written.{tables, changed_written}
use Rattle.copyin_base.proofs.world.World.enqueue_counted.Goals as goal

pub shift_if-requires : goal.shift_if-requires
shift_if-requires c = λ is.
    let i = c.self.inside in
    let paid : c.by_once-once.result ≡ true → 0 < (rights_for i.ports c.args.found.port).send_once = λ is. subst (λ (k : Counts). 0 < k.send_once) (sym (own_is c.args.self.now i.spaces.items i.ports i.ledger i.sets i.requests c.self.view_is c.args.found.port)) (c.requires.unused (sym c.by_once-once.ensures ∙ is)) in
    paid_unused i.ports.counts i.ledger.total i.ledger.unused c.self.invariant.1 c.args.found.port (paid is)

pub enqueue_counted-requires-clause-some : goal.enqueue_counted-requires-clause-some
enqueue_counted-requires-clause-some c =
    let i = c.self.inside in
    let paid : c.by_once-once.result ≡ true → 0 < (rights_for i.ports c.args.found.port).send_once = λ is. subst (λ (k : Counts). 0 < k.send_once) (sym (own_is c.args.self.now i.spaces.items i.ports i.ledger i.sets i.requests c.self.view_is c.args.found.port)) (c.requires.unused (sym c.by_once-once.ensures ∙ is)) in
    paid

pub enqueue_counted-requires-clause-fits : goal.enqueue_counted-requires-clause-fits
enqueue_counted-requires-clause-fits c = let i = c.self.inside in let within = within_all i.ports.counts i.ledger.total i.ledger.unused c.self.invariant.1 c.args.found.port in omega (arith, within, c.self.ranges)

pub invariant_of-self : goal.invariant_of-self
invariant_of-self c =
    let i = c.self.inside in
    let paid : c.by_once-once.result ≡ true → 0 < (rights_for i.ports c.args.found.port).send_once = λ is. subst (λ (k : Counts). 0 < k.send_once) (sym (own_is c.args.self.now i.spaces.items i.ports i.ledger i.sets i.requests c.self.view_is c.args.found.port)) (c.requires.unused (sym c.by_once-once.ensures ∙ is)) in
    let found = port_got (port_at c.args.self.now c.args.found.port) c.requires.live in (
      posted_given c.args.self.now i.spaces.items i.ports.bare (ledger_of i.ports.counts i.ledger) i.sets i.requests c.self.view_is c.args.found.port found.0 c.args.message c.enqueue_counted.new.self.bare found.1
          (subst (λ (m : Kept). map.get i.ports.bare.ports c.args.found.port ≡ Some found.0 → c.enqueue_counted.new.self.bare ≡ with_message i.ports.bare c.args.found.port found.0 m) c.sent.ensures (c.enqueue_counted.ensures.after found.0)) c.self.invariant.0,
      sums_shifted i.ports.counts i.ledger c.args.found.port c.by_once-once.result paid c.enqueue_counted.ensures.counts c.shift_if.ensures c.self.invariant.1,
    )

pub returns : goal.returns
returns c = λ v there.
    let i = c.self.inside in
    let old : WorldView = c.args.self.now in
    ap (λ (l : LedgerView). record (tables i.profile i.spaces.items c.enqueue_counted.new.self.bare (ledger_of i.ports.counts i.ledger) i.sets i.requests) { ledger = l })
    (ledger_shifted i.ports.counts i.ledger c.args.found.port c.by_once-once.result c.enqueue_counted.ensures.counts c.shift_if.ensures
    ∙ ap (λ (w : WorldView). if c.by_once-once.result then shifted w.ledger c.args.found.port else w.ledger) c.self.view_is ∙ ap (λ (b : Bool). if b then shifted old.ledger c.args.found.port else old.ledger) c.by_once-once.ensures)
    ∙ ap (λ (w : WorldView). record w { ledger = (if c.args.message.by_once then shifted old.ledger c.args.found.port else old.ledger) })
    (changed_written c.args.self.now i.spaces.items i.ports.bare (ledger_of i.ports.counts i.ledger) i.sets i.requests c.self.view_is c.args.found.port v (λ x. with_message x c.args.found.port v c.args.message) (message_keeps c.args.found.port v c.args.message) c.enqueue_counted.new.self.bare there
    (subst (λ (m : Kept). map.get i.ports.bare.ports c.args.found.port ≡ Some v → c.enqueue_counted.new.self.bare ≡ with_message i.ports.bare c.args.found.port v m) c.sent.ensures (c.enqueue_counted.ensures.after v)))
