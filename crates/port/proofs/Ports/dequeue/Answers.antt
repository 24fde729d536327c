use Rattle.std.proofs.Common.{◌≡◌, ◌+◌, ◌≢◌, Option, Some, is_some, ap, sym, subst, ◌∙◌, refl, List, length, drop, slice_get, arith}
use Rattle.std.proofs.lemmas.Bool.{eqb-true}
use Rattle.std.specs.Option.{option_and_then}
use Rattle.std.specs.FinMap as map
use Rattle.port_base.specs.declared.Record.{Record}
use Rattle.shared_lists.specs.Shared.{more_of}
use Rattle.port_base.specs.declared.Membership.{Membership}
use Rattle.port_base.specs.declared.Membership.TheVariants.{Nowhere}
use Rattle.port_base.specs.Memberships.{IsHome, unreadied}
use Rattle.port.specs.Ports.{PortView, PortsView}
use Rattle.port.proofs.Keys.{same_some}
use Rattle.port.proofs.Membered.{emptied_is}
use Rattle.port.proofs.Messages.{kept-taken, view-taken, left_home, left_ready, some_length}
use Rattle.port.proofs.Sound.{bare_is, opened, record_at, live_port, gone_port, is_port, no_front, counts_is, rights-set}
use Rattle.port.proofs.Ports.dequeue.Goals as goal

pub returns-in_err-key-clause-front : goal.returns-in_err-key-clause-front
returns-in_err-key-clause-front g c =
    let o = opened c.self.invariant (bare_is c.self.view_is) in
    let front : PortView g.row.M.Denot → Option g.row.M.Denot = λ p. slice_get p.queue 0 in
    c.from_residual.ensures ∙ ap (option_and_then front) (sym (gone_port o c.args.port (sym c.in_err-key.ensures)))

pub index-requires : goal.index-requires
index-requires g c =
    let o = opened c.self.invariant (bare_is c.self.view_is) in
    let found : map.get c.self.inside.by_id.map c.args.port ≡ Some c.in_ok-key.key = sym c.in_ok-key.ensures in
    let there = record_at o c.args.port c.in_ok-key.key found in
    let r : Record g.row.M.Denot = there.0 in
    ap is_some there.1

pub returns-then-is_empty-clause-front : goal.returns-then-is_empty-clause-front
returns-then-is_empty-clause-front g c =
    let o = opened c.self.invariant (bare_is c.self.view_is) in
    let found : map.get c.self.inside.by_id.map c.args.port ≡ Some c.in_ok-key.key = sym c.in_ok-key.ensures in
    let front : PortView g.row.M.Denot → Option g.row.M.Denot = λ p. slice_get p.queue 0 in
    sym (no_front c.index.result.now.queue (eqb-true (length c.index.result.now.queue) 0 (sym c.if-is_empty.ensures))) ∙ ap (option_and_then front) (sym (live_port o c.args.port c.in_ok-key.key c.index.result.now found c.index.ensures))

pub invariant_of-self : goal.invariant_of-self
invariant_of-self g c =
    let o = opened c.self.invariant (bare_is c.self.view_is) in
    let found : map.get c.self.inside.by_id.map c.args.port ≡ Some c.in_ok-key.key = sym c.in_ok-key.ensures in
    let there = record_at o c.args.port c.in_ok-key.key found in
    let r : Record g.row.M.Denot = there.0 in
    let popped = c.pop_at.ensures.after r there.1 in
    kept-taken o c.args.port c.in_ok-key.key r found there.1 r.kept.attributes refl refl c.pop_at.result popped.0 popped.1 r.counts c.unready.new.sets (c.unready.ensures ∙ ap (unreadied c.self.inside.sets c.in_ok-key.key) (c.left_at.ensures r there.1) ∙ emptied_is c.self.inside.sets c.in_ok-key.key r.kept.membership c.pop_at.result r.queue popped.0 popped.1) c.pop_at.new.records popped.2 c.pop_at.new.spare c.self.inside.destroyed (let e = c.pop_at.ensures.spare in omega arith)

pub returns-clause-front : goal.returns-clause-front
returns-clause-front g c =
    let o = opened c.self.invariant (bare_is c.self.view_is) in
    let found : map.get c.self.inside.by_id.map c.args.port ≡ Some c.in_ok-key.key = sym c.in_ok-key.ensures in
    let there = record_at o c.args.port c.in_ok-key.key found in
    let r : Record g.row.M.Denot = there.0 in
    let popped = c.pop_at.ensures.after r there.1 in
    let front : PortView g.row.M.Denot → Option g.row.M.Denot = λ p. slice_get p.queue 0 in
    sym (ap (λ (l : List g.row.M.Denot). slice_get l 0) popped.1) ∙ ap (option_and_then front) (sym (live_port o c.args.port c.in_ok-key.key r found there.1))

pub returns-clause-taken : goal.returns-clause-taken
returns-clause-taken g c p h =
    let o = opened c.self.invariant (bare_is c.self.view_is) in
    let found : map.get c.self.inside.by_id.map c.args.port ≡ Some c.in_ok-key.key = sym c.in_ok-key.ensures in
    let there = record_at o c.args.port c.in_ok-key.key found in
    let r : Record g.row.M.Denot = there.0 in
    let popped = c.pop_at.ensures.after r there.1 in
    let is = is_port o c.args.port c.in_ok-key.key r found there.1 p h in
    let after : PortView g.row.M.Denot → PortView g.row.M.Denot = λ q. record q { queue = drop 1 q.queue } in
    view-taken o c.args.port c.in_ok-key.key r found there.1 r.kept.attributes refl refl c.pop_at.result popped.0 popped.1 r.counts c.unready.new.sets (c.unready.ensures ∙ ap (unreadied c.self.inside.sets c.in_ok-key.key) (c.left_at.ensures r there.1) ∙ emptied_is c.self.inside.sets c.in_ok-key.key r.kept.membership c.pop_at.result r.queue popped.0 popped.1) c.pop_at.new.records popped.2 c.pop_at.new.spare c.self.inside.destroyed (let e = c.pop_at.ensures.spare in omega arith) (after p)
    (ap (λ (l : List g.row.M.Denot). let q : PortView g.row.M.Denot = record { queue = l; attributes = r.kept.attributes; more = more_of c.self.inside.sets c.in_ok-key.key } in q) (sym (ap (λ (l : List g.row.M.Denot). drop 1 l) popped.1)) ∙ ap after (sym is))
    (c.args.self.now.bare.spare + 1) (let e = c.pop_at.ensures.spare in let f : length c.self.inside.spare ≡ c.args.self.now.bare.spare = ap (λ (b : PortsView g.row.M.Denot). b.spare) (bare_is c.self.view_is) in omega arith)
    c.args.self.now.bare.destroyed (ap (λ (b : PortsView g.row.M.Denot). b.destroyed) (bare_is c.self.view_is))

pub unready-requires-clause-home : goal.unready-requires-clause-home
unready-requires-clause-home g c =
    let o = opened c.self.invariant (bare_is c.self.view_is) in
    let found : map.get c.self.inside.by_id.map c.args.port ≡ Some c.in_ok-key.key = sym c.in_ok-key.ensures in
    let there = record_at o c.args.port c.in_ok-key.key found in
    let r : Record g.row.M.Denot = there.0 in
    subst (λ (m : Membership). m ≢ Nowhere → IsHome c.self.inside.sets c.in_ok-key.key m) (sym (c.left_at.ensures r there.1)) (left_home c.self.inside.sets c.in_ok-key.key r.kept.membership r.queue (c.self.invariant.membered.home c.in_ok-key.key r there.1))

pub unready-requires-clause-ready : goal.unready-requires-clause-ready
unready-requires-clause-ready g c some =
    let o = opened c.self.invariant (bare_is c.self.view_is) in
    let found : map.get c.self.inside.by_id.map c.args.port ≡ Some c.in_ok-key.key = sym c.in_ok-key.ensures in
    let there = record_at o c.args.port c.in_ok-key.key found in
    let r : Record g.row.M.Denot = there.0 in
    let same : c.index.result.now ≡ r = same_some c.index.result.now r (sym c.index.ensures ∙ there.1) in
    left_ready c.self.inside.sets c.in_ok-key.key r.kept.membership r.queue (some_length c.index.result.now.queue r.queue (ap (λ (b : Record g.row.M.Denot). b.queue) same) c.if-is_empty.ensures) (c.self.invariant.membered.ready c.in_ok-key.key r there.1)

pub returns-clause-counts : goal.returns-clause-counts
returns-clause-counts g c =
    let o = opened c.self.invariant (bare_is c.self.view_is) in
    let found : map.get c.self.inside.by_id.map c.args.port ≡ Some c.in_ok-key.key = sym c.in_ok-key.ensures in
    let there = record_at o c.args.port c.in_ok-key.key found in
    let r : Record g.row.M.Denot = there.0 in
    let popped = c.pop_at.ensures.after r there.1 in
    rights-set c.self.inside.records c.in_ok-key.key r _ there.1 (popped.2) refl c.self.inside.by_id.map ∙ counts_is c.self.view_is
