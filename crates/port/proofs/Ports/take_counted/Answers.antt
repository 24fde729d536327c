use Rattle.std.proofs.Common.{◌≡◌, ℕ, ◌≤◌, ◌<◌, ◌+◌, Option, Some, is_some, ap, sym, subst, ◌∙◌, refl, List, length, drop, slice_get, arith}
use Rattle.std.specs.Option.{option_and_then}
use Rattle.std.specs.FinMap as map
use Rattle.rights.specs.declared.Counts.{Counts}
use Rattle.rights.specs.Counts.{number_of, with_fewer}
use Rattle.port_base.specs.declared.Record.{Record}
use Rattle.shared_lists.specs.Shared.{more_of}
use Rattle.port_base.specs.Attributes.{one_received}
use Rattle.port.specs.Ports.{PortView, PortsView}
use Rattle.port.proofs.Keys.{same_some}
use Rattle.port.proofs.Messages.{kept-taken, view-taken, left_ready, front_some}
use Rattle.port.proofs.Recounted.{rights_is, rights-put}
use Rattle.port.proofs.Sound.{bare_is, places_are, opened, record_at, live_port, is_port}
use Rattle.port.proofs.Ports.take_counted.Goals as goal

pub take_counted_at-requires-clause-there : goal.take_counted_at-requires-clause-there
take_counted_at-requires-clause-there g c =
    let o = opened c.self.invariant (bare_is c.self.view_is) in
    let found : map.get c.self.inside.by_id.map c.args.port ≡ Some c.args.place = ap (λ (m : map.FinMap _ ℕ). map.get m c.args.port) (places_are c.self.view_is) ∙ c.requires.place in
    let there = record_at o c.args.port c.args.place found in
    let r : Record g.row.M.Denot = there.0 in
    ap is_some there.1

pub take_counted_at-requires-clause-some : goal.take_counted_at-requires-clause-some
take_counted_at-requires-clause-some g c = λ q at.
    let o = opened c.self.invariant (bare_is c.self.view_is) in
    let found : map.get c.self.inside.by_id.map c.args.port ≡ Some c.args.place = ap (λ (m : map.FinMap _ ℕ). map.get m c.args.port) (places_are c.self.view_is) ∙ c.requires.place in
    let there = record_at o c.args.port c.args.place found in
    let r : Record g.row.M.Denot = there.0 in
    let same : q ≡ r = same_some q r (sym at ∙ there.1) in
    let front : PortView g.row.M.Denot → Option g.row.M.Denot = λ p. slice_get p.queue 0 in
    subst (λ (x : Record g.row.M.Denot). 0 < length x.queue) (sym same)
    (front_some r.queue (ap (λ o. is_some (option_and_then front o)) (sym (live_port o c.args.port c.args.place r found there.1)) ∙ c.requires.waits))

pub take_counted_at-requires-clause-counted : goal.take_counted_at-requires-clause-counted
take_counted_at-requires-clause-counted g c = λ q at.
    let o = opened c.self.invariant (bare_is c.self.view_is) in
    let found : map.get c.self.inside.by_id.map c.args.port ≡ Some c.args.place = ap (λ (m : map.FinMap _ ℕ). map.get m c.args.port) (places_are c.self.view_is) ∙ c.requires.place in
    let there = record_at o c.args.port c.args.place found in
    let r : Record g.row.M.Denot = there.0 in
    let same : q ≡ r = same_some q r (sym at ∙ there.1) in
    subst (λ (k : Counts). 1 ≤ number_of c.args.kind k) (rights_is c.self.invariant c.self.view_is c.args.port c.args.place r found there.1 ∙ ap (λ (x : Record g.row.M.Denot). x.counts) (sym same)) c.requires.some

pub take_counted_at-requires-clause-ready : goal.take_counted_at-requires-clause-ready
take_counted_at-requires-clause-ready g c =
    let o = opened c.self.invariant (bare_is c.self.view_is) in
    let found : map.get c.self.inside.by_id.map c.args.port ≡ Some c.args.place = ap (λ (m : map.FinMap _ ℕ). map.get m c.args.port) (places_are c.self.view_is) ∙ c.requires.place in
    let there = record_at o c.args.port c.args.place found in
    let r : Record g.row.M.Denot = there.0 in
    let front : PortView g.row.M.Denot → Option g.row.M.Denot = λ p. slice_get p.queue 0 in
    left_ready c.self.inside.sets c.args.place r.kept.membership r.queue
    (front_some r.queue (ap (λ o. is_some (option_and_then front o)) (sym (live_port o c.args.port c.args.place r found there.1)) ∙ c.requires.waits)) (c.self.invariant.membered.ready c.args.place r there.1)

pub invariant_of-self : goal.invariant_of-self
invariant_of-self g c =
    let o = opened c.self.invariant (bare_is c.self.view_is) in
    let found : map.get c.self.inside.by_id.map c.args.port ≡ Some c.args.place = ap (λ (m : map.FinMap _ ℕ). map.get m c.args.port) (places_are c.self.view_is) ∙ c.requires.place in
    let there = record_at o c.args.port c.args.place found in
    let r : Record g.row.M.Denot = there.0 in
    let popped = c.take_counted_at.ensures.after r there.1 in
    kept-taken o c.args.port c.args.place r found there.1 (one_received r.kept.attributes) refl refl c.take_counted_at.result popped.0 popped.1 (with_fewer c.args.kind 1 r.counts) c.take_counted_at.new.sets (c.take_counted_at.ensures.emptied r popped.0 there.1 popped.1) c.take_counted_at.new.records popped.2 c.take_counted_at.new.spare c.self.inside.destroyed (let e = c.take_counted_at.ensures.spare in omega arith)

pub returns-clause-front : goal.returns-clause-front
returns-clause-front g c =
    let o = opened c.self.invariant (bare_is c.self.view_is) in
    let found : map.get c.self.inside.by_id.map c.args.port ≡ Some c.args.place = ap (λ (m : map.FinMap _ ℕ). map.get m c.args.port) (places_are c.self.view_is) ∙ c.requires.place in
    let there = record_at o c.args.port c.args.place found in
    let r : Record g.row.M.Denot = there.0 in
    let popped = c.take_counted_at.ensures.after r there.1 in
    let front : PortView g.row.M.Denot → Option g.row.M.Denot = λ p. slice_get p.queue 0 in
    sym (ap (λ (l : List g.row.M.Denot). slice_get l 0) popped.1) ∙ ap (option_and_then front) (sym (live_port o c.args.port c.args.place r found there.1))

pub returns-clause-taken : goal.returns-clause-taken
returns-clause-taken g c = λ p h.
    let o = opened c.self.invariant (bare_is c.self.view_is) in
    let found : map.get c.self.inside.by_id.map c.args.port ≡ Some c.args.place = ap (λ (m : map.FinMap _ ℕ). map.get m c.args.port) (places_are c.self.view_is) ∙ c.requires.place in
    let there = record_at o c.args.port c.args.place found in
    let r : Record g.row.M.Denot = there.0 in
    let popped = c.take_counted_at.ensures.after r there.1 in
    let is = is_port o c.args.port c.args.place r found there.1 p h in
    let after : PortView g.row.M.Denot → PortView g.row.M.Denot = λ q. record q { queue = drop 1 q.queue; attributes = one_received q.attributes } in
    view-taken o c.args.port c.args.place r found there.1 (one_received r.kept.attributes) refl refl c.take_counted_at.result popped.0 popped.1 (with_fewer c.args.kind 1 r.counts) c.take_counted_at.new.sets (c.take_counted_at.ensures.emptied r popped.0 there.1 popped.1) c.take_counted_at.new.records popped.2 c.take_counted_at.new.spare c.self.inside.destroyed (let e = c.take_counted_at.ensures.spare in omega arith) (after p)
    (ap (λ (l : List g.row.M.Denot). let q : PortView g.row.M.Denot = record { queue = l; attributes = one_received r.kept.attributes; more = more_of c.self.inside.sets c.args.place } in q) (sym (ap (λ (l : List g.row.M.Denot). drop 1 l) popped.1)) ∙ ap after (sym is))
    (c.args.self.now.bare.spare + 1) (let e = c.take_counted_at.ensures.spare in let f : length c.self.inside.spare ≡ c.args.self.now.bare.spare = ap (λ (b : PortsView g.row.M.Denot). b.spare) (bare_is c.self.view_is) in omega arith)
    c.args.self.now.bare.destroyed (ap (λ (b : PortsView g.row.M.Denot). b.destroyed) (bare_is c.self.view_is))

pub returns-clause-counts : goal.returns-clause-counts
returns-clause-counts g c =
    let o = opened c.self.invariant (bare_is c.self.view_is) in
    let found : map.get c.self.inside.by_id.map c.args.port ≡ Some c.args.place = ap (λ (m : map.FinMap _ ℕ). map.get m c.args.port) (places_are c.self.view_is) ∙ c.requires.place in
    let there = record_at o c.args.port c.args.place found in
    let r : Record g.row.M.Denot = there.0 in
    let popped = c.take_counted_at.ensures.after r there.1 in
    rights-put c.self.invariant c.self.view_is c.args.port c.args.place r found there.1 _ refl popped.2 (with_fewer c.args.kind 1) refl
