use Rattle.std.proofs.Common.{refl, ◌≡◌, Some, is_some, ap, sym, subst, ◌∙◌, [], ◌∷◌}
use Rattle.std.specs.FinMap as map
use Rattle.slab.specs.Slab.{with_value}
use Rattle.shared_lists.specs.Shared.{IsReady}
use Rattle.port_base.specs.declared.Membership.TheVariants.{Nowhere, Alone}
use Rattle.port_base.specs.declared.Record.{Record}
use Rattle.port_base.specs.Memberships.{IsOut, IsSettled}
use Rattle.port_base.specs.Turns.{has_some}
use Rattle.port.specs.Ports.{with_port, in_set}
use Rattle.port.proofs.Placed.{placed_as, kept-placed, view-placed, settled-moves, out-moves}
use Rattle.port.proofs.Sound.{bare_is, opened, record_at, live_at, counts_is, rights-set}
use Rattle.port.proofs.Ports.move_to.Goals as goal

pub key_at-key-requires : goal.key_at-key-requires
key_at-key-requires g c = ap is_some (live_at (opened c.self.invariant (bare_is c.self.view_is)) c.args.port c.requires).1

pub settle-requires-clause-ready : goal.settle-requires-clause-ready
settle-requires-clause-ready g c =
    let o = opened c.self.invariant (bare_is c.self.view_is) in
    let found : map.get c.self.inside.by_id.map c.args.port ≡ Some c.key_at-key.result = c.key_at-key.ensures in
    let there = record_at o c.args.port c.key_at-key.result found in
    let r : Record g.row.M.Denot = there.0 in
    subst (IsReady c.self.inside.sets c.key_at-key.result) (sym (c.has_messages-is_ready.ensures r there.1)) (c.self.invariant.membered.ready c.key_at-key.result r there.1)

pub leave-requires-clause-ready : goal.leave-requires-clause-ready
leave-requires-clause-ready g c =
    let o = opened c.self.invariant (bare_is c.self.view_is) in
    let found : map.get c.self.inside.by_id.map c.args.port ≡ Some c.key_at-key.result = c.key_at-key.ensures in
    let there = record_at o c.args.port c.key_at-key.result found in
    let r : Record g.row.M.Denot = there.0 in
    subst (IsReady c.self.inside.sets c.key_at-key.result) (sym (c.has_messages-is_ready.ensures r there.1)) (c.self.invariant.membered.ready c.key_at-key.result r there.1)

pub invariant_of-self : goal.invariant_of-self
invariant_of-self g c =
    let o = opened c.self.invariant (bare_is c.self.view_is) in
    let found : map.get c.self.inside.by_id.map c.args.port ≡ Some c.key_at-key.result = c.key_at-key.ensures in
    let there = record_at o c.args.port c.key_at-key.result found in
    let r : Record g.row.M.Denot = there.0 in
    let was_is : c.member_at-was.result ≡ r.kept.membership = c.member_at-was.ensures r there.1 in
    let ready_is : c.has_messages-is_ready.result ≡ has_some r.queue = c.has_messages-is_ready.ensures r there.1 in
    let settled : IsSettled c.self.inside.sets c.key_at-key.result r.kept.membership c.in-Some.set (has_some r.queue) c.settle.new.sets =
    subst (λ b. IsSettled c.self.inside.sets c.key_at-key.result r.kept.membership c.in-Some.set b c.settle.new.sets) ready_is (subst (λ m. IsSettled c.self.inside.sets c.key_at-key.result m c.in-Some.set c.has_messages-is_ready.result c.settle.new.sets) was_is (subst (λ n. IsSettled c.self.inside.sets c.key_at-key.result c.member_at-was.result n c.has_messages-is_ready.result c.settle.new.sets) c.number.ensures c.settle.ensures)) in
    let set_is : c.place_at.new.records ≡ with_value c.self.inside.records c.key_at-key.result (placed_as r (Alone c.in-Some.set)) = c.place_at.ensures r there.1 ∙ ap (λ n. with_value c.self.inside.records c.key_at-key.result (placed_as r (Alone n))) c.number-in-Some.ensures in
    kept-placed o c.args.port c.key_at-key.result r found there.1 c.settle.new.sets (Alone c.in-Some.set) c.place_at.new.records set_is (settled-moves o c.args.port c.key_at-key.result r found there.1 c.settle.new.sets c.in-Some.set settled)

pub returns-in-Some-clause-after : goal.returns-in-Some-clause-after
returns-in-Some-clause-after g c p h =
    let o = opened c.self.invariant (bare_is c.self.view_is) in
    let found : map.get c.self.inside.by_id.map c.args.port ≡ Some c.key_at-key.result = c.key_at-key.ensures in
    let there = record_at o c.args.port c.key_at-key.result found in
    let r : Record g.row.M.Denot = there.0 in
    let was_is : c.member_at-was.result ≡ r.kept.membership = c.member_at-was.ensures r there.1 in
    let ready_is : c.has_messages-is_ready.result ≡ has_some r.queue = c.has_messages-is_ready.ensures r there.1 in
    let settled : IsSettled c.self.inside.sets c.key_at-key.result r.kept.membership c.in-Some.set (has_some r.queue) c.settle.new.sets =
    subst (λ b. IsSettled c.self.inside.sets c.key_at-key.result r.kept.membership c.in-Some.set b c.settle.new.sets) ready_is (subst (λ m. IsSettled c.self.inside.sets c.key_at-key.result m c.in-Some.set c.has_messages-is_ready.result c.settle.new.sets) was_is (subst (λ n. IsSettled c.self.inside.sets c.key_at-key.result c.member_at-was.result n c.has_messages-is_ready.result c.settle.new.sets) c.number.ensures c.settle.ensures)) in
    let set_is : c.place_at.new.records ≡ with_value c.self.inside.records c.key_at-key.result (placed_as r (Alone c.in-Some.set)) = c.place_at.ensures r there.1 ∙ ap (λ n. with_value c.self.inside.records c.key_at-key.result (placed_as r (Alone n))) c.number-in-Some.ensures in
    view-placed o c.args.port c.key_at-key.result r found there.1 c.settle.new.sets (Alone c.in-Some.set) c.place_at.new.records set_is (settled-moves o c.args.port c.key_at-key.result r found there.1 c.settle.new.sets c.in-Some.set settled) p h (c.in-Some.set ∷ []) (ap (λ ys. c.in-Some.set ∷ ys) settled.none) ∙ ap (λ x. with_port c.args.self.now.bare c.args.port (in_set p x)) (sym c.in-Some.is)

pub invariant_of-self-in-None : goal.invariant_of-self-in-None
invariant_of-self-in-None g c =
    let o = opened c.self.invariant (bare_is c.self.view_is) in
    let found : map.get c.self.inside.by_id.map c.args.port ≡ Some c.key_at-key.result = c.key_at-key.ensures in
    let there = record_at o c.args.port c.key_at-key.result found in
    let r : Record g.row.M.Denot = there.0 in
    let was_is : c.member_at-was.result ≡ r.kept.membership = c.member_at-was.ensures r there.1 in
    let ready_is : c.has_messages-is_ready.result ≡ has_some r.queue = c.has_messages-is_ready.ensures r there.1 in
    let out : IsOut c.self.inside.sets c.key_at-key.result r.kept.membership (has_some r.queue) c.leave.new.sets = subst (λ b. IsOut c.self.inside.sets c.key_at-key.result r.kept.membership b c.leave.new.sets) ready_is (subst (λ m. IsOut c.self.inside.sets c.key_at-key.result m c.has_messages-is_ready.result c.leave.new.sets) was_is c.leave.ensures) in
    kept-placed o c.args.port c.key_at-key.result r found there.1 c.leave.new.sets Nowhere c.place_at-in-None.new.records (c.place_at-in-None.ensures r there.1) (out-moves o c.args.port c.key_at-key.result r found there.1 c.leave.new.sets out)

pub returns-in-None-clause-after : goal.returns-in-None-clause-after
returns-in-None-clause-after g c p h =
    let o = opened c.self.invariant (bare_is c.self.view_is) in
    let found : map.get c.self.inside.by_id.map c.args.port ≡ Some c.key_at-key.result = c.key_at-key.ensures in
    let there = record_at o c.args.port c.key_at-key.result found in
    let r : Record g.row.M.Denot = there.0 in
    let was_is : c.member_at-was.result ≡ r.kept.membership = c.member_at-was.ensures r there.1 in
    let ready_is : c.has_messages-is_ready.result ≡ has_some r.queue = c.has_messages-is_ready.ensures r there.1 in
    let out : IsOut c.self.inside.sets c.key_at-key.result r.kept.membership (has_some r.queue) c.leave.new.sets = subst (λ b. IsOut c.self.inside.sets c.key_at-key.result r.kept.membership b c.leave.new.sets) ready_is (subst (λ m. IsOut c.self.inside.sets c.key_at-key.result m c.has_messages-is_ready.result c.leave.new.sets) was_is c.leave.ensures) in
    view-placed o c.args.port c.key_at-key.result r found there.1 c.leave.new.sets Nowhere c.place_at-in-None.new.records (c.place_at-in-None.ensures r there.1) (out-moves o c.args.port c.key_at-key.result r found there.1 c.leave.new.sets out) p h [] out.none ∙ ap (λ x. with_port c.args.self.now.bare c.args.port (in_set p x)) (sym c.in-None.is)

pub returns-in-Some-clause-counts : goal.returns-in-Some-clause-counts
returns-in-Some-clause-counts g c =
    let o = opened c.self.invariant (bare_is c.self.view_is) in
    let found : map.get c.self.inside.by_id.map c.args.port ≡ Some c.key_at-key.result = c.key_at-key.ensures in
    let there = record_at o c.args.port c.key_at-key.result found in
    let r : Record g.row.M.Denot = there.0 in
    rights-set c.self.inside.records c.key_at-key.result r _ there.1 (c.place_at.ensures r there.1) refl c.self.inside.by_id.map ∙ counts_is c.self.view_is

pub returns-in-None-clause-counts : goal.returns-in-None-clause-counts
returns-in-None-clause-counts g c =
    let o = opened c.self.invariant (bare_is c.self.view_is) in
    let found : map.get c.self.inside.by_id.map c.args.port ≡ Some c.key_at-key.result = c.key_at-key.ensures in
    let there = record_at o c.args.port c.key_at-key.result found in
    let r : Record g.row.M.Denot = there.0 in
    rights-set c.self.inside.records c.key_at-key.result r _ there.1 (c.place_at-in-None.ensures r there.1) refl c.self.inside.by_id.map ∙ counts_is c.self.view_is
