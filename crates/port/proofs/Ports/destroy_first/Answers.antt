use Rattle.std.proofs.Common.{◌≡◌, ◌≢◌, ◌+◌, Some, ap, sym, subst, ◌∙◌, refl, [], ◌∷◌, ◌++◌, length, arith}
use Rattle.std.proofs.lemmas.Bool.{eqb-true}
use Rattle.std.proofs.lemmas.List.{length_push}
use Rattle.std.specs.FinMap as map
use Rattle.port_base.specs.declared.Record.{Record}
use Rattle.shared_lists.specs.Shared.{more_of}
use Rattle.port_base.specs.declared.Membership.{Membership}
use Rattle.port_base.specs.declared.Membership.TheVariants.{Nowhere}
use Rattle.port_base.specs.Memberships.{IsHome, unreadied}
use Rattle.port.specs.Ports.{PortView, PortsView}
use Rattle.port.proofs.Keys.{same_some, some_or_none}
use Rattle.port.proofs.Membered.{emptied_is}
use Rattle.port.proofs.Messages.{kept-taken, view-taken, left_home, left_ready, some_length}
use Rattle.port.proofs.Records.{port_of}
use Rattle.port.proofs.Sound.{bare_is, opened, record_at, live_port, gone_port, is_port, counts_is, rights-set}
use Rattle.port.proofs.Ports.destroy_first.Goals as goal

pub returns-in_default-clause-after : goal.returns-in_default-clause-after
returns-in_default-clause-after g c =
    (λ p h. absurd (some_or_none p _ h (gone_port (opened c.self.invariant (bare_is c.self.view_is)) c.args.port (sym c.in_default.ensures))), refl)

pub returns-then-is_empty-clause-after : goal.returns-then-is_empty-clause-after
returns-then-is_empty-clause-after g c =
    let o = opened c.self.invariant (bare_is c.self.view_is) in
    let found : map.get c.self.inside.by_id.map c.args.port ≡ Some c.in-Some.key = sym c.in-Some.ensures in
    (λ p h. ap (λ (q : PortView g.row.M.Denot). length q.queue) (is_port o c.args.port c.in-Some.key c.index.result.now found c.index.ensures p h) ∙ eqb-true (length c.index.result.now.queue) 0 (sym c.if-is_empty.ensures), refl)

pub invariant_of-self : goal.invariant_of-self
invariant_of-self g c =
    let o = opened c.self.invariant (bare_is c.self.view_is) in
    let found : map.get c.self.inside.by_id.map c.args.port ≡ Some c.in-Some.key = sym c.in-Some.ensures in
    let there = record_at o c.args.port c.in-Some.key found in
    let r : Record g.row.M.Denot = there.0 in
    let gone = c.destroy_at.ensures r there.1 in
    let longer : length c.destroy_at.new.destroyed ≡ length c.self.inside.destroyed + 1 = ap length gone.4 ∙ length_push c.self.inside.destroyed gone.0 in
    kept-taken o c.args.port c.in-Some.key r found there.1 r.kept.attributes refl refl gone.0 gone.1 gone.2 r.counts c.unready.new.sets (c.unready.ensures ∙ ap (unreadied c.self.inside.sets c.in-Some.key) (c.left_at.ensures r there.1) ∙ emptied_is c.self.inside.sets c.in-Some.key r.kept.membership gone.0 r.queue gone.1 gone.2) c.destroy_at.new.records gone.3 c.self.inside.spare c.destroy_at.new.destroyed (omega arith)

pub returns-clause-after : goal.returns-clause-after
returns-clause-after g c =
    let o = opened c.self.invariant (bare_is c.self.view_is) in
    let found : map.get c.self.inside.by_id.map c.args.port ≡ Some c.in-Some.key = sym c.in-Some.ensures in
    let there = record_at o c.args.port c.in-Some.key found in
    let r : Record g.row.M.Denot = there.0 in
    let gone = c.destroy_at.ensures r there.1 in
    let longer : length c.destroy_at.new.destroyed ≡ length c.self.inside.destroyed + 1 = ap length gone.4 ∙ length_push c.self.inside.destroyed gone.0 in
    record {
      view = port_of r (more_of c.self.inside.sets c.in-Some.key);
      there = live_port o c.args.port c.in-Some.key r found there.1;
      first = gone.0;
      behind = gone.1;
      queue = gone.2;
      rest = view-taken o c.args.port c.in-Some.key r found there.1 r.kept.attributes refl refl gone.0 gone.1 gone.2 r.counts c.unready.new.sets (c.unready.ensures ∙ ap (unreadied c.self.inside.sets c.in-Some.key) (c.left_at.ensures r there.1) ∙ emptied_is c.self.inside.sets c.in-Some.key r.kept.membership gone.0 r.queue gone.1 gone.2) c.destroy_at.new.records gone.3 c.self.inside.spare c.destroy_at.new.destroyed (omega arith) (port_of (record r { queue = gone.1 }) (more_of c.self.inside.sets c.in-Some.key)) refl c.args.self.now.bare.spare (ap (λ (b : PortsView g.row.M.Denot). b.spare) (bare_is c.self.view_is)) (c.args.self.now.bare.destroyed ++ gone.0 ∷ []) (gone.4 ∙ ap (λ (b : PortsView g.row.M.Denot). b.destroyed ++ gone.0 ∷ []) (bare_is c.self.view_is));
    }

pub unready-requires-clause-home : goal.unready-requires-clause-home
unready-requires-clause-home g c =
    let o = opened c.self.invariant (bare_is c.self.view_is) in
    let found : map.get c.self.inside.by_id.map c.args.port ≡ Some c.in-Some.key = sym c.in-Some.ensures in
    let there = record_at o c.args.port c.in-Some.key found in
    let r : Record g.row.M.Denot = there.0 in
    subst (λ (m : Membership). m ≢ Nowhere → IsHome c.self.inside.sets c.in-Some.key m) (sym (c.left_at.ensures r there.1)) (left_home c.self.inside.sets c.in-Some.key r.kept.membership r.queue (c.self.invariant.membered.home c.in-Some.key r there.1))

pub unready-requires-clause-ready : goal.unready-requires-clause-ready
unready-requires-clause-ready g c some =
    let o = opened c.self.invariant (bare_is c.self.view_is) in
    let found : map.get c.self.inside.by_id.map c.args.port ≡ Some c.in-Some.key = sym c.in-Some.ensures in
    let there = record_at o c.args.port c.in-Some.key found in
    let r : Record g.row.M.Denot = there.0 in
    let same : c.index.result.now ≡ r = same_some c.index.result.now r (sym c.index.ensures ∙ there.1) in
    left_ready c.self.inside.sets c.in-Some.key r.kept.membership r.queue (some_length c.index.result.now.queue r.queue (ap (λ (b : Record g.row.M.Denot). b.queue) same) c.if-is_empty.ensures) (c.self.invariant.membered.ready c.in-Some.key r there.1)

pub returns-clause-counts : goal.returns-clause-counts
returns-clause-counts g c =
    let o = opened c.self.invariant (bare_is c.self.view_is) in
    let found : map.get c.self.inside.by_id.map c.args.port ≡ Some c.in-Some.key = sym c.in-Some.ensures in
    let there = record_at o c.args.port c.in-Some.key found in
    let r : Record g.row.M.Denot = there.0 in
    let gone = c.destroy_at.ensures r there.1 in
    rights-set c.self.inside.records c.in-Some.key r _ there.1 (gone.3) refl c.self.inside.by_id.map ∙ counts_is c.self.view_is
