use Rattle.std.proofs.Common.{refl, ◌∙◌, ◌≡◌, Some, sym, subst}
use Rattle.std.specs.FinMap as map
use Rattle.shared_lists.specs.Shared.{more_of, IsReady}
use Rattle.port_base.specs.declared.Record.{Record}
use Rattle.port_base.specs.Memberships.{IsOut}
use Rattle.port_base.specs.Turns.{has_some}
use Rattle.port.proofs.Keys.{some_or_none}
use Rattle.port.proofs.Placed.{kept-restarted, view-restarted}
use Rattle.port.proofs.Records.{port_of}
use Rattle.port.proofs.Sound.{bare_is, opened, record_at, live_port, gone_port, counts_is, rights-set}
use Rattle.port.proofs.Ports.restart.Goals as goal

pub leave-requires-clause-ready : goal.leave-requires-clause-ready
leave-requires-clause-ready g c =
    let o = opened c.self.invariant (bare_is c.self.view_is) in
    let found : map.get c.self.inside.by_id.map c.args.port ≡ Some c.in-Some.key = sym c.in-Some.ensures in
    let there = record_at o c.args.port c.in-Some.key found in
    let r : Record g.row.M.Denot = there.0 in
    subst (IsReady c.self.inside.sets c.in-Some.key) (sym (c.has_messages-is_ready.ensures r there.1)) (c.self.invariant.membered.ready c.in-Some.key r there.1)

pub invariant_of-self : goal.invariant_of-self
invariant_of-self g c =
    let o = opened c.self.invariant (bare_is c.self.view_is) in
    let found : map.get c.self.inside.by_id.map c.args.port ≡ Some c.in-Some.key = sym c.in-Some.ensures in
    let there = record_at o c.args.port c.in-Some.key found in
    let r : Record g.row.M.Denot = there.0 in
    let was_is : c.member_at-was.result ≡ r.kept.membership = c.member_at-was.ensures r there.1 in
    let ready_is : c.has_messages-is_ready.result ≡ has_some r.queue = c.has_messages-is_ready.ensures r there.1 in
    let out : IsOut c.self.inside.sets c.in-Some.key r.kept.membership (has_some r.queue) c.leave.new.sets = subst (λ b. IsOut c.self.inside.sets c.in-Some.key r.kept.membership b c.leave.new.sets) ready_is (subst (λ m. IsOut c.self.inside.sets c.in-Some.key m c.has_messages-is_ready.result c.leave.new.sets) was_is c.leave.ensures) in
    kept-restarted o c.args.port c.in-Some.key r found there.1 c.leave.new.sets out c.restart_at.new.records (c.restart_at.ensures r there.1)

pub returns-clause-live : goal.returns-clause-live
returns-clause-live g c p h =
    let o = opened c.self.invariant (bare_is c.self.view_is) in
    let found : map.get c.self.inside.by_id.map c.args.port ≡ Some c.in-Some.key = sym c.in-Some.ensures in
    let there = record_at o c.args.port c.in-Some.key found in
    let r : Record g.row.M.Denot = there.0 in
    let was_is : c.member_at-was.result ≡ r.kept.membership = c.member_at-was.ensures r there.1 in
    let ready_is : c.has_messages-is_ready.result ≡ has_some r.queue = c.has_messages-is_ready.ensures r there.1 in
    let out : IsOut c.self.inside.sets c.in-Some.key r.kept.membership (has_some r.queue) c.leave.new.sets = subst (λ b. IsOut c.self.inside.sets c.in-Some.key r.kept.membership b c.leave.new.sets) ready_is (subst (λ m. IsOut c.self.inside.sets c.in-Some.key m c.has_messages-is_ready.result c.leave.new.sets) was_is c.leave.ensures) in
    view-restarted o c.args.port c.in-Some.key r found there.1 c.leave.new.sets out c.restart_at.new.records (c.restart_at.ensures r there.1) p h

pub returns-clause-gone : goal.returns-clause-gone
returns-clause-gone g c h =
    let o = opened c.self.invariant (bare_is c.self.view_is) in
    let found : map.get c.self.inside.by_id.map c.args.port ≡ Some c.in-Some.key = sym c.in-Some.ensures in
    let there = record_at o c.args.port c.in-Some.key found in
    let r : Record g.row.M.Denot = there.0 in
    absurd (some_or_none (port_of r (more_of c.self.inside.sets c.in-Some.key)) _ (live_port o c.args.port c.in-Some.key r found there.1) h)

pub returns-in_default-clause-live : goal.returns-in_default-clause-live
returns-in_default-clause-live g c p h =
    absurd (some_or_none p _ h (gone_port (opened c.self.invariant (bare_is c.self.view_is)) c.args.port (sym c.in_default.ensures)))

pub returns-clause-counts : goal.returns-clause-counts
returns-clause-counts g c =
    let o = opened c.self.invariant (bare_is c.self.view_is) in
    let found : map.get c.self.inside.by_id.map c.args.port ≡ Some c.in-Some.key = sym c.in-Some.ensures in
    let there = record_at o c.args.port c.in-Some.key found in
    let r : Record g.row.M.Denot = there.0 in
    rights-set c.self.inside.records c.in-Some.key r _ there.1 (c.restart_at.ensures r there.1) refl c.self.inside.by_id.map ∙ counts_is c.self.view_is
