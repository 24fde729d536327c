use Rattle.std.proofs.Common.{◌≡◌, Some, is_some, ap, sym, ◌∙◌}
use Rattle.std.specs.FinMap as map
use Rattle.shared_lists.specs.Shared.{more_of}
use Rattle.port_base.specs.declared.Record.{Record}
use Rattle.port.specs.Ports.{PortView, sets_in}
use Rattle.port.proofs.Keys.{some_or_none}
use Rattle.port_base.specs.Memberships.{membership_in}
use Rattle.port.proofs.Placed.{its_membership}
use Rattle.port.proofs.Records.{port_of}
use Rattle.port.proofs.Sound.{bare_is, opened, record_at, live_port, gone_port, is_port}
use Rattle.port.proofs.Ports.membership.Goals as goal

pub member_at-requires : goal.member_at-requires
member_at-requires g c =
    let o = opened c.self.invariant (bare_is c.self.view_is) in
    let found : map.get c.self.inside.by_id.map c.args.port ≡ Some c.in-Some.key = sym c.in-Some.ensures in
    let there = record_at o c.args.port c.in-Some.key found in
    let r : Record g.row.M.Denot = there.0 in
    ap is_some there.1

pub returns-in-Some-clause-live : goal.returns-in-Some-clause-live
returns-in-Some-clause-live g c p h =
    let o = opened c.self.invariant (bare_is c.self.view_is) in
    let found : map.get c.self.inside.by_id.map c.args.port ≡ Some c.in-Some.key = sym c.in-Some.ensures in
    let there = record_at o c.args.port c.in-Some.key found in
    let r : Record g.row.M.Denot = there.0 in
    c.member_at.ensures r there.1 ∙ sym (its_membership o c.args.port c.in-Some.key r found there.1) ∙ ap (λ (q : PortView g.row.M.Denot). membership_in (sets_in q)) (sym (is_port o c.args.port c.in-Some.key r found there.1 p h))

pub returns-in-Some-clause-gone : goal.returns-in-Some-clause-gone
returns-in-Some-clause-gone g c h =
    let o = opened c.self.invariant (bare_is c.self.view_is) in
    let found : map.get c.self.inside.by_id.map c.args.port ≡ Some c.in-Some.key = sym c.in-Some.ensures in
    let there = record_at o c.args.port c.in-Some.key found in
    let r : Record g.row.M.Denot = there.0 in
    absurd (some_or_none (port_of r (more_of c.self.inside.sets c.in-Some.key)) _ (live_port o c.args.port c.in-Some.key r found there.1) h)

pub returns-in-None-clause-live : goal.returns-in-None-clause-live
returns-in-None-clause-live g c p h =
    absurd (some_or_none p _ h (gone_port (opened c.self.invariant (bare_is c.self.view_is)) c.args.port (sym c.in-None.ensures)))
