use Rattle.std.proofs.Common.{◌≡◌, Some, None, is_some, ap, sym, ◌∙◌, length}
use Rattle.std.specs.FinMap as map
use Rattle.shared_lists.specs.Shared.{more_of}
use Rattle.port.specs.Ports.{PortView}
use Rattle.port.proofs.Keys.{same_some}
use Rattle.port.proofs.Records.{port_of}
use Rattle.port.proofs.Readied.{none_further}
use Rattle.port.proofs.Sound.{bare_is, opened, record_at, live_port, gone_port}
use Rattle.port.proofs.Ports.standing.Goals as goal

pub returns-in_err-record-clause-none : goal.returns-in_err-record-clause-none
returns-in_err-record-clause-none g c =
    let gone : map.get c.args.self.now.bare.ports c.args.found.port ≡ None = gone_port (opened c.self.invariant (bare_is c.self.view_is)) c.args.found.port (c.in_err-record.ensures.none) in
    rw c.from_residual.ensures gone

pub returns-clause-some : goal.returns-clause-some
returns-clause-some g c =
    let found : map.get c.self.inside.by_id.map c.args.found.port ≡ Some c.in_ok-record.ensures.some.0 = c.in_ok-record.ensures.some.1 in
    let is : map.get c.args.self.now.bare.ports c.args.found.port ≡ Some (port_of c.in_ok-record.record.now (more_of c.self.inside.sets c.in_ok-record.ensures.some.0)) = live_port (opened c.self.invariant (bare_is c.self.view_is)) c.args.found.port c.in_ok-record.ensures.some.0 c.in_ok-record.record.now found c.in_ok-record.ensures.some.2 in
    λ p h. (
      c.is_member.ensures ∙ ap (λ (q : PortView g.row.M.Denot). is_some q.attributes.set) (same_some (port_of c.in_ok-record.record.now (more_of c.self.inside.sets c.in_ok-record.ensures.some.0)) p (sym is ∙ h)),
      c.len.ensures.value ∙ ap (λ (q : PortView g.row.M.Denot). length q.queue) (same_some (port_of c.in_ok-record.record.now (more_of c.self.inside.sets c.in_ok-record.ensures.some.0)) p (sym is ∙ h)),
    )

pub returns-clause-there : goal.returns-clause-there
returns-clause-there g c =
    let found : map.get c.self.inside.by_id.map c.args.found.port ≡ Some c.in_ok-record.ensures.some.0 = c.in_ok-record.ensures.some.1 in
    let is : map.get c.args.self.now.bare.ports c.args.found.port ≡ Some (port_of c.in_ok-record.record.now (more_of c.self.inside.sets c.in_ok-record.ensures.some.0)) = live_port (opened c.self.invariant (bare_is c.self.view_is)) c.args.found.port c.in_ok-record.ensures.some.0 c.in_ok-record.record.now found c.in_ok-record.ensures.some.2 in
    ap is_some is

pub returns-clause-alone : goal.returns-clause-alone
returns-clause-alone g c = none_further (opened c.self.invariant (bare_is c.self.view_is)) c.args.found.port

pub returns-in_err-record-clause-alone : goal.returns-in_err-record-clause-alone
returns-in_err-record-clause-alone g c = none_further (opened c.self.invariant (bare_is c.self.view_is)) c.args.found.port

pub record_near-requires-clause-held : goal.record_near-requires-clause-held
record_near-requires-clause-held g c = c.self.invariant.sound.indexed.held

pub record_near-requires-clause-found : goal.record_near-requires-clause-found
record_near-requires-clause-found g c = λ id key h. ap is_some (record_at (opened c.self.invariant (bare_is c.self.view_is)) id key h).1
