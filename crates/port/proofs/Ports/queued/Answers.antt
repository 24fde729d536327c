use Rattle.std.proofs.Common.{◌≡◌, Some, None, is_some, ap, sym, ◌∙◌, refl, length}
use Rattle.std.specs.FinMap as map
use Rattle.shared_lists.specs.Shared.{more_of}
use Rattle.port.specs.Ports.{PortView}
use Rattle.port.proofs.Keys.{same_some, some_or_none}
use Rattle.port.proofs.Records.{port_of}
use Rattle.port.proofs.Sound.{bare_is, opened, record_at, live_port, gone_port}
use Rattle.port.proofs.Ports.queued.Goals as goal

pub index-requires : goal.index-requires
index-requires g c =
    let found : map.get c.self.inside.by_id.map c.args.port ≡ Some c.in-Some.key = sym (c.in-Some.ensures) in
    ap is_some (record_at (opened c.self.invariant (bare_is c.self.view_is)) c.args.port c.in-Some.key found).1

pub returns-in-Some : goal.returns-in-Some
returns-in-Some g c =
    let found : map.get c.self.inside.by_id.map c.args.port ≡ Some c.in-Some.key = sym (c.in-Some.ensures) in
    let is : map.get c.args.self.now.bare.ports c.args.port ≡ Some (port_of c.index.result.now (more_of c.self.inside.sets c.in-Some.key)) = live_port (opened c.self.invariant (bare_is c.self.view_is)) c.args.port c.in-Some.key c.index.result.now found c.index.ensures in
    record {
      live = λ p h. c.len.ensures.value ∙ ap (λ (q : PortView g.row.M.Denot). length q.queue) (same_some (port_of c.index.result.now (more_of c.self.inside.sets c.in-Some.key)) p (sym is ∙ h));
      gone = λ h. absurd (some_or_none (port_of c.index.result.now (more_of c.self.inside.sets c.in-Some.key)) _ is h);
    }

pub returns-in-None : goal.returns-in-None
returns-in-None g c =
    let none : map.get c.self.inside.by_id.map c.args.port ≡ None = sym c.in-None.ensures in
    let gone : map.get c.args.self.now.bare.ports c.args.port ≡ None = gone_port (opened c.self.invariant (bare_is c.self.view_is)) c.args.port none in
    record {
      live = λ p h. absurd (some_or_none p _ h gone);
      gone = λ h. refl;
    }
