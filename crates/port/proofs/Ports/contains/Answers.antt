use Rattle.std.proofs.Common.{◌≡◌, ℕ, Option, Some, None, is_some, refl, ap, sym, ◌∙◌}
use Rattle.std.specs.FinMap as map
use Rattle.port.proofs.Sound.{bare_is, opened, record_at, live_port, gone_port}
use Rattle.port.proofs.Ports.contains.Goals as goal

pub returns : goal.returns
returns g c = c.is_some.ensures ∙ ap is_some c.key_of.ensures ∙ found (map.get c.self.inside.by_id.map c.args.port) refl
  where
    found : (o : Option ℕ) → map.get c.self.inside.by_id.map c.args.port ≡ o → is_some o ≡ is_some (map.get c.args.self.now.bare.ports c.args.port)
    found (Some k) h =
        let r = record_at (opened c.self.invariant (bare_is c.self.view_is)) c.args.port k h in
        sym (ap is_some (live_port (opened c.self.invariant (bare_is c.self.view_is)) c.args.port k r.0 h r.1))
    found None h = sym (ap is_some (gone_port (opened c.self.invariant (bare_is c.self.view_is)) c.args.port h))
