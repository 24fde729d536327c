use Rattle.std.proofs.Common.{◌≡◌, None, is_some, refl, ap, sym}
use Rattle.std.specs.FinMap as map
use Rattle.port.proofs.Sound.{bare_is, opened, record_at, live_port, gone_port}
use Rattle.port.proofs.Ports.find.Goals as goal

pub returns-in_err-place-clause-none : goal.returns-in_err-place-clause-none
returns-in_err-place-clause-none g c =
    let gone : map.get c.args.self.now.bare.ports c.args.port ≡ None = gone_port (opened c.self.invariant (bare_is c.self.view_is)) c.args.port (sym c.in_err-place.ensures) in
    rw c.from_residual.ensures gone

pub returns-clause-some : goal.returns-clause-some
returns-clause-some g c =
    let o = opened c.self.invariant (bare_is c.self.view_is) in
    let there = record_at o c.args.port c.in_ok-place.place (sym c.in_ok-place.ensures) in
    (refl, ap is_some (live_port o c.args.port c.in_ok-place.place there.0 (sym c.in_ok-place.ensures) there.1))
