use Rattle.std.proofs.Common.{◌≡◌, Option, Some, None, List, is_some, ap, sym, ◌∙◌}
use Rattle.std.specs.FinMap as map
use Rattle.std.specs.Option.{option_and_then, option_copied}
use Rattle.port.specs.Ports.{PortView}
use Rattle.port.proofs.Sound.{bare_is, opened, record_at, live_port, gone_port}
use Rattle.port.proofs.Ports.queue.Goals as goal

pub returns-in_err-key : goal.returns-in_err-key
returns-in_err-key g c =
    let none : map.get c.self.inside.by_id.map c.args.port ≡ None = sym c.in_err-key.ensures in
    let queue : PortView g.row.M.Denot → Option (List g.row.M.Denot) = λ p. Some p.queue in
    ap option_copied c.from_residual.ensures ∙ ap (option_and_then queue) (sym (gone_port (opened c.self.invariant (bare_is c.self.view_is)) c.args.port none))

pub index-requires : goal.index-requires
index-requires g c =
    let found : map.get c.self.inside.by_id.map c.args.port ≡ Some c.in_ok-key.key = sym (c.in_ok-key.ensures) in
    ap is_some (record_at (opened c.self.invariant (bare_is c.self.view_is)) c.args.port c.in_ok-key.key found).1

pub returns : goal.returns
returns g c =
    let found : map.get c.self.inside.by_id.map c.args.port ≡ Some c.in_ok-key.key = sym (c.in_ok-key.ensures) in
    let queue : PortView g.row.M.Denot → Option (List g.row.M.Denot) = λ p. Some p.queue in
    ap (option_and_then queue) (sym (live_port (opened c.self.invariant (bare_is c.self.view_is)) c.args.port c.in_ok-key.key c.index.result.now found c.index.ensures))
