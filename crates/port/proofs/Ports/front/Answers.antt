use Rattle.std.proofs.Common.{◌≡◌, Option, Some, None, is_some, ap, sym, ◌∙◌, slice_get}
use Rattle.std.specs.FinMap as map
use Rattle.std.specs.Option.{option_and_then, option_copied}
use Rattle.port.specs.Ports.{PortView}
use Rattle.port.proofs.Sound.{bare_is, opened, record_at, live_port, gone_port, front_got}
use Rattle.port.proofs.Ports.front.Goals as goal

pub returns-in_err-key : goal.returns-in_err-key
returns-in_err-key g c =
    let none : map.get c.self.inside.by_id.map c.args.port ≡ None = sym c.in_err-key.ensures in
    let front : PortView g.row.M.Denot → Option g.row.M.Denot = λ p. slice_get p.queue 0 in
    ap option_copied c.from_residual.ensures ∙ ap (option_and_then front) (sym (gone_port (opened c.self.invariant (bare_is c.self.view_is)) c.args.port none))

pub index-requires : goal.index-requires
index-requires g c =
    let found : map.get c.self.inside.by_id.map c.args.port ≡ Some c.in_ok-key.key = sym (c.in_ok-key.ensures) in
    ap is_some (record_at (opened c.self.invariant (bare_is c.self.view_is)) c.args.port c.in_ok-key.key found).1

pub returns : goal.returns
returns g c =
    let found : map.get c.self.inside.by_id.map c.args.port ≡ Some c.in_ok-key.key = sym (c.in_ok-key.ensures) in
    let front : PortView g.row.M.Denot → Option g.row.M.Denot = λ p. slice_get p.queue 0 in
    front_got c.front.result c.index.result.now.queue c.front.ensures.variant.0 c.front.ensures.variant.1 c.front.ensures.lookup ∙ ap (option_and_then front) (sym (live_port (opened c.self.invariant (bare_is c.self.view_is)) c.args.port c.in_ok-key.key c.index.result.now found c.index.ensures))
