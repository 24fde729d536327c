use Rattle.std.proofs.Common.{◌≡◌, Some, None, is_some, ap, sym, ◌∙◌}
use Rattle.std.specs.FinMap as map
use Rattle.std.specs.Option.{option_map}
use Rattle.port_base.specs.declared.Holder.{Holder}
use Rattle.port.specs.Ports.{PortView}
use Rattle.port.proofs.Sound.{bare_is, opened, record_at, live_port, gone_port}
use Rattle.port.proofs.Ports.holder.Goals as goal

abbrev field : {M : Type 0} → PortView M → Holder
field p = p.attributes.holder

pub returns-in_err-key : goal.returns-in_err-key
returns-in_err-key g c =
    let none : map.get c.self.inside.by_id.map c.args.port ≡ None = sym (rw c.number.ensures at c.in_err-key.ensures) in
    c.from_residual.ensures ∙ ap (option_map field) (sym (gone_port (opened c.self.invariant (bare_is c.self.view_is)) c.args.port none))

pub index-requires : goal.index-requires
index-requires g c =
    let found : map.get c.self.inside.by_id.map c.args.port ≡ Some c.in_ok-key.key = sym (rw c.number.ensures at c.in_ok-key.ensures) in
    ap is_some (record_at (opened c.self.invariant (bare_is c.self.view_is)) c.args.port c.in_ok-key.key found).1

pub returns : goal.returns
returns g c =
    let found : map.get c.self.inside.by_id.map c.args.port ≡ Some c.in_ok-key.key = sym (rw c.number.ensures at c.in_ok-key.ensures) in
    ap (λ a. Some a) c.holder.ensures ∙ ap (option_map field) (sym (live_port (opened c.self.invariant (bare_is c.self.view_is)) c.args.port c.in_ok-key.key c.index.result.now found c.index.ensures))
