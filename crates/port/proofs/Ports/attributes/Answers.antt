use Rattle.std.proofs.Common.{◌≡◌, Some, None, is_some, ap, sym, ◌∙◌}
use Rattle.std.specs.FinMap as map
use Rattle.std.specs.Option.{option_map}
use Rattle.port_base.specs.declared.Attributes.{Attributes}
use Rattle.port.specs.Ports.{PortView}
use Rattle.port.proofs.Readied.{none_further}
use Rattle.port.proofs.Sound.{bare_is, opened, record_at, live_port, gone_port}
use Rattle.port.proofs.Ports.attributes.Goals as goal

pub returns-in_err-key-clause-is : goal.returns-in_err-key-clause-is
returns-in_err-key-clause-is g c =
    let none : map.get c.self.inside.by_id.map c.args.port ≡ None = sym c.in_err-key.ensures in
    let field : PortView g.row.M.Denot → Attributes = λ p. p.attributes in
    c.from_residual.ensures ∙ ap (option_map field) (sym (gone_port (opened c.self.invariant (bare_is c.self.view_is)) c.args.port none))

pub index-requires : goal.index-requires
index-requires g c =
    let found : map.get c.self.inside.by_id.map c.args.port ≡ Some c.in_ok-key.key = sym (c.in_ok-key.ensures) in
    ap is_some (record_at (opened c.self.invariant (bare_is c.self.view_is)) c.args.port c.in_ok-key.key found).1

pub returns-clause-is : goal.returns-clause-is
returns-clause-is g c =
    let found : map.get c.self.inside.by_id.map c.args.port ≡ Some c.in_ok-key.key = sym (c.in_ok-key.ensures) in
    let field : PortView g.row.M.Denot → Attributes = λ p. p.attributes in
    ap (λ a. Some a) c.attributes.ensures ∙ ap (option_map field) (sym (live_port (opened c.self.invariant (bare_is c.self.view_is)) c.args.port c.in_ok-key.key c.index.result.now found c.index.ensures))

pub returns-clause-none : goal.returns-clause-none
returns-clause-none g c = none_further (opened c.self.invariant (bare_is c.self.view_is)) c.args.port

pub returns-in_err-key-clause-none : goal.returns-in_err-key-clause-none
returns-in_err-key-clause-none g c = none_further (opened c.self.invariant (bare_is c.self.view_is)) c.args.port
