use Rattle.std.proofs.Common.{◌≡◌, Some, is_some, ap, sym, ◌∙◌, ◌++◌}
use Rattle.std.specs.Option.{option_map, option_to_list}
use Rattle.std.specs.FinMap as map
use Rattle.port_base.specs.declared.Record.{Record}
use Rattle.port_base.specs.Memberships.{first_of}
use Rattle.port.specs.Ports.{PortView, sets_in}
use Rattle.port.proofs.Sound.{bare_is, opened, record_at, live_port, gone_port}
use Rattle.port.proofs.Ports.sets_of.Goals as goal

pub returns-in_err-key : goal.returns-in_err-key
returns-in_err-key g c =
    let o = opened c.self.invariant (bare_is c.self.view_is) in
    c.from_residual.ensures ∙ ap (option_map (λ (p : PortView g.row.M.Denot). sets_in p)) (sym (gone_port o c.args.port (sym c.in_err-key.ensures)))

pub member_at-requires : goal.member_at-requires
member_at-requires g c =
    let o = opened c.self.invariant (bare_is c.self.view_is) in
    let found : map.get c.self.inside.by_id.map c.args.port ≡ Some c.in_ok-key.key = sym c.in_ok-key.ensures in
    let there = record_at o c.args.port c.in_ok-key.key found in
    let r : Record g.row.M.Denot = there.0 in
    ap is_some there.1

pub returns : goal.returns
returns g c =
    let o = opened c.self.invariant (bare_is c.self.view_is) in
    let found : map.get c.self.inside.by_id.map c.args.port ≡ Some c.in_ok-key.key = sym c.in_ok-key.ensures in
    let there = record_at o c.args.port c.in_ok-key.key found in
    let r : Record g.row.M.Denot = there.0 in
    ap (λ x. Some (option_to_list x ++ c.further_lists.result)) (c.first.ensures ∙ ap first_of (c.member_at.ensures r there.1) ∙ sym (c.self.invariant.membered.first c.in_ok-key.key r there.1))
    ∙ ap (λ ys. Some (option_to_list r.kept.attributes.set ++ ys)) c.further_lists.ensures ∙ ap (option_map (λ (p : PortView g.row.M.Denot). sets_in p)) (sym (live_port o c.args.port c.in_ok-key.key r found there.1))
