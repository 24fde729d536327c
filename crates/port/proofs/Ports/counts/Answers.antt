use Rattle.std.proofs.Common.{◌≡◌, Some, is_some, ap, sym, ◌∙◌}
use Rattle.std.specs.Option.{option_map}
use Rattle.std.specs.FinMap as map
use Rattle.slab.specs.Slab.{get}
use Rattle.rights.specs.declared.Counts.{Counts}
use Rattle.port_base.specs.declared.Record.{Record}
use Rattle.port.specs.Records.{rights_in}
use Rattle.port.proofs.Records.{get-rights, rights_at}
use Rattle.port.proofs.Sound.{bare_is, counts_is, opened, record_at}
use Rattle.port.proofs.Ports.counts.Goals as goal

pub returns-in_err-key : goal.returns-in_err-key
returns-in_err-key g c =
    c.from_residual.ensures ∙ sym (ap (λ (m : map.FinMap _ Counts). map.get m c.args.port) (sym (counts_is c.self.view_is)) ∙ get-rights (get c.self.inside.records) c.self.inside.by_id.map c.args.port ∙ ap (option_map (λ k. rights_in (get c.self.inside.records k))) (sym c.in_err-key.ensures))

pub counts_at-requires : goal.counts_at-requires
counts_at-requires g c =
    let found : map.get c.self.inside.by_id.map c.args.port ≡ Some c.in_ok-key.key = sym (c.in_ok-key.ensures) in
    ap is_some (record_at (opened c.self.invariant (bare_is c.self.view_is)) c.args.port c.in_ok-key.key found).1

pub returns : goal.returns
returns g c =
    let found : map.get c.self.inside.by_id.map c.args.port ≡ Some c.in_ok-key.key = sym (c.in_ok-key.ensures) in
    let there = record_at (opened c.self.invariant (bare_is c.self.view_is)) c.args.port c.in_ok-key.key found in
    let r : Record g.row.M.Denot = there.0 in
    ap (λ k. Some k) (c.counts_at.ensures r there.1) ∙ sym (rights_at (get c.self.inside.records) c.self.inside.by_id.map c.args.port c.in_ok-key.key r found there.1)
    ∙ ap (λ (m : map.FinMap _ Counts). map.get m c.args.port) (counts_is c.self.view_is)
