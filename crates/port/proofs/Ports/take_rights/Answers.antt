use Rattle.std.proofs.Common.{◌≡◌, ◌≤◌, Some, is_some, ap, sym, subst, ◌∙◌, refl}
use Rattle.std.specs.FinMap as map
use Rattle.rights.specs.declared.Counts.{Counts}
use Rattle.rights.specs.Counts.{number_of, with_fewer}
use Rattle.port_base.specs.declared.Record.{Record}
use Rattle.port.proofs.Keys.{same_some}
use Rattle.port.proofs.Recounted.{key_of_rights, rights_is, kept-recounted, view-recounted}
use Rattle.port.proofs.Sound.{bare_is, opened, record_at}
use Rattle.port.proofs.Ports.take_rights.Goals as goal

pub key_at-key-requires : goal.key_at-key-requires
key_at-key-requires g c = ap is_some (key_of_rights c.self.invariant c.self.view_is c.args.port c.requires.there).1

pub subtract_at-requires-clause-there : goal.subtract_at-requires-clause-there
subtract_at-requires-clause-there g c =
    let key : map.get c.self.inside.by_id.map c.args.port ≡ Some c.key_at-key.result = c.key_at-key.ensures in
    let there = record_at (opened c.self.invariant (bare_is c.self.view_is)) c.args.port c.key_at-key.result key in
    let r : Record g.row.M.Denot = there.0 in
    ap is_some there.1

pub subtract_at-requires-clause-some : goal.subtract_at-requires-clause-some
subtract_at-requires-clause-some g c = λ q at.
    let key : map.get c.self.inside.by_id.map c.args.port ≡ Some c.key_at-key.result = c.key_at-key.ensures in
    let there = record_at (opened c.self.invariant (bare_is c.self.view_is)) c.args.port c.key_at-key.result key in
    let r : Record g.row.M.Denot = there.0 in
    let same : q ≡ r = same_some q r (sym at ∙ there.1) in
    subst (λ (k : Counts). c.args.number ≤ number_of c.args.kind k) (rights_is c.self.invariant c.self.view_is c.args.port c.key_at-key.result r key there.1 ∙ ap (λ (x : Record g.row.M.Denot). x.counts) (sym same)) c.requires.some

pub invariant_of-self : goal.invariant_of-self
invariant_of-self g c =
    let key : map.get c.self.inside.by_id.map c.args.port ≡ Some c.key_at-key.result = c.key_at-key.ensures in
    let there = record_at (opened c.self.invariant (bare_is c.self.view_is)) c.args.port c.key_at-key.result key in
    let r : Record g.row.M.Denot = there.0 in
    kept-recounted c.self.invariant c.self.view_is c.args.port c.key_at-key.result r key there.1 (with_fewer c.args.kind c.args.number r.counts) (c.subtract_at.ensures r there.1)

pub returns : goal.returns
returns g c =
    let key : map.get c.self.inside.by_id.map c.args.port ≡ Some c.key_at-key.result = c.key_at-key.ensures in
    let there = record_at (opened c.self.invariant (bare_is c.self.view_is)) c.args.port c.key_at-key.result key in
    let r : Record g.row.M.Denot = there.0 in
    view-recounted c.self.invariant c.self.view_is c.args.port c.key_at-key.result r key there.1 (with_fewer c.args.kind c.args.number r.counts) (c.subtract_at.ensures r there.1) (with_fewer c.args.kind c.args.number) refl
