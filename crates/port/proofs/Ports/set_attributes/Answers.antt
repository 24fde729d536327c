use Rattle.std.proofs.Common.{◌≡◌, Some, is_some, ap, ◌∙◌, refl}
use Rattle.std.specs.FinMap as map
use Rattle.port_base.specs.declared.Record.{Record}
use Rattle.port_base.specs.Attributes.{counted_as}
use Rattle.port.specs.Ports.{PortView}
use Rattle.port.proofs.Messages.{kept-counted, view-counted, counted_same}
use Rattle.port.proofs.Sound.{bare_is, opened, record_at, live_at, is_port, counts_is, rights-set}
use Rattle.port.proofs.Ports.set_attributes.Goals as goal

pub key_at-key-requires : goal.key_at-key-requires
key_at-key-requires g c = ap is_some (live_at (opened c.self.invariant (bare_is c.self.view_is)) c.args.port c.requires.live).1

pub set_at-requires : goal.set_at-requires
set_at-requires g c =
    let o = opened c.self.invariant (bare_is c.self.view_is) in
    let found : map.get c.self.inside.by_id.map c.args.port ≡ Some c.key_at-key.result = c.key_at-key.ensures in
    let there = record_at o c.args.port c.key_at-key.result found in
    let r : Record g.row.M.Denot = there.0 in
    ap is_some there.1

pub invariant_of-self : goal.invariant_of-self
invariant_of-self g c =
    let o = opened c.self.invariant (bare_is c.self.view_is) in
    let found : map.get c.self.inside.by_id.map c.args.port ≡ Some c.key_at-key.result = c.key_at-key.ensures in
    let there = record_at o c.args.port c.key_at-key.result found in
    let r : Record g.row.M.Denot = there.0 in
    kept-counted o c.args.port c.key_at-key.result r found there.1 (counted_as c.args.attributes r.kept.attributes) refl refl r.counts c.set_at.new.records (c.set_at.ensures r there.1)

pub returns-clause-after : goal.returns-clause-after
returns-clause-after g c p h =
    let o = opened c.self.invariant (bare_is c.self.view_is) in
    let found : map.get c.self.inside.by_id.map c.args.port ≡ Some c.key_at-key.result = c.key_at-key.ensures in
    let there = record_at o c.args.port c.key_at-key.result found in
    let r : Record g.row.M.Denot = there.0 in
    let is = is_port o c.args.port c.key_at-key.result r found there.1 p h in
    view-counted o c.args.port c.key_at-key.result r found there.1 (counted_as c.args.attributes r.kept.attributes) refl refl r.counts c.set_at.new.records (c.set_at.ensures r there.1) p h c.args.attributes
    (counted_same c.args.attributes r.kept.attributes (c.requires.set p h ∙ ap (λ (q : PortView g.row.M.Denot). q.attributes.set) is) (c.requires.holder p h ∙ ap (λ (q : PortView g.row.M.Denot). q.attributes.holder) is))

pub returns-clause-counts : goal.returns-clause-counts
returns-clause-counts g c =
    let o = opened c.self.invariant (bare_is c.self.view_is) in
    let found : map.get c.self.inside.by_id.map c.args.port ≡ Some c.key_at-key.result = c.key_at-key.ensures in
    let there = record_at o c.args.port c.key_at-key.result found in
    let r : Record g.row.M.Denot = there.0 in
    rights-set c.self.inside.records c.key_at-key.result r _ there.1 (c.set_at.ensures r there.1) refl c.self.inside.by_id.map ∙ counts_is c.self.view_is
