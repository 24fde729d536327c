use Rattle.std.proofs.Common.{◌≡◌, ◌+◌, ◌<◌, ◌^◌, Some, is_some, ap, sym, subst, ◌∙◌, refl}
use Rattle.std.specs.FinMap as map
use Rattle.rights.specs.declared.Counts.{Counts}
use Rattle.rights.specs.Counts.{all_of, with_more}
use Rattle.port_base.specs.declared.Record.{Record}
use Rattle.port.proofs.Keys.{same_some}
use Rattle.port.proofs.Recounted.{key_of_rights, rights_is, kept-recounted, view-recounted}
use Rattle.port.proofs.Sound.{bare_is, opened, record_at}
use Rattle.port.proofs.Ports.add_rights.Goals as goal

pub key_there-key-requires-clause-there : goal.key_there-key-requires-clause-there
key_there-key-requires-clause-there g c = ap is_some (key_of_rights c.self.invariant c.self.view_is c.args.found.port c.requires.there).1

pub add_at-requires-clause-there : goal.add_at-requires-clause-there
add_at-requires-clause-there g c =
    let key : map.get c.self.inside.by_id.map c.args.found.port ≡ Some c.key_there-key.result = c.key_there-key.ensures in
    let there = record_at (opened c.self.invariant (bare_is c.self.view_is)) c.args.found.port c.key_there-key.result key in
    let r : Record g.row.M.Denot = there.0 in
    ap is_some there.1

pub add_at-requires-clause-fits : goal.add_at-requires-clause-fits
add_at-requires-clause-fits g c = λ q at.
    let key : map.get c.self.inside.by_id.map c.args.found.port ≡ Some c.key_there-key.result = c.key_there-key.ensures in
    let there = record_at (opened c.self.invariant (bare_is c.self.view_is)) c.args.found.port c.key_there-key.result key in
    let r : Record g.row.M.Denot = there.0 in
    let same : q ≡ r = same_some q r (sym at ∙ there.1) in
    subst (λ (k : Counts). all_of k + c.args.number < 2 ^ 32) (rights_is c.self.invariant c.self.view_is c.args.found.port c.key_there-key.result r key there.1 ∙ ap (λ (x : Record g.row.M.Denot). x.counts) (sym same)) c.requires.fits

pub invariant_of-self : goal.invariant_of-self
invariant_of-self g c =
    let key : map.get c.self.inside.by_id.map c.args.found.port ≡ Some c.key_there-key.result = c.key_there-key.ensures in
    let there = record_at (opened c.self.invariant (bare_is c.self.view_is)) c.args.found.port c.key_there-key.result key in
    let r : Record g.row.M.Denot = there.0 in
    kept-recounted c.self.invariant c.self.view_is c.args.found.port c.key_there-key.result r key there.1 (with_more c.args.kind c.args.number r.counts) (c.add_at.ensures r there.1)

pub returns : goal.returns
returns g c =
    let key : map.get c.self.inside.by_id.map c.args.found.port ≡ Some c.key_there-key.result = c.key_there-key.ensures in
    let there = record_at (opened c.self.invariant (bare_is c.self.view_is)) c.args.found.port c.key_there-key.result key in
    let r : Record g.row.M.Denot = there.0 in
    view-recounted c.self.invariant c.self.view_is c.args.found.port c.key_there-key.result r key there.1 (with_more c.args.kind c.args.number r.counts) (c.add_at.ensures r there.1) (with_more c.args.kind c.args.number) refl

pub key_there-key-requires-clause-indexed : goal.key_there-key-requires-clause-indexed
key_there-key-requires-clause-indexed g c = c.self.invariant.sound.indexed.held
