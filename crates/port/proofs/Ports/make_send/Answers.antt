use Rattle.std.proofs.Common.{◌≡◌, ◌+◌, ◌<◌, ◌^◌, Some, is_some, ap, sym, subst, ◌∙◌, refl}
use Rattle.std.specs.FinMap as map
use Rattle.rights.specs.declared.Counts.{Counts}
use Rattle.rights.specs.Counts.{all_of, with_more}
use Rattle.port_base.specs.declared.Record.{Record}
use Rattle.rights.specs.declared.RightKind.TheVariants.{Send}
use Rattle.port_base.specs.Attributes.{one_made}
use Rattle.port.specs.Ports.{PortView}
use Rattle.port.proofs.Keys.{same_some}
use Rattle.port.proofs.Messages.{kept-counted, view-counted}
use Rattle.port.proofs.Recounted.{key_of_rights, rights_is, rights-put}
use Rattle.port.proofs.Sound.{bare_is, opened, record_at, live_port, is_port}
use Rattle.port.proofs.Ports.make_send.Goals as goal

pub key_there-key-requires-clause-there : goal.key_there-key-requires-clause-there
key_there-key-requires-clause-there g c = ap is_some (key_of_rights c.self.invariant c.self.view_is c.args.found.port c.requires.there).1

pub make_send_at-requires-clause-there : goal.make_send_at-requires-clause-there
make_send_at-requires-clause-there g c =
    let key : map.get c.self.inside.by_id.map c.args.found.port ≡ Some c.key_there-key.result = c.key_there-key.ensures in
    let there = record_at (opened c.self.invariant (bare_is c.self.view_is)) c.args.found.port c.key_there-key.result key in
    let r : Record g.row.M.Denot = there.0 in
    ap is_some there.1

pub make_send_at-requires-clause-fits : goal.make_send_at-requires-clause-fits
make_send_at-requires-clause-fits g c = λ q at.
    let key : map.get c.self.inside.by_id.map c.args.found.port ≡ Some c.key_there-key.result = c.key_there-key.ensures in
    let there = record_at (opened c.self.invariant (bare_is c.self.view_is)) c.args.found.port c.key_there-key.result key in
    let r : Record g.row.M.Denot = there.0 in
    let same : q ≡ r = same_some q r (sym at ∙ there.1) in
    subst (λ (k : Counts). all_of k + 1 < 2 ^ 32) (rights_is c.self.invariant c.self.view_is c.args.found.port c.key_there-key.result r key there.1 ∙ ap (λ (x : Record g.row.M.Denot). x.counts) (sym same)) c.requires.fits

pub invariant_of-self : goal.invariant_of-self
invariant_of-self g c =
    let key : map.get c.self.inside.by_id.map c.args.found.port ≡ Some c.key_there-key.result = c.key_there-key.ensures in
    let there = record_at (opened c.self.invariant (bare_is c.self.view_is)) c.args.found.port c.key_there-key.result key in
    let r : Record g.row.M.Denot = there.0 in
    kept-counted (opened c.self.invariant (bare_is c.self.view_is)) c.args.found.port c.key_there-key.result r key there.1 (one_made r.kept.attributes) refl refl (with_more Send 1 r.counts) c.make_send_at.new.records (c.make_send_at.ensures r there.1)

pub returns-clause-after : goal.returns-clause-after
returns-clause-after g c = λ p h.
    let key : map.get c.self.inside.by_id.map c.args.found.port ≡ Some c.key_there-key.result = c.key_there-key.ensures in
    let there = record_at (opened c.self.invariant (bare_is c.self.view_is)) c.args.found.port c.key_there-key.result key in
    let r : Record g.row.M.Denot = there.0 in
    let o = opened c.self.invariant (bare_is c.self.view_is) in
    view-counted o c.args.found.port c.key_there-key.result r key there.1 (one_made r.kept.attributes) refl refl (with_more Send 1 r.counts) c.make_send_at.new.records (c.make_send_at.ensures r there.1) p h (one_made p.attributes)
    (ap (λ (q : PortView g.row.M.Denot). one_made q.attributes) (sym (is_port o c.args.found.port c.key_there-key.result r key there.1 p h)))

pub returns-clause-there : goal.returns-clause-there
returns-clause-there g c =
    let key : map.get c.self.inside.by_id.map c.args.found.port ≡ Some c.key_there-key.result = c.key_there-key.ensures in
    let there = record_at (opened c.self.invariant (bare_is c.self.view_is)) c.args.found.port c.key_there-key.result key in
    let r : Record g.row.M.Denot = there.0 in
    ap is_some (live_port (opened c.self.invariant (bare_is c.self.view_is)) c.args.found.port c.key_there-key.result r key there.1)

pub returns-clause-counts : goal.returns-clause-counts
returns-clause-counts g c =
    let key : map.get c.self.inside.by_id.map c.args.found.port ≡ Some c.key_there-key.result = c.key_there-key.ensures in
    let there = record_at (opened c.self.invariant (bare_is c.self.view_is)) c.args.found.port c.key_there-key.result key in
    let r : Record g.row.M.Denot = there.0 in
    rights-put c.self.invariant c.self.view_is c.args.found.port c.key_there-key.result r key there.1 _ refl (c.make_send_at.ensures r there.1) (with_more Send 1) refl

pub key_there-key-requires-clause-indexed : goal.key_there-key-requires-clause-indexed
key_there-key-requires-clause-indexed g c = c.self.invariant.sound.indexed.held
