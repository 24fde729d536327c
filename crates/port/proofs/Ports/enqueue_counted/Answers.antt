use Rattle.std.proofs.Common.{if◌then◌else◌, ◌<◌, ◌^◌, refl, ◌≡◌, ◌≢◌, false, Some, is_some, ap, sym, subst, ◌∙◌}
use Rattle.std.specs.FinMap as map
use Rattle.port_base.specs.declared.Record.{Record}
use Rattle.shared_lists.specs.Shared.{IsReady}
use Rattle.port_base.specs.declared.Membership.{Membership}
use Rattle.port_base.specs.declared.Membership.TheVariants.{Nowhere}
use Rattle.port_base.specs.Memberships.{IsHome, readied}
use Rattle.port.proofs.Messages.{kept-queued, view-queued, readied_home, readied_unready}
use Rattle.rights.specs.declared.Counts.{Counts}
use Rattle.rights.specs.Counts.{all_of, one_shifted}
use Rattle.port.proofs.Keys.{same_some}
use Rattle.port.proofs.Recounted.{rights_is, rights-shifted}
use Rattle.port.proofs.Sound.{bare_is, opened, record_at, live_at}
use Rattle.port.proofs.Ports.enqueue_counted.Goals as goal

pub key_there-key-requires-clause-there : goal.key_there-key-requires-clause-there
key_there-key-requires-clause-there g c = ap is_some (live_at (opened c.self.invariant (bare_is c.self.view_is)) c.args.found.port c.requires.live).1

pub push_counted_at-sets-requires-clause-there : goal.push_counted_at-sets-requires-clause-there
push_counted_at-sets-requires-clause-there g c =
    let o = opened c.self.invariant (bare_is c.self.view_is) in
    let found : map.get c.self.inside.by_id.map c.args.found.port ≡ Some c.key_there-key.result = c.key_there-key.ensures in
    let there = record_at o c.args.found.port c.key_there-key.result found in
    let r : Record g.row.M.Denot = there.0 in
    ap is_some there.1

pub invariant_of-self : goal.invariant_of-self
invariant_of-self g c =
    let o = opened c.self.invariant (bare_is c.self.view_is) in
    let found : map.get c.self.inside.by_id.map c.args.found.port ≡ Some c.key_there-key.result = c.key_there-key.ensures in
    let there = record_at o c.args.found.port c.key_there-key.result found in
    let r : Record g.row.M.Denot = there.0 in
    kept-queued o c.args.found.port c.key_there-key.result r found there.1 c.args.message (if c.args.once then one_shifted r.counts else r.counts) c.ready.new.sets (c.ready.ensures ∙ ap (readied c.self.inside.sets c.key_there-key.result) (c.push_counted_at-sets.ensures.readied r there.1)) c.push_counted_at-sets.new.records (c.push_counted_at-sets.ensures.after r there.1) c.push_counted_at-sets.new.spare c.push_counted_at-sets.ensures.spare

pub returns-clause-after : goal.returns-clause-after
returns-clause-after g c p h =
    let o = opened c.self.invariant (bare_is c.self.view_is) in
    let found : map.get c.self.inside.by_id.map c.args.found.port ≡ Some c.key_there-key.result = c.key_there-key.ensures in
    let there = record_at o c.args.found.port c.key_there-key.result found in
    let r : Record g.row.M.Denot = there.0 in
    view-queued o c.args.found.port c.key_there-key.result r found there.1 c.args.message (if c.args.once then one_shifted r.counts else r.counts) c.ready.new.sets (c.ready.ensures ∙ ap (readied c.self.inside.sets c.key_there-key.result) (c.push_counted_at-sets.ensures.readied r there.1)) c.push_counted_at-sets.new.records (c.push_counted_at-sets.ensures.after r there.1) c.push_counted_at-sets.new.spare c.push_counted_at-sets.ensures.spare p h

pub ready-requires-clause-home : goal.ready-requires-clause-home
ready-requires-clause-home g c =
    let o = opened c.self.invariant (bare_is c.self.view_is) in
    let found : map.get c.self.inside.by_id.map c.args.found.port ≡ Some c.key_there-key.result = c.key_there-key.ensures in
    let there = record_at o c.args.found.port c.key_there-key.result found in
    let r : Record g.row.M.Denot = there.0 in
    subst (λ (m : Membership). m ≢ Nowhere → IsHome c.self.inside.sets c.key_there-key.result m) (sym (c.push_counted_at-sets.ensures.readied r there.1)) (readied_home c.self.inside.sets c.key_there-key.result r.kept.membership r.queue (c.self.invariant.membered.home c.key_there-key.result r there.1))

pub ready-requires-clause-unready : goal.ready-requires-clause-unready
ready-requires-clause-unready g c =
    let o = opened c.self.invariant (bare_is c.self.view_is) in
    let found : map.get c.self.inside.by_id.map c.args.found.port ≡ Some c.key_there-key.result = c.key_there-key.ensures in
    let there = record_at o c.args.found.port c.key_there-key.result found in
    let r : Record g.row.M.Denot = there.0 in
    subst (λ (m : Membership). m ≢ Nowhere → IsReady c.self.inside.sets c.key_there-key.result false) (sym (c.push_counted_at-sets.ensures.readied r there.1)) (readied_unready c.self.inside.sets c.key_there-key.result r.kept.membership r.queue (c.self.invariant.membered.ready c.key_there-key.result r there.1))

pub returns-clause-counts : goal.returns-clause-counts
returns-clause-counts g c =
    let o = opened c.self.invariant (bare_is c.self.view_is) in
    let found : map.get c.self.inside.by_id.map c.args.found.port ≡ Some c.key_there-key.result = c.key_there-key.ensures in
    let there = record_at o c.args.found.port c.key_there-key.result found in
    let r : Record g.row.M.Denot = there.0 in
    rights-shifted c.self.invariant c.self.view_is c.args.found.port c.key_there-key.result r found there.1 _ refl (c.push_counted_at-sets.ensures.after r there.1) c.args.once refl

pub push_counted_at-sets-requires-clause-once : goal.push_counted_at-sets-requires-clause-once
push_counted_at-sets-requires-clause-once g c = λ q at once.
    let o = opened c.self.invariant (bare_is c.self.view_is) in
    let found : map.get c.self.inside.by_id.map c.args.found.port ≡ Some c.key_there-key.result = c.key_there-key.ensures in
    let there = record_at o c.args.found.port c.key_there-key.result found in
    let r : Record g.row.M.Denot = there.0 in
    let same : q ≡ r = same_some q r (sym at ∙ there.1) in
    subst (λ (k : Counts). 0 < k.send_once) (rights_is c.self.invariant c.self.view_is c.args.found.port c.key_there-key.result r found there.1 ∙ ap (λ (x : Record g.row.M.Denot). x.counts) (sym same)) (c.requires.some once)

pub push_counted_at-sets-requires-clause-few : goal.push_counted_at-sets-requires-clause-few
push_counted_at-sets-requires-clause-few g c = λ q at.
    let o = opened c.self.invariant (bare_is c.self.view_is) in
    let found : map.get c.self.inside.by_id.map c.args.found.port ≡ Some c.key_there-key.result = c.key_there-key.ensures in
    let there = record_at o c.args.found.port c.key_there-key.result found in
    let r : Record g.row.M.Denot = there.0 in
    let same : q ≡ r = same_some q r (sym at ∙ there.1) in
    subst (λ (k : Counts). all_of k < 2 ^ 32) (rights_is c.self.invariant c.self.view_is c.args.found.port c.key_there-key.result r found there.1 ∙ ap (λ (x : Record g.row.M.Denot). x.counts) (sym same)) c.requires.fits

pub key_there-key-requires-clause-indexed : goal.key_there-key-requires-clause-indexed
key_there-key-requires-clause-indexed g c = c.self.invariant.sound.indexed.held
