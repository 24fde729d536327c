use Rattle.std.proofs.Common.{refl, ◌≡◌, Some, is_some, ap, sym, subst, ◌∙◌, Contains}
use Rattle.std.specs.FinMap as map
use Rattle.member_lists.specs.Lists.{without}
use Rattle.shared_lists.specs.Shared.{IsReady}
use Rattle.port_base.specs.declared.Record.{Record}
use Rattle.port_base.specs.Memberships.{IsParted, sets_of}
use Rattle.port_base.specs.Turns.{has_some}
use Rattle.port.specs.Ports.{sets_in}
use Rattle.port.proofs.Placed.{kept-placed, view-placed, parted-moves, parted-sets, its_sets, its_stand, in_its}
use Rattle.port.proofs.Sound.{bare_is, opened, record_at, live_at, counts_is, rights-set}
use Rattle.port.proofs.Ports.leave.Goals as goal

pub key_at-key-requires : goal.key_at-key-requires
key_at-key-requires g c = ap is_some (live_at (opened c.self.invariant (bare_is c.self.view_is)) c.args.port (ap is_some c.requires.there)).1

pub leave_one-now-requires-clause-stands : goal.leave_one-now-requires-clause-stands
leave_one-now-requires-clause-stands g c =
    let o = opened c.self.invariant (bare_is c.self.view_is) in
    let found : map.get c.self.inside.by_id.map c.args.port ≡ Some c.key_at-key.result = c.key_at-key.ensures in
    let there = record_at o c.args.port c.key_at-key.result found in
    let r : Record g.row.M.Denot = there.0 in
    λ l inside. its_stand o c.args.port c.key_at-key.result r found there.1 l (subst (λ m. Contains (sets_of c.self.inside.sets c.key_at-key.result m) l) (c.member_at-was.ensures r there.1) inside)

pub leave_one-now-requires-clause-ready : goal.leave_one-now-requires-clause-ready
leave_one-now-requires-clause-ready g c =
    let o = opened c.self.invariant (bare_is c.self.view_is) in
    let found : map.get c.self.inside.by_id.map c.args.port ≡ Some c.key_at-key.result = c.key_at-key.ensures in
    let there = record_at o c.args.port c.key_at-key.result found in
    let r : Record g.row.M.Denot = there.0 in
    subst (IsReady c.self.inside.sets c.key_at-key.result) (sym (c.has_messages-is_ready.ensures r there.1)) (c.self.invariant.membered.ready c.key_at-key.result r there.1)

pub leave_one-now-requires-clause-there : goal.leave_one-now-requires-clause-there
leave_one-now-requires-clause-there g c =
    let o = opened c.self.invariant (bare_is c.self.view_is) in
    let found : map.get c.self.inside.by_id.map c.args.port ≡ Some c.key_at-key.result = c.key_at-key.ensures in
    let there = record_at o c.args.port c.key_at-key.result found in
    let r : Record g.row.M.Denot = there.0 in
    subst (λ n. Contains (sets_of c.self.inside.sets c.key_at-key.result c.member_at-was.result) n) (sym c.number.ensures) (subst (λ m. Contains (sets_of c.self.inside.sets c.key_at-key.result m) c.args.set) (sym (c.member_at-was.ensures r there.1)) (subst (λ ys. Contains ys c.args.set) (sym (its_sets o c.args.port c.key_at-key.result r found there.1)) (in_its o c.args.port c.key_at-key.result r found there.1 c.args.set c.requires)))

pub invariant_of-self : goal.invariant_of-self
invariant_of-self g c =
    let o = opened c.self.invariant (bare_is c.self.view_is) in
    let found : map.get c.self.inside.by_id.map c.args.port ≡ Some c.key_at-key.result = c.key_at-key.ensures in
    let there = record_at o c.args.port c.key_at-key.result found in
    let r : Record g.row.M.Denot = there.0 in
    let was_is : c.member_at-was.result ≡ r.kept.membership = c.member_at-was.ensures r there.1 in
    let ready_is : c.has_messages-is_ready.result ≡ has_some r.queue = c.has_messages-is_ready.ensures r there.1 in
    let parted : IsParted c.self.inside.sets c.key_at-key.result r.kept.membership c.args.set (has_some r.queue) c.leave_one-now.result c.leave_one-now.new.sets =
    subst (λ b. IsParted c.self.inside.sets c.key_at-key.result r.kept.membership c.args.set b c.leave_one-now.result c.leave_one-now.new.sets) ready_is (subst (λ m. IsParted c.self.inside.sets c.key_at-key.result m c.args.set c.has_messages-is_ready.result c.leave_one-now.result c.leave_one-now.new.sets) was_is
    (subst (λ n. IsParted c.self.inside.sets c.key_at-key.result c.member_at-was.result n c.has_messages-is_ready.result c.leave_one-now.result c.leave_one-now.new.sets) c.number.ensures c.leave_one-now.ensures)) in
    kept-placed o c.args.port c.key_at-key.result r found there.1 c.leave_one-now.new.sets c.leave_one-now.result c.place_at.new.records (c.place_at.ensures r there.1) (parted-moves o c.args.port c.key_at-key.result r found there.1 c.leave_one-now.new.sets c.args.set c.leave_one-now.result (in_its o c.args.port c.key_at-key.result r found there.1 c.args.set c.requires) parted)

pub returns-clause-after : goal.returns-clause-after
returns-clause-after g c p h =
    let o = opened c.self.invariant (bare_is c.self.view_is) in
    let found : map.get c.self.inside.by_id.map c.args.port ≡ Some c.key_at-key.result = c.key_at-key.ensures in
    let there = record_at o c.args.port c.key_at-key.result found in
    let r : Record g.row.M.Denot = there.0 in
    let was_is : c.member_at-was.result ≡ r.kept.membership = c.member_at-was.ensures r there.1 in
    let ready_is : c.has_messages-is_ready.result ≡ has_some r.queue = c.has_messages-is_ready.ensures r there.1 in
    let parted : IsParted c.self.inside.sets c.key_at-key.result r.kept.membership c.args.set (has_some r.queue) c.leave_one-now.result c.leave_one-now.new.sets =
    subst (λ b. IsParted c.self.inside.sets c.key_at-key.result r.kept.membership c.args.set b c.leave_one-now.result c.leave_one-now.new.sets) ready_is (subst (λ m. IsParted c.self.inside.sets c.key_at-key.result m c.args.set c.has_messages-is_ready.result c.leave_one-now.result c.leave_one-now.new.sets) was_is
    (subst (λ n. IsParted c.self.inside.sets c.key_at-key.result c.member_at-was.result n c.has_messages-is_ready.result c.leave_one-now.result c.leave_one-now.new.sets) c.number.ensures c.leave_one-now.ensures)) in
    view-placed o c.args.port c.key_at-key.result r found there.1 c.leave_one-now.new.sets c.leave_one-now.result c.place_at.new.records (c.place_at.ensures r there.1) (parted-moves o c.args.port c.key_at-key.result r found there.1 c.leave_one-now.new.sets c.args.set c.leave_one-now.result (in_its o c.args.port c.key_at-key.result r found there.1 c.args.set c.requires) parted) p h (without c.args.set (sets_in p)) (parted-sets o c.args.port c.key_at-key.result r found there.1 c.leave_one-now.new.sets c.args.set c.leave_one-now.result parted p h)

pub returns-clause-counts : goal.returns-clause-counts
returns-clause-counts g c =
    let o = opened c.self.invariant (bare_is c.self.view_is) in
    let found : map.get c.self.inside.by_id.map c.args.port ≡ Some c.key_at-key.result = c.key_at-key.ensures in
    let there = record_at o c.args.port c.key_at-key.result found in
    let r : Record g.row.M.Denot = there.0 in
    rights-set c.self.inside.records c.key_at-key.result r _ there.1 (c.place_at.ensures r there.1) refl c.self.inside.by_id.map ∙ counts_is c.self.view_is
