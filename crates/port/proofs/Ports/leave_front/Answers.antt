use Rattle.std.proofs.Common.{◌≡◌, Some, None, is_some, ap, sym, subst, ◌∙◌, refl, slice_get, Contains}
use Rattle.std.specs.FinMap as map
use Rattle.slab.specs.Slab.{get}
use Rattle.member_lists.specs.Lists.{list_of, without}
use Rattle.shared_lists.specs.Shared.{IsReady}
use Rattle.port_base.specs.declared.Record.{Record}
use Rattle.port_base.specs.Memberships.{IsHome, IsParted, sets_of}
use Rattle.port_base.specs.Turns.{has_some}
use Rattle.port.specs.Ports.{with_port, with_sets, sets_in, IsIn}
use Rattle.port.proofs.Keys.{same_some}
use Rattle.port.proofs.Placed.{placed_as, kept-placed, view-placed, parted-moves, parted-sets, its_sets, its_stand, in_its}
use Rattle.port.proofs.Changed.{change, now_there}
use Rattle.port.proofs.Readied.{first_member, member_first, none_in}
use Rattle.port.proofs.Turned.{turns_are}
use Rattle.port.proofs.Sound.{bare_is, opened, counts_is, rights-set}
use Rattle.port.proofs.Ports.leave_front.Goals as goal

pub member_at-was-requires : goal.member_at-was-requires
member_at-was-requires g c =
    let o = opened c.self.invariant (bare_is c.self.view_is) in
    let e : slice_get (list_of c.self.inside.sets.all c.args.set) 0 ≡ Some c.in_ok-key.key = sym (c.in_ok-key.ensures ∙ ap (λ n. slice_get (list_of c.self.inside.sets.all n) 0) c.number.ensures) in
    let there = first_member o c.args.set c.in_ok-key.key e in
    let r : Record g.row.M.Denot = there.0 in
    let found : map.get c.self.inside.by_id.map r.id ≡ Some c.in_ok-key.key = c.self.invariant.sound.indexed.held c.in_ok-key.key r there.1 in
    let inside : IsIn c.args.self.now.bare c.args.set r.id = member_first o c.args.set c.in_ok-key.key r e there.1 in
    ap is_some there.1

pub leave_front-now-requires-clause-home : goal.leave_front-now-requires-clause-home
leave_front-now-requires-clause-home g c =
    let o = opened c.self.invariant (bare_is c.self.view_is) in
    let e : slice_get (list_of c.self.inside.sets.all c.args.set) 0 ≡ Some c.in_ok-key.key = sym (c.in_ok-key.ensures ∙ ap (λ n. slice_get (list_of c.self.inside.sets.all n) 0) c.number.ensures) in
    let there = first_member o c.args.set c.in_ok-key.key e in
    let r : Record g.row.M.Denot = there.0 in
    let found : map.get c.self.inside.by_id.map r.id ≡ Some c.in_ok-key.key = c.self.invariant.sound.indexed.held c.in_ok-key.key r there.1 in
    let inside : IsIn c.args.self.now.bare c.args.set r.id = member_first o c.args.set c.in_ok-key.key r e there.1 in
    subst (IsHome c.self.inside.sets c.in_ok-key.key) (sym (c.member_at-was.ensures r there.1)) (c.self.invariant.membered.home c.in_ok-key.key r there.1)

pub leave_front-now-requires-clause-stands : goal.leave_front-now-requires-clause-stands
leave_front-now-requires-clause-stands g c =
    let o = opened c.self.invariant (bare_is c.self.view_is) in
    let e : slice_get (list_of c.self.inside.sets.all c.args.set) 0 ≡ Some c.in_ok-key.key = sym (c.in_ok-key.ensures ∙ ap (λ n. slice_get (list_of c.self.inside.sets.all n) 0) c.number.ensures) in
    let there = first_member o c.args.set c.in_ok-key.key e in
    let r : Record g.row.M.Denot = there.0 in
    let found : map.get c.self.inside.by_id.map r.id ≡ Some c.in_ok-key.key = c.self.invariant.sound.indexed.held c.in_ok-key.key r there.1 in
    let inside : IsIn c.args.self.now.bare c.args.set r.id = member_first o c.args.set c.in_ok-key.key r e there.1 in
    λ l c2. its_stand o r.id c.in_ok-key.key r found there.1 l (subst (λ m. Contains (sets_of c.self.inside.sets c.in_ok-key.key m) l) (c.member_at-was.ensures r there.1) c2)

pub leave_front-now-requires-clause-ready : goal.leave_front-now-requires-clause-ready
leave_front-now-requires-clause-ready g c =
    let o = opened c.self.invariant (bare_is c.self.view_is) in
    let e : slice_get (list_of c.self.inside.sets.all c.args.set) 0 ≡ Some c.in_ok-key.key = sym (c.in_ok-key.ensures ∙ ap (λ n. slice_get (list_of c.self.inside.sets.all n) 0) c.number.ensures) in
    let there = first_member o c.args.set c.in_ok-key.key e in
    let r : Record g.row.M.Denot = there.0 in
    let found : map.get c.self.inside.by_id.map r.id ≡ Some c.in_ok-key.key = c.self.invariant.sound.indexed.held c.in_ok-key.key r there.1 in
    let inside : IsIn c.args.self.now.bare c.args.set r.id = member_first o c.args.set c.in_ok-key.key r e there.1 in
    subst (IsReady c.self.inside.sets c.in_ok-key.key) (sym (c.has_messages-is_ready.ensures r there.1)) (c.self.invariant.membered.ready c.in_ok-key.key r there.1)

pub leave_front-now-requires-clause-there : goal.leave_front-now-requires-clause-there
leave_front-now-requires-clause-there g c =
    let o = opened c.self.invariant (bare_is c.self.view_is) in
    let e : slice_get (list_of c.self.inside.sets.all c.args.set) 0 ≡ Some c.in_ok-key.key = sym (c.in_ok-key.ensures ∙ ap (λ n. slice_get (list_of c.self.inside.sets.all n) 0) c.number.ensures) in
    let there = first_member o c.args.set c.in_ok-key.key e in
    let r : Record g.row.M.Denot = there.0 in
    let found : map.get c.self.inside.by_id.map r.id ≡ Some c.in_ok-key.key = c.self.invariant.sound.indexed.held c.in_ok-key.key r there.1 in
    let inside : IsIn c.args.self.now.bare c.args.set r.id = member_first o c.args.set c.in_ok-key.key r e there.1 in
    subst (λ n. Contains (sets_of c.self.inside.sets c.in_ok-key.key c.member_at-was.result) n) (sym c.number-2.ensures) (subst (λ m. Contains (sets_of c.self.inside.sets c.in_ok-key.key m) c.args.set) (sym (c.member_at-was.ensures r there.1)) (subst (λ ys. Contains ys c.args.set) (sym (its_sets o r.id c.in_ok-key.key r found there.1)) (in_its o r.id c.in_ok-key.key r found there.1 c.args.set inside)))

pub leave_front-now-requires-clause-front : goal.leave_front-now-requires-clause-front
leave_front-now-requires-clause-front g c =
    let o = opened c.self.invariant (bare_is c.self.view_is) in
    let e : slice_get (list_of c.self.inside.sets.all c.args.set) 0 ≡ Some c.in_ok-key.key = sym (c.in_ok-key.ensures ∙ ap (λ n. slice_get (list_of c.self.inside.sets.all n) 0) c.number.ensures) in
    let there = first_member o c.args.set c.in_ok-key.key e in
    let r : Record g.row.M.Denot = there.0 in
    let found : map.get c.self.inside.by_id.map r.id ≡ Some c.in_ok-key.key = c.self.invariant.sound.indexed.held c.in_ok-key.key r there.1 in
    let inside : IsIn c.args.self.now.bare c.args.set r.id = member_first o c.args.set c.in_ok-key.key r e there.1 in
    ap (λ n. slice_get (list_of c.self.inside.sets.all n) 0) c.number-2.ensures ∙ e

pub index-requires : goal.index-requires
index-requires g c =
    let o = opened c.self.invariant (bare_is c.self.view_is) in
    let e : slice_get (list_of c.self.inside.sets.all c.args.set) 0 ≡ Some c.in_ok-key.key = sym (c.in_ok-key.ensures ∙ ap (λ n. slice_get (list_of c.self.inside.sets.all n) 0) c.number.ensures) in
    let there = first_member o c.args.set c.in_ok-key.key e in
    let r : Record g.row.M.Denot = there.0 in
    let found : map.get c.self.inside.by_id.map r.id ≡ Some c.in_ok-key.key = c.self.invariant.sound.indexed.held c.in_ok-key.key r there.1 in
    let inside : IsIn c.args.self.now.bare c.args.set r.id = member_first o c.args.set c.in_ok-key.key r e there.1 in
    let now : get c.place_at.new.records c.in_ok-key.key ≡ Some (placed_as r c.leave_front-now.result) = now_there (change o r.id c.in_ok-key.key r (placed_as r c.leave_front-now.result) found there.1 refl (c.place_at.ensures r there.1)) in
    ap is_some now

pub invariant_of-self : goal.invariant_of-self
invariant_of-self g c =
    let o = opened c.self.invariant (bare_is c.self.view_is) in
    let e : slice_get (list_of c.self.inside.sets.all c.args.set) 0 ≡ Some c.in_ok-key.key = sym (c.in_ok-key.ensures ∙ ap (λ n. slice_get (list_of c.self.inside.sets.all n) 0) c.number.ensures) in
    let there = first_member o c.args.set c.in_ok-key.key e in
    let r : Record g.row.M.Denot = there.0 in
    let found : map.get c.self.inside.by_id.map r.id ≡ Some c.in_ok-key.key = c.self.invariant.sound.indexed.held c.in_ok-key.key r there.1 in
    let inside : IsIn c.args.self.now.bare c.args.set r.id = member_first o c.args.set c.in_ok-key.key r e there.1 in
    let was_is : c.member_at-was.result ≡ r.kept.membership = c.member_at-was.ensures r there.1 in
    let ready_is : c.has_messages-is_ready.result ≡ has_some r.queue = c.has_messages-is_ready.ensures r there.1 in
    let parted : IsParted c.self.inside.sets c.in_ok-key.key r.kept.membership c.args.set (has_some r.queue) c.leave_front-now.result c.leave_front-now.new.sets =
    subst (λ b. IsParted c.self.inside.sets c.in_ok-key.key r.kept.membership c.args.set b c.leave_front-now.result c.leave_front-now.new.sets) ready_is (subst (λ m. IsParted c.self.inside.sets c.in_ok-key.key m c.args.set c.has_messages-is_ready.result c.leave_front-now.result c.leave_front-now.new.sets) was_is
    (subst (λ n. IsParted c.self.inside.sets c.in_ok-key.key c.member_at-was.result n c.has_messages-is_ready.result c.leave_front-now.result c.leave_front-now.new.sets) c.number-2.ensures c.leave_front-now.ensures)) in
    kept-placed o r.id c.in_ok-key.key r found there.1 c.leave_front-now.new.sets c.leave_front-now.result c.place_at.new.records (c.place_at.ensures r there.1) (parted-moves o r.id c.in_ok-key.key r found there.1 c.leave_front-now.new.sets c.args.set c.leave_front-now.result (in_its o r.id c.in_ok-key.key r found there.1 c.args.set inside) parted)

pub returns-clause-some : goal.returns-clause-some
returns-clause-some g c =
    let o = opened c.self.invariant (bare_is c.self.view_is) in
    let e : slice_get (list_of c.self.inside.sets.all c.args.set) 0 ≡ Some c.in_ok-key.key = sym (c.in_ok-key.ensures ∙ ap (λ n. slice_get (list_of c.self.inside.sets.all n) 0) c.number.ensures) in
    let there = first_member o c.args.set c.in_ok-key.key e in
    let r : Record g.row.M.Denot = there.0 in
    let found : map.get c.self.inside.by_id.map r.id ≡ Some c.in_ok-key.key = c.self.invariant.sound.indexed.held c.in_ok-key.key r there.1 in
    let inside : IsIn c.args.self.now.bare c.args.set r.id = member_first o c.args.set c.in_ok-key.key r e there.1 in
    let now : get c.place_at.new.records c.in_ok-key.key ≡ Some (placed_as r c.leave_front-now.result) = now_there (change o r.id c.in_ok-key.key r (placed_as r c.leave_front-now.result) found there.1 refl (c.place_at.ensures r there.1)) in
    let id : c.index.result.now.id ≡ r.id = ap (λ (b : Record g.row.M.Denot). b.id) (same_some c.index.result.now (placed_as r c.leave_front-now.result) (sym c.index.ensures ∙ now)) in
    subst (IsIn c.args.self.now.bare c.args.set) (sym id) inside

pub returns-clause-left : goal.returns-clause-left
returns-clause-left g c p h =
    let o = opened c.self.invariant (bare_is c.self.view_is) in
    let e : slice_get (list_of c.self.inside.sets.all c.args.set) 0 ≡ Some c.in_ok-key.key = sym (c.in_ok-key.ensures ∙ ap (λ n. slice_get (list_of c.self.inside.sets.all n) 0) c.number.ensures) in
    let there = first_member o c.args.set c.in_ok-key.key e in
    let r : Record g.row.M.Denot = there.0 in
    let found : map.get c.self.inside.by_id.map r.id ≡ Some c.in_ok-key.key = c.self.invariant.sound.indexed.held c.in_ok-key.key r there.1 in
    let inside : IsIn c.args.self.now.bare c.args.set r.id = member_first o c.args.set c.in_ok-key.key r e there.1 in
    let was_is : c.member_at-was.result ≡ r.kept.membership = c.member_at-was.ensures r there.1 in
    let ready_is : c.has_messages-is_ready.result ≡ has_some r.queue = c.has_messages-is_ready.ensures r there.1 in
    let parted : IsParted c.self.inside.sets c.in_ok-key.key r.kept.membership c.args.set (has_some r.queue) c.leave_front-now.result c.leave_front-now.new.sets =
    subst (λ b. IsParted c.self.inside.sets c.in_ok-key.key r.kept.membership c.args.set b c.leave_front-now.result c.leave_front-now.new.sets) ready_is (subst (λ m. IsParted c.self.inside.sets c.in_ok-key.key m c.args.set c.has_messages-is_ready.result c.leave_front-now.result c.leave_front-now.new.sets) was_is
    (subst (λ n. IsParted c.self.inside.sets c.in_ok-key.key c.member_at-was.result n c.has_messages-is_ready.result c.leave_front-now.result c.leave_front-now.new.sets) c.number-2.ensures c.leave_front-now.ensures)) in
    let now : get c.place_at.new.records c.in_ok-key.key ≡ Some (placed_as r c.leave_front-now.result) = now_there (change o r.id c.in_ok-key.key r (placed_as r c.leave_front-now.result) found there.1 refl (c.place_at.ensures r there.1)) in
    let id : c.index.result.now.id ≡ r.id = ap (λ (b : Record g.row.M.Denot). b.id) (same_some c.index.result.now (placed_as r c.leave_front-now.result) (sym c.index.ensures ∙ now)) in
    let is : map.get c.args.self.now.bare.ports r.id ≡ Some p = ap (map.get c.args.self.now.bare.ports) (sym id) ∙ h in
    view-placed o r.id c.in_ok-key.key r found there.1 c.leave_front-now.new.sets c.leave_front-now.result c.place_at.new.records (c.place_at.ensures r there.1) (parted-moves o r.id c.in_ok-key.key r found there.1 c.leave_front-now.new.sets c.args.set c.leave_front-now.result (in_its o r.id c.in_ok-key.key r found there.1 c.args.set inside) parted) p is (without c.args.set (sets_in p)) (parted-sets o r.id c.in_ok-key.key r found there.1 c.leave_front-now.new.sets c.args.set c.leave_front-now.result parted p is)
    ∙ ap (λ n. with_port c.args.self.now.bare n (with_sets p (without c.args.set (sets_in p)))) (sym id)

pub returns-in_err-key-clause-none : goal.returns-in_err-key-clause-none
returns-in_err-key-clause-none g c =
    let o = opened c.self.invariant (bare_is c.self.view_is) in
    let e : slice_get (list_of c.self.inside.sets.all c.args.set) 0 ≡ None = sym (c.in_err-key.ensures ∙ ap (λ n. slice_get (list_of c.self.inside.sets.all n) 0) c.number.ensures) in
    rw c.from_residual.ensures (none_in o c.args.set e (turns_are o c.args.set), refl)

pub has_messages-is_ready-requires : goal.has_messages-is_ready-requires
has_messages-is_ready-requires g c =
    let o = opened c.self.invariant (bare_is c.self.view_is) in
    let e : slice_get (list_of c.self.inside.sets.all c.args.set) 0 ≡ Some c.in_ok-key.key = sym (c.in_ok-key.ensures ∙ ap (λ n. slice_get (list_of c.self.inside.sets.all n) 0) c.number.ensures) in
    let there = first_member o c.args.set c.in_ok-key.key e in
    let r : Record g.row.M.Denot = there.0 in
    let found : map.get c.self.inside.by_id.map r.id ≡ Some c.in_ok-key.key = c.self.invariant.sound.indexed.held c.in_ok-key.key r there.1 in
    let inside : IsIn c.args.self.now.bare c.args.set r.id = member_first o c.args.set c.in_ok-key.key r e there.1 in
    ap is_some there.1

pub place_at-requires : goal.place_at-requires
place_at-requires g c =
    let o = opened c.self.invariant (bare_is c.self.view_is) in
    let e : slice_get (list_of c.self.inside.sets.all c.args.set) 0 ≡ Some c.in_ok-key.key = sym (c.in_ok-key.ensures ∙ ap (λ n. slice_get (list_of c.self.inside.sets.all n) 0) c.number.ensures) in
    let there = first_member o c.args.set c.in_ok-key.key e in
    let r : Record g.row.M.Denot = there.0 in
    let found : map.get c.self.inside.by_id.map r.id ≡ Some c.in_ok-key.key = c.self.invariant.sound.indexed.held c.in_ok-key.key r there.1 in
    let inside : IsIn c.args.self.now.bare c.args.set r.id = member_first o c.args.set c.in_ok-key.key r e there.1 in
    ap is_some there.1

pub returns-clause-counts : goal.returns-clause-counts
returns-clause-counts g c =
    let o = opened c.self.invariant (bare_is c.self.view_is) in
    let e : slice_get (list_of c.self.inside.sets.all c.args.set) 0 ≡ Some c.in_ok-key.key = sym (c.in_ok-key.ensures ∙ ap (λ n. slice_get (list_of c.self.inside.sets.all n) 0) c.number.ensures) in
    let there = first_member o c.args.set c.in_ok-key.key e in
    let r : Record g.row.M.Denot = there.0 in
    rights-set c.self.inside.records c.in_ok-key.key r _ there.1 (c.place_at.ensures r there.1) refl c.self.inside.by_id.map ∙ counts_is c.self.view_is
