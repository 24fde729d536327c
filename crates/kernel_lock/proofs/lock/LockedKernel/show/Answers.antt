use Rattle.std.proofs.Common.{◌≡◌, ℕ, [], List, length, sym, ap, ◌∙◌, subst}
use Rattle.atomic_table.specs.Table.{Me}
use Rattle.kernel_lock.specs.declared.board.View.{View}
use Rattle.kernel_lock.specs.declared.entry.Entry.{Entry}
use Rattle.kernel_lock.specs.History.{CountsFit, StartsWith, calls_by}
use Rattle.kernel_lock.specs.Replays.{Replays, kept_of}
use Rattle.kernel_lock.specs.Views.{desk_view, pass_view}
use Rattle.kernel_lock.proofs.Moves.{own_view}
use Rattle.kernel_lock.proofs.lock.LockedKernel.show.Goals as goal

pub show-requires-clause-pass : goal.show-requires-clause-pass
show-requires-clause-pass c = (ap (λ x. x.table) c.pass.view_is ∙ c.requires.1, own_view _ _ _ _ _ c.pass.invariant.0)

pub invariant_of-self : goal.invariant_of-self
invariant_of-self c =
    let k = c.self.inside in
    subst (λ (m : Me Entry View). Replays m.0.profile m.0.seen k.kernel × CountsFit k.counts.items m.0.seen × (m ≡ (desk_view m.0.profile m.0.seen (length k.counts.items), [])) × (k.events ≡ length m.0.seen) × (k.entries.list.items ≡ kept_of k.entries.keeps m.0.seen))
    (sym c.show.ensures.desk.1) c.self.invariant

pub invariant_of-pass : goal.invariant_of-pass
invariant_of-pass c =
    let p = c.pass.inside in
    let told = c.show.ensures in
    let was = c.pass.invariant.0 in
    let now : c.show.new.pass.me.0.seen ≡ c.self.inside.seat.me.0.seen = ap (λ m. m.0.seen) told.pass.1 in
    let of : c.show.new.pass.me.0.profile ≡ p.seat.me.0.profile = ap (λ m. m.0.profile) told.pass.1 in
    let who : p.seat.me.0.caller ≡ p.caller = ap (λ m. m.0.caller) was in
    let kept : p.seat.me.0.mine ≡ calls_by p.caller c.show.new.pass.me.0.seen = sym told.mine ∙ (λ i. calls_by (who i) (sym now i)) in
    (told.pass.1 ∙ (λ i. (pass_view (sym of i) (who i) (kept i) (sym now i), [])), c.pass.invariant.1 ∙ ap length (sym (ap (λ m. m.0.mine) was) ∙ kept))

pub returns-clause-same : goal.returns-clause-same
returns-clause-same c =
    let k = c.self.inside in
    let told = c.show.ensures in
    let table : c.show.new.desk.table_id ≡ k.seat.table_id = told.desk.0 ∙ sym (ap (λ x. x.table) c.self.view_is ∙ c.requires.0) in
    let log : c.show.new.desk.me.0.seen ≡ k.seat.me.0.seen = ap (λ m. m.0.seen) told.desk.1 in
    let of : c.show.new.desk.me.0.profile ≡ k.seat.me.0.profile = ap (λ m. m.0.profile) told.desk.1 in
    (λ i. record { table = table i; profile = of i; log = log i; keeps = k.entries.keeps; passes = length k.counts.items; kernel = k.kernel }) ∙ c.self.view_is

pub returns-clause-whole : goal.returns-clause-whole
returns-clause-whole c = ap (λ m. m.0.seen) c.show.ensures.pass.1 ∙ ap (λ x. x.log) c.self.view_is

pub returns-clause-begins : goal.returns-clause-begins
returns-clause-begins c = subst (λ (x : List Entry × List Entry). StartsWith x.0 x.1) (λ i. (ap (λ x. x.log) c.self.view_is i, ap (λ x. x.seen) c.pass.view_is i)) c.show.ensures.seen

pub returns-clause-own : goal.returns-clause-own
returns-clause-own c =
    let k = c.self.inside in
    let p = c.pass.inside in
    let was = c.pass.invariant.0 in
    let who : p.seat.me.0.caller ≡ p.caller = ap (λ m. m.0.caller) was in
    let own : calls_by p.caller k.seat.me.0.seen ≡ calls_by p.caller p.seat.me.0.seen =
    (λ i. calls_by (sym who i) k.seat.me.0.seen) ∙ c.show.ensures.mine ∙ ap (λ m. m.0.mine) was in
    subst (λ (x : List Entry × ℕ × List Entry). calls_by x.1 x.0 ≡ calls_by x.1 x.2) (λ i. (ap (λ x. x.log) c.self.view_is i, ap (λ x. x.caller) c.pass.view_is i, ap (λ x. x.seen) c.pass.view_is i)) own
