use Rattle.std.proofs.Common.{◌≡◌, ℕ, List, [], ◌∷◌, ◌++◌, Some, is_some, ap, sym, subst, ◌∙◌, refl, slice_get}
use Rattle.std.specs.Option.{option_map}
use Rattle.std.specs.FinMap as map
use Rattle.port_base.specs.declared.Record.{Record}
use Rattle.member_lists.specs.Lists.{list_of, without}
use Rattle.shared_lists.specs.Shared.{more_of}
use Rattle.slab.specs.Slab.{get}
use Rattle.port_base.specs.declared.Holder.TheVariants as Holder
use Rattle.port_base.specs.Attributes.{held_by}
use Rattle.port_base.specs.Ready.{StandsIn, out_of, at_end}
use Rattle.port_base.specs.Records.{id_in, lost_list, doomed_list, waiting_list}
use Rattle.port.specs.Holding.{held}
use Rattle.port.specs.Ports.{PortView, with_port}
use Rattle.port.proofs.Changed.{change, still, now_there, kept-held, view-held}
use Rattle.port.proofs.Held.{first_record, first_home, doomed-apart}
use Rattle.port.proofs.Keys.{same_some}
use Rattle.port.proofs.Records.{port_of}
use Rattle.port.proofs.Sound.{bare_is, opened, is_port, relisted, counts_is, rights-set}
use Rattle.port.proofs.Waiting.{first_told, lost_now, not_doomed, some_queued, waits_lost}
use Rattle.port.proofs.Ports.doom_first.Goals as goal

pub hold_at-requires : goal.hold_at-requires
hold_at-requires g c =
    let o = opened c.self.invariant (bare_is c.self.view_is) in
    let e : slice_get (list_of c.self.inside.waiting lost_list) 0 ≡ Some c.unwrap-key.result = sym c.first.ensures ∙ c.unwrap-key.ensures in
    let there = first_record c.self.inside.records c.self.inside.waiting c.self.invariant.awaited c.unwrap-key.result e in
    let r : Record g.row.M.Denot = there.0 in
    ap is_some there.1

pub rejoin_first-requires-clause-room : goal.rejoin_first-requires-clause-room
rejoin_first-requires-clause-room g c =
    let o = opened c.self.invariant (bare_is c.self.view_is) in
    let e : slice_get (list_of c.self.inside.waiting lost_list) 0 ≡ Some c.unwrap-key.result = sym c.first.ensures ∙ c.unwrap-key.ensures in
    let there = first_record c.self.inside.records c.self.inside.waiting c.self.invariant.awaited c.unwrap-key.result e in
    let r : Record g.row.M.Denot = there.0 in
    c.self.invariant.awaited.room c.unwrap-key.result r there.1

pub rejoin_first-requires-clause-was : goal.rejoin_first-requires-clause-was
rejoin_first-requires-clause-was g c =
    let o = opened c.self.invariant (bare_is c.self.view_is) in
    let e : slice_get (list_of c.self.inside.waiting lost_list) 0 ≡ Some c.unwrap-key.result = sym c.first.ensures ∙ c.unwrap-key.ensures in
    let there = first_record c.self.inside.records c.self.inside.waiting c.self.invariant.awaited c.unwrap-key.result e in
    let r : Record g.row.M.Denot = there.0 in
    let home : waiting_list r ≡ Some lost_list = first_home c.self.inside.records c.self.inside.waiting c.self.invariant.awaited c.unwrap-key.result e in
    subst (λ o. StandsIn c.self.inside.waiting c.unwrap-key.result o) home (c.self.invariant.awaited.stands c.unwrap-key.result r there.1)

pub index-requires : goal.index-requires
index-requires g c =
    let o = opened c.self.invariant (bare_is c.self.view_is) in
    let e : slice_get (list_of c.self.inside.waiting lost_list) 0 ≡ Some c.unwrap-key.result = sym c.first.ensures ∙ c.unwrap-key.ensures in
    let there = first_record c.self.inside.records c.self.inside.waiting c.self.invariant.awaited c.unwrap-key.result e in
    let r : Record g.row.M.Denot = there.0 in
    let own : map.get c.self.inside.by_id.map r.id ≡ Some c.unwrap-key.result = c.self.invariant.sound.indexed.held c.unwrap-key.result r there.1 in
    let ch = change o r.id c.unwrap-key.result r (record r { kept = record r.kept { attributes = held_by r.kept.attributes Holder.Doomed } }) own there.1 refl (c.hold_at.ensures.after r there.1) in
    ap is_some (now_there ch)

pub invariant_of-self : goal.invariant_of-self
invariant_of-self g c =
    let o = opened c.self.invariant (bare_is c.self.view_is) in
    let e : slice_get (list_of c.self.inside.waiting lost_list) 0 ≡ Some c.unwrap-key.result = sym c.first.ensures ∙ c.unwrap-key.ensures in
    let there = first_record c.self.inside.records c.self.inside.waiting c.self.invariant.awaited c.unwrap-key.result e in
    let r : Record g.row.M.Denot = there.0 in
    let own : map.get c.self.inside.by_id.map r.id ≡ Some c.unwrap-key.result = c.self.invariant.sound.indexed.held c.unwrap-key.result r there.1 in
    let ch = change o r.id c.unwrap-key.result r (record r { kept = record r.kept { attributes = held_by r.kept.attributes Holder.Doomed } }) own there.1 refl (c.hold_at.ensures.after r there.1) in
    kept-held ch (c.self.invariant.membered.first c.unwrap-key.result r there.1) (still ch refl refl refl) refl refl Holder.Doomed refl c.rejoin_first.new.lists c.rejoin_first.ensures.moved

pub returns-clause-doomed : goal.returns-clause-doomed
returns-clause-doomed g c port p first h =
    let o = opened c.self.invariant (bare_is c.self.view_is) in
    let e : slice_get (list_of c.self.inside.waiting lost_list) 0 ≡ Some c.unwrap-key.result = sym c.first.ensures ∙ c.unwrap-key.ensures in
    let there = first_record c.self.inside.records c.self.inside.waiting c.self.invariant.awaited c.unwrap-key.result e in
    let r : Record g.row.M.Denot = there.0 in
    let own : map.get c.self.inside.by_id.map r.id ≡ Some c.unwrap-key.result = c.self.invariant.sound.indexed.held c.unwrap-key.result r there.1 in
    let ch = change o r.id c.unwrap-key.result r (record r { kept = record r.kept { attributes = held_by r.kept.attributes Holder.Doomed } }) own there.1 refl (c.hold_at.ensures.after r there.1) in
    let home : waiting_list r ≡ Some lost_list = first_home c.self.inside.records c.self.inside.waiting c.self.invariant.awaited c.unwrap-key.result e in
    let joined : c.rejoin_first.new.lists ≡ at_end (out_of c.self.inside.waiting c.unwrap-key.result (waiting_list r)) c.unwrap-key.result (Some doomed_list) = c.rejoin_first.ensures.turned ∙ ap (λ o. at_end (out_of c.self.inside.waiting c.unwrap-key.result o) c.unwrap-key.result (Some doomed_list)) (sym home) in
    let told = first_told o Holder.Nobody lost_list refl waits_lost c.args.self.now.bare.lost (lost_now o) in
    let its : r.id ≡ port = same_some r.id port (sym (told ∙ ap (option_map (λ k. id_in (get c.self.inside.records k))) e ∙ ap (λ o. Some (id_in o)) there.1) ∙ first) in
    let found : map.get c.self.inside.by_id.map port ≡ Some c.unwrap-key.result = ap (map.get c.self.inside.by_id.map) (sym its) ∙ own in
    let nobody : r.kept.attributes.holder ≡ Holder.Nobody = waits_lost r.kept.attributes.holder home in
    let now = change o port c.unwrap-key.result r (record r { kept = record r.kept { attributes = held_by r.kept.attributes Holder.Doomed } }) found there.1 refl (c.hold_at.ensures.after r there.1) in
    view-held now (c.self.invariant.membered.first c.unwrap-key.result r there.1) (still now refl refl refl) refl refl Holder.Doomed refl c.rejoin_first.new.lists c.rejoin_first.ensures.moved p (ap (λ (q : PortView g.row.M.Denot). let b : PortView g.row.M.Denot = held q Holder.Doomed in b) (sym (is_port o port c.unwrap-key.result r found there.1 p h))) joined
    ∙ relisted (with_port c.args.self.now.bare port (held p Holder.Doomed)) (without port c.args.self.now.bare.lost) (without port c.args.self.now.bare.doomed ++ port ∷ []) c.args.self.now.bare.noted
    (without port c.args.self.now.bare.lost) (c.args.self.now.bare.doomed ++ port ∷ []) c.args.self.now.bare.noted (record {
      lost_is = refl;
      doomed_is = ap (λ (l : List ℕ). l ++ port ∷ []) (doomed-apart o port c.unwrap-key.result r found there.1 (λ is. not_doomed (sym nobody ∙ is)));
      noted_is = refl;
    })

pub returns-clause-queued : goal.returns-clause-queued
returns-clause-queued g c port p first h =
    let o = opened c.self.invariant (bare_is c.self.view_is) in
    let e : slice_get (list_of c.self.inside.waiting lost_list) 0 ≡ Some c.unwrap-key.result = sym c.first.ensures ∙ c.unwrap-key.ensures in
    let there = first_record c.self.inside.records c.self.inside.waiting c.self.invariant.awaited c.unwrap-key.result e in
    let r : Record g.row.M.Denot = there.0 in
    let own : map.get c.self.inside.by_id.map r.id ≡ Some c.unwrap-key.result = c.self.invariant.sound.indexed.held c.unwrap-key.result r there.1 in
    let ch = change o r.id c.unwrap-key.result r (record r { kept = record r.kept { attributes = held_by r.kept.attributes Holder.Doomed } }) own there.1 refl (c.hold_at.ensures.after r there.1) in
    let told = first_told o Holder.Nobody lost_list refl waits_lost c.args.self.now.bare.lost (lost_now o) in
    let its : r.id ≡ port = same_some r.id port (sym (told ∙ ap (option_map (λ k. id_in (get c.self.inside.records k))) e ∙ ap (λ o. Some (id_in o)) there.1) ∙ first) in
    let found : map.get c.self.inside.by_id.map port ≡ Some c.unwrap-key.result = ap (map.get c.self.inside.by_id.map) (sym its) ∙ own in
    let is : p ≡ port_of r (more_of c.self.inside.sets c.unwrap-key.result) = is_port o port c.unwrap-key.result r found there.1 p h in
    let same : c.index.result.now ≡ (record r { kept = record r.kept { attributes = held_by r.kept.attributes Holder.Doomed } }) = same_some c.index.result.now (record r { kept = record r.kept { attributes = held_by r.kept.attributes Holder.Doomed } }) (sym c.index.ensures ∙ now_there ch) in
    some_queued c.index.result.now.queue p.queue (ap (λ (b : Record g.row.M.Denot). b.queue) same ∙ sym (ap (λ (q : PortView g.row.M.Denot). q.queue) is)) c.is_empty.result c.is_empty.ensures

pub returns-clause-counts : goal.returns-clause-counts
returns-clause-counts g c =
    let o = opened c.self.invariant (bare_is c.self.view_is) in
    let e : slice_get (list_of c.self.inside.waiting lost_list) 0 ≡ Some c.unwrap-key.result = sym c.first.ensures ∙ c.unwrap-key.ensures in
    let there = first_record c.self.inside.records c.self.inside.waiting c.self.invariant.awaited c.unwrap-key.result e in
    let r : Record g.row.M.Denot = there.0 in
    rights-set c.self.inside.records c.unwrap-key.result r _ there.1 (c.hold_at.ensures.after r there.1) refl c.self.inside.by_id.map ∙ counts_is c.self.view_is
