use Rattle.std.proofs.Common.{◌≡◌, false, Some, is_some, ap, sym, subst, ◌∙◌, refl, slice_get, Contains}
use Rattle.std.specs.Option.{option_map}
use Rattle.port_base.specs.declared.Record.{Record}
use Rattle.member_lists.specs.Lists.{list_of, without}
use Rattle.slab.specs.Slab.{get}
use Rattle.port_base.specs.Ready.{StandsIn, out_of}
use Rattle.port_base.specs.Records.{id_in, noted_list, noting_list}
use Rattle.port.specs.Records.{ids_in, made_of}
use Rattle.port.proofs.Changed.{change, still, now_there, kept-noted, view-noted}
use Rattle.port.proofs.Keys.{same_some}
use Rattle.port.proofs.Readied.{held_first}
use Rattle.port.proofs.Sound.{bare_is, opened, counts_is, rights-set}
use Rattle.port.proofs.Waiting.{noted_now, noted_first, noted_live, ids-out}
use Rattle.port.proofs.Ports.take_noted.Goals as goal

pub leave_two-requires-clause-was : goal.leave_two-requires-clause-was
leave_two-requires-clause-was g c =
    let o = opened c.self.invariant (bare_is c.self.view_is) in
    let e : slice_get (list_of c.self.inside.noted noted_list) 0 ≡ Some c.in_ok-key.key = sym c.in_ok-key.ensures in
    let inside : Contains (list_of c.self.inside.noted noted_list) c.in_ok-key.key = held_first (list_of c.self.inside.noted noted_list) c.in_ok-key.key e in
    let there = c.self.invariant.are_noted.held c.in_ok-key.key noted_list inside in
    let r : Record g.row.M.Denot = there.0 in
    let home : noting_list r ≡ Some noted_list = (c.self.invariant.are_noted.stands c.in_ok-key.key r there.1).only noted_list inside in
    subst (λ o. StandsIn c.self.inside.noted c.in_ok-key.key o) home (c.self.invariant.are_noted.stands c.in_ok-key.key r there.1)

pub note_at-requires : goal.note_at-requires
note_at-requires g c =
    let o = opened c.self.invariant (bare_is c.self.view_is) in
    let e : slice_get (list_of c.self.inside.noted noted_list) 0 ≡ Some c.in_ok-key.key = sym c.in_ok-key.ensures in
    let inside : Contains (list_of c.self.inside.noted noted_list) c.in_ok-key.key = held_first (list_of c.self.inside.noted noted_list) c.in_ok-key.key e in
    let there = c.self.invariant.are_noted.held c.in_ok-key.key noted_list inside in
    let r : Record g.row.M.Denot = there.0 in
    ap is_some there.1

pub index-requires : goal.index-requires
index-requires g c =
    let o = opened c.self.invariant (bare_is c.self.view_is) in
    let e : slice_get (list_of c.self.inside.noted noted_list) 0 ≡ Some c.in_ok-key.key = sym c.in_ok-key.ensures in
    let inside : Contains (list_of c.self.inside.noted noted_list) c.in_ok-key.key = held_first (list_of c.self.inside.noted noted_list) c.in_ok-key.key e in
    let there = c.self.invariant.are_noted.held c.in_ok-key.key noted_list inside in
    let r : Record g.row.M.Denot = there.0 in
    let ch = change o r.id c.in_ok-key.key r (record r { kept = record r.kept { is_noted = false } }) (c.self.invariant.sound.indexed.held c.in_ok-key.key r there.1) there.1 refl (c.note_at.ensures r there.1) in
    ap is_some (now_there ch)

pub invariant_of-self : goal.invariant_of-self
invariant_of-self g c =
    let o = opened c.self.invariant (bare_is c.self.view_is) in
    let e : slice_get (list_of c.self.inside.noted noted_list) 0 ≡ Some c.in_ok-key.key = sym c.in_ok-key.ensures in
    let inside : Contains (list_of c.self.inside.noted noted_list) c.in_ok-key.key = held_first (list_of c.self.inside.noted noted_list) c.in_ok-key.key e in
    let there = c.self.invariant.are_noted.held c.in_ok-key.key noted_list inside in
    let r : Record g.row.M.Denot = there.0 in
    let ch = change o r.id c.in_ok-key.key r (record r { kept = record r.kept { is_noted = false } }) (c.self.invariant.sound.indexed.held c.in_ok-key.key r there.1) there.1 refl (c.note_at.ensures r there.1) in
    kept-noted ch (c.self.invariant.membered.first c.in_ok-key.key r there.1) (still ch refl refl refl) refl refl c.leave_two.new.lists c.leave_two.ensures.moved

pub returns-clause-first : goal.returns-clause-first
returns-clause-first g c =
    let o = opened c.self.invariant (bare_is c.self.view_is) in
    let e : slice_get (list_of c.self.inside.noted noted_list) 0 ≡ Some c.in_ok-key.key = sym c.in_ok-key.ensures in
    let inside : Contains (list_of c.self.inside.noted noted_list) c.in_ok-key.key = held_first (list_of c.self.inside.noted noted_list) c.in_ok-key.key e in
    let there = c.self.invariant.are_noted.held c.in_ok-key.key noted_list inside in
    let r : Record g.row.M.Denot = there.0 in
    let ch = change o r.id c.in_ok-key.key r (record r { kept = record r.kept { is_noted = false } }) (c.self.invariant.sound.indexed.held c.in_ok-key.key r there.1) there.1 refl (c.note_at.ensures r there.1) in
    let id : c.index.result.now.id ≡ r.id = ap (λ (b : Record g.row.M.Denot). b.id) (same_some c.index.result.now (record r { kept = record r.kept { is_noted = false } }) (sym c.index.ensures ∙ now_there ch)) in
    sym (noted_first o ∙ ap (option_map (λ k. id_in (get c.self.inside.records k))) e ∙ ap (λ o. Some (id_in o)) there.1 ∙ ap (λ n. Some n) (sym id))

pub returns-clause-taken : goal.returns-clause-taken
returns-clause-taken g c =
    let o = opened c.self.invariant (bare_is c.self.view_is) in
    let e : slice_get (list_of c.self.inside.noted noted_list) 0 ≡ Some c.in_ok-key.key = sym c.in_ok-key.ensures in
    let inside : Contains (list_of c.self.inside.noted noted_list) c.in_ok-key.key = held_first (list_of c.self.inside.noted noted_list) c.in_ok-key.key e in
    let there = c.self.invariant.are_noted.held c.in_ok-key.key noted_list inside in
    let r : Record g.row.M.Denot = there.0 in
    let ch = change o r.id c.in_ok-key.key r (record r { kept = record r.kept { is_noted = false } }) (c.self.invariant.sound.indexed.held c.in_ok-key.key r there.1) there.1 refl (c.note_at.ensures r there.1) in
    let home : noting_list r ≡ Some noted_list = (c.self.invariant.are_noted.stands c.in_ok-key.key r there.1).only noted_list inside in
    let id : c.index.result.now.id ≡ r.id = ap (λ (b : Record g.row.M.Denot). b.id) (same_some c.index.result.now (record r { kept = record r.kept { is_noted = false } }) (sym c.index.ensures ∙ now_there ch)) in
    view-noted ch (c.self.invariant.membered.first c.in_ok-key.key r there.1) (still ch refl refl refl) refl refl c.leave_two.new.lists c.leave_two.ensures.moved refl (without c.index.result.now.id c.args.self.now.bare.noted)
    (ap (λ w. ids_in (get c.self.inside.records) w noted_list) (c.leave_two.ensures.left ∙ ap (out_of c.self.inside.noted c.in_ok-key.key) (sym home))
    ∙ ids-out (get c.self.inside.records) noting_list c.self.inside.noted c.self.invariant.are_noted c.self.inside.by_id.map (made_of c.self.inside.next) c.self.invariant.sound.indexed r.id c.in_ok-key.key r (c.self.invariant.sound.indexed.held c.in_ok-key.key r there.1) there.1 noted_list
    ∙ ap (without r.id) (noted_now o) ∙ ap (λ n. without n c.args.self.now.bare.noted) (sym id))

pub returns-clause-live : goal.returns-clause-live
returns-clause-live g c =
    noted_live (opened c.self.invariant (bare_is c.self.view_is))

pub returns-clause-counts : goal.returns-clause-counts
returns-clause-counts g c =
    let o = opened c.self.invariant (bare_is c.self.view_is) in
    let e : slice_get (list_of c.self.inside.noted noted_list) 0 ≡ Some c.in_ok-key.key = sym c.in_ok-key.ensures in
    let inside : Contains (list_of c.self.inside.noted noted_list) c.in_ok-key.key = held_first (list_of c.self.inside.noted noted_list) c.in_ok-key.key e in
    let there = c.self.invariant.are_noted.held c.in_ok-key.key noted_list inside in
    let r : Record g.row.M.Denot = there.0 in
    rights-set c.self.inside.records c.in_ok-key.key r _ there.1 (c.note_at.ensures r there.1) refl c.self.inside.by_id.map ∙ counts_is c.self.view_is
