use Rattle.std.proofs.Common.{◌∙◌, ℕ, refl, ap, sym, arith}
use Rattle.std.specs.FinMap as map
use Rattle.std.specs.Ordering.{nat_cmp}
use Rattle.number_map.specs.Kept.{entries_of, HasKey}
use Rattle.number_map.proofs.Entries.{lookup_is, map_is, room_is, same_view}
use Rattle.number_map.proofs.Rows.{node_read, key_of_some}
use Rattle.number_map.proofs.View.{none_looked, key_looked, key_inside, kept_left, table_left, out_none}
use Rattle.number_map.proofs.NumberMap.remove.Goals as goal

pub returns-in_err-place-clause-value : goal.returns-in_err-place-clause-value
returns-in_err-place-clause-value g c =
    let none : (x : ℕ) → HasKey c.self.inside.nodes.items c.args.key x → ⊥ = rw c.deref.ensures.value at c.in_err-place.ensures.missing refl in
    c.from_residual.ensures ∙ sym (none_looked c.self.inside.nodes.items c.args.key none)
    ∙ lookup_is (entries_of c.self.inside.nodes.items) c.self.inside.room c.args.self.now c.self.view_is c.args.key

pub returns-in_err-place-clause-after : goal.returns-in_err-place-clause-after
returns-in_err-place-clause-after g c =
    let none : (x : ℕ) → HasKey c.self.inside.nodes.items c.args.key x → ⊥ = rw c.deref.ensures.value at c.in_err-place.ensures.missing refl in
    let same = map_is (entries_of c.self.inside.nodes.items) c.self.inside.room c.args.self.now c.self.view_is in
    same_view _ _ _ _
    (sym same ∙ out_none (entries_of c.self.inside.nodes.items) c.args.key (none_looked c.self.inside.nodes.items c.args.key none) ∙ ap (λ (m : map.FinMap nat_cmp g.row.V.Denot). map.remove m c.args.key) same)
    refl

pub index-requires : goal.index-requires
index-requires g c =
    let has : HasKey c.self.inside.nodes.items c.args.key c.in_ok-place.place = rw c.deref.ensures.value at c.in_ok-place.ensures.found c.in_ok-place.place refl in
    let i = key_inside c.self.inside.nodes.items c.args.key c.in_ok-place.place has in omega arith

pub take_out-requires-clause-place : goal.take_out-requires-clause-place
take_out-requires-clause-place g c =
    let has : HasKey c.self.inside.nodes.items c.args.key c.in_ok-place.place = rw c.deref.ensures.value at c.in_ok-place.ensures.found c.in_ok-place.place refl in
    key_inside c.self.inside.nodes.items c.args.key c.in_ok-place.place has

pub take_out-requires-clause-key : goal.take_out-requires-clause-key
take_out-requires-clause-key g c =
    let has : HasKey c.self.inside.nodes.items c.args.key c.in_ok-place.place = rw c.deref.ensures.value at c.in_ok-place.ensures.found c.in_ok-place.place refl in
    key_of_some c.self.inside.nodes.items c.in_ok-place.place has.0 has.1 ∙ has.2

pub invariant_of-self : goal.invariant_of-self
invariant_of-self g c =
    let has : HasKey c.self.inside.nodes.items c.args.key c.in_ok-place.place = rw c.deref.ensures.value at c.in_ok-place.ensures.found c.in_ok-place.place refl in
    rw c.take_out.ensures.capacity (kept_left c.self.inside.nodes.items c.self.inside.heads.items _ c.self.inside.room c.self.invariant c.args.key c.in_ok-place.place has
    c.take_out.new.nodes.items c.take_out.ensures.nodes c.take_out.new.heads.items c.take_out.ensures.indexed c.take_out.ensures.heads)

pub returns-clause-value : goal.returns-clause-value
returns-clause-value g c =
    let has : HasKey c.self.inside.nodes.items c.args.key c.in_ok-place.place = rw c.deref.ensures.value at c.in_ok-place.ensures.found c.in_ok-place.place refl in
    let i = key_inside c.self.inside.nodes.items c.args.key c.in_ok-place.place has in
    sym (key_looked c.self.inside.nodes.items c.self.invariant.unique c.args.key c.in_ok-place.place has c.index.result.now (node_read c.self.inside.nodes.items _ c.index.result.now i c.index.ensures))
    ∙ lookup_is (entries_of c.self.inside.nodes.items) c.self.inside.room c.args.self.now c.self.view_is c.args.key

pub returns-clause-after : goal.returns-clause-after
returns-clause-after g c =
    let has : HasKey c.self.inside.nodes.items c.args.key c.in_ok-place.place = rw c.deref.ensures.value at c.in_ok-place.ensures.found c.in_ok-place.place refl in
    same_view _ _ _ _
    (table_left c.self.inside.nodes.items c.self.inside.heads.items _ c.self.inside.room c.self.invariant c.args.key c.in_ok-place.place has c.take_out.new.nodes.items c.take_out.ensures.nodes
    ∙ ap (λ (m : map.FinMap nat_cmp g.row.V.Denot). map.remove m c.args.key) (map_is (entries_of c.self.inside.nodes.items) c.self.inside.room c.args.self.now c.self.view_is))
    (room_is (entries_of c.self.inside.nodes.items) c.self.inside.room c.args.self.now c.self.view_is)
