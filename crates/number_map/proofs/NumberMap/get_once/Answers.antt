use Rattle.std.proofs.Common.{◌∙◌, ℕ, refl, sym, arith}
use Rattle.number_map.specs.Kept.{entries_of, HasKey}
use Rattle.number_map.proofs.Entries.{lookup_is}
use Rattle.number_map.proofs.Rows.{node_read}
use Rattle.number_map.proofs.View.{none_looked, key_looked, key_inside}
use Rattle.number_map.proofs.NumberMap.get_once.Goals as goal

pub returns-in_err-place : goal.returns-in_err-place
returns-in_err-place g c =
    let none : (x : ℕ) → HasKey c.self.inside.nodes.items c.args.key x → ⊥ = rw c.deref.ensures.value at c.in_err-place.ensures.missing refl in
    c.from_residual.ensures ∙ sym (none_looked c.self.inside.nodes.items c.args.key none)
    ∙ lookup_is (entries_of c.self.inside.nodes.items) c.self.inside.room c.args.self.now c.self.view_is c.args.key

pub index-requires : goal.index-requires
index-requires g c =
    let has : HasKey c.self.inside.nodes.items c.args.key c.in_ok-place.place = rw c.deref.ensures.value at c.in_ok-place.ensures.found c.in_ok-place.place refl in
    let i = key_inside c.self.inside.nodes.items c.args.key c.in_ok-place.place has in omega arith

pub returns : goal.returns
returns g c =
    let has : HasKey c.self.inside.nodes.items c.args.key c.in_ok-place.place = rw c.deref.ensures.value at c.in_ok-place.ensures.found c.in_ok-place.place refl in
    let i = key_inside c.self.inside.nodes.items c.args.key c.in_ok-place.place has in
    sym (key_looked c.self.inside.nodes.items c.self.invariant.unique c.args.key c.in_ok-place.place has c.index.result.now (node_read c.self.inside.nodes.items _ c.index.result.now i c.index.ensures))
    ∙ lookup_is (entries_of c.self.inside.nodes.items) c.self.inside.room c.args.self.now c.self.view_is c.args.key
