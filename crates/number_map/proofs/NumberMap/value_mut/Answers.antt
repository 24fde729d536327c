use Rattle.std.proofs.Common.{◌∙◌, refl, ap, sym, is_some, arith}
use Rattle.std.specs.FinMap as map
use Rattle.std.specs.Ordering.{nat_cmp}
use Rattle.number_map.specs.Kept.{entries_of, HasKey}
use Rattle.number_map.proofs.Entries.{lookup_is, map_is, room_is, same_view}
use Rattle.number_map.proofs.Rows.{node_read}
use Rattle.number_map.proofs.View.{key_there, key_looked, key_inside, kept_changed, table_changed}
use Rattle.number_map.proofs.NumberMap.value_mut.Goals as goal

pub find_there-place-requires-clause-there : goal.find_there-place-requires-clause-there
find_there-place-requires-clause-there g c =
    rw c.deref.ensures.value (key_there c.self.inside.nodes.items c.args.key
    (ap is_some (lookup_is (entries_of c.self.inside.nodes.items) c.self.inside.room c.args.self.now c.self.view_is c.args.key) ∙ c.requires))

pub index_mut-requires : goal.index_mut-requires
index_mut-requires g c =
    let has : HasKey c.self.inside.nodes.items c.args.key c.find_there-place.result = rw c.deref.ensures.value at c.find_there-place.ensures in
    let i = key_inside c.self.inside.nodes.items c.args.key c.find_there-place.result has in omega arith

pub invariant_of-self-lent : goal.invariant_of-self-lent
invariant_of-self-lent g c w =
    let has : HasKey c.self.inside.nodes.items c.args.key c.find_there-place.result = rw c.deref.ensures.value at c.find_there-place.ensures in
    let i = key_inside c.self.inside.nodes.items c.args.key c.find_there-place.result has in
    kept_changed c.self.inside.nodes.items c.self.inside.heads.items _ c.self.inside.room c.self.invariant c.args.key c.find_there-place.result has
    c.index_mut.result.now (node_read c.self.inside.nodes.items _ c.index_mut.result.now i c.index_mut.ensures.value) w

pub returns : goal.returns
returns g c =
    let has : HasKey c.self.inside.nodes.items c.args.key c.find_there-place.result = rw c.deref.ensures.value at c.find_there-place.ensures in
    let i = key_inside c.self.inside.nodes.items c.args.key c.find_there-place.result has in (
      (
        refl,
        λ w.
            same_view _ _ _ _
            (table_changed c.self.inside.nodes.items c.self.inside.heads.items _ c.self.inside.room c.self.invariant c.args.key c.find_there-place.result has
            c.index_mut.result.now (node_read c.self.inside.nodes.items _ c.index_mut.result.now i c.index_mut.ensures.value) w
            ∙ ap (λ (m : map.FinMap nat_cmp g.row.V.Denot). map.insert m c.args.key w) (map_is (entries_of c.self.inside.nodes.items) c.self.inside.room c.args.self.now c.self.view_is))
            (room_is (entries_of c.self.inside.nodes.items) c.self.inside.room c.args.self.now c.self.view_is),
      ),
      record {
        writes_back = tt;
        value =
            sym (lookup_is (entries_of c.self.inside.nodes.items) c.self.inside.room c.args.self.now c.self.view_is c.args.key)
            ∙ key_looked c.self.inside.nodes.items c.self.invariant.unique c.args.key c.find_there-place.result has c.index_mut.result.now (node_read c.self.inside.nodes.items _ c.index_mut.result.now i c.index_mut.ensures.value);
      },
    )
