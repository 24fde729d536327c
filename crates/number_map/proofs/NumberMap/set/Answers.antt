use Rattle.std.proofs.Common.{◌∙◌, ap, is_some}
use Rattle.std.specs.FinMap as map
use Rattle.std.specs.Ordering.{nat_cmp}
use Rattle.number_map.specs.Kept.{entries_of, HasKey}
use Rattle.number_map.proofs.Entries.{lookup_is, map_is, room_is, same_view}
use Rattle.number_map.proofs.Rows.{node_read}
use Rattle.number_map.proofs.View.{key_there, key_inside, kept_changed, table_changed}
use Rattle.number_map.proofs.NumberMap.set.Goals as goal

pub find_there-place-requires-clause-there : goal.find_there-place-requires-clause-there
find_there-place-requires-clause-there g c =
    rw c.deref.ensures.value (key_there c.self.inside.nodes.items c.args.key
    (ap is_some (lookup_is (entries_of c.self.inside.nodes.items) c.self.inside.room c.args.self.now c.self.view_is c.args.key) ∙ c.requires))

pub invariant_of-self : goal.invariant_of-self
invariant_of-self g c =
    let has : HasKey c.self.inside.nodes.items c.args.key c.find_there-place.result = rw c.deref.ensures.value at c.find_there-place.ensures in
    let i = key_inside c.self.inside.nodes.items c.args.key c.find_there-place.result has in
    kept_changed c.self.inside.nodes.items c.self.inside.heads.items _ c.self.inside.room c.self.invariant c.args.key c.find_there-place.result has
    c.index_mut.result.now (node_read c.self.inside.nodes.items _ c.index_mut.result.now i c.index_mut.ensures.value) c.args.value

pub returns : goal.returns
returns g c =
    let has : HasKey c.self.inside.nodes.items c.args.key c.find_there-place.result = rw c.deref.ensures.value at c.find_there-place.ensures in
    let i = key_inside c.self.inside.nodes.items c.args.key c.find_there-place.result has in
    same_view _ _ _ _
    (table_changed c.self.inside.nodes.items c.self.inside.heads.items _ c.self.inside.room c.self.invariant c.args.key c.find_there-place.result has
    c.index_mut.result.now (node_read c.self.inside.nodes.items _ c.index_mut.result.now i c.index_mut.ensures.value) c.args.value
    ∙ ap (λ (m : map.FinMap nat_cmp g.row.V.Denot). map.insert m c.args.key c.args.value) (map_is (entries_of c.self.inside.nodes.items) c.self.inside.room c.args.self.now c.self.view_is))
    (room_is (entries_of c.self.inside.nodes.items) c.self.inside.room c.args.self.now c.self.view_is)
