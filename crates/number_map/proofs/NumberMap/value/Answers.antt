use Rattle.std.proofs.Common.{◌∙◌, ap, sym, is_some, arith}
use Rattle.number_map.specs.Kept.{entries_of, HasKey}
use Rattle.number_map.proofs.Entries.{lookup_is}
use Rattle.number_map.proofs.Rows.{node_read}
use Rattle.number_map.proofs.View.{key_there, key_looked, key_inside}
use Rattle.number_map.proofs.NumberMap.value.Goals as goal

pub find_there-place-requires-clause-there : goal.find_there-place-requires-clause-there
find_there-place-requires-clause-there g c =
    rw c.deref.ensures.value (key_there c.self.inside.nodes.items c.args.key
    (ap is_some (lookup_is (entries_of c.self.inside.nodes.items) c.self.inside.room c.args.self.now c.self.view_is c.args.key) ∙ c.requires))

pub index-requires : goal.index-requires
index-requires g c =
    let has : HasKey c.self.inside.nodes.items c.args.key c.find_there-place.result = rw c.deref.ensures.value at c.find_there-place.ensures in
    let i = key_inside c.self.inside.nodes.items c.args.key c.find_there-place.result has in omega arith

pub returns : goal.returns
returns g c =
    let has : HasKey c.self.inside.nodes.items c.args.key c.find_there-place.result = rw c.deref.ensures.value at c.find_there-place.ensures in
    let i = key_inside c.self.inside.nodes.items c.args.key c.find_there-place.result has in
    sym (lookup_is (entries_of c.self.inside.nodes.items) c.self.inside.room c.args.self.now c.self.view_is c.args.key)
    ∙ key_looked c.self.inside.nodes.items c.self.invariant.unique c.args.key c.find_there-place.result has c.index.result.now (node_read c.self.inside.nodes.items _ c.index.result.now i c.index.ensures)
