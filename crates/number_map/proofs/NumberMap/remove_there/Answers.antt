use Rattle.std.proofs.Common.{◌∙◌, ap, is_some}
use Rattle.std.specs.FinMap as map
use Rattle.std.specs.Ordering.{nat_cmp}
use Rattle.number_map.specs.Kept.{entries_of, HasKey}
use Rattle.number_map.proofs.Entries.{lookup_is, map_is, room_is, same_view}
use Rattle.number_map.proofs.Rows.{key_of_some}
use Rattle.number_map.proofs.View.{key_there, key_inside, kept_left, table_left}
use Rattle.number_map.proofs.NumberMap.remove_there.Goals as goal

pub find_there-place-requires-clause-there : goal.find_there-place-requires-clause-there
find_there-place-requires-clause-there g c =
    rw c.deref.ensures.value (key_there c.self.inside.nodes.items c.args.key
    (ap is_some (lookup_is (entries_of c.self.inside.nodes.items) c.self.inside.room c.args.self.now c.self.view_is c.args.key) ∙ c.requires))

pub take_out-requires-clause-place : goal.take_out-requires-clause-place
take_out-requires-clause-place g c =
    let has : HasKey c.self.inside.nodes.items c.args.key c.find_there-place.result = rw c.deref.ensures.value at c.find_there-place.ensures in
    key_inside c.self.inside.nodes.items c.args.key c.find_there-place.result has

pub take_out-requires-clause-key : goal.take_out-requires-clause-key
take_out-requires-clause-key g c =
    let has : HasKey c.self.inside.nodes.items c.args.key c.find_there-place.result = rw c.deref.ensures.value at c.find_there-place.ensures in
    key_of_some c.self.inside.nodes.items c.find_there-place.result has.0 has.1 ∙ has.2

pub invariant_of-self : goal.invariant_of-self
invariant_of-self g c =
    let has : HasKey c.self.inside.nodes.items c.args.key c.find_there-place.result = rw c.deref.ensures.value at c.find_there-place.ensures in
    rw c.take_out.ensures.capacity (kept_left c.self.inside.nodes.items c.self.inside.heads.items _ c.self.inside.room c.self.invariant c.args.key c.find_there-place.result has
    c.take_out.new.nodes.items c.take_out.ensures.nodes c.take_out.new.heads.items c.take_out.ensures.indexed c.take_out.ensures.heads)

pub returns : goal.returns
returns g c =
    let has : HasKey c.self.inside.nodes.items c.args.key c.find_there-place.result = rw c.deref.ensures.value at c.find_there-place.ensures in
    same_view _ _ _ _
    (table_left c.self.inside.nodes.items c.self.inside.heads.items _ c.self.inside.room c.self.invariant c.args.key c.find_there-place.result has c.take_out.new.nodes.items c.take_out.ensures.nodes
    ∙ ap (λ (m : map.FinMap nat_cmp g.row.V.Denot). map.remove m c.args.key) (map_is (entries_of c.self.inside.nodes.items) c.self.inside.room c.args.self.now c.self.view_is))
    (room_is (entries_of c.self.inside.nodes.items) c.self.inside.room c.args.self.now c.self.view_is)
