use Rattle.std.proofs.Common.{refl, sym, ◌∙◌, ap}
use Rattle.number_map.specs.declared.Node.{Node}
use Rattle.number_map.proofs.Rows.{same_some, same_len, node_got}
use Rattle.number_map.proofs.Planted.{planted_raised, raised}
use Rattle.number_map.proofs.raise_leaf.Goals as goal

pub returns-clause-planted : goal.returns-clause-planted
returns-clause-planted g c =
    let low = c.leaf_below-leaf.ensures in
    let len = same_len c.args.nodes.now c.turn.new.nodes c.turn.ensures.entries in
    let one = node_got c.args.nodes.now c.leaf_below-leaf.result c.index-nodes-leaf.result low.low c.index-nodes-leaf.is in
    let two = node_got c.args.nodes.now c.leaf_below-leaf.result c.index-nodes-leaf-2.result low.low c.index-nodes-leaf-2.is in
    let here = node_got c.turn.new.nodes c.args.place c.index-nodes-place.result (rw len c.requires.place) c.index-nodes-place.is in
    let again = node_got c.turn.new.nodes c.args.place c.index-nodes-place-2.result (rw len c.requires.place) c.index-nodes-place-2.is in
    planted_raised c.args.nodes.now c.turn.new.nodes c.args.heads.now c.turn.new.heads c.args.place c.leaf_below-leaf.result c.requires.indexed low c.turn.ensures _ _ _ c.requires.place one here
    refl (ap (λ (k : Node g.row.V.Denot). k.value) (same_some _ _ (sym two ∙ one))) refl (ap (λ (k : Node g.row.V.Denot). k.above) (same_some _ _ (sym again ∙ here)))

pub returns-clause-raised : goal.returns-clause-raised
returns-clause-raised g c =
    let low = c.leaf_below-leaf.ensures in
    let len = same_len c.args.nodes.now c.turn.new.nodes c.turn.ensures.entries in
    let one = node_got c.args.nodes.now c.leaf_below-leaf.result c.index-nodes-leaf.result low.low c.index-nodes-leaf.is in
    let two = node_got c.args.nodes.now c.leaf_below-leaf.result c.index-nodes-leaf-2.result low.low c.index-nodes-leaf-2.is in
    let here = node_got c.turn.new.nodes c.args.place c.index-nodes-place.result (rw len c.requires.place) c.index-nodes-place.is in
    let again = node_got c.turn.new.nodes c.args.place c.index-nodes-place-2.result (rw len c.requires.place) c.index-nodes-place-2.is in
    raised c.args.nodes.now c.turn.new.nodes c.args.heads.now c.turn.new.heads c.args.place c.leaf_below-leaf.result c.requires.indexed low c.turn.ensures _ _ _ c.requires.place one here
    refl (ap (λ (k : Node g.row.V.Denot). k.value) (same_some _ _ (sym two ∙ one))) refl (ap (λ (k : Node g.row.V.Denot). k.above) (same_some _ _ (sym again ∙ here)))
