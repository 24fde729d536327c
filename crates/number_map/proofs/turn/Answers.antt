use Rattle.std.proofs.Common.{◌≡◌, suc, arith}
use Rattle.number_map.specs.Kept.{above_at}
use Rattle.number_map.proofs.Rows.{node_got, above_of_some, above_low, from_head, from_node, cut_head, cut_node}
use Rattle.number_map.proofs.turn.Goals as goal

pub turn_below-requires-clause-above : goal.turn_below-requires-clause-above
turn_below-requires-clause-above g c =
    let p = c.requires.planted in
    let some = c.if-above-gt0.true in
    let at = node_got c.args.nodes.now c.args.place c.index-nodes-place.result c.requires.place c.index-nodes-place.is in
    let e = above_of_some c.args.nodes.now c.args.place _ at in
    let l = above_low c.args.nodes.now c.args.heads.now c.args.place p.0 c.requires.place p.1 p.2 in omega arith

pub turn_below-requires-clause-leads : goal.turn_below-requires-clause-leads
turn_below-requires-clause-leads g c =
    let p = c.requires.planted in
    let at = node_got c.args.nodes.now c.args.place c.index-nodes-place.result c.requires.place c.index-nodes-place.is in
    from_node c.args.nodes.now c.args.heads.now c.args.place p.0 c.requires.place p.1 p.2 _ (above_of_some c.args.nodes.now c.args.place _ at) c.if-above-gt0.true

pub returns-then-above-gt0 : goal.returns-then-above-gt0
returns-then-above-gt0 g c =
    let p = c.requires.planted in
    let at = node_got c.args.nodes.now c.args.place c.index-nodes-place.result c.requires.place c.index-nodes-place.is in
    cut_node c.args.nodes.now c.args.heads.now c.args.place p.0 c.requires.place p.1 p.2 c.turn_below.new.nodes _ c.args.to (above_of_some c.args.nodes.now c.args.place _ at) c.if-above-gt0.true c.turn_below.ensures

pub returns-else-above-gt0 : goal.returns-else-above-gt0
returns-else-above-gt0 g c =
    let p = c.requires.planted in
    let at = node_got c.args.nodes.now c.args.place c.index-nodes-place.result c.requires.place c.index-nodes-place.is in
    let e = above_of_some c.args.nodes.now c.args.place _ at in
    let none : above_at c.args.nodes.now (suc c.args.place) ≡ 0 = (let t = c.if-above-gt0.false in omega arith) in
    cut_head c.args.nodes.now c.args.heads.now c.args.place p.0 c.requires.place p.1 p.2 c.slot_of-slot.result c.args.to c.slot_of-slot.ensures.few
    (from_head c.args.nodes.now c.args.heads.now c.args.place p.0 c.requires.place p.1 p.2 c.args.key c.slot_of-slot.result c.requires.key c.slot_of-slot.ensures.value none) none
