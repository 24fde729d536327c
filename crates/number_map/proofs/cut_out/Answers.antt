use Rattle.std.proofs.Common.{◌∙◌}
use Rattle.number_map.proofs.Rows.{node_got, link_of_some}
use Rattle.number_map.proofs.Planted.{planted_cut, raised_itself}
use Rattle.number_map.proofs.cut_out.Goals as goal

pub returns-then-is_leaf-clause-planted : goal.returns-then-is_leaf-clause-planted
returns-then-is_leaf-clause-planted g c =
    let at = node_got c.args.nodes.now c.args.place c.index-nodes-place.result c.requires.place c.index-nodes-place.is in
    planted_cut c.args.nodes.now c.turn.new.nodes c.args.heads.now c.turn.new.heads c.args.place c.requires.indexed
    (λ i. link_of_some c.args.nodes.now c.args.place i _ at ∙ c.is_leaf.ensures c.if-is_leaf.true i) c.turn.ensures

pub returns-then-is_leaf-clause-raised : goal.returns-then-is_leaf-clause-raised
returns-then-is_leaf-clause-raised g c =
    let at = node_got c.args.nodes.now c.args.place c.index-nodes-place.result c.requires.place c.index-nodes-place.is in
    raised_itself c.args.nodes.now c.turn.new.nodes c.args.heads.now c.turn.new.heads c.args.place c.requires.indexed
    (λ i. link_of_some c.args.nodes.now c.args.place i _ at ∙ c.is_leaf.ensures c.if-is_leaf.true i) c.turn.ensures c.requires.place
