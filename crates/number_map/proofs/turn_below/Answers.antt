use Rattle.std.proofs.Common.{sym, ◌∙◌}
use Rattle.number_map.proofs.Rows.{node_got, link_of_some, turned_below}
use Rattle.number_map.proofs.turn_below.Goals as goal

pub side_to-side-requires-clause-leads : goal.side_to-side-requires-clause-leads
side_to-side-requires-clause-leads g c =
    let at = node_got c.args.nodes.now c.args.above c.index-nodes-above.result c.requires.above c.index-nodes-above.is in
    let p = c.requires.leads in
    (p.0, p.1, sym (link_of_some c.args.nodes.now c.args.above p.0 _ at) ∙ p.2)

pub returns : goal.returns
returns g c =
    let at = node_got c.args.nodes.now c.args.above c.index-nodes-above.result c.requires.above c.index-nodes-above.is in
    turned_below c.args.nodes.now c.args.above _ c.turn_link.new.node at c.side_to-side.result _ c.args.to c.side_to-side.ensures.leads c.turn_link.ensures.here c.turn_link.ensures.others
    c.turn_link.ensures.key c.turn_link.ensures.value c.turn_link.ensures.above
