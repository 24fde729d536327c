use Rattle.number_map.proofs.Rows.{wrote}
use Rattle.number_map.proofs.Planted.{taken_out}
use Rattle.number_map.proofs.take_out.Goals as goal

pub returns-clause-nodes : goal.returns-clause-nodes
returns-clause-nodes g c =
    let raised = rw c.as_mut_slice.ensures.value at c.cut_out-hole.ensures.raised in
    let w = wrote c.cut_out-hole.new.nodes c.args.nodes.now.items c.args.nodes.now.len raised.len c.args.nodes.now.ok.0 in
    taken_out c.args.nodes.now.items c.cut_out-hole.new.nodes _ c.args.place c.cut_out-hole.result c.requires.place raised (rw w at c.close.ensures.moved)
