use Rattle.std.proofs.Common.{◌-◌, ◌<◌, refl, arith, length}
use Rattle.number_map.proofs.Rows.{node_got, hung_here}
use Rattle.number_map.proofs.hang.Goals as goal

pub returns : goal.returns
returns g c =
    let some = c.requires.some in
    let inside : c.args.link - 1 < length c.args.nodes.now = (let i = c.requires.inside in let s = c.requires.some in omega arith) in
    hung_here c.args.nodes.now c.args.link c.args.above _ _ some (node_got c.args.nodes.now (c.args.link - 1) c.index-nodes-link.result inside c.index-nodes-link.is) refl refl refl refl
