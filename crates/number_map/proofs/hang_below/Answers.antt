use Rattle.std.proofs.Common.{arith}
use Rattle.number_map.proofs.Rows.{node_got, link_of_some, same_len, both_hung}
use Rattle.number_map.proofs.hang_below.Goals as goal

pub hang_any-requires : goal.hang_any-requires
hang_any-requires g c =
    let at = node_got c.args.nodes.now c.args.place c.index-nodes-place.result c.requires.place c.index-nodes-place.is in
    let e = link_of_some c.args.nodes.now c.args.place 0 _ at in
    let i = c.requires.inside 0 in omega arith

pub hang_any-requires-2 : goal.hang_any-requires-2
hang_any-requires-2 g c =
    let at = node_got c.args.nodes.now c.args.place c.index-nodes-place.result c.requires.place c.index-nodes-place.is in
    let e = link_of_some c.args.nodes.now c.args.place 1 _ at in
    let l = same_len c.args.nodes.now c.hang_any.new.nodes c.hang_any.ensures.entries in
    let i = c.requires.inside 1 in omega arith

pub returns : goal.returns
returns g c =
    let at = node_got c.args.nodes.now c.args.place c.index-nodes-place.result c.requires.place c.index-nodes-place.is in
    both_hung c.args.nodes.now c.hang_any.new.nodes c.hang_any-2.new.nodes c.args.place c.args.above _ at c.hang_any.ensures c.hang_any-2.ensures
