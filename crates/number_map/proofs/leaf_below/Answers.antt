use Rattle.std.proofs.Common.{◌≡◌, ◌-◌, suc, refl, sym, ◌∙◌, arith}
use Rattle.number_map.proofs.Rows.{node_read, link_of_some}
use Rattle.number_map.proofs.Planted.{below_of_some, fallen, fall_on, fall_less}
use Rattle.number_map.proofs.leaf_below.Goals as goal

pub loop-link-init : goal.loop-link-init
loop-link-init g c =
    let at = node_read c.args.nodes.now c.args.place c.index-nodes-leaf.result c.requires.place c.index-nodes-leaf.is in
    (0, refl, c.link_below-link.ensures.leads ∙ sym (below_of_some c.args.nodes.now c.args.place _ at), λ z i. link_of_some c.args.nodes.now c.args.place i _ at ∙ c.link_below-link.ensures.none z i)

pub offset_bounds-nodes-leaf-in-loop-link : goal.offset_bounds-nodes-leaf-in-loop-link
offset_bounds-nodes-leaf-in-loop-link g c =
    let inv = c.loop-link.invariant in
    let some = c.loop-link-test.true in
    let r = c.requires.indexed in
    let on = fall_on c.args.nodes.now r.0 r.1 c.args.place c.requires.place c.loop-link.leaf c.loop-link.link inv.0 inv.1 inv.2 in
    let f = fallen c.args.nodes.now r.0 r.1 c.args.place c.requires.place (suc inv.0) c.loop-link.link (sym on) (omega arith) in
    let l = f.0 in omega arith

pub bounds-nodes-leaf-in-loop-link : goal.bounds-nodes-leaf-in-loop-link
bounds-nodes-leaf-in-loop-link g c =
    let inv = c.loop-link.invariant in
    let some = c.loop-link-test.true in
    let r = c.requires.indexed in
    let on = fall_on c.args.nodes.now r.0 r.1 c.args.place c.requires.place c.loop-link.leaf c.loop-link.link inv.0 inv.1 inv.2 in
    let f = fallen c.args.nodes.now r.0 r.1 c.args.place c.requires.place (suc inv.0) c.loop-link.link (sym on) (omega arith) in
    let l = f.0 in omega arith

pub loop-link-smaller : goal.loop-link-smaller
loop-link-smaller g c =
    let inv = c.loop-link.invariant in
    let some = c.loop-link-test.true in
    let r = c.requires.indexed in
    let on = fall_on c.args.nodes.now r.0 r.1 c.args.place c.requires.place c.loop-link.leaf c.loop-link.link inv.0 inv.1 inv.2 in
    let f = fallen c.args.nodes.now r.0 r.1 c.args.place c.requires.place (suc inv.0) c.loop-link.link (sym on) (omega arith) in
    let l = f.0 in
    let at = node_read c.args.nodes.now (c.loop-link.link - 1) c.index-nodes-leaf-in-loop-link.result (omega arith) c.index-nodes-leaf-in-loop-link.is in
    fall_less c.args.nodes.now r.0 r.1 c.args.place c.requires.place c.loop-link.leaf c.loop-link.link inv.0 inv.1 inv.2 some _ (c.link_below-link-in-loop-link.ensures.leads ∙ sym (below_of_some c.args.nodes.now (c.loop-link.link - 1) _ at))

pub loop-link-preserved : goal.loop-link-preserved
loop-link-preserved g c =
    let inv = c.loop-link.invariant in
    let some = c.loop-link-test.true in
    let r = c.requires.indexed in
    let on = fall_on c.args.nodes.now r.0 r.1 c.args.place c.requires.place c.loop-link.leaf c.loop-link.link inv.0 inv.1 inv.2 in
    let f = fallen c.args.nodes.now r.0 r.1 c.args.place c.requires.place (suc inv.0) c.loop-link.link (sym on) (omega arith) in
    let l = f.0 in
    let at = node_read c.args.nodes.now (c.loop-link.link - 1) c.index-nodes-leaf-in-loop-link.result (omega arith) c.index-nodes-leaf-in-loop-link.is in
    let up : suc (c.loop-link.link - 1) ≡ c.loop-link.link = omega arith in
    (suc inv.0, up ∙ on, c.link_below-link-in-loop-link.ensures.leads ∙ sym (below_of_some c.args.nodes.now (c.loop-link.link - 1) _ at), λ z i. link_of_some c.args.nodes.now (c.loop-link.link - 1) i _ at ∙ c.link_below-link-in-loop-link.ensures.none z i)

pub returns : goal.returns
returns g c =
    let inv = c.loop-link.invariant in
    let none : c.loop-link.link ≡ 0 = (let t = c.loop-link-test.false in omega arith) in
    let r = c.requires.indexed in
    record {
      low = let f = fallen c.args.nodes.now r.0 r.1 c.args.place c.requires.place inv.0 (suc c.loop-link.leaf) (sym inv.1) (omega arith) in let l = f.0 in omega arith;
      bare = inv.3 none;
      alike = λ heads s. (fallen c.args.nodes.now heads s c.args.place c.requires.place inv.0 (suc c.loop-link.leaf) (sym inv.1) (omega arith)).2;
    }
