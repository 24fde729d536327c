use Rattle.std.proofs.Common.{◌≡◌, ◌-◌, ◌<◌, suc, ◌∙◌, arith, length}
use Rattle.std.proofs.lemmas.List.{length-set}
use Rattle.number_map.proofs.Rows.{node_read, node_got, leading_first, leading_next, leading_less, turned_entries, led_below}
use Rattle.number_map.proofs.lead_below.Goals as goal

pub loop-link-init : goal.loop-link-init
loop-link-init g c =
    let i : c.args.first - 1 < length c.args.nodes.now = (let s = c.requires.some in let l = c.requires.inside in omega arith) in (
      c.requires.some,
      rw (← c.index-nodes-above.is) (leading_first c.args.nodes.now c.args.first c.args.key c.requires.way c.requires.some
          c.index-nodes-above.result (node_read c.args.nodes.now _ c.index-nodes-above.result i c.index-nodes-above.is)),
    )

pub loop-link-smaller : goal.loop-link-smaller
loop-link-smaller g c =
    let up : suc (c.loop-link.above - 1) ≡ c.loop-link.above = (let s = c.loop-link.invariant.0 in omega arith) in
    let l = leading_less c.args.nodes.now c.args.first c.args.key c.requires.way (c.loop-link.above - 1) c.loop-link.bits c.loop-link.link c.loop-link.invariant.1 c.loop-link-test.true in
    rw up at l

pub loop-link-preserved : goal.loop-link-preserved
loop-link-preserved g c =
    let inv = c.loop-link.invariant.1 in
    let i : c.loop-link.link - 1 < length c.args.nodes.now = (let s = c.loop-link-test.true in let l = inv.low in omega arith) in (
      c.loop-link-test.true,
      rw (← c.index-nodes-above-in-loop-link.is) (leading_next c.args.nodes.now c.args.first c.args.key c.requires.way (c.loop-link.above - 1) c.loop-link.bits c.loop-link.link inv c.loop-link-test.true
          c.index-nodes-above-in-loop-link.result (node_read c.args.nodes.now _ c.index-nodes-above-in-loop-link.result i c.index-nodes-above-in-loop-link.is)),
    )

pub hang-requires-clause-inside : goal.hang-requires-clause-inside
hang-requires-clause-inside g c = let l = length-set c.args.nodes.now (c.loop-link.above - 1) c.turn_link.new.node in let t = c.requires.to.1 in omega arith

pub returns-clause-led : goal.returns-clause-led
returns-clause-led g c =
    let inv = c.loop-link.invariant.1 in
    let at = node_got c.args.nodes.now (c.loop-link.above - 1) c.index-nodes-above-2.result inv.inside c.index-nodes-above-2.is in
    let up : c.loop-link.above ≡ suc (c.loop-link.above - 1) = (let s = c.loop-link.invariant.0 in omega arith) in
    let none : c.loop-link.link ≡ 0 = (let t = c.loop-link-test.false in omega arith) in
    led_below c.args.nodes.now (c.loop-link.above - 1) _ c.turn_link.new.node at c.hang.new.nodes c.args.first c.args.key c.args.to c.loop-link.bits c.loop-link.link
    inv none c.turn_link.ensures.here c.turn_link.ensures.others c.turn_link.ensures.above c.loop-link.above up c.hang.ensures c.requires.to.0

pub returns-clause-entries : goal.returns-clause-entries
returns-clause-entries g c =
    let at = node_got c.args.nodes.now (c.loop-link.above - 1) c.index-nodes-above-2.result c.loop-link.invariant.1.inside c.index-nodes-above-2.is in
    c.hang.ensures.entries ∙ turned_entries c.args.nodes.now (c.loop-link.above - 1) _ c.turn_link.new.node at c.turn_link.ensures.key c.turn_link.ensures.value
