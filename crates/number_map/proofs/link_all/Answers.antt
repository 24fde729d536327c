use Rattle.std.proofs.Common.{◌≡◌, ◌<◌, ◌+◌, suc, sym, ◌∙◌, refl, arith, length}
use Rattle.number_map.specs.Kept.{IsUnique, entries_of}
use Rattle.number_map.proofs.Rows.{same_some, node_got, same_len}
use Rattle.number_map.proofs.Planted.{planted_none, blank_way, blank_above, blank_same, blank_joined}
use Rattle.number_map.proofs.link_all.Goals as goal

pub loop-place-init : goal.loop-place-init
loop-place-init g c = (planted_none c.args.nodes.now c.args.heads.now c.requires.empty (λ h. c.requires.some) c.requires.short, refl, refl, refl)

pub lead-requires-clause-way : goal.lead-requires-clause-way
lead-requires-clause-way g c =
    let inv = c.loop-place.invariant in
    let i : c.loop-place.place < length c.loop-place.nodes = (let l = inv.2 in let t = c.loop-place-test.true in omega arith) in
    let at = node_got c.loop-place.nodes c.loop-place.place c.index-nodes-place.result i c.index-nodes-place.is in
    let again = node_got c.loop-place.nodes c.loop-place.place c.index-nodes-place-in-loop-place.result i c.index-nodes-place-in-loop-place.is in
    rw (same_some _ _ (sym again ∙ at)) (blank_way c.loop-place.nodes c.loop-place.heads c.loop-place.place _ at inv.0 c.number.result)

pub lead-requires-clause-above : goal.lead-requires-clause-above
lead-requires-clause-above g c =
    let inv = c.loop-place.invariant in
    let i : c.loop-place.place < length c.loop-place.nodes = (let l = inv.2 in let t = c.loop-place-test.true in omega arith) in
    let at = node_got c.loop-place.nodes c.loop-place.place c.index-nodes-place.result i c.index-nodes-place.is in
    let again = node_got c.loop-place.nodes c.loop-place.place c.index-nodes-place-in-loop-place.result i c.index-nodes-place-in-loop-place.is in
    let up : c.loop-place.place + 1 ≡ suc c.loop-place.place = omega arith in
    rw (same_some _ _ (sym again ∙ at)) (blank_above c.loop-place.nodes c.loop-place.heads c.loop-place.place _ at inv.0 (c.loop-place.place + 1) up)

pub loop-place-preserved : goal.loop-place-preserved
loop-place-preserved g c =
    let inv = c.loop-place.invariant in
    let i : c.loop-place.place < length c.loop-place.nodes = (let l = inv.2 in let t = c.loop-place-test.true in omega arith) in
    let at = node_got c.loop-place.nodes c.loop-place.place c.index-nodes-place.result i c.index-nodes-place.is in
    let again = node_got c.loop-place.nodes c.loop-place.place c.index-nodes-place-in-loop-place.result i c.index-nodes-place-in-loop-place.is in
    let one = same_some _ _ (sym again ∙ at) in
    let led = rw one at c.lead.ensures.led in
    let entries = rw one at c.lead.ensures.entries in
    let unique : IsUnique (entries_of c.loop-place.nodes) = rw inv.1 c.requires.unique in
    let up : c.loop-place.place + 1 ≡ suc c.loop-place.place = omega arith in
    let same = blank_same c.loop-place.nodes c.loop-place.heads c.loop-place.place _ at inv.0 c.lead.new.nodes c.lead.new.heads c.number.result (c.loop-place.place + 1) c.number.ensures up
    led entries c.lead.ensures.heads unique in (
      rw up (blank_joined c.loop-place.nodes c.loop-place.heads c.loop-place.place _ at inv.0 c.lead.new.nodes c.lead.new.heads c.number.result (c.loop-place.place + 1) c.number.ensures up
          led entries c.lead.ensures.heads unique),
      same ∙ inv.1,
      same_len c.loop-place.nodes c.lead.new.nodes same ∙ inv.2,
      c.lead.ensures.heads ∙ inv.3,
    )
