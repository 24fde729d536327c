use Rattle.std.proofs.Common.{◌≡◌, ◌-◌, ◌^◌, ◌/◌, suc, refl, ap, sym, ◌∙◌, arith, slice_get, slice_index_or}
use Rattle.number_map.specs.Kept.{head_at}
use Rattle.number_map.proofs.Trees.{next_bits}
use Rattle.number_map.proofs.Rows.{same_some, node_read, way_inside, way_ends, next_link, next_less, later_first, later_next, none_later}
use Rattle.number_map.proofs.find.Goals as goal

pub returns-then-first-eq0-clause-missing : goal.returns-then-first-eq0-clause-missing
returns-then-first-eq0-clause-missing g c e =
    let at = ap (λ i. slice_index_or c.args.heads.now i 0) c.slot_of.ensures.value in
    none_later c.args.nodes.now c.args.heads.now c.args.key 0 (later_first c.args.nodes.now c.args.heads.now c.args.key c.requires) (sym c.if-first-eq0.true ∙ at)

pub bounds-nodes-first : goal.bounds-nodes-first
bounds-nodes-first g c =
    let f = c.if-first-eq0.false in
    let up : slice_index_or c.args.heads.now c.slot_of.result 0 ≡ suc (slice_index_or c.args.heads.now c.slot_of.result 0 - 1) = omega (arith, f) in
    let at = ap (λ i. slice_index_or c.args.heads.now i 0) c.slot_of.ensures.value in
    let w = way_inside c.args.nodes.now c.args.heads.now _ _ c.requires c.args.key 0 _ (sym at ∙ up) in
    w

pub offset_bounds-nodes-first : goal.offset_bounds-nodes-first
offset_bounds-nodes-first g c =
    let f = c.if-first-eq0.false in
    let up : slice_index_or c.args.heads.now c.slot_of.result 0 ≡ suc (slice_index_or c.args.heads.now c.slot_of.result 0 - 1) = omega (arith, f) in
    let at = ap (λ i. slice_index_or c.args.heads.now i 0) c.slot_of.ensures.value in
    let w = way_inside c.args.nodes.now c.args.heads.now _ _ c.requires c.args.key 0 _ (sym at ∙ up) in
    omega (arith, w)

pub returns-then-number-key-clause-found : goal.returns-then-number-key-clause-found
returns-then-number-key-clause-found g c x e =
    let f = c.if-first-eq0.false in
    let up : slice_index_or c.args.heads.now c.slot_of.result 0 ≡ suc (slice_index_or c.args.heads.now c.slot_of.result 0 - 1) = omega (arith, f) in
    let at = ap (λ i. slice_index_or c.args.heads.now i 0) c.slot_of.ensures.value in
    let w = way_inside c.args.nodes.now c.args.heads.now _ _ c.requires c.args.key 0 _ (sym at ∙ up) in
    let read = node_read c.args.nodes.now (slice_index_or c.args.heads.now c.slot_of.result 0 - 1) c.index-nodes-first.result w c.index-nodes-first.is in
    (c.index-nodes-first.result, ap (slice_get c.args.nodes.now) (sym (same_some _ x e)) ∙ read, sym c.number.ensures ∙ c.if-number-key.true)

pub returns-then-number-key-2-clause-found : goal.returns-then-number-key-2-clause-found
returns-then-number-key-2-clause-found g c x e =
    let read = node_read c.args.nodes.now c.args.hint _ c.if-hint-nodes.true c.index-nodes-hint.is in
    (c.index-nodes-hint.result, ap (slice_get c.args.nodes.now) (sym (same_some _ x e)) ∙ read, rw c.index-nodes-hint.is (sym c.number-then-hint-nodes.ensures ∙ c.if-number-key-2.true))

pub loop-link-init : goal.loop-link-init
loop-link-init g c =
    let f = c.if-first-eq0.false in
    let up : slice_index_or c.args.heads.now c.slot_of.result 0 ≡ suc (slice_index_or c.args.heads.now c.slot_of.result 0 - 1) = omega (arith, f) in
    let at = ap (λ i. slice_index_or c.args.heads.now i 0) c.slot_of.ensures.value in
    let w = way_inside c.args.nodes.now c.args.heads.now _ _ c.requires c.args.key 0 _ (sym at ∙ up) in
    let read = node_read c.args.nodes.now (slice_index_or c.args.heads.now c.slot_of.result 0 - 1) c.index-nodes-first.result w c.index-nodes-first.is in
    let one : c.args.key ≡ c.args.key / 2 ^ 0 = grind arith in
    let later = later_first c.args.nodes.now c.args.heads.now c.args.key c.requires in (
      1,
      next_bits c.args.key 0 c.args.key one,
      next_link c.args.nodes.now (head_at c.args.heads.now c.args.key) c.args.key 0 c.args.key _ one (sym up ∙ at) c.index-nodes-first.result read,
      later_next c.args.nodes.now c.args.heads.now c.args.key 0 _ later (sym up ∙ at) c.index-nodes-first.result read (λ e. c.if-number-key.false (c.number.ensures ∙ e)),
    )

pub bounds-nodes-place : goal.bounds-nodes-place
bounds-nodes-place g c =
    let inv = c.loop-link.invariant in
    let t = c.loop-link-test.true in
    let up : c.loop-link.link ≡ suc (c.loop-link.link - 1) = omega arith in
    let w = way_inside c.args.nodes.now c.args.heads.now _ _ c.requires c.args.key inv.0 _ (sym inv.2 ∙ up) in
    w

pub offset_bounds-nodes-place : goal.offset_bounds-nodes-place
offset_bounds-nodes-place g c =
    let inv = c.loop-link.invariant in
    let t = c.loop-link-test.true in
    let up : c.loop-link.link ≡ suc (c.loop-link.link - 1) = omega arith in
    let w = way_inside c.args.nodes.now c.args.heads.now _ _ c.requires c.args.key inv.0 _ (sym inv.2 ∙ up) in
    omega (arith, w)

pub returns-then-number-key-3-clause-found : goal.returns-then-number-key-3-clause-found
returns-then-number-key-3-clause-found g c x e =
    let inv = c.loop-link.invariant in
    let t = c.loop-link-test.true in
    let up : c.loop-link.link ≡ suc (c.loop-link.link - 1) = omega arith in
    let w = way_inside c.args.nodes.now c.args.heads.now _ _ c.requires c.args.key inv.0 _ (sym inv.2 ∙ up) in
    let at = node_read c.args.nodes.now (c.loop-link.link - 1) c.index-nodes-place.result w c.index-nodes-place.is in
    (c.index-nodes-place.result, ap (slice_get c.args.nodes.now) (sym (same_some _ x e)) ∙ at, sym c.number-in-loop-link.ensures ∙ c.if-number-key-3.true)

pub loop-link-smaller : goal.loop-link-smaller
loop-link-smaller g c =
    let inv = c.loop-link.invariant in
    let t = c.loop-link-test.true in
    let up : c.loop-link.link ≡ suc (c.loop-link.link - 1) = omega arith in
    let w = way_inside c.args.nodes.now c.args.heads.now _ _ c.requires c.args.key inv.0 _ (sym inv.2 ∙ up) in
    let at = node_read c.args.nodes.now (c.loop-link.link - 1) c.index-nodes-place.result w c.index-nodes-place.is in
    rw up (next_less c.args.nodes.now (head_at c.args.heads.now c.args.key) c.args.key inv.0 c.loop-link.bits _ inv.1 (sym up ∙ inv.2) c.index-nodes-place.result at
    (way_ends c.args.nodes.now c.args.heads.now _ _ c.requires c.args.key) _ refl)

pub loop-link-preserved : goal.loop-link-preserved
loop-link-preserved g c =
    let inv = c.loop-link.invariant in
    let t = c.loop-link-test.true in
    let up : c.loop-link.link ≡ suc (c.loop-link.link - 1) = omega arith in
    let w = way_inside c.args.nodes.now c.args.heads.now _ _ c.requires c.args.key inv.0 _ (sym inv.2 ∙ up) in
    let at = node_read c.args.nodes.now (c.loop-link.link - 1) c.index-nodes-place.result w c.index-nodes-place.is in (
      suc inv.0,
      next_bits c.args.key inv.0 c.loop-link.bits inv.1,
      next_link c.args.nodes.now (head_at c.args.heads.now c.args.key) c.args.key inv.0 c.loop-link.bits _ inv.1 (sym up ∙ inv.2) c.index-nodes-place.result at,
      later_next c.args.nodes.now c.args.heads.now c.args.key inv.0 _ inv.3 (sym up ∙ inv.2) c.index-nodes-place.result at (λ e. c.if-number-key-3.false (c.number-in-loop-link.ensures ∙ e)),
    )

pub returns-clause-missing : goal.returns-clause-missing
returns-clause-missing g c e =
    let inv = c.loop-link.invariant in
    let z : 0 ≡ c.loop-link.link = (let t = c.loop-link-test.false in omega arith) in
    none_later c.args.nodes.now c.args.heads.now c.args.key inv.0 inv.3 (z ∙ inv.2)
