use Rattle.std.proofs.Common.{◌≡◌, ◌-◌, ◌^◌, ◌/◌, ◌%◌, inl, inr, suc, length, refl, ap, sym, ◌∙◌, arith, slice_index_or}
use Rattle.number_map.specs.Kept.{walk, link_at, head_at, key_in}
use Rattle.number_map.proofs.Trees.{equal_or_not, next_bits}
use Rattle.number_map.proofs.Rows.{node_read, node_got, way_inside, way_ends, next_link, next_less, later_first, later_next, some_on, none_kept}
use Rattle.number_map.proofs.find_there.Goals as goal

pub slot_of-requires : goal.slot_of-requires
slot_of-requires g c =
    elim (equal_or_not (length c.args.heads.now) 0) [
      | inl z ↦ absurd (none_kept c.args.nodes.now c.args.heads.now c.args.key c.requires.indexed z c.requires.there.0 c.requires.there.1)
      | inr n ↦ omega arith
    ]

pub overflow_sub-first : goal.overflow_sub-first
overflow_sub-first g c =
    let at : slice_index_or c.args.heads.now c.slot_of.result 0 ≡ walk (link_at c.args.nodes.now) (head_at c.args.heads.now c.args.key) c.args.key 0 = ap (λ i. slice_index_or c.args.heads.now i 0) c.slot_of.ensures.value in
    let later = later_first c.args.nodes.now c.args.heads.now c.args.key c.requires.indexed in
    let some = some_on c.args.nodes.now c.args.heads.now c.args.key 0 later c.requires.there.0 c.requires.there.1 in
    let up : suc (slice_index_or c.args.heads.now c.slot_of.result 0 - 1) ≡ slice_index_or c.args.heads.now c.slot_of.result 0 = omega (arith, some, at) in
    let w = way_inside c.args.nodes.now c.args.heads.now _ _ c.requires.indexed c.args.key 0 _ (sym (up ∙ at)) in
    omega (arith, some, at)

pub bounds-nodes-first : goal.bounds-nodes-first
bounds-nodes-first g c =
    let at : slice_index_or c.args.heads.now c.slot_of.result 0 ≡ walk (link_at c.args.nodes.now) (head_at c.args.heads.now c.args.key) c.args.key 0 = ap (λ i. slice_index_or c.args.heads.now i 0) c.slot_of.ensures.value in
    let later = later_first c.args.nodes.now c.args.heads.now c.args.key c.requires.indexed in
    let some = some_on c.args.nodes.now c.args.heads.now c.args.key 0 later c.requires.there.0 c.requires.there.1 in
    let up : suc (slice_index_or c.args.heads.now c.slot_of.result 0 - 1) ≡ slice_index_or c.args.heads.now c.slot_of.result 0 = omega (arith, some, at) in
    let w = way_inside c.args.nodes.now c.args.heads.now _ _ c.requires.indexed c.args.key 0 _ (sym (up ∙ at)) in
    w

pub offset_bounds-nodes-first : goal.offset_bounds-nodes-first
offset_bounds-nodes-first g c =
    let at : slice_index_or c.args.heads.now c.slot_of.result 0 ≡ walk (link_at c.args.nodes.now) (head_at c.args.heads.now c.args.key) c.args.key 0 = ap (λ i. slice_index_or c.args.heads.now i 0) c.slot_of.ensures.value in
    let later = later_first c.args.nodes.now c.args.heads.now c.args.key c.requires.indexed in
    let some = some_on c.args.nodes.now c.args.heads.now c.args.key 0 later c.requires.there.0 c.requires.there.1 in
    let up : suc (slice_index_or c.args.heads.now c.slot_of.result 0 - 1) ≡ slice_index_or c.args.heads.now c.slot_of.result 0 = omega (arith, some, at) in
    let w = way_inside c.args.nodes.now c.args.heads.now _ _ c.requires.indexed c.args.key 0 _ (sym (up ∙ at)) in
    omega (arith, w)

pub returns-then-number-key : goal.returns-then-number-key
returns-then-number-key g c =
    let at : slice_index_or c.args.heads.now c.slot_of.result 0 ≡ walk (link_at c.args.nodes.now) (head_at c.args.heads.now c.args.key) c.args.key 0 = ap (λ i. slice_index_or c.args.heads.now i 0) c.slot_of.ensures.value in
    let later = later_first c.args.nodes.now c.args.heads.now c.args.key c.requires.indexed in
    let some = some_on c.args.nodes.now c.args.heads.now c.args.key 0 later c.requires.there.0 c.requires.there.1 in
    let up : suc (slice_index_or c.args.heads.now c.slot_of.result 0 - 1) ≡ slice_index_or c.args.heads.now c.slot_of.result 0 = omega (arith, some, at) in
    let w = way_inside c.args.nodes.now c.args.heads.now _ _ c.requires.indexed c.args.key 0 _ (sym (up ∙ at)) in
    (c.index-nodes-first.result, node_read c.args.nodes.now (slice_index_or c.args.heads.now c.slot_of.result 0 - 1) c.index-nodes-first.result w c.index-nodes-first.is, sym c.number.ensures ∙ c.if-number-key.true)

pub returns-then-number-key-2 : goal.returns-then-number-key-2
returns-then-number-key-2 g c =
    let read = node_read c.args.nodes.now c.get-hint.result _ c.if-hint-nodes.true c.index-nodes-hint.is in
    (c.index-nodes-hint.result, read, rw c.index-nodes-hint.is (sym c.number-then-hint-nodes.ensures ∙ c.if-number-key-2.true))

pub overflow_sub-place : goal.overflow_sub-place
overflow_sub-place g c =
    let at : slice_index_or c.args.heads.now c.slot_of.result 0 ≡ walk (link_at c.args.nodes.now) (head_at c.args.heads.now c.args.key) c.args.key 0 = ap (λ i. slice_index_or c.args.heads.now i 0) c.slot_of.ensures.value in
    let later = later_first c.args.nodes.now c.args.heads.now c.args.key c.requires.indexed in
    let some = some_on c.args.nodes.now c.args.heads.now c.args.key 0 later c.requires.there.0 c.requires.there.1 in
    let up : suc (slice_index_or c.args.heads.now c.slot_of.result 0 - 1) ≡ slice_index_or c.args.heads.now c.slot_of.result 0 = omega (arith, some, at) in
    let w = way_inside c.args.nodes.now c.args.heads.now _ _ c.requires.indexed c.args.key 0 _ (sym (up ∙ at)) in
    let read = node_read c.args.nodes.now (slice_index_or c.args.heads.now c.slot_of.result 0 - 1) c.index-nodes-first.result w c.index-nodes-first.is in
    let one : c.args.key ≡ c.args.key / 2 ^ 0 = grind arith in
    let next = next_link c.args.nodes.now (head_at c.args.heads.now c.args.key) c.args.key 0 c.args.key _ one (up ∙ at) c.index-nodes-first.result read in
    let after = later_next c.args.nodes.now c.args.heads.now c.args.key 0 _ later (up ∙ at) c.index-nodes-first.result read (λ e. c.if-number-key.false (c.number.ensures ∙ e)) in
    let more = some_on c.args.nodes.now c.args.heads.now c.args.key 1 after c.requires.there.0 c.requires.there.1 in
    omega (arith, more, next)

pub loop-place-init : goal.loop-place-init
loop-place-init g c =
    let at : slice_index_or c.args.heads.now c.slot_of.result 0 ≡ walk (link_at c.args.nodes.now) (head_at c.args.heads.now c.args.key) c.args.key 0 = ap (λ i. slice_index_or c.args.heads.now i 0) c.slot_of.ensures.value in
    let later = later_first c.args.nodes.now c.args.heads.now c.args.key c.requires.indexed in
    let some = some_on c.args.nodes.now c.args.heads.now c.args.key 0 later c.requires.there.0 c.requires.there.1 in
    let up : suc (slice_index_or c.args.heads.now c.slot_of.result 0 - 1) ≡ slice_index_or c.args.heads.now c.slot_of.result 0 = omega (arith, some, at) in
    let w = way_inside c.args.nodes.now c.args.heads.now _ _ c.requires.indexed c.args.key 0 _ (sym (up ∙ at)) in
    let read = node_read c.args.nodes.now (slice_index_or c.args.heads.now c.slot_of.result 0 - 1) c.index-nodes-first.result w c.index-nodes-first.is in
    let one : c.args.key ≡ c.args.key / 2 ^ 0 = grind arith in
    let next = next_link c.args.nodes.now (head_at c.args.heads.now c.args.key) c.args.key 0 c.args.key _ one (up ∙ at) c.index-nodes-first.result read in
    let after = later_next c.args.nodes.now c.args.heads.now c.args.key 0 _ later (up ∙ at) c.index-nodes-first.result read (λ e. c.if-number-key.false (c.number.ensures ∙ e)) in
    let more = some_on c.args.nodes.now c.args.heads.now c.args.key 1 after c.requires.there.0 c.requires.there.1 in
    let on : suc (slice_index_or c.index-nodes-first.result.links (c.args.key % 2) 0 - 1) ≡ slice_index_or c.index-nodes-first.result.links (c.args.key % 2) 0 = omega (arith, more, next) in
    (1, next_bits c.args.key 0 c.args.key one, on ∙ next, after)

pub bounds-nodes-place : goal.bounds-nodes-place
bounds-nodes-place g c =
    let inv = c.loop-place.invariant in
    let w = way_inside c.args.nodes.now c.args.heads.now _ _ c.requires.indexed c.args.key inv.0 _ (sym inv.2) in
    w

pub bounds-nodes-place-in-loop-place : goal.bounds-nodes-place-in-loop-place
bounds-nodes-place-in-loop-place g c =
    let inv = c.loop-place.invariant in
    let w = way_inside c.args.nodes.now c.args.heads.now _ _ c.requires.indexed c.args.key inv.0 _ (sym inv.2) in
    w

pub bounds-nodes-place-in-loop-place-2 : goal.bounds-nodes-place-in-loop-place-2
bounds-nodes-place-in-loop-place-2 g c =
    let inv = c.loop-place.invariant in
    let w = way_inside c.args.nodes.now c.args.heads.now _ _ c.requires.indexed c.args.key inv.0 _ (sym inv.2) in
    w

pub offset_bounds-nodes-place : goal.offset_bounds-nodes-place
offset_bounds-nodes-place g c =
    let inv = c.loop-place.invariant in
    let w = way_inside c.args.nodes.now c.args.heads.now _ _ c.requires.indexed c.args.key inv.0 _ (sym inv.2) in
    omega (arith, w)

pub offset_bounds-nodes-place-in-loop-place : goal.offset_bounds-nodes-place-in-loop-place
offset_bounds-nodes-place-in-loop-place g c =
    let inv = c.loop-place.invariant in
    let w = way_inside c.args.nodes.now c.args.heads.now _ _ c.requires.indexed c.args.key inv.0 _ (sym inv.2) in
    omega (arith, w)

pub overflow_sub-place-in-loop-place : goal.overflow_sub-place-in-loop-place
overflow_sub-place-in-loop-place g c =
    let inv = c.loop-place.invariant in
    let w = way_inside c.args.nodes.now c.args.heads.now _ _ c.requires.indexed c.args.key inv.0 _ (sym inv.2) in
    let at = node_got c.args.nodes.now c.loop-place.place c.index-nodes-place-in-loop-place.result w c.index-nodes-place-in-loop-place.is in
    let next = next_link c.args.nodes.now (head_at c.args.heads.now c.args.key) c.args.key inv.0 c.loop-place.bits _ inv.1 inv.2 (slice_index_or c.args.nodes.now c.loop-place.place c.index-nodes-place-in-loop-place.result) at in
    let own : (slice_index_or c.args.nodes.now c.loop-place.place c.index-nodes-place.result).key ≡ (slice_index_or c.args.nodes.now c.loop-place.place c.index-nodes-place-in-loop-place.result).key = ap (λ k. key_in k) (sym (node_got c.args.nodes.now c.loop-place.place c.index-nodes-place.result w c.index-nodes-place.is) ∙ at) in
    let after = later_next c.args.nodes.now c.args.heads.now c.args.key inv.0 _ inv.3 inv.2 (slice_index_or c.args.nodes.now c.loop-place.place c.index-nodes-place-in-loop-place.result) at (λ e. c.loop-place-test.true (c.number-in-loop-place.ensures ∙ own ∙ e)) in
    let more = some_on c.args.nodes.now c.args.heads.now c.args.key (suc inv.0) after c.requires.there.0 c.requires.there.1 in
    omega (arith, more, next)

pub loop-place-smaller : goal.loop-place-smaller
loop-place-smaller g c =
    let inv = c.loop-place.invariant in
    let w = way_inside c.args.nodes.now c.args.heads.now _ _ c.requires.indexed c.args.key inv.0 _ (sym inv.2) in
    let at = node_got c.args.nodes.now c.loop-place.place c.index-nodes-place-in-loop-place.result w c.index-nodes-place-in-loop-place.is in
    let next = next_link c.args.nodes.now (head_at c.args.heads.now c.args.key) c.args.key inv.0 c.loop-place.bits _ inv.1 inv.2 (slice_index_or c.args.nodes.now c.loop-place.place c.index-nodes-place-in-loop-place.result) at in
    let own : (slice_index_or c.args.nodes.now c.loop-place.place c.index-nodes-place.result).key ≡ (slice_index_or c.args.nodes.now c.loop-place.place c.index-nodes-place-in-loop-place.result).key = ap (λ k. key_in k) (sym (node_got c.args.nodes.now c.loop-place.place c.index-nodes-place.result w c.index-nodes-place.is) ∙ at) in
    let after = later_next c.args.nodes.now c.args.heads.now c.args.key inv.0 _ inv.3 inv.2 (slice_index_or c.args.nodes.now c.loop-place.place c.index-nodes-place-in-loop-place.result) at (λ e. c.loop-place-test.true (c.number-in-loop-place.ensures ∙ own ∙ e)) in
    let more = some_on c.args.nodes.now c.args.heads.now c.args.key (suc inv.0) after c.requires.there.0 c.requires.there.1 in
    let on : suc (slice_index_or (slice_index_or c.args.nodes.now c.loop-place.place c.index-nodes-place-in-loop-place.result).links (c.loop-place.bits % 2) 0 - 1) ≡ slice_index_or (slice_index_or c.args.nodes.now c.loop-place.place c.index-nodes-place-in-loop-place.result).links (c.loop-place.bits % 2) 0 = omega (arith, more, next) in
    rw on (next_less c.args.nodes.now (head_at c.args.heads.now c.args.key) c.args.key inv.0 c.loop-place.bits _ inv.1 inv.2 (slice_index_or c.args.nodes.now c.loop-place.place c.index-nodes-place-in-loop-place.result) at (way_ends c.args.nodes.now c.args.heads.now _ _ c.requires.indexed c.args.key) _ refl)

pub loop-place-preserved : goal.loop-place-preserved
loop-place-preserved g c =
    let inv = c.loop-place.invariant in
    let w = way_inside c.args.nodes.now c.args.heads.now _ _ c.requires.indexed c.args.key inv.0 _ (sym inv.2) in
    let at = node_got c.args.nodes.now c.loop-place.place c.index-nodes-place-in-loop-place.result w c.index-nodes-place-in-loop-place.is in
    let next = next_link c.args.nodes.now (head_at c.args.heads.now c.args.key) c.args.key inv.0 c.loop-place.bits _ inv.1 inv.2 (slice_index_or c.args.nodes.now c.loop-place.place c.index-nodes-place-in-loop-place.result) at in
    let own : (slice_index_or c.args.nodes.now c.loop-place.place c.index-nodes-place.result).key ≡ (slice_index_or c.args.nodes.now c.loop-place.place c.index-nodes-place-in-loop-place.result).key = ap (λ k. key_in k) (sym (node_got c.args.nodes.now c.loop-place.place c.index-nodes-place.result w c.index-nodes-place.is) ∙ at) in
    let after = later_next c.args.nodes.now c.args.heads.now c.args.key inv.0 _ inv.3 inv.2 (slice_index_or c.args.nodes.now c.loop-place.place c.index-nodes-place-in-loop-place.result) at (λ e. c.loop-place-test.true (c.number-in-loop-place.ensures ∙ own ∙ e)) in
    let more = some_on c.args.nodes.now c.args.heads.now c.args.key (suc inv.0) after c.requires.there.0 c.requires.there.1 in
    let on : suc (slice_index_or (slice_index_or c.args.nodes.now c.loop-place.place c.index-nodes-place-in-loop-place.result).links (c.loop-place.bits % 2) 0 - 1) ≡ slice_index_or (slice_index_or c.args.nodes.now c.loop-place.place c.index-nodes-place-in-loop-place.result).links (c.loop-place.bits % 2) 0 = omega (arith, more, next) in
    (suc inv.0, next_bits c.args.key inv.0 c.loop-place.bits inv.1, on ∙ next, after)

pub returns : goal.returns
returns g c =
    let inv = c.loop-place.invariant in
    let w = way_inside c.args.nodes.now c.args.heads.now _ _ c.requires.indexed c.args.key inv.0 _ (sym inv.2) in
    let read = node_got c.args.nodes.now c.loop-place.place c.index-nodes-place.result w c.index-nodes-place.is in
    (slice_index_or c.args.nodes.now c.loop-place.place c.index-nodes-place.result, read, sym c.number-in-loop-place.ensures ∙ c.loop-place-test.false)
