use Rattle.std.proofs.Common.{◌≡◌, ◌<◌, ◌+◌, ◌-◌, suc, sym, ◌∙◌, arith, length, slice_set}
use Rattle.std.proofs.lemmas.List.{length-set}
use Rattle.number_map.proofs.Rows.{there, wrote, popped_len, same_len, node_read, key_of_some}
use Rattle.number_map.proofs.Planted.{indexed_last, moved_last, cut_inside, indexed_moved, moved_there}
use Rattle.number_map.proofs.close.Goals as goal

pub returns-then-hole-end-clause-indexed : goal.returns-then-hole-end-clause-indexed
returns-then-hole-end-clause-indexed g c =
    let end : c.len-end.result ≡ length c.args.nodes.now.items = omega (arith, c.len-end.ensures, c.args.nodes.now.ok.0) in
    let some = (there c.args.nodes.now.items c.args.hole c.requires.hole).0 in
    let popped = rw (c.pop.ensures.value some (let h = c.requires.hole in omega (arith, c.args.nodes.now.ok.0))) at c.pop.ensures.items in
    let len : length c.args.nodes.now.items ≡ suc (length c.pop.new.self.items) = popped_len c.args.nodes.now.items c.pop.new.self.items _ popped in
    indexed_last c.pop.new.self.items _ c.args.heads.now.items c.args.hole (rw popped at c.requires.planted)
    (let t = c.if-hole-end.true in omega arith) (rw popped at c.requires.hole)

pub returns-then-hole-end-clause-moved : goal.returns-then-hole-end-clause-moved
returns-then-hole-end-clause-moved g c =
    let end : c.len-end.result ≡ length c.args.nodes.now.items = omega (arith, c.len-end.ensures, c.args.nodes.now.ok.0) in
    let some = (there c.args.nodes.now.items c.args.hole c.requires.hole).0 in
    let popped = rw (c.pop.ensures.value some (let h = c.requires.hole in omega (arith, c.args.nodes.now.ok.0))) at c.pop.ensures.items in
    let len : length c.args.nodes.now.items ≡ suc (length c.pop.new.self.items) = popped_len c.args.nodes.now.items c.pop.new.self.items _ popped in
    rw popped (moved_last c.pop.new.self.items _ c.args.heads.now.items c.args.hole (rw popped at c.requires.planted)
    (let t = c.if-hole-end.true in omega arith) (rw popped at c.requires.hole))

pub turn-requires-clause-planted : goal.turn-requires-clause-planted
turn-requires-clause-planted g c =
    let end : c.len-end.result ≡ length c.args.nodes.now.items = omega (arith, c.len-end.ensures, c.args.nodes.now.ok.0) in
    let more : c.args.hole + 1 < c.len-end.result = (let t = c.if-hole-end.false in omega arith) in
    rw (c.as_mut_slice-row.ensures.value, c.as_mut_slice.ensures.value) (suc c.args.hole, (λ e. omega arith), c.requires.planted)

pub turn-requires-clause-key : goal.turn-requires-clause-key
turn-requires-clause-key g c =
    let end : c.len-end.result ≡ length c.args.nodes.now.items = omega (arith, c.len-end.ensures, c.args.nodes.now.ok.0) in
    let more : c.args.hole + 1 < c.len-end.result = (let t = c.if-hole-end.false in omega arith) in
    let at = node_read c.args.nodes.now.items (c.len-end.result - 1) c.index.result.now (omega arith) c.index.ensures in
    rw c.as_mut_slice-row.ensures.value (key_of_some c.args.nodes.now.items (c.len-end.result - 1) c.index.result.now at ∙ sym c.number-key.ensures)

pub hang_below-requires-clause-inside : goal.hang_below-requires-clause-inside
hang_below-requires-clause-inside g c =
    let end : c.len-end.result ≡ length c.args.nodes.now.items = omega (arith, c.len-end.ensures, c.args.nodes.now.ok.0) in
    let more : c.args.hole + 1 < c.len-end.result = (let t = c.if-hole-end.false in omega arith) in
    let cut = rw (c.as_mut_slice-row.ensures.value, c.as_mut_slice.ensures.value) at c.turn.ensures in
    λ i. cut_inside c.args.nodes.now.items c.turn.new.nodes c.args.heads.now.items c.turn.new.heads (c.len-end.result - 1) (c.args.hole + 1) (suc c.args.hole) c.requires.planted cut (omega arith) (c.len-end.result - 1) i (omega arith)

pub returns-clause-indexed : goal.returns-clause-indexed
returns-clause-indexed g c =
    let end : c.len-end.result ≡ length c.args.nodes.now.items = omega (arith, c.len-end.ensures, c.args.nodes.now.ok.0) in
    let more : c.args.hole + 1 < c.len-end.result = (let t = c.if-hole-end.false in omega arith) in
    let up : c.args.hole + 1 ≡ suc c.args.hole = omega arith in
    let cut = rw (c.as_mut_slice-row.ensures.value, c.as_mut_slice.ensures.value, up) at c.turn.ensures in
    let hung = rw up at c.hang_below.ensures in
    let len1 = same_len c.args.nodes.now.items c.turn.new.nodes cut.entries in
    let len2 = same_len c.turn.new.nodes c.hang_below.new.nodes hung.entries in
    let at = node_read c.hang_below.new.nodes (c.len-end.result - 1) c.index-row-end.result (omega arith) c.index-row-end.is in
    let len3 = length-set c.hang_below.new.nodes c.args.hole c.index-row-end.result in
    let w = wrote (slice_set c.hang_below.new.nodes c.args.hole c.index-row-end.result) c.args.nodes.now.items c.args.nodes.now.len (len3 ∙ len2 ∙ len1) c.args.nodes.now.ok.0 in
    let w2 = wrote c.turn.new.heads c.args.heads.now.items c.args.heads.now.len cut.len c.args.heads.now.ok.0 in
    let some : 0 < c.args.nodes.now.len = omega (arith, c.args.nodes.now.ok.0) in
    let popped = rw (c.pop-2.ensures.value c.index.result.now some, w) at c.pop-2.ensures.items in
    let l : length (slice_set c.hang_below.new.nodes c.args.hole c.index-row-end.result) ≡ suc (length c.pop-2.new.self.items) = popped_len _ c.pop-2.new.self.items _ popped in
    let last : c.len-end.result - 1 ≡ length c.pop-2.new.self.items = omega arith in
    rw w2 (indexed_moved c.args.nodes.now.items c.turn.new.nodes c.hang_below.new.nodes c.pop-2.new.self.items _ c.index-row-end.result c.args.heads.now.items c.turn.new.heads c.args.hole
    c.requires.planted (rw last at cut) (rw last at hung) (rw last at at) (omega arith) popped)

pub returns-clause-moved : goal.returns-clause-moved
returns-clause-moved g c =
    let end : c.len-end.result ≡ length c.args.nodes.now.items = omega (arith, c.len-end.ensures, c.args.nodes.now.ok.0) in
    let more : c.args.hole + 1 < c.len-end.result = (let t = c.if-hole-end.false in omega arith) in
    let up : c.args.hole + 1 ≡ suc c.args.hole = omega arith in
    let cut = rw (c.as_mut_slice-row.ensures.value, c.as_mut_slice.ensures.value, up) at c.turn.ensures in
    let hung = rw up at c.hang_below.ensures in
    let len1 = same_len c.args.nodes.now.items c.turn.new.nodes cut.entries in
    let len2 = same_len c.turn.new.nodes c.hang_below.new.nodes hung.entries in
    let at = node_read c.hang_below.new.nodes (c.len-end.result - 1) c.index-row-end.result (omega arith) c.index-row-end.is in
    let len3 = length-set c.hang_below.new.nodes c.args.hole c.index-row-end.result in
    let w = wrote (slice_set c.hang_below.new.nodes c.args.hole c.index-row-end.result) c.args.nodes.now.items c.args.nodes.now.len (len3 ∙ len2 ∙ len1) c.args.nodes.now.ok.0 in
    let some : 0 < c.args.nodes.now.len = omega (arith, c.args.nodes.now.ok.0) in
    let popped = rw (c.pop-2.ensures.value c.index.result.now some, w) at c.pop-2.ensures.items in
    let l : length (slice_set c.hang_below.new.nodes c.args.hole c.index-row-end.result) ≡ suc (length c.pop-2.new.self.items) = popped_len _ c.pop-2.new.self.items _ popped in
    let last : c.len-end.result - 1 ≡ length c.pop-2.new.self.items = omega arith in
    moved_there c.args.nodes.now.items c.turn.new.nodes c.hang_below.new.nodes c.pop-2.new.self.items _ c.index-row-end.result c.args.heads.now.items c.turn.new.heads c.args.hole
    c.requires.planted (rw last at cut) (rw last at hung) (rw last at at) (omega arith) popped
