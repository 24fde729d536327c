use Rattle.std.proofs.Common.{◌≡◌, ◌<◌, ◌-◌, ◌∙◌, suc, refl, ap, arith, length, List, [], ◌∷◌, ◌++◌}
use Rattle.std.specs.FinMap as map
use Rattle.std.specs.Ordering.{nat_cmp}
use Rattle.number_map.specs.declared.Node.{Node}
use Rattle.number_map.specs.Kept.{entries_of, above_at}
use Rattle.number_map.proofs.Entries.{lookup_is, map_is, room_is, same_view}
use Rattle.number_map.proofs.Rows.{length_pushed, got_last, same_len, way_out, wrote, above_of_some}
use Rattle.number_map.proofs.Planted.{planted_pushed, pushed_joined, bare_pair, no_links}
use Rattle.number_map.proofs.View.{kept_pushed, table_pushed, unique_joined}
use Rattle.number_map.proofs.NumberMap.insert.Goals as goal

pub lead-requires-clause-way : goal.lead-requires-clause-way
lead-requires-clause-way g c =
    let n : Node g.row.V.Denot = record { key = c.args.key; value = c.args.value; links = no_links; above = 0 } in
    let some : 0 < c.self.inside.room = (let r = room_is (entries_of c.self.inside.nodes.items) c.self.inside.room c.args.self.now c.self.view_is in let s = c.requires.room in omega arith) in
    let items : c.push_reserved.new.self.items ≡ c.self.inside.nodes.items ++ n ∷ [] = rw c.of.ensures at c.push_reserved.ensures.items in
    rw (c.as_mut_slice.ensures.value, items, c.as_mut_slice-2.ensures.value) (way_out (c.self.inside.nodes.items ++ n ∷ []) c.self.inside.heads.items (length c.self.inside.nodes.items) 0
    (planted_pushed c.self.inside.nodes.items c.self.inside.heads.items n c.ranges.key.fits (c.self.invariant.ready some) c.self.invariant.indexed) c.args.key
    (let l = length_pushed c.self.inside.nodes.items n in omega arith))

pub lead-requires-clause-to : goal.lead-requires-clause-to
lead-requires-clause-to g c =
    let n : Node g.row.V.Denot = record { key = c.args.key; value = c.args.value; links = no_links; above = 0 } in
    let items : c.push_reserved.new.self.items ≡ c.self.inside.nodes.items ++ n ∷ [] = rw c.of.ensures at c.push_reserved.ensures.items in
    let link : c.len-link.result ≡ suc (length c.self.inside.nodes.items) = (let p = c.push_reserved.ensures.len in let o = c.self.inside.nodes.ok.0 in omega (arith, c.len-link.ensures)) in
    rw (c.as_mut_slice.ensures.value, items) (omega arith, let l = length_pushed c.self.inside.nodes.items n in omega arith)

pub lead-requires-clause-above : goal.lead-requires-clause-above
lead-requires-clause-above g c =
    let n : Node g.row.V.Denot = record { key = c.args.key; value = c.args.value; links = no_links; above = 0 } in
    let items : c.push_reserved.new.self.items ≡ c.self.inside.nodes.items ++ n ∷ [] = rw c.of.ensures at c.push_reserved.ensures.items in
    let link : c.len-link.result ≡ suc (length c.self.inside.nodes.items) = (let p = c.push_reserved.ensures.len in let o = c.self.inside.nodes.ok.0 in omega (arith, c.len-link.ensures)) in
    rw (c.as_mut_slice.ensures.value, items) (ap (above_at (c.self.inside.nodes.items ++ n ∷ [])) link ∙ above_of_some (c.self.inside.nodes.items ++ n ∷ []) (length c.self.inside.nodes.items) n (got_last c.self.inside.nodes.items n))

pub invariant_of-self : goal.invariant_of-self
invariant_of-self g c =
    let n : Node g.row.V.Denot = record { key = c.args.key; value = c.args.value; links = no_links; above = 0 } in
    let some : 0 < c.self.inside.room = (let r = room_is (entries_of c.self.inside.nodes.items) c.self.inside.room c.args.self.now c.self.view_is in let s = c.requires.room in omega arith) in
    let items : c.push_reserved.new.self.items ≡ c.self.inside.nodes.items ++ n ∷ [] = rw c.of.ensures at c.push_reserved.ensures.items in
    let same = rw (c.as_mut_slice.ensures.value, items) at c.lead.ensures.entries in
    let led = rw (c.as_mut_slice.ensures.value, items, c.as_mut_slice-2.ensures.value) at c.lead.ensures.led in
    let heads = rw c.as_mut_slice-2.ensures.value at c.lead.ensures.heads in
    let alone = lookup_is (entries_of c.self.inside.nodes.items) c.self.inside.room c.args.self.now c.self.view_is c.args.key ∙ c.requires.absent in
    let link : c.len-link.result ≡ suc (length c.self.inside.nodes.items) = (let p = c.push_reserved.ensures.len in let o = c.self.inside.nodes.ok.0 in omega (arith, c.len-link.ensures)) in
    let indexed = pushed_joined c.self.inside.nodes.items c.lead.new.nodes c.self.inside.heads.items c.lead.new.heads c.args.key c.len-link.result n c.self.invariant.indexed c.ranges.key.fits (c.self.invariant.ready some)
    bare_pair refl link led same heads (unique_joined c.self.inside.nodes.items n c.self.invariant.unique alone) in
    let w = wrote c.lead.new.nodes c.push_reserved.new.self.items c.push_reserved.new.self.len (same_len c.push_reserved.new.self.items c.lead.new.nodes (rw c.as_mut_slice.ensures.value at c.lead.ensures.entries)) c.push_reserved.new.self.ok.0 in
    let w2 = wrote c.lead.new.heads c.self.inside.heads.items c.self.inside.heads.len heads c.self.inside.heads.ok.0 in
    rw (w, w2, c.push_reserved.ensures.capacity) (kept_pushed c.self.inside.nodes.items c.lead.new.nodes c.self.inside.heads.items c.lead.new.heads _ c.self.inside.room c.self.invariant some n alone indexed same heads)

pub returns : goal.returns
returns g c =
    let n : Node g.row.V.Denot = record { key = c.args.key; value = c.args.value; links = no_links; above = 0 } in
    let some : 0 < c.self.inside.room = (let r = room_is (entries_of c.self.inside.nodes.items) c.self.inside.room c.args.self.now c.self.view_is in let s = c.requires.room in omega arith) in
    let items : c.push_reserved.new.self.items ≡ c.self.inside.nodes.items ++ n ∷ [] = rw c.of.ensures at c.push_reserved.ensures.items in
    let same = rw (c.as_mut_slice.ensures.value, items) at c.lead.ensures.entries in
    let alone = lookup_is (entries_of c.self.inside.nodes.items) c.self.inside.room c.args.self.now c.self.view_is c.args.key ∙ c.requires.absent in
    let w = wrote c.lead.new.nodes c.push_reserved.new.self.items c.push_reserved.new.self.len (same_len c.push_reserved.new.self.items c.lead.new.nodes (rw c.as_mut_slice.ensures.value at c.lead.ensures.entries)) c.push_reserved.new.self.ok.0 in
    same_view _ _ _ _
    (ap (λ (ns : List (Node g.row.V.Denot)). map.from_entries {R = nat_cmp} (entries_of ns)) w
    ∙ table_pushed c.self.inside.nodes.items c.lead.new.nodes c.self.invariant.unique n alone same
    ∙ ap (λ (m : map.FinMap nat_cmp g.row.V.Denot). map.insert m c.args.key c.args.value) (map_is (entries_of c.self.inside.nodes.items) c.self.inside.room c.args.self.now c.self.view_is))
    (ap (λ k. k - 1) (room_is (entries_of c.self.inside.nodes.items) c.self.inside.room c.args.self.now c.self.view_is))
