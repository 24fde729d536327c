use Rattle.std.proofs.Common.{◌≡◌, ◌∙◌, ap, sym, arith, length}
use Rattle.std.specs.FinMap as map
use Rattle.std.specs.Ordering.{nat_cmp}
use Rattle.number_map.specs.Kept.{entries_of}
use Rattle.number_map.proofs.Entries.{len-table, map_is}
use Rattle.number_map.proofs.Rows.{entries_len}
use Rattle.number_map.proofs.NumberMap.len.Goals as goal

pub returns : goal.returns
returns g c =
    let n : c.len.result ≡ length (entries_of c.self.inside.nodes.items) = (let e = entries_len c.self.inside.nodes.items in omega (arith, c.len.ensures)) in
    n ∙ sym (len-table (entries_of c.self.inside.nodes.items) c.self.invariant.unique)
    ∙ ap (λ (m : map.FinMap nat_cmp g.row.V.Denot). map.len m) (map_is (entries_of c.self.inside.nodes.items) c.self.inside.room c.args.self.now c.self.view_is)
