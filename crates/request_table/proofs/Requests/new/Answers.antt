use Rattle.std.proofs.Common.{◌≡◌, ◌+◌, ◌-◌, List, [], length, arith, ap, refl, ◌∙◌}
use Rattle.std.specs.FinMap as map
use Rattle.std.specs.Ordering.{nat_cmp}
use Rattle.number_map.specs.Maps.{MapView}
use Rattle.member_lists.specs.Lists.{ListsView}
use Rattle.request_table.specs.declared.Request.{Request}
use Rattle.request_table.specs.declared.Entry.{Entry}
use Rattle.request_table.specs.Kept.{requests_of, names_at}
use Rattle.request_table.proofs.Names.{names-none}
use Rattle.request_table.proofs.Came.{shown, requests-none, kept-none}
use Rattle.request_table.proofs.Requests.new.Goals as goal

pub invariant_of-result : goal.invariant_of-result
invariant_of-result c = record {
  standing = kept-none c.new.result c.new-2.result c.new-3.result.items c.new-4.result.items _ c.new.ensures c.new-2.ensures c.new-4.ensures.items;
  waiting = (let none : length c.new-5.result.items ≡ 0 = ap (λ (l : List Request). length l) c.new-5.ensures.items in omega arith);
  in_went = (let len = ap (λ (w : MapView Entry). map.len w.map + w.room) c.new.ensures in let none = map.len-empty nat_cmp Entry in omega arith);
}

pub returns : goal.returns
returns c =
    ap (λ (w : MapView Entry). shown (requests_of w.map) (names_at c.new-3.result.items c.new-2.result.lists) (w.room - length c.new-5.result.items) c.new-5.result.items) c.new.ensures
    ∙ ap (λ (l : List Request). shown (requests_of map.empty) (names_at c.new-3.result.items c.new-2.result.lists) (0 - length l) l) c.new-5.ensures.items
    ∙ ap (λ q. shown q (names_at c.new-3.result.items c.new-2.result.lists) 0 []) (requests-none map.empty refl)
    ∙ ap (λ n. shown map.empty n 0 []) (names-none c.new-3.result.items c.new-2.result.lists (ap (λ (w : ListsView). w.lists) c.new-2.ensures))
