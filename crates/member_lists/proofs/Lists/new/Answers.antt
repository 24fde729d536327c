use Rattle.std.proofs.Common.{ap, arith, length, List}
use Rattle.number_map.specs.Maps.{MapView}
use Rattle.member_lists.specs.declared.Link.{Link}
use Rattle.member_lists.specs.declared.Ends.{Ends}
use Rattle.member_lists.proofs.Held.{kept_none}
use Rattle.member_lists.proofs.Kept.{lists_none}
use Rattle.member_lists.proofs.Lists.new.Goals as goal

pub invariant_of-result : goal.invariant_of-result
invariant_of-result c = record {
  kept = kept_none c.new.result.items c.new-2.result.map c.new.ensures.items (ap (λ (w : MapView Ends). w.map) c.new-2.ensures);
  enough = let none = ap (λ (l : List Link). length l) c.new.ensures.items in omega arith;
}

pub returns : goal.returns
returns c = lists_none c.new.result.items c.new-2.result.map c.new.ensures.items (ap (λ (w : MapView Ends). w.map) c.new-2.ensures)
