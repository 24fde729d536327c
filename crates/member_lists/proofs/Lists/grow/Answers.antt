use Rattle.std.proofs.Common.{ap, arith}
use Rattle.number_map.specs.Maps.{MapView}
use Rattle.member_lists.specs.declared.Ends.{Ends}
use Rattle.member_lists.proofs.Changed.{links_grown}
use Rattle.member_lists.proofs.Kept.{grown, lists_more}
use Rattle.member_lists.proofs.Lists.grow.Goals as goal

pub invariant_of-self-in-Continue-branch-2 : goal.invariant_of-self-in-Continue-branch-2
invariant_of-self-in-Continue-branch-2 c = record {
  kept = grown c.self.inside.links.items c.self.inside.ends.map c.self.invariant.kept c.args.self.now c.self.view_is c.resize.new.self.items c.reserve.new.self.map c.args.items (ap (λ (w : MapView Ends). w.map) c.in_ok-reserve.ensures.ok)
      (omega (arith, c.in_ok-resize.ensures.len)) (omega arith) (omega arith)
      (links_grown c.self.inside.links.items c.resize.new.self.items _ c.args.items (omega arith) c.in_ok-resize.ensures.items);
  enough = let room = ap (λ (w : MapView Ends). w.room) c.in_ok-reserve.ensures.ok in omega (arith, c.in_ok-resize.ensures.len);
}

pub returns-in_ok-resize-clause-ok : goal.returns-in_ok-resize-clause-ok
returns-in_ok-resize-clause-ok c = lists_more c.self.inside.links.items c.self.inside.ends.map c.self.invariant.kept c.args.self.now c.self.view_is c.resize.new.self.items c.reserve.new.self.map c.args.items (ap (λ (w : MapView Ends). w.map) c.in_ok-reserve.ensures.ok)
    (omega (arith, c.in_ok-resize.ensures.len)) (omega arith) (omega arith)
    (links_grown c.self.inside.links.items c.resize.new.self.items _ c.args.items (omega arith) c.in_ok-resize.ensures.items)
