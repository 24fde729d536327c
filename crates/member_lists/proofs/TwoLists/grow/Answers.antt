use Rattle.std.proofs.Common.{refl, ap, arith}
use Rattle.member_lists.specs.Lists.{ListsView}
use Rattle.member_lists.proofs.Changed.{links_grown}
use Rattle.member_lists.proofs.Kept.{grown, lists_more}
use Rattle.member_lists.proofs.TwoLists.grow.Goals as goal

pub invariant_of-self-2 : goal.invariant_of-self-2
invariant_of-self-2 c = grown c.self.inside.links.items c.self.inside.ends c.self.invariant c.args.self.now c.self.view_is c.resize.new.self.items c.self.inside.ends c.args.items refl
    (omega (arith, c.in_ok-resize.ensures.len)) (omega arith) (let had = ap (λ (w : ListsView). w.items) c.self.view_is in omega arith)
    (links_grown c.self.inside.links.items c.resize.new.self.items _ c.args.items (let had = ap (λ (w : ListsView). w.items) c.self.view_is in omega arith) c.in_ok-resize.ensures.items)

pub returns-clause-ok : goal.returns-clause-ok
returns-clause-ok c = lists_more c.self.inside.links.items c.self.inside.ends c.self.invariant c.args.self.now c.self.view_is c.resize.new.self.items c.self.inside.ends c.args.items refl
    (omega (arith, c.in_ok-resize.ensures.len)) (omega arith) (let had = ap (λ (w : ListsView). w.items) c.self.view_is in omega arith)
    (links_grown c.self.inside.links.items c.resize.new.self.items _ c.args.items (let had = ap (λ (w : ListsView). w.items) c.self.view_is in omega arith) c.in_ok-resize.ensures.items)
