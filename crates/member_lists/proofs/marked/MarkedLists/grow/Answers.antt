use Rattle.std.proofs.Common.{ap, arith}
use Rattle.member_lists.specs.Lists.{MarkedView}
use Rattle.member_lists.specs.Ended.{EndsMapView}
use Rattle.member_lists.proofs.Marks.{kept_roomier, kept_longer, shown_longer}
use Rattle.member_lists.proofs.marked.MarkedLists.grow.Goals as goal

pub invariant_of-self-in_err-lengthen : goal.invariant_of-self-in_err-lengthen
invariant_of-self-in_err-lengthen c = kept_roomier c.self.inside.links.items c.self.inside.marks.items c.self.inside.ends c.self.invariant c.args.self.now c.self.view_is c.args.items c.lengthen.new.links.items c.lengthen.new.marks.items c.reserve.new.self c.in_err-lengthen.ensures.err.0 c.in_err-lengthen.ensures.err.1 c.in_ok-reserve.ensures.ok

pub invariant_of-self-2 : goal.invariant_of-self-2
invariant_of-self-2 c = kept_longer c.self.inside.links.items c.self.inside.marks.items c.self.inside.ends c.self.invariant c.args.self.now c.self.view_is c.args.items c.lengthen.new.links.items c.lengthen.new.marks.items c.reserve.new.self c.in_ok-lengthen.ensures.ok.0 c.in_ok-lengthen.ensures.ok.1
    (omega arith) (let had = ap (λ (w : MarkedView). w.all.items) c.self.view_is in omega arith)
    (ap (λ (e : EndsMapView). e.all) c.in_ok-reserve.ensures.ok) (ap (λ (e : EndsMapView). e.marked) c.in_ok-reserve.ensures.ok) (let room = ap (λ (e : EndsMapView). e.room) c.in_ok-reserve.ensures.ok in omega arith)

pub returns-clause-ok : goal.returns-clause-ok
returns-clause-ok c = shown_longer c.self.inside.links.items c.self.inside.marks.items c.self.inside.ends c.self.invariant c.args.self.now c.self.view_is c.args.items c.lengthen.new.links.items c.lengthen.new.marks.items c.reserve.new.self c.in_ok-lengthen.ensures.ok.0 c.in_ok-lengthen.ensures.ok.1
    (omega arith) (let had = ap (λ (w : MarkedView). w.all.items) c.self.view_is in omega arith)
    (ap (λ (e : EndsMapView). e.all) c.in_ok-reserve.ensures.ok) (ap (λ (e : EndsMapView). e.marked) c.in_ok-reserve.ensures.ok) (let room = ap (λ (e : EndsMapView). e.room) c.in_ok-reserve.ensures.ok in omega arith)
