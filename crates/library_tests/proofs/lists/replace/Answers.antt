use Rattle.std.proofs.Common.{◌≡◌, ap, subst, sym, ◌∙◌, arith, true, Contains}
use Rattle.member_lists.specs.Lists.{ListsView, MarkedView, list_of, with_room, IsApart, IsMarkedIn}
use Rattle.member_lists.proofs.Listed.{apart_if_none, apart_pushed, in_pushed}
use Rattle.library_tests.proofs.lists.replace.Goals as goal

pub push-requires-clause-apart : goal.push-requires-clause-apart
push-requires-clause-apart c = apart_if_none c.reserve.new.self.all 0 (ap (λ (v : MarkedView). v.all.lists) (c.in_ok-reserve.ensures.ok ∙ ap (λ (v : MarkedView). with_room v 4) c.new-lists.ensures))

pub mark-requires-clause-there : goal.mark-requires-clause-there
mark-requires-clause-there c = subst (λ (v : MarkedView). Contains (list_of v.all 7) 0) (sym c.push.ensures) (in_pushed c.reserve.new.self.all 7 0)

pub mark-requires-clause-unmarked : goal.mark-requires-clause-unmarked
mark-requires-clause-unmarked c = apart_if_none c.push.new.self.marked 0 (ap (λ (v : MarkedView). v.marked.lists) (c.push.ensures) ∙ ap (λ (v : MarkedView). v.marked.lists) (c.in_ok-reserve.ensures.ok ∙ ap (λ (v : MarkedView). with_room v 4) c.new-lists.ensures))

pub replace-requires-clause-there : goal.replace-requires-clause-there
replace-requires-clause-there c = subst (λ (v : MarkedView). Contains (list_of v.all 7) 0) (sym (c.mark.ensures)) (subst (λ (v : MarkedView). Contains (list_of v.all 7) 0) (sym c.push.ensures) (in_pushed c.reserve.new.self.all 7 0))

pub replace-requires-clause-apart : goal.replace-requires-clause-apart
replace-requires-clause-apart c = subst (λ (v : MarkedView). IsApart v.all 3) (sym c.mark.ensures) (subst (λ (v : MarkedView). IsApart v.all 3) (sym c.push.ensures)
    (apart_pushed c.reserve.new.self.all 7 0 3
    (apart_if_none c.reserve.new.self.all 3 (ap (λ (v : MarkedView). v.all.lists) (c.in_ok-reserve.ensures.ok ∙ ap (λ (v : MarkedView). with_room v 4) c.new-lists.ensures)))
    (λ (e : 0 ≡ 3). omega arith)))

pub replace-requires-clause-marked : goal.replace-requires-clause-marked
replace-requires-clause-marked c = subst (λ (v : MarkedView). Contains (list_of v.marked 7) 0) (sym c.mark.ensures) (in_pushed c.push.new.self.marked 7 0)
