use Rattle.std.proofs.Common.{◌≡◌, ap, subst, sym, ◌∙◌, arith, Contains}
use Rattle.member_lists.specs.Lists.{ListsView, list_of, IsApart}
use Rattle.member_lists.proofs.Listed.{apart_if_none, apart_pushed, in_pushed}
use Rattle.library_tests.proofs.lists.join_and_leave_two.Goals as goal

pub push-requires-clause-apart : goal.push-requires-clause-apart
push-requires-clause-apart c = apart_if_none c.reserve.new.self 2 (ap (λ (v : ListsView). v.lists) c.in_ok-reserve.ensures.ok ∙ ap (λ (v : ListsView). v.lists) c.new-lists.ensures)

pub push-requires-2-clause-apart : goal.push-requires-2-clause-apart
push-requires-2-clause-apart c =
    subst (λ v. IsApart v 0) (sym c.push.ensures) (apart_pushed c.reserve.new.self 1 2 0
    (apart_if_none c.reserve.new.self 0 (ap (λ (v : ListsView). v.lists) c.in_ok-reserve.ensures.ok ∙ ap (λ (v : ListsView). v.lists) c.new-lists.ensures))
    (λ (e : 2 ≡ 0). omega arith))

pub remove-requires-clause-there : goal.remove-requires-clause-there
remove-requires-clause-there c = subst (λ v. Contains (list_of v 1) 0) (sym c.push-2.ensures) (in_pushed c.push.new.self 1 0)
