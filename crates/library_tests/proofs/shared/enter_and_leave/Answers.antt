use Rattle.std.proofs.Common.{◌≡◌, ◌<◌, ◌++◌, ◌∷◌, [], inl, inr, ℕ, true, refl, ap, subst, sym, ◌∙◌, arith, Contains}
use Rattle.std.specs.Prelude.{unwrap_or}
use Rattle.std.specs.FinMap as map
use Rattle.std.specs.Ordering.{nat_cmp}
use Rattle.std.proofs.lemmas.List.Elements.{Contains-push_cases}
use Rattle.member_lists.specs.Lists.{ListsView, list_of, IsApart}
use Rattle.member_lists.proofs.Listed.{list_none, apart_if_none}
use Rattle.shared_lists.specs.Shared.{SharedView, IsFirst, IsReady, more_of, empty, with_items, roomier, entered, with_further, joined}
use Rattle.shared_lists.proofs.Rows.{row_with}
use Rattle.shared_lists.proofs.Standing.{joined_from, joined_old, joined_new}
use Rattle.shared_lists.proofs.Marking.{head_in}
use Rattle.library_tests.proofs.shared.enter_and_leave.Goals as goal

abbrev made : SharedView
made = with_items (empty true) 2

nothing : (l x : ℕ) → Contains (list_of made.all l) x → ⊥
nothing l x c =
    let gone : Contains [] x = subst (λ xs. Contains xs x) (list_none made.all.items l) c in
    let less : gone.0 < 0 = gone.1 in omega arith

not_in_none : (x : ℕ) → Contains [] x → ⊥
not_in_none x c = let less : c.0 < 0 = c.1 in omega arith

module _ (n m : ℕ) where
  -- in the first list
  abbrev one : SharedView
  one = roomier (entered made 10 1 true) n m

  inside : Contains (list_of one.all 10) 1
  inside = joined_new made.all 10 1

  none_more : more_of one 1 ≡ []
  none_more = ap (λ o. unwrap_or o []) (map.get-empty nat_cmp 1)

  first_one : IsFirst one 10 1
  first_one = record { inside = inside; not_further = λ c. not_in_none 10 (rw none_more at c) }

  apart_one : ¬ (Contains (list_of one.all 20) 1)
  apart_one c = elim (joined_from made.all 10 1 20 1 c) [ inl a ↦ nothing 20 1 a | inr a ↦ absurd (let e : 20 ≡ 10 = a.0 in omega arith) ]

  -- in both
  abbrev two : SharedView
  two = with_further (entered one 20 1 true) 20 1

  more_two : more_of two 1 ≡ more_of one 1 ++ 20 ∷ []
  more_two = row_with one.more 1 (more_of one 1 ++ 20 ∷ [])

  first_two : IsFirst two 10 1
  first_two = record {
    inside = joined_old one.all 20 1 10 1 inside;
    not_further = λ c. elim (Contains-push_cases (more_of one 1) 20 10 (rw more_two at c)) [ inl a ↦ not_in_none 10 (rw none_more at a) | inr e ↦ omega arith ];
  }

  ready_two : IsReady two 1 true
  ready_two l c = elim (joined_from one.all 20 1 l 1 c) [
    | inl a ↦ elim (joined_from made.all 10 1 l 1 a) [
      | inl b ↦ absurd (nothing l 1 b)
      | inr b ↦ joined_old one.ready 20 1 l 1 (rw b.0 (joined_new made.ready 10 1))
    ]
    | inr a ↦ rw a.0 (joined_new one.ready 20 1)
  ]

pub enter-requires-clause-room : goal.enter-requires-clause-room
enter-requires-clause-room c = let e = ap (λ (v : SharedView). v.all.items) (c.in_ok-reserve.ensures.ok ∙ ap (λ v. with_items v 2) c.new-lists.ensures) in omega arith

pub enter-requires-clause-apart : goal.enter-requires-clause-apart
enter-requires-clause-apart c = apart_if_none c.reserve.new.self.all 1 (ap (λ (v : SharedView). v.all.lists) (c.in_ok-reserve.ensures.ok ∙ ap (λ v. with_items v 2) c.new-lists.ensures))

pub enter_further-requires-clause-several : goal.enter_further-requires-clause-several
enter_further-requires-clause-several c = ap (λ (v : SharedView). v.several) (c.in_ok-reserve_further.ensures.rest_kept ∙ ap (λ v. roomier v c.reserve_further.new.self.all.items c.reserve_further.new.self.room) (c.enter.ensures ∙ ap (λ v. entered v 10 1 true) (c.in_ok-reserve.ensures.ok ∙ ap (λ v. with_items v 2) c.new-lists.ensures)))

pub enter_further-requires-clause-elsewhere : goal.enter_further-requires-clause-elsewhere
enter_further-requires-clause-elsewhere c = (10, subst (λ v. IsFirst v 10 1) (sym (c.in_ok-reserve_further.ensures.rest_kept ∙ ap (λ v. roomier v c.reserve_further.new.self.all.items c.reserve_further.new.self.room) (c.enter.ensures ∙ ap (λ v. entered v 10 1 true) (c.in_ok-reserve.ensures.ok ∙ ap (λ v. with_items v 2) c.new-lists.ensures)))) (first_one c.reserve_further.new.self.all.items c.reserve_further.new.self.room))

pub enter_further-requires-clause-apart : goal.enter_further-requires-clause-apart
enter_further-requires-clause-apart c = subst (λ (v : SharedView). ¬ (Contains (list_of v.all 20) 1)) (sym (c.in_ok-reserve_further.ensures.rest_kept ∙ ap (λ v. roomier v c.reserve_further.new.self.all.items c.reserve_further.new.self.room) (c.enter.ensures ∙ ap (λ v. entered v 10 1 true) (c.in_ok-reserve.ensures.ok ∙ ap (λ v. with_items v 2) c.new-lists.ensures)))) (apart_one c.reserve_further.new.self.all.items c.reserve_further.new.self.room)

pub leave-first-requires-clause-first : goal.leave-first-requires-clause-first
leave-first-requires-clause-first c = subst (λ v. IsFirst v 10 1) (sym (c.enter_further.ensures ∙ ap (λ v. with_further (entered v 20 1 true) 20 1) (c.in_ok-reserve_further.ensures.rest_kept ∙ ap (λ v. roomier v c.reserve_further.new.self.all.items c.reserve_further.new.self.room) (c.enter.ensures ∙ ap (λ v. entered v 10 1 true) (c.in_ok-reserve.ensures.ok ∙ ap (λ v. with_items v 2) c.new-lists.ensures))))) (first_two c.reserve_further.new.self.all.items c.reserve_further.new.self.room)

pub leave-first-requires-clause-there : goal.leave-first-requires-clause-there
leave-first-requires-clause-there c = head_in 10 _

pub leave-first-requires-clause-ready : goal.leave-first-requires-clause-ready
leave-first-requires-clause-ready c = subst (λ v. IsReady v 1 true) (sym (c.enter_further.ensures ∙ ap (λ v. with_further (entered v 20 1 true) 20 1) (c.in_ok-reserve_further.ensures.rest_kept ∙ ap (λ v. roomier v c.reserve_further.new.self.all.items c.reserve_further.new.self.room) (c.enter.ensures ∙ ap (λ v. entered v 10 1 true) (c.in_ok-reserve.ensures.ok ∙ ap (λ v. with_items v 2) c.new-lists.ensures))))) (ready_two c.reserve_further.new.self.all.items c.reserve_further.new.self.room)
