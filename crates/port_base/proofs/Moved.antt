-- Where an item stands once it left a list or joined one.
use Rattle.std.proofs.Common.{◌≡◌, ◌≢◌, inl, inr, ℕ, not, eqb, Option, Some, None, List, [], ◌∷◌, ◌++◌, refl, ap, sym, subst, ◌∙◌, arith, Contains}
use Rattle.std.proofs.lemmas.List.Elements.{Contains-append_left, Contains-push_cases}
use Rattle.member_lists.specs.Lists.{ListsView, list_of, with_list, without, IsApart}
use Rattle.member_lists.proofs.Times.{same_some, equal_or_not, times_from_Contains, Contains_from_times, times-filter_in, times-filter_passes, times-filter_most, eqb_other}
use Rattle.member_lists.proofs.Listed.{list_same, list_other, items_same, in_pushed}
use Rattle.port_base.specs.Ready.{StandsIn, IsMoved}

no_some : (l : ℕ) → None ≡ Some l → ⊥
no_some l e = cc

left_in : (x item : ℕ) (ys : List ℕ) → Contains (without item ys) x → Contains ys x
left_in x item ys c =
    let a = times_from_Contains x (without item ys) c in
    let b = times-filter_most (λ y. not (eqb y item)) x ys in
    Contains_from_times x ys (omega arith)

left_other : (x item : ℕ) (ys : List ℕ) → x ≢ item → Contains ys x → Contains (without item ys) x
left_other x item ys d c =
    let a = times_from_Contains x ys c in
    let b = times-filter_in (λ y. not (eqb y item)) x ys (ap not (eqb_other x item d)) in
    Contains_from_times x (without item ys) (omega arith)

left_none : (item : ℕ) (ys : List ℕ) → Contains (without item ys) item → ⊥
left_none item ys c = grind (arith, times-filter_passes (λ y. not (eqb y item)) item ys (times_from_Contains item (without item ys) c))

pub moved_none : (v : ListsView) (item : ℕ) (list : Option ℕ) → StandsIn v item list → IsMoved v v item list
moved_none v item list s = record { stands = s; was = λ x l d c. c; stays = λ x l d c. c; items = refl }

pub moved_out : (v w : ListsView) (item s : ℕ) → StandsIn v item (Some s) → w ≡ with_list v s (without item (list_of v s)) → IsMoved v w item None
moved_out v w item s stands is = subst (λ u. IsMoved v u item None) (sym is) (record {
  stands = record {
    only = λ l c. elim (equal_or_not l s) [
      | inl e ↦ absurd (left_none item (list_of v s) (rw (e, list_same v s (without item (list_of v s))) at c))
      | inr d ↦ absurd (d (sym (same_some s l (stands.only l (rw (list_other v s (without item (list_of v s)) l d) at c)))))
    ];
    there = λ l e. absurd (no_some l e);
  };
  was = λ x l d c. elim (equal_or_not l s) [
    | inl e ↦ rw e (left_in x item (list_of v s) (rw (e, list_same v s (without item (list_of v s))) at c))
    | inr n ↦ rw (list_other v s (without item (list_of v s)) l n) at c
  ];
  stays = λ x l d c. elim (equal_or_not l s) [
    | inl e ↦ rw (e, list_same v s (without item (list_of v s))) (left_other x item (list_of v s) d (rw e at c))
    | inr n ↦ rw (list_other v s (without item (list_of v s)) l n) c
  ];
  items = items_same v s (without item (list_of v s));
})

pub moved_in : (v w : ListsView) (item s : ℕ) → StandsIn v item None → w ≡ with_list v s (list_of v s ++ item ∷ []) → IsMoved v w item (Some s)
moved_in v w item s stands is = subst (λ u. IsMoved v u item (Some s)) (sym is) (record {
  stands = record {
    only = λ l c. elim (equal_or_not l s) [
      | inl e ↦ ap (λ n. Some n) (sym e)
      | inr d ↦ absurd (no_some l (stands.only l (rw (list_other v s (list_of v s ++ item ∷ []) l d) at c)))
    ];
    there = λ l e. rw (← same_some s l e) (in_pushed v s item);
  };
  was = λ x l d c. elim (equal_or_not l s) [
    | inl e ↦ elim (Contains-push_cases (list_of v s) item x (rw (e, list_same v s (list_of v s ++ item ∷ [])) at c)) [ inl old ↦ rw e old | inr same ↦ absurd (d (sym same)) ]
    | inr n ↦ rw (list_other v s (list_of v s ++ item ∷ []) l n) at c
  ];
  stays = λ x l d c. elim (equal_or_not l s) [
    | inl e ↦ rw (e, list_same v s (list_of v s ++ item ∷ [])) (Contains-append_left (list_of v s) (item ∷ []) x (rw e at c))
    | inr n ↦ rw (list_other v s (list_of v s ++ item ∷ []) l n) c
  ];
  items = items_same v s (list_of v s ++ item ∷ []);
})

pub moved_on : (u v w : ListsView) (item : ℕ) (list : Option ℕ) → IsMoved u v item None → IsMoved v w item list → IsMoved u w item list
moved_on u v w item list a b = record {
  stands = b.stands;
  was = λ x l d c. a.was x l d (b.was x l d c);
  stays = λ x l d c. b.stays x l d (a.stays x l d c);
  items = b.items ∙ a.items;
}

pub apart_of : (v : ListsView) (item : ℕ) → StandsIn v item None → IsApart v item
apart_of v item s l c = no_some l (s.only l c)
