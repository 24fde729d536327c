-- What stands in lists once an item joined one or left it.
use Rattle.std.proofs.Common.{◌≡◌, ◌≢◌, ◌⊎◌, inl, inr, ℕ, not, eqb, cond, ◌++◌, ◌∷◌, [], List, true, refl, sym, ap, subst, ◌∙◌, arith, Contains}
use Rattle.std.proofs.lemmas.List.Elements.{Contains-append_left, Contains-push, Contains-push_cases}
use Rattle.member_lists.specs.Lists.{ListsView, list_of, with_list, without, exchanged}
use Rattle.member_lists.proofs.Times.{equal_or_not, times_from_Contains, Contains_from_times, times-filter_in, times-filter_passes, times-filter_most, eqb_same, eqb_other}
use Rattle.member_lists.proofs.Listed.{list_same, list_other}
use Rattle.shared_lists.specs.Shared.{joined, parted}
use Rattle.shared_lists.proofs.Rows.{in_map, from_map}

module _ (v : ListsView) (l x : ℕ) where
  pub joined_from : (q y : ℕ) → Contains (list_of (joined v l x) q) y → Contains (list_of v q) y ⊎ ((q ≡ l) × (y ≡ x))
  joined_from q y c = elim (equal_or_not q l) [
    | inl e ↦ elim (Contains-push_cases (list_of v l) x y (rw (e, list_same v l (list_of v l ++ x ∷ [])) at c)) [ inl old ↦ inl (rw e old) | inr same ↦ inr (e, sym same) ]
    | inr d ↦ inl (rw (list_other v l (list_of v l ++ x ∷ []) q d) at c)
  ]

  pub joined_old : (q y : ℕ) → Contains (list_of v q) y → Contains (list_of (joined v l x) q) y
  joined_old q y c = elim (equal_or_not q l) [
    | inl e ↦ rw (e, list_same v l (list_of v l ++ x ∷ [])) (Contains-append_left (list_of v l) (x ∷ []) y (rw e at c))
    | inr d ↦ rw (list_other v l (list_of v l ++ x ∷ []) q d) c
  ]

  pub joined_new : Contains (list_of (joined v l x) l) x
  joined_new = rw (list_same v l (list_of v l ++ x ∷ [])) (Contains-push (list_of v l) x)

pub without_from : (x y : ℕ) (ys : List ℕ) → Contains (without x ys) y → Contains ys y × (y ≢ x)
without_from x y ys c =
    let a = times_from_Contains y (without x ys) c in
    let b = times-filter_most (λ z. not (eqb z x)) y ys in
    let p : not (eqb y x) ≡ true = times-filter_passes (λ z. not (eqb z x)) y ys a in
    (Contains_from_times y ys (omega arith), λ e. let q : not true ≡ true = ap not (sym (eqb_same y x e)) ∙ p in cc)

without_old : (x y : ℕ) (ys : List ℕ) → y ≢ x → Contains ys y → Contains (without x ys) y
without_old x y ys d c =
    let a = times_from_Contains y ys c in
    let b = times-filter_in (λ z. not (eqb z x)) y ys (ap not (eqb_other y x d)) in
    Contains_from_times y (without x ys) (omega arith)

module _ (v : ListsView) (l x : ℕ) where
  pub parted_from : (q y : ℕ) → Contains (list_of (parted v l x) q) y → Contains (list_of v q) y × (q ≡ l → y ≢ x)
  parted_from q y c = elim (equal_or_not q l) [
    | inl e ↦ let f = without_from x y (list_of v l) (rw (e, list_same v l (without x (list_of v l))) at c) in (rw e f.0, λ same. f.1)
    | inr d ↦ (rw (list_other v l (without x (list_of v l)) q d) at c, λ e. absurd (d e))
  ]

  pub parted_old : (q y : ℕ) → y ≢ x → Contains (list_of v q) y → Contains (list_of (parted v l x) q) y
  parted_old q y n c = elim (equal_or_not q l) [
    | inl e ↦ rw (e, list_same v l (without x (list_of v l))) (without_old x y (list_of v l) n (rw e at c))
    | inr d ↦ rw (list_other v l (without x (list_of v l)) q d) c
  ]

-- another item in the place of one
module _ (v : ListsView) (l x by : ℕ) where
  abbrev turned : ListsView
  turned = with_list v l (exchanged x by (list_of v l))

  abbrev turn : ℕ → ℕ
  turn z = cond (eqb z x) by z

  pub turned_from : (q y : ℕ) → Contains (list_of turned q) y → (Contains (list_of v q) y × (q ≡ l → y ≢ x)) ⊎ ((y ≡ by) × (q ≡ l))
  turned_from q y c = elim (equal_or_not q l) [
    | inl e ↦
        let f = from_map turn y (list_of v l) (rw (e, list_same v l (exchanged x by (list_of v l))) at c) in
        elim (equal_or_not f.x x) [
          | inl s ↦ inr (sym f.is ∙ ap (λ b. cond b by f.x) (eqb_same f.x x s), e)
          | inr d ↦
              let is : f.x ≡ y = sym (ap (λ b. cond b by f.x) (eqb_other f.x x d)) ∙ f.is in
              inl (rw e (subst (λ z. Contains (list_of v l) z) is f.inside), λ same g. d (is ∙ g))
        ]
    | inr d ↦ inl (rw (list_other v l (exchanged x by (list_of v l)) q d) at c, λ e. absurd (d e))
  ]

  pub turned_old : (q y : ℕ) → y ≢ x → Contains (list_of v q) y → Contains (list_of turned q) y
  turned_old q y n c = elim (equal_or_not q l) [
    | inl e ↦ rw (e, list_same v l (exchanged x by (list_of v l))) (subst (λ z. Contains (exchanged x by (list_of v l)) z) (ap (λ b. cond b by y) (eqb_other y x n)) (in_map turn y (list_of v l) (rw e at c)))
    | inr d ↦ rw (list_other v l (exchanged x by (list_of v l)) q d) c
  ]

  pub turned_new : Contains (list_of v l) x → Contains (list_of turned l) by
  turned_new c = rw (list_same v l (exchanged x by (list_of v l))) (subst (λ z. Contains (exchanged x by (list_of v l)) z) (ap (λ b. cond b by x) (eqb_same x x refl)) (in_map turn x (list_of v l) c))
