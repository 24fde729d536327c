-- How often an item stands in a list, and what stays of a list.
use Rattle.std.proofs.Common.{◌≡◌, ◌≢◌, ◌⊎◌, inl, inr, ℕ, zero, suc, ◌+◌, ◌<◌, ◌≤◌, Bool, true, false, cond, not, eqb, List, [], ◌∷◌, ◌++◌, length, Option, Some, None, slice_get, slice_set, refl, sym, ◌∙◌, ap, arith, nat_lt, Contains}
use Rattle.std.specs.List.{filter}
use Rattle.std.proofs.lemmas.Bool.Decides.{eqb_tells, nat_tests}
use Rattle.member_lists.specs.Lists.{without}
use Rattle.member_lists.specs.Chains.{times, first_or, last_or}

pub same_some : {A : Type 0} (x y : A) → Some x ≡ Some y → x ≡ y
same_some x y e = cc

pub none_some : {A : Type 0} (x : A) → None ≡ Some x → ⊥
none_some x e = cc

pub equal_or_not : (q k : ℕ) → (q ≡ k) ⊎ (q ≢ k)
equal_or_not q k = elim (eqb_tells q k) [ inl h ↦ inl h.1 | inr h ↦ inr h.1 ]

pub eqb_same : (q k : ℕ) → q ≡ k → eqb q k ≡ true
eqb_same q k e = elim (eqb_tells q k) [ inl h ↦ h.0 | inr h ↦ absurd (h.1 e) ]

pub eqb_other : (q k : ℕ) → q ≢ k → eqb q k ≡ false
eqb_other q k d = elim (eqb_tells q k) [ inl h ↦ absurd (d h.1) | inr h ↦ h.0 ]

pub eqb_is : (q k : ℕ) → eqb q k ≡ true → q ≡ k
eqb_is q k e = elim (eqb_tells q k) [ inl h ↦ h.1 | inr h ↦ absurd (let f : false ≡ true = sym h.0 ∙ e in cc) ]

pub true_or_false : (b : Bool) → (b ≡ true) ⊎ (b ≡ false)
true_or_false true = inl refl
true_or_false false = inr refl

pub times_here : (x y : ℕ) (ys : List ℕ) → x ≡ y → times x (y ∷ ys) ≡ 1 + times x ys
times_here x y ys e = ap (λ b. cond b 1 0 + times x ys) (eqb_same x y e)

pub times_other : (x y : ℕ) (ys : List ℕ) → x ≢ y → times x (y ∷ ys) ≡ times x ys
times_other x y ys d = grind (arith, eqb_other)

pub times_more : (x y : ℕ) (ys : List ℕ) → times x ys ≤ times x (y ∷ ys)
times_more x y ys = omega arith

pub times-append : (x : ℕ) (xs ys : List ℕ) → times x (xs ++ ys) ≡ times x xs + times x ys
times-append x [] ys = omega arith
times-append x (z ∷ xs) ys = let e = times-append x xs ys in omega arith

pub times_from_Contains : (x : ℕ) (xs : List ℕ) → Contains xs x → 0 < times x xs
times_from_Contains x [] c = absurd (omega (arith, c.1))
times_from_Contains x (y ∷ xs) (zero, within, is) = let e = times_here x y xs (sym is) in omega arith
times_from_Contains x (y ∷ xs) (suc k, within, is) = grind (arith, times_from_Contains x xs (k, omega arith, is), times_more)

pub Contains_from_times : (x : ℕ) (xs : List ℕ) → 0 < times x xs → Contains xs x
Contains_from_times x [] h = absurd (omega arith)
Contains_from_times x (y ∷ xs) h = elim (equal_or_not x y) [
  | inl e ↦ (0, omega arith, sym e)
  | inr d ↦
      let f = times_other x y xs d in
      let c = Contains_from_times x xs (omega arith) in
      let less : c.0 < length xs = c.1 in
      (suc c.0, omega arith, c.2)
]

pub times-filter_in : (q : ℕ → Bool) (x : ℕ) (xs : List ℕ) → q x ≡ true → times x (filter q xs) ≡ times x xs
times-filter_in q x [] is = refl
times-filter_in q x (y ∷ xs) is = grind (arith, times-filter_in q x xs is, true_or_false, eqb, times_other)

pub times-filter_passes : (q : ℕ → Bool) (x : ℕ) (xs : List ℕ) → 0 < times x (filter q xs) → q x ≡ true
times-filter_passes q x [] h = absurd (omega arith)
times-filter_passes q x (y ∷ xs) h = elim (true_or_false (q y)) [
  | inl t ↦ elim (equal_or_not x y) [
    | inl e ↦ ap q e ∙ t
    | inr d ↦
        let a : times x (filter q (y ∷ xs)) ≡ times x (y ∷ filter q xs) = ap (λ b. times x (cond b (y ∷ filter q xs) (filter q xs))) t in
        let b = times_other x y (filter q xs) d in
        times-filter_passes q x xs (omega arith)
  ]
  | inr f ↦
      let a : times x (filter q (y ∷ xs)) ≡ times x (filter q xs) = ap (λ b. times x (cond b (y ∷ filter q xs) (filter q xs))) f in
      times-filter_passes q x xs (omega arith)
]

pub times-filter_most : (q : ℕ → Bool) (x : ℕ) (xs : List ℕ) → times x (filter q xs) ≤ times x xs
times-filter_most q x [] = omega arith
times-filter_most q x (y ∷ xs) = grind (arith, times-filter_most q x xs, true_or_false)

-- two tests that agree on the items
pub filter_same : (q r : ℕ → Bool) (xs : List ℕ) → ((x : ℕ) → 0 < times x xs → q x ≡ r x) → filter q xs ≡ filter r xs
filter_same q r [] h = refl
filter_same q r (y ∷ xs) h =
    let here : q y ≡ r y = h y (let e = times_here y y xs refl in omega arith) in
    let rest : filter q xs ≡ filter r xs = filter_same q r xs (λ x more. h x (let e = times_more x y xs in omega arith)) in
    ap (λ b. cond b (y ∷ filter q xs) (filter q xs)) here ∙ ap (λ l. cond (r y) (y ∷ l) l) rest

pub filter-append : (q : ℕ → Bool) (xs ys : List ℕ) → filter q (xs ++ ys) ≡ filter q xs ++ filter q ys
filter-append q [] ys = refl
filter-append q (x ∷ xs) ys = grind (arith, filter-append q xs ys, true_or_false)

-- without an item that is not there
pub without_none : (item : ℕ) (xs : List ℕ) → times item xs ≡ 0 → without item xs ≡ xs
without_none item [] h = refl
without_none item (x ∷ xs) h = elim (equal_or_not x item) [
  | inl e ↦ absurd (let f = times_here item x xs (sym e) in omega arith)
  | inr d ↦
      let rest : times item xs ≡ 0 = (let f = times_more item x xs in omega arith) in
      ap (λ b. cond (not b) (x ∷ without item xs) (without item xs)) (eqb_other x item d) ∙ ap (λ l. x ∷ l) (without_none item xs rest)
]

-- a list at an item that stands once
pub record IsSplit (item : ℕ) (xs : List ℕ) : Type 0 where
  pub front : List ℕ
  pub back : List ℕ
  pub is : xs ≡ front ++ item ∷ back
  pub left : without item xs ≡ front ++ back

pub split_at : (item : ℕ) (xs : List ℕ) → times item xs ≡ 1 → IsSplit item xs
split_at item [] h = absurd (omega arith)
split_at item (x ∷ xs) h = elim (equal_or_not item x) [
  | inl e ↦
      let none : times item xs ≡ 0 = (let f = times_here item x xs e in omega arith) in
      record {
        front = [];
        back = xs;
        is = ap (λ y. y ∷ xs) (sym e);
        left = ap (λ b. cond (not b) (x ∷ without item xs) (without item xs)) (eqb_same x item (sym e)) ∙ without_none item xs none;
      }
  | inr d ↦
      let rest = split_at item xs (let f = times_other item x xs d in omega arith) in
      record {
        front = x ∷ rest.front;
        back = rest.back;
        is = ap (λ l. x ∷ l) rest.is;
        left = ap (λ b. cond (not b) (x ∷ without item xs) (without item xs)) (eqb_other x item (λ e. d (sym e))) ∙ ap (λ l. x ∷ l) rest.left;
      }
]

-- one test after the other, either way round
pub filter_turned : (q : ℕ → Bool) (item : ℕ) (xs : List ℕ) → filter q (without item xs) ≡ without item (filter q xs)
filter_turned q item [] = refl
filter_turned q item (x ∷ xs) = grind (arith, filter_turned q item xs, true_or_false, eqb, not)

-- ---- a list that is written

pub got_set : {X : Type 0} (xs : List X) (i : ℕ) (x : X) → i < length xs → slice_get (slice_set xs i x) i ≡ Some x
got_set [] i x h = absurd (omega arith)
got_set (y ∷ xs) zero x h = refl
got_set (y ∷ xs) (suc i) x h = got_set xs i x (let less : suc i < suc (length xs) = h in omega arith)

pub got_other : {X : Type 0} (xs : List X) (i j : ℕ) (x : X) → j ≢ i → slice_get (slice_set xs i x) j ≡ slice_get xs j
got_other [] i j x d = refl
got_other (y ∷ xs) zero zero x d = absurd (d refl)
got_other (y ∷ xs) zero (suc j) x d = refl
got_other (y ∷ xs) (suc i) zero x d = refl
got_other (y ∷ xs) (suc i) (suc j) x d = got_other xs i j x (λ e. d (ap (λ n. suc n) e))

-- ---- ends

pub first-append : (xs ys : List ℕ) (next : Option ℕ) → first_or (xs ++ ys) next ≡ first_or xs (first_or ys next)
first-append [] ys next = refl
first-append (x ∷ xs) ys next = refl

pub last-append : (before : Option ℕ) (xs ys : List ℕ) → last_or before (xs ++ ys) ≡ last_or (last_or before xs) ys
last-append before [] ys = refl
last-append before (x ∷ xs) ys = last-append (Some x) xs ys

pub last_some : (x : ℕ) (xs : List ℕ) → (z : ℕ) × (last_or (Some x) xs ≡ Some z)
last_some x [] = (x, refl)
last_some x (y ∷ xs) = last_some y xs

-- the last of some is one of them
pub last_inside : (before : Option ℕ) (y : ℕ) (ys : List ℕ) (z : ℕ) → last_or before (y ∷ ys) ≡ Some z → 0 < times z (y ∷ ys)
last_inside before y [] z e = let f = times_here z y [] (sym (same_some y z e)) in omega arith
last_inside before y (w ∷ ys) z e = let f = last_inside (Some y) w ys z e in let g = times_more z y (w ∷ ys) in omega arith

pub last_within : (xs : List ℕ) (z : ℕ) → last_or None xs ≡ Some z → 0 < times z xs
last_within [] z e = absurd (none_some z e)
last_within (y ∷ xs) z e = last_inside None y xs z e

pub first_within : (xs : List ℕ) (z : ℕ) → first_or xs None ≡ Some z → 0 < times z xs
first_within [] z e = absurd (none_some z e)
first_within (y ∷ xs) z e = let f = times_here z y xs (sym (same_some y z e)) in omega arith

pub first_got : (xs : List ℕ) → first_or xs None ≡ slice_get xs 0
first_got [] = refl
first_got (x ∷ xs) = refl

-- ---- different items below a number are not more than it

abbrev below : ℕ → List ℕ → ℕ
below n [] = 0
below n (x ∷ xs) = cond (nat_lt x n) 1 0 + below n xs

below_one : (n x : ℕ) → ◌≡◌ {A = ℕ} (cond (nat_lt x (suc n)) 1 0) (cond (nat_lt x n) 1 0 + cond (eqb n x) 1 0)
below_one n x = grind (arith, nat_tests)

none_below : (x : ℕ) → ◌≡◌ {A = ℕ} (cond (nat_lt x 0) 1 0) 0
none_below x = grind (arith, nat_tests)

one_below : (n x : ℕ) → x < n → ◌≡◌ {A = ℕ} (cond (nat_lt x n) 1 0) 1
one_below n x less = grind (arith, nat_tests)

below_more : (n : ℕ) (xs : List ℕ) → below (suc n) xs ≡ below n xs + times n xs
below_more n [] = omega arith
below_more n (x ∷ xs) = let rest = below_more n xs in let one = below_one n x in omega arith

below_most : (n : ℕ) (xs : List ℕ) → ((x : ℕ) → times x xs ≤ 1) → below n xs ≤ n
below_most zero [] once = omega arith
below_most zero (x ∷ xs) once =
    let rest = below_most zero xs (λ y. let a = once y in let b = times_more y x xs in omega arith) in
    let none = none_below x in
    omega arith
below_most (suc n) xs once = let rest = below_most n xs once in let more = below_more n xs in let one = once n in omega arith

below_all : (n : ℕ) (xs : List ℕ) → ((x : ℕ) → 0 < times x xs → x < n) → below n xs ≡ length xs
below_all n [] few = refl
below_all n (x ∷ xs) few =
    let here : x < n = few x (let e = times_here x x xs refl in omega arith) in
    let rest = below_all n xs (λ y h. few y (let a = times_more y x xs in omega arith)) in
    let one = one_below n x here in
    omega arith

pub few_items : (n : ℕ) (xs : List ℕ) → ((x : ℕ) → 0 < times x xs → x < n) → ((x : ℕ) → times x xs ≤ 1) → length xs ≤ n
few_items n xs few once = let a = below_all n xs few in let b = below_most n xs once in omega arith
