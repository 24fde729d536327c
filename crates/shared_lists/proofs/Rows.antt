-- Lists of numbers under numbers, once each number is another.
use Rattle.std.proofs.Common.{◌≡◌, ◌≢◌, inl, inr, ℕ, ◌<◌, cond, not, List, [], ◌∷◌, map as map_list, Option, Some, None, refl, sym, ◌∙◌, ap, arith, Contains}
use Rattle.std.specs.Prelude.{unwrap_or}
use Rattle.std.specs.Option.{option_map}
use Rattle.std.specs.Ordering.{nat_cmp}
use Rattle.std.specs.FinMap as map
use Rattle.member_lists.specs.Lists.{without, exchanged}
use Rattle.member_lists.specs.Chains.{times}
use Rattle.member_lists.specs.Values.{with_values}
use Rattle.member_lists.proofs.Times.{equal_or_not, eqb_same, eqb_other, times_here, times_other, times_more, times_from_Contains, Contains_from_times}
use Rattle.member_lists.proofs.Values.{get-with_values}
use Rattle.member_lists.proofs.Sound.{put_here, put_other, out_here, out_other, same_gets}
use Rattle.shared_lists.specs.Shared.{with_more}

-- ---- one list

pub map_same : (g h : ℕ → ℕ) (xs : List ℕ) → ((x : ℕ) → Contains xs x → g x ≡ h x) → map_list g xs ≡ map_list h xs
map_same g h [] same = refl
map_same g h (x ∷ xs) same =
    ap (λ y. y ∷ map_list g xs) (same x (Contains_from_times x (x ∷ xs) (let e = times_here x x xs refl in omega arith)))
    ∙ ap (λ ys. h x ∷ ys) (map_same g h xs (λ y c. same y (Contains_from_times y (x ∷ xs) (let a = times_from_Contains y xs c in let b = times_more y x xs in omega arith))))

pub in_map : (g : ℕ → ℕ) (x : ℕ) (xs : List ℕ) → Contains xs x → Contains (map_list g xs) (g x)
in_map g x xs c = Contains_from_times (g x) (map_list g xs) (by xs (times_from_Contains x xs c))
  where
    by : (xs : List ℕ) → 0 < times x xs → 0 < times (g x) (map_list g xs)
    by [] h = absurd (omega arith)
    by (y ∷ xs) h = elim (equal_or_not x y) [
      | inl e ↦ let f = times_here (g x) (g y) (map_list g xs) (ap g e) in omega arith
      | inr d ↦ let f = times_other x y xs d in let rest = by xs (omega arith) in let m = times_more (g x) (g y) (map_list g xs) in omega arith
    ]

-- a number of the list comes from this one
pub record ComesFrom (g : ℕ → ℕ) (z : ℕ) (xs : List ℕ) : Type 0 where
  pub x : ℕ
  pub inside : Contains xs x
  pub is : g x ≡ z

pub from_map : (g : ℕ → ℕ) (z : ℕ) (xs : List ℕ) → Contains (map_list g xs) z → ComesFrom g z xs
from_map g z xs c = let r = by xs (times_from_Contains z (map_list g xs) c) in record { x = r.0; inside = Contains_from_times r.0 xs r.1; is = r.2 }
  where
    by : (xs : List ℕ) → 0 < times z (map_list g xs) → (x : ℕ) × (0 < times x xs) × (g x ≡ z)
    by [] h = absurd (omega arith)
    by (y ∷ xs) h = elim (equal_or_not z (g y)) [
      | inl e ↦ (y, (let f = times_here y y xs refl in omega arith), sym e)
      | inr d ↦
          let f = times_other z (g y) (map_list g xs) d in
          let rest = by xs (omega arith) in
          let some : 0 < times rest.0 xs = rest.1 in
          (rest.0, (let m = times_more rest.0 y xs in omega arith), rest.2)
    ]

-- without a number is without what it becomes, where no other becomes that
pub map_without : (g : ℕ → ℕ) (x : ℕ) (xs : List ℕ) → ((y : ℕ) → Contains xs y → g y ≡ g x → y ≡ x) → map_list g (without x xs) ≡ without (g x) (map_list g xs)
map_without g x [] one = refl
map_without g x (y ∷ xs) one =
    let here : Contains (y ∷ xs) y = Contains_from_times y (y ∷ xs) (let e = times_here y y xs refl in omega arith) in
    let rest : map_list g (without x xs) ≡ without (g x) (map_list g xs) = map_without g x xs (λ z c. one z (Contains_from_times z (y ∷ xs) (let a = times_from_Contains z xs c in let b = times_more z y xs in omega arith))) in
    elim (equal_or_not y x) [
      | inl e ↦
          ap (λ b. map_list g (cond (not b) (y ∷ without x xs) (without x xs))) (eqb_same y x e) ∙ rest
          ∙ sym (ap (λ b. cond (not b) (g y ∷ without (g x) (map_list g xs)) (without (g x) (map_list g xs))) (eqb_same (g y) (g x) (ap g e)))
      | inr d ↦
          ap (λ b. map_list g (cond (not b) (y ∷ without x xs) (without x xs))) (eqb_other y x d) ∙ ap (λ ys. g y ∷ ys) rest
          ∙ sym (ap (λ b. cond (not b) (g y ∷ without (g x) (map_list g xs)) (without (g x) (map_list g xs))) (eqb_other (g y) (g x) (λ e. d (one y here e))))
    ]

pub map_exchanged : (g : ℕ → ℕ) (x y : ℕ) (xs : List ℕ) → g y ≡ g x → map_list g (exchanged x y xs) ≡ map_list g xs
map_exchanged g x y [] same = refl
map_exchanged g x y (z ∷ xs) same = elim (equal_or_not z x) [
  | inl e ↦ ap (λ b. g (cond b y z) ∷ map_list g (exchanged x y xs)) (eqb_same z x e) ∙ ap (λ w. w ∷ map_list g (exchanged x y xs)) (same ∙ ap g (sym e)) ∙ ap (λ ys. g z ∷ ys) (map_exchanged g x y xs same)
  | inr d ↦ ap (λ b. g (cond b y z) ∷ map_list g (exchanged x y xs)) (eqb_other z x d) ∙ ap (λ ys. g z ∷ ys) (map_exchanged g x y xs same)
]

-- ---- lists under numbers

abbrev pub Rows : Type 0
Rows = map.FinMap nat_cmp (List ℕ)

abbrev pub row : Rows → ℕ → List ℕ
row m l = unwrap_or (map.get m l) []

abbrev pub mapped : (ℕ → ℕ) → Rows → Rows
mapped g m = with_values (map_list g) m

module _ (g : ℕ → ℕ) (m : Rows) where
  got : (q : ℕ) → map.get (mapped g m) q ≡ option_map (map_list g) (map.get m q)
  got q = get-with_values (map_list g) m q

  pub row_mapped : (l : ℕ) → row (mapped g m) l ≡ map_list g (row m l)
  row_mapped l = ap (λ o. unwrap_or o []) (got l) ∙ by (map.get m l)
    where
      by : (o : Option (List ℕ)) → unwrap_or (option_map (map_list g) o) [] ≡ map_list g (unwrap_or o [])
      by None = refl
      by (Some xs) = refl

  pub mapped_with : (l : ℕ) (xs : List ℕ) → mapped g (with_more m l xs) ≡ with_more (mapped g m) l (map_list g xs)
  mapped_with l [] = same_gets (mapped g (map.remove m l)) (map.remove (mapped g m) l) (λ q. get-with_values (map_list g) (map.remove m l) q ∙ elim (equal_or_not q l) [
    | inl e ↦ ap (λ k. option_map (map_list g) (map.get (map.remove m l) k)) e ∙ ap (option_map (map_list g)) (out_here m l) ∙ sym (ap (map.get (map.remove (mapped g m) l)) e ∙ out_here (mapped g m) l)
    | inr d ↦ ap (option_map (map_list g)) (out_other m l q d) ∙ sym (out_other (mapped g m) l q d ∙ got q)
  ])
  mapped_with l (x ∷ xs) = same_gets (mapped g (map.insert m l (x ∷ xs))) (map.insert (mapped g m) l (map_list g (x ∷ xs))) (λ q. get-with_values (map_list g) (map.insert m l (x ∷ xs)) q ∙ elim (equal_or_not q l) [
    | inl e ↦
        ap (λ k. option_map (map_list g) (map.get (map.insert m l (x ∷ xs)) k)) e ∙ ap (option_map (map_list g)) (put_here m l (x ∷ xs))
        ∙ sym (ap (map.get (map.insert (mapped g m) l (map_list g (x ∷ xs)))) e ∙ put_here (mapped g m) l (map_list g (x ∷ xs)))
    | inr d ↦ ap (option_map (map_list g)) (put_other m l (x ∷ xs) q d) ∙ sym (put_other (mapped g m) l (map_list g (x ∷ xs)) q d ∙ got q)
  ])

  pub mapped_same : (h : ℕ → ℕ) → ((l x : ℕ) → Contains (row m l) x → g x ≡ h x) → mapped g m ≡ mapped h m
  mapped_same h same = same_gets (mapped g m) (mapped h m) (λ q. got q ∙ by q (map.get m q) refl ∙ sym (get-with_values (map_list h) m q))
    where
      by : (q : ℕ) (o : Option (List ℕ)) → map.get m q ≡ o → option_map (map_list g) (map.get m q) ≡ option_map (map_list h) (map.get m q)
      by q None at = ap (option_map (map_list g)) at ∙ sym (ap (option_map (map_list h)) at)
      by q (Some xs) at =
          let here : row m q ≡ xs = ap (λ o. unwrap_or o []) at in
          ap (option_map (map_list g)) at ∙ ap (λ ys. Some ys) (map_same g h xs (λ x c. same q x (rw here c))) ∙ sym (ap (option_map (map_list h)) at)

no_item : (x : ℕ) → Contains [] x → ⊥
no_item x c = let less : c.0 < 0 = c.1 in omega arith

-- a list that has an item, put where it is
pub put_same : (m : Rows) (l x : ℕ) → Contains (row m l) x → with_more m l (row m l) ≡ m
put_same m l x c = by (map.get m l) refl
  where
    by : (o : Option (List ℕ)) → map.get m l ≡ o → with_more m l (row m l) ≡ m
    by None at = absurd (no_item x (rw at at c))
    by (Some []) at = absurd (no_item x (rw at at c))
    by (Some (y ∷ ys)) at = ap (λ o. with_more m l (unwrap_or o [])) at ∙ same_gets (map.insert m l (y ∷ ys)) m (λ q. elim (equal_or_not q l) [
      | inl e ↦ ap (map.get (map.insert m l (y ∷ ys))) e ∙ put_here m l (y ∷ ys) ∙ sym at ∙ sym (ap (map.get m) e)
      | inr d ↦ put_other m l (y ∷ ys) q d
    ])

pub row_with : (m : Rows) (l : ℕ) (xs : List ℕ) → row (with_more m l xs) l ≡ xs
row_with m l [] = ap (λ o. unwrap_or o []) (out_here m l)
row_with m l (x ∷ xs) = ap (λ o. unwrap_or o []) (put_here m l (x ∷ xs))

pub row_other : (m : Rows) (l : ℕ) (xs : List ℕ) (q : ℕ) → q ≢ l → row (with_more m l xs) q ≡ row m q
row_other m l [] q d = ap (λ o. unwrap_or o []) (out_other m l q d)
row_other m l (x ∷ xs) q d = ap (λ o. unwrap_or o []) (put_other m l (x ∷ xs) q d)
