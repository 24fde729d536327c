-- What stands in lists once an item left some of them and joined others, and which sets are those.
use Rattle.std.proofs.Common.{◌≡◌, ◌≢◌, ◌⊎◌, inl, inr, ℕ, ◌<◌, Bool, true, false, cond, not, eqb, List, [], ◌∷◌, ◌++◌, refl, ap, sym, subst, ◌∙◌, arith, Contains}
use Rattle.member_lists.specs.Lists.{ListsView, list_of, with_list, without}
use Rattle.member_lists.specs.Chains.{times}
use Rattle.member_lists.proofs.Times.{equal_or_not, eqb_same, eqb_other, times_here, times_more, Contains_from_times}
use Rattle.member_lists.proofs.Listed.{list_same, list_other, items_same}
use Rattle.member_lists.proofs.Sound.{put_here, put_other, out_here, out_other, same_gets}
use Rattle.shared_lists.specs.Shared.{joined, parted, joined_each, parted_each}
use Rattle.shared_lists.proofs.Standing.{joined_from, joined_old, joined_new, parted_from, parted_old}
pub use Rattle.shared_lists.proofs.Standing.{without_from}
use Rattle.port_base.specs.Turns.{contains_number, sets_without}
pub use Rattle.port_base.proofs.Parted.{nothing_in, head_in, tail_in, in_cases, only_in, without_old}

pub without-none : (x : ℕ) (xs : List ℕ) → ((y : ℕ) → 0 < times y xs → y ≢ x) → without x xs ≡ xs
without-none x [] apart = refl
without-none x (y ∷ ys) apart =
    let d : y ≢ x = apart y (let e = times_here y y ys refl in omega arith) in
    ap (λ b. cond (not b) (y ∷ without x ys) (without x ys)) (eqb_other y x d)
    ∙ ap (λ l. y ∷ l) (without-none x ys (λ z more. apart z (let e = times_more z y ys in omega arith)))

-- ---- an item leaves lists, and joins lists

module _ (x : ℕ) where
  pub joined_each_from : (v : ListsView) (ls : List ℕ) (q y : ℕ) → Contains (list_of (joined_each v ls x) q) y → Contains (list_of v q) y ⊎ (Contains ls q × (y ≡ x))
  joined_each_from v [] q y c = inl c
  joined_each_from v (l ∷ ls) q y c = elim (joined_each_from (joined v l x) ls q y c) [
    | inl a ↦ elim (joined_from v l x q y a) [ inl b ↦ inl b | inr b ↦ inr (subst (λ n. Contains (l ∷ ls) n) (sym b.0) (head_in l ls), b.1) ]
    | inr a ↦ inr (tail_in l q ls a.0, a.1)
  ]

  pub joined_each_old : (v : ListsView) (ls : List ℕ) (q y : ℕ) → Contains (list_of v q) y → Contains (list_of (joined_each v ls x) q) y
  joined_each_old v [] q y c = c
  joined_each_old v (l ∷ ls) q y c = joined_each_old (joined v l x) ls q y (joined_old v l x q y c)

  pub joined_each_new : (v : ListsView) (ls : List ℕ) (q : ℕ) → Contains ls q → Contains (list_of (joined_each v ls x) q) x
  joined_each_new v [] q c = absurd (nothing_in q c)
  joined_each_new v (l ∷ ls) q c = elim (in_cases l q ls c) [
    | inl e ↦ joined_each_old (joined v l x) ls q x (subst (λ n. Contains (list_of (joined v l x) n) x) e (joined_new v l x))
    | inr a ↦ joined_each_new (joined v l x) ls q a
  ]

  pub joined_each_items : (v : ListsView) (ls : List ℕ) → (joined_each v ls x).items ≡ v.items
  joined_each_items v [] = refl
  joined_each_items v (l ∷ ls) = joined_each_items (joined v l x) ls ∙ items_same v l (list_of v l ++ x ∷ [])

  pub parted_each_from : (v : ListsView) (ls : List ℕ) (q y : ℕ) → Contains (list_of (parted_each v ls x) q) y → Contains (list_of v q) y × (Contains ls q → y ≢ x)
  parted_each_from v [] q y c = (c, λ a. absurd (nothing_in q a))
  parted_each_from v (l ∷ ls) q y c =
      let after = parted_each_from (parted v l x) ls q y c in
      let before = parted_from v l x q y after.0 in
      (before.0, λ a. elim (in_cases l q ls a) [ inl e ↦ before.1 (sym e) | inr b ↦ after.1 b ])

  pub parted_each_old : (v : ListsView) (ls : List ℕ) (q y : ℕ) → y ≢ x → Contains (list_of v q) y → Contains (list_of (parted_each v ls x) q) y
  parted_each_old v [] q y d c = c
  parted_each_old v (l ∷ ls) q y d c = parted_each_old (parted v l x) ls q y d (parted_old v l x q y d c)

  pub parted_each_own : (v : ListsView) (ls : List ℕ) (q : ℕ) → (Contains ls q → ⊥) → Contains (list_of v q) x → Contains (list_of (parted_each v ls x) q) x
  parted_each_own v [] q d c = c
  parted_each_own v (l ∷ ls) q d c =
      parted_each_own (parted v l x) ls q (λ a. d (tail_in l q ls a))
      (subst (λ ys. Contains ys x) (sym (list_other v l (without x (list_of v l)) q (λ e. d (subst (λ n. Contains (l ∷ ls) n) (sym e) (head_in l ls))))) c)

  pub parted_each_items : (v : ListsView) (ls : List ℕ) → (parted_each v ls x).items ≡ v.items
  parted_each_items v [] = refl
  parted_each_items v (l ∷ ls) = parted_each_items (parted v l x) ls ∙ items_same v l (without x (list_of v l))

  -- ---- one list, left more than once

  listed_twice : (v : ListsView) (l : ℕ) (ys : List ℕ) → with_list (with_list v l ys) l ys ≡ with_list v l ys
  listed_twice v l [] = ap (λ m. let w : ListsView = record { lists = m; items = v.items } in w) (grind (arith, same_gets, equal_or_not, out_here, out_other))
  listed_twice v l (y ∷ ys) = ap (λ m. let w : ListsView = record { lists = m; items = v.items } in w) (grind (arith, same_gets, equal_or_not, put_here, put_other))

  parted_twice : (v : ListsView) (l : ℕ) → parted (parted v l x) l x ≡ parted v l x
  parted_twice v l =
      ap (λ ys. with_list (parted v l x) l (without x ys)) (list_same v l (without x (list_of v l)))
      ∙ ap (with_list (parted v l x) l) (without-none x (without x (list_of v l)) (λ y more. (without_from x y (list_of v l) (Contains_from_times y (without x (list_of v l)) more)).1))
      ∙ listed_twice v l (without x (list_of v l))

  again : (v : ListsView) (ls : List ℕ) (l : ℕ) → ((y : ℕ) → Contains ls y → y ≡ l) → parted_each (parted v l x) ls x ≡ parted v l x
  again v [] l all = refl
  again v (m ∷ ls) l all =
      ap (λ n. parted_each (parted (parted v l x) n x) ls x) (all m (head_in m ls))
      ∙ ap (λ w. parted_each w ls x) (parted_twice v l)
      ∙ again v ls l (λ y c. all y (tail_in m y ls c))

  pub parted_copies : (v : ListsView) (ls : List ℕ) (l : ℕ) → ((y : ℕ) → Contains ls y → y ≡ l) → Contains ls l → parted_each v ls x ≡ parted v l x
  parted_copies v [] l all some = absurd (nothing_in l some)
  parted_copies v (m ∷ ls) l all some = ap (λ n. parted_each (parted v n x) ls x) (all m (head_in m ls)) ∙ again v ls l (λ y c. all y (tail_in m y ls c))

-- ---- sets but for others

contains_is : (ys : List ℕ) (y : ℕ) → contains_number ys y ≡ true → Contains ys y
contains_is [] y e = absurd (cc)
contains_is (x ∷ ys) y e = elim (equal_or_not y x) [
  | inl s ↦ subst (λ n. Contains (x ∷ ys) n) (sym s) (head_in x ys)
  | inr d ↦ tail_in x y ys (contains_is ys y (sym (ap (λ b. cond b true (contains_number ys y)) (eqb_other y x d)) ∙ e))
]

contains_true : (b : Bool) → cond b true true ≡ true
contains_true true = refl
contains_true false = refl

pub is_contained : (ys : List ℕ) (y : ℕ) → Contains ys y → contains_number ys y ≡ true
is_contained [] y c = absurd (nothing_in y c)
is_contained (x ∷ ys) y c = elim (in_cases x y ys c) [
  | inl e ↦ ap (λ b. cond b true (contains_number ys y)) (eqb_same y x (sym e))
  | inr a ↦ ap (λ b. cond (eqb y x) true b) (is_contained ys y a) ∙ contains_true (eqb y x)
]

pub contains_or_not : (ys : List ℕ) (y : ℕ) → (Contains ys y × (contains_number ys y ≡ true)) ⊎ ((Contains ys y → ⊥) × (contains_number ys y ≡ false))
contains_or_not ys y = told (contains_number ys y) refl
  where
    told : (b : Bool) → contains_number ys y ≡ b → (Contains ys y × (contains_number ys y ≡ true)) ⊎ ((Contains ys y → ⊥) × (contains_number ys y ≡ false))
    told true e = inl (contains_is ys y e, e)
    told false e = inr (λ c. (let f : true ≡ false = sym (is_contained ys y c) ∙ e in cc), e)

module _ (ys : List ℕ) where
  without_in : (x : ℕ) (xs : List ℕ) → Contains ys x → sets_without (x ∷ xs) ys ≡ sets_without xs ys
  without_in x xs c = ap (λ b. cond b (sets_without xs ys) (x ∷ sets_without xs ys)) (is_contained ys x c)

  without_out : (x : ℕ) (xs : List ℕ) → (Contains ys x → ⊥) → sets_without (x ∷ xs) ys ≡ x ∷ sets_without xs ys
  without_out x xs d = elim (contains_or_not ys x) [
    | inl a ↦ absurd (d a.0)
    | inr a ↦ ap (λ b. cond b (sets_without xs ys) (x ∷ sets_without xs ys)) a.1
  ]

  pub sets_within : (xs : List ℕ) → ((y : ℕ) → Contains xs y → Contains ys y) → sets_without xs ys ≡ []
  sets_within [] all = refl
  sets_within (x ∷ xs) all = without_in x xs (all x (head_in x xs)) ∙ sets_within xs (λ y c. all y (tail_in x y xs c))

  pub sets_apart : (xs : List ℕ) → ((y : ℕ) → Contains xs y → Contains ys y → ⊥) → sets_without xs ys ≡ xs
  sets_apart [] none = refl
  sets_apart (x ∷ xs) none = without_out x xs (none x (head_in x xs)) ∙ ap (λ zs. x ∷ zs) (sets_apart xs (λ y c. none y (tail_in x y xs c)))

  pub sets_but_from : (xs : List ℕ) (y : ℕ) → Contains (sets_without xs ys) y → Contains xs y × (Contains ys y → ⊥)
  sets_but_from [] y c = absurd (nothing_in y c)
  sets_but_from (x ∷ xs) y c = elim (contains_or_not ys x) [
    | inl a ↦ (let rest = sets_but_from xs y (subst (λ zs. Contains zs y) (without_in x xs a.0) c) in (tail_in x y xs rest.0, rest.1))
    | inr a ↦ elim (in_cases x y (sets_without xs ys) (subst (λ zs. Contains zs y) (without_out x xs a.0) c)) [
      | inl e ↦ (subst (λ n. Contains (x ∷ xs) n) e (head_in x xs), λ b. a.0 (subst (λ n. Contains ys n) (sym e) b))
      | inr b ↦ (let rest = sets_but_from xs y b in (tail_in x y xs rest.0, rest.1))
    ]
  ]

  pub sets_but_in : (xs : List ℕ) (y : ℕ) → Contains xs y → (Contains ys y → ⊥) → Contains (sets_without xs ys) y
  sets_but_in [] y c d = absurd (nothing_in y c)
  sets_but_in (x ∷ xs) y c d = elim (contains_or_not ys x) [
    | inl a ↦ elim (in_cases x y xs c) [
      | inl e ↦ absurd (d (subst (λ n. Contains ys n) e a.0))
      | inr b ↦ subst (λ zs. Contains zs y) (sym (without_in x xs a.0)) (sets_but_in xs y b d)
    ]
    | inr a ↦ subst (λ zs. Contains zs y) (sym (without_out x xs a.0)) (elim (in_cases x y xs c) [
      | inl e ↦ subst (λ n. Contains (x ∷ sets_without xs ys) n) e (head_in x (sets_without xs ys))
      | inr b ↦ tail_in x y (sets_without xs ys) (sets_but_in xs y b d)
    ])
  ]

pub sets_but_same : (xs : List ℕ) → sets_without xs xs ≡ []
sets_but_same xs = sets_within xs xs (λ y c. c)

pub sets_but_none : (xs : List ℕ) → sets_without xs [] ≡ xs
sets_but_none xs = sets_apart [] xs (λ y c d. nothing_in y d)

turned_about : (b : Bool) (a c : List ℕ) → cond (cond b true false) a c ≡ cond (not b) c a
turned_about true a c = refl
turned_about false a c = refl

pub sets_but_one : (xs : List ℕ) (s : ℕ) → sets_without xs (s ∷ []) ≡ without s xs
sets_but_one [] s = refl
sets_but_one (x ∷ xs) s = turned_about (eqb x s) (sets_without xs (s ∷ [])) (x ∷ sets_without xs (s ∷ [])) ∙ ap (λ zs. cond (not (eqb x s)) (x ∷ zs) zs) (sets_but_one xs s)

-- a set that joined
pub sets_but_joined : (xs ys : List ℕ) (s : ℕ) → ((y : ℕ) → Contains xs y → Contains ys y) → (Contains ys s → ⊥) → sets_without (xs ++ s ∷ []) ys ≡ s ∷ []
sets_but_joined [] ys s all none = without_out ys s [] none
sets_but_joined (x ∷ xs) ys s all none = without_in ys x (xs ++ s ∷ []) (all x (head_in x xs)) ∙ sets_but_joined xs ys s (λ y c. all y (tail_in x y xs c)) none

-- the set that was left
pub only_left : (xs : List ℕ) (s y : ℕ) → Contains (sets_without xs (without s xs)) y → y ≡ s
only_left xs s y c =
    let a = sets_but_from (without s xs) xs y c in
    elim (equal_or_not y s) [ inl e ↦ e | inr d ↦ absurd (a.1 (without_old s y xs d a.0)) ]

pub is_left : (xs : List ℕ) (s : ℕ) → Contains xs s → Contains (sets_without xs (without s xs)) s
is_left xs s c = sets_but_in (without s xs) xs s c (λ d. (without_from s s xs d).1 refl)
