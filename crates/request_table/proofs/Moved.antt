-- A finite map at a key and at another, and what stays of a list that an item left.
use Rattle.std.proofs.Common.{◌≡◌, ◌≢◌, inl, inr, ℕ, ◌+◌, ◌-◌, ◌<◌, ◌≤◌, length, true, false, cond, not, eqb, Option, Some, None, is_some, List, [], ◌∷◌, ◌++◌, refl, ap, sym, ◌∙◌, arith, Contains}
use Rattle.std.specs.Ordering.{nat_cmp}
use Rattle.std.specs.Option.{SomeIff}
use Rattle.std.specs.Prelude.{OnErr}
use Rattle.std.proofs.Common.{Result, Ok, Err, ◌^◌}
use Rattle.std.specs.Cmp.{nat_cmp_total}
use Rattle.std.specs.FinMap as map
use Rattle.member_lists.specs.Lists.{without}
use Rattle.member_lists.specs.Chains.{times}
use Rattle.std.proofs.lemmas.List.{length-append}
use Rattle.request_table.specs.Kept.{IsTaken}
use Rattle.member_lists.proofs.Sound.{out_here, out_other}
use Rattle.member_lists.proofs.Times.{same_some, none_some, times_from_Contains, Contains_from_times, times-filter_in, times-filter_passes, times-filter_most, times-append, times_here, times_other, equal_or_not, eqb_same, eqb_other}

pub no_true : false ≡ true → ⊥
no_true e = cc

pub some_not_none : {A : Type 0} (x : A) (o : Option A) → o ≡ Some x → o ≡ None → ⊥
some_not_none x o a b = none_some x (sym b ∙ a)

module _ {X : Type 0} (m : map.FinMap nat_cmp X) (k : ℕ) where
  pub len_put : (v : X) → map.get m k ≡ None → map.len (map.insert m k v) ≡ map.len m + 1
  len_put v none = map.len-insert nat_cmp_total m k v ∙ ap (λ b. cond b (map.len m) (map.len m + 1)) (ap is_some none)

  pub len_set : (v was : X) → map.get m k ≡ Some was → map.len (map.insert m k v) ≡ map.len m
  len_set v was some = map.len-insert nat_cmp_total m k v ∙ ap (λ b. cond b (map.len m) (map.len m + 1)) (ap is_some some)

  pub len_out : (was : X) → map.get m k ≡ Some was → map.len (map.remove m k) ≡ map.len m - 1
  len_out was some = map.len-remove nat_cmp_total m k ∙ ap (λ b. cond b (map.len m - 1) (map.len m)) (ap is_some some)

pub left_in : (x item : ℕ) (ys : List ℕ) → Contains (without item ys) x → Contains ys x
left_in x item ys c =
    let a = times_from_Contains x (without item ys) c in
    let b = times-filter_most (λ y. not (eqb y item)) x ys in
    Contains_from_times x ys (omega arith)

pub left_other : (x item : ℕ) (ys : List ℕ) → x ≢ item → Contains ys x → Contains (without item ys) x
left_other x item ys d c =
    let a = times_from_Contains x ys c in
    let b = times-filter_in (λ y. not (eqb y item)) x ys (ap not (eqb_other x item d)) in
    Contains_from_times x (without item ys) (omega arith)

pub left_none : (item : ℕ) (ys : List ℕ) → Contains (without item ys) item → ⊥
left_none item ys c =
    let passes = times-filter_passes (λ y. not (eqb y item)) item ys (times_from_Contains item (without item ys) c) in
    no_true (ap not (sym (eqb_same item item refl)) ∙ passes)

pub times_pushed_here : (x : ℕ) (xs : List ℕ) → times x (xs ++ x ∷ []) ≡ times x xs + 1
times_pushed_here x xs = let a = times-append x xs (x ∷ []) in let b = times_here x x [] refl in omega arith

pub times_pushed_other : (x y : ℕ) (xs : List ℕ) → x ≢ y → times x (xs ++ y ∷ []) ≡ times x xs
times_pushed_other x y xs d = let a = times-append x xs (y ∷ []) in let b = times_other x y [] d in omega arith

-- the last of the free items is taken
pub taken-free : (old new : List ℕ) (fresh item : ℕ) → old ≡ new ++ item ∷ [] → ((x : ℕ) → times x old ≤ 1) → ((x : ℕ) → 0 < times x old → x < fresh) → IsTaken old new fresh fresh item
taken-free old new fresh item is once below =
    let here : times item old ≡ times item new + 1 = ap (times item) is ∙ times_pushed_here item new in
    let len : length old ≡ length (new ++ item ∷ []) = ap (λ (l : List ℕ). length l) is in
    record {
      was = inl (omega arith);
      below = below item (omega arith);
      gone = (let o = once item in omega arith);
      fewer = λ x. (let t = times-append x new (item ∷ []) in let s : times x old ≡ times x (new ++ item ∷ []) = ap (times x) is in omega arith);
      counted = (let n = length-append new (item ∷ []) in omega arith);
      grown = inl refl;
    }

-- a key that was not there is not there without another
pub absent-out : {X : Type 0} (m : map.FinMap nat_cmp X) (k q : ℕ) → map.get m q ≡ None → map.get (map.remove m k) q ≡ None
absent-out m k q none = elim (equal_or_not q k) [
  | inl e ↦ ap (map.get (map.remove m k)) e ∙ out_here m k
  | inr d ↦ out_other m k q d ∙ none
]

pub sum_told : (o : Option ℕ) (x n : ℕ) → SomeIff o (n < 2 ^ 64) n → Some x ≡ o → x ≡ n
sum_told None x n h e = absurd (none_some x (sym e))
sum_told (Some y) x n h e = (let same : x ≡ y = same_some x y e in same ∙ h.1)

pub on_err : {A E : Type 0} (r : Result A E) (P : Type 0) → P → OnErr r P
on_err (Ok x) P p = _
on_err (Err e) P p = p
