-- A finite map at a key, and at another.
use Rattle.std.proofs.Common.{◌≡◌, ◌≢◌, ◌⊎◌, inl, inr, ℕ, ◌+◌, ◌-◌, ◌<◌, ◌≤◌, Bool, true, false, cond, refl, ap, sym, ◌∙◌, Option, Some, None, is_some, IfNone, Result, Ok, Err, OnErr, eqb, arith}
use Rattle.std.proofs.lemmas.Bool.{ne_eqb}
use Rattle.std.proofs.lemmas.Bool.Decides.{eqb_tells}
use Rattle.std.specs.Ordering.{nat_cmp}
use Rattle.std.specs.Cmp.{nat_cmp_total, unsigned_tied}
use Rattle.std.specs.FinMap as map

pub same_some : {A : Type 0} (x y : A) → Some x ≡ Some y → x ≡ y
same_some x y e = cc

pub some_or_none : {A : Type 0} (x : A) (o : Option A) → o ≡ Some x → o ≡ None → ⊥
some_or_none x o a b = let e : Some x ≡ None = sym a ∙ b in cc

pub for_none : {A P : Type 0} (o : Option A) → P → IfNone o P
for_none None p = p
for_none (Some x) p = tt

pub for_err : {A E P : Type 0} (r : Result A E) → P → OnErr r P
for_err (Ok x) p = tt
for_err (Err e) p = p

pub equal_or_not : (q k : ℕ) → (q ≡ k) ⊎ (q ≢ k)
equal_or_not q k = elim (eqb_tells q k) [ inl h ↦ inl h.1 | inr h ↦ inr h.1 ]

pub eqb-same : (k : ℕ) → eqb k k ≡ true
eqb-same k = elim (eqb_tells k k) [ inl h ↦ h.0 | inr h ↦ absurd (h.1 refl) ]

pub is_or_not : (o : Option ℕ) (k : ℕ) → (o ≡ Some k) ⊎ (o ≢ Some k)
is_or_not None k = inr (λ e. some_or_none k None e refl)
is_or_not (Some x) k = elim (equal_or_not x k) [ inl e ↦ inl (ap (λ y. Some y) e) | inr n ↦ inr (λ e. n (same_some x k e)) ]

module _ {X : Type 0} (m : map.FinMap nat_cmp X) (k : ℕ) where
  pub put_here : (v : X) → map.get (map.insert m k v) k ≡ Some v
  put_here v = map.get-insert nat_cmp_total m k v k ∙ ap (λ b. cond b (Some v) (map.get m k)) (unsigned_tied k k ∙ eqb-same k)

  pub put_other : (v : X) (q : ℕ) → q ≢ k → map.get (map.insert m k v) q ≡ map.get m q
  put_other v q n = map.get-insert nat_cmp_total m k v q ∙ ap (λ b. cond b (Some v) (map.get m q)) (unsigned_tied q k ∙ ne_eqb q k n)

  pub out_here : map.get (map.remove m k) k ≡ None
  out_here = map.get-remove nat_cmp_total m k k ∙ ap (λ b. cond b (let none : Option X = None in none) (map.get m k)) (unsigned_tied k k ∙ eqb-same k)

  pub out_other : (q : ℕ) → q ≢ k → map.get (map.remove m k) q ≡ map.get m q
  out_other q n = map.get-remove nat_cmp_total m k q ∙ ap (λ b. cond b (let none : Option X = None in none) (map.get m q)) (unsigned_tied q k ∙ ne_eqb q k n)

-- two maps that answer alike are equal
pub same_gets : {X : Type 0} (m n : map.FinMap nat_cmp X) → ((q : ℕ) → map.get m q ≡ map.get n q) → m ≡ n
same_gets m n is = map.same_map nat_cmp_total map.nat_cmp-IsAntisymmetric m n is

pub len-put : {X : Type 0} (m : map.FinMap nat_cmp X) (k : ℕ) (v : X) {most : ℕ} → map.len m < most → map.len (map.insert m k v) ≤ most
len-put m k v {most} h = told (map.contains_key m k) (map.len (map.insert m k v)) (map.len-insert nat_cmp_total m k v)
  where
    told : (b : Bool) (a : ℕ) → a ≡ cond b (map.len m) (map.len m + 1) → a ≤ most
    told true a e = omega arith
    told false a e = omega arith

pub len-out : {X : Type 0} (m : map.FinMap nat_cmp X) (k : ℕ) {most : ℕ} → map.len m ≤ most → map.len (map.remove m k) ≤ most
len-out m k {most} h = told (map.contains_key m k) (map.len (map.remove m k)) (map.len-remove nat_cmp_total m k)
  where
    told : (b : Bool) (a : ℕ) → a ≡ cond b (map.len m - 1) (map.len m) → a ≤ most
    told true a e = omega arith
    told false a e = omega arith

-- one key less
pub fewer : {X : Type 0} (m : map.FinMap nat_cmp X) (k : ℕ) (v : X) {most : ℕ} → map.get m k ≡ Some v → map.len m ≤ most → map.len (map.remove m k) < most
fewer {X} m k v {most} here h =
    let out : map.len (map.remove m k) ≡ map.len m - 1 = map.len-remove nat_cmp_total m k ∙ ap (λ o. cond (is_some o) (map.len m - 1) (map.len m)) here in
    let some : (map.len m ≡ 0 → ⊥) = λ none. some_or_none v _ here (ap (λ (a : map.FinMap nat_cmp X). map.get a k) (map.empty_of_len m none) ∙ map.get-empty nat_cmp k) in
    omega arith

-- a key put over what it was taken from
pub put_over : {X : Type 0} (m : map.FinMap nat_cmp X) (k : ℕ) (v : X) → map.insert (map.remove m k) k v ≡ map.insert m k v
put_over m k v = same_gets _ _ (λ q. elim (equal_or_not q k) [
  | inl e ↦ ap (map.get (map.insert (map.remove m k) k v)) e ∙ put_here (map.remove m k) k v ∙ sym (put_here m k v) ∙ ap (map.get (map.insert m k v)) (sym e)
  | inr d ↦ put_other (map.remove m k) k v q d ∙ out_other m k q d ∙ sym (put_other m k v q d)
])
