-- Optional values, and tests that fail.
use Rattle.std.proofs.Common.{◌≡◌, ◌≢◌, ◌⊎◌, inl, inr, ℕ, Bool, true, false, refl, ap, sym, ◌∙◌, Option, Some, None, is_some, not, IsTrue, arith, IfNone, Result, Ok, Err, OnErr}
use Rattle.std.proofs.lemmas.Bool.{cases_eq}

pub same_some : {A : Type 0} (x y : A) → Some x ≡ Some y → x ≡ y
same_some x y e = cc

pub some_or_none : {A : Type 0} (x : A) (o : Option A) → o ≡ Some x → o ≡ None → ⊥
some_or_none x o a b = let e : Some x ≡ None = sym a ∙ b in cc

pub none_or_used : {A : Type 0} (o : Option A) → o ≡ None → is_some o ≡ true → ⊥
none_or_used o none there = let e : is_some o ≡ false = ap is_some none in cc

pub is_or_not : (o : Option ℕ) (k : ℕ) → (o ≡ Some k) ⊎ (o ≢ Some k)
is_or_not None k = inr (λ e. some_or_none k None e refl)
is_or_not (Some x) k = elim (cases_eq x k) [ inl e ↦ inl (ap (λ y. Some y) e) | inr n ↦ inr (λ e. n (same_some x k e)) ]

no_true : false ≡ true → ⊥
no_true e = cc

-- a test that fails
pub unless : (b : Bool) {P : Type 0} → (P → b ≡ true) → b ≡ false → P → ⊥
unless b told fails p = no_true (sym fails ∙ told p)

pub for_none : {A P : Type 0} (o : Option A) → P → IfNone o P
for_none None p = p
for_none (Some x) p = tt

pub for_err : {A E P : Type 0} (r : Result A E) → P → OnErr r P
for_err (Ok x) p = tt
for_err (Err e) p = p

-- a test that finds nothing
pub none_told : {A : Type 0} (x : Option A) (b : Bool) → is_some x ≡ not b → IsTrue b → x ≡ None
none_told None b e t = refl
none_told (Some y) b e t = grind arith
