-- Elements of lists after one was set.
use Rattle.std.proofs.Common.{◌≡◌, ℕ, List, [], ◌∷◌, Option, Some, None, refl, length, zero, suc, ◌⊎◌, inl, inr, sym, ap, subst, ◌∙◌}
use Rattle.std.specs.Prelude.{slice_get, slice_set, ◌≢◌}

pub get-set_same : {A : Type 0} (xs : List A) (i : ℕ) (y x : A) → slice_get xs i ≡ Some x → slice_get (slice_set xs i y) i ≡ Some y
get-set_same [] i y x e = absurd (let e' : None ≡ Some x = e in cc)
get-set_same (z ∷ xs) zero y x e = refl
get-set_same (z ∷ xs) (suc i) y x e = get-set_same xs i y x e

pub get-set_other : {A : Type 0} (xs : List A) (i : ℕ) (y : A) (j : ℕ) → j ≢ i → slice_get (slice_set xs i y) j ≡ slice_get xs j
get-set_other [] i y j not = refl
get-set_other (z ∷ xs) zero y zero not = absurd (not refl)
get-set_other (z ∷ xs) zero y (suc j) not = refl
get-set_other (z ∷ xs) (suc i) y zero not = refl
get-set_other (z ∷ xs) (suc i) y (suc j) not = get-set_other xs i y j (λ e. not (ap suc e))

pub length-set : {A : Type 0} (xs : List A) (i : ℕ) (y : A) → length (slice_set xs i y) ≡ length xs
length-set [] i y = refl
length-set (z ∷ xs) zero y = refl
length-set (z ∷ xs) (suc i) y = ap suc (length-set xs i y)

-- an element that is there, or none
pub seen : {A : Type 0} (o : Option A) → ((x : A) × (o ≡ Some x)) ⊎ (o ≡ None)
seen (Some x) = inl (x, refl)
seen None = inr refl

-- what is found is found once
pub same_found : {A : Type 0} (o : Option A) (x y : A) → o ≡ Some x → o ≡ Some y → x ≡ y
same_found o x y a b = let e : Some x ≡ Some y = sym a ∙ b in cc

pub of_some : {A : Type 0} (x : A) (P : A → Type 0) → P x → (y : A) → Some x ≡ Some y → P y
of_some x P h y e = subst P (same_found (Some x) x y refl e) h

pub same_head : {A : Type 0} (xs : List A) (x y : A) (zs ws : List A) → xs ≡ x ∷ zs → xs ≡ y ∷ ws → x ≡ y
same_head xs x y zs ws a b = let e : x ∷ zs ≡ y ∷ ws = sym a ∙ b in cc
