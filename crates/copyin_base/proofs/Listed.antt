-- What lists contain.
use Rattle.std.proofs.Common.{◌≡◌, ℕ, zero, suc, List, [], ◌∷◌, refl, sym, subst, arith, ◌⊎◌, inl, inr}
use Rattle.std.specs.Prelude.{Contains}
use Rattle.std.proofs.lemmas.Bool.Decides.{eqb_tells}
use Rattle.std.proofs.lemmas.List.Elements.{Contains-append_right}

pub none_listed : {A : Type 0} (xs : List A) → xs ≡ [] → (x : A) → Contains xs x → ⊥
none_listed xs none x c = go (subst (λ (ys : List _). Contains ys x) none c)
  where
    go : Contains [] x → ⊥
    go (i, below, is) = omega (arith, below)

pub listed_none : {A : Type 0} (xs : List A) → ((x : A) → Contains xs x → ⊥) → xs ≡ []
listed_none [] none = refl
listed_none (x ∷ xs) none = absurd (none x (0, omega arith, refl))

pub listed_one : {A : Type 0} (x y : A) → Contains (x ∷ []) y → y ≡ x
listed_one x y (zero, below, is) = sym is
listed_one x y (suc i, below, is) = absurd (omega (arith, below))

pub listed_later : {A : Type 0} (x : A) (xs : List A) (y : A) → Contains xs y → Contains (x ∷ xs) y
listed_later x xs y c = Contains-append_right (x ∷ []) xs y c

-- a number is listed, or it is not
pub is_listed : (xs : List ℕ) (x : ℕ) → Contains xs x ⊎ (Contains xs x → ⊥)
is_listed [] x = inr (none_listed [] refl x)
is_listed (y ∷ ys) x = elim (eqb_tells y x) [
  | inl h ↦ inl (zero, omega arith, h.1)
  | inr h ↦ elim (is_listed ys x) [
    | inl c ↦ inl (listed_later y ys x c)
    | inr none ↦ inr (later (h.1) none)
  ]
]
  where
    later : (y ≡ x → ⊥) → (Contains ys x → ⊥) → Contains (y ∷ ys) x → ⊥
    later not none (zero, below, is) = not is
    later not none (suc k, below, is) = none (k, omega (arith, below), is)
