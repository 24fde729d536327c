-- How many sets a port may be in.
use Rattle.std.proofs.Common.{◌≡◌, ◌∙◌, refl, ap, ℕ, suc, zero, ◌≤◌, List, [], ◌∷◌, ◌++◌, sym, ◌⊎◌, inl, inr, length, arith, true, false, Bool, cond, ap}
use Rattle.std.specs.Prelude.{if◌then◌else◌, filter, Contains}
use Rattle.mach_types.specs.declared.profiles.Profile.{Profile}
use Rattle.mach_types.specs.declared.profiles.Profile.TheVariants.{One, Two, Three}
use Rattle.mach_model.specs.NameGuards.{HasSeveral}
use Rattle.mach_model.specs.Lawful.{HasFewSets, AreApart}

pub few_none : (profile : Profile) → HasFewSets profile []
few_none One = omega arith
few_none Two = omega arith
few_none Three = tt

pub few_alone : (profile : Profile) (set : ℕ) → HasFewSets profile (set ∷ [])
few_alone One set = omega arith
few_alone Two set = omega arith
few_alone Three set = ((λ c. (let b = c.1 in omega (arith, b))), tt)

pub filtered : (test : ℕ → Bool) (xs : List ℕ) (x : ℕ) → Contains (filter test xs) x → Contains xs x × (test x ≡ true)
filtered test [] x (k, below, e) = absurd (omega (arith, below))
filtered test (y ∷ ys) x h = go (test y) refl (filtered test ys x) h
  where
    later : Contains ys x × (test x ≡ true) → Contains (y ∷ ys) x × (test x ≡ true)
    later r = ((suc r.0.0, (let b = r.0.1 in omega (arith, b)), r.0.2), r.1)

    go : (b : Bool) → test y ≡ b → (Contains (filter test ys) x → Contains ys x × (test x ≡ true)) → Contains (if b then y ∷ filter test ys else filter test ys) x →
        Contains (y ∷ ys) x × (test x ≡ true)
    go true e rest (zero, below, f) = ((zero, omega arith, f), ap test (sym f) ∙ e)
    go true e rest (suc k, below, f) = later (rest (k, omega (arith, below), f))
    go false e rest c = later (rest c)

fewer : (test : ℕ → Bool) (xs : List ℕ) → length (filter test xs) ≤ length xs
fewer test [] = omega arith
fewer test (y ∷ ys) = grind (arith, fewer test ys)

apart_left : (test : ℕ → Bool) (xs : List ℕ) → AreApart xs → AreApart (filter test xs)
apart_left test [] h = h
apart_left test (y ∷ ys) h = go (test y) (apart_left test ys h.1)
  where
    go : (b : Bool) → AreApart (filter test ys) → AreApart (cond b (y ∷ filter test ys) (filter test ys))
    go true rest = ((λ c. h.0 ((filtered test ys y c).0)), rest)
    go false rest = rest

-- where some sets are left
pub few_left : (profile : Profile) (test : ℕ → Bool) (xs : List ℕ) → HasFewSets profile xs → HasFewSets profile (filter test xs)
few_left One test xs h = let a = fewer test xs in omega (arith, a, h)
few_left Two test xs h = let a = fewer test xs in omega (arith, a, h)
few_left Three test xs h = apart_left test xs h

pub few_if : (profile : Profile) (a b : Bool) (xs : List ℕ) → HasFewSets profile xs → HasFewSets profile (cond a [] (cond b xs []))
few_if profile true b xs h = few_none profile
few_if profile false true xs h = h
few_if profile false false xs h = few_none profile

-- an element of a list with one more at its end
pub cases_more : (xs : List ℕ) (t x : ℕ) → Contains (xs ++ t ∷ []) x → Contains xs x ⊎ (t ≡ x)
cases_more [] t x (zero, b, e) = inr e
cases_more [] t x (suc k, b, e) = absurd (omega (arith, b))
cases_more (y ∷ ys) t x (zero, b, e) = inl (zero, omega arith, e)
cases_more (y ∷ ys) t x (suc k, b, e) = elim (cases_more ys t x (k, omega (arith, b), e)) [
  | inl h ↦ inl (suc h.0, (let c = h.1 in omega (arith, c)), h.2)
  | inr h ↦ inr h
]

apart_more : (xs : List ℕ) (t : ℕ) → AreApart xs → ¬ (Contains xs t) → AreApart (xs ++ t ∷ [])
apart_more [] t a n = ((λ c. (let b = c.1 in omega (arith, b))), tt)
apart_more (y ∷ ys) t a n = (
  (λ c. elim (cases_more ys t y c) [
    | inl h ↦ a.0 h
    | inr h ↦ n (zero, omega arith, sym h)
  ]),
  apart_more ys t a.1 (λ c. n (suc c.0, (let b = c.1 in omega (arith, b)), c.2)),
)

-- where there is one set more, in which the port wasn't
pub few_more : (profile : Profile) (t : ℕ) (xs : List ℕ) → ¬ ¬ (HasSeveral profile) → HasFewSets profile xs → ¬ (Contains xs t) → HasFewSets profile (xs ++ t ∷ [])
few_more One t xs may h not = absurd (may (λ x. x))
few_more Two t xs may h not = absurd (may (λ x. x))
few_more Three t xs may h not = apart_more xs t h not
