-- Rising lists with the same numbers are the same list.
use Rattle.std.proofs.Common.{◌≡◌, ℕ, zero, suc, ◌<◌, List, [], ◌∷◌, refl, ap, ◌∙◌, arith, ◌⊎◌, inl, inr}
use Rattle.std.specs.Prelude.{AllPairs, Contains}

abbrev pub IsRising : List ℕ → Type 0
IsRising xs = AllPairs (λ a b. a < b) xs

contains_first : (x : ℕ) (xs : List ℕ) → Contains (x ∷ xs) x
contains_first x xs = (0, (omega arith), refl)

contains_later : (x : ℕ) (xs : List ℕ) (n : ℕ) → Contains xs n → Contains (x ∷ xs) n
contains_later x xs n (k, within, is) = (suc k, (omega (arith, within)), is)

contains_cases : (x : ℕ) (xs : List ℕ) (n : ℕ) → Contains (x ∷ xs) n → (x ≡ n) ⊎ Contains xs n
contains_cases x xs n (zero, within, is) = inl is
contains_cases x xs n (suc k, within, is) = inr (k, (omega (arith, within)), is)

below_later : (x : ℕ) (xs : List ℕ) (n : ℕ) → IsRising (x ∷ xs) → Contains xs n → x < n
below_later x xs n rising (k, within, is) = let h = rising 0 (suc k) n (omega arith) (omega (arith, within)) in omega (arith, h, is)

rising_tail : (x : ℕ) (xs : List ℕ) → IsRising (x ∷ xs) → IsRising xs
rising_tail x xs rising = λ i j d less within. rising (suc i) (suc j) d (omega (arith, less)) (omega (arith, within))

-- the first of one list is not behind that of the other
not_behind : (x y : ℕ) (xs ys : List ℕ) → IsRising (y ∷ ys) → ((n : ℕ) → Contains (x ∷ xs) n → Contains (y ∷ ys) n) → (x < y → ⊥)
not_behind x y xs ys rising f less = elim (contains_cases y ys x (f x (contains_first x xs))) [
  | inl h ↦ omega (arith, h, less)
  | inr h ↦ let g = below_later y ys x rising h in omega (arith, g, less)
]

contained_tail : (x y : ℕ) (xs ys : List ℕ) → x ≡ y → IsRising (x ∷ xs) → ((n : ℕ) → Contains (x ∷ xs) n → Contains (y ∷ ys) n) → (n : ℕ) → Contains xs n → Contains ys n
contained_tail x y xs ys e rising f n h = elim (contains_cases y ys n (f n (contains_later x xs n h))) [
  | inl g ↦ absurd (let b = below_later x xs n rising h in omega (arith, b, e, g))
  | inr g ↦ g
]

none_contained : (n : ℕ) → Contains [] n → ⊥
none_contained n (k, within, is) = omega (arith, within)

pub one_rising : (xs ys : List ℕ) → IsRising xs → IsRising ys → ((n : ℕ) → Contains xs n → Contains ys n) → ((n : ℕ) → Contains ys n → Contains xs n) → xs ≡ ys
one_rising [] [] a b f g = refl
one_rising (x ∷ xs) (y ∷ ys) a b f g =
    let low = not_behind x y xs ys b f in
    let high = not_behind y x ys xs a g in
    let e : x ≡ y = omega (arith, low, high) in
    let back : y ≡ x = omega (arith, e) in
    let rest = one_rising xs ys (rising_tail x xs a) (rising_tail y ys b) (contained_tail x y xs ys e a f) (contained_tail y x ys xs back b g) in
    ap (λ z. z ∷ xs) e ∙ ap (λ zs. y ∷ zs) rest
one_rising [] (y ∷ ys) a b f g = absurd (none_contained y (g y (contains_first y ys)))
one_rising (x ∷ xs) [] a b f g = absurd (none_contained x (f x (contains_first x xs)))
