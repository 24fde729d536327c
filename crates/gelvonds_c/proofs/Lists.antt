-- A list that is written to an array, number by number.
use Rattle.std.proofs.Common.{◌≡◌, ℕ, zero, suc, ◌<◌, List, [], ◌∷◌, ◌++◌, length, take, drop, map, get_or, slice_set, ap, subst, arith, ◌+◌}

-- the next one is written behind those that were
next : {X : Type 0} (f : X → ℕ) (found : List X) (room : List ℕ) (i : ℕ) (x : X) → i < length room → i < length found → x ≡ get_or found i x
    → slice_set (map f (take i found) ++ drop i room) i (f x) ≡ map f (take (suc i) found) ++ drop (suc i) room
next f found [] i x p q e = absurd (omega (arith, p))
next f [] (r ∷ room) i x p q e = absurd (omega (arith, q))
next f (y ∷ found) (r ∷ room) zero x p q e = ap (λ z. f z ∷ room) e
next f (y ∷ found) (r ∷ room) (suc i) x p q e = ap (λ (l : List ℕ). f y ∷ l) (next f found room i x (omega (arith, p)) (omega (arith, q)) e)

pub put_next : {X : Type 0} (f : X → ℕ) (found : List X) (room : List ℕ) (i : ℕ) (x : X) → i < length room → i < length found → x ≡ get_or found i x
    → slice_set (map f (take i found) ++ drop i room) i (f x) ≡ map f (take (i + 1) found) ++ drop (i + 1) room
put_next f found room i x p q e =
    let more : suc i ≡ i + 1 = omega arith in
    subst (λ (n : ℕ). slice_set (map f (take i found) ++ drop i room) i (f x) ≡ map f (take n found) ++ drop n room) more (next f found room i x p q e)
