-- Going along a list from its front.
use Rattle.std.proofs.Common.{◌≡◌, inl, inr, ℕ, suc, ◌+◌, ◌<◌, ◌≤◌, cond, eqb, List, [], ◌∷◌, ◌++◌, length, append_assoc, Option, Some, None, slice_get, refl, sym, ap, subst, ◌∙◌, arith, Contains}
use Rattle.member_lists.specs.Chains.{times}
use Rattle.member_lists.proofs.Times.{none_some, same_some, equal_or_not, eqb_same, eqb_other, times_here, times_more, times-append, Contains_from_times}

-- these are passed, and this is next
pub record IsAt (xs : List ℕ) (next : Option ℕ) (front back : List ℕ) : Type 0 where
  pub is : xs ≡ front ++ back
  pub next_is : next ≡ slice_get back 0

-- how many there are from this one on
abbrev from : List ℕ → ℕ → ℕ
from [] k = 0
from (x ∷ xs) k = cond (eqb x k) (suc (length xs)) (from xs k)

abbrev pub left_from : List ℕ → Option ℕ → ℕ
left_from xs None = 0
left_from xs (Some k) = from xs k

from_here : (front : List ℕ) (k : ℕ) (back : List ℕ) → times k (front ++ k ∷ back) ≤ 1 → from (front ++ k ∷ back) k ≡ suc (length back)
from_here [] k back once = ap (λ b. cond b (suc (length back)) (from back k)) (eqb_same k k refl)
from_here (x ∷ front) k back once =
    let here = times_here k k back refl in
    let all = times-append k front (k ∷ back) in
    let more = times_more k x (front ++ k ∷ back) in
    elim (equal_or_not x k) [
      | inl e ↦ absurd (let two = times_here k x (front ++ k ∷ back) (sym e) in omega arith)
      | inr d ↦ ap (λ b. cond b (suc (length (front ++ k ∷ back))) (from (front ++ k ∷ back) k)) (eqb_other x k d) ∙ from_here front k back (omega arith)
    ]

pub got_at : (front : List ℕ) (k : ℕ) (back : List ℕ) → slice_get (front ++ k ∷ back) (length front) ≡ Some k
got_at [] k back = refl
got_at (x ∷ front) k back = got_at front k back

pub got_next : (front : List ℕ) (k : ℕ) (back : List ℕ) → slice_get (front ++ k ∷ back) (length front + 1) ≡ slice_get back 0
got_next front k back = ap (slice_get (front ++ k ∷ back)) (let e : length front + 1 ≡ suc (length front) = omega arith in e) ∙ by front
  where
    by : (front : List ℕ) → slice_get (front ++ k ∷ back) (suc (length front)) ≡ slice_get back 0
    by [] = refl
    by (x ∷ front) = by front

pub record Rest (xs : List ℕ) (k : ℕ) (front back : List ℕ) : Type 0 where
  pub rest : List ℕ
  pub back_is : back ≡ k ∷ rest
  pub is : xs ≡ front ++ k ∷ rest

pub rest_of : (xs : List ℕ) (k : ℕ) (front back : List ℕ) → IsAt xs (Some k) front back → Rest xs k front back
rest_of xs k front [] a = absurd (none_some k (sym a.next_is))
rest_of xs k front (x ∷ back) a =
    let same : x ≡ k = sym (same_some k x a.next_is) in
    record { rest = back; back_is = ap (λ y. y ∷ back) same; is = a.is ∙ ap (λ y. front ++ y ∷ back) same }

pub none_of : (o : Option ℕ) → ((x : ℕ) → o ≡ Some x → ⊥) → o ≡ None
none_of None not = refl
none_of (Some x) not = absurd (not x refl)

pub none_back : (xs : List ℕ) (front back : List ℕ) → IsAt xs None front back → back ≡ []
none_back xs front [] a = refl
none_back xs front (x ∷ back) a = absurd (none_some x a.next_is)

pub nothing_left : (xs : List ℕ) (front back : List ℕ) → IsAt xs None front back → xs ≡ front ++ []
nothing_left xs front [] a = a.is
nothing_left xs front (x ∷ back) a = absurd (none_some x a.next_is)

module _ (xs : List ℕ) (k : ℕ) (front back : List ℕ) (a : IsAt xs (Some k) front back) where
  abbrev r : Rest xs k front back
  r = rest_of xs k front back a

  pub at_inside : Contains xs k
  at_inside = Contains_from_times k xs
      (let all : times k xs ≡ times k front + times k (k ∷ r.rest) = ap (times k) r.is ∙ times-append k front (k ∷ r.rest) in
      let here = times_here k k r.rest refl in omega arith)

  module _ (next : Option ℕ) (after : (i : ℕ) → slice_get xs i ≡ Some k → next ≡ slice_get xs (i + 1)) where
    pub next_is : next ≡ slice_get r.rest 0
    next_is = after (length front) (ap (λ ys. slice_get ys (length front)) r.is ∙ got_at front k r.rest) ∙ ap (λ ys. slice_get ys (length front + 1)) r.is ∙ got_next front k r.rest

    pub at_next : IsAt xs next (front ++ k ∷ []) r.rest
    at_next = record { is = r.is ∙ sym (append_assoc front (k ∷ []) r.rest); next_is = next_is }

    pub fewer : times k xs ≤ 1 → ((j : ℕ) → times j xs ≤ 1) → left_from xs next < left_from xs (Some k)
    fewer one once =
        let here : from xs k ≡ suc (length r.rest) = ap (λ ys. from ys k) r.is ∙ from_here front k r.rest (let o : times k (front ++ k ∷ r.rest) ≤ 1 = rw r.is at one in o) in
        by next refl here
      where
        by : (o : Option ℕ) → next ≡ o → from xs k ≡ suc (length r.rest) → left_from xs o < from xs k
        by None e here = omega arith
        by (Some j) e here =
            let b : IsAt xs (Some j) (front ++ k ∷ []) r.rest = subst (λ n. IsAt xs n (front ++ k ∷ []) r.rest) e at_next in
            let t = rest_of xs j (front ++ k ∷ []) r.rest b in
            let there : from xs j ≡ suc (length t.rest) = ap (λ ys. from ys j) t.is ∙ from_here (front ++ k ∷ []) j t.rest (let o : times j ((front ++ k ∷ []) ++ j ∷ t.rest) ≤ 1 = rw t.is at (once j) in o) in
            let len : length r.rest ≡ suc (length t.rest) = ap (λ (ys : List ℕ). length ys) t.back_is in
            omega arith
