-- There is a fresh name, whatever names are in use.
use Rattle.std.proofs.Common.{◌≡◌, inl, inr, ◌⊎◌, ℕ, zero, suc, ◌+◌, ◌*◌, ◌/◌, ◌%◌, ◌<◌, ◌≤◌, refl, ap, sym, subst, ◌∙◌, Option, Some, None, is_some, arith}
use Rattle.std.proofs.lemmas.Bool.{cases_lt}
use Rattle.std.specs.Ordering.{nat_cmp}
use Rattle.std.specs.FinMap as map
use Rattle.tagged_names.specs.Names.{TaggedView, IsTaken, IsFreshIndex, IsFreshName, count_of}
use Rattle.tagged_names.proofs.Fresh.{all_taken}

module _ {V : Type 0} (m : map.FinMap nat_cmp V) where
  -- none of the first names of the index is in use
  abbrev AreFree : (index k : ℕ) → Type 0
  AreFree index k = (name : ℕ) → name / 256 ≡ index → name % 256 < k → map.get m name ≡ None

  one_more : (index k : ℕ) → k < 256 → AreFree index k → (o : Option V) → map.get m (256 * index + k) ≡ o → IsTaken m index ⊎ AreFree index (suc k)
  one_more index k small free (Some v) at = inl record { name = 256 * index + k; at = omega (arith, small); used = ap is_some at }
  one_more index k small free None at = inr (λ name is below. go name is below)
    where
      go : (name : ℕ) → name / 256 ≡ index → name % 256 < suc k → map.get m name ≡ None
      go name is below = grind (arith, free, at)

  up_to : (index k : ℕ) → k ≤ 256 → IsTaken m index ⊎ AreFree index k
  up_to index zero small = inr (λ name is below. absurd (omega (arith, below)))
  up_to index (suc k) small = elim (up_to index k (omega (arith, small))) [
    | inl taken ↦ inl taken
    | inr free ↦ one_more index k (omega (arith, small)) free (map.get m (256 * index + k)) refl
  ]

  taken_or_free : (index : ℕ) → IsTaken m index ⊎ ((name : ℕ) → name / 256 ≡ index → map.get m name ≡ None)
  taken_or_free index = elim (up_to index 256 (omega arith)) [
    | inl taken ↦ inl taken
    | inr free ↦ inr (λ name is. free name is (omega arith))
  ]

  first_to : (k : ℕ) → ((i : ℕ) → 0 < i → i ≤ k → IsTaken m i) ⊎ ((index : ℕ) × IsFreshIndex m index)
  first_to zero = inl (λ i some below. absurd (omega (arith, some, below)))
  first_to (suc k) = elim (first_to k) [
    | inl all ↦ next all (taken_or_free (suc k))
    | inr found ↦ inr found
  ]
    where
      next : ((i : ℕ) → 0 < i → i ≤ k → IsTaken m i) → IsTaken m (suc k) ⊎ ((name : ℕ) → name / 256 ≡ suc k → map.get m name ≡ None) →
          ((i : ℕ) → 0 < i → i ≤ suc k → IsTaken m i) ⊎ ((index : ℕ) × IsFreshIndex m index)
      next all (inl taken) = inl (λ i some below. last all taken i some below)
        where
          last : ((i : ℕ) → 0 < i → i ≤ k → IsTaken m i) → IsTaken m (suc k) → (i : ℕ) → 0 < i → i ≤ suc k → IsTaken m i
          last all taken i some below = elim (cases_lt i (suc k)) [
            | inl h ↦ all i some (omega (arith, h))
            | inr h ↦ let same : suc k ≡ i = omega (arith, below, h) in subst (IsTaken m) same taken
          ]
      next all (inr free) = inr (suc k, record { free = free; positive = omega arith; least = λ i some less. all i some (omega (arith, less)) })

  fresh_index : (index : ℕ) × IsFreshIndex m index
  fresh_index = elim (first_to (map.len m + 1)) [
    | inl all ↦ absurd (let many = all_taken m (map.len m + 1) all in omega (arith, many))
    | inr found ↦ found
  ]

pub has_fresh_name : {V : Type 0} (v : TaggedView V) → (name : ℕ) × IsFreshName v name
has_fresh_name v =
    let i = fresh_index v.names in
    let name : ℕ = 256 * i.0 + count_of v.given i.0 % 256 in
    let same : name / 256 ≡ i.0 = omega arith in (
      name,
      record { index = subst (IsFreshIndex v.names) (sym same) i.1; low = (let low : name % 256 ≡ count_of v.given i.0 % 256 = omega arith in low ∙ ap (λ n. count_of v.given n % 256) (sym same)) },
    )
