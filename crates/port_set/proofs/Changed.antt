-- Sets once one came, was changed or went.
use Rattle.std.proofs.Common.{◌≡◌, inl, inr, ℕ, ◌+◌, ◌<◌, ◌^◌, true, false, refl, ap, sym, ◌∙◌, Option, Some, None, is_some, arith}
use Rattle.std.specs.Option.{SomeIff}
use Rattle.std.specs.Ordering.{nat_cmp}
use Rattle.std.specs.FinMap as map
use Rattle.port.specs.Records.{made_of}
use Rattle.port.proofs.Keys.{equal_or_not, put_other, out_here, out_other, same_some}
use Rattle.port.proofs.Grown.{made_more, next_in_range}
use Rattle.port_set.specs.declared.SetRecord.{SetRecord}
use Rattle.port_set.specs.Kept.{IsKept}

abbrev pub Records : Type 0
Records = map.FinMap nat_cmp SetRecord

no_true : false ≡ true → ⊥
no_true e = cc

none_of : {A : Type 0} (o : Option A) → (is_some o ≡ true → ⊥) → o ≡ None
none_of None h = refl
none_of (Some x) h = absurd (h refl)

pub kept-empty : (m : Records) → m ≡ map.empty → IsKept m (Some 0)
kept-empty m e = record {
  given = λ q h. absurd (no_true (sym (ap is_some (ap (λ (n : Records). map.get n q) e ∙ map.get-empty nat_cmp q)) ∙ h));
  next_fits = λ n h. let zero_is : 0 ≡ n = same_some 0 n h in omega arith;
}

module _ (m : Records) (next : Option ℕ) (kept : IsKept m next) (set : ℕ) where
  -- the next is not there yet
  pub not_yet : next ≡ Some set → map.get m set ≡ None
  not_yet is = none_of (map.get m set) (λ h. let less : set < made_of next = kept.given set h in let at : made_of next ≡ set = ap made_of is in omega arith)

  pub kept-put : map.contains_key m set ≡ true → (n : Records) (r : SetRecord) → n ≡ map.insert m set r → IsKept n next
  kept-put there n r e = record {
    given = λ q h. elim (equal_or_not q set) [
      | inl same ↦ kept.given q (ap (map.contains_key m) same ∙ there)
      | inr d ↦ kept.given q (ap is_some (sym (ap (λ (x : Records). map.get x q) e ∙ put_other m set r q d)) ∙ h)
    ];
    next_fits = kept.next_fits;
  }

  pub kept-out : (n : Records) → n ≡ map.remove m set → IsKept n next
  kept-out n e = record {
    given = λ q h. elim (equal_or_not q set) [
      | inl same ↦ absurd (no_true (sym (ap is_some (ap (λ (x : Records). map.get x q) e ∙ ap (map.get (map.remove m set)) same ∙ out_here m set)) ∙ h))
      | inr d ↦ kept.given q (ap is_some (sym (ap (λ (x : Records). map.get x q) e ∙ out_other m set q d)) ∙ h)
    ];
    next_fits = kept.next_fits;
  }

  module _ (then : Option ℕ) (is_next : next ≡ Some set) (more : SomeIff then (set + 1 < 2 ^ 64) (set + 1)) (n : Records) (r : SetRecord) (e : n ≡ map.insert m set r) where
    grown : made_of then ≡ set + 1
    grown = made_more then set more (kept.next_fits set is_next)

    pub kept-came : IsKept n then
    kept-came = record {
      given = λ q h. elim (equal_or_not q set) [
        | inl same ↦ let at = grown in omega arith
        | inr d ↦
            let less : q < made_of next = kept.given q (ap is_some (sym (ap (λ (x : Records). map.get x q) e ∙ put_other m set r q d)) ∙ h) in
            let at : made_of next ≡ set = ap made_of is_next in
            let now = grown in
            omega arith
      ];
      next_fits = next_in_range then set more;
    }
