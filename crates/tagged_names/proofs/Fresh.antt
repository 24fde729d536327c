-- The fresh index, and how it is found among the places.
use Rattle.std.proofs.Common.{◌≡◌, ◌≢◌, inl, inr, ℕ, zero, suc, ◌+◌, ◌/◌, ◌<◌, ◌≤◌, true, refl, ap, ◌∙◌, Some, is_some, arith}
use Rattle.std.proofs.lemmas.Bool.{cases_lt}
use Rattle.std.specs.Ordering.{nat_cmp}
use Rattle.std.specs.FinMap as map
use Rattle.name_space_base.specs.Pages.{IsFirstFree}
use Rattle.name_space_base.proofs.Tables.{out_other, len-out}
use Rattle.tagged_names.specs.declared.places.Slot.{Slot}
use Rattle.tagged_names.specs.Names.{IsTaken, IsFreshIndex}
use Rattle.tagged_names.specs.Places.{Slots, value_for, placed, joined, IsLaid}
use Rattle.name_space_base.proofs.Options.{none_or_used}
use Rattle.tagged_names.proofs.Joined.{known, there, unused, no_slot, slot_of, own_name}
use Rattle.tagged_names.proofs.Changes.{seen_place, seen_tree}

-- where all indices from 1 up to a bound are taken, there are so many names
pub all_taken : {V : Type 0} (m : map.FinMap nat_cmp V) (bound : ℕ) → ((i : ℕ) → 0 < i → i ≤ bound → IsTaken m i) → bound ≤ map.len m
all_taken m zero taken = omega arith
all_taken m (suc b) taken =
    let t : IsTaken m (suc b) = taken (suc b) (omega arith) (omega arith) in
    let less : map.len (map.remove m t.name) + 1 ≡ map.len m = len-out m t.name t.used in
    let rest : b ≤ map.len (map.remove m t.name) = all_taken (map.remove m t.name) b (λ i a h.
    let u : IsTaken m i = taken i a (omega arith) in
    record { name = u.name; at = u.at; used = ap is_some (out_other m t.name u.name (λ e. let w : u.name / 256 ≡ suc b = ap (λ n. n / 256) e ∙ t.at in let o = u.at in omega arith)) ∙ u.used }) in
    omega arith

-- an index all below which are taken is at most one above the number of names
pub lesser_taken : {V : Type 0} (m : map.FinMap nat_cmp V) (index : ℕ) → ((i : ℕ) → 0 < i → i < index → IsTaken m i) → index ≤ map.len m + 1
lesser_taken m zero least = omega arith
lesser_taken m (suc b) least = let h : b ≤ map.len m = all_taken m b (λ i a c. least i a (omega arith)) in omega arith

module _ {V : Type 0} (slots : Slots V) (tree : map.FinMap nat_cmp V) (x : IsLaid slots tree) where
  abbrev all : map.FinMap nat_cmp V
  all = joined slots tree 65536

  pub taken_slot : (i : ℕ) → map.contains_key slots i ≡ true → IsTaken all i
  taken_slot i used =
      let s : (s : Slot V) × (map.get slots i ≡ Some s) = there (map.get slots i) used in
      let at : (s.0).name / 256 ≡ i = (x.slots_placed).indexed i s.0 s.1 in
      let there : map.get slots ((s.0).name / 256) ≡ Some s.0 = ap (map.get slots) at ∙ s.1 in
      record { name = (s.0).name; at = at; used = ap is_some (seen_place slots tree x (s.0).name (s.0).value (own_placed slots (s.0) there)) }
    where
      own_placed : (slots : Slots V) (s : Slot V) → map.get slots (s.name / 256) ≡ Some s → placed slots s.name ≡ Some s.value
      own_placed slots s there = ap (λ o. value_for s.name o) there ∙ own_name s s.name refl

  pub slot_taken : (i : ℕ) → 0 < i → i < 65536 → IsTaken all i → map.contains_key slots i ≡ true
  slot_taken i a b t = grind (arith, known, is_some, seen_tree, slot_of)

  pub no_neighbour : (k : ℕ) → k < 65536 → ((n : ℕ) → map.contains_key slots n ≡ true → n / 256 ≢ k / 256) → (n : ℕ) → map.contains_key all n ≡ true → 0 < n / 256 → n / 256 / 256 ≢ k / 256
  no_neighbour k small alone n used a same = alone (n / 256) (slot_taken (n / 256) a (omega arith) record { name = n; at = refl; used = used }) same

  module _ (few : map.len all < 65535) where
    first_small : (k : ℕ) → IsFirstFree slots k → k < 65536
    first_small k f = elim (cases_lt k 65536) [
      | inl h ↦ h
      | inr h ↦ (let many : 65535 ≤ map.len all = all_taken all 65535 (λ i a b. taken_slot i (f.least i a (omega arith))) in absurd (omega arith))
    ]

    pub fresh-first : (k : ℕ) → IsFirstFree slots k → IsFreshIndex all k × (k < 65536)
    fresh-first k f = grind (arith, seen_tree, no_slot, unused, none_or_used, first_small, taken_slot)

    pub fresh_small : (k : ℕ) → IsFreshIndex all k → k < 65536
    fresh_small k f = let h : k ≤ map.len all + 1 = lesser_taken all k f.least in omega arith

    pub first-fresh : (k : ℕ) → IsFreshIndex all k → IsFirstFree slots k
    first-fresh k f = record {
      free = unused (map.get slots k) (λ used. let t : IsTaken all k = taken_slot k used in none_or_used _ (f.free t.name t.at) t.used);
      positive = f.positive;
      least = λ i a b. slot_taken i a (let s = fresh_small k f in omega arith) (f.least i a b);
    }
