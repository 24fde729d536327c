-- Names in pages and above them, as one map.
use Rattle.std.proofs.Common.{◌≡◌, inl, inr, ℕ, zero, suc, ◌<◌, ◌≤◌, Bool, true, false, cond, List, [], ◌∷◌, refl, ap, sym, subst, ◌∙◌, Option, Some, None, is_some, IfSome, IfNone, arith}
use Rattle.std.proofs.lemmas.Bool.{cases_lt}
use Rattle.std.specs.Option.{option_or}
use Rattle.std.specs.Ordering.{nat_cmp, eq_by_cmp}
use Rattle.std.specs.Cmp.{nat_cmp_total}
use Rattle.std.specs.FinMap as map
use Rattle.std.specs.FinMap.Entries.{find}
use Rattle.mach_types.specs.Numbers.{most_names}
use Rattle.name_space_base.specs.Pages.{IsFirstFree, IsNextUsed}
use Rattle.name_space.specs.declared.Entry.{Entry}
use Rattle.name_space.specs.Names.{Names, IsFreshName}
use Rattle.name_space.specs.Plain.{with_all, joined}
use Rattle.name_space.proofs.Keys.{equal_or_not, put_here, put_other, out_here, out_other, same_gets, fewer}

merged : (b : Bool) (x : Entry) (o p : Option Entry) → cond b (Some x) (option_or o p) ≡ option_or (cond b (Some x) o) p
merged true x o p = refl
merged false x o p = refl

or_none : (o : Option Entry) → option_or o None ≡ o
or_none None = refl
or_none (Some x) = refl

get-all : (es : List (ℕ × Entry)) (low : Names) (q : ℕ) → map.get (with_all es low) q ≡ option_or (find nat_cmp q es) (map.get low q)
get-all [] low q = refl
get-all (e ∷ es) low q = map.get-insert nat_cmp_total (with_all es low) e.0 e.1 q ∙ ap (cond (eq_by_cmp nat_cmp q e.0) (Some e.1)) (get-all es low q)
    ∙ merged (eq_by_cmp nat_cmp q e.0) e.1 (find nat_cmp q es) (map.get low q)

pub get-joined : (low high : Names) (q : ℕ) → map.get (joined low high) q ≡ option_or (map.get high q) (map.get low q)
get-joined low high q = get-all (map.entries high) low q ∙ ap (λ o. option_or o (map.get low q)) (sym (map.get-entries high q))

pub out_none : (m : Names) (k q : ℕ) → map.get m q ≡ None → map.get (map.remove m k) q ≡ None
out_none m k q none = grind (arith, equal_or_not, out_here, out_other)

none_there : (m : Names) (q : ℕ) → map.get m q ≡ None → map.contains_key m q ≡ true → ⊥
none_there m q none there = grind (arith, is_some)

pub used_there : (m : Names) (q : ℕ) → map.contains_key m q ≡ true → (x : Entry) × (map.get m q ≡ Some x)
used_there m q there = grind (arith, none_there)

-- so many keys there are, where all numbers up to a bound are keys
pub all_used : (m : Names) (bound : ℕ) → ((n : ℕ) → 0 < n → n ≤ bound → map.contains_key m n ≡ true) → bound ≤ map.len m
all_used m zero there = omega arith
all_used m (suc bound) there =
    let x : (x : Entry) × (map.get m (suc bound) ≡ Some x) = used_there m (suc bound) (there (suc bound) (omega arith) (omega arith)) in
    let less : map.len (map.remove m (suc bound)) < map.len m = fewer m (suc bound) x.0 x.1 (omega arith) in
    let rest : bound ≤ map.len (map.remove m (suc bound)) =
    all_used (map.remove m (suc bound)) bound (λ n a b. ap is_some (out_other m (suc bound) n (λ c. omega arith)) ∙ there n a (omega arith)) in
    omega arith

-- where there are fewer names than there can be, the fresh one is small
pub fresh-fits : (m : Names) (q : ℕ) → IsFreshName m q → map.len m < most_names → q < 65536
fresh-fits m q f few = elim (cases_lt q 65536) [
  | inl h ↦ h
  | inr h ↦ (let many : 65535 ≤ map.len m = all_used m 65535 (λ n a b. f.least n a (omega arith)) in absurd (omega arith))
]

module _ (low high : Names) where
  pub low_side : (q : ℕ) → map.get high q ≡ None → map.get (joined low high) q ≡ map.get low q
  low_side q none = get-joined low high q ∙ ap (λ o. option_or o (map.get low q)) none

  pub high_side : (q : ℕ) → map.get low q ≡ None → map.get (joined low high) q ≡ map.get high q
  high_side q none = get-joined low high q ∙ ap (option_or (map.get high q)) none ∙ or_none (map.get high q)

  pub put_low : (k : ℕ) (x : Entry) → map.get high k ≡ None → joined (map.insert low k x) high ≡ map.insert (joined low high) k x
  put_low k x none = grind (arith, same_gets, equal_or_not, get-joined, put_here, put_other)

  pub put_high : (k : ℕ) (x : Entry) → joined low (map.insert high k x) ≡ map.insert (joined low high) k x
  put_high k x = grind (arith, same_gets, equal_or_not, get-joined, put_here, put_other)

  pub out_low : (k : ℕ) → map.get high k ≡ None → joined (map.remove low k) high ≡ map.remove (joined low high) k
  out_low k none = grind (arith, same_gets, equal_or_not, get-joined, out_here, out_other)

  pub out_high : (k : ℕ) → map.get low k ≡ None → joined low (map.remove high k) ≡ map.remove (joined low high) k
  out_high k none = grind (arith, same_gets, equal_or_not, get-joined, out_here, out_other)

-- each name is where it belongs
module _ (low high : Names) (low_names : (q : ℕ) → 65536 ≤ q → map.get low q ≡ None) (high_names : (q : ℕ) → q < 65536 → map.get high q ≡ None) where
  pub at_low : (q : ℕ) → q < 65536 → map.get (joined low high) q ≡ map.get low q
  at_low q small = low_side low high q (high_names q small)

  pub at_high : (q : ℕ) → 65536 ≤ q → map.get (joined low high) q ≡ map.get high q
  at_high q great = high_side low high q (low_names q great)

  in_page : (q : ℕ) → map.contains_key low q ≡ true → q < 65536
  in_page q there = elim (cases_lt q 65536) [ inl h ↦ h | inr h ↦ absurd (none_there low q (low_names q h) there) ]

  pub fresh-joined : (q : ℕ) → IsFirstFree low q → q ≤ 65536 → map.len (joined low high) ≤ most_names → IsFreshName (joined low high) q
  fresh-joined q f small few = record { unused = unused (map.get (joined low high) q) refl; not_null = f.positive; least = below }
    where
      below : (n : ℕ) → 0 < n → n < q → map.contains_key (joined low high) n ≡ true
      below n a b = ap is_some (at_low n (omega arith)) ∙ f.least n a b

      unused : (o : Option Entry) → map.get (joined low high) q ≡ o → map.get (joined low high) q ≡ None
      unused None e = e
      unused (Some x) e = elim (cases_lt q 65536) [
        | inl h ↦ at_low q h ∙ f.free
        | inr h ↦
            (let up_to : (n : ℕ) → 0 < n → n ≤ 65536 → map.contains_key (joined low high) n ≡ true = λ n a b. elim (cases_lt n q) [
              | inl c ↦ below n a c
              | inr c ↦ (let is : n ≡ q = omega arith in ap (map.contains_key (joined low high)) is ∙ ap is_some e)
            ] in
            let many : 65536 ≤ map.len (joined low high) = all_used (joined low high) 65536 up_to in
            absurd (omega arith))
      ]

  pub fresh-small : (q : ℕ) → IsFreshName (joined low high) q → map.len (joined low high) < most_names → q < 65536
  fresh-small q f few = fresh-fits (joined low high) q f few

  pub first-joined : (q : ℕ) → IsFreshName (joined low high) q → q < 65536 → IsFirstFree low q
  first-joined q f small = record {
    free = sym (at_low q small) ∙ f.unused;
    positive = f.not_null;
    least = λ n a b. ap is_some (sym (at_low n (omega arith))) ∙ f.least n a b;
  }

  pub next-low : (start q : ℕ) → IsNextUsed low start q → IsNextUsed (joined low high) start q
  next-low start q x = grind (arith, in_page, is_some, at_low)

pub next-high : (low high : Names) (start q : ℕ) → ((n : ℕ) → start ≤ n → map.get low n ≡ None) → IsNextUsed high start q → IsNextUsed (joined low high) start q
next-high low high start q none x = record {
  from = x.from;
  used = ap is_some (high_side low high q (none q x.from)) ∙ x.used;
  least = λ n a b. high_side low high n (none n a) ∙ x.least n a b;
}

module _ (low high names : Names) (is : joined low high ≡ names) (start : ℕ) where
  pub next-highs : (r : Option ℕ) → ((n : ℕ) → start ≤ n → map.get low n ≡ None) → IfSome r (IsNextUsed high start) → IfSome r (IsNextUsed names start)
  next-highs None none x = tt
  next-highs (Some q) none x = subst (λ (m : Names). IsNextUsed m start q) is (next-high low high start q none x)

  pub next-none : (r : Option ℕ) → ((n : ℕ) → start ≤ n → map.get low n ≡ None) → IfNone r ((n : ℕ) → start ≤ n → map.get high n ≡ None) → IfNone r ((n : ℕ) → start ≤ n → map.get names n ≡ None)
  next-none (Some q) none x = tt
  next-none None none x = λ n a. ap (λ (m : Names). map.get m n) (sym is) ∙ high_side low high n (none n a) ∙ x n a
