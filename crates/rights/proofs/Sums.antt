-- The counts of one port against the sums over all.
use Rattle.std.proofs.Common.{◌≡◌, inl, inr, ℕ, ◌+◌, Bool, true, false, cond, ◌&&◌, T, List, [], ◌∷◌, refl, ap, sym, ◌∙◌, Option, Some, None, length, eqb, arith}
use Rattle.std.proofs.lemmas.Bool.Decides.{eqb_tells}
use Rattle.std.specs.declared.cmp.Ordering.{Ordering}
use Rattle.std.specs.declared.cmp.Ordering.TheVariants.{Less, Equal, Greater}
use Rattle.std.specs.Option.{unwrap_or, option_map}
use Rattle.std.specs.List.{sum_by, AllByRecursion}
use Rattle.std.specs.List.Sorted.{IsStrictlySortedBy}
use Rattle.std.specs.Ordering.{nat_cmp, is_lt, eq_by_cmp, match_ordering}
use Rattle.std.specs.Cmp.{nat_cmp_total, unsigned_tied}
use Rattle.std.specs.Map.{lookup, keys_of, values_of}
use Rattle.std.specs.BTreeMap.{is_at, insert_entry}
use Rattle.std.specs.FinMap as map
use Rattle.std.specs.FinMap.Entries.{find, put, is_sorted, below_all, by_order}
use Rattle.std.proofs.lemmas.Map.Entries.{sum_by-insert_entry}
use Rattle.rights.specs.declared.Counts.{Counts}

abbrev pub Counted : Type 0
Counted = map.FinMap nat_cmp Counts

abbrev pub sum_over : (Counts → ℕ) → Counted → ℕ
sum_over f m = sum_by f (map.values m)

-- ---- entries in the order of their keys

first : (a b : Bool) → T (a && b) → T a
first true b p = tt
first false b p = p

second : (a b : Bool) → T (a && b) → T b
second true b p = p
second false b p = absurd p

less : (o : Ordering) → T (is_lt o) → o ≡ Less
less Less p = refl
less Equal p = absurd p
less Greater p = absurd p

below : (k : ℕ) (es : List (ℕ × Counts)) → T (below_all nat_cmp k es) → AllByRecursion (λ y. nat_cmp k y ≡ Less) (keys_of es)
below k [] h = tt
below k (e ∷ es) h = (less _ (first _ _ h), below k es (second _ _ h))

rising : (es : List (ℕ × Counts)) → T (is_sorted nat_cmp es) → IsStrictlySortedBy nat_cmp (keys_of es)
unfolding IsStrictlySortedBy
rising [] h = tt
rising (e ∷ es) h = (below e.0 es (first _ _ h), rising es (second _ _ h))

put-insert_entry : (es : List (ℕ × Counts)) (k : ℕ) (v : Counts) → put nat_cmp k v es ≡ insert_entry nat_cmp es k v
put-insert_entry [] k v = refl
put-insert_entry (e ∷ es) k v =
    elim (nat_cmp k e.0) as (λ o. by_order o ((k, v) ∷ e ∷ es) ((e.0, v) ∷ es) (e ∷ put nat_cmp k v es) ≡ match_ordering o ((k, v) ∷ e ∷ es) ((e.0, v) ∷ es) (e ∷ insert_entry nat_cmp es k v)) [
      | Less ↦ refl
      | Equal ↦ refl
      | Greater ↦ ap (λ l. e ∷ l) (put-insert_entry es k v)
    ]

find-lookup : (q : ℕ) (es : List (ℕ × Counts)) → find nat_cmp q es ≡ lookup (is_at (nat_cmp q)) es
find-lookup q [] = refl
find-lookup q (e ∷ es) = ap (cond (eq_by_cmp nat_cmp q e.0) (Some e.1)) (find-lookup q es)

no_values : (f : Counts → ℕ) (es : List (ℕ × Counts)) → length es ≡ 0 → sum_by f (values_of es) ≡ 0
no_values f [] e = refl
no_values f (x ∷ es) e = absurd (omega arith)

-- ---- a finite map

pub sum-empty : (f : Counts → ℕ) → sum_over f map.empty ≡ 0
sum-empty f = no_values f _ (sym (map.len-entries _) ∙ map.len-empty nat_cmp Counts)

module _ (m : Counted) (k : ℕ) where
  pub sum-insert : (f : Counts → ℕ) (v : Counts) → sum_over f (map.insert m k v) + unwrap_or (option_map f (map.get m k)) 0 ≡ sum_over f m + f v
  sum-insert f v =
      let came : sum_over f (map.insert m k v) ≡ sum_by f (values_of (insert_entry nat_cmp (map.entries m) k v)) = ap (λ (es : List (ℕ × Counts)). sum_by f (values_of es)) (map.entries-insert nat_cmp_total m k v ∙ put-insert_entry (map.entries m) k v) in
      let was : unwrap_or (option_map f (map.get m k)) 0 ≡ unwrap_or (option_map f (lookup (is_at (nat_cmp k)) (map.entries m))) 0 = ap (λ o. unwrap_or (option_map f o) 0) (map.get-entries m k ∙ find-lookup k (map.entries m)) in
      let all = sum_by-insert_entry f nat_cmp_total (map.entries m) k v (rising (map.entries m) (map.entries_sorted m)) in
      omega arith

module _ (m : Counted) (k : ℕ) where
  eqb-same : eqb k k ≡ true
  eqb-same = elim (eqb_tells k k) [ inl h ↦ h.0 | inr h ↦ absurd (h.1 refl) ]

  gone_here : map.get (map.remove m k) k ≡ None
  gone_here = map.get-remove nat_cmp_total m k k ∙ ap (λ b. cond b (let none : Option Counts = None in none) (map.get m k)) (unsigned_tied k k ∙ eqb-same)

  put_again : (q : ℕ) (v : Counts) → (b : Bool) → eqb q k ≡ b → map.get m k ≡ Some v → map.get m q ≡ cond b (Some v) (cond b None (map.get m q))
  put_again q v true e h = ap (map.get m) (same_number q k e) ∙ h
    where
      same_number : (q k : ℕ) → eqb q k ≡ true → q ≡ k
      same_number q k e = elim (eqb_tells q k) [ inl h ↦ h.1 | inr h ↦ absurd (let no_true : true ≡ false = sym e ∙ h.0 in cc) ]
  put_again q v false e h = refl

  back_again : (v : Counts) → map.get m k ≡ Some v → m ≡ map.insert (map.remove m k) k v
  back_again v h = map.same_map nat_cmp_total map.nat_cmp-IsAntisymmetric _ _ (λ q. put_again q v (eqb q k) refl h
      ∙ sym (map.get-insert nat_cmp_total (map.remove m k) k v q ∙ ap (λ b. cond b (Some v) (map.get (map.remove m k) q)) (unsigned_tied q k)
      ∙ ap (cond (eqb q k) (Some v)) (map.get-remove nat_cmp_total m k q ∙ ap (λ b. cond b (let none : Option Counts = None in none) (map.get m q)) (unsigned_tied q k))))

  pub sum-remove : (f : Counts → ℕ) (v : Counts) → map.get m k ≡ Some v → sum_over f (map.remove m k) + f v ≡ sum_over f m
  sum-remove f v h =
      let left = map.remove m k in
      let put_back : sum_over f (map.insert left k v) + unwrap_or (option_map f (map.get left k)) 0 ≡ sum_over f left + f v = sum-insert left k f v in
      let none : unwrap_or (option_map f (map.get left k)) 0 ≡ 0 = ap (λ o. unwrap_or (option_map f o) 0) gone_here in
      let same : sum_over f m ≡ sum_over f (map.insert left k v) = ap (λ (n : Counted). sum_over f n) (back_again v h) in
      omega arith
