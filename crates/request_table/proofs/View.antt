-- A map whose values are those of another, each by a function.
use Rattle.std.proofs.Common.{◌≡◌, ℕ, suc, Bool, true, false, cond, List, [], ◌∷◌, ◌&&◌, length, T, refl, ap, sym, subst, ◌∙◌, Option, Some, map as map_list}
use Rattle.std.specs.Option.{option_map}
use Rattle.std.specs.Ordering.{nat_cmp, eq_by_cmp, is_lt}
use Rattle.std.specs.FinMap as map
use Rattle.std.specs.FinMap.Entries.{find, is_sorted, below_all}
use Rattle.request_table.specs.Kept.{with_values}

module _ {Y X : Type 0} (f : Y → X) where
  abbrev valued : List (ℕ × Y) → List (ℕ × X)
  valued l = map_list (λ e. (e.0, f e.1)) l

  below_all-valued : (k : ℕ) (l : List (ℕ × Y)) → below_all nat_cmp k (valued l) ≡ below_all nat_cmp k l
  below_all-valued k [] = refl
  below_all-valued k (x ∷ l) = ap (λ b. is_lt (nat_cmp k x.0) && b) (below_all-valued k l)

  is_sorted-valued : (l : List (ℕ × Y)) → is_sorted nat_cmp (valued l) ≡ is_sorted nat_cmp l
  is_sorted-valued [] = refl
  is_sorted-valued (x ∷ l) = ap (λ b. b && is_sorted nat_cmp (valued l)) (below_all-valued x.0 l) ∙ ap (λ b. below_all nat_cmp x.0 l && b) (is_sorted-valued l)

  mapped : (b : Bool) (v : Y) (o : Option Y) → cond b (Some (f v)) (option_map f o) ≡ option_map f (cond b (Some v) o)
  mapped true v o = refl
  mapped false v o = refl

  find-valued : (q : ℕ) (l : List (ℕ × Y)) → find nat_cmp q (valued l) ≡ option_map f (find nat_cmp q l)
  find-valued q [] = refl
  find-valued q (x ∷ l) = ap (cond (eq_by_cmp nat_cmp q x.0) (Some (f x.1))) (find-valued q l) ∙ mapped (eq_by_cmp nat_cmp q x.0) x.1 (find nat_cmp q l)

  length-valued : (l : List (ℕ × Y)) → length (valued l) ≡ length l
  length-valued [] = refl
  length-valued (x ∷ l) = ap (λ n. suc n) (length-valued l)

  is_sorted-entries : (m : map.FinMap nat_cmp Y) → T (is_sorted nat_cmp (valued (map.entries m)))
  is_sorted-entries m = subst T (sym (is_sorted-valued (map.entries m))) (map.entries_sorted m)

  pub entries-with_values : (m : map.FinMap nat_cmp Y) → map.entries (with_values f m) ≡ valued (map.entries m)
  entries-with_values m = map.entries-from_sorted nat_cmp _ (is_sorted-entries m)

  pub get-with_values : (m : map.FinMap nat_cmp Y) (q : ℕ) → map.get (with_values f m) q ≡ option_map f (map.get m q)
  get-with_values m q = map.get-from_sorted nat_cmp _ q (is_sorted-entries m) ∙ find-valued q (map.entries m) ∙ ap (option_map f) (sym (map.get-entries m q))

  pub len-with_values : (m : map.FinMap nat_cmp Y) → map.len (with_values f m) ≡ map.len m
  len-with_values m = map.len-entries _ ∙ ap length (entries-with_values m) ∙ length-valued (map.entries m) ∙ sym (map.len-entries m)
