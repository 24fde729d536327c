-- A tree's entries as a finite map, and its first entry from a key on.
use Rattle.std.proofs.Common.{◌≡◌, ℕ, ◌<◌, ◌≤◌, false, cond, List, [], ◌∷◌, length, refl, ap, sym, ◌∙◌, Option, Some, None, is_some, arith}
use Rattle.std.proofs.lemmas.Cmp.{ranked}
use Rattle.std.specs.declared.cmp.Ordering.{Ordering}
use Rattle.std.specs.declared.cmp.Ordering.TheVariants.{Less, Equal, Greater}
use Rattle.std.specs.declared.ops.Bound.TheVariants.{Included, Unbounded}
use Rattle.std.specs.Ordering.{nat_cmp, eq_by_cmp, is_gt, MatchOrdering}
use Rattle.std.specs.Cmp.{nat_cmp_total, unsigned_tied, nat_eq_equiv}
use Rattle.std.specs.BTreeMap.{BTreeMap, is_at}
use Rattle.std.specs.BTreeMap.Range.{IsRangeOf}
use Rattle.std.specs.Map.{lookup}
use Rattle.std.specs.FinMap as map
use Rattle.std.specs.FinMap.Entries.{find}
use Rattle.name_space_base.specs.Pages.{IsNextUsed}
use Rattle.name_space_base.proofs.Tables.{same_gets}

not_gt : (a b : ℕ) (r : Ordering) → MatchOrdering r (a < b) (a ≡ b) (b < a) → a ≤ b → is_gt r ≡ false
not_gt a b Less h few = refl
not_gt a b Equal h few = refl
not_gt a b Greater h few = absurd (omega (arith, h))

at_most : (a b : ℕ) → a ≤ b → is_gt (nat_cmp a b) ≡ false
at_most a b few = not_gt a b (nat_cmp a b) (ranked a b _ refl) few

from_gt : (a b : ℕ) (r : Ordering) → MatchOrdering r (a < b) (a ≡ b) (b < a) → is_gt r ≡ false → a ≤ b
from_gt a b Less h e = omega (arith, h)
from_gt a b Equal h e = omega (arith, h)
from_gt a b Greater h e = cc

few_of : (a b : ℕ) → is_gt (nat_cmp a b) ≡ false → a ≤ b
few_of a b e = from_gt a b (nat_cmp a b) (ranked a b _ refl) e

turned : (k q : ℕ) → is_at (nat_cmp k) q ≡ eq_by_cmp nat_cmp q k
turned k q = unsigned_tied k q ∙ nat_eq_equiv.symm k q ∙ sym (unsigned_tied q k)

module _ {V : Type 0} where
  -- the values in a tree
  abbrev pub tree : List (ℕ × V) → map.FinMap nat_cmp V
  tree entries = map.from_entries {R = nat_cmp} entries

  find-lookup : (es : List (ℕ × V)) (q : ℕ) → find nat_cmp q es ≡ lookup (is_at (nat_cmp q)) es
  find-lookup [] q = refl
  find-lookup (e ∷ es) q = ap (cond (eq_by_cmp nat_cmp q e.0) (Some e.1)) (find-lookup es q)

  pub get-tree : (es : List (ℕ × V)) (q : ℕ) → map.get (tree es) q ≡ lookup (is_at (nat_cmp q)) es
  get-tree es q = map.get-from_entries nat_cmp_total es q ∙ find-lookup es q

  pub put-tree : (es fs : List (ℕ × V)) (k : ℕ) (v : V) → ((q : ℕ) → lookup (is_at (nat_cmp q)) fs ≡ cond (is_at (nat_cmp k) q) (Some v) (lookup (is_at (nat_cmp q)) es)) → tree fs ≡ map.insert (tree es) k v
  put-tree es fs k v is = same_gets _ _ (λ q. get-tree fs q ∙ is q ∙ ap (λ b. cond b (Some v) (lookup (is_at (nat_cmp q)) es)) (turned k q)
      ∙ ap (cond (eq_by_cmp nat_cmp q k) (Some v)) (sym (get-tree es q)) ∙ sym (map.get-insert nat_cmp_total (tree es) k v q))

  pub out-tree : (es fs : List (ℕ × V)) (k : ℕ) → ((q : ℕ) → lookup (is_at (nat_cmp q)) fs ≡ cond (is_at (nat_cmp k) q) None (lookup (is_at (nat_cmp q)) es)) → tree fs ≡ map.remove (tree es) k
  out-tree es fs k is =
      let none : Option V = None in
      same_gets _ _ (λ q. get-tree fs q ∙ is q ∙ ap (λ b. cond b none (lookup (is_at (nat_cmp q)) es)) (turned k q)
      ∙ ap (cond (eq_by_cmp nat_cmp q k) none) (sym (get-tree es q)) ∙ sym (map.get-remove nat_cmp_total (tree es) k q))

  -- without entries it has no value
  pub none_where_empty : (es : List (ℕ × V)) → length es ≡ 0 → (q : ℕ) → map.get (tree es) q ≡ None
  none_where_empty [] e q = get-tree [] q
  none_where_empty (x ∷ es) e q = absurd (omega (arith, e))

  module _ (m : BTreeMap ℕ V) (start : ℕ) (r : List (ℕ × V)) (x : IsRangeOf nat_cmp (Included start) Unbounded m r) where
    pub none_in_range : r ≡ [] → (n : ℕ) → start ≤ n → map.get (tree m.entries) n ≡ None
    none_in_range is n a = get-tree m.entries n ∙ x.5 is n (at_most start n a, tt)

    pub first_in_range : (rest : List (ℕ × V)) (k : ℕ) (v : V) → r ≡ (k, v) ∷ rest → IsNextUsed (tree m.entries) start k
    first_in_range rest k v is = grind (arith, few_of, is_some, get-tree, at_most)
