-- A walk over the further lists of an item.
use Rattle.std.proofs.Common.{◌≡◌, inl, inr, ℕ, ◌+◌, ◌<◌, ◌≤◌, ◌++◌, ◌∷◌, [], cond, eqb, List, length, append_assoc, Option, Some, None, IsSome, IfNone, slice_get, map as map_list, refl, sym, ap, subst, ◌∙◌, arith, Contains}
use Rattle.member_lists.specs.Lists.{ListsView, list_of}
use Rattle.member_lists.specs.Chains.{times}
use Rattle.member_lists.proofs.Times.{none_some, same_some, equal_or_not, eqb_same, eqb_other, times_here, times_more, times-append, times_from_Contains, Contains_from_times, IsSplit, split_at}
use Rattle.slab.specs.Slab.{get}
use Rattle.shared_lists.specs.Places.{from_key, lists_from, list_at, IsWalk}
use Rattle.shared_lists.proofs.Seen.{Kept}
use Rattle.shared_lists.proofs.Walk.{got_at, got_next}
use Rattle.shared_lists.proofs.Promoted.{first_inside}

from_here : (front : List ℕ) (k : ℕ) (back : List ℕ) → times k (front ++ k ∷ back) ≤ 1 → from_key k (front ++ k ∷ back) ≡ k ∷ back
from_here [] k back once = ap (λ b. cond b (k ∷ back) (from_key k back)) (eqb_same k k refl)
from_here (x ∷ front) k back once =
    let here = times_here k k back refl in
    let all = times-append k front (k ∷ back) in
    let more = times_more k x (front ++ k ∷ back) in
    elim (equal_or_not k x) [
      | inl e ↦ absurd (let two = times_here k x (front ++ k ∷ back) e in omega arith)
      | inr d ↦ ap (λ b. cond b (x ∷ (front ++ k ∷ back)) (from_key k (front ++ k ∷ back))) (eqb_other k x d) ∙ from_here front k back (omega arith)
    ]

-- from the first one on these are all
pub all_from : (s : Kept) (keys : List ℕ) → lists_from s keys (slice_get keys 0) ≡ map_list (list_at s) keys
all_from s [] = refl
all_from s (k ∷ keys) = ap (λ b. map_list (list_at s) (cond b (k ∷ keys) (from_key k keys))) (eqb_same k k refl)

pub first_walk : (s : Kept) (keys : ListsView) (item : ℕ) → ((k : ℕ) → Contains (list_of keys item) k → IsSome (get s k)) → ((k : ℕ) → times k (list_of keys item) ≤ 1)
    → (next : Option ℕ) → next ≡ slice_get (list_of keys item) 0 → IsWalk s keys item next
first_walk s keys item there single next is = record { there = there; single = single; at = λ k e. first_inside (list_of keys item) k (sym is ∙ e) }

pub none_told : (o : Option ℕ) (old new : List ℕ) → old ≡ [] → new ≡ [] → IfNone o ((old ≡ []) × (new ≡ []))
none_told None old new a b = (a, b)
none_told (Some x) old new a b = tt

module _ (s : Kept) (xs : List ℕ) (k : ℕ) (inside : Contains xs k) (single : (j : ℕ) → times j xs ≤ 1) (next : Option ℕ) (behind : (n : ℕ) → slice_get xs n ≡ Some k → next ≡ slice_get xs (n + 1)) where
  one : times k xs ≡ 1
  one = let a = times_from_Contains k xs inside in let b = single k in omega arith

  abbrev parts : IsSplit k xs
  parts = split_at k xs one

  next_is : next ≡ slice_get parts.back 0
  next_is =
      behind (length parts.front) (ap (λ ys. slice_get ys (length parts.front)) parts.is ∙ got_at parts.front k parts.back)
      ∙ ap (λ ys. slice_get ys (length parts.front + 1)) parts.is ∙ got_next parts.front k parts.back

  here : from_key k xs ≡ k ∷ parts.back
  here = ap (from_key k) parts.is ∙ from_here parts.front k parts.back (let o : times k (parts.front ++ k ∷ parts.back) ≤ 1 = rw parts.is at (single k) in o)

  behind_is : (ys : List ℕ) → parts.back ≡ ys → lists_from s xs (slice_get ys 0) ≡ map_list (list_at s) ys
  behind_is [] e = refl
  behind_is (j ∷ ys) e =
      let whole : xs ≡ (parts.front ++ k ∷ []) ++ j ∷ ys = parts.is ∙ ap (λ zs. parts.front ++ k ∷ zs) e ∙ sym (append_assoc parts.front (k ∷ []) (j ∷ ys)) in
      ap (λ zs. map_list (list_at s) (from_key j zs)) whole ∙ ap (map_list (list_at s)) (from_here (parts.front ++ k ∷ []) j ys (let o : times j ((parts.front ++ k ∷ []) ++ j ∷ ys) ≤ 1 = rw whole at (single j) in o))

  -- the list of the place that the walk stands at, and then the others
  pub told_next : lists_from s xs (Some k) ≡ list_at s k ∷ lists_from s xs next
  told_next =
      ap (map_list (list_at s)) here
      ∙ ap (λ ls. list_at s k ∷ ls) (sym (ap (lists_from s xs) next_is ∙ behind_is parts.back refl))

  pub next_inside : (j : ℕ) → next ≡ Some j → Contains xs j
  next_inside j e = by parts.back refl (sym next_is ∙ e)
    where
      by : (ys : List ℕ) → parts.back ≡ ys → slice_get ys 0 ≡ Some j → Contains xs j
      by [] back at = absurd (none_some j at)
      by (y ∷ ys) back at =
          let whole : xs ≡ (parts.front ++ k ∷ []) ++ y ∷ ys = parts.is ∙ ap (λ zs. parts.front ++ k ∷ zs) back ∙ sym (append_assoc parts.front (k ∷ []) (y ∷ ys)) in
          let same : y ≡ j = same_some y j at in
          Contains_from_times j xs (let a = times-append j (parts.front ++ k ∷ []) (y ∷ ys) in let h = times_here j y ys (sym same) in let t : times j xs ≡ times j ((parts.front ++ k ∷ []) ++ y ∷ ys) = ap (times j) whole in omega arith)
