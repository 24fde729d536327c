-- What stands in a list once another has other items, or it has them itself.
use Rattle.std.proofs.Common.{◌≡◌, ◌≢◌, inl, inr, ℕ, zero, suc, Option, ◌+◌, ◌-◌, ◌<◌, ◌≤◌, List, [], ◌∷◌, ◌++◌, Some, None, length, slice_get, take, refl, sym, ap, ◌∙◌, arith, Contains}
use Rattle.std.specs.Prelude.{unwrap_or}
use Rattle.std.specs.Ordering.{nat_cmp}
use Rattle.std.specs.FinMap as map
use Rattle.std.proofs.lemmas.List.{take_more, take_all, length_push}
use Rattle.std.proofs.lemmas.List.Elements.{Contains-push_cases, Contains-push}
use Rattle.std.proofs.lemmas.Option.{slice_get_within, get_or_from_slice_get}
use Rattle.member_lists.specs.Lists.{ListsView, list_of, with_list, IsApart}
use Rattle.member_lists.proofs.Times.{equal_or_not}
use Rattle.member_lists.proofs.Sound.{put_here, put_other, out_here, out_other}

pub list_none : (items q : ℕ) → list_of (record { lists = map.empty; items = items }) q ≡ []
list_none items q = ap (λ o. unwrap_or o []) (map.get-empty nat_cmp q)

pub list_same : (v : ListsView) (l : ℕ) (ys : List ℕ) → list_of (with_list v l ys) l ≡ ys
list_same v l [] = ap (λ o. unwrap_or o []) (out_here v.lists l)
list_same v l (y ∷ ys) = ap (λ o. unwrap_or o []) (put_here v.lists l (y ∷ ys))

pub list_other : (v : ListsView) (l : ℕ) (ys : List ℕ) (q : ℕ) → q ≢ l → list_of (with_list v l ys) q ≡ list_of v q
list_other v l [] q d = ap (λ o. unwrap_or o []) (out_other v.lists l q d)
list_other v l (y ∷ ys) q d = ap (λ o. unwrap_or o []) (put_other v.lists l (y ∷ ys) q d)

pub items_same : (v : ListsView) (l : ℕ) (ys : List ℕ) → (with_list v l ys).items ≡ v.items
items_same v l [] = refl
items_same v l (y ∷ ys) = refl

pub apart_if_none : (v : ListsView) (item : ℕ) → v.lists ≡ map.empty → IsApart v item
apart_if_none v item none q inside =
    let c : Contains [] item = rw (map.get-empty nat_cmp q) at (rw none at inside) in
    let less : c.0 < 0 = c.1 in omega arith

-- another item joined a list
pub apart_pushed : (v : ListsView) (l other item : ℕ) → IsApart v item → other ≢ item → IsApart (with_list v l (list_of v l ++ other ∷ [])) item
apart_pushed v l other item apart d q inside = elim (equal_or_not q l) [
  | inl e ↦
      let here : Contains (list_of v l ++ other ∷ []) item = rw (e, list_same v l (list_of v l ++ other ∷ [])) at inside in
      elim (Contains-push_cases (list_of v l) other item here) [ inl was ↦ apart l was | inr is ↦ d is ]
  | inr n ↦ apart q (rw (list_other v l (list_of v l ++ other ∷ []) q n) at inside)
]

pub in_pushed : (v : ListsView) (l item : ℕ) → Contains (list_of (with_list v l (list_of v l ++ item ∷ [])) l) item
in_pushed v l item = rw (list_same v l (list_of v l ++ item ∷ [])) (Contains-push (list_of v l) item)

-- ---- a list that is told from its front

-- so many items are told, and this is next
pub record IsTold (xs told : List ℕ) (next : Option ℕ) : Type 0 where
  pub front : told ≡ take (length told) xs
  pub next_is : next ≡ slice_get xs (length told)

pub told_none : (xs : List ℕ) (next : Option ℕ) → next ≡ slice_get xs 0 → IsTold xs [] next
told_none xs next is = record { front = refl; next_is = is }

pub told_more : (xs told : List ℕ) (x : ℕ) (was next : Option ℕ) → IsTold xs told was → was ≡ Some x → ((i : ℕ) → slice_get xs i ≡ Some x → next ≡ slice_get xs (i + 1)) → IsTold xs (told ++ x ∷ []) next
told_more xs told x was next t is after =
    let here : slice_get xs (length told) ≡ Some x = sym t.next_is ∙ is in
    let long : length (told ++ x ∷ []) ≡ length told + 1 = length_push told x in
    let inside : length told < length xs = slice_get_within xs (length told) x here in
    record {
      front =
          ap (λ ys. ys ++ x ∷ []) t.front
          ∙ ap (λ y. take (length told) xs ++ y ∷ []) (sym (get_or_from_slice_get xs (length told) x x here))
          ∙ sym (take_more xs (length told) x inside)
          ∙ ap (λ n. take n xs) (sym long);
      next_is = after (length told) here ∙ ap (slice_get xs) (sym long);
    }

pub told_fewer : (xs told : List ℕ) (x : ℕ) (was : Option ℕ) → IsTold xs told was → was ≡ Some x → length xs - length (told ++ x ∷ []) < length xs - length told
told_fewer xs told x was t is = grind (arith, length_push, slice_get_within)

past_end : (xs : List ℕ) (i : ℕ) → None ≡ slice_get xs i → length xs ≤ i
past_end [] i e = omega arith
past_end (x ∷ xs) zero e = absurd (cc)
past_end (x ∷ xs) (suc i) e = let rest : length xs ≤ i = past_end xs i e in omega arith

pub told_all : (xs told : List ℕ) (next : Option ℕ) → IsTold xs told next → ((x : ℕ) → next ≡ Some x → ⊥) → told ≡ xs
told_all xs told None t not = t.front ∙ take_all (length told) xs (past_end xs (length told) t.next_is)
told_all xs told (Some x) t not = absurd (not x refl)
