-- Places, the items at them, and the lists of items that lists of places give.
use Rattle.std.proofs.Common.{◌≡◌, ◌≢◌, ◌⊎◌, inl, inr, ℕ, ◌+◌, ◌*◌, ◌/◌, ◌%◌, Bool, true, false, cond, eqb, List, [], ◌∷◌, ◌++◌, map as map_list, Some, refl, sym, ◌∙◌, ap, arith, Contains}
use Rattle.std.proofs.lemmas.List.{map-append}
use Rattle.slab.specs.Slab.{Slab, get}
use Rattle.member_lists.specs.Lists.{ListsView, list_of, with_list, without, exchanged}
use Rattle.member_lists.proofs.Times.{equal_or_not, eqb_same, eqb_other}
use Rattle.shared_lists.specs.declared.Further.{Further}
use Rattle.shared_lists.specs.Shared.{joined, parted, with_more}
use Rattle.shared_lists.specs.Places.{own, far, item_in, item_at, items_of, fitting}
use Rattle.shared_lists.proofs.Rows.{Rows, mapped, row_mapped, mapped_with, mapped_same, put_same, map_without, map_exchanged}

-- ---- places

abbrev pub Kept : Type 0
Kept = Slab Further

even : (n : ℕ) → (2 * n) % 2 ≡ 0
even n = omega arith

odd : (n : ℕ) → (2 * n + 1) % 2 ≡ 1
odd n = omega arith

half_even : (n : ℕ) → (2 * n) / 2 ≡ n
half_even n = omega arith

half_odd : (n : ℕ) → (2 * n + 1) / 2 ≡ n
half_odd n = omega arith

pub own_item : (b : Bool) (s : Kept) (item : ℕ) → item_at b s (own b item) ≡ item
own_item false s item = refl
own_item true s item =
    ap (λ c. cond c ((2 * item) / 2) (item_in (get s ((2 * item) / 2)))) (eqb_same ((2 * item) % 2) 0 (even item)) ∙ half_even item

pub far_item : (b : Bool) (s : Kept) (k : ℕ) (f : Further) → b ≡ true → get s k ≡ Some f → item_at b s (far k) ≡ f.item
far_item false s k f is at = absurd (cc)
far_item true s k f is at =
    ap (λ c. cond c ((2 * k + 1) / 2) (item_in (get s ((2 * k + 1) / 2)))) (eqb_other ((2 * k + 1) % 2) 0 (λ e. let o = odd k in omega arith))
    ∙ ap (λ n. item_in (get s n)) (half_odd k) ∙ ap item_in at

pub own_far : (b : Bool) (item k : ℕ) → b ≡ true → own b item ≢ far k
own_far false item k is e = cc
own_far true item k is e = omega arith

pub far_once : (k j : ℕ) → far k ≡ far j → k ≡ j
far_once k j e = omega arith

pub own_once : (b : Bool) (s : Kept) (x y : ℕ) → own b x ≡ own b y → x ≡ y
own_once b s x y e = sym (own_item b s x) ∙ ap (item_at b s) e ∙ own_item b s y

-- a place is an item's own, or a further one
pub either : (b : Bool) (s : Kept) (x : ℕ) → (x ≡ own b (item_at b s x)) ⊎ ((b ≡ true) × (k : ℕ) × (x ≡ far k))
either false s x = inl refl
either true s x = elim (equal_or_not (x % 2) 0) [
  | inl e ↦
      let is : item_at true s x ≡ x / 2 = ap (λ c. cond c (x / 2) (item_in (get s (x / 2)))) (eqb_same (x % 2) 0 e) in
      inl (sym (ap (λ n. 2 * n) is ∙ (let h : 2 * (x / 2) ≡ x = omega arith in h)))
  | inr d ↦ inr (refl, x / 2, (let h : x ≡ 2 * (x / 2) + 1 = omega arith in h))
]

-- a place has the same item, where each further one has
pub same_item : (b : Bool) (s t : Kept) (x : ℕ) → ((k : ℕ) → b ≡ true → x ≡ far k → get t k ≡ get s k) → item_at b t x ≡ item_at b s x
same_item false s t x same = refl
same_item true s t x same = elim (equal_or_not (x % 2) 0) [
  | inl e ↦
      ap (λ c. cond c (x / 2) (item_in (get t (x / 2)))) (eqb_same (x % 2) 0 e)
      ∙ sym (ap (λ c. cond c (x / 2) (item_in (get s (x / 2)))) (eqb_same (x % 2) 0 e))
  | inr d ↦ ap (λ o. cond (eqb (x % 2) 0) (x / 2) (item_in o)) (same (x / 2) refl (omega arith))
]

-- ---- the lists of items

put_lists : (n : ℕ) (m m' : Rows) → m ≡ m' → ◌≡◌ {A = ListsView} (record { lists = m; items = n }) (record { lists = m'; items = n })
put_lists n m m' e = ap (λ (w : Rows). let u : ListsView = record { lists = w; items = n } in u) e

pub with_is : (v : ListsView) (l : ℕ) (xs : List ℕ) → with_list v l xs ≡ record { lists = with_more v.lists l xs; items = v.items }
with_is v l [] = refl
with_is v l (x ∷ xs) = refl

module _ (b : Bool) (s : Kept) (v : ListsView) where
  pub seen_list : (l : ℕ) → list_of (items_of b s v) l ≡ map_list (item_at b s) (list_of v l)
  seen_list l = row_mapped (item_at b s) v.lists l

  pub seen_with : (l : ℕ) (xs : List ℕ) → items_of b s (with_list v l xs) ≡ with_list (items_of b s v) l (map_list (item_at b s) xs)
  seen_with l xs =
      ap (items_of b s) (with_is v l xs)
      ∙ put_lists (fitting b v.items) (mapped (item_at b s) (with_more v.lists l xs)) (with_more (mapped (item_at b s) v.lists) l (map_list (item_at b s) xs)) (mapped_with (item_at b s) v.lists l xs)
      ∙ sym (with_is (items_of b s v) l (map_list (item_at b s) xs))

  pub seen_same : (t : Kept) → ((l x : ℕ) → Contains (list_of v l) x → item_at b t x ≡ item_at b s x) → items_of b t v ≡ items_of b s v
  seen_same t same = put_lists (fitting b v.items) (mapped (item_at b t) v.lists) (mapped (item_at b s) v.lists) (mapped_same (item_at b t) v.lists (item_at b s) same)

  pub seen_joined : (l x item : ℕ) → item_at b s x ≡ item → items_of b s (joined v l x) ≡ joined (items_of b s v) l item
  seen_joined l x item is =
      seen_with l (list_of v l ++ x ∷ [])
      ∙ ap (with_list (items_of b s v) l) (map-append (item_at b s) (list_of v l) (x ∷ []) ∙ ap (λ ys. ys ++ item_at b s x ∷ []) (sym (seen_list l)) ∙ ap (λ i. list_of (items_of b s v) l ++ i ∷ []) is)

  pub seen_parted : (l x item : ℕ) → item_at b s x ≡ item → ((y : ℕ) → Contains (list_of v l) y → item_at b s y ≡ item_at b s x → y ≡ x) → items_of b s (parted v l x) ≡ parted (items_of b s v) l item
  seen_parted l x item is one =
      seen_with l (without x (list_of v l))
      ∙ ap (with_list (items_of b s v) l) (map_without (item_at b s) x (list_of v l) one ∙ ap (without (item_at b s x)) (sym (seen_list l)) ∙ ap (λ i. without i (list_of (items_of b s v) l)) is)

  -- a place stands where another did, of the same item
  pub seen_exchanged : (l x y : ℕ) → Contains (list_of v l) x → item_at b s y ≡ item_at b s x → items_of b s (with_list v l (exchanged x y (list_of v l))) ≡ items_of b s v
  seen_exchanged l x y inside same =
      seen_with l (exchanged x y (list_of v l))
      ∙ ap (with_list (items_of b s v) l) (map_exchanged (item_at b s) x y (list_of v l) same)
      ∙ sym (seen_with l (list_of v l))
      ∙ ap (items_of b s) (with_is v l (list_of v l) ∙ put_lists v.items (with_more v.lists l (list_of v l)) v.lists (put_same v.lists l x inside))
