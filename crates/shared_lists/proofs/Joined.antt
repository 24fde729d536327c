-- Lists with shared items once a place more stands in one.
use Rattle.std.proofs.Common.{◌≡◌, ◌≢◌, ◌⊎◌, inl, inr, ℕ, ◌<◌, ◌^◌, Bool, true, false, cond, Some, refl, sym, ap, subst, ◌∙◌, arith, Contains}
use Rattle.slab.specs.Slab.{get}
use Rattle.member_lists.specs.Lists.{ListsView, MarkedView, list_of, IsApart}
use Rattle.member_lists.proofs.Listed.{items_same}
use Rattle.shared_lists.specs.declared.Further.{Further}
use Rattle.shared_lists.specs.Shared.{SharedView, joined, entered}
use Rattle.shared_lists.specs.Marked.{joined_at}
use Rattle.shared_lists.specs.Places.{own, far, item_at, items_of, fitting, more_in, room_in, seen, IsKeyed, IsShared}
use Rattle.shared_lists.proofs.Rows.{ComesFrom, in_map, from_map}
use Rattle.shared_lists.proofs.Seen.{Kept, own_item, own_far, seen_list, seen_same, seen_joined}
use Rattle.shared_lists.proofs.Standing.{joined_from, joined_old, joined_new}

-- ---- items and places

module _ (b : Bool) (s : Kept) (v : ListsView) where
  pub stands : (l x : ℕ) → Contains (list_of v l) x → Contains (list_of (items_of b s v) l) (item_at b s x)
  stands l x c = rw (seen_list b s v l) (in_map (item_at b s) x (list_of v l) c)

  pub comes : (l item : ℕ) → Contains (list_of (items_of b s v) l) item → ComesFrom (item_at b s) item (list_of v l)
  comes l item c = from_map (item_at b s) item (list_of v l) (rw (seen_list b s v l) at c)

pub own_fits : (b : Bool) (item n : ℕ) → item < fitting b n → own b item < n
own_fits false item n h = h
own_fits true item n h = omega arith

-- ---- a place joins

module _ (b : Bool) (p : MarkedView) (s s' : Kept) (keys keys' : ListsView) (fits : ℕ) (i : IsShared b p s keys fits) (l x : ℕ) (r : Bool)
    (fit : x < p.all.items) (apart : IsApart p.all x)
    (same : (q y : ℕ) → Contains (list_of p.all q) y → item_at b s' y ≡ item_at b s y)
    (new : (y : ℕ) → Contains (list_of p.all l) y → item_at b s' y ≢ item_at b s' x)
    (keyed : IsKeyed b s' keys' fits)
    (kept : (k : ℕ) (f : Further) → get s k ≡ Some f → get s' k ≡ Some f)
    (more : (k : ℕ) → b ≡ true → x ≡ far k → (f : Further) × (get s' k ≡ Some f) × (f.list ≡ l))
    (was : (k : ℕ) (f : Further) → get s' k ≡ Some f → (get s k ≡ Some f) ⊎ ((x ≡ far k) × (f.list ≡ l)))
    (first : (k : ℕ) (f : Further) → get s' k ≡ Some f → (q : ℕ) × Contains (list_of (joined p.all l x) q) (own b f.item)) where
  items : (joined p.all l x).items ≡ p.all.items
  items = items_same p.all l _

  old : (q y : ℕ) → Contains (list_of p.all q) y → Contains (list_of (joined p.all l x) q) y
  old = joined_old p.all l x

  single_joined : (q m y : ℕ) → Contains (list_of (joined p.all l x) q) y → Contains (list_of (joined p.all l x) m) y → q ≡ m
  single_joined q m y c d = elim (joined_from p.all l x q y c) [
    | inl a ↦ elim (joined_from p.all l x m y d) [ inl e ↦ i.single q m y a e | inr e ↦ absurd (apart q (rw e.1 at a)) ]
    | inr a ↦ elim (joined_from p.all l x m y d) [ inl e ↦ absurd (apart m (rw a.1 at e)) | inr e ↦ a.0 ∙ sym e.0 ]
  ]

  once_joined : (q y z : ℕ) → Contains (list_of (joined p.all l x) q) y → Contains (list_of (joined p.all l x) q) z → item_at b s' y ≡ item_at b s' z → y ≡ z
  once_joined q y z c d e = elim (joined_from p.all l x q y c) [
    | inl a ↦ elim (joined_from p.all l x q z d) [
      | inl g ↦ i.once q y z a g (sym (same q y a) ∙ e ∙ same q z g)
      | inr g ↦ absurd (new y (rw g.0 at a) (e ∙ ap (item_at b s') g.1))
    ]
    | inr a ↦ elim (joined_from p.all l x q z d) [
      | inl g ↦ absurd (new z (rw a.0 at g) (sym e ∙ ap (item_at b s') a.1))
      | inr g ↦ a.1 ∙ sym g.1
    ]
  ]

  marked_joined : (r : Bool) (q y : ℕ) → Contains (list_of (cond r (joined p.marked l x) p.marked) q) y → Contains (list_of (joined p.all l x) q) y
  marked_joined false q y c = old q y (i.marked q y c)
  marked_joined true q y c = elim (joined_from p.marked l x q y c) [ inl a ↦ old q y (i.marked q y a) | inr a ↦ rw (a.0, a.1) (joined_new p.all l x) ]

  even_joined : (r : Bool) → (cond r (joined p.marked l x) p.marked).items ≡ p.marked.items
  even_joined false = refl
  even_joined true = items_same p.marked l _

  pub shared_joined : IsShared b (joined_at p l x r) s' keys' fits
  shared_joined = record {
    keyed = keyed;
    further = λ q k is c. elim (joined_from p.all l x q (far k) c) [
      | inl a ↦ let f = i.further q k is a in (f.0, kept k f.0 f.1, f.2)
      | inr a ↦ let f = more k is (sym a.1) in (f.0, f.1, f.2 ∙ sym a.0)
    ];
    there = λ k f at. elim (was k f at) [ inl a ↦ old f.list (far k) (i.there k f a) | inr a ↦ rw (a.1, ← a.0) (joined_new p.all l x) ];
    first = first;
    single = single_joined;
    once = once_joined;
    marked = marked_joined r;
    low = λ q y c. elim (joined_from p.all l x q y c) [ inl a ↦ rw items (i.low q y a) | inr a ↦ rw (a.1, items) fit ];
    fit = rw items i.fit;
    few = rw items i.few;
    even = even_joined r ∙ i.even ∙ sym items;
  }

  ready_joined : (r : Bool) (item : ℕ) → item_at b s' x ≡ item → items_of b s' (cond r (joined p.marked l x) p.marked) ≡ cond r (joined (items_of b s p.marked) l item) (items_of b s p.marked)
  ready_joined false item is = seen_same b s p.marked s' (λ q y c. same q y (i.marked q y c))
  ready_joined true item is = seen_joined b s' p.marked l x item is ∙ ap (λ w. joined w l item) (seen_same b s p.marked s' (λ q y c. same q y (i.marked q y c)))

  pub all_joined : (item : ℕ) → item_at b s' x ≡ item → items_of b s' (joined p.all l x) ≡ joined (items_of b s p.all) l item
  all_joined item is = seen_joined b s' p.all l x item is ∙ ap (λ w. joined w l item) (seen_same b s p.all s' same)

  pub marks_joined : (item : ℕ) → item_at b s' x ≡ item → items_of b s' (joined_at p l x r).marked ≡ cond r (joined (items_of b s p.marked) l item) (items_of b s p.marked)
  marks_joined item is = ready_joined r item is

-- ---- an item enters its first list

module _ (b : Bool) (p : MarkedView) (s : Kept) (keys : ListsView) (fits : ℕ) (i : IsShared b p s keys fits) (v : SharedView) (is : seen b p s keys fits ≡ v) (item : ℕ) where
  abbrev all_is : items_of b s p.all ≡ v.all
  all_is = ap (λ (w : SharedView). w.all) is

  pub own_room : item < v.all.items → own b item < p.all.items
  own_room h = own_fits b item p.all.items (subst (λ (w : ListsView). item < w.items) (sym all_is) h)

  pub own_low : item < v.all.items → own b item < 2 ^ 64
  own_low h = let a = own_room h in let f = i.few in omega arith

  module _ (apart : IsApart v.all item) where
    not_there : (q y : ℕ) → Contains (list_of p.all q) y → item_at b s y ≢ item
    not_there q y c e = apart q (rw (← all_is, ← e) (stands b s p.all q y c))

    pub own_apart : IsApart p.all (own b item)
    own_apart q c = not_there q (own b item) c (own_item b s item)

    pub own_unmarked : IsApart p.marked (own b item)
    own_unmarked q c = own_apart q (i.marked q (own b item) c)

    module _ (room : item < v.all.items) (l x : ℕ) (r : Bool) (x_is : x ≡ own b item) (p' : MarkedView) (p'_is : p' ≡ joined_at p l x r) where
      pub shared_entered : IsShared b p' s keys fits
      shared_entered = subst (λ w. IsShared b w s keys fits) (sym (p'_is ∙ ap (λ y. joined_at p l y r) x_is))
          (shared_joined b p s s keys keys fits i l (own b item) r (own_room room) own_apart (λ q y c. refl)
          (λ y c e. not_there l y c (e ∙ own_item b s item))
          i.keyed (λ k f at. at) (λ k is e. absurd (own_far b item k is e)) (λ k f at. inl at)
          (λ k f at. let o = i.first k f at in (o.0, joined_old p.all l (own b item) o.0 (own b f.item) o.1)))

      pub seen_entered : seen b p' s keys fits ≡ entered v l item r
      seen_entered =
          let all : items_of b s p'.all ≡ joined v.all l item = ap (λ (w : MarkedView). items_of b s w.all) p'_is ∙ seen_joined b s p.all l x item (ap (item_at b s) x_is ∙ own_item b s item) ∙ ap (λ w. joined w l item) all_is in
          let marks : items_of b s p'.marked ≡ cond r (joined v.ready l item) v.ready = ap (λ (w : MarkedView). items_of b s w.marked) p'_is ∙ marks_by r in
          ap (λ w. let u : SharedView = record { all = w; ready = items_of b s p'.marked; more = more_in s keys; room = room_in s fits; several = b } in u) all
          ∙ ap (λ w. let u : SharedView = record { all = joined v.all l item; ready = w; more = more_in s keys; room = room_in s fits; several = b } in u) marks
          ∙ ap (λ (w : SharedView). let u : SharedView = record w { all = joined v.all l item; ready = cond r (joined v.ready l item) v.ready } in u) is
        where
          marks_by : (r : Bool) → items_of b s (joined_at p l x r).marked ≡ cond r (joined v.ready l item) v.ready
          marks_by false = ap (λ (w : SharedView). w.ready) is
          marks_by true = seen_joined b s p.marked l x item (ap (item_at b s) x_is ∙ own_item b s item) ∙ ap (λ (w : SharedView). joined w.ready l item) is
