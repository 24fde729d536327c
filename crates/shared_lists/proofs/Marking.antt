-- Lists with shared items once other places are marked.
use Rattle.std.proofs.Common.{◌≡◌, ◌≢◌, inl, inr, ℕ, ◌+◌, ◌<◌, ◌≤◌, ◌^◌, ◌∷◌, ◌++◌, [], Bool, true, false, List, Some, None, IsSome, is_some, slice_get, map as map_list, refl, sym, ap, subst, ◌∙◌, arith, Contains}
use Rattle.slab.specs.Slab.{get}
use Rattle.member_lists.specs.Lists.{ListsView, MarkedView, list_of, IsApart}
use Rattle.member_lists.specs.Chains.{times}
use Rattle.member_lists.proofs.Times.{none_some, times_here, times_more, times-append, times_from_Contains, Contains_from_times}
use Rattle.member_lists.proofs.Listed.{items_same}
use Rattle.shared_lists.specs.Shared.{SharedView, IsFirst, joined, parted, joined_each, parted_each, more_of}
use Rattle.shared_lists.specs.Marked.{joined_far, parted_far}
use Rattle.shared_lists.specs.Places.{own, far, item_at, list_in, list_at, items_of, seen, IsShared}
use Rattle.shared_lists.proofs.Seen.{Kept, own_item, far_item, own_far, seen_list, seen_joined, seen_parted}
use Rattle.shared_lists.proofs.Standing.{joined_from, parted_from, parted_old}
use Rattle.shared_lists.proofs.Entered.{more_is}
use Rattle.shared_lists.proofs.Parted.{yes, marked_if}
use Rattle.shared_lists.proofs.Promoted.{own_here, first_mapped}

-- ---- a list and its rest

pub head_in : (k : ℕ) (ks : List ℕ) → Contains (k ∷ ks) k
head_in k ks = Contains_from_times k (k ∷ ks) (let e = times_here k k ks refl in omega arith)

pub tail_in : (k j : ℕ) (ks : List ℕ) → Contains ks j → Contains (k ∷ ks) j
tail_in k j ks c = Contains_from_times j (k ∷ ks) (let a = times_from_Contains j ks c in let m = times_more j k ks in omega arith)

-- a key that stands once isn't among those behind it
pub not_behind : (keys front rest : List ℕ) (k j : ℕ) → keys ≡ front ++ k ∷ rest → times k keys ≤ 1 → Contains rest j → j ≢ k
not_behind keys front rest k j is once c e =
    let all : times k keys ≡ times k front + times k (k ∷ rest) = ap (times k) is ∙ times-append k front (k ∷ rest) in
    let here = times_here k k rest refl in
    let more : 0 < times k rest = times_from_Contains k rest (subst (λ z. Contains rest z) e c) in
    omega arith

pub in_keys : (keys front back : List ℕ) (j : ℕ) → keys ≡ front ++ back → Contains back j → Contains keys j
in_keys keys front back j is c =
    let a = times_from_Contains j back c in
    let b : times j keys ≡ times j front + times j back = ap (times j) is ∙ times-append j front back in
    Contains_from_times j keys (omega arith)

-- ---- other places are marked

module _ (b : Bool) (p : MarkedView) (s : Kept) (keys : ListsView) (fits : ℕ) (i : IsShared b p s keys fits) where
  pub shared_marks : (m : ListsView) → ((l x : ℕ) → Contains (list_of m l) x → Contains (list_of p.all l) x) → m.items ≡ p.marked.items → IsShared b (record { all = p.all; marked = m }) s keys fits
  shared_marks m within items = record {
    keyed = i.keyed;
    further = i.further;
    there = i.there;
    first = i.first;
    single = i.single;
    once = i.once;
    marked = within;
    low = i.low;
    fit = i.fit;
    few = i.few;
    even = items ∙ i.even;
  }

  one_item : (l x y : ℕ) → Contains (list_of p.all l) x → Contains (list_of p.all l) y → item_at b s x ≡ item_at b s y → x ≡ y
  one_item = i.once

module _ (b : Bool) (s : Kept) (all : ListsView) (item : ℕ) (once : (l x y : ℕ) → Contains (list_of all l) x → Contains (list_of all l) y → item_at b s x ≡ item_at b s y → x ≡ y) where
  pub far_within : (m : ListsView) (ks : List ℕ) → ((l x : ℕ) → Contains (list_of m l) x → Contains (list_of all l) x) → ((k : ℕ) → Contains ks k → Contains (list_of all (list_at s k)) (far k))
      → (l x : ℕ) → Contains (list_of (joined_far m s ks) l) x → Contains (list_of all l) x
  far_within m [] within there l x c = within l x c
  far_within m (k ∷ ks) within there l x c =
      far_within (joined m (list_at s k) (far k)) ks
      (λ q y d. elim (joined_from m (list_at s k) (far k) q y d) [ inl a ↦ within q y a | inr a ↦ rw (a.0, a.1) (there k (head_in k ks)) ])
      (λ j d. there j (tail_in k j ks d)) l x c

  pub far_items : (m : ListsView) (ks : List ℕ) → (joined_far m s ks).items ≡ m.items
  far_items m [] = refl
  far_items m (k ∷ ks) = far_items (joined m (list_at s k) (far k)) ks ∙ items_same m (list_at s k) _

  pub seen_far : (m : ListsView) (ks : List ℕ) → ((k : ℕ) → Contains ks k → item_at b s (far k) ≡ item) → items_of b s (joined_far m s ks) ≡ joined_each (items_of b s m) (map_list (list_at s) ks) item
  seen_far m [] are = refl
  seen_far m (k ∷ ks) are =
      seen_far (joined m (list_at s k) (far k)) ks (λ j d. are j (tail_in k j ks d))
      ∙ ap (λ w. joined_each w (map_list (list_at s) ks) item) (seen_joined b s m (list_at s k) (far k) item (are k (head_in k ks)))

  pub less_within : (m : ListsView) (ks : List ℕ) → ((l x : ℕ) → Contains (list_of m l) x → Contains (list_of all l) x) → (l x : ℕ) → Contains (list_of (parted_far m s ks) l) x → Contains (list_of all l) x
  less_within m [] within l x c = within l x c
  less_within m (k ∷ ks) within l x c = less_within (parted m (list_at s k) (far k)) ks (λ q y d. within q y (parted_from m (list_at s k) (far k) q y d).0) l x c

  pub less_items : (m : ListsView) (ks : List ℕ) → (parted_far m s ks).items ≡ m.items
  less_items m [] = refl
  less_items m (k ∷ ks) = less_items (parted m (list_at s k) (far k)) ks ∙ items_same m (list_at s k) _

  pub seen_less : (m : ListsView) (ks : List ℕ) → ((l x : ℕ) → Contains (list_of m l) x → Contains (list_of all l) x) → ((k : ℕ) → Contains ks k → Contains (list_of all (list_at s k)) (far k))
      → ((k : ℕ) → Contains ks k → item_at b s (far k) ≡ item) → items_of b s (parted_far m s ks) ≡ parted_each (items_of b s m) (map_list (list_at s) ks) item
  seen_less m [] within there are = refl
  seen_less m (k ∷ ks) within there are =
      seen_less (parted m (list_at s k) (far k)) ks (λ q y d. within q y (parted_from m (list_at s k) (far k) q y d).0) (λ j d. there j (tail_in k j ks d)) (λ j d. are j (tail_in k j ks d))
      ∙ ap (λ w. parted_each w (map_list (list_at s) ks) item)
      (seen_parted b s m (list_at s k) (far k) item (are k (head_in k ks)) (λ y c e. once (list_at s k) y (far k) (within (list_at s k) y c) (there k (head_in k ks)) e))

-- ---- an item gets ready, or isn't any more

module _ (b : Bool) (p : MarkedView) (s : Kept) (keys : ListsView) (fits : ℕ) (i : IsShared b p s keys fits) (v : SharedView) (is : seen b p s keys fits ≡ v) (item : ℕ) where
  abbrev ks : List ℕ
  ks = list_of keys item

  pub keys_there : (k : ℕ) → Contains ks k → Contains (list_of p.all (list_at s k)) (far k)
  keys_there k c = let f = i.keyed.keyed item k c in subst (λ o. Contains (list_of p.all (list_in o)) (far k)) (sym f.1) (i.there k f.0 f.1)

  pub keys_low : (k : ℕ) → Contains ks k → far k < 2 ^ 64
  keys_low k c = let a = i.low (list_at s k) (far k) (keys_there k c) in let h = i.few in omega arith

  pub keys_item : (k : ℕ) → Contains ks k → item_at b s (far k) ≡ item
  keys_item k c = let f = i.keyed.keyed item k c in far_item b s k f.0 (yes b p s keys fits i v is k f.0 f.1) f.1 ∙ f.2

  pub keys_unmarked : IsApart v.ready item → (k : ℕ) → Contains ks k → IsApart p.marked (far k)
  keys_unmarked apart k c = marked_if b p s keys fits i v is false item (list_at s k) (far k) (keys_item k c) (keys_there k c) apart

  module _ (own_list : ℕ) (first : IsFirst v own_list item) where
    abbrev ownp : ℕ
    ownp = own b item

    here : Contains (list_of p.all own_list) ownp
    here = own_here b p s keys fits i v is own_list item first

    pub own_unready : IsApart v.ready item → IsApart p.marked ownp
    own_unready apart = marked_if b p s keys fits i v is false item own_list ownp (own_item b s item) here apart

    -- the further places stay unmarked, once the own one is marked
    pub still_unmarked : IsApart v.ready item → (x : ℕ) → x ≡ ownp → (m : MarkedView) → m ≡ record p { marked = joined p.marked own_list x } → (k : ℕ) → Contains ks k → IsApart m.marked (far k)
    still_unmarked apart x x_is m m_is k c l d =
        let f = i.keyed.keyed item k c in
        elim (joined_from p.marked own_list x l (far k) (subst (λ (w : MarkedView). Contains (list_of w.marked l) (far k)) m_is d)) [
          | inl a ↦ keys_unmarked apart k c l a
          | inr a ↦ own_far b item k (yes b p s keys fits i v is k f.0 f.1) (sym (a.1 ∙ x_is))
        ]

    module _ (x : ℕ) (x_is : x ≡ ownp) (m n : MarkedView) (m_is : m ≡ record p { marked = joined p.marked own_list x }) (n_is : n ≡ record m { marked = joined_far m.marked s ks }) where
      abbrev more : ListsView
      more = joined_far (joined p.marked own_list ownp) s ks

      n_all : n ≡ record { all = p.all; marked = more }
      n_all = n_is ∙ ap (λ (w : MarkedView). let u : MarkedView = record w { marked = joined_far w.marked s ks } in u) (m_is ∙ ap (λ y. let u : MarkedView = record p { marked = joined p.marked own_list y } in u) x_is)

      within1 : (l y : ℕ) → Contains (list_of (joined p.marked own_list ownp) l) y → Contains (list_of p.all l) y
      within1 l y c = elim (joined_from p.marked own_list ownp l y c) [ inl a ↦ i.marked l y a | inr a ↦ rw (a.0, a.1) here ]

      pub shared_ready : IsShared b n s keys fits
      shared_ready = subst (λ w. IsShared b w s keys fits) (sym n_all)
          (shared_marks b p s keys fits i more (far_within b s p.all item i.once (joined p.marked own_list ownp) ks within1 keys_there)
          (far_items b s p.all item i.once (joined p.marked own_list ownp) ks ∙ items_same p.marked own_list _))

      pub seen_ready : seen b n s keys fits ≡ record v { ready = joined_each v.ready (own_list ∷ more_of v item) item }
      seen_ready =
          ap (λ w. seen b w s keys fits) n_all
          ∙ ap (λ w. let u : SharedView = record (seen b p s keys fits) { ready = w } in u)
          (seen_far b s p.all item i.once (joined p.marked own_list ownp) ks keys_item
          ∙ ap (λ w. joined_each w (map_list (list_at s) ks) item) (seen_joined b s p.marked own_list ownp item (own_item b s item))
          ∙ ap (λ ls. joined_each (items_of b s p.marked) (own_list ∷ ls) item) (sym (more_is b p s keys fits i v is item)))
          ∙ ap (λ (w : SharedView). let u : SharedView = record w { ready = joined_each w.ready (own_list ∷ more_of v item) item } in u) is

    -- ---- it isn't ready any more

    pub own_ready : ((l : ℕ) → Contains (list_of v.all l) item → Contains (list_of v.ready l) item) → Contains (list_of p.marked own_list) ownp
    own_ready ready = marked_if b p s keys fits i v is true item own_list ownp (own_item b s item) here ready

    pub still_marked : ((l : ℕ) → Contains (list_of v.all l) item → Contains (list_of v.ready l) item) → (x : ℕ) → x ≡ ownp → (m : MarkedView) → m ≡ record p { marked = parted p.marked own_list x }
        → (k : ℕ) → Contains ks k → Contains (list_of m.marked (list_at s k)) (far k)
    still_marked ready x x_is m m_is k c =
        let f = i.keyed.keyed item k c in
        subst (λ (w : MarkedView). Contains (list_of w.marked (list_at s k)) (far k)) (sym m_is)
        (parted_old p.marked own_list x (list_at s k) (far k) (λ e. own_far b item k (yes b p s keys fits i v is k f.0 f.1) (sym (e ∙ x_is)))
        (marked_if b p s keys fits i v is true item (list_at s k) (far k) (keys_item k c) (keys_there k c) ready))

    module _ (x : ℕ) (x_is : x ≡ ownp) (m n : MarkedView) (m_is : m ≡ record p { marked = parted p.marked own_list x }) (n_is : n ≡ record m { marked = parted_far m.marked s ks }) where
      abbrev less : ListsView
      less = parted_far (parted p.marked own_list ownp) s ks

      n_less : n ≡ record { all = p.all; marked = less }
      n_less = n_is ∙ ap (λ (w : MarkedView). let u : MarkedView = record w { marked = parted_far w.marked s ks } in u) (m_is ∙ ap (λ y. let u : MarkedView = record p { marked = parted p.marked own_list y } in u) x_is)

      within_less : (l y : ℕ) → Contains (list_of (parted p.marked own_list ownp) l) y → Contains (list_of p.all l) y
      within_less l y c = i.marked l y (parted_from p.marked own_list ownp l y c).0

      pub shared_unready : IsShared b n s keys fits
      shared_unready = subst (λ w. IsShared b w s keys fits) (sym n_less)
          (shared_marks b p s keys fits i less (less_within b s p.all item i.once (parted p.marked own_list ownp) ks within_less)
          (less_items b s p.all item i.once (parted p.marked own_list ownp) ks ∙ items_same p.marked own_list _))

      pub seen_unready : seen b n s keys fits ≡ record v { ready = parted_each v.ready (own_list ∷ more_of v item) item }
      seen_unready =
          ap (λ w. seen b w s keys fits) n_less
          ∙ ap (λ w. let u : SharedView = record (seen b p s keys fits) { ready = w } in u)
          (seen_less b s p.all item i.once (parted p.marked own_list ownp) ks within_less keys_there keys_item
          ∙ ap (λ w. parted_each w (map_list (list_at s) ks) item) (seen_parted b s p.marked own_list ownp item (own_item b s item) (λ y c e. i.once own_list y ownp (i.marked own_list y c) here e))
          ∙ ap (λ ls. parted_each (items_of b s p.marked) (own_list ∷ ls) item) (sym (more_is b p s keys fits i v is item)))
          ∙ ap (λ (w : SharedView). let u : SharedView = record w { ready = parted_each w.ready (own_list ∷ more_of v item) item } in u) is

-- ---- the first item of a list

module _ (b : Bool) (p : MarkedView) (s : Kept) (keys : ListsView) (fits : ℕ) (i : IsShared b p s keys fits) (v : SharedView) (is : seen b p s keys fits ≡ v) (l : ℕ) where
  pub place_there : (x : ℕ) → Contains (list_of p.all l) x → (k : ℕ) → b ≡ true → x ≡ far k → IsSome (get s k)
  place_there x c k t e = let f = i.further l k t (subst (λ z. Contains (list_of p.all l) z) e c) in ap is_some f.1

  pub first_all : (x : ℕ) → slice_get (list_of p.all l) 0 ≡ Some x → (y : ℕ) → y ≡ item_at b s x → Some y ≡ slice_get (list_of v.all l) 0
  first_all x e y y_is =
      ap (λ n. Some n) y_is ∙ first_mapped (item_at b s) (list_of p.all l) x e
      ∙ ap (λ xs. slice_get xs 0) (sym (seen_list b s p.all l)) ∙ ap (λ (w : SharedView). slice_get (list_of w.all l) 0) is

  pub first_marked : (x : ℕ) → slice_get (list_of p.marked l) 0 ≡ Some x → (y : ℕ) → y ≡ item_at b s x → Some y ≡ slice_get (list_of v.ready l) 0
  first_marked x e y y_is =
      ap (λ n. Some n) y_is ∙ first_mapped (item_at b s) (list_of p.marked l) x e
      ∙ ap (λ xs. slice_get xs 0) (sym (seen_list b s p.marked l)) ∙ ap (λ (w : SharedView). slice_get (list_of w.ready l) 0) is

  none_mapped : (g : ℕ → ℕ) (xs : List ℕ) → None ≡ slice_get xs 0 → None ≡ slice_get (map_list g xs) 0
  none_mapped g [] e = refl
  none_mapped g (x ∷ xs) e = absurd (none_some x e)

  pub none_first : None ≡ slice_get (list_of p.all l) 0 → None ≡ slice_get (list_of v.all l) 0
  none_first e = none_mapped (item_at b s) (list_of p.all l) e ∙ ap (λ xs. slice_get xs 0) (sym (seen_list b s p.all l)) ∙ ap (λ (w : SharedView). slice_get (list_of w.all l) 0) is

  pub none_ready : None ≡ slice_get (list_of p.marked l) 0 → None ≡ slice_get (list_of v.ready l) 0
  none_ready e = none_mapped (item_at b s) (list_of p.marked l) e ∙ ap (λ xs. slice_get xs 0) (sym (seen_list b s p.marked l)) ∙ ap (λ (w : SharedView). slice_get (list_of w.ready l) 0) is

  -- ---- a turn passes

  module _ (x : ℕ) (mark : Contains (list_of p.marked l) x) where
    inside : Contains (list_of p.all l) x
    inside = i.marked l x mark

    pub turn_inside : (m : MarkedView) → m ≡ record p { marked = parted p.marked l x } → Contains (list_of m.all l) x
    turn_inside m m_is = subst (λ (w : MarkedView). Contains (list_of w.all l) x) (sym m_is) inside

    pub turn_apart : (m : MarkedView) → m ≡ record p { marked = parted p.marked l x } → IsApart m.marked x
    turn_apart m m_is q c =
        let f = parted_from p.marked l x q x (subst (λ (w : MarkedView). Contains (list_of w.marked q) x) m_is c) in
        f.1 (i.single q l x (i.marked q x f.0) inside) refl

    module _ (m n : MarkedView) (m_is : m ≡ record p { marked = parted p.marked l x }) (n_is : n ≡ record m { marked = joined m.marked l x }) where
      abbrev turn : ListsView
      turn = joined (parted p.marked l x) l x

      n_turn : n ≡ record { all = p.all; marked = turn }
      n_turn = n_is ∙ ap (λ (w : MarkedView). let u : MarkedView = record w { marked = joined w.marked l x } in u) m_is

      within_turn : (q y : ℕ) → Contains (list_of turn q) y → Contains (list_of p.all q) y
      within_turn q y c = elim (joined_from (parted p.marked l x) l x q y c) [ inl a ↦ i.marked q y (parted_from p.marked l x q y a).0 | inr a ↦ rw (a.0, a.1) inside ]

      pub shared_turn : IsShared b n s keys fits
      shared_turn = subst (λ w. IsShared b w s keys fits) (sym n_turn) (shared_marks b p s keys fits i turn within_turn (items_same (parted p.marked l x) l _ ∙ items_same p.marked l _))

      pub seen_turn : (y : ℕ) → y ≡ item_at b s x → seen b n s keys fits ≡ record v { ready = joined (parted v.ready l y) l y }
      seen_turn y y_is =
          ap (λ w. seen b w s keys fits) n_turn
          ∙ ap (λ w. let u : SharedView = record (seen b p s keys fits) { ready = w } in u)
          (seen_joined b s (parted p.marked l x) l x y (sym y_is) ∙ ap (λ w. joined w l y) (seen_parted b s p.marked l x y (sym y_is) (λ z c e. i.once l z x (i.marked l z c) inside e)))
          ∙ ap (λ (w : SharedView). let u : SharedView = record w { ready = joined (parted w.ready l y) l y } in u) is
