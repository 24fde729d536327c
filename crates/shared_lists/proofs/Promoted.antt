-- Lists with shared items once an item's own place is out of its first list, and takes over a further one.
use Rattle.std.proofs.Common.{◌≡◌, ◌≢◌, ◌⊎◌, inl, inr, ℕ, ◌+◌, ◌<◌, ◌^◌, ◌∷◌, [], Bool, true, false, cond, List, Option, Some, None, IfNone, slice_get, map as map_list, refl, sym, ap, subst, ◌∙◌, arith, Contains}
use Rattle.std.proofs.lemmas.Option.{slice_get_within, get_or_from_slice_get}
use Rattle.slab.specs.Slab.{get, slab_len, Updates}
use Rattle.member_lists.specs.Lists.{ListsView, MarkedView, list_of, without, exchanged, replaced, IsApart, IsMarkedIn}
use Rattle.member_lists.proofs.Times.{none_some, same_some, equal_or_not}
use Rattle.member_lists.proofs.Listed.{items_same}
use Rattle.shared_lists.specs.declared.Further.{Further}
use Rattle.shared_lists.specs.Shared.{SharedView, IsFirst, IsReady, parted, more_of, with_more, left, without_further}
use Rattle.shared_lists.specs.Marked.{parted_at}
use Rattle.shared_lists.specs.Places.{own, far, item_at, list_in, list_at, items_of, more_in, room_in, seen, IsShared}
use Rattle.shared_lists.proofs.Seen.{Kept, own_item, own_far, own_once, far_once, seen_same, seen_parted, seen_exchanged}
use Rattle.shared_lists.proofs.Standing.{parted_from, parted_old, turned_from, turned_old, turned_new}
use Rattle.shared_lists.proofs.Entered.{more_is, own_inside}
use Rattle.shared_lists.proofs.Parted.{marked_if, single_mark, yes, gone, shared_parted, all_parted, marks_parted, keyed_less, left_key, kept_key, same_place, more_less, far_is, far_inside, far_marked}

-- ---- the first of an item's keys

pub first_inside : (xs : List ℕ) (k : ℕ) → slice_get xs 0 ≡ Some k → Contains xs k
first_inside xs k e = (0, slice_get_within xs 0 k e, get_or_from_slice_get xs 0 k k e)

pub first_mapped : (g : ℕ → ℕ) (xs : List ℕ) (k : ℕ) → slice_get xs 0 ≡ Some k → Some (g k) ≡ slice_get (map_list g xs) 0
first_mapped g [] k e = absurd (none_some k e)
first_mapped g (x ∷ xs) k e = ap (λ n. Some (g n)) (sym (same_some x k e))

pub if_none : (o : Option ℕ) (P : Type 0) → P → IfNone o P
if_none None P h = h
if_none (Some x) P h = tt

module _ (b : Bool) (p : MarkedView) (s : Kept) (keys : ListsView) (fits : ℕ) (i : IsShared b p s keys fits) (v : SharedView) (is : seen b p s keys fits ≡ v) (item key : ℕ) (f : Further) (at : get s key ≡ Some f) where
  pub key_item : Contains (list_of keys item) key → f.item ≡ item
  key_item c = let g = i.keyed.keyed item key c in ap (λ (h : Further). h.item) (same_some f g.0 (sym at ∙ g.1)) ∙ g.2

  pub first_more : slice_get (list_of keys item) 0 ≡ Some key → Some f.list ≡ slice_get (more_of v item) 0
  first_more e =
      ap (λ o. Some (list_in o)) (sym at) ∙ first_mapped (list_at s) (list_of keys item) key e
      ∙ ap (λ xs. slice_get xs 0) (sym (more_is b p s keys fits i v is item))

-- ---- an item's own place, in its first list

module _ (b : Bool) (p : MarkedView) (s : Kept) (keys : ListsView) (fits : ℕ) (i : IsShared b p s keys fits) (v : SharedView) (is : seen b p s keys fits ≡ v) (l item : ℕ) (first : IsFirst v l item) where
  pub own_here : Contains (list_of p.all l) (own b item)
  own_here = own_inside b p s keys fits i v is l item first

  pub own_low : own b item < 2 ^ 64
  own_low = let a = i.low l (own b item) own_here in let h = i.few in omega arith

  pub own_marked : (r : Bool) → IsReady v item r → IsMarkedIn p l (own b item) r
  own_marked r ready = marked_if b p s keys fits i v is r item l (own b item) (own_item b s item) own_here ready

  pub own_single : (other : ℕ) → Contains (list_of p.marked other) (own b item) → other ≡ l
  own_single = single_mark b p s keys fits i v is l (own b item) own_here

  -- ---- it has no other list

  module _ (r : Bool) (ready : IsReady v item r) (none : None ≡ slice_get (list_of keys item) 0) where
    empty : (xs : List ℕ) → None ≡ slice_get xs 0 → xs ≡ []
    empty [] e = refl
    empty (x ∷ xs) e = absurd (none_some x e)

    pub no_keys : list_of keys item ≡ []
    no_keys = empty (list_of keys item) none

    pub no_more : more_of v item ≡ []
    no_more = more_is b p s keys fits i v is item ∙ ap (map_list (list_at s)) no_keys

    not_own : (k : ℕ) (f : Further) → get s k ≡ Some f → own b f.item ≢ own b item
    not_own k f at e =
        let same : f.item ≡ item = own_once b s f.item item e in
        let c : Contains [] k = subst (λ xs. Contains xs k) no_keys (subst (λ n. Contains (list_of keys n) k) same (i.keyed.listed k f at)) in
        let less : c.0 < 0 = c.1 in omega arith

    module _ (x : ℕ) (x_is : x ≡ own b item) (p' : MarkedView) (p'_is : p' ≡ parted_at p l x r) where
      p'_own : p' ≡ parted_at p l (own b item) r
      p'_own = p'_is ∙ ap (λ y. parted_at p l y r) x_is

      pub out_apart : IsApart p'.all (own b item)
      out_apart q c = (gone b p s s keys keys fits i l (own b item) own_here (λ y d. refl) q (own b item) (subst (λ (w : MarkedView). Contains (list_of w.all q) (own b item)) p'_own c)).1 refl

      pub shared_out : IsShared b p' s keys fits
      shared_out = subst (λ w. IsShared b w s keys fits) (sym p'_own)
          (shared_parted b p s s keys keys fits i l (own b item) own_here (λ y d. refl) r (own_marked r ready) i.keyed
          (λ k f at d. at) (λ k f at. (at, λ e. own_far b item k (yes b p s keys fits i v is k f at) (sym e))) not_own)

      pub seen_out : seen b p' s keys fits ≡ left v l item r
      seen_out =
          ap (λ w. seen b w s keys fits) p'_own
          ∙ ap (λ w. let u : SharedView = record { all = w; ready = items_of b s (parted_at p l (own b item) r).marked; more = more_in s keys; room = room_in s fits; several = b } in u)
          (all_parted b p s s keys keys fits i l (own b item) own_here (λ y d. refl) item (own_item b s item))
          ∙ ap (λ w. let u : SharedView = record { all = parted (items_of b s p.all) l item; ready = w; more = more_in s keys; room = room_in s fits; several = b } in u)
          (marks_parted b p s s keys keys fits i l (own b item) own_here (λ y d. refl) r (own_marked r ready) item (own_item b s item))
          ∙ ap (λ w. left w l item r) is

  -- ---- it takes over a further place

  module _ (key : ℕ) (f : Further) (at : get s key ≡ Some f) (item_is : f.item ≡ item) (r : Bool) (ready : IsReady v item r) where
    several : b ≡ true
    several = yes b p s keys fits i v is key f at

    abbrev ownp : ℕ
    ownp = own b item

    far_own : far key ≢ ownp
    far_own e = own_far b item key several (sym e)

    there : Contains (list_of p.all f.list) (far key)
    there = far_inside b p s keys fits i v is key f at

    far_item_is : item_at b s (far key) ≡ item
    far_item_is = far_is b p s keys fits i v is key f at ∙ item_is

    mark : IsMarkedIn p f.list (far key) r
    mark = far_marked b p s keys fits i v is key f at r (subst (λ n. IsReady v n r) (sym item_is) ready)

    abbrev p1 : MarkedView
    p1 = parted_at p l ownp r

    from1 : (q y : ℕ) → Contains (list_of p1.all q) y → Contains (list_of p.all q) y × (y ≢ ownp)
    from1 = gone b p s s keys keys fits i l ownp own_here (λ y d. refl)

    there1 : Contains (list_of p1.all f.list) (far key)
    there1 = parted_old p.all l ownp f.list (far key) far_own there

    mark1 : (r : Bool) → IsMarkedIn p f.list (far key) r → IsMarkedIn (parted_at p l ownp r) f.list (far key) r
    mark1 true c = parted_old p.marked l ownp f.list (far key) far_own c
    mark1 false a = a

    module _ (x : ℕ) (x_is : x ≡ ownp) (q1 : MarkedView) (q1_is : q1 ≡ parted_at p l x r) where
      pub q1_own : q1 ≡ p1
      q1_own = q1_is ∙ ap (λ y. parted_at p l y r) x_is

      pub by_room : x < q1.all.items
      by_room = subst (λ (w : MarkedView). x < w.all.items) (sym q1_own)
          (let a = i.low l ownp own_here in let e = items_same p.all l (without ownp (list_of p.all l)) in rw x_is (omega arith))

      pub by_there : (y : ℕ) → y ≡ far key → Contains (list_of q1.all f.list) y
      by_there y y_is = rw (q1_own, y_is) there1

      pub by_apart : IsApart q1.all x
      by_apart q c =
          let h : Contains (list_of p1.all q) ownp = subst (λ (w : MarkedView). Contains (list_of w.all q) ownp) q1_own (subst (λ z. Contains (list_of q1.all q) z) x_is c) in
          (from1 q ownp h).1 refl

      pub by_mark : (y : ℕ) → y ≡ far key → IsMarkedIn q1 f.list y r
      by_mark y y_is = subst (λ w. IsMarkedIn w f.list y r) (sym q1_own) (subst (λ z. IsMarkedIn p1 f.list z r) (sym y_is) (mark1 r mark))

    module _ (s' : Kept) (up : Updates s s' key None) (len : slab_len s' + 1 ≡ slab_len s) (capacity : s'.capacity ≡ s.capacity) where
      abbrev keys' : ListsView
      keys' = parted keys f.item key

      abbrev p2 : MarkedView
      p2 = replaced p1 f.list (far key) ownp r

      same : (y : ℕ) → y ≢ far key → item_at b s' y ≡ item_at b s y
      same = same_place b p s keys fits i v is key f at s' up len capacity

      from2 : (q y : ℕ) → Contains (list_of p2.all q) y → (Contains (list_of p.all q) y × (y ≢ ownp) × (y ≢ far key)) ⊎ ((y ≡ ownp) × (q ≡ f.list))
      from2 q y c = elim (turned_from p1.all f.list (far key) ownp q y c) [
        | inl a ↦
            let g = from1 q y a.0 in
            inl (g.0, g.1, λ e. a.1 (i.single q f.list (far key) (subst (λ z. Contains (list_of p.all q) z) e g.0) there) e)
        | inr a ↦ inr a
      ]

      old2 : (q y : ℕ) → y ≢ ownp → y ≢ far key → Contains (list_of p.all q) y → Contains (list_of p2.all q) y
      old2 q y d e c = turned_old p1.all f.list (far key) ownp q y e (parted_old p.all l ownp q y d c)

      new2 : Contains (list_of p2.all f.list) ownp
      new2 = turned_new p1.all f.list (far key) ownp there1

      marks2 : (r : Bool) → IsMarkedIn p l ownp r → IsMarkedIn p f.list (far key) r → (q y : ℕ) → Contains (list_of (replaced (parted_at p l ownp r) f.list (far key) ownp r).marked q) y
          → (Contains (list_of p.marked q) y × (y ≢ ownp) × (y ≢ far key)) ⊎ ((y ≡ ownp) × (q ≡ f.list))
      marks2 false unmarked far_unmarked q y c = inl (c, (λ e. unmarked q (subst (λ z. Contains (list_of p.marked q) z) e c)), (λ e. far_unmarked q (subst (λ z. Contains (list_of p.marked q) z) e c)))
      marks2 true own_mark far_mark q y c = elim (turned_from (parted p.marked l ownp) f.list (far key) ownp q y c) [
        | inl a ↦
            let g = parted_from p.marked l ownp q y a.0 in
            inl (g.0, (λ e. g.1 (own_single q (subst (λ z. Contains (list_of p.marked q) z) e g.0)) e), (λ e. a.1 (i.single q f.list (far key) (i.marked q (far key) (subst (λ z. Contains (list_of p.marked q) z) e g.0)) there) e))
        | inr a ↦ inr a
      ]

      once2 : (q y z : ℕ) → Contains (list_of p2.all q) y → Contains (list_of p2.all q) z → item_at b s' y ≡ item_at b s' z → y ≡ z
      once2 q y z c d e = elim (from2 q y c) [
        | inl a ↦ elim (from2 q z d) [
          | inl g ↦ i.once q y z a.0 g.0 (sym (same y a.2) ∙ e ∙ same z g.2)
          | inr g ↦ absurd (a.2 (i.once f.list y (far key) (rw g.1 at a.0) there (sym (same y a.2) ∙ e ∙ ap (item_at b s') g.0 ∙ own_item b s' item ∙ sym far_item_is)))
        ]
        | inr a ↦ elim (from2 q z d) [
          | inl g ↦ absurd (g.2 (i.once f.list z (far key) (rw a.1 at g.0) there (sym (same z g.2) ∙ sym e ∙ ap (item_at b s') a.0 ∙ own_item b s' item ∙ sym far_item_is)))
          | inr g ↦ a.0 ∙ sym g.0
        ]
      ]

      single2 : (q m y : ℕ) → Contains (list_of p2.all q) y → Contains (list_of p2.all m) y → q ≡ m
      single2 q m y c d = elim (from2 q y c) [
        | inl a ↦ elim (from2 m y d) [ inl g ↦ i.single q m y a.0 g.0 | inr g ↦ absurd (a.1 g.0) ]
        | inr a ↦ elim (from2 m y d) [ inl g ↦ absurd (g.1 a.0) | inr g ↦ a.1 ∙ sym g.1 ]
      ]

      first2 : (k : ℕ) (g : Further) → get s' k ≡ Some g → (q : ℕ) × Contains (list_of p2.all q) (own b g.item)
      first2 k g h =
          let w = left_key b p s keys fits i v is key f at s' up len capacity k g h in
          elim (equal_or_not g.item item) [
            | inl e ↦ (f.list, subst (λ n. Contains (list_of p2.all f.list) (own b n)) (sym e) new2)
            | inr d ↦ let o = i.first k g w.0 in (o.0, old2 o.0 (own b g.item) (λ e. d (own_once b s g.item item e)) (own_far b g.item key several) o.1)
          ]

      items2 : p2.all.items ≡ p.all.items
      items2 = items_same p1.all f.list (exchanged (far key) ownp (list_of p1.all f.list)) ∙ items_same p.all l (without ownp (list_of p.all l))

      marked_items2 : (r : Bool) → (replaced (parted_at p l ownp r) f.list (far key) ownp r).marked.items ≡ p.marked.items
      marked_items2 false = refl
      marked_items2 true = items_same (parted p.marked l ownp) f.list (exchanged (far key) ownp (list_of (parted p.marked l ownp) f.list)) ∙ items_same p.marked l (without ownp (list_of p.marked l))

      shared2 : IsShared b p2 s' keys' fits
      shared2 = record {
        keyed = keyed_less b p s keys fits i v is key f at s' up len capacity;
        further = λ q k t c. elim (from2 q (far k) c) [
          | inl a ↦ let g = i.further q k t a.0 in (g.0, kept_key b p s keys fits i v is key f at s' up len capacity k g.0 g.1 (λ e. a.2 (ap far e)), g.2)
          | inr a ↦ absurd (own_far b item k t (sym a.0))
        ];
        there = λ k g h.
            let w = left_key b p s keys fits i v is key f at s' up len capacity k g h in
            old2 g.list (far k) (λ e. own_far b item k several (sym e)) (λ e. w.1 (far_once k key e)) (i.there k g w.0);
        first = first2;
        single = single2;
        once = once2;
        marked = λ q y c. elim (marks2 r (own_marked r ready) mark q y c) [
          | inl a ↦ old2 q y a.1 a.2 (i.marked q y a.0)
          | inr a ↦ subst (λ z. Contains (list_of p2.all q) z) (sym a.0) (subst (λ m. Contains (list_of p2.all m) ownp) (sym a.1) new2)
        ];
        low = λ q y c. elim (from2 q y c) [
          | inl a ↦ rw items2 (i.low q y a.0)
          | inr a ↦ rw (a.0, items2) (i.low l ownp own_here)
        ];
        fit = rw items2 i.fit;
        few = rw items2 i.few;
        even = marked_items2 r ∙ i.even ∙ sym items2;
      }

      not_far2 : (q y : ℕ) → Contains (list_of p2.all q) y → y ≢ far key
      not_far2 q y c e = elim (from2 q y c) [ inl a ↦ a.2 e | inr a ↦ far_own (sym e ∙ a.0) ]

      own_same : item_at b s ownp ≡ item_at b s (far key)
      own_same = own_item b s item ∙ sym far_item_is

      all2 : items_of b s' p2.all ≡ parted (items_of b s p.all) l item
      all2 =
          seen_same b s p2.all s' (λ q y c. same y (not_far2 q y c))
          ∙ seen_exchanged b s p1.all f.list (far key) ownp there1 own_same
          ∙ seen_parted b s p.all l ownp item (own_item b s item) (λ y c e. i.once l y ownp c own_here e)

      seen_marks2 : (r : Bool) → IsMarkedIn p l ownp r → IsMarkedIn p f.list (far key) r → items_of b s' (replaced (parted_at p l ownp r) f.list (far key) ownp r).marked ≡ cond r (parted (items_of b s p.marked) l item) (items_of b s p.marked)
      seen_marks2 false unmarked far_unmarked = seen_same b s p.marked s' (λ q y c. same y (λ e. far_unmarked q (subst (λ z. Contains (list_of p.marked q) z) e c)))
      seen_marks2 true own_mark far_mark =
          seen_same b s (replaced (parted_at p l ownp true) f.list (far key) ownp true).marked s' (λ q y c. same y (λ e. elim (marks2 true own_mark far_mark q y c) [ inl a ↦ a.2 e | inr a ↦ far_own (sym e ∙ a.0) ]))
          ∙ seen_exchanged b s (parted p.marked l ownp) f.list (far key) ownp (parted_old p.marked l ownp f.list (far key) far_own far_mark) own_same
          ∙ seen_parted b s p.marked l ownp item (own_item b s item) (λ y c e. i.once l y ownp (i.marked l y c) own_here e)

      module _ (x : ℕ) (x_is : x ≡ ownp) (q1 : MarkedView) (q1_is : q1 ≡ parted_at p l x r) (y : ℕ) (y_is : y ≡ far key) (q2 : MarkedView) (q2_is : q2 ≡ replaced q1 f.list y x r) (ks : ListsView) (ks_is : ks ≡ parted keys item key) where
        q2_own : q2 ≡ p2
        q2_own = q2_is ∙ ap (λ w. replaced w f.list y x r) (q1_own x x_is q1 q1_is) ∙ ap (λ z. replaced p1 f.list z x r) y_is ∙ ap (λ z. replaced p1 f.list (far key) z r) x_is

        ks_own : ks ≡ keys'
        ks_own = ks_is ∙ ap (λ n. parted keys n key) (sym item_is)

        pub own_promoted : Contains (list_of q2.all f.list) ownp
        own_promoted = subst (λ (w : MarkedView). Contains (list_of w.all f.list) ownp) (sym q2_own) new2

        pub shared_promoted : IsShared b q2 s' ks fits
        shared_promoted = subst (λ w. IsShared b w s' ks fits) (sym q2_own) (subst (λ w. IsShared b p2 s' w fits) (sym ks_own) shared2)

        pub seen_promoted : seen b q2 s' ks fits ≡ without_further (left v l item r) f.list item (room_in s' fits)
        seen_promoted =
            ap (λ w. seen b w s' ks fits) q2_own ∙ ap (λ w. seen b p2 s' w fits) ks_own
            ∙ ap (λ w. let u : SharedView = record { all = w; ready = items_of b s' p2.marked; more = more_in s' keys'; room = room_in s' fits; several = b } in u) all2
            ∙ ap (λ w. let u : SharedView = record { all = parted (items_of b s p.all) l item; ready = w; more = more_in s' keys'; room = room_in s' fits; several = b } in u) (seen_marks2 r (own_marked r ready) mark)
            ∙ ap (λ w. let u : SharedView = record { all = parted (items_of b s p.all) l item; ready = cond r (parted (items_of b s p.marked) l item) (items_of b s p.marked); more = w; room = room_in s' fits; several = b } in u)
            (more_less b p s keys fits i v is key f at s' up len capacity ∙ ap (λ n. with_more v.more n (without f.list (more_of v n))) item_is)
            ∙ ap (λ w. let u : SharedView = record (left w l item r) { more = with_more v.more item (without f.list (more_of v item)); room = room_in s' fits } in u) is
