-- Lists once another item stands in the place of one.
use Rattle.std.proofs.Common.{◌≡◌, ◌≢◌, inl, inr, ℕ, ◌+◌, ◌<◌, ◌≤◌, ◌^◌, cond, eqb, List, [], ◌∷◌, ◌++◌, length, Some, None, slice_get, slice_set, refl, sym, ◌∙◌, ap, subst, arith, Contains}
use Rattle.std.specs.FinMap as map
use Rattle.std.specs.Ordering.{nat_cmp}
use Rattle.std.proofs.lemmas.List.{length-set}
use Rattle.member_lists.specs.declared.Link.{Link}
use Rattle.member_lists.specs.declared.Ends.{Ends}
use Rattle.member_lists.specs.Lists.{ListsView, MarkedView, list_of, with_list, exchanged, IsApart}
use Rattle.member_lists.specs.Chains.{times, first_or, last_or, pick, ends_at, IsBehindSet, IsBeforeSet, IsLinked, IsRelinked, IsChain, IsSound, IsKept}
use Rattle.member_lists.specs.Ended.{EndsMapView, IsMarked}
use Rattle.member_lists.proofs.Times.{none_some, equal_or_not, eqb_same, eqb_other, times_here, times_other, times_more, times-append, times_from_Contains, Contains_from_times, first_within, last_within, got_set, got_other, last-append, last_some}
use Rattle.member_lists.proofs.Linked.{linked-append, linked-front, linked-back, linked-end, linked-start, pick_some}
use Rattle.member_lists.proofs.Sound.{IsShown, shown, whole, view_changed}
use Rattle.member_lists.proofs.Changed.{alone_at, sound_changed, list_here, list_other, item_in_range, split, times_split, linked_split, before_is, behind_is, before_held, behind_held, before_fits, behind_fits}
use Rattle.member_lists.proofs.Held.{held_here, held_other, filled_held}
use Rattle.member_lists.proofs.Kept.{lists_in}
use Rattle.member_lists.proofs.Listed.{list_same, list_other as other_same}
use Rattle.member_lists.proofs.Marks.{marked_is, marked_within, items_same}

-- ---- the items

exchanged_none : (item by : ℕ) (xs : List ℕ) → times item xs ≡ 0 → exchanged item by xs ≡ xs
exchanged_none item by [] h = refl
exchanged_none item by (x ∷ xs) h = elim (equal_or_not x item) [
  | inl e ↦ absurd (let f = times_here item x xs (sym e) in omega arith)
  | inr d ↦
      let rest : times item xs ≡ 0 = (let f = times_more item x xs in omega arith) in
      ap (λ b. cond b by x ∷ exchanged item by xs) (eqb_other x item d) ∙ ap (λ l. x ∷ l) (exchanged_none item by xs rest)
]

exchanged-append : (item by : ℕ) (xs ys : List ℕ) → exchanged item by (xs ++ ys) ≡ exchanged item by xs ++ exchanged item by ys
exchanged-append item by [] ys = refl
exchanged-append item by (x ∷ xs) ys = ap (λ l. cond (eqb x item) by x ∷ l) (exchanged-append item by xs ys)

exchanged_here : (item by : ℕ) (ys : List ℕ) → exchanged item by (item ∷ ys) ≡ by ∷ exchanged item by ys
exchanged_here item by ys = ap (λ b. cond b by item ∷ exchanged item by ys) (eqb_same item item refl)

exchanged_split : (item by : ℕ) (front back : List ℕ) → times item (front ++ item ∷ back) ≤ 1 → exchanged item by (front ++ item ∷ back) ≡ front ++ by ∷ back
exchanged_split item by front back once =
    let a = times-append item front (item ∷ back) in
    let b = times_here item item back refl in
    exchanged-append item by front (item ∷ back)
    ∙ ap (λ l. l ++ exchanged item by (item ∷ back)) (exchanged_none item by front (omega arith))
    ∙ ap (λ l. front ++ l) (exchanged_here item by back ∙ ap (λ l. by ∷ l) (exchanged_none item by back (omega arith)))

exchanged_in : (item by x : ℕ) (xs : List ℕ) → 0 < times x xs → 0 < times (cond (eqb x item) by x) (exchanged item by xs)
exchanged_in item by x [] h = absurd (omega arith)
exchanged_in item by x (y ∷ xs) h = elim (equal_or_not x y) [
  | inl e ↦ let f = times_here (cond (eqb x item) by x) (cond (eqb y item) by y) (exchanged item by xs) (ap (λ z. cond (eqb z item) by z) e) in omega arith
  | inr d ↦
      let f = times_other x y xs d in
      let rest = exchanged_in item by x xs (omega arith) in
      let more = times_more (cond (eqb x item) by x) (cond (eqb y item) by y) (exchanged item by xs) in
      omega arith
]

exchanged_from : (item by x : ℕ) (xs : List ℕ) → 0 < times x (exchanged item by xs) → (y : ℕ) × (0 < times y xs) × (x ≡ cond (eqb y item) by y)
exchanged_from item by x [] h = absurd (omega arith)
exchanged_from item by x (y ∷ xs) h = elim (equal_or_not x (cond (eqb y item) by y)) [
  | inl e ↦ (y, (let f = times_here y y xs refl in omega arith), e)
  | inr d ↦
      let f = times_other x (cond (eqb y item) by y) (exchanged item by xs) d in
      let rest = exchanged_from item by x xs (omega arith) in
      let some : 0 < times rest.0 xs = rest.1 in
      (rest.0, (let more = times_more rest.0 y xs in omega arith), rest.2)
]

-- ---- ends

first_with : (front : List ℕ) (item by : ℕ) (back : List ℕ) → pick (last_or None front) (Some by) (first_or (front ++ item ∷ back) None) ≡ first_or (front ++ by ∷ back) None
first_with [] item by back = refl
first_with (x ∷ front) item by back = let last = last_some x front in pick_some _ _ _ last.0 last.1

last_with : (front : List ℕ) (item by : ℕ) (back : List ℕ) → pick (first_or back None) (Some by) (last_or None (front ++ item ∷ back)) ≡ last_or None (front ++ by ∷ back)
last_with front item by [] = sym (last-append None front (by ∷ []))
last_with front item by (y ∷ back) = last-append None front (item ∷ y ∷ back) ∙ sym (last-append None front (by ∷ y ∷ back))

-- ---- the links

module _ (old was mid new : List Link) (front : List ℕ) (item by : ℕ) (back : List ℕ) (link : Link) (once : (x : ℕ) → times x (front ++ item ∷ back) ≤ 1) (apart : times by (front ++ item ∷ back) ≡ 0)
    (before : link.before ≡ last_or None front) (behind : link.behind ≡ first_or back None)
    (here : slice_get was by ≡ Some link) (others : (x : ℕ) → x ≢ by → slice_get was x ≡ slice_get old x)
    (ahead : IsBehindSet was mid (last_or None front) (Some by)) (rear : IsBeforeSet mid new (first_or back None) (Some by)) where
  counted : (x : ℕ) → times x (front ++ item ∷ back) ≡ times x front + times x (item ∷ back)
  counted x = times-append x front (item ∷ back)

  once_front : (x : ℕ) → times x front ≤ 1
  once_front x = let a = counted x in let b = once x in omega arith

  once_back : (x : ℕ) → times x back ≤ 1
  once_back x = let a = counted x in let b = once x in let c = times_more x item back in omega arith

  not_front : (x : ℕ) → 0 < times x front → x ≢ by
  not_front x h e = let a = counted by in let b = apart in let same : times x front ≡ times by front = ap (λ y. times y front) e in omega arith

  not_back : (x : ℕ) → 0 < times x back → x ≢ by
  not_back x h e = let a = counted by in let b = apart in let c = times_more by item back in let same : times x back ≡ times by back = ap (λ y. times y back) e in omega arith

  not_first : (x : ℕ) → 0 < times x front → first_or back None ≢ Some x
  not_first x h e = let a = counted x in let b = once x in let c = times_more x item back in let d = first_within back x e in omega arith

  not_last : (x : ℕ) → 0 < times x back → last_or None front ≢ Some x
  not_last x h e = let a = counted x in let b = once x in let c = times_more x item back in let d = last_within front x e in omega arith

  by_there : slice_get new by ≡ Some link
  by_there =
      rear.others by (λ e. not_back by (first_within back by e) refl)
      ∙ ahead.others by (λ e. not_front by (last_within front by e) refl) ∙ here

  linked-with : IsLinked old None (front ++ item ∷ back) None → IsLinked new None (front ++ by ∷ back) None
  linked-with a =
      linked-append new None front (by ∷ back) None
      (linked-end old new None front (Some item) (Some by)
      (λ x l h e g. rear.others x (not_first x h) ∙ ahead.set x l e (others x (not_front x h) ∙ g))
      (λ x h d. rear.others x (not_first x h) ∙ ahead.others x d ∙ others x (not_front x h))
      once_front (linked-front old None front (item ∷ back) None a)) (
        record { link = link; there = by_there; before_is = before; behind_is = behind },
        linked-start old new (Some item) (Some by) back None
            (λ x l h e g. rear.set x l e (ahead.others x (not_last x h) ∙ others x (not_back x h) ∙ g))
            (λ x h d. rear.others x d ∙ ahead.others x (not_last x h) ∙ others x (not_back x h))
            once_back (linked-back old None front (item ∷ back) None a).1,
      )

-- ---- a list has another item in the place of one

module _ (links : List Link) (ends : map.FinMap nat_cmp Ends) (k : IsKept links ends) (v : ListsView) (is : lists_in links ends ≡ v)
    (l item by : ℕ) (room : by < v.items) (inside : Contains (list_of v l) item) (apart : IsApart v by) where
  abbrev chains : ℕ → Ends
  chains = ends_at ends

  abbrev so : IsSound links chains
  so = k.sound

  sh : IsShown links chains v
  sh = shown links ends k v is

  pub by_fits : by < length links
  by_fits = let e = sh.items in omega arith

  pub by_few : by + 1 < 2 ^ 32
  by_few = let e = by_fits in let f = k.few in omega arith

  alone : (c : ℕ) → times by (so.chained c) ≡ 0
  alone = alone_at links links chains so v sh l by room apart (chains l) refl

  abbrev held : List ℕ
  held = so.chained l

  abbrev front : List ℕ
  front = (split links chains so v sh l item inside).front

  abbrev back : List ℕ
  back = (split links chains so v sh l item inside).back

  abbrev with_by : List ℕ
  with_by = front ++ by ∷ back

  counts : (x : ℕ) → times x held ≡ times x front + times x (item ∷ back)
  counts = times_split links chains so v sh l item inside

  once : (x : ℕ) → times x (front ++ item ∷ back) ≤ 1
  once x = let a = counts x in let b = times-append x front (item ∷ back) in let c = (so.chain l).once x in omega arith

  by_apart : times by (front ++ item ∷ back) ≡ 0
  by_apart = let a = counts by in let b = times-append by front (item ∷ back) in let c = alone l in omega arith

  times_by : (x : ℕ) → x ≢ by → times x with_by ≤ times x held
  times_by x d =
      let a = counts x in let b = times-append x front (by ∷ back) in let c = times_other x by back d in let e = times_more x item back in omega arith

  once_by : (x : ℕ) → times x with_by ≤ 1
  once_by x = elim (equal_or_not x by) [
    | inl e ↦
        let a = times-append x front (by ∷ back) in
        let b = times_here x by back e in
        let c = times-append x front (item ∷ back) in
        let d : times x (front ++ item ∷ back) ≡ 0 = ap (λ y. times y (front ++ item ∷ back)) e ∙ by_apart in
        let g = times_more x item back in
        omega arith
    | inr d ↦ let a = times_by x d in let c = (so.chain l).once x in omega arith
  ]

  pub there : item < length links
  there = item_in_range links chains so v sh l item inside

  module _ (link : Link) (at : slice_get links item ≡ Some link) where
    pub ahead_fits : (x : ℕ) → link.before ≡ Some x → x < length links
    ahead_fits = before_fits links chains so v sh l item inside link at

    pub rear_fits : (x : ℕ) → link.behind ≡ Some x → x < length links
    rear_fits = behind_fits links chains so v sh l item inside link at

  module _ (e : Ends) (e_is : e ≡ chains l) (mores : List Link) (f : Ends) (out : IsRelinked links mores item by e f) where
    abbrev set_by : List Link
    set_by = slice_set links by out.link

    pub len_replaced : length mores ≡ length links
    len_replaced = out.rear.len ∙ out.ahead.len ∙ length-set links by out.link

    before : out.link.before ≡ last_or None front
    before = before_is links chains so v sh l item inside out.link out.there

    behind : out.link.behind ≡ first_or back None
    behind = behind_is links chains so v sh l item inside out.link out.there

    not_by : (c x : ℕ) → 0 < times x (so.chained c) → x ≢ by
    not_by c x h s = let none = alone c in let same : times x (so.chained c) ≡ times by (so.chained c) = ap (λ y. times y (so.chained c)) s in omega arith

    frame : (c x : ℕ) → c ≢ l → 0 < times x (so.chained c) → slice_get mores x ≡ slice_get links x
    frame c x d h =
        out.rear.others x (λ s. d (so.apart c l x h (behind_held links chains so v sh l item inside out.link out.there x s)))
        ∙ out.ahead.others x (λ s. d (so.apart c l x h (before_held links chains so v sh l item inside out.link out.there x s)))
        ∙ got_other links by x out.link (not_by c x h)

    alone_by : (c x : ℕ) → c ≢ l → 0 < times x with_by → 0 < times x (so.chained c) → ⊥
    alone_by c x d h g = let most = times_by x (not_by c x g) in d (so.apart c l x g (omega arith))

    ahead_is : IsBehindSet set_by out.between (last_or None front) (Some by)
    ahead_is = subst (λ o. IsBehindSet set_by out.between o (Some by)) before out.ahead

    rear_is : IsBeforeSet out.between mores (first_or back None) (Some by)
    rear_is = subst (λ o. IsBeforeSet out.between mores o (Some by)) behind out.rear

    first_was : e.first ≡ first_or (front ++ item ∷ back) None
    first_was = ap (λ (g : Ends). g.first) e_is ∙ (so.chain l).first ∙ ap (λ ys. first_or ys None) (split links chains so v sh l item inside).is

    last_was : e.last ≡ last_or None (front ++ item ∷ back)
    last_was = ap (λ (g : Ends). g.last) e_is ∙ (so.chain l).last ∙ ap (λ ys. last_or None ys) (split links chains so v sh l item inside).is

    chain_by : IsChain mores f with_by
    chain_by = record {
      linked = linked-with links set_by out.between mores front item by back out.link once by_apart before behind
          (got_set links by out.link by_fits) (λ x d. got_other links by x out.link d) ahead_is rear_is (linked_split links chains so v sh l item inside);
      first = out.first ∙ ap (λ o. pick o (Some by) e.first) before ∙ ap (pick (last_or None front) (Some by)) first_was ∙ first_with front item by back;
      last = out.last ∙ ap (λ o. pick o (Some by) e.last) behind ∙ ap (pick (first_or back None) (Some by)) last_was ∙ last_with front item by back;
      once = once_by;
    }

    some_first : (ys zs : List ℕ) → (x : ℕ) × (first_or (ys ++ by ∷ zs) None ≡ Some x)
    some_first [] zs = (by, refl)
    some_first (y ∷ ys) zs = (y, refl)

    pub first_some : (x : ℕ) × (f.first ≡ Some x)
    first_some = let s = some_first front back in (s.0, chain_by.first ∙ s.1)

    pub not_blank : {P : Type 0} → f.first ≡ None → P
    not_blank none = absurd (none_some first_some.0 (sym none ∙ first_some.1))

    module _ (ends' : map.FinMap nat_cmp Ends) (put : (x : ℕ) → f.first ≡ Some x → ends' ≡ map.insert ends l f) where
      map_is : ends' ≡ map.insert ends l f
      map_is = put first_some.0 first_some.1

      here : ends_at ends' l ≡ f
      here = ap (λ m. ends_at m l) map_is ∙ held_here ends l f

      other : (c : ℕ) → c ≢ l → ends_at ends' c ≡ chains c
      other c d = ap (λ m. ends_at m c) map_is ∙ held_other ends l f c d

      chain_here : IsChain mores (ends_at ends' l) with_by
      chain_here = rw here chain_by

      pub kept_replaced : IsKept mores ends'
      kept_replaced =
          let len = len_replaced in
          record {
            sound = sound_changed links mores chains (ends_at ends') so l with_by frame chain_here alone_by other;
            filled = λ c g at. filled_held ends l f k.filled first_some.0 first_some.1 c g (ap (λ m. map.get m c) (sym map_is) ∙ at);
            few = let n = k.few in omega arith;
          }

      exchanged_is : exchanged item by (list_of v l) ≡ with_by
      exchanged_is =
          ap (exchanged item by) (whole links chains so v sh l ∙ (split links chains so v sh l item inside).is)
          ∙ exchanged_split item by front back (let o = once item in omega arith)

      pub lists_replaced : lists_in mores ends' ≡ with_list v l (exchanged item by (list_of v l))
      lists_replaced = view_changed links mores chains (ends_at ends') v (lists_in mores ends') sh (shown mores ends' kept_replaced (lists_in mores ends') refl) len_replaced l
          (list_other links mores chains (ends_at ends') so l with_by frame chain_here alone_by other) (exchanged item by (list_of v l))
          (list_here links mores chains (ends_at ends') so l with_by frame chain_here alone_by other ∙ sym exchanged_is)

-- ---- among the marked ones too

module _ (links marks : List Link) (ends : EndsMapView) (k : IsMarked links marks ends) (v : MarkedView) (is : record { all = lists_in links ends.all; marked = lists_in marks ends.marked } ≡ v)
    (l item by : ℕ) (room : by < v.all.items) (inside : Contains (list_of v.all l) item) (apart : IsApart v.all by) where
  within : (q x : ℕ) → Contains (list_of v.marked q) x → Contains (list_of v.all q) x
  within = marked_within links marks ends k v is

  pub mark_apart : IsApart v.marked by
  mark_apart q c = apart q (within q by c)

  pub mark_room : by < v.marked.items
  mark_room = let e = items_same links marks ends k v is in omega arith

  abbrev ys : List ℕ
  ys = list_of v.all l

  abbrev a : ListsView
  a = with_list v.all l (exchanged item by ys)

  stays : (q x : ℕ) → Contains (list_of v.all q) x → x ≢ item → Contains (list_of a q) x
  stays q x c d = elim (equal_or_not q l) [
    | inl e ↦
        let c' : Contains ys x = rw e at c in
        let t = exchanged_in item by x ys (times_from_Contains x ys c') in
        rw (e, list_same v.all l (exchanged item by ys)) (Contains_from_times x (exchanged item by ys) (rw (eqb_other x item d) at t))
    | inr n ↦ rw (other_same v.all l (exchanged item by ys) q n) c
  ]

  abbrev ms : List ℕ
  ms = list_of v.marked l

  abbrev b : ListsView
  b = with_list v.marked l (exchanged item by ms)

  both_stay : (q x : ℕ) → Contains (list_of b q) x → Contains (list_of a q) x
  both_stay q x c = elim (equal_or_not q l) [
    | inl e ↦
        let c' : Contains (exchanged item by ms) x = rw (e, list_same v.marked l (exchanged item by ms)) at c in
        let from = exchanged_from item by x ms (times_from_Contains x (exchanged item by ms) c') in
        let more = within l from.0 (Contains_from_times from.0 ms from.1) in
        let t = exchanged_in item by from.0 ys (times_from_Contains from.0 ys more) in
        rw (e, list_same v.all l (exchanged item by ys)) (Contains_from_times x (exchanged item by ys) (rw (← from.2) at t))
    | inr n ↦
        let c' : Contains (list_of v.marked q) x = rw (other_same v.marked l (exchanged item by ms) q n) at c in
        rw (other_same v.all l (exchanged item by ys) q n) (within q x c')
  ]

  as_in : (x y : ListsView) → x ≡ y → (q z : ℕ) → Contains (list_of x q) z → Contains (list_of y q) z
  as_in x y e q z c = subst (λ w. Contains (list_of w q) z) e c

  module _ (links' : List Link) (ends' : EndsMapView) (kept : IsKept links' ends'.all) (len : length links' ≡ length links)
      (total : map.len ends'.all + ends'.room ≡ map.len ends.all + ends.room) (lists : lists_in links' ends'.all ≡ a) where
    enough_still : length links' ≤ map.len ends'.all + ends'.room
    enough_still = let e = k.enough in omega arith

    pub all_replaced : IsApart v.marked item → ends'.marked ≡ ends.marked → IsMarked links' marks ends'
    all_replaced unmarked same = record {
      all = kept;
      marked = rw same k.marked;
      long = let e = k.long in omega arith;
      within = λ q x c.
          let m = as_in (lists_in marks ends'.marked) v.marked (ap (lists_in marks) same ∙ marked_is links marks ends k v is) q x c in
          as_in a (lists_in links' ends'.all) (sym lists) q x (stays q x (within q x m) (λ e. unmarked q (rw e at m)));
      enough = enough_still;
    }

    pub all_told : ends'.marked ≡ ends.marked → ◌≡◌ {A = MarkedView} (record { all = lists_in links' ends'.all; marked = lists_in marks ends'.marked }) (record { all = a; marked = v.marked })
    all_told same = grind (arith, marked_is)

    module _ (marks' : List Link) (kept' : IsKept marks' ends'.marked) (len' : length marks' ≡ length marks) (lists' : lists_in marks' ends'.marked ≡ b) where
      pub both_replaced : IsMarked links' marks' ends'
      both_replaced = record {
        all = kept;
        marked = kept';
        long = let e = k.long in omega arith;
        within = λ q x c. as_in a (lists_in links' ends'.all) (sym lists) q x (both_stay q x (as_in (lists_in marks' ends'.marked) b lists' q x c));
        enough = enough_still;
      }

      pub both_told : ◌≡◌ {A = MarkedView} (record { all = lists_in links' ends'.all; marked = lists_in marks' ends'.marked }) (record { all = a; marked = b })
      both_told = grind arith
