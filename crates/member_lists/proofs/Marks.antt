-- Lists of items of which some are marked, once the items or the marked ones of a list are others.
use Rattle.std.proofs.Common.{◌≡◌, ◌≢◌, inl, inr, ℕ, not, eqb, ◌+◌, ◌<◌, ◌≤◌, ◌^◌, ◌++◌, ◌∷◌, [], List, Option, Some, None, length, max, true, slice_get, refl, sym, subst, ◌∙◌, ap, arith, Contains}
use Rattle.std.specs.Prelude.{unwrap_or}
use Rattle.std.specs.FinMap as map
use Rattle.std.proofs.lemmas.List.Elements.{Contains-append_left, Contains-push_cases}
use Rattle.member_lists.specs.declared.Link.{Link}
use Rattle.member_lists.specs.declared.Ends.{Ends}
use Rattle.member_lists.specs.Lists.{ListsView, MarkedView, list_of, with_list, without, with_room, IsApart}
use Rattle.std.specs.Option.{option_map}
use Rattle.member_lists.specs.Chains.{times, IsKept, IsUnlinked, items_from, ends_at, blank_ends}
use Rattle.member_lists.specs.Ended.{EndsMapView, lists_in, IsMarked, IsLengthened, IsPassed}
use Rattle.member_lists.proofs.Times.{equal_or_not, times_from_Contains, Contains_from_times, times-filter_in, times-filter_most, eqb_other, none_some, first_within, first_got}
use Rattle.member_lists.proofs.Values.{get-with_values}
use Rattle.member_lists.proofs.Held.{kept_none}
use Rattle.member_lists.proofs.Sound.{shown, whole, out_here}
use Rattle.member_lists.proofs.Kept.{leaves_in_range, leaves_ends_held, lists_left, grown, lists_more, lists_none}
use Rattle.member_lists.proofs.Listed.{list_same, list_other, list_none, items_same as items_same_list}

-- ---- what stands in a list

left_in : (x item : ℕ) (ys : List ℕ) → Contains (without item ys) x → Contains ys x
left_in x item ys c =
    let a = times_from_Contains x (without item ys) c in
    let b = times-filter_most (λ y. not (eqb y item)) x ys in
    Contains_from_times x ys (omega arith)

left_other : (x item : ℕ) (ys : List ℕ) → x ≢ item → Contains ys x → Contains (without item ys) x
left_other x item ys d c =
    let a = times_from_Contains x ys c in
    let b = times-filter_in (λ y. not (eqb y item)) x ys (ap not (eqb_other x item d)) in
    Contains_from_times x (without item ys) (omega arith)

as_in : (a b : ListsView) → a ≡ b → (q x : ℕ) → Contains (list_of a q) x → Contains (list_of b q) x
as_in a b is q x c = subst (λ w. Contains (list_of w q) x) is c

first_inside : (xs : List ℕ) (x : ℕ) → slice_get xs 0 ≡ Some x → Contains xs x
first_inside xs x at = Contains_from_times x xs (first_within xs x (first_got xs ∙ at))

module _ (v : ListsView) (l item : ℕ) where
  pub stays_pushed : (q x : ℕ) → Contains (list_of v q) x → Contains (list_of (with_list v l (list_of v l ++ item ∷ [])) q) x
  stays_pushed q x c = elim (equal_or_not q l) [
    | inl e ↦ rw (e, list_same v l (list_of v l ++ item ∷ [])) (Contains-append_left (list_of v l) (item ∷ []) x (rw e at c))
    | inr n ↦ rw (list_other v l (list_of v l ++ item ∷ []) q n) c
  ]

  pub stays_left : (q x : ℕ) → x ≢ item → Contains (list_of v q) x → Contains (list_of (with_list v l (without item (list_of v l))) q) x
  stays_left q x d c = elim (equal_or_not q l) [
    | inl e ↦ rw (e, list_same v l (without item (list_of v l))) (left_other x item (list_of v l) d (rw e at c))
    | inr n ↦ rw (list_other v l (without item (list_of v l)) q n) c
  ]

  pub was_left : (q x : ℕ) → Contains (list_of (with_list v l (without item (list_of v l))) q) x → Contains (list_of v q) x
  was_left q x c = elim (equal_or_not q l) [
    | inl e ↦ rw e (left_in x item (list_of v l) (rw (e, list_same v l (without item (list_of v l))) at c))
    | inr n ↦ rw (list_other v l (without item (list_of v l)) q n) at c
  ]

  pub was_pushed : (q x : ℕ) (P : ℕ → ℕ → Type 0) → ((p y : ℕ) → Contains (list_of v p) y → P p y) → P l item → Contains (list_of (with_list v l (list_of v l ++ item ∷ [])) q) x → P q x
  was_pushed q x P was here c = elim (equal_or_not q l) [
    | inl e ↦ elim (Contains-push_cases (list_of v l) item x (rw (e, list_same v l (list_of v l ++ item ∷ [])) at c)) [ inl old ↦ was q x (rw e old) | inr same ↦ rw (e, ← same) here ]
    | inr n ↦ was q x (rw (list_other v l (list_of v l ++ item ∷ []) q n) at c)
  ]

module _ (links marks : List Link) (ends : EndsMapView) (k : IsMarked links marks ends) (v : MarkedView) (is : record { all = lists_in links ends.all; marked = lists_in marks ends.marked } ≡ v) where
  pub all_is : lists_in links ends.all ≡ v.all
  all_is = ap (λ (w : MarkedView). w.all) is

  pub marked_is : lists_in marks ends.marked ≡ v.marked
  marked_is = ap (λ (w : MarkedView). w.marked) is

  pub marked_within : (list x : ℕ) → Contains (list_of v.marked list) x → Contains (list_of v.all list) x
  marked_within list x c =
      as_in (lists_in links ends.all) v.all all_is list x (k.within list x (as_in v.marked (lists_in marks ends.marked) (sym marked_is) list x c))

  pub items_same : v.marked.items ≡ v.all.items
  items_same = let a = ap (λ (w : ListsView). w.items) all_is in let b = ap (λ (w : ListsView). w.items) marked_is in let c = k.long in omega arith

  -- a list with items stands in the map of all
  pub all_held : (l x : ℕ) → Contains (list_of v.all l) x → map.contains_key ends.all l ≡ true
  all_held l x inside = leaves_ends_held links ends.all k.all v.all all_is l x inside

  -- and so does one that isn't empty
  pub some_held : (l : ℕ) → list_of v.all l ≢ [] → map.contains_key ends.all l ≡ true
  some_held l some = by (list_of v.all l) refl
    where
      by : (xs : List ℕ) → list_of v.all l ≡ xs → map.contains_key ends.all l ≡ true
      by [] is = absurd (some is)
      by (x ∷ xs) is = all_held l x (first_inside (list_of v.all l) x (ap (λ ys. slice_get ys 0) is))

  pub mark_apart_in : (item : ℕ) → IsApart v.marked item → IsApart (lists_in marks ends.marked) item
  mark_apart_in item apart = subst (λ w. IsApart w item) (sym marked_is) apart

  pub mark_inside_in : (l item : ℕ) → Contains (list_of v.marked l) item → Contains (list_of (lists_in marks ends.marked) l) item
  mark_inside_in l item c = as_in v.marked (lists_in marks ends.marked) (sym marked_is) l item c

  module _ (l item : ℕ) (inside : Contains (list_of v.all l) item) where
    all_range : item < length links
    all_range = leaves_in_range links ends.all k.all v.all all_is l item inside

    pub mark_in_range : item < length marks
    mark_in_range = let a = all_range in let b = k.long in omega arith

    pub mark_few : item + 1 < 2 ^ 32
    mark_few = let a = all_range in let b = k.all.few in omega arith

    pub mark_fits : item < v.marked.items
    mark_fits = let a = mark_in_range in let b = ap (λ (w : ListsView). w.items) marked_is in omega arith

  -- a list whose last item leaves, which isn't marked, has no marked one
  module _ (l item : ℕ) (inside : Contains (list_of v.all l) item) (unmarked : IsApart v.marked item) (e : Ends) (e_is : e ≡ ends_at ends.all l) (mores : List Link) (f : Ends)
      (out : IsUnlinked links mores item e f) (none : f.first ≡ None) where
    nothing : list_of (with_list v.all l (without item (list_of v.all l))) l ≡ []
    nothing =
        ap (λ (w : ListsView). list_of w l) (sym (lists_left links ends.all k.all v.all all_is l item inside e e_is mores f out (map.remove ends.all l) (λ _. refl) (λ x some. absurd (none_some x (sym none ∙ some)))))
        ∙ ap (λ o. unwrap_or o []) (get-with_values (items_from mores) (map.remove ends.all l) l ∙ ap (option_map (items_from mores)) (out_here ends.all l))

    pub none_marked : map.get ends.marked l ≡ None
    none_marked = by (map.get ends.marked l) refl
      where
        by : (o : Option Ends) → map.get ends.marked l ≡ o → map.get ends.marked l ≡ None
        by None at = at
        by (Some g) at =
            let some = k.marked.filled l g at in
            let sh = shown marks ends.marked k.marked v.marked marked_is in
            let chain = (k.marked.sound.chain l).first in
            let here : 0 < times some.0 (k.marked.sound.chained l) = first_within (k.marked.sound.chained l) some.0 (sym chain ∙ ap (λ (o : Option Ends). (unwrap_or o blank_ends).first) at ∙ some.1) in
            let mark : Contains (list_of v.marked l) some.0 = Contains_from_times some.0 (list_of v.marked l) (rw (whole marks (ends_at ends.marked) k.marked.sound v.marked sh l) here) in
            let other : some.0 ≢ item = (λ same. unmarked l (rw same at mark)) in
            let still = stays_left v.all l item l some.0 other (marked_within l some.0 mark) in
            let gone : Contains [] some.0 = rw nothing at still in
            absurd (let less : gone.0 < 0 = gone.1 in omega arith)

  -- ---- others in a list

  module _ (mores : List Link) (ends' : EndsMapView) (kept : IsKept mores ends'.all) (same : ends'.marked ≡ ends.marked) (len : length mores ≡ length links)
      (total : map.len ends'.all + ends'.room ≡ map.len ends.all + ends.room) (a : ListsView) (lists : lists_in mores ends'.all ≡ a)
      (still : (list x : ℕ) → Contains (list_of v.marked list) x → Contains (list_of v.all list) x → Contains (list_of a list) x) where
    pub all_kept : IsMarked mores marks ends'
    all_kept = record {
      all = kept;
      marked = rw same k.marked;
      long = let l = k.long in omega arith;
      within = λ list x c.
          let m = as_in (lists_in marks ends'.marked) v.marked (ap (lists_in marks) same ∙ marked_is) list x c in
          as_in a (lists_in mores ends'.all) (sym lists) list x (still list x m (marked_within list x m));
      enough = let e = k.enough in omega arith;
    }

    pub all_shown : record { all = lists_in mores ends'.all; marked = lists_in marks ends'.marked } ≡ record v { all = a }
    all_shown = grind (arith, marked_is)

  -- ---- others marked

  module _ (mores : List Link) (ends' : EndsMapView) (kept : IsKept mores ends'.marked) (same : ends'.all ≡ ends.all) (room : ends'.room ≡ ends.room) (len : length mores ≡ length marks) (b : ListsView)
      (lists : lists_in mores ends'.marked ≡ b) (still : (list x : ℕ) → Contains (list_of b list) x → Contains (list_of v.all list) x) where
    pub marks_kept : IsMarked links mores ends'
    marks_kept = record {
      all = rw same k.all;
      marked = kept;
      long = let l = k.long in omega arith;
      within = λ list x c. as_in v.all (lists_in links ends'.all) (sym (ap (lists_in links) same ∙ all_is)) list x (still list x (as_in (lists_in mores ends'.marked) b lists list x c));
      enough = rw (same, room) k.enough;
    }

    pub marks_shown : record { all = lists_in links ends'.all; marked = lists_in mores ends'.marked } ≡ record v { marked = b }
    marks_shown = grind (arith, all_is)

  -- the marked items of a list are others
  module _ (mores : List Link) (ends' : EndsMapView) (kept : IsKept mores ends'.marked) (rest : ends' ≡ record ends { marked = ends'.marked }) (l : ℕ) where
    all_stays : ends'.all ≡ ends.all
    all_stays = ap (λ (e : EndsMapView). e.all) rest

    room_stays : ends'.room ≡ ends.room
    room_stays = ap (λ (e : EndsMapView). e.room) rest

    long_stays : (ys : List ℕ) → lists_in mores ends'.marked ≡ with_list (lists_in marks ends.marked) l ys → length mores ≡ length marks
    long_stays ys is = ap (λ (w : ListsView). w.items) is ∙ items_same_list (lists_in marks ends.marked) l ys

    module _ (change : List ℕ → List ℕ) (lists : lists_in mores ends'.marked ≡ with_list (lists_in marks ends.marked) l (change (list_of (lists_in marks ends.marked) l)))
        (still : (list x : ℕ) → Contains (list_of (with_list v.marked l (change (list_of v.marked l))) list) x → Contains (list_of v.all list) x) where
      changed_is : lists_in mores ends'.marked ≡ with_list v.marked l (change (list_of v.marked l))
      changed_is = lists ∙ ap (λ w. with_list w l (change (list_of w l))) marked_is

      pub changed_kept : IsMarked links mores ends'
      changed_kept = marks_kept mores ends' kept all_stays room_stays (long_stays (change (list_of (lists_in marks ends.marked) l)) lists) (with_list v.marked l (change (list_of v.marked l))) changed_is still

      pub changed_shown : record { all = lists_in links ends'.all; marked = lists_in mores ends'.marked } ≡ record v { marked = with_list v.marked l (change (list_of v.marked l)) }
      changed_shown = marks_shown mores ends' kept all_stays room_stays (long_stays (change (list_of (lists_in marks ends.marked) l)) lists) (with_list v.marked l (change (list_of v.marked l))) changed_is still

    -- the first one stands behind the others
    module _ (passed : IsPassed marks mores ends.marked ends'.marked l) where
      same_first : slice_get (list_of (lists_in marks ends.marked) l) 0 ≡ slice_get (list_of v.marked l) 0
      same_first = ap (λ (w : ListsView). slice_get (list_of w l) 0) marked_is

      still_passed : (item : ℕ) → slice_get (list_of v.marked l) 0 ≡ Some item → (list x : ℕ) → Contains (list_of (with_list v.marked l (without item (list_of v.marked l) ++ item ∷ [])) list) x → Contains (list_of v.all list) x
      still_passed item at list x c = elim (equal_or_not list l) [
        | inl e ↦ elim (Contains-push_cases (without item (list_of v.marked l)) item x (rw (e, list_same v.marked l (without item (list_of v.marked l) ++ item ∷ [])) at c)) [
          | inl old ↦ rw e (marked_within l x (left_in x item (list_of v.marked l) old))
          | inr same ↦ rw (e, ← same) (marked_within l item (first_inside (list_of v.marked l) item at))
        ]
        | inr n ↦ marked_within list x (rw (list_other v.marked l (without item (list_of v.marked l) ++ item ∷ []) list n) at c)
      ]

      pub passed_none_shown : slice_get (list_of v.marked l) 0 ≡ None → record { all = lists_in links ends'.all; marked = lists_in mores ends'.marked } ≡ v
      passed_none_shown none =
          let lists : lists_in mores ends'.marked ≡ v.marked = passed.none (same_first ∙ none) ∙ marked_is in
          marks_shown mores ends' kept all_stays room_stays (ap (λ (w : ListsView). w.items) (passed.none (same_first ∙ none))) v.marked lists marked_within

      pub passed_some_shown : (item : ℕ) → slice_get (list_of v.marked l) 0 ≡ Some item → record { all = lists_in links ends'.all; marked = lists_in mores ends'.marked } ≡ record v { marked = with_list v.marked l (without item (list_of v.marked l) ++ item ∷ []) }
      passed_some_shown item at = changed_shown (λ xs. without item xs ++ item ∷ []) (passed.some item (same_first ∙ at)) (still_passed item at)

      pub passed_kept : IsMarked links mores ends'
      passed_kept = by (slice_get (list_of v.marked l) 0) refl
        where
          by : (o : Option ℕ) → slice_get (list_of v.marked l) 0 ≡ o → IsMarked links mores ends'
          by None at =
              let lists : lists_in mores ends'.marked ≡ v.marked = passed.none (same_first ∙ at) ∙ marked_is in
              marks_kept mores ends' kept all_stays room_stays (ap (λ (w : ListsView). w.items) (passed.none (same_first ∙ at))) v.marked lists marked_within
          by (Some item) at = changed_kept (λ xs. without item xs ++ item ∷ []) (passed.some item (same_first ∙ at)) (still_passed item at)

  -- ---- room for more lists, and for more items

  pub kept_roomier : (lists : ℕ) (links' marks' : List Link) (ends' : EndsMapView) → links' ≡ links → marks' ≡ marks → ends' ≡ record ends { room = max ends.room lists } → IsMarked links' marks' ends'
  kept_roomier lists links' marks' ends' a b e =
      subst (λ l. IsMarked l marks' ends') (sym a) (subst (λ m. IsMarked links m ends') (sym b) (subst (λ n. IsMarked links marks n) (sym e) (record {
        all = k.all;
        marked = k.marked;
        long = k.long;
        within = k.within;
        enough = let h = k.enough in omega arith;
      })))

  module _ (items : ℕ) (links' marks' : List Link) (ends' : EndsMapView) (longer : IsLengthened links links' items) (longer' : IsLengthened marks marks' items) (few : items < 2 ^ 32) (more : length links ≤ items)
      (all_same : ends'.all ≡ ends.all) (marked_same : ends'.marked ≡ ends.marked) (room : items ≤ ends'.room) where
    more_marks : length marks ≤ items
    more_marks = let l = k.long in omega arith

    pub kept_longer : IsMarked links' marks' ends'
    kept_longer = record {
      all = grown links ends.all k.all v.all all_is links' ends'.all items all_same longer.len few more longer.first;
      marked = grown marks ends.marked k.marked v.marked marked_is marks' ends'.marked items marked_same longer'.len few more_marks longer'.first;
      long = longer'.len ∙ sym longer.len;
      within = λ list x c.
          let a = lists_more links ends.all k.all v.all all_is links' ends'.all items all_same longer.len few more longer.first in
          let b = lists_more marks ends.marked k.marked v.marked marked_is marks' ends'.marked items marked_same longer'.len few more_marks longer'.first in
          let m = as_in (lists_in marks' ends'.marked) (record v.marked { items = max v.marked.items items }) b list x c in
          as_in (record v.all { items = max v.all.items items }) (lists_in links' ends'.all) (sym a) list x (marked_within list x m);
      enough = let l = longer.len in omega arith;
    }

    pub shown_longer : record { all = lists_in links' ends'.all; marked = lists_in marks' ends'.marked } ≡ with_room v items
    shown_longer = grind (arith, lists_more, all_is, max, marked_is, more_marks)

-- ---- no lists yet

module _ (links marks : List Link) (ends : EndsMapView) (a : links ≡ []) (b : marks ≡ []) (none : ends ≡ record { all = map.empty; marked = map.empty; room = 0 }) where
  all_empty : ends.all ≡ map.empty
  all_empty = ap (λ (e : EndsMapView). e.all) none

  marked_empty : ends.marked ≡ map.empty
  marked_empty = ap (λ (e : EndsMapView). e.marked) none

  pub marked_none : IsMarked links marks ends
  marked_none = record {
    all = kept_none links ends.all a all_empty;
    marked = kept_none marks ends.marked b marked_empty;
    long = ap (λ (ks : List Link). length ks) (b ∙ sym a);
    within = λ list x c.
        let here : Contains (list_of (record { lists = map.empty; items = 0 }) list) x = as_in (lists_in marks ends.marked) (record { lists = map.empty; items = 0 }) (lists_none marks ends.marked b marked_empty) list x c in
        let gone : Contains [] x = subst (λ xs. Contains xs x) (list_none 0 list) here in
        absurd (let less : gone.0 < 0 = gone.1 in omega arith);
    enough = let n : length links ≡ 0 = ap (λ (ks : List Link). length ks) a in omega arith;
  }

  pub view_none : ◌≡◌ {A = MarkedView} (record { all = lists_in links ends.all; marked = lists_in marks ends.marked }) (record { all = record { lists = map.empty; items = 0 }; marked = record { lists = map.empty; items = 0 } })
  view_none = grind (arith, lists_none, all_empty, marked_empty)
