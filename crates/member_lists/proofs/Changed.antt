-- Lists once an item joined one, or left it.
use Rattle.std.proofs.Common.{◌≡◌, ◌≢◌, inl, inr, ℕ, zero, suc, ◌+◌, ◌<◌, ◌≤◌, true, false, cond, eqb, List, [], ◌∷◌, ◌++◌, length, Option, Some, None, IfSome, IfNone, slice_get, slice_set, refl, sym, ◌∙◌, ap, subst, arith, ltb, get_or, take, Contains}
use Rattle.std.specs.List.{filter}
use Rattle.std.specs.Option.{option_or}
use Rattle.std.proofs.lemmas.List.{length-set, take_all}
use Rattle.std.proofs.lemmas.Option.{slice_get_read}
use Rattle.std.proofs.lemmas.Bool.Decides.{nat_tests}
use Rattle.member_lists.specs.declared.Link.{Link}
use Rattle.member_lists.specs.declared.Ends.{Ends}
use Rattle.member_lists.specs.Lists.{ListsView, list_of, with_list, without, IsApart}
use Rattle.member_lists.specs.Chains.{times, first_or, last_or, pick, blank_ends, items_from, IsBehindSet, IsBeforeSet, IsBetween, IsLinked, IsChain, IsSound}
use Rattle.member_lists.proofs.Times.{same_some, none_some, equal_or_not, eqb_same, eqb_other, times_here, times_other, times_more, first_got, times-append, times_from_Contains, Contains_from_times, IsSplit, split_at, got_set, got_other, last-append, last_within, first_within}
use Rattle.member_lists.proofs.Linked.{linked-frame, linked-back, linked-pushed, linked-left, first_without, last_without, IsRest, rest_at}
use Rattle.member_lists.proofs.Sound.{IsShown, in_range, walked, whole, view_changed, some_if, same_gets}

-- ---- one chain has other items

module _ (links mores : List Link) (chains ends : ℕ → Ends) (so : IsSound links chains) (b : ℕ) (ys : List ℕ)
    (frame : (c x : ℕ) → c ≢ b → 0 < times x (so.chained c) → slice_get mores x ≡ slice_get links x)
    (here : IsChain mores (ends b) ys)
    (alone : (c x : ℕ) → c ≢ b → 0 < times x ys → 0 < times x (so.chained c) → ⊥)
    (elsewhere : (c : ℕ) → c ≢ b → ends c ≡ chains c) where
  abbrev chained' : ℕ → List ℕ
  chained' c = cond (eqb c b) ys (so.chained c)

  same_here : (c : ℕ) → c ≡ b → chained' c ≡ ys
  same_here c e = ap (λ t. cond t ys (so.chained c)) (eqb_same c b e)

  same_other : (c : ℕ) → c ≢ b → chained' c ≡ so.chained c
  same_other c d = ap (λ t. cond t ys (so.chained c)) (eqb_other c b d)

  chain_other : (c : ℕ) → c ≢ b → IsChain mores (ends c) (so.chained c)
  chain_other c d = grind (arith, linked-frame)

  apart_changed : (c d x : ℕ) → 0 < times x (chained' c) → 0 < times x (chained' d) → c ≡ d
  apart_changed c d x g h = grind (arith, equal_or_not, same_here, same_other)

  pub sound_changed : IsSound mores ends
  sound_changed = record {
    chained = chained';
    chain = λ c. elim (equal_or_not c b) [
      | inl e ↦ rw (same_here c e, e) here
      | inr d ↦ rw (same_other c d) (chain_other c d)
    ];
    apart = apart_changed;
  }

  pub list_other : (q : ℕ) → q ≢ b → items_from mores (ends q) ≡ items_from links (chains q)
  unfolding sound_changed
  list_other q d = walked mores ends sound_changed q ∙ same_other q d ∙ sym (walked links chains so q)

  pub list_here : items_from mores (ends b) ≡ ys
  unfolding sound_changed
  list_here = walked mores ends sound_changed b ∙ same_here b refl

-- ---- an item joins

first_some : (xs : List ℕ) (item : ℕ) → (x : ℕ) × (first_or (xs ++ item ∷ []) None ≡ Some x)
first_some [] item = (item, refl)
first_some (x ∷ xs) item = (x, refl)

option_or_first : (xs : List ℕ) (item : ℕ) → option_or (first_or xs None) (Some item) ≡ first_or (xs ++ item ∷ []) None
option_or_first [] item = refl
option_or_first (x ∷ xs) item = refl

module _ (links mores : List Link) (chains : ℕ → Ends) (so : IsSound links chains) (v : ListsView) (sh : IsShown links chains v)
    (l item : ℕ) (room : item < v.items) (apart : IsApart v item) (e : Ends) (e_is : e ≡ chains l) where
  item_fits : item < length links
  item_fits = let e = sh.items in omega arith

  pub alone_at : (c : ℕ) → times item (so.chained c) ≡ 0
  alone_at c = none (times item (so.chained c)) refl
    where
      none : (n : ℕ) → times item (so.chained c) ≡ n → times item (so.chained c) ≡ 0
      none zero h = h
      none (suc n) h =
          let all : times item (list_of v c) ≡ times item (so.chained c) = ap (times item) (whole links chains so v sh c) in
          absurd (apart c (Contains_from_times item (list_of v c) (omega arith)))

  pub last_fits : (x : ℕ) → e.last ≡ Some x → x < length links
  last_fits x h =
      let last : last_or None (so.chained l) ≡ Some x = sym ((so.chain l).last) ∙ sym (ap (λ (f : Ends). f.last) e_is) ∙ h in
      in_range links chains so l x (last_within (so.chained l) x last)

  abbrev mine : Link
  mine = record { before = e.last; behind = None }

  module _ (ahead : IsBehindSet (slice_set links item mine) mores e.last (Some item)) where
    abbrev xs : List ℕ
    xs = so.chained l

    last_is : e.last ≡ last_or None xs
    last_is = ap (λ (f : Ends). f.last) e_is ∙ (so.chain l).last

    not_item : (c x : ℕ) → 0 < times x (so.chained c) → x ≢ item
    not_item c x h s = let none = alone_at c in let e : times x (so.chained c) ≡ times item (so.chained c) = ap (λ y. times y (so.chained c)) s in omega arith

    pub len_more : length mores ≡ length links
    len_more = ahead.len ∙ length-set links item mine

    first_set : slice_get (slice_set links item mine) item ≡ Some mine
    first_set = got_set links item mine item_fits

    item_there : slice_get mores item ≡ Some mine
    item_there = ahead.others item (λ s. let inside = last_within xs item (sym last_is ∙ s) in let none = alone_at l in omega arith) ∙ first_set

    was_there : (c x : ℕ) → 0 < times x (so.chained c) → slice_get (slice_set links item mine) x ≡ slice_get links x
    was_there c x h = got_other links item x mine (not_item c x h)

    frame : (c x : ℕ) → c ≢ l → 0 < times x (so.chained c) → slice_get mores x ≡ slice_get links x
    frame c x d h = ahead.others x (λ s. d (so.apart c l x h (last_within xs x (sym last_is ∙ s)))) ∙ was_there c x h

    alone_more : (c x : ℕ) → c ≢ l → 0 < times x (xs ++ item ∷ []) → 0 < times x (so.chained c) → ⊥
    alone_more c x d h g = grind (arith, not_item, times_other, times-append)

    joined : (f : Ends) → f.first ≡ option_or e.first (Some item) → f.last ≡ Some item → IsChain mores f (xs ++ item ∷ [])
    joined f first last = record {
      linked = linked-pushed links mores xs item mine ((so.chain l).once) (alone_at l) item_there last_is refl
          (λ x k h s g. ahead.set x k (last_is ∙ s) (was_there l x h ∙ g))
          (λ x h d. ahead.others x (λ s. d (sym last_is ∙ s)) ∙ was_there l x h)
          ((so.chain l).linked);
      first = first ∙ ap (λ o. option_or o (Some item)) (ap (λ (g : Ends). g.first) e_is ∙ (so.chain l).first) ∙ option_or_first xs item;
      last = last ∙ sym (last-append None xs (item ∷ []));
      once = λ x. elim (equal_or_not x item) [
        | inl s ↦ let a = times-append x xs (item ∷ []) in let n = times_here x item [] s in let none : times x xs ≡ 0 = ap (λ y. times y xs) s ∙ alone_at l in omega arith
        | inr d ↦ let a = times-append x xs (item ∷ []) in let n = times_other x item [] d in let o = (so.chain l).once x in omega arith
      ];
    }

    module _ (f : Ends) (first : f.first ≡ option_or e.first (Some item)) (last : f.last ≡ Some item)
        (after : ℕ → Ends) (after_here : after l ≡ f) (after_other : (c : ℕ) → c ≢ l → after c ≡ chains c) where
      here : IsChain mores (after l) (xs ++ item ∷ [])
      here = rw after_here (joined f first last)

      pub sound_pushed : IsSound mores after
      sound_pushed = sound_changed links mores chains after so l (xs ++ item ∷ []) frame here alone_more after_other

      pub view_pushed : (w : ListsView) → IsShown mores after w → w ≡ with_list v l (list_of v l ++ item ∷ [])
      view_pushed w sh' = view_changed links mores chains after v w sh sh' len_more l
          (list_other links mores chains after so l (xs ++ item ∷ []) frame here alone_more after_other) (list_of v l ++ item ∷ [])
          (list_here links mores chains after so l (xs ++ item ∷ []) frame here alone_more after_other ∙ ap (λ ys. ys ++ item ∷ []) (sym (whole links chains so v sh l)))

-- ---- an item leaves

module _ (links : List Link) (chains : ℕ → Ends) (so : IsSound links chains) (v : ListsView) (sh : IsShown links chains v)
    (l item : ℕ) (inside : Contains (list_of v l) item) where
  abbrev held : List ℕ
  held = so.chained l

  pub stands : times item held ≡ 1
  stands =
      let a = times_from_Contains item (list_of v l) inside in
      let b : times item (list_of v l) ≡ times item held = ap (times item) (whole links chains so v sh l) in
      let c = (so.chain l).once item in omega arith

  pub item_in_range : item < length links
  item_in_range = let a = stands in in_range links chains so l item (omega arith)

  pub item_stands : 0 < times item (so.chained l)
  item_stands = let a = stands in omega arith

  pub split : IsSplit item held
  split = split_at item held stands

  abbrev front : List ℕ
  front = split.front

  abbrev back : List ℕ
  back = split.back

  pub times_split : (x : ℕ) → times x held ≡ times x front + times x (item ∷ back)
  times_split x = ap (times x) split.is ∙ times-append x front (item ∷ back)

  times_left : (x : ℕ) → times x (front ++ back) ≤ times x held
  times_left x = let a = times_split x in let b = times-append x front back in let c = times_more x item back in omega arith

  pub linked_split : IsLinked links None (front ++ item ∷ back) None
  linked_split = subst (λ ys. IsLinked links None ys None) split.is ((so.chain l).linked)

  module _ (link : Link) (there : slice_get links item ≡ Some link) where
    abbrev between : IsBetween links item (last_or None front) (first_or back None)
    between = (linked-back links None front (item ∷ back) None linked_split).0

    link_is : between.link ≡ link
    link_is = same_some between.link link (sym between.there ∙ there)

    pub before_is : link.before ≡ last_or None front
    before_is = sym (ap (λ (k : Link). k.before) link_is) ∙ between.before_is

    pub behind_is : link.behind ≡ first_or back None
    behind_is = sym (ap (λ (k : Link). k.behind) link_is) ∙ between.behind_is

    pub before_held : (x : ℕ) → link.before ≡ Some x → 0 < times x held
    before_held x e = let a = last_within front x (sym before_is ∙ e) in let b = times_split x in omega arith

    pub behind_held : (x : ℕ) → link.behind ≡ Some x → 0 < times x held
    behind_held x e = let a = first_within back x (sym behind_is ∙ e) in let b = times_split x in let c = times_more x item back in omega arith

    pub before_fits : (x : ℕ) → link.before ≡ Some x → x < length links
    before_fits x e = in_range links chains so l x (before_held x e)

    pub behind_fits : (x : ℕ) → link.behind ≡ Some x → x < length links
    behind_fits x e = in_range links chains so l x (behind_held x e)

    module _ (mid mores : List Link) (ahead : IsBehindSet links mid link.before link.behind) (rear : IsBeforeSet mid mores link.behind link.before) where
      pub len_left : length mores ≡ length links
      len_left = rear.len ∙ ahead.len

      frame_left : (c x : ℕ) → c ≢ l → 0 < times x (so.chained c) → slice_get mores x ≡ slice_get links x
      frame_left c x d h = rear.others x (λ s. d (so.apart c l x h (behind_held x s))) ∙ ahead.others x (λ s. d (so.apart c l x h (before_held x s)))

      alone_left : (c x : ℕ) → c ≢ l → 0 < times x (front ++ back) → 0 < times x (so.chained c) → ⊥
      alone_left c x d h g = let most = times_left x in d (so.apart c l x g (omega arith))

      ahead_is : IsBehindSet links mid (last_or None front) (first_or back None)
      ahead_is = subst (λ o. IsBehindSet links mid o (first_or back None)) before_is (subst (λ o. IsBehindSet links mid link.before o) behind_is ahead)

      rear_is : IsBeforeSet mid mores (first_or back None) (last_or None front)
      rear_is = subst (λ o. IsBeforeSet mid mores o (last_or None front)) behind_is (subst (λ o. IsBeforeSet mid mores link.behind o) before_is rear)

      module _ (e : Ends) (e_is : e ≡ chains l) (f : Ends) (first : f.first ≡ pick link.before link.behind e.first) (last : f.last ≡ pick link.behind link.before e.last) where
        first_was : e.first ≡ first_or (front ++ item ∷ back) None
        first_was = ap (λ (g : Ends). g.first) e_is ∙ (so.chain l).first ∙ ap (λ ys. first_or ys None) split.is

        last_was : e.last ≡ last_or None (front ++ item ∷ back)
        last_was = ap (λ (g : Ends). g.last) e_is ∙ (so.chain l).last ∙ ap (λ ys. last_or None ys) split.is

        left_chain : IsChain mores f (front ++ back)
        left_chain = record {
          linked = linked-left links mid mores front item back (λ x. let a = times_split x in let b = times-append x front (item ∷ back) in let c = (so.chain l).once x in omega arith) ahead_is rear_is linked_split;
          first = first ∙ ap (λ o. pick o link.behind e.first) before_is ∙ ap (λ o. pick (last_or None front) o e.first) behind_is ∙ ap (pick (last_or None front) (first_or back None)) first_was ∙ first_without front item back;
          last = last ∙ ap (λ o. pick o link.before e.last) behind_is ∙ ap (λ o. pick (first_or back None) o e.last) before_is ∙ ap (pick (first_or back None) (last_or None front)) last_was ∙ last_without front item back;
          once = λ x. let a = times_left x in let b = (so.chain l).once x in omega arith;
        }

        -- an end of a list without items is none
        pub blank_left : f.first ≡ None → f ≡ blank_ends
        blank_left none = grind (arith, left_chain, none, none_some)

        module _ (left_ends : ℕ → Ends) (ends_here : left_ends l ≡ f) (ends_other : (c : ℕ) → c ≢ l → left_ends c ≡ chains c) where
          left_here : IsChain mores (left_ends l) (front ++ back)
          left_here = rw ends_here left_chain

          pub sound_left : IsSound mores left_ends
          sound_left = sound_changed links mores chains left_ends so l (front ++ back) frame_left left_here alone_left ends_other

          pub view_left : (w : ListsView) → IsShown mores left_ends w → w ≡ with_list v l (without item (list_of v l))
          view_left w sh' = view_changed links mores chains left_ends v w sh sh' len_left l
              (list_other links mores chains left_ends so l (front ++ back) frame_left left_here alone_left ends_other) (without item (list_of v l))
              (list_here links mores chains left_ends so l (front ++ back) frame_left left_here alone_left ends_other ∙ sym split.left ∙ ap (without item) (sym (whole links chains so v sh l)))

-- ---- room for more items

module _ (links mores : List Link) (chains ends : ℕ → Ends) (so : IsSound links chains)
    (same : (c : ℕ) → ends c ≡ chains c) (kept : (x : ℕ) → x < length links → slice_get mores x ≡ slice_get links x) where
  stays : (c x : ℕ) → 0 < times x (so.chained c) → slice_get mores x ≡ slice_get links x
  stays c x h = kept x (in_range links chains so c x h)

  pub sound_grown : IsSound mores ends
  sound_grown = grind (arith, linked-frame, stays)

  list_grown : (q : ℕ) → items_from mores (ends q) ≡ items_from links (chains q)
  unfolding sound_grown
  list_grown q = walked mores ends sound_grown q ∙ sym (walked links chains so q)

  pub lists_grown : (v w : ListsView) → IsShown links chains v → IsShown mores ends w → w.lists ≡ v.lists
  lists_grown v w sh sh' = same_gets w.lists v.lists (λ q. sh'.got q ∙ ap some_if (list_grown q) ∙ sym (sh.got q))

pub sound_none : (links : List Link) (chains : ℕ → Ends) → links ≡ [] → ((c : ℕ) → chains c ≡ blank_ends) → IsSound links chains
sound_none links chains e f = record {
  chained = λ c. [];
  chain = λ c. record { linked = tt; first = ap (λ (g : Ends). g.first) (f c); last = ap (λ (g : Ends). g.last) (f c); once = λ x. omega arith };
  apart = λ c d x h g. absurd (omega arith);
}

-- ---- going along a list

all_kept : (xs : List ℕ) → filter (λ x. true) xs ≡ xs
all_kept [] = refl
all_kept (x ∷ xs) = ap (λ ys. x ∷ ys) (all_kept xs)

module _ (links : List Link) (chains : ℕ → Ends) (so : IsSound links chains) (v : ListsView) (sh : IsShown links chains v) (l : ℕ) where
  is_whole : list_of v l ≡ so.chained l
  is_whole = whole links chains so v sh l

  pub first_is : (e : Ends) → e ≡ chains l → e.first ≡ slice_get (list_of v l) 0
  first_is e is = ap (λ (f : Ends). f.first) is ∙ (so.chain l).first ∙ first_got (so.chained l) ∙ ap (λ ys. slice_get ys 0) (sym is_whole)

  pub last_is_of : (e : Ends) → e ≡ chains l → e.last ≡ last_or None (list_of v l)
  last_is_of e is = ap (λ (f : Ends). f.last) is ∙ (so.chain l).last ∙ ap (last_or None) (sym is_whole)

  -- nothing stands before the first
  pub first_before : (item : ℕ) → slice_get (list_of v l) 0 ≡ Some item → (link : Link) → slice_get links item ≡ Some link → link.before ≡ None
  first_before item at link there = grind (arith, slice_get, is_whole, none_some, same_some)

  module _ (item i : ℕ) (at : slice_get (list_of v l) i ≡ Some item) where
    rest : IsRest links (λ x. true) item i (so.chained l)
    rest = rest_at links (λ x. true) item i None (so.chained l) ((so.chain l).linked) (ap (λ ys. slice_get ys i) (all_kept (so.chained l) ∙ sym is_whole) ∙ at)

    pub rest_there : (link : Link) × (slice_get links item ≡ Some link)
    rest_there = (rest.link, rest.there)

    pub after_is : (link : Link) → slice_get links item ≡ Some link → link.behind ≡ slice_get (list_of v l) (i + 1)
    after_is link there = grind (arith, rest, same_some, first_got, slice_get, all_kept, is_whole)

-- ---- what a read or a resize says

pub below_test : (a b : ℕ) → true ≡ ltb a b → a < b
below_test a b h = grind (arith, nat_tests)

pub not_below_test : (a b : ℕ) → false ≡ ltb a b → b ≤ a
not_below_test a b h = grind (arith, nat_tests)

pub link_read : (links : List Link) (x : ℕ) (link : Link) → x < length links → link ≡ get_or links x link → slice_get links x ≡ Some link
link_read links x link h e = slice_get_read links (length links) x link refl h e

got_before : (xs ys : List Link) (x : ℕ) → x < length xs → slice_get (xs ++ ys) x ≡ slice_get xs x
got_before [] ys x h = absurd (omega arith)
got_before (k ∷ xs) ys zero h = refl
got_before (k ∷ xs) ys (suc x) h = got_before xs ys x (let less : suc x < suc (length xs) = h in omega arith)

pub links_grown : (links new rest : List Link) (n : ℕ) → length links ≤ n → new ≡ take n links ++ rest → (x : ℕ) → x < length links → slice_get new x ≡ slice_get links x
links_grown links new rest n few is x h = ap (λ ks. slice_get ks x) is ∙ ap (λ ks. slice_get (ks ++ rest) x) (take_all n links few) ∙ got_before links rest x h

-- ---- the last of a list

behind_some : (x item : ℕ) (xs : List ℕ) → last_or (Some x) xs ≡ Some item → (front : List ℕ) × (x ∷ xs ≡ front ++ item ∷ [])
behind_some x item [] e = ([], ap (λ y. y ∷ []) (same_some x item e))
behind_some x item (y ∷ ys) e = let r = behind_some y item ys e in (x ∷ r.0, ap (λ zs. x ∷ zs) r.1)

some_behind : (x : ℕ) (xs : List ℕ) → last_or (Some x) xs ≡ None → ⊥
some_behind x [] e = cc
some_behind x (y ∷ ys) e = some_behind y ys e

pub last_of_some : (xs : List ℕ) (item : ℕ) → last_or None xs ≡ Some item → (front : List ℕ) × (xs ≡ front ++ item ∷ [])
last_of_some [] item e = absurd (cc)
last_of_some (x ∷ xs) item e = behind_some x item xs e

pub last_of_none : (xs : List ℕ) → last_or None xs ≡ None → xs ≡ []
last_of_none [] e = refl
last_of_none (x ∷ xs) e = absurd (some_behind x xs e)

pub last_told : (o : Option ℕ) (xs : List ℕ) → o ≡ last_or None xs → IfSome o (λ item. (front : List ℕ) × (xs ≡ front ++ item ∷ [])) × IfNone o (xs ≡ [])
last_told None xs e = (tt, last_of_none xs (sym e))
last_told (Some item) xs e = (last_of_some xs item (sym e), tt)
