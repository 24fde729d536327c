-- What is seen of an item that leaves lists.
use Rattle.std.proofs.Common.{◌≡◌, ◌≢◌, inl, inr, ℕ, zero, suc, ◌<◌, ◌≤◌, ◌∷◌, [], Bool, true, false, cond, not, List, Option, Some, None, IfSome, IfNone, is_some, slice_get, map as map_list, refl, sym, ap, subst, ◌∙◌, arith, Contains}
use Rattle.std.specs.Option.{option_map}
use Rattle.std.specs.FinMap as map
use Rattle.std.proofs.lemmas.Option.{slice_get_within, get_or_from_slice_get}
use Rattle.slab.specs.Slab.{get}
use Rattle.member_lists.specs.Lists.{ListsView, MarkedView, list_of, without, IsApart}
use Rattle.member_lists.specs.Chains.{times}
use Rattle.member_lists.proofs.Times.{none_some, same_some, eqb_same, eqb_other, without_none, times_here, times_other, times_from_Contains, Contains_from_times}
use Rattle.member_lists.proofs.Sound.{put_other, out_other}
use Rattle.member_lists.proofs.Listed.{list_other}
use Rattle.shared_lists.specs.declared.Further.{Further}
use Rattle.shared_lists.specs.Shared.{SharedView, IsFirst, IsReady, more_of, with_more, left, left_each, without_further, with_first, OthersKeep}
use Rattle.shared_lists.specs.Places.{own, far, item_at, list_in, list_at, items_of, seen, IsShared}
use Rattle.shared_lists.proofs.Rows.{Rows, row_with, in_map, from_map}
use Rattle.shared_lists.proofs.Seen.{Kept, own_item, far_item, far_once, either}
use Rattle.shared_lists.proofs.Standing.{parted_from, without_from}
use Rattle.shared_lists.proofs.Joined.{stands}
use Rattle.shared_lists.proofs.Entered.{more_is, place_of}
use Rattle.shared_lists.proofs.Parted.{yes, not_found}
use Rattle.shared_lists.proofs.Marking.{tail_in}

-- ---- lists

pub not_there : (x : ℕ) (xs : List ℕ) → ¬ (Contains xs x) → times x xs ≡ 0
not_there x xs out = by (times x xs) refl
  where
    by : (n : ℕ) → times x xs ≡ n → times x xs ≡ 0
    by zero e = e
    by (suc n) e = absurd (out (Contains_from_times x xs (omega arith)))

pub without_first : (x : ℕ) (xs : List ℕ) → ¬ (Contains xs x) → without x (x ∷ xs) ≡ xs
without_first x xs out = ap (λ b. cond (not b) (x ∷ without x xs) (without x xs)) (eqb_same x x refl) ∙ without_none x xs (not_there x xs out)

pub without_later : (x y : ℕ) (xs : List ℕ) → x ≢ y → without y (x ∷ xs) ≡ x ∷ without y xs
without_later x y xs d = ap (λ b. cond (not b) (x ∷ without y xs) (without y xs)) (eqb_other x y d)

pub in_tail : (x y : ℕ) (xs : List ℕ) → Contains (x ∷ xs) y → y ≢ x → Contains xs y
in_tail x y xs c d = Contains_from_times y xs (let a = times_from_Contains y (x ∷ xs) c in let b = times_other y x xs d in omega arith)

more_other : (m : Rows) (item : ℕ) (xs : List ℕ) (other : ℕ) → other ≢ item → map.get (with_more m item xs) other ≡ map.get m other
more_other m item [] other d = out_other m item other d
more_other m item (x ∷ xs) other d = put_other m item (x ∷ xs) other d

-- ---- an item leaves a list

module _ (v w : SharedView) where
  rest_is : (m : Rows) (n : ℕ) → w ≡ record v { more = m; room = n } → w ≡ record v { more = w.more; room = w.room }
  rest_is m n e = subst (λ (u : SharedView). u ≡ record v { more = u.more; room = u.room }) (sym e) refl

module _ (v w : SharedView) (list item : ℕ) (r : Bool) where
  pub ready_still : w ≡ record (left v list item r) { more = w.more; room = w.room } → IsReady v item r → IsReady w item r
  ready_still e ready = subst (λ (u : SharedView). IsReady u item r) (sym e) (by r ready)
    where
      by : (r : Bool) → IsReady v item r → IsReady (record (left v list item r) { more = w.more; room = w.room }) item r
      by true ready = λ l c.
          let f = parted_from v.all list item l item c in
          rw (list_other v.ready list (without item (list_of v.ready list)) l (λ same. f.1 same refl)) (ready l f.0)
      by false ready = ready

  pub further_rest : w ≡ without_further (left v list item r) list item w.room → w ≡ record (left v list item r) { more = w.more; room = w.room }
  further_rest e = rest_is (left v list item r) w (with_more v.more item (without list (more_of v item))) w.room e

  pub further_more : w ≡ without_further (left v list item r) list item w.room → more_of w item ≡ without list (more_of v item)
  further_more e = ap (λ (u : SharedView). more_of u item) e ∙ row_with v.more item (without list (more_of v item))

  pub further_others : w ≡ without_further (left v list item r) list item w.room → OthersKeep v w item
  further_others e other d = ap (λ (u : SharedView). map.get u.more other) e ∙ more_other v.more item (without list (more_of v item)) other d

  pub further_first : (first : ℕ) → first ≢ list → IsFirst v first item → w ≡ without_further (left v list item r) list item w.room → IsFirst w first item
  further_first first d is e = record {
    inside = subst (λ (u : SharedView). Contains (list_of u.all first) item) (sym e) (rw (list_other v.all list (without item (list_of v.all list)) first d) is.inside);
    not_further = λ c. is.not_further (without_from list first (more_of v item) (rw (further_more e) at c)).0;
  }

  pub further_lists : (first : ℕ) → first ≢ list → w ≡ without_further (left v list item r) list item w.room → with_first (Some first) (more_of w item) ≡ without list (first ∷ more_of v item)
  further_lists first d e = ap (λ ls. first ∷ ls) (further_more e) ∙ sym (without_later first list (more_of v item) d)

module _ (v w : SharedView) (list item first n : ℕ) (r : Bool) (e : w ≡ without_further (left v list item r) first item n) where
  pub more_left : more_of w item ≡ without first (more_of v item)
  more_left = ap (λ (u : SharedView). more_of u item) e ∙ row_with v.more item (without first (more_of v item))

  pub not_more : ¬ (Contains (more_of w item) first)
  not_more c = (without_from first first (more_of v item) (rw more_left at c)).1 refl

pub none_lists : (o : Option ℕ) → o ≡ None → (new old : List ℕ) → new ≡ old → with_first o new ≡ old
none_lists o none new old e = ap (λ q. with_first q new) none ∙ e

pub nothing_first : (xs : List ℕ) → None ≡ slice_get xs 0 → xs ≡ []
nothing_first [] e = refl
nothing_first (x ∷ xs) e = absurd (none_some x e)

-- ---- an item leaves its first list

module _ (v w : SharedView) (own_list item : ℕ) (r : Bool) (o : Option ℕ) (none : IfNone o (w ≡ left v own_list item r)) (some : IfSome o (λ first. w ≡ without_further (left v own_list item r) first item w.room)) where
  pub first_rest : w ≡ record (left v own_list item r) { more = w.more; room = w.room }
  first_rest = by o none some
    where
      by : (o : Option ℕ) → IfNone o (w ≡ left v own_list item r) → IfSome o (λ first. w ≡ without_further (left v own_list item r) first item w.room) → w ≡ record (left v own_list item r) { more = w.more; room = w.room }
      by None n s = rest_is (left v own_list item r) w v.more v.room n
      by (Some l) n s = rest_is (left v own_list item r) w (with_more v.more item (without l (more_of v item))) w.room s

  pub first_others : OthersKeep v w item
  first_others other d = by o none some
    where
      by : (o : Option ℕ) → IfNone o (w ≡ left v own_list item r) → IfSome o (λ first. w ≡ without_further (left v own_list item r) first item w.room) → map.get w.more other ≡ map.get v.more other
      by None n s = ap (λ (u : SharedView). map.get u.more other) n
      by (Some l) n s = ap (λ (u : SharedView). map.get u.more other) s ∙ more_other v.more item (without l (more_of v item)) other d

-- ---- an item leaves one list after the other

-- what is seen but for the further lists and the room
abbrev pub bare : SharedView → SharedView
bare v = record v { more = map.empty; room = 0 }

module _ (v w : SharedView) (list item : ℕ) (r : Bool) (e : w ≡ record (left v list item r) { more = w.more; room = w.room }) where
  pub each_left : (lists : List ℕ) → bare (left_each w lists item r) ≡ bare (left_each v (list ∷ lists) item r)
  each_left lists = ap (λ (u : SharedView). bare (left_each u lists item r)) e ∙ by r
    where
      by : (r : Bool) → bare (left_each (record (left v list item r) { more = w.more; room = w.room }) lists item r) ≡ bare (left_each v (list ∷ lists) item r)
      by true = refl
      by false = refl

-- it has left all
pub none_left : (v u : SharedView) (item : ℕ) (r : Bool) (lists : List ℕ) → lists ≡ [] → bare (left_each v lists item r) ≡ bare u → v ≡ record u { more = v.more; room = v.room }
none_left v u item r lists none e =
    let start : bare v ≡ bare (left_each v [] item r) = by r in
    ap (λ (w : SharedView). let x : SharedView = record w { more = v.more; room = v.room } in x) (start ∙ ap (λ ls. bare (left_each v ls item r)) (sym none) ∙ e)
  where
    by : (r : Bool) → bare v ≡ bare (left_each v [] item r)
    by true = refl
    by false = refl

-- ---- where an item's first list is

module _ (b : Bool) (p : MarkedView) (s : Kept) (keys : ListsView) (fits : ℕ) (i : IsShared b p s keys fits) (v : SharedView) (is : seen b p s keys fits ≡ v) where
  -- no other key of the item is of the same list
  one_key : (item key : ℕ) (f : Further) → get s key ≡ Some f → f.item ≡ item → (k : ℕ) → Contains (list_of keys item) k → list_at s k ≡ f.list → k ≡ key
  one_key item key f at item_is k c e =
      let g = i.keyed.keyed item k c in
      let t = yes b p s keys fits i v is key f at in
      let there : Contains (list_of p.all f.list) (far k) = subst (λ l. Contains (list_of p.all l) (far k)) (sym (ap list_in g.1) ∙ e) (i.there k g.0 g.1) in
      far_once k key (i.once f.list (far k) (far key) there (i.there key f at) (far_item b s k g.0 t g.1 ∙ g.2 ∙ sym (far_item b s key f t at ∙ item_is)))

module _ (b : Bool) (p : MarkedView) (s : Kept) (keys : ListsView) (fits : ℕ) (i : IsShared b p s keys fits) (v : SharedView) (is : seen b p s keys fits ≡ v) where
  -- an item whose own place is in a list that isn't one of its further ones
  pub first_there : (l item : ℕ) → Contains (list_of p.all l) (own b item) → ¬ (Contains (more_of v item) l) → IsFirst v l item
  first_there l item inside out = record {
    inside = subst (λ (u : SharedView). Contains (list_of u.all l) item) is (subst (λ x. Contains (list_of (items_of b s p.all) l) x) (own_item b s item) (stands b s p.all l (own b item) inside));
    not_further = out;
  }

  -- an item without keys whose own place is in no list
  pub apart_there : (item : ℕ) → list_of keys item ≡ [] → IsApart p.all (own b item) → IsApart v.all item
  apart_there item none apart l c =
      let r = place_of b p s keys fits i v is l item c in
      elim (either b s r.0) [
        | inl e ↦ apart l (subst (λ x. Contains (list_of p.all l) x) (e ∙ ap (own b) r.2) r.1)
        | inr e ↦
            let f = i.further l e.1 e.0 (subst (λ x. Contains (list_of p.all l) x) e.2 r.1) in
            let same : f.0.item ≡ item = sym (far_item b s e.1 f.0 e.0 f.1) ∙ sym (ap (item_at b s) e.2) ∙ r.2 in
            let c : Contains [] e.1 = subst (λ xs. Contains xs e.1) none (subst (λ n. Contains (list_of keys n) e.1) same (i.keyed.listed e.1 f.0 f.1)) in
            let less : c.0 < 0 = c.1 in omega arith
      ]

  -- the first of an item's further lists isn't among those behind it
  pub first_once : (item key : ℕ) (f : Further) → get s key ≡ Some f → f.item ≡ item → slice_get (list_of keys item) 0 ≡ Some key → f.list ∷ without f.list (more_of v item) ≡ more_of v item
  first_once item key f at item_is e = by (list_of keys item) refl e
    where
      by : (ks : List ℕ) → list_of keys item ≡ ks → slice_get ks 0 ≡ Some key → f.list ∷ without f.list (more_of v item) ≡ more_of v item
      by [] is_ks e = absurd (none_some key e)
      by (k ∷ ks) is_ks e =
          let k_is : k ≡ key = same_some k key e in
          let more : more_of v item ≡ list_at s k ∷ map_list (list_at s) ks = more_is b p s keys fits i v is item ∙ ap (map_list (list_at s)) is_ks in
          let head : list_at s k ≡ f.list = ap (list_at s) k_is ∙ ap list_in at in
          let whole : more_of v item ≡ f.list ∷ map_list (list_at s) ks = more ∙ ap (λ l. l ∷ map_list (list_at s) ks) head in
          let not_later : ¬ (Contains (map_list (list_at s) ks) f.list) = (λ c.
          let r = from_map (list_at s) f.list ks c in
          let inside : Contains (list_of keys item) r.x = subst (λ ys. Contains ys r.x) (sym is_ks) (tail_in k r.x ks r.inside) in
          let same : r.x ≡ key = one_key b p s keys fits i v is item key f at item_is r.x inside r.is in
          let once = i.keyed.single item key in
          let two : times key (list_of keys item) ≡ times key (k ∷ ks) = ap (times key) is_ks in
          let here = times_here key k ks (sym k_is) in
          let more : 0 < times key ks = times_from_Contains key ks (subst (λ z. Contains ks z) same r.inside) in
          omega arith) in
          ap (λ ls. f.list ∷ without f.list ls) whole ∙ ap (λ ls. f.list ∷ ls) (without_first f.list (map_list (list_at s) ks) not_later) ∙ sym whole

-- ---- whether a list is one of an item's further ones

module _ (b : Bool) (p : MarkedView) (s : Kept) (keys : ListsView) (fits : ℕ) (i : IsShared b p s keys fits) (v : SharedView) (is : seen b p s keys fits ≡ v) (item list : ℕ) where
  pub told_yes : (o : Option ℕ) → IfSome o (λ key. Contains (list_of keys item) key × (list_at s key ≡ list)) → is_some o ≡ true → Contains (more_of v item) list
  told_yes None some e = absurd (cc)
  told_yes (Some k) some e = rw (more_is b p s keys fits i v is item) (subst (λ l. Contains (map_list (list_at s) (list_of keys item)) l) some.1 (in_map (list_at s) k (list_of keys item) some.0))

  pub told_no : (o : Option ℕ) → IfNone o ((k : ℕ) → Contains (list_of keys item) k → list_at s k ≢ list) → is_some o ≡ false → ¬ (Contains (more_of v item) list)
  told_no None none e c = not_found b p s keys fits i v is item list c none
  told_no (Some k) none e c = absurd (cc)

  mapped_got : (g : ℕ → ℕ) (xs : List ℕ) (n : ℕ) (o : Option ℕ) → o ≡ slice_get xs n → option_map g o ≡ slice_get (map_list g xs) n
  mapped_got g [] n o e = ap (option_map g) e
  mapped_got g (x ∷ xs) zero o e = ap (option_map g) e
  mapped_got g (x ∷ xs) (suc n) o e = mapped_got g xs n o e

  -- the list at an index
  pub more_got : (n : ℕ) (o : Option ℕ) → o ≡ slice_get (list_of keys item) n → option_map (list_at s) o ≡ slice_get (more_of v item) n
  more_got n o e = mapped_got (list_at s) (list_of keys item) n o e ∙ ap (λ xs. slice_get xs n) (sym (more_is b p s keys fits i v is item))

pub past : (xs : List ℕ) (n m : ℕ) → None ≡ slice_get xs n → n ≤ m → None ≡ slice_get xs m
past [] n m e h = refl
past (x ∷ xs) zero m e h = absurd (none_some x e)
past (x ∷ xs) (suc n) zero e h = absurd (omega arith)
past (x ∷ xs) (suc n) (suc m) e h = past xs n m e (omega arith)

pub got_inside : (xs : List ℕ) (n k : ℕ) → slice_get xs n ≡ Some k → Contains xs k
got_inside xs n k e = (n, slice_get_within xs n k e, get_or_from_slice_get xs n k k e)
