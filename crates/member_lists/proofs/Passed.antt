-- The first item of a list, once it stands behind the others.
use Rattle.std.proofs.Common.{◌≡◌, ◌≢◌, inl, inr, ℕ, ◌<◌, ◌≤◌, ◌++◌, ◌∷◌, [], List, Option, Some, None, length, not, eqb, false, true, cond, slice_get, refl, sym, ◌∙◌, ap, subst, arith, Contains}
use Rattle.std.specs.Prelude.{unwrap_or}
use Rattle.std.specs.Ordering.{nat_cmp}
use Rattle.std.specs.FinMap as map
use Rattle.member_lists.specs.declared.Link.{Link}
use Rattle.member_lists.specs.declared.Ends.{Ends}
use Rattle.member_lists.specs.Lists.{ListsView, list_of, with_list, without, IsApart}
use Rattle.member_lists.specs.Chains.{times, first_or, last_or, blank_link, blank_ends, ends_at, IsLinked, IsKept, IsUnlinked, IsLinkedLast}
use Rattle.member_lists.specs.Ended.{lists_in, IsPassed}
use Rattle.member_lists.proofs.Times.{equal_or_not, none_some, same_some, eqb_same, times_here, times_other, times_from_Contains, Contains_from_times, times-filter_passes, last_inside, first_within, first_got}
use Rattle.member_lists.proofs.Sound.{IsShown, shown, whole, walked, some_if, put_here, put_other, out_here, out_other, same_gets}
use Rattle.member_lists.proofs.Held.{IsLeft, is_left}
use Rattle.member_lists.proofs.Listed.{list_same, list_other}
use Rattle.member_lists.proofs.Kept.{leaves_in_range, leaves_blank, len_out, kept_left, lists_left, joins_last_fits, kept_pushed, lists_pushed}

no_true : false ≡ true → ⊥
no_true e = cc

pub none_unless : (o : Option ℕ) → ((x : ℕ) → o ≡ Some x → ⊥) → o ≡ None
none_unless None not = refl
none_unless (Some x) not = absurd (not x refl)

-- ---- a list whose first item is its last

one_only : (xs : List ℕ) (item : ℕ) → ((x : ℕ) → times x xs ≤ 1) → first_or xs None ≡ last_or None xs → 0 < times item xs → xs ≡ item ∷ []
one_only [] item once same h = absurd (omega arith)
one_only (x ∷ []) item once same h = elim (equal_or_not item x) [
  | inl e ↦ ap (λ y. y ∷ []) (sym e)
  | inr d ↦ let n = times_other item x [] d in absurd (let more : 0 < times item (x ∷ []) = h in omega arith)
]
one_only (x ∷ y ∷ ys) item once same h =
    let l = last_inside (Some x) y ys x (sym same) in
    let t = times_here x x (y ∷ ys) refl in
    let o = once x in absurd (omega arith)

-- ---- a map or a list as before

module _ {X : Type 0} (m : map.FinMap nat_cmp X) (k : ℕ) where
  out_same : map.get m k ≡ None → map.remove m k ≡ m
  out_same none = same_gets (map.remove m k) m (λ q. elim (equal_or_not q k) [
    | inl e ↦ ap (map.get (map.remove m k)) e ∙ out_here m k ∙ sym none ∙ ap (map.get m) (sym e)
    | inr d ↦ out_other m k q d
  ])

  put_same : (x : X) → map.get m k ≡ Some x → map.insert m k x ≡ m
  put_same x some = same_gets (map.insert m k x) m (λ q. elim (equal_or_not q k) [
    | inl e ↦ ap (map.get (map.insert m k x)) e ∙ put_here m k x ∙ sym some ∙ ap (map.get m) (sym e)
    | inr d ↦ put_other m k x q d
  ])

  -- what stands there once this is put in or taken out
  abbrev put_back : Option ℕ → X → map.FinMap nat_cmp X
  put_back None x = map.remove m k
  put_back (Some y) x = map.insert m k x

  back_other : (o : Option ℕ) (x : X) (q : ℕ) → q ≢ k → map.get (put_back o x) q ≡ map.get m q
  back_other None x q d = out_other m k q d
  back_other (Some y) x q d = put_other m k x q d

  put_back_again : (o : Option ℕ) (x y : X) → map.insert (put_back o x) k y ≡ map.insert m k y
  put_back_again o x y = same_gets (map.insert (put_back o x) k y) (map.insert m k y) (λ q. elim (equal_or_not q k) [
    | inl e ↦ ap (map.get (map.insert (put_back o x) k y)) e ∙ put_here (put_back o x) k y ∙ sym (put_here m k y) ∙ ap (map.get (map.insert m k y)) (sym e)
    | inr d ↦ put_other (put_back o x) k y q d ∙ back_other o x q d ∙ sym (put_other m k y q d)
  ])

  back_none : (o : Option ℕ) (x : X) → o ≡ None → put_back o x ≡ map.remove m k
  back_none None x none = refl
  back_none (Some y) x none = absurd (none_some y (sym none))

  back_some : (o : Option ℕ) (x : X) (y : ℕ) → o ≡ Some y → put_back o x ≡ map.insert m k x
  back_some None x y some = absurd (none_some y some)
  back_some (Some z) x y some = refl

-- a list that was another before has these items
with_list_twice : (v : ListsView) (l : ℕ) (ys zs : List ℕ) → with_list (with_list v l ys) l zs ≡ with_list v l zs
with_list_twice v l ys zs = by ys zs
  where
    remade : (m n : map.FinMap nat_cmp (List ℕ)) → m ≡ n → record v { lists = m } ≡ record v { lists = n }
    remade m n is = ap (λ (k : map.FinMap nat_cmp (List ℕ)). let w : ListsView = record v { lists = k } in w) is

    gone : (m : map.FinMap nat_cmp (List ℕ)) → ((q : ℕ) → q ≢ l → map.get m q ≡ map.get v.lists q) → map.remove m l ≡ map.remove v.lists l
    gone m others = same_gets (map.remove m l) (map.remove v.lists l) (λ q. elim (equal_or_not q l) [
      | inl e ↦ ap (map.get (map.remove m l)) e ∙ out_here m l ∙ sym (out_here v.lists l) ∙ ap (map.get (map.remove v.lists l)) (sym e)
      | inr d ↦ out_other m l q d ∙ others q d ∙ sym (out_other v.lists l q d)
    ])

    held : (m : map.FinMap nat_cmp (List ℕ)) (xs : List ℕ) → ((q : ℕ) → q ≢ l → map.get m q ≡ map.get v.lists q) → map.insert m l xs ≡ map.insert v.lists l xs
    held m xs others = same_gets (map.insert m l xs) (map.insert v.lists l xs) (λ q. elim (equal_or_not q l) [
      | inl e ↦ ap (map.get (map.insert m l xs)) e ∙ put_here m l xs ∙ sym (put_here v.lists l xs) ∙ ap (map.get (map.insert v.lists l xs)) (sym e)
      | inr d ↦ put_other m l xs q d ∙ others q d ∙ sym (put_other v.lists l xs q d)
    ])

    by : (ys zs : List ℕ) → with_list (with_list v l ys) l zs ≡ with_list v l zs
    by [] [] = remade (map.remove (map.remove v.lists l) l) (map.remove v.lists l) (gone (map.remove v.lists l) (λ q d. out_other v.lists l q d))
    by [] (z ∷ zs) = remade (map.insert (map.remove v.lists l) l (z ∷ zs)) (map.insert v.lists l (z ∷ zs)) (held (map.remove v.lists l) (z ∷ zs) (λ q d. out_other v.lists l q d))
    by (y ∷ ys) [] = remade (map.remove (map.insert v.lists l (y ∷ ys)) l) (map.remove v.lists l) (gone (map.insert v.lists l (y ∷ ys)) (λ q d. put_other v.lists l (y ∷ ys) q d))
    by (y ∷ ys) (z ∷ zs) = remade (map.insert (map.insert v.lists l (y ∷ ys)) l (z ∷ zs)) (map.insert v.lists l (z ∷ zs)) (held (map.insert v.lists l (y ∷ ys)) (z ∷ zs) (λ q d. put_other v.lists l (y ∷ ys) q d))

-- out of a list and at its end, one after the other
pub passed_on : (v : ListsView) (l item : ℕ) → with_list (with_list v l (without item (list_of v l))) l (list_of (with_list v l (without item (list_of v l))) l ++ item ∷ []) ≡ with_list v l (without item (list_of v l) ++ item ∷ [])
passed_on v l item =
    let ys = without item (list_of v l) in
    ap (λ xs. with_list (with_list v l ys) l (xs ++ item ∷ [])) (list_same v l ys) ∙ with_list_twice v l ys (ys ++ item ∷ [])

no_both : (x : ℕ) → not (eqb x x) ≡ true → ⊥
no_both x e = no_true (sym (ap not (eqb_same x x refl)) ∙ e)

without_self : (item : ℕ) → without item (item ∷ []) ≡ []
without_self item = ap (λ b. cond (not b) (item ∷ []) []) (eqb_same item item refl)

-- ---- the items of a list that has these ends

module _ (links : List Link) (ends : map.FinMap nat_cmp Ends) (k : IsKept links ends) (l : ℕ) (e : Ends) (e_is : e ≡ ends_at ends l) where
  abbrev v : ListsView
  v = lists_in links ends

  sh : IsShown links (ends_at ends) v
  sh = shown links ends k v refl

  abbrev xs : List ℕ
  xs = k.sound.chained l

  first_chained : e.first ≡ first_or xs None
  first_chained = ap (λ (g : Ends). g.first) e_is ∙ (k.sound.chain l).first

  last_chained : e.last ≡ last_or None xs
  last_chained = ap (λ (g : Ends). g.last) e_is ∙ (k.sound.chain l).last

  list_is : list_of v l ≡ xs
  list_is = whole links (ends_at ends) k.sound v sh l

  first_told_of : e.first ≡ slice_get (list_of v l) 0
  first_told_of = first_chained ∙ first_got xs ∙ ap (λ ys. slice_get ys 0) (sym list_is)

  -- a list without a first item isn't in the map
  no_ends : e.first ≡ None → map.get ends l ≡ None
  no_ends none = by (map.get ends l) refl
    where
      by : (o : Option Ends) → map.get ends l ≡ o → map.get ends l ≡ None
      by None at = at
      by (Some g) at =
          let some = k.filled l g at in
          let here : e ≡ g = e_is ∙ ap (λ o. unwrap_or o blank_ends) at in
          absurd (none_some some.0 (sym none ∙ ap (λ (h : Ends). h.first) here ∙ some.1))

  pub blank_of_none : e.first ≡ None → e ≡ blank_ends
  blank_of_none none = e_is ∙ ap (λ o. unwrap_or o blank_ends) (no_ends none)

  some_ends : (x : ℕ) → e.first ≡ Some x → map.get ends l ≡ Some e
  some_ends x some = by (map.get ends l) refl
    where
      by : (o : Option Ends) → map.get ends l ≡ o → map.get ends l ≡ Some e
      by None at = absurd (none_some x (sym (ap (λ (g : Ends). g.first) (e_is ∙ ap (λ o. unwrap_or o blank_ends) at)) ∙ some))
      by (Some g) at = at ∙ ap (λ h. Some h) (sym (e_is ∙ ap (λ o. unwrap_or o blank_ends) at))

  -- the only item of a list has no neighbours
  pub alone_blank : (item : ℕ) → Contains (list_of v l) item → e.first ≡ e.last → slice_get links item ≡ Some blank_link
  alone_blank item inside same =
      let h : 0 < times item xs = rw list_is at (times_from_Contains item (list_of v l) inside) in
      let one : xs ≡ item ∷ [] = one_only xs item (k.sound.chain l).once (sym first_chained ∙ same ∙ last_chained) h in
      let linked : IsLinked links None (item ∷ []) None = subst (λ ys. IsLinked links None ys None) one (k.sound.chain l).linked in
      let b = linked.0 in
      b.there ∙ ap (λ o. let k : Link = record { before = o; behind = b.link.behind } in Some k) b.before_is ∙ ap (λ o. let k : Link = record { before = None; behind = o } in Some k) b.behind_is

  -- ---- its first item stands behind the others

  pub passed_none : e.first ≡ None → (next : map.FinMap nat_cmp Ends) → (e.first ≡ None → next ≡ map.remove ends l) → IsPassed links links ends next l
  passed_none none next gone =
      let same : next ≡ ends = gone none ∙ out_same ends l (no_ends none) in
      record {
        kept = rw same k;
        none = λ no. ap (lists_in links) same;
        some = λ item at. absurd (none_some item (sym none ∙ first_told_of ∙ at));
      }

  pub passed_alone : (x : ℕ) → e.first ≡ Some x → e.first ≡ e.last → (next : map.FinMap nat_cmp Ends) → ((y : ℕ) → e.first ≡ Some y → next ≡ map.insert ends l e) → IsPassed links links ends next l
  passed_alone x some short next held =
      let same : next ≡ ends = held x some ∙ put_same ends l e (some_ends x some) in
      record {
        kept = rw same k;
        none = λ no. ap (lists_in links) same;
        some = λ item at.
            let first : first_or xs None ≡ Some item = sym first_chained ∙ first_told_of ∙ at in
            let one : xs ≡ item ∷ [] = one_only xs item (k.sound.chain l).once (sym first_chained ∙ short ∙ last_chained) (first_within xs item first) in
            let list_one : list_of v l ≡ item ∷ [] = list_is ∙ one in
            let there : map.get v.lists l ≡ Some (item ∷ []) = sh.got l ∙ ap some_if (walked links (ends_at ends) k.sound l ∙ one) in
            ap (lists_in links) same
            ∙ sym (ap (λ ys. with_list v l (without item ys ++ item ∷ [])) list_one
            ∙ ap (λ ys. with_list v l (ys ++ item ∷ [])) (without_self item)
            ∙ ap (λ (m : map.FinMap nat_cmp (List ℕ)). let w : ListsView = record v { lists = m } in w) (put_same v.lists l (item ∷ []) there));
      }

  module _ (x : ℕ) (some : e.first ≡ Some x) where
    pub inside : Contains (list_of v l) x
    inside = Contains_from_times x (list_of v l) (rw list_is (first_within xs x (sym first_chained ∙ some)))

    module _ (between : List Link) (mid : Ends) (out : IsUnlinked links between x e mid) where
      abbrev mid_ends : map.FinMap nat_cmp Ends
      mid_ends = put_back ends l mid.first mid

      mid_none : mid.first ≡ None → mid_ends ≡ map.remove ends l
      mid_none none = back_none ends l mid.first mid none

      mid_some : (y : ℕ) → mid.first ≡ Some y → mid_ends ≡ map.insert ends l mid
      mid_some y is = back_some ends l mid.first mid y is

      mid_kept : IsKept between mid_ends
      mid_kept = kept_left links ends k v refl l x inside e e_is between mid out mid_ends mid_none mid_some

      abbrev mid_view : ListsView
      mid_view = lists_in between mid_ends

      mid_is : mid_view ≡ with_list v l (without x (list_of v l))
      mid_is = lists_left links ends k v refl l x inside e e_is between mid out mid_ends mid_none mid_some

      mid_here : mid ≡ ends_at mid_ends l
      mid_here = sym (IsLeft.here (is_left ends mid_ends l mid mid_none mid_some (leaves_blank links ends k v refl l x inside e e_is between mid out) k.filled))

      mid_fits : x < mid_view.items
      mid_fits = let a = leaves_in_range links ends k v refl l x inside in let b = len_out links ends k v refl l x inside e e_is between mid out in omega arith

      gone_from : (q : ℕ) → ¬ (Contains (list_of (with_list v l (without x (list_of v l))) q) x)
      gone_from q c = elim (equal_or_not q l) [
        | inl s ↦
            let here : Contains (without x (list_of v l)) x = rw (s, list_same v l (without x (list_of v l))) at c in
            let passes : not (eqb x x) ≡ true = times-filter_passes (λ y. not (eqb y x)) x (list_of v l) (times_from_Contains x (without x (list_of v l)) here) in
            absurd (no_both x passes)
        | inr d ↦
            let there : Contains (list_of v q) x = rw (list_other v l (without x (list_of v l)) q d) at c in
            let a : 0 < times x (k.sound.chained q) = rw (whole links (ends_at ends) k.sound v sh q) at (times_from_Contains x (list_of v q) there) in
            let b : 0 < times x (k.sound.chained l) = rw list_is at (times_from_Contains x (list_of v l) inside) in
            d (k.sound.apart q l x a b)
      ]

      apart : IsApart mid_view x
      apart = subst (λ w. IsApart w x) (sym mid_is) gone_from

      pub mid_room : x < length between
      mid_room = mid_fits

      pub mid_last_fits : (y : ℕ) → mid.last ≡ Some y → y < length between
      mid_last_fits = joins_last_fits between mid_ends mid_kept mid_view refl l x mid_fits apart mid mid_here

      module _ (mores : List Link) (f : Ends) (joined : IsLinkedLast between mores x mid f) (next : map.FinMap nat_cmp Ends) (held : (y : ℕ) → f.first ≡ Some y → next ≡ map.insert ends l f) where
        put : (y : ℕ) → f.first ≡ Some y → next ≡ map.insert mid_ends l f
        put y is = held y is ∙ sym (put_back_again ends l mid.first mid f)

        pub passed_more : IsPassed links mores ends next l
        passed_more = record {
          kept = kept_pushed between mid_ends mid_kept mid_view refl l x mid_fits apart mid mid_here mores f joined next put;
          none = λ no. absurd (none_some x (sym no ∙ sym first_told_of ∙ some));
          some = λ item at.
              let same : x ≡ item = same_some x item (sym some ∙ first_told_of ∙ at) in
              lists_pushed between mid_ends mid_kept mid_view refl l x mid_fits apart mid mid_here mores f joined next put
              ∙ ap (λ w. with_list w l (list_of w l ++ x ∷ [])) mid_is
              ∙ passed_on v l x
              ∙ ap (λ y. with_list v l (without y (list_of v l) ++ y ∷ [])) same;
        }
