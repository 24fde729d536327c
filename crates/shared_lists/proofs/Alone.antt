-- An item that is in one list alone, and the first item of a list.
use Rattle.std.proofs.Common.{◌≡◌, ◌≢◌, inl, inr, ℕ, ◌+◌, ◌*◌, ◌/◌, ◌++◌, ◌∷◌, [], Bool, List, Option, Some, None, slice_get, map as map_list, refl, sym, ap, subst, ◌∙◌, arith, Contains}
use Rattle.slab.specs.Slab.{get}
use Rattle.member_lists.specs.Lists.{ListsView, MarkedView, list_of, with_list, without}
use Rattle.member_lists.proofs.Times.{none_some, same_some}
use Rattle.member_lists.proofs.Passed.{passed_on}
use Rattle.shared_lists.specs.declared.Further.{Further}
use Rattle.shared_lists.specs.Shared.{SharedView, IsFirst, joined, parted, more_of}
use Rattle.shared_lists.specs.Marked.{joined_far, parted_far}
use Rattle.shared_lists.specs.Places.{own, far, item_at, list_at, seen, IsShared}
use Rattle.shared_lists.proofs.Rows.{from_map}
use Rattle.shared_lists.proofs.Seen.{Kept, seen_list, far_item, either}
use Rattle.shared_lists.proofs.Entered.{more_is, is_further, place_of}
use Rattle.shared_lists.proofs.Parted.{yes, found}
use Rattle.shared_lists.proofs.Promoted.{first_inside, own_here}
use Rattle.shared_lists.proofs.Marking.{first_all, first_marked, none_first, none_ready, shared_turn, seen_turn}

none_mapped : (g : ℕ → ℕ) (xs : List ℕ) → map_list g xs ≡ [] → xs ≡ []
none_mapped g [] e = refl
none_mapped g (x ∷ xs) e = absurd (cc)

half_far : (k : ℕ) → far k / 2 ≡ k
half_far k = omega arith

module _ (b : Bool) (p : MarkedView) (s : Kept) (keys : ListsView) (fits : ℕ) (i : IsShared b p s keys fits) (v : SharedView) (is : seen b p s keys fits ≡ v) where
  -- ---- an item in one list alone has no further place

  module _ (item : ℕ) (alone : more_of v item ≡ []) where
    pub alone_keys : list_of keys item ≡ []
    alone_keys = none_mapped (list_at s) (list_of keys item) (sym (more_is b p s keys fits i v is item) ∙ alone)

    pub alone_none : None ≡ slice_get (list_of keys item) 0
    alone_none = ap (λ xs. slice_get xs 0) (sym alone_keys)

    pub alone_far : (m : MarkedView) → m ≡ record m { marked = joined_far m.marked s (list_of keys item) }
    alone_far m = ap (λ ks. let u : MarkedView = record m { marked = joined_far m.marked s ks } in u) (sym alone_keys)

    pub alone_parted : (m : MarkedView) → m ≡ record m { marked = parted_far m.marked s (list_of keys item) }
    alone_parted m = ap (λ ks. let u : MarkedView = record m { marked = parted_far m.marked s ks } in u) (sym alone_keys)

  -- ---- an item in a list that isn't its first

  pub other_further : (first list item : ℕ) → IsFirst v first item → list ≢ first → Contains (list_of v.all list) item → Contains (more_of v item) list
  other_further first list item is_first other inside =
      let r = place_of b p s keys fits i v is list item inside in
      elim (either b s r.0) [
        | inl e ↦
            let there : Contains (list_of p.all list) (own b item) = subst (λ x. Contains (list_of p.all list) x) (e ∙ ap (own b) r.2) r.1 in
            absurd (other (i.single list first (own b item) there (own_here b p s keys fits i v is first item is_first)))
        | inr e ↦
            let f = i.further list e.1 e.0 (subst (λ x. Contains (list_of p.all list) x) e.2 r.1) in
            let item_is : f.0.item ≡ item = sym (far_item b s e.1 f.0 e.0 f.1) ∙ sym (ap (item_at b s) e.2) ∙ r.2 in
            subst (λ x. Contains (more_of v x) list) item_is (subst (λ l. Contains (more_of v f.0.item) l) f.2 (is_further b p s keys fits i v is e.1 f.0 f.1))
      ]

  pub front_further : (first list item : ℕ) → IsFirst v first item → list ≢ first → slice_get (list_of v.all list) 0 ≡ Some item → Contains (more_of v item) list
  front_further first list item is_first other front = other_further first list item is_first other (first_inside (list_of v.all list) item front)

  module _ (list item : ℕ) (further : Contains (more_of v item) list) (front : slice_get (list_of v.all list) 0 ≡ Some item) where
    -- the first place of the list is the item's
    pub front_some : slice_get (list_of p.all list) 0 ≢ None
    front_some none = none_some item (none_first b p s keys fits i v is list (sym none) ∙ front)

    module _ (place : ℕ) (at : slice_get (list_of p.all list) 0 ≡ Some place) where
      record IsFront : Type 0 where
        pub key : ℕ
        pub there : get s key ≡ Some (record { item = item; list = list })
        pub is_far : place ≡ far key

      its : IsFront
      its =
          let r = from_map (list_at s) list (list_of keys item) (subst (λ xs. Contains xs list) (more_is b p s keys fits i v is item) further) in
          let there : get s r.x ≡ Some (record { item = item; list = list }) = found b p s keys fits i v is item list r.x r.inside r.is in
          let here : Further = record { item = item; list = list } in
          let t = yes b p s keys fits i v is r.x here there in
          let same : item_at b s place ≡ item = same_some (item_at b s place) item (first_all b p s keys fits i v is list place at (item_at b s place) refl ∙ front) in
          record {
            key = r.x;
            there = there;
            is_far = i.once list place (far r.x) (first_inside (list_of p.all list) place at) (i.there r.x here there) (same ∙ sym (far_item b s r.x here t there));
          }

      half_key : place / 2 ≡ its.key
      half_key = ap (λ n. n / 2) its.is_far ∙ half_far its.key

      pub front_there : get s (place / 2) ≡ Some (record { item = item; list = list })
      front_there = ap (get s) half_key ∙ its.there

      pub front_far : place ≡ far (place / 2)
      front_far = its.is_far ∙ ap far (sym half_key)

  -- ---- the first ready item of a list stands behind the others

  pub some_places : (l : ℕ) → list_of v.all l ≢ [] → list_of p.all l ≢ []
  some_places l some none = some (ap (λ (w : SharedView). list_of w.all l) (sym is) ∙ seen_list b s p.all l ∙ ap (map_list (item_at b s)) none)

  module _ (l : ℕ) (n : MarkedView) (none : slice_get (list_of p.marked l) 0 ≡ None → n ≡ p)
      (some : (x : ℕ) → slice_get (list_of p.marked l) 0 ≡ Some x → n ≡ record p { marked = with_list p.marked l (without x (list_of p.marked l) ++ x ∷ []) }) where
    abbrev out : ℕ → MarkedView
    out x = record p { marked = parted p.marked l x }

    turned : (x : ℕ) → slice_get (list_of p.marked l) 0 ≡ Some x → n ≡ record (out x) { marked = joined (out x).marked l x }
    turned x at = some x at ∙ ap (λ w. let u : MarkedView = record p { marked = w } in u) (sym (passed_on p.marked l x))

    pub shared_passed : IsShared b n s keys fits
    shared_passed = by (slice_get (list_of p.marked l) 0) refl
      where
        by : (o : Option ℕ) → slice_get (list_of p.marked l) 0 ≡ o → IsShared b n s keys fits
        by None at = subst (λ w. IsShared b w s keys fits) (sym (none at)) i
        by (Some x) at = shared_turn b p s keys fits i v is l x (first_inside (list_of p.marked l) x at) (out x) n refl (turned x at)

    pub seen_none : slice_get (list_of v.ready l) 0 ≡ None → seen b n s keys fits ≡ v
    seen_none nobody = by (slice_get (list_of p.marked l) 0) refl
      where
        by : (o : Option ℕ) → slice_get (list_of p.marked l) 0 ≡ o → seen b n s keys fits ≡ v
        by None at = ap (λ w. seen b w s keys fits) (none at) ∙ is
        by (Some x) at = absurd (none_some (item_at b s x) (sym nobody ∙ sym (first_marked b p s keys fits i v is l x at (item_at b s x) refl)))

    pub seen_passed : (item : ℕ) → slice_get (list_of v.ready l) 0 ≡ Some item → seen b n s keys fits ≡ record v { ready = joined (parted v.ready l item) l item }
    seen_passed item turn = by (slice_get (list_of p.marked l) 0) refl
      where
        by : (o : Option ℕ) → slice_get (list_of p.marked l) 0 ≡ o → seen b n s keys fits ≡ record v { ready = joined (parted v.ready l item) l item }
        by None at = absurd (none_some item (none_ready b p s keys fits i v is l (sym at) ∙ turn))
        by (Some x) at =
            let same : item ≡ item_at b s x = same_some item (item_at b s x) (sym turn ∙ sym (first_marked b p s keys fits i v is l x at (item_at b s x) refl)) in
            seen_turn b p s keys fits i v is l x (first_inside (list_of p.marked l) x at) (out x) n refl (turned x at) item same
