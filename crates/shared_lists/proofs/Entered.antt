-- Lists with shared items once an item is in a further one.
use Rattle.std.proofs.Common.{◌≡◌, ◌≢◌, ◌⊎◌, inl, inr, ℕ, zero, suc, ◌+◌, ◌-◌, ◌<◌, ◌≤◌, ◌^◌, ◌++◌, ◌∷◌, [], Bool, true, false, cond, leb, map as map_list, Some, None, refl, sym, ap, subst, ◌∙◌, arith, Contains}
use Rattle.std.proofs.lemmas.List.{map-append}
use Rattle.slab.specs.Slab.{get, slab_len, HasRoomFor, Updates}
use Rattle.member_lists.specs.Lists.{ListsView, MarkedView, list_of, IsApart}
use Rattle.member_lists.specs.Chains.{times}
use Rattle.member_lists.proofs.Times.{none_some, same_some, equal_or_not, times_here, times_other, times-append, Contains_from_times}
use Rattle.member_lists.proofs.Listed.{items_same, list_same, list_other}
use Rattle.shared_lists.specs.declared.Further.{Further}
use Rattle.shared_lists.specs.Shared.{SharedView, IsFirst, joined, more_of, with_more, entered, with_further}
use Rattle.shared_lists.specs.Marked.{joined_at}
use Rattle.shared_lists.specs.Places.{own, far, item_at, list_in, list_at, items_of, more_in, room_in, seen, IsKeyed, IsShared}
use Rattle.shared_lists.proofs.Rows.{Rows, row, mapped, row_mapped, mapped_with, mapped_same, in_map, map_same}
use Rattle.shared_lists.proofs.Seen.{Kept, far_item, far_once, either, same_item, with_is}
use Rattle.shared_lists.proofs.Standing.{joined_from, joined_old, joined_new}
use Rattle.shared_lists.proofs.Joined.{stands, comes, shared_joined, all_joined, marks_joined}
use Rattle.shared_lists.proofs.Roomier.{room_fits}

-- ---- where an item's own place is

module _ (b : Bool) (p : MarkedView) (s : Kept) (keys : ListsView) (fits : ℕ) (i : IsShared b p s keys fits) (v : SharedView) (is : seen b p s keys fits ≡ v) where
  pub more_is : (item : ℕ) → more_of v item ≡ map_list (list_at s) (list_of keys item)
  more_is item = ap (λ (w : SharedView). more_of w item) (sym is) ∙ row_mapped (list_at s) keys.lists item

  -- the list of an item's further place is one of its further lists
  pub is_further : (k : ℕ) (f : Further) → get s k ≡ Some f → Contains (more_of v f.item) f.list
  is_further k f at = rw (more_is f.item) (subst (λ l. Contains (map_list (list_at s) (list_of keys f.item)) l) (ap list_in at) (in_map (list_at s) k (list_of keys f.item) (i.keyed.listed k f at)))

  pub place_of : (l item : ℕ) → Contains (list_of v.all l) item → (x : ℕ) × Contains (list_of p.all l) x × (item_at b s x ≡ item)
  place_of l item c =
      let r = comes b s p.all l item (subst (λ (w : SharedView). Contains (list_of w.all l) item) (sym is) c) in
      (r.x, r.inside, r.is)

  pub own_inside : (l item : ℕ) → IsFirst v l item → Contains (list_of p.all l) (own b item)
  own_inside l item first =
      let r = place_of l item first.inside in
      elim (either b s r.0) [
        | inl e ↦ subst (λ x. Contains (list_of p.all l) x) (e ∙ ap (own b) r.2) r.1
        | inr e ↦
            let f = i.further l e.1 e.0 (subst (λ x. Contains (list_of p.all l) x) e.2 r.1) in
            let item_is : f.0.item ≡ item = sym (far_item b s e.1 f.0 e.0 f.1) ∙ sym (ap (item_at b s) e.2) ∙ r.2 in
            absurd (first.not_further (subst (λ x. Contains (more_of v x) l) item_is (subst (λ x. Contains (more_of v f.0.item) x) f.2 (is_further e.1 f.0 f.1))))
      ]

-- ---- a further place joins

module _ (b : Bool) (p : MarkedView) (s : Kept) (keys : ListsView) (fits : ℕ) (i : IsShared b p s keys fits) (v : SharedView) (is : seen b p s keys fits ≡ v) (item list : ℕ)
    (yes : v.several ≡ true) (room : 0 < v.room) (elsewhere : (l : ℕ) × IsFirst v l item) (apart : ¬ (Contains (list_of v.all list) item)) where
  abbrev here : Further
  here = record { item = item; list = list }

  several : b ≡ true
  several = ap (λ (w : SharedView). w.several) is ∙ yes

  fitting_room : (s.capacity ≤ fits) × HasRoomFor s 1
  fitting_room = room_fits s fits (subst (λ (w : SharedView). 0 < w.room) (sym is) room)

  pub has_room : HasRoomFor s 1
  has_room = fitting_room.1

  module _ (key : ℕ) (vacant : get s key ≡ None) (s' : Kept) (up : Updates s s' key (Some here)) (low : key < s'.capacity) (capacity : s'.capacity ≡ s.capacity) (len : slab_len s' ≡ slab_len s + 1) where
    key_fits : key < fits
    key_fits = let a : s.capacity ≤ fits = fitting_room.0 in omega arith

    pub key_room : key < keys.items
    key_room = let a = key_fits in let f = i.keyed.fit in omega arith

    pub key_apart : IsApart keys key
    key_apart l c = let f = i.keyed.keyed l key c in none_some f.0 (sym vacant ∙ f.1)

    pub far_room : far key < p.all.items
    far_room = let a = key_fits in let f = i.fit in omega arith

    pub far_low : far key < 2 ^ 64
    far_low = let a = far_room in let f = i.few in omega arith

    pub far_apart : IsApart p.all (far key)
    far_apart l c = let f = i.further l key several c in none_some f.0 (sym vacant ∙ f.1)

    pub far_unmarked : IsApart p.marked (far key)
    far_unmarked l c = far_apart l (i.marked l (far key) c)

    not_key : (k : ℕ) (f : Further) → get s k ≡ Some f → k ≢ key
    not_key k f at e = none_some f (sym vacant ∙ sym (ap (get s) e) ∙ at)

    kept : (k : ℕ) (f : Further) → get s k ≡ Some f → get s' k ≡ Some f
    kept k f at = up.others k (not_key k f at) ∙ at

    was : (k : ℕ) (f : Further) → get s' k ≡ Some f → (get s k ≡ Some f) ⊎ ((k ≡ key) × (f ≡ here))
    was k f at = elim (equal_or_not k key) [
      | inl e ↦ inr (e, same_some f here (sym at ∙ ap (get s') e ∙ up.changed))
      | inr d ↦ inl (sym (up.others k d) ∙ at)
    ]

    abbrev keys' : ListsView
    keys' = joined keys item key

    single_key : (it k : ℕ) → times k (list_of keys' it) ≤ 1
    single_key it k = elim (equal_or_not it item) [
      | inl e ↦
          let all : times k (list_of keys' it) ≡ times k (list_of keys item ++ key ∷ []) = ap (λ q. times k (list_of keys' q)) e ∙ ap (times k) (list_same keys item (list_of keys item ++ key ∷ [])) in
          let a = times-append k (list_of keys item) (key ∷ []) in
          let o = i.keyed.single item k in
          elim (equal_or_not k key) [
            | inl same ↦
                let one = times_here k key [] same in
                let none : times k (list_of keys item) ≡ 0 = by_none (times k (list_of keys item)) refl same in
                omega arith
            | inr d ↦ let one = times_other k key [] d in omega arith
          ]
      | inr d ↦ rw (list_other keys item (list_of keys item ++ key ∷ []) it d) (i.keyed.single it k)
    ]
      where
        by_none : (n : ℕ) → times k (list_of keys item) ≡ n → k ≡ key → times k (list_of keys item) ≡ 0
        by_none zero e same = e
        by_none (suc n) e same = absurd (key_apart item (subst (λ y. Contains (list_of keys item) y) same (Contains_from_times k (list_of keys item) (omega arith))))

    keyed_more : IsKeyed b s' keys' fits
    keyed_more = record {
      keyed = λ it k c. elim (joined_from keys item key it k c) [
        | inl a ↦ let f = i.keyed.keyed it k a in (f.0, kept k f.0 f.1, f.2)
        | inr a ↦ (here, ap (get s') a.1 ∙ up.changed, sym a.0)
      ];
      listed = λ k f at. elim (was k f at) [
        | inl a ↦ joined_old keys item key f.item k (i.keyed.listed k f a)
        | inr a ↦ subst (λ (g : Further). Contains (list_of keys' g.item) k) (sym a.1) (subst (λ j. Contains (list_of keys' item) j) (sym a.0) (joined_new keys item key))
      ];
      single = single_key;
      none = λ no k. absurd (let e : true ≡ false = sym several ∙ no in cc);
      fit = let e = items_same keys item (list_of keys item ++ key ∷ []) in let f = i.keyed.fit in omega arith;
    }

    same : (q y : ℕ) → Contains (list_of p.all q) y → item_at b s' y ≡ item_at b s y
    same q y c = same_item b s s' y (λ k t e. up.others k (λ k_is. far_apart q (subst (λ z. Contains (list_of p.all q) z) (e ∙ ap far k_is) c)))

    far_is : item_at b s' (far key) ≡ item
    far_is = far_item b s' key here several up.changed

    new : (y : ℕ) → Contains (list_of p.all list) y → item_at b s' y ≢ item_at b s' (far key)
    new y c e = apart (subst (λ (w : SharedView). Contains (list_of w.all list) item) is (subst (λ z. Contains (list_of (items_of b s p.all) list) z) (sym (same list y c) ∙ e ∙ far_is) (stands b s p.all list y c)))

    more_far : (k : ℕ) → b ≡ true → far key ≡ far k → (f : Further) × (get s' k ≡ Some f) × (f.list ≡ list)
    more_far k t e = (here, ap (get s') (sym (far_once key k e)) ∙ up.changed, refl)

    was_far : (k : ℕ) (f : Further) → get s' k ≡ Some f → (get s k ≡ Some f) ⊎ ((far key ≡ far k) × (f.list ≡ list))
    was_far k f at = elim (was k f at) [ inl a ↦ inl a | inr a ↦ inr (ap far (sym a.0), ap (λ (g : Further). g.list) a.1) ]

    first_far : (k : ℕ) (f : Further) → get s' k ≡ Some f → (q : ℕ) × Contains (list_of (joined p.all list (far key)) q) (own b f.item)
    first_far k f at = elim (was k f at) [
      | inl a ↦ let o = i.first k f a in (o.0, joined_old p.all list (far key) o.0 (own b f.item) o.1)
      | inr a ↦ (
        elsewhere.0,
        joined_old p.all list (far key) elsewhere.0 (own b f.item)
            (subst (λ (g : Further). Contains (list_of p.all elsewhere.0) (own b g.item)) (sym a.1) (own_inside b p s keys fits i v is elsewhere.0 item elsewhere.1)),
      )
    ]

    module _ (x : ℕ) (x_is : x ≡ far key) (r : Bool) (p' : MarkedView) (p'_is : p' ≡ joined_at p list x r) (ks : ListsView) (ks_is : ks ≡ keys') where
      p'_far : p' ≡ joined_at p list (far key) r
      p'_far = p'_is ∙ ap (λ y. joined_at p list y r) x_is

      pub shared_further : IsShared b p' s' ks fits
      shared_further = subst (λ w. IsShared b w s' ks fits) (sym p'_far) (subst (λ w. IsShared b (joined_at p list (far key) r) s' w fits) (sym ks_is)
          (shared_joined b p s s' keys keys' fits i list (far key) r far_room far_apart same new keyed_more kept more_far was_far first_far))

      all_further : items_of b s' p'.all ≡ joined v.all list item
      all_further =
          ap (λ (w : MarkedView). items_of b s' w.all) p'_far
          ∙ all_joined b p s s' keys keys' fits i list (far key) r far_room far_apart same new keyed_more kept more_far was_far first_far item far_is
          ∙ ap (λ (w : SharedView). joined w.all list item) is

      marks_further : items_of b s' p'.marked ≡ cond r (joined v.ready list item) v.ready
      marks_further =
          ap (λ (w : MarkedView). items_of b s' w.marked) p'_far
          ∙ marks_joined b p s s' keys keys' fits i list (far key) r far_room far_apart same new keyed_more kept more_far was_far first_far item far_is
          ∙ ap (λ (w : SharedView). cond r (joined w.ready list item) w.ready) is

      same_lists : (it k : ℕ) → Contains (row keys.lists it) k → list_at s' k ≡ list_at s k
      same_lists it k c = let f = i.keyed.keyed it k c in ap list_in (kept k f.0 f.1 ∙ sym f.1)

      more_further : more_in s' ks ≡ with_more v.more item (more_of v item ++ list ∷ [])
      more_further =
          ap (λ (w : ListsView). mapped (list_at s') w.lists) (ks_is ∙ with_is keys item (list_of keys item ++ key ∷ []))
          ∙ mapped_with (list_at s') keys.lists item (list_of keys item ++ key ∷ [])
          ∙ ap (λ (m : Rows). with_more m item (map_list (list_at s') (list_of keys item ++ key ∷ []))) (mapped_same (list_at s') keys.lists (list_at s) same_lists ∙ ap (λ (w : SharedView). w.more) is)
          ∙ ap (with_more v.more item)
          (map-append (list_at s') (list_of keys item) (key ∷ []) ∙ ap (λ ys. ys ++ list_at s' key ∷ []) (map_same (list_at s') (list_at s) (list_of keys item) (same_lists item) ∙ sym (more_is b p s keys fits i v is item))
          ∙ ap (λ o. more_of v item ++ list_in o ∷ []) up.changed)

      one_less : (t : Bool) (a n : ℕ) → cond t (a - (n + 1)) 0 ≡ cond t (a - n) 0 - 1
      one_less true a n = omega arith
      one_less false a n = refl

      room_further : room_in s' fits ≡ v.room - 1
      room_further =
          ap (λ n. cond (leb n fits) (n - slab_len s') 0) capacity ∙ ap (λ n. cond (leb s.capacity fits) (s.capacity - n) 0) len
          ∙ one_less (leb s.capacity fits) s.capacity (slab_len s) ∙ ap (λ (w : SharedView). w.room - 1) is

      pub seen_further : seen b p' s' ks fits ≡ with_further (entered v list item r) list item
      seen_further =
          ap (λ w. let u : SharedView = record { all = w; ready = items_of b s' p'.marked; more = more_in s' ks; room = room_in s' fits; several = b } in u) all_further
          ∙ ap (λ w. let u : SharedView = record { all = joined v.all list item; ready = w; more = more_in s' ks; room = room_in s' fits; several = b } in u) marks_further
          ∙ ap (λ w. let u : SharedView = record { all = joined v.all list item; ready = cond r (joined v.ready list item) v.ready; more = w; room = room_in s' fits; several = b } in u) more_further
          ∙ ap (λ w. let u : SharedView = record { all = joined v.all list item; ready = cond r (joined v.ready list item) v.ready; more = with_more v.more item (more_of v item ++ list ∷ []); room = w; several = b } in u) room_further
          ∙ ap (λ (w : SharedView). let u : SharedView = record (with_further (entered v list item r) list item) { several = w.several } in u) is
