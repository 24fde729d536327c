-- Requests once one went.
use Rattle.std.proofs.Common.{◌≡◌, ◌≢◌, inl, inr, ℕ, zero, suc, ◌+◌, ◌-◌, ◌<◌, ◌≤◌, eqb, Some, None, List, [], ◌∷◌, ◌++◌, length, slice_get, refl, ap, sym, subst, ◌∙◌, arith, Contains}
use Rattle.std.specs.Prelude.{unwrap_or}
use Rattle.std.specs.FinMap as map
use Rattle.std.specs.Ordering.{nat_cmp}
use Rattle.std.proofs.lemmas.List.{length-append}
use Rattle.number_map.specs.Maps.{MapView}
use Rattle.member_lists.specs.Lists.{ListsView, list_of, with_list, without}
use Rattle.member_lists.specs.Chains.{times}
use Rattle.member_lists.proofs.Times.{same_some, equal_or_not, Contains_from_times, eqb_same, eqb_other}
use Rattle.member_lists.proofs.Sound.{out_here, out_other}
use Rattle.member_lists.proofs.Listed.{list_same, list_other, items_same}
use Rattle.request_table.specs.declared.Request.{Request}
use Rattle.request_table.specs.declared.Entry.{Entry}
use Rattle.request_table.specs.Requests.{RequestsView, with_names, without_request}
use Rattle.request_table.specs.Kept.{requests_of, key_at, names_at, IsPlaced, IsHeld, IsKept}
use Rattle.request_table.proofs.Moved.{len_out, left_in, left_other, left_none, times_pushed_here, times_pushed_other}
use Rattle.request_table.proofs.Names.{keys_at, keys-without, names-list, names-with_list}
use Rattle.request_table.proofs.Came.{Entries, shown, requests-out}

not_none : {A : Type 0} (x : A) → None ≡ Some x → ⊥
not_none x e = cc

module _ (entries : MapView Entry) (lists : ListsView) (keys free : List ℕ) (capacity fresh : ℕ) (so : IsKept entries lists keys free capacity fresh)
    (k : ℕ) (was : Entry) (there : map.get entries.map k ≡ Some was) where
  place : IsPlaced lists keys free fresh k was
  place = so.found k was there

  -- no other name has its item
  one_item : (q : ℕ) (e : Entry) → map.get entries.map q ≡ Some e → e.item ≡ was.item → q ≡ k
  one_item q e at same = same_some q k (sym (so.found q e at).named ∙ ap (slice_get keys) same ∙ place.named)

  same_entry : (e : Entry) → map.get entries.map k ≡ Some e → was ≡ e
  same_entry e at = same_some was e (sym there ∙ at)

  -- ---- a request went

  abbrev port : ℕ
  port = was.request.port

  abbrev left : List ℕ
  left = without was.item (list_of lists port)

  abbrev then_lists : ListsView
  then_lists = with_list lists port left

  abbrev then_free : List ℕ
  then_free = free ++ was.item ∷ []

  fewer_len : map.len (map.remove entries.map k) ≡ map.len entries.map - 1
  fewer_len = len_out entries.map k was there

  some_len : 0 < map.len entries.map
  some_len = more (map.len entries.map) refl
    where
      more : (n : ℕ) → map.len entries.map ≡ n → 0 < map.len entries.map
      more zero e = absurd (not_none was (sym (map.get-empty {X = Entry} nat_cmp k) ∙ ap (λ (m : Entries). map.get m k) (sym (map.empty_of_len entries.map e)) ∙ there))
      more (suc n) e = omega arith

  still : (q : ℕ) (e : Entry) → map.get (map.remove entries.map k) q ≡ Some e → (q ≢ k) × (map.get entries.map q ≡ Some e)
  still q e at =
      let d : q ≢ k = (λ s. not_none e (sym (out_here entries.map k) ∙ ap (map.get (map.remove entries.map k)) (sym s) ∙ at)) in
      (d, sym (out_other entries.map k q d) ∙ at)

  placed : (q : ℕ) (e : Entry) → map.get (map.remove entries.map k) q ≡ Some e → IsPlaced then_lists keys then_free fresh q e
  placed q e at =
      let s = still q e at in
      let f = so.found q e s.1 in
      let other : e.item ≢ was.item = λ same. s.0 (one_item q e s.1 same) in
      record {
        own = f.own;
        small = f.small;
        named = f.named;
        below = f.below;
        stands = stays e.request.port e.item other f.stands;
        used = times_pushed_other e.item was.item free other ∙ f.used;
      }
    where
      stays : (l x : ℕ) → x ≢ was.item → Contains (list_of lists l) x → Contains (list_of then_lists l) x
      stays l x d c = elim (equal_or_not l port) [
        | inl e ↦ subst (λ ys. Contains ys x) (sym (ap (list_of then_lists) e ∙ list_same lists port left)) (left_other x was.item (list_of lists port) d (subst (λ n. Contains (list_of lists n) x) e c))
        | inr n ↦ subst (λ ys. Contains ys x) (sym (list_other lists port left l n)) c
      ]

  still_held : (l x : ℕ) → x ≢ was.item → IsHeld entries.map l x → IsHeld (map.remove entries.map k) l x
  still_held l x d h = record {
    key = h.key;
    entry = h.entry;
    there = out_other entries.map k h.key (λ e. d (sym h.item_is ∙ ap (λ (n : Entry). n.item) (sym (same_entry h.entry (ap (map.get entries.map) (sym e) ∙ h.there))))) ∙ h.there;
    item_is = h.item_is;
    port_is = h.port_is;
  }

  -- it stood in no other list
  one_list : (l : ℕ) → Contains (list_of lists l) was.item → l ≡ port
  one_list l c =
      let h = so.held l was.item c in
      let same : h.key ≡ k = one_item h.key h.entry h.there h.item_is in
      sym h.port_is ∙ ap (λ (n : Entry). n.request.port) (sym (same_entry h.entry (ap (map.get entries.map) (sym same) ∙ h.there)))

  holds : (l x : ℕ) → Contains (list_of then_lists l) x → IsHeld (map.remove entries.map k) l x
  holds l x c = elim (equal_or_not l port) [
    | inl e ↦ (
        let here : Contains left x = subst (λ ys. Contains ys x) (ap (list_of then_lists) e ∙ list_same lists port left) c in
        let d : x ≢ was.item = λ same. left_none was.item (list_of lists port) (subst (λ n. Contains left n) same here) in
        still_held l x d (so.held l x (subst (λ n. Contains (list_of lists n) x) (sym e) (left_in x was.item (list_of lists port) here))))
    | inr n ↦ (
        let here : Contains (list_of lists l) x = subst (λ ys. Contains ys x) (list_other lists port left l n) c in
        let d : x ≢ was.item = λ same. n (one_list l (subst (λ y. Contains (list_of lists l) y) same here)) in
        still_held l x d (so.held l x here))
  ]

  once_then : (x : ℕ) → times x then_free ≤ 1
  once_then x = elim (equal_or_not x was.item) [
    | inl e ↦ (let t = times_pushed_here was.item free in let u = place.used in let s : times x then_free ≡ times was.item then_free = ap (λ y. times y then_free) e in omega arith)
    | inr d ↦ (let t = times_pushed_other x was.item free d in let o = so.once x in omega arith)
  ]

  below_then : (x : ℕ) → 0 < times x then_free → x < fresh
  below_then x more = elim (equal_or_not x was.item) [
    | inl e ↦ (let b = place.below in omega arith)
    | inr d ↦ so.below x (let t = times_pushed_other x was.item free d in omega arith)
  ]

  went : IsKept (record { map = map.remove entries.map k; room = entries.room + 1 }) then_lists keys then_free capacity fresh
  went = record {
    found = placed;
    held = holds;
    once = once_then;
    below = below_then;
    counted = (let n = fewer_len in let s = some_len in let c = so.counted in let l = length-append free (was.item ∷ []) in omega arith);
    fits = (let n = fewer_len in let s = some_len in let f = so.fits in omega arith);
    in_lists = (let n = fewer_len in let s = some_len in let i = items_same lists port left in let f = so.in_lists in omega arith);
    in_keys = (let n = fewer_len in let s = some_len in let f = so.in_keys in omega arith);
    in_free = (let n = fewer_len in let s = some_len in let f = so.in_free in omega arith);
  }

  -- there is a place for its item among the free ones
  pub free_fits : length free + 1 ≤ capacity
  free_fits = let s = some_len in let c = so.counted in let f = so.fits in let i = so.in_free in omega arith

  pub kept-went : (entries' : MapView Entry) (lists' : ListsView) (free' : List ℕ) (capacity' : ℕ) → entries' ≡ record { map = map.remove entries.map k; room = entries.room + 1 } →
      lists' ≡ with_list lists was.request.port (without was.item (list_of lists was.request.port)) → free' ≡ free ++ was.item ∷ [] → capacity' ≡ capacity → IsKept entries' lists' keys free' capacity' fresh
  kept-went entries' lists' free' capacity' less listed freed same =
      subst (λ n. IsKept entries' lists' keys free' n fresh) (sym same)
      (subst (λ l. IsKept entries' lists' keys l capacity fresh) (sym freed)
      (subst (λ (w : ListsView). IsKept entries' w keys then_free capacity fresh) (sym listed)
      (subst (λ (w : MapView Entry). IsKept w then_lists keys then_free capacity fresh) (sym less) went)))

  own_key : (x : ℕ) → Contains (list_of lists port) x → eqb (key_at keys x) k ≡ eqb x was.item
  own_key x c =
      let h = so.held port x c in
      let f = so.found h.key h.entry h.there in
      let named : key_at keys x ≡ h.key = ap (λ o. unwrap_or o 0) (ap (slice_get keys) (sym h.item_is) ∙ f.named) in
      elim (equal_or_not x was.item) [
        | inl e ↦ eqb_same (key_at keys x) k (named ∙ one_item h.key h.entry h.there (h.item_is ∙ e)) ∙ sym (eqb_same x was.item e)
        | inr d ↦ eqb_other (key_at keys x) k (λ e. d (sym h.item_is ∙ ap (λ (n : Entry). n.item) (sym (same_entry h.entry (ap (map.get entries.map) (sym (sym named ∙ e)) ∙ h.there))))) ∙ sym (eqb_other x was.item d)
      ]

  went-names : names_at keys then_lists.lists ≡ with_names (names_at keys lists.lists) port (without k (unwrap_or (map.get (names_at keys lists.lists) port) []))
  went-names =
      let those_left : keys_at keys left ≡ without k (unwrap_or (map.get (names_at keys lists.lists) port) []) =
      keys-without keys was.item k (list_of lists port) (λ x more. own_key x (Contains_from_times x (list_of lists port) more)) ∙ ap (without k) (sym (names-list keys lists port)) in
      names-with_list keys lists port left
      ∙ ap (with_names (names_at keys lists.lists) port) those_left

  pub total-went : (entries' : MapView Entry) → entries' ≡ record { map = map.remove entries.map k; room = entries.room + 1 } → map.len entries'.map + entries'.room ≡ map.len entries.map + entries.room
  total-went entries' less = ap (λ (w : MapView Entry). map.len w.map + w.room) less ∙ (let n = fewer_len in let s = some_len in omega arith)

  pub view-went : (went : List Request) (few : length went ≤ entries.room) (v : RequestsView) → shown (requests_of entries.map) (names_at keys lists.lists) (entries.room - length went) went ≡ v →
      (entries' : MapView Entry) (lists' : ListsView) → entries' ≡ record { map = map.remove entries.map k; room = entries.room + 1 } →
      lists' ≡ with_list lists was.request.port (without was.item (list_of lists was.request.port)) →
      shown (requests_of entries'.map) (names_at keys lists'.lists) (entries'.room - length went) went ≡ without_request v was.request
  view-went went few v view_is entries' lists' less listed =
      let mk : map.FinMap nat_cmp Request → map.FinMap nat_cmp (List ℕ) → ℕ → RequestsView = λ q n m. shown q n m went in
      let room : ℕ = entries.room - length went + 1 in
      let more : entries.room + 1 - length went ≡ room = omega arith in
      ap (λ (w : MapView Entry). mk (requests_of w.map) (names_at keys lists'.lists) (w.room - length went)) less
      ∙ ap (mk (requests_of (map.remove entries.map k)) (names_at keys lists'.lists)) more
      ∙ ap (λ (w : ListsView). mk (requests_of (map.remove entries.map k)) (names_at keys w.lists) room) listed
      ∙ ap (λ q. mk q (names_at keys then_lists.lists) room) (requests-out entries.map k)
      ∙ ap (λ n. mk (map.remove (requests_of entries.map) k) n room) went-names
      ∙ ap (λ n. mk (map.remove (requests_of entries.map) n) (with_names (names_at keys lists.lists) port (without n (unwrap_or (map.get (names_at keys lists.lists) port) []))) room) (sym place.own)
      ∙ ap (λ w. without_request w was.request) view_is
