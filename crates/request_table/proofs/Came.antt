-- Requests once one came, and once there is room for more.
use Rattle.std.proofs.Common.{◌≡◌, ◌≢◌, inl, inr, ℕ, ◌+◌, ◌-◌, ◌<◌, ◌≤◌, ◌^◌, Some, None, List, [], ◌∷◌, ◌++◌, length, slice_get, slice_set, ap, sym, subst, ◌∙◌, arith, Contains}
use Rattle.std.specs.Prelude.{unwrap_or}
use Rattle.std.specs.Option.{option_map}
use Rattle.std.specs.FinMap as map
use Rattle.std.specs.Ordering.{nat_cmp}
use Rattle.std.proofs.lemmas.List.Elements.{Contains-append_left, Contains-push_cases}
use Rattle.std.proofs.lemmas.List.{length-set}
use Rattle.number_map.specs.Maps.{MapView}
use Rattle.member_lists.specs.Lists.{ListsView, list_of, with_list, IsApart}
use Rattle.member_lists.specs.Chains.{times}
use Rattle.member_lists.proofs.Times.{same_some, equal_or_not, times_from_Contains, got_set, got_other}
use Rattle.member_lists.proofs.Sound.{put_here, put_other, out_here, out_other, same_gets}
use Rattle.member_lists.proofs.Listed.{list_same, list_other, items_same, in_pushed}
use Rattle.request_table.specs.declared.Request.{Request}
use Rattle.request_table.specs.declared.Entry.{Entry}
use Rattle.request_table.specs.Requests.{RequestsView, key_of, with_names, with_request}
use Rattle.request_table.specs.Kept.{requests_of, key_at, names_at, IsPlaced, IsHeld, IsKept, IsWhole, IsTaken}
use Rattle.request_table.proofs.Moved.{some_not_none, len_put}
use Rattle.request_table.proofs.View.{get-with_values}
use Rattle.request_table.proofs.Names.{keys_at, keys-pushed, names-list, names-with_list, names-same}

abbrev pub Entries : Type 0
Entries = map.FinMap nat_cmp Entry

abbrev pub its_request : Entry → Request
its_request e = e.request

abbrev pub shown : map.FinMap nat_cmp Request → map.FinMap nat_cmp (List ℕ) → ℕ → List Request → RequestsView
shown requests names room went = record { requests = requests; names = names; room = room; went = went }

-- ---- the map of requests

pub get-requests : (m : Entries) (q : ℕ) → map.get (requests_of m) q ≡ option_map its_request (map.get m q)
get-requests m q = get-with_values its_request m q

pub requests-put : (m : Entries) (k : ℕ) (e : Entry) → requests_of (map.insert m k e) ≡ map.insert (requests_of m) k e.request
requests-put m k e = same_gets _ _ (λ q. elim (equal_or_not q k) [
  | inl same ↦ get-requests (map.insert m k e) q ∙ ap (λ n. option_map its_request (map.get (map.insert m k e) n)) same ∙ ap (option_map its_request) (put_here m k e)
      ∙ sym (ap (map.get (map.insert (requests_of m) k e.request)) same ∙ put_here (requests_of m) k e.request)
  | inr d ↦ get-requests (map.insert m k e) q ∙ ap (option_map its_request) (put_other m k e q d) ∙ sym (get-requests m q) ∙ sym (put_other (requests_of m) k e.request q d)
])

pub requests-out : (m : Entries) (k : ℕ) → requests_of (map.remove m k) ≡ map.remove (requests_of m) k
requests-out m k = same_gets _ _ (λ q. elim (equal_or_not q k) [
  | inl same ↦ get-requests (map.remove m k) q ∙ ap (λ n. option_map its_request (map.get (map.remove m k) n)) same ∙ ap (option_map its_request) (out_here m k)
      ∙ sym (ap (map.get (map.remove (requests_of m) k)) same ∙ out_here (requests_of m) k)
  | inr d ↦ get-requests (map.remove m k) q ∙ ap (option_map its_request) (out_other m k q d) ∙ sym (get-requests m q) ∙ sym (out_other (requests_of m) k q d)
])

pub requests-none : (m : Entries) → m ≡ map.empty → requests_of m ≡ map.empty
requests-none m e = same_gets _ _ (λ q. get-requests m q ∙ ap (λ (n : Entries). option_map its_request (map.get n q)) e ∙ ap (option_map its_request) (map.get-empty nat_cmp q) ∙ sym (map.get-empty nat_cmp q))

not_in_none : (x : ℕ) → Contains [] x → ⊥
not_in_none x c = let n = times_from_Contains x [] c in omega arith

pub kept-none : (entries : MapView Entry) (lists : ListsView) (keys free : List ℕ) (capacity : ℕ) → entries ≡ record { map = map.empty; room = 0 } → lists ≡ record { lists = map.empty; items = 0 } → free ≡ [] → IsKept entries lists keys free capacity 0
kept-none entries lists keys free capacity no_entries no_lists no_free =
    let none : (key : ℕ) → map.get entries.map key ≡ None = λ key. ap (λ (w : MapView Entry). map.get w.map key) no_entries ∙ map.get-empty nat_cmp key in
    let bare : (port : ℕ) → list_of lists port ≡ [] = λ port. ap (λ (w : ListsView). list_of w port) no_lists ∙ ap (λ o. unwrap_or o []) (map.get-empty nat_cmp port) in
    let len : map.len entries.map ≡ 0 = ap (λ (w : MapView Entry). map.len w.map) no_entries ∙ map.len-empty nat_cmp Entry in
    let room : entries.room ≡ 0 = ap (λ (w : MapView Entry). w.room) no_entries in
    let frees : length free ≡ 0 = ap (λ (l : List ℕ). length l) no_free in
    let no_times : (x : ℕ) → times x free ≡ 0 = λ x. ap (times x) no_free in
    record {
      found = λ key e at. absurd (some_not_none e (map.get entries.map key) at (none key));
      held = λ port item c. absurd (not_in_none item (subst (λ l. Contains l item) (bare port) c));
      once = λ x. let n = no_times x in omega arith;
      below = λ x more. absurd (let n = no_times x in omega arith);
      counted = omega arith;
      fits = omega arith;
      in_lists = omega arith;
      in_keys = omega arith;
      in_free = omega arith;
    }

module _ (entries : MapView Entry) (lists : ListsView) (keys free : List ℕ) (capacity fresh : ℕ) (so : IsKept entries lists keys free capacity fresh) where
  -- the key of an item that stands in a list
  pub held-named : (port item : ℕ) → Contains (list_of lists port) item → (key : ℕ) × (slice_get keys item ≡ Some key)
  held-named port item c =
      let h = so.held port item c in
      (h.key, subst (λ x. slice_get keys x ≡ Some h.key) h.item_is (so.found h.key h.entry h.there).named)

  -- ---- more room

  pub kept-grown : (entries' : MapView Entry) (lists' : ListsView) (keys' free' : List ℕ) (capacity' room items : ℕ) → entries' ≡ record { map = entries.map; room = room } → lists' ≡ record { lists = lists.lists; items = items } →
      ((x : ℕ) → x < length keys → slice_get keys' x ≡ slice_get keys x) → length keys ≤ length keys' → free' ≡ free → entries.room ≤ room →
      map.len entries.map + room ≤ items → map.len entries.map + room ≤ length keys' → map.len entries.map + room ≤ capacity' → IsKept entries' lists' keys' free' capacity' fresh
  kept-grown entries' lists' keys' free' capacity' room items more longer stays long same rise in_lists in_keys in_free =
      let mid : IsKept (record { map = entries.map; room = room }) (record { lists = lists.lists; items = items }) keys' free capacity' fresh = record {
        found = λ key e at. (let f = so.found key e at in record {
          own = f.own;
          small = f.small;
          named = stays e.item (let b = f.below in let c = so.fits in let d = so.in_keys in omega arith) ∙ f.named;
          below = f.below;
          stands = f.stands;
          used = f.used;
        });
        held = so.held;
        once = so.once;
        below = so.below;
        counted = so.counted;
        fits = (let f = so.fits in omega arith);
        in_lists = in_lists;
        in_keys = in_keys;
        in_free = in_free;
      } in
      subst (λ l. IsKept entries' lists' keys' l capacity' fresh) (sym same)
      (subst (λ (w : ListsView). IsKept entries' w keys' free capacity' fresh) (sym longer)
      (subst (λ (w : MapView Entry). IsKept w (record { lists = lists.lists; items = items }) keys' free capacity' fresh) (sym more) mid))

  pub names-grown : (lists' : ListsView) (keys' : List ℕ) → lists'.lists ≡ lists.lists → ((x : ℕ) → x < length keys → slice_get keys' x ≡ slice_get keys x) → names_at keys' lists'.lists ≡ names_at keys lists.lists
  names-grown lists' keys' same stays =
      ap (names_at keys') same
      ∙ names-same keys keys' lists (λ x l c.
      let h = so.held l x c in
      let f = so.found h.key h.entry h.there in
      ap (λ o. unwrap_or o 0) (stays x (let b = f.below in let i = h.item_is in let n = so.fits in let d = so.in_keys in omega arith)))

  pub whole-grown : (went : List Request) → length went ≤ entries.room → (entries' : MapView Entry) (lists' : ListsView) (keys' free' : List ℕ) (capacity' : ℕ) (went' : List Request) (places' room items : ℕ) →
      entries' ≡ record { map = entries.map; room = room } → lists' ≡ record { lists = lists.lists; items = items } →
      ((x : ℕ) → x < length keys → slice_get keys' x ≡ slice_get keys x) → length keys ≤ length keys' → free' ≡ free → went' ≡ went → entries.room ≤ room →
      map.len entries.map + room ≤ items → map.len entries.map + room ≤ length keys' → map.len entries.map + room ≤ capacity' → map.len entries.map + room ≤ places' →
      IsWhole entries' lists' keys' free' capacity' fresh went' places'
  whole-grown went few entries' lists' keys' free' capacity' went' places' room items more longer stays long same still rise in_lists in_keys in_free in_went = record {
    standing = kept-grown entries' lists' keys' free' capacity' room items more longer stays long same rise in_lists in_keys in_free;
    waiting = (let roomier = ap (λ (w : MapView Entry). w.room) more in let n = ap (λ (l : List Request). length l) still in omega arith);
    in_went = (let total = ap (λ (w : MapView Entry). map.len w.map + w.room) more in omega arith);
  }

  pub view-grown : (went : List Request) (entries' : MapView Entry) (lists' : ListsView) (keys' : List ℕ) (went' : List Request) (room : ℕ) → entries' ≡ record { map = entries.map; room = room } →
      lists'.lists ≡ lists.lists → ((x : ℕ) → x < length keys → slice_get keys' x ≡ slice_get keys x) → went' ≡ went →
      shown (requests_of entries'.map) (names_at keys' lists'.lists) (entries'.room - length went') went' ≡ shown (requests_of entries.map) (names_at keys lists.lists) (room - length went) went
  view-grown went entries' lists' keys' went' room more same stays still =
      ap (λ (w : MapView Entry). shown (requests_of w.map) (names_at keys' lists'.lists) (w.room - length went') went') more
      ∙ ap (λ n. shown (requests_of entries.map) n (room - length went') went') (names-grown lists' keys' same stays)
      ∙ ap (λ (l : List Request). shown (requests_of entries.map) (names_at keys lists.lists) (room - length l) l) still

  -- ---- one more

  module _ (r : Request) (k : ℕ) (own : key_of r ≡ k) (small : r.name < 2 ^ 32) (absent : map.get entries.map k ≡ None) (some : 0 < entries.room)
      (item : ℕ) (free' : List ℕ) (fresh' : ℕ) (taken : IsTaken free free' fresh fresh' item) where
    -- the item is none of those that stand for a request
    other_item : (q : ℕ) (e : Entry) → map.get entries.map q ≡ Some e → e.item ≢ item
    other_item q e at same =
        let f = so.found q e at in
        elim taken.was [
          | inl more ↦ (let u = f.used in let t : times item free ≡ times e.item free = ap (λ x. times x free) (sym same) in omega arith)
          | inr high ↦ (let b = f.below in omega arith)
        ]

    pub item-apart : IsApart lists item
    item-apart l c = let h = so.held l item c in other_item h.key h.entry h.there h.item_is

    fresh_fits : fresh' ≤ map.len entries.map + entries.room
    fresh_fits = elim taken.grown [
      | inl same ↦ (let f = so.fits in omega arith)
      | inr new ↦ (let c = so.counted in let a = new.0 in let b = new.1 in omega arith)
    ]

    pub item-in_keys : item < length keys
    item-in_keys = let b = taken.below in let f = fresh_fits in let l = so.in_keys in omega arith

    abbrev entry : Entry
    entry = record { request = r; item = item }

    abbrev then_entries : MapView Entry
    then_entries = record { map = map.insert entries.map k (let e : Entry = record { request = r; item = item } in e); room = entries.room - 1 }

    abbrev then_lists : ListsView
    then_lists = with_list lists r.port (list_of lists r.port ++ item ∷ [])

    grown_len : map.len (map.insert entries.map k entry) ≡ map.len entries.map + 1
    grown_len = len_put entries.map k entry absent

    placed : (q : ℕ) (e : Entry) → map.get (map.insert entries.map k entry) q ≡ Some e → IsPlaced then_lists (slice_set keys item k) free' fresh' q e
    placed q e at = elim (equal_or_not q k) [
      | inl same ↦ subst (λ (x : Entry). IsPlaced then_lists (slice_set keys item k) free' fresh' q x) (same_some entry e (sym (put_here entries.map k entry) ∙ ap (map.get (map.insert entries.map k entry)) (sym same) ∙ at)) (record {
        own = own ∙ sym same;
        small = small;
        named = got_set keys item k item-in_keys ∙ ap (λ n. Some n) (sym same);
        below = taken.below;
        stands = in_pushed lists r.port item;
        used = taken.gone;
      })
      | inr d ↦ (
          let was : map.get entries.map q ≡ Some e = sym (put_other entries.map k entry q d) ∙ at in
          let f = so.found q e was in
          record {
            own = f.own;
            small = f.small;
            named = got_other keys item e.item k (other_item q e was) ∙ f.named;
            below = (let b = f.below in let c = taken.counted in let g = fresh_most in omega arith);
            stands = stays e.request.port e.item f.stands;
            used = (let u = f.used in let m = taken.fewer e.item in omega arith);
          })
    ]
      where
        fresh_most : fresh ≤ fresh'
        fresh_most = elim taken.grown [ inl e ↦ omega arith | inr g ↦ (let b = g.1 in omega arith) ]

        stays : (l x : ℕ) → Contains (list_of lists l) x → Contains (list_of then_lists l) x
        stays l x c = elim (equal_or_not l r.port) [
          | inl e ↦ subst (λ ys. Contains ys x) (sym (ap (list_of then_lists) e ∙ list_same lists r.port (list_of lists r.port ++ item ∷ [])))
              (Contains-append_left (list_of lists r.port) (item ∷ []) x (subst (λ n. Contains (list_of lists n) x) e c))
          | inr d ↦ subst (λ ys. Contains ys x) (sym (list_other lists r.port (list_of lists r.port ++ item ∷ []) l d)) c
        ]

    still_held : (l x : ℕ) → IsHeld entries.map l x → IsHeld (map.insert entries.map k entry) l x
    still_held l x h = record {
      key = h.key;
      entry = h.entry;
      there = put_other entries.map k entry h.key (λ e. some_not_none h.entry (map.get entries.map h.key) h.there (ap (map.get entries.map) e ∙ absent)) ∙ h.there;
      item_is = h.item_is;
      port_is = h.port_is;
    }

    holds : (l x : ℕ) → Contains (list_of then_lists l) x → IsHeld (map.insert entries.map k entry) l x
    holds l x c = elim (equal_or_not l r.port) [
      | inl e ↦ elim (Contains-push_cases (list_of lists r.port) item x (subst (λ ys. Contains ys x) (ap (list_of then_lists) e ∙ list_same lists r.port (list_of lists r.port ++ item ∷ [])) c)) [
        | inl old ↦ still_held l x (so.held l x (subst (λ n. Contains (list_of lists n) x) (sym e) old))
        | inr new ↦ record { key = k; entry = entry; there = put_here entries.map k entry; item_is = new; port_is = sym e }
      ]
      | inr d ↦ still_held l x (so.held l x (subst (λ ys. Contains ys x) (list_other lists r.port (list_of lists r.port ++ item ∷ []) l d) c))
    ]

    came : IsKept then_entries then_lists (slice_set keys item k) free' capacity fresh'
    came = record {
      found = placed;
      held = holds;
      once = λ x. let m = taken.fewer x in let o = so.once x in omega arith;
      below = λ x more. (let m = taken.fewer x in let b = so.below x (omega arith) in elim taken.grown [ inl e ↦ omega arith | inr g ↦ (let s = g.1 in omega arith) ]);
      counted = (let n = grown_len in let c = so.counted in let t = taken.counted in omega arith);
      fits = (let n = grown_len in let f = fresh_fits in omega arith);
      in_lists = (let n = grown_len in let i = items_same lists r.port (list_of lists r.port ++ item ∷ []) in let f = so.in_lists in omega arith);
      in_keys = (let n = grown_len in let i = length-set keys item k in let f = so.in_keys in omega arith);
      in_free = (let n = grown_len in let f = so.in_free in omega arith);
    }

    pub kept-came : (entries' : MapView Entry) (lists' : ListsView) (keys' : List ℕ) (capacity' : ℕ) → entries' ≡ record { map = map.insert entries.map k (let e : Entry = record { request = r; item = item } in e); room = entries.room - 1 } →
        lists' ≡ with_list lists r.port (list_of lists r.port ++ item ∷ []) → keys' ≡ slice_set keys item k → capacity' ≡ capacity → IsKept entries' lists' keys' free' capacity' fresh'
    kept-came entries' lists' keys' capacity' more listed set same =
        subst (λ n. IsKept entries' lists' keys' free' n fresh') (sym same)
        (subst (λ l. IsKept entries' lists' l free' capacity fresh') (sym set)
        (subst (λ (w : ListsView). IsKept entries' w (slice_set keys item k) free' capacity fresh') (sym listed)
        (subst (λ (w : MapView Entry). IsKept w then_lists (slice_set keys item k) free' capacity fresh') (sym more) came)))

    same_names : names_at (slice_set keys item k) lists.lists ≡ names_at keys lists.lists
    same_names = names-same keys (slice_set keys item k) lists (λ x l c. (
        let h = so.held l x c in
        let other : x ≢ item = λ e. other_item h.key h.entry h.there (h.item_is ∙ e) in
        ap (λ o. unwrap_or o 0) (got_other keys item x k other)))

    came-names : names_at (slice_set keys item k) then_lists.lists ≡ with_names (names_at keys lists.lists) r.port (unwrap_or (map.get (names_at keys lists.lists) r.port) [] ++ k ∷ [])
    came-names =
        let new : List ℕ = slice_set keys item k in
        let named : key_at new item ≡ k = ap (λ o. unwrap_or o 0) (got_set keys item k item-in_keys) in
        let pushed : keys_at new (list_of lists r.port ++ item ∷ []) ≡ unwrap_or (map.get (names_at new lists.lists) r.port) [] ++ k ∷ [] =
        keys-pushed new (list_of lists r.port) item ∙ ap (λ n. keys_at new (list_of lists r.port) ++ n ∷ []) named ∙ ap (λ l. l ++ k ∷ []) (sym (names-list new lists r.port)) in
        names-with_list new lists r.port (list_of lists r.port ++ item ∷ [])
        ∙ ap (with_names (names_at new lists.lists) r.port) pushed
        ∙ ap (λ (names : map.FinMap nat_cmp (List ℕ)). with_names names r.port (unwrap_or (map.get names r.port) [] ++ k ∷ [])) same_names

    pub total-came : (entries' : MapView Entry) → entries' ≡ record { map = map.insert entries.map k (let e : Entry = record { request = r; item = item } in e); room = entries.room - 1 } →
        map.len entries'.map + entries'.room ≡ map.len entries.map + entries.room
    total-came entries' more = ap (λ (w : MapView Entry). map.len w.map + w.room) more ∙ (let n = grown_len in omega arith)

    pub view-came : (went : List Request) (v : RequestsView) → shown (requests_of entries.map) (names_at keys lists.lists) (entries.room - length went) went ≡ v →
        (entries' : MapView Entry) (lists' : ListsView) (keys' : List ℕ) → entries' ≡ record { map = map.insert entries.map k (let e : Entry = record { request = r; item = item } in e); room = entries.room - 1 } →
        lists' ≡ with_list lists r.port (list_of lists r.port ++ item ∷ []) → keys' ≡ slice_set keys item k →
        shown (requests_of entries'.map) (names_at keys' lists'.lists) (entries'.room - length went) went ≡ with_request v r
    view-came went v view_is entries' lists' keys' more listed set =
        let mk : map.FinMap nat_cmp Request → map.FinMap nat_cmp (List ℕ) → ℕ → RequestsView = λ q n m. shown q n m went in
        let left : ℕ = entries.room - length went - 1 in
        let less : entries.room - 1 - length went ≡ left = omega arith in
        ap (λ (w : MapView Entry). mk (requests_of w.map) (names_at keys' lists'.lists) (w.room - length went)) more
        ∙ ap (mk (requests_of then_entries.map) (names_at keys' lists'.lists)) less
        ∙ ap (λ (w : ListsView). mk (requests_of then_entries.map) (names_at keys' w.lists) left) listed
        ∙ ap (λ l. mk (requests_of then_entries.map) (names_at l then_lists.lists) left) set
        ∙ ap (λ q. mk q (names_at (slice_set keys item k) then_lists.lists) left) (requests-put entries.map k entry)
        ∙ ap (λ n. mk (map.insert (requests_of entries.map) k r) n left) came-names
        ∙ ap (λ n. mk (map.insert (requests_of entries.map) n r) (with_names (names_at keys lists.lists) r.port (unwrap_or (map.get (names_at keys lists.lists) r.port) [] ++ n ∷ [])) left) (sym own)
        ∙ ap (λ w. with_request w r) view_is
