-- Lists with shared items once a place is out of one.
use Rattle.std.proofs.Common.{◌≡◌, ◌≢◌, inl, inr, ℕ, ◌+◌, ◌-◌, ◌<◌, ◌≤◌, ◌^◌, Bool, true, false, cond, leb, not, eqb, map as map_list, Some, None, IsSome, is_some, refl, sym, ap, subst, ◌∙◌, arith, Contains}
use Rattle.slab.specs.Slab.{get, slab_len, Updates}
use Rattle.member_lists.specs.Lists.{ListsView, MarkedView, list_of, without, IsMarkedIn}
use Rattle.member_lists.specs.Chains.{times}
use Rattle.member_lists.proofs.Times.{none_some, same_some, equal_or_not, times-filter_most}
use Rattle.member_lists.proofs.Listed.{items_same, list_same, list_other}
use Rattle.shared_lists.specs.declared.Further.{Further}
use Rattle.shared_lists.specs.Shared.{SharedView, IsReady, parted, more_of, with_more, left, without_further}
use Rattle.shared_lists.specs.Marked.{parted_at}
use Rattle.shared_lists.specs.Places.{own, far, item_at, list_in, list_at, items_of, more_in, room_in, seen, IsKeyed, IsShared}
use Rattle.shared_lists.proofs.Rows.{from_map, mapped, mapped_with, mapped_same, map_without}
use Rattle.shared_lists.proofs.Seen.{Kept, far_item, own_far, far_once, same_item, with_is, seen_same, seen_parted}
use Rattle.shared_lists.proofs.Standing.{parted_from, parted_old}
use Rattle.shared_lists.proofs.Joined.{stands, comes}
use Rattle.shared_lists.proofs.Entered.{more_is}

-- ---- a place of an item, and whether it is marked

module _ (b : Bool) (p : MarkedView) (s : Kept) (keys : ListsView) (fits : ℕ) (i : IsShared b p s keys fits) (v : SharedView) (is : seen b p s keys fits ≡ v) where
  pub marked_if : (r : Bool) (item l x : ℕ) → item_at b s x ≡ item → Contains (list_of p.all l) x → IsReady v item r → IsMarkedIn p l x r
  marked_if true item l x x_is inside ready =
      let all : Contains (list_of v.all l) item = subst (λ (w : SharedView). Contains (list_of w.all l) item) is (subst (λ z. Contains (list_of (items_of b s p.all) l) z) x_is (stands b s p.all l x inside)) in
      let f = comes b s p.marked l item (subst (λ (w : SharedView). Contains (list_of w.ready l) item) (sym is) (ready l all)) in
      subst (λ z. Contains (list_of p.marked l) z) (i.once l f.x x (i.marked l f.x f.inside) inside (f.is ∙ sym x_is)) f.inside
  marked_if false item l x x_is inside ready = λ q c. ready q (subst (λ (w : SharedView). Contains (list_of w.ready q) item) is (subst (λ z. Contains (list_of (items_of b s p.marked) q) z) x_is (stands b s p.marked q x c)))

  pub single_mark : (l x : ℕ) → Contains (list_of p.all l) x → (other : ℕ) → Contains (list_of p.marked other) x → other ≡ l
  single_mark l x inside other c = i.single other l x (i.marked other x c) inside

  pub yes : (k : ℕ) (f : Further) → get s k ≡ Some f → b ≡ true
  yes k f at = by b (λ no. i.keyed.none no k)
    where
      by : (b : Bool) → (b ≡ false → get s k ≡ None) → b ≡ true
      by true none = refl
      by false none = absurd (none_some f (sym (none refl) ∙ at))

-- ---- a place is out of a list

module _ (b : Bool) (p : MarkedView) (s s' : Kept) (keys keys' : ListsView) (fits : ℕ) (i : IsShared b p s keys fits) (l x : ℕ) (inside : Contains (list_of p.all l) x)
    (same : (y : ℕ) → y ≢ x → item_at b s' y ≡ item_at b s y) where
  pub gone : (q y : ℕ) → Contains (list_of (parted p.all l x) q) y → Contains (list_of p.all q) y × (y ≢ x)
  gone q y c =
      let f = parted_from p.all l x q y c in
      (f.0, λ e. f.1 (i.single q l x (subst (λ z. Contains (list_of p.all q) z) e f.0) inside) e)

  gone_mark : (q y : ℕ) → Contains (list_of (parted p.marked l x) q) y → Contains (list_of p.marked q) y × (y ≢ x)
  gone_mark q y c =
      let f = parted_from p.marked l x q y c in
      (f.0, λ e. f.1 (i.single q l x (i.marked q x (subst (λ z. Contains (list_of p.marked q) z) e f.0)) inside) e)

  still_marked : (r : Bool) → IsMarkedIn p l x r → (q y : ℕ) → Contains (list_of (parted_at p l x r).marked q) y → Contains (list_of p.marked q) y × (y ≢ x)
  still_marked false unmarked q y c = (c, λ e. unmarked q (subst (λ z. Contains (list_of p.marked q) z) e c))
  still_marked true mark q y c = gone_mark q y c

  even_parted : (r : Bool) → (parted_at p l x r).marked.items ≡ p.marked.items
  even_parted false = refl
  even_parted true = items_same p.marked l _

  pub shared_parted : (r : Bool) → IsMarkedIn p l x r → IsKeyed b s' keys' fits
      → ((k : ℕ) (f : Further) → get s k ≡ Some f → far k ≢ x → get s' k ≡ Some f)
      → ((k : ℕ) (f : Further) → get s' k ≡ Some f → (get s k ≡ Some f) × (far k ≢ x))
      → ((k : ℕ) (f : Further) → get s' k ≡ Some f → own b f.item ≢ x)
      → IsShared b (parted_at p l x r) s' keys' fits
  shared_parted r marks keyed kept was first =
      let items : (parted p.all l x).items ≡ p.all.items = items_same p.all l _ in
      record {
        keyed = keyed;
        further = λ q k t c. let g = gone q (far k) c in let f = i.further q k t g.0 in (f.0, kept k f.0 f.1 g.1, f.2);
        there = λ k f at. let w = was k f at in parted_old p.all l x f.list (far k) w.1 (i.there k f w.0);
        first = λ k f at. let w = was k f at in let o = i.first k f w.0 in (o.0, parted_old p.all l x o.0 (own b f.item) (first k f at) o.1);
        single = λ q m y c d. i.single q m y (gone q y c).0 (gone m y d).0;
        once = λ q y z c d e. let g = gone q y c in let h = gone q z d in i.once q y z g.0 h.0 (sym (same y g.1) ∙ e ∙ same z h.1);
        marked = λ q y c. let g = still_marked r marks q y c in parted_old p.all l x q y g.1 (i.marked q y g.0);
        low = λ q y c. rw items (i.low q y (gone q y c).0);
        fit = rw items i.fit;
        few = rw items i.few;
        even = even_parted r ∙ i.even ∙ sym items;
      }

  pub all_parted : (item : ℕ) → item_at b s x ≡ item → items_of b s' (parted p.all l x) ≡ parted (items_of b s p.all) l item
  all_parted item x_is =
      seen_same b s (parted p.all l x) s' (λ q y c. same y (gone q y c).1)
      ∙ seen_parted b s p.all l x item x_is (λ y c e. i.once l y x c inside e)

  pub marks_parted : (r : Bool) → IsMarkedIn p l x r → (item : ℕ) → item_at b s x ≡ item → items_of b s' (parted_at p l x r).marked ≡ cond r (parted (items_of b s p.marked) l item) (items_of b s p.marked)
  marks_parted false unmarked item x_is = seen_same b s p.marked s' (λ q y c. same y (still_marked false unmarked q y c).1)
  marks_parted true mark item x_is =
      seen_same b s (parted p.marked l x) s' (λ q y c. same y (gone_mark q y c).1)
      ∙ seen_parted b s p.marked l x item x_is (λ y c e. i.once l y x (i.marked l y c) inside e)

-- ---- a further place

module _ (b : Bool) (p : MarkedView) (s : Kept) (keys : ListsView) (fits : ℕ) (i : IsShared b p s keys fits) (v : SharedView) (is : seen b p s keys fits ≡ v) where
  pub key_there : (item k : ℕ) → Contains (list_of keys item) k → IsSome (get s k)
  key_there item k c = let f = i.keyed.keyed item k c in ap is_some f.1

  pub found : (item list k : ℕ) → Contains (list_of keys item) k → list_at s k ≡ list → get s k ≡ Some (record { item = item; list = list })
  found item list k c list_is =
      let f = i.keyed.keyed item k c in
      let same : f.0.list ≡ list = sym (ap list_in f.1) ∙ list_is in
      f.1 ∙ ap (λ n. let g : Further = record { item = n; list = f.0.list } in Some g) f.2 ∙ ap (λ n. let g : Further = record { item = item; list = n } in Some g) same

  pub not_found : {A : Type 0} (item list : ℕ) → Contains (more_of v item) list → ((k : ℕ) → Contains (list_of keys item) k → list_at s k ≢ list) → A
  not_found item list c none =
      let r = from_map (list_at s) list (list_of keys item) (subst (λ xs. Contains xs list) (more_is b p s keys fits i v is item) c) in
      absurd (none r.x r.inside r.is)

module _ (b : Bool) (p : MarkedView) (s : Kept) (keys : ListsView) (fits : ℕ) (i : IsShared b p s keys fits) (v : SharedView) (is : seen b p s keys fits ≡ v)
    (key : ℕ) (f : Further) (at : get s key ≡ Some f) where
  several : b ≡ true
  several = yes b p s keys fits i v is key f at

  pub far_is : item_at b s (far key) ≡ f.item
  far_is = far_item b s key f several at

  pub far_inside : Contains (list_of p.all f.list) (far key)
  far_inside = i.there key f at

  pub far_low : far key < 2 ^ 64
  far_low = let a = i.low f.list (far key) far_inside in let h = i.few in omega arith

  pub far_marked : (r : Bool) → IsReady v f.item r → IsMarkedIn p f.list (far key) r
  far_marked r ready = marked_if b p s keys fits i v is r f.item f.list (far key) far_is far_inside ready

-- ---- a key goes

module _ (b : Bool) (p : MarkedView) (s : Kept) (keys : ListsView) (fits : ℕ) (i : IsShared b p s keys fits) (v : SharedView) (is : seen b p s keys fits ≡ v)
    (key : ℕ) (f : Further) (at : get s key ≡ Some f) (s' : Kept) (up : Updates s s' key None) (len : slab_len s' + 1 ≡ slab_len s) (capacity : s'.capacity ≡ s.capacity) where
  abbrev yes_several : b ≡ true
  yes_several = several b p s keys fits i v is key f at

  abbrev far_item_is : item_at b s (far key) ≡ f.item
  far_item_is = far_is b p s keys fits i v is key f at

  abbrev inside : Contains (list_of p.all f.list) (far key)
  inside = far_inside b p s keys fits i v is key f at

  abbrev keys' : ListsView
  keys' = parted keys f.item key

  pub left_key : (k : ℕ) (g : Further) → get s' k ≡ Some g → (get s k ≡ Some g) × (k ≢ key)
  left_key k g h =
      let d : k ≢ key = (λ e. none_some g (sym up.changed ∙ sym (ap (get s') e) ∙ h)) in
      (sym (up.others k d) ∙ h, d)

  pub kept_key : (k : ℕ) (g : Further) → get s k ≡ Some g → k ≢ key → get s' k ≡ Some g
  kept_key k g h d = up.others k d ∙ h

  -- a key that is listed isn't this one
  listed_other : (it k : ℕ) → Contains (list_of keys' it) k → (g : Further) × (get s k ≡ Some g) × (g.item ≡ it) × (k ≢ key)
  listed_other it k c =
      let r = parted_from keys f.item key it k c in
      let g = i.keyed.keyed it k r.0 in (
        g.0,
        g.1,
        g.2,
        λ e.
            let same : g.0 ≡ f = same_some g.0 f (sym g.1 ∙ ap (get s) e ∙ at) in
            r.1 (sym g.2 ∙ ap (λ (h : Further). h.item) same) e,
      )

  pub keyed_less : IsKeyed b s' keys' fits
  keyed_less = record {
    keyed = λ it k c. let g = listed_other it k c in (g.0, kept_key k g.0 g.1 g.3, g.2);
    listed = λ k g h. let w = left_key k g h in parted_old keys f.item key g.item k w.1 (i.keyed.listed k g w.0);
    single = λ it k. elim (equal_or_not it f.item) [
      | inl e ↦
          let all : times k (list_of keys' it) ≡ times k (without key (list_of keys f.item)) = ap (λ q. times k (list_of keys' q)) e ∙ ap (times k) (list_same keys f.item (without key (list_of keys f.item))) in
          let most = times-filter_most (λ z. not (eqb z key)) k (list_of keys f.item) in
          let one = i.keyed.single f.item k in
          omega arith
      | inr d ↦ rw (list_other keys f.item (without key (list_of keys f.item)) it d) (i.keyed.single it k)
    ];
    none = λ no k. elim (equal_or_not k key) [ inl e ↦ ap (get s') e ∙ up.changed | inr d ↦ up.others k d ∙ i.keyed.none no k ];
    fit = let e = items_same keys f.item (without key (list_of keys f.item)) in let h = i.keyed.fit in omega arith;
  }

  pub same_place : (y : ℕ) → y ≢ far key → item_at b s' y ≡ item_at b s y
  same_place y d = same_item b s s' y (λ k t e. up.others k (λ k_is. d (e ∙ ap far k_is)))

  -- no other key of the item is of the same list
  one_list : (y : ℕ) → Contains (list_of keys f.item) y → list_at s y ≡ list_at s key → y ≡ key
  one_list y c e =
      let g = i.keyed.keyed f.item y c in
      let lists : g.0.list ≡ f.list = sym (ap list_in g.1) ∙ e ∙ ap list_in at in
      let there : Contains (list_of p.all f.list) (far y) = subst (λ l. Contains (list_of p.all l) (far y)) lists (i.there y g.0 g.1) in
      far_once y key (i.once f.list (far y) (far key) there inside (far_item b s y g.0 yes_several g.1 ∙ g.2 ∙ sym far_item_is))

  same_lists : (it k : ℕ) → Contains (list_of keys' it) k → list_at s' k ≡ list_at s k
  same_lists it k c = let g = listed_other it k c in ap list_in (up.others k g.3)

  pub more_less : more_in s' keys' ≡ with_more v.more f.item (without f.list (more_of v f.item))
  more_less =
      mapped_same (list_at s') keys'.lists (list_at s) same_lists
      ∙ ap (λ (w : ListsView). mapped (list_at s) w.lists) (with_is keys f.item (without key (list_of keys f.item)))
      ∙ mapped_with (list_at s) keys.lists f.item (without key (list_of keys f.item))
      ∙ ap (λ (w : SharedView). with_more w.more f.item (map_list (list_at s) (without key (list_of keys f.item)))) is
      ∙ ap (with_more v.more f.item)
      (map_without (list_at s) key (list_of keys f.item) one_list
      ∙ ap (λ o. without (list_in o) (map_list (list_at s) (list_of keys f.item))) at ∙ ap (without f.list) (sym (more_is b p s keys fits i v is f.item)))

  one_more : (t : Bool) (a n m : ℕ) → m + 1 ≡ n → cond t (a - n) 0 ≤ cond t (a - m) 0
  one_more true a n m e = omega arith
  one_more false a n m e = omega arith

  pub room_more : v.room ≤ room_in s' fits
  room_more =
      let was : room_in s fits ≡ v.room = ap (λ (w : SharedView). w.room) is in
      let now : room_in s' fits ≡ cond (leb s.capacity fits) (s.capacity - slab_len s') 0 = ap (λ n. cond (leb n fits) (n - slab_len s') 0) capacity in
      let more = one_more (leb s.capacity fits) s.capacity (slab_len s) (slab_len s') len in
      omega arith

  module _ (r : Bool) (ready : IsReady v f.item r) where
    abbrev mark : IsMarkedIn p f.list (far key) r
    mark = far_marked b p s keys fits i v is key f at r ready

    module _ (x : ℕ) (x_is : x ≡ far key) (p' : MarkedView) (p'_is : p' ≡ parted_at p f.list x r) (ks : ListsView) (ks_is : ks ≡ keys') where
      p'_far : p' ≡ parted_at p f.list (far key) r
      p'_far = p'_is ∙ ap (λ y. parted_at p f.list y r) x_is

      pub shared_left : IsShared b p' s' ks fits
      shared_left = subst (λ w. IsShared b w s' ks fits) (sym p'_far) (subst (λ w. IsShared b (parted_at p f.list (far key) r) s' w fits) (sym ks_is)
          (shared_parted b p s s' keys keys' fits i f.list (far key) inside same_place r mark keyed_less
          (λ k g h d. kept_key k g h (λ e. d (ap far e)))
          (λ k g h. let w = left_key k g h in (w.0, λ e. w.1 (far_once k key e)))
          (λ k g h. own_far b g.item key yes_several)))

      pub seen_left : seen b p' s' ks fits ≡ without_further (left v f.list f.item r) f.list f.item (room_in s' fits)
      seen_left =
          ap (λ w. seen b w s' ks fits) p'_far ∙ ap (λ w. seen b (parted_at p f.list (far key) r) s' w fits) ks_is
          ∙ ap (λ w. let u : SharedView = record { all = w; ready = items_of b s' (parted_at p f.list (far key) r).marked; more = more_in s' keys'; room = room_in s' fits; several = b } in u)
          (all_parted b p s s' keys keys' fits i f.list (far key) inside same_place f.item far_item_is)
          ∙ ap (λ w. let u : SharedView = record { all = parted (items_of b s p.all) f.list f.item; ready = w; more = more_in s' keys'; room = room_in s' fits; several = b } in u)
          (marks_parted b p s s' keys keys' fits i f.list (far key) inside same_place r mark f.item far_item_is)
          ∙ ap (λ w. let u : SharedView = record { all = parted (items_of b s p.all) f.list f.item; ready = cond r (parted (items_of b s p.marked) f.list f.item) (items_of b s p.marked); more = w; room = room_in s' fits; several = b } in u) more_less
          ∙ ap (λ w. let u : SharedView = record (left w f.list f.item r) { more = with_more v.more f.item (without f.list (more_of v f.item)); room = room_in s' fits } in u) is
