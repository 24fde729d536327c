-- Lists with shared items once there is room for more.
use Rattle.std.proofs.Common.{◌≡◌, ℕ, ◌-◌, ◌*◌, ◌<◌, ◌≤◌, ◌^◌, Bool, true, false, cond, leb, max, [], refl, sym, ap, subst, ◌∙◌, arith}
use Rattle.std.specs.Prelude.{unwrap_or}
use Rattle.std.specs.FinMap as map
use Rattle.std.proofs.lemmas.Bool.Decides.{nat_tests}
use Rattle.slab.specs.Slab.{get, slab_len, HasRoomFor}
use Rattle.member_lists.specs.Lists.{ListsView, MarkedView, list_of, with_room}
use Rattle.shared_lists.specs.Shared.{SharedView, with_items, roomier}
use Rattle.shared_lists.specs.Places.{own, item_at, list_in, list_at, items_of, fitting, more_in, room_in, seen, IsKeyed, IsShared}
use Rattle.shared_lists.proofs.Rows.{mapped, mapped_same}
use Rattle.shared_lists.proofs.Seen.{Kept, same_item}

max_halves : (b : Bool) (n items : ℕ) → fitting b (max n (own b items)) ≡ max (fitting b n) items
max_halves false n items = refl
max_halves true n items = omega arith

list_is : (v w : ListsView) → w.lists ≡ v.lists → (l : ℕ) → list_of w l ≡ list_of v l
list_is v w e l = ap (λ m. unwrap_or (map.get m l) []) e

pub no_room : (p : MarkedView) → p ≡ with_room p 0
no_room p =
    let a : p.all.items ≡ max p.all.items 0 = omega arith in
    let b : p.marked.items ≡ max p.marked.items 0 = omega arith in
    ap (λ n. let w : MarkedView = record p { all = record p.all { items = n } } in w) a
    ∙ ap (λ n. let w : MarkedView = record { all = record p.all { items = max p.all.items 0 }; marked = record p.marked { items = n } } in w) b

module _ (b : Bool) (p : MarkedView) (s : Kept) (keys : ListsView) (fits : ℕ) (i : IsShared b p s keys fits) (v : SharedView) (is : seen b p s keys fits ≡ v)
    (s' : Kept) (same : (k : ℕ) → get s' k ≡ get s k) (p' : MarkedView) (n : ℕ) (p'_is : p' ≡ with_room p n) (keys' : ListsView) (lists : keys'.lists ≡ keys.lists) where
  same_items : (x : ℕ) → item_at b s' x ≡ item_at b s x
  same_items x = same_item b s s' x (λ k _ _. same k)

  keyed_longer : (fits' : ℕ) → fits' ≤ keys'.items → IsKeyed b s' keys' fits'
  keyed_longer fits' fit = record {
    keyed = λ item k c. let f = i.keyed.keyed item k (rw (list_is keys keys' lists item) at c) in (f.0, same k ∙ f.1, f.2);
    listed = λ k f at. rw (list_is keys keys' lists f.item) (i.keyed.listed k f (sym (same k) ∙ at));
    single = λ item k. rw (list_is keys keys' lists item) (i.keyed.single item k);
    none = λ no k. same k ∙ i.keyed.none no k;
    fit = fit;
  }

  pub shared_longer : (fits' : ℕ) → fits' ≤ keys'.items → n ≤ 2 ^ 33 → 2 * fits' ≤ max p.all.items n → IsShared b p' s' keys' fits'
  shared_longer fits' fit few fit' = subst (λ w. IsShared b w s' keys' fits') (sym p'_is) (record {
    keyed = keyed_longer fits' fit;
    further = λ l k yes c. let f = i.further l k yes c in (f.0, same k ∙ f.1, f.2);
    there = λ k f at. i.there k f (sym (same k) ∙ at);
    first = λ k f at. i.first k f (sym (same k) ∙ at);
    single = i.single;
    once = λ l x y c d e. i.once l x y c d (sym (same_items x) ∙ e ∙ same_items y);
    marked = i.marked;
    low = λ l x c. let h = i.low l x c in omega arith;
    fit = fit';
    few = let h = i.few in omega arith;
    even = ap (λ m. max m n) i.even;
  })

  lists_same : mapped (item_at b s') p.all.lists ≡ mapped (item_at b s) p.all.lists
  lists_same = mapped_same (item_at b s') p.all.lists (item_at b s) (λ l x c. same_items x)

  marks_same : mapped (item_at b s') p.marked.lists ≡ mapped (item_at b s) p.marked.lists
  marks_same = mapped_same (item_at b s') p.marked.lists (item_at b s) (λ l x c. same_items x)

  more_same : more_in s' keys' ≡ more_in s keys
  more_same = ap (mapped (list_at s')) lists ∙ mapped_same (list_at s') keys.lists (list_at s) (λ l x c. ap list_in (same x))

  pub seen_longer : (fits' : ℕ) → seen b p' s' keys' fits' ≡ roomier v (fitting b p'.all.items) (room_in s' fits')
  seen_longer fits' =
      ap (λ w. seen b w s' keys' fits') p'_is
      ∙ ap (λ m. let u : SharedView = record (seen b (with_room p n) s' keys' fits') { all = record { lists = m; items = fitting b (max p.all.items n) } } in u) lists_same
      ∙ ap (λ m. let u : SharedView = record (seen b (with_room p n) s' keys' fits') { all = record { lists = mapped (item_at b s) p.all.lists; items = fitting b (max p.all.items n) }; ready = record { lists = m; items = fitting b (max p.marked.items n) } } in u) marks_same
      ∙ ap (λ m. let u : SharedView = record (roomier (seen b p s keys fits) (fitting b (max p.all.items n)) (room_in s' fits')) { ready = record { lists = mapped (item_at b s) p.marked.lists; items = fitting b (max m n) }; more = more_in s' keys' } in u) i.even
      ∙ ap (λ m. let u : SharedView = record (roomier (seen b p s keys fits) (fitting b (max p.all.items n)) (room_in s' fits')) { more = m } in u) more_same
      ∙ ap (λ w. roomier w (fitting b (max p.all.items n)) (room_in s' fits')) is
      ∙ ap (λ (w : MarkedView). roomier v (fitting b w.all.items) (room_in s' fits')) (sym p'_is)

-- ---- room for items

module _ (b : Bool) (p : MarkedView) (s : Kept) (keys : ListsView) (fits : ℕ) (i : IsShared b p s keys fits) (v : SharedView) (is : seen b p s keys fits ≡ v) (items n : ℕ) (n_is : n ≡ own b items) (most : items ≤ 2 ^ 32) (p' : MarkedView) (p'_is : p' ≡ with_room p n) where
  few_places : (b : Bool) → own b items ≤ 2 ^ 33
  few_places false = omega arith
  few_places true = omega arith

  pub shared_items : IsShared b p' s keys fits
  shared_items = shared_longer b p s keys fits i v is s (λ k. refl) p' n p'_is keys refl fits i.keyed.fit (let f = few_places b in omega arith) (let f = i.fit in omega arith)

  pub seen_items : seen b p' s keys fits ≡ with_items v items
  seen_items =
      ap (λ w. seen b w s keys fits) (p'_is ∙ ap (with_room p) n_is)
      ∙ ap (λ m. let u : SharedView = record (seen b p s keys fits) { all = record (items_of b s p.all) { items = m }; ready = record (items_of b s p.marked) { items = fitting b (max p.marked.items (own b items)) } } in u) (max_halves b p.all.items items)
      ∙ ap (λ m. let u : SharedView = record (seen b p s keys fits) { all = record (items_of b s p.all) { items = max (fitting b p.all.items) items }; ready = record (items_of b s p.marked) { items = m } } in u) (max_halves b p.marked.items items)
      ∙ ap (λ w. with_items w items) is

-- ---- room for further places

leb_true : (a b : ℕ) → leb a b ≡ true → a ≤ b
leb_true a b h = grind (arith, nat_tests)

true_leb : (a b : ℕ) → a ≤ b → leb a b ≡ true
true_leb a b h = grind (arith, nat_tests)

some_room : (t : Bool) (n : ℕ) → 0 < cond t n 0 → (t ≡ true) × (0 < n)
some_room true n h = (refl, h)
some_room false n h = absurd (omega arith)

pub room_fits : (s : Kept) (fits : ℕ) → 0 < room_in s fits → (s.capacity ≤ fits) × HasRoomFor s 1
room_fits s fits h =
    let r = some_room (leb s.capacity fits) (s.capacity - slab_len s) h in
    let some : 0 < s.capacity - slab_len s = r.1 in
    (leb_true s.capacity fits r.0, omega arith)

pub fits_room : (s : Kept) (fits : ℕ) → s.capacity ≤ fits → HasRoomFor s 1 → 0 < room_in s fits
fits_room s fits few room =
    let is : room_in s fits ≡ s.capacity - slab_len s = ap (λ t. cond t (s.capacity - slab_len s) 0) (true_leb s.capacity fits few) in
    omega arith
