-- Lists with shared items that have none yet.
use Rattle.std.proofs.Common.{◌≡◌, ℕ, ◌-◌, ◌<◌, Bool, true, false, cond, leb, List, [], Option, Some, None, refl, sym, ap, subst, ◌∙◌, arith, Contains}
use Rattle.std.specs.Option.{option_map}
use Rattle.std.specs.Ordering.{nat_cmp}
use Rattle.std.specs.FinMap as map
use Rattle.std.specs.Prelude.{map as map_list, slice_index_or}
use Rattle.slab.specs.Slab.{get, slab_len}
use Rattle.member_lists.specs.Lists.{ListsView, MarkedView, list_of}
use Rattle.member_lists.proofs.Times.{none_some}
use Rattle.member_lists.proofs.Values.{get-with_values}
use Rattle.member_lists.proofs.Sound.{same_gets}
use Rattle.member_lists.proofs.Listed.{list_none}
use Rattle.shared_lists.specs.declared.Further.{Further}
use Rattle.shared_lists.specs.Shared.{SharedView, empty}
use Rattle.shared_lists.specs.Places.{far, item_at, list_at, items_of, fitting, more_in, room_in, seen, IsShared}
use Rattle.shared_lists.proofs.Rows.{Rows, mapped}
use Rattle.shared_lists.proofs.Seen.{Kept}

abbrev bare : ListsView
bare = record { lists = map.empty; items = 0 }

abbrev none_yet : MarkedView
none_yet = record { all = bare; marked = bare }

nothing : (l x : ℕ) → Contains (list_of bare l) x → ⊥
nothing l x c =
    let gone : Contains [] x = subst (λ xs. Contains xs x) (list_none 0 l) c in
    let less : gone.0 < 0 = gone.1 in omega arith

mapped_empty : (g : ℕ → ℕ) → mapped g map.empty ≡ map.empty
mapped_empty g = same_gets (mapped g map.empty) map.empty (λ q. get-with_values (map_list g) map.empty q ∙ ap (option_map (map_list g)) (map.get-empty {X = List ℕ} nat_cmp q) ∙ sym (map.get-empty {X = List ℕ} nat_cmp q))

none_fit : (b : Bool) → fitting b 0 ≡ 0
none_fit false = refl
none_fit true = refl

module _ (b : Bool) (p : MarkedView) (s : Kept) (keys : ListsView) (p_is : p ≡ none_yet) (slots : s.slots ≡ []) (capacity : s.capacity ≡ 0) (keys_is : keys ≡ bare) where
  no_value : (k : ℕ) → get s k ≡ None
  no_value k = ap (λ (xs : List (Option Further)). slice_index_or xs k None) slots

  none_kept : {A : Type 0} (k : ℕ) (f : Further) → get s k ≡ Some f → A
  none_kept k f at = absurd (none_some f (sym (no_value k) ∙ at))

  pub shared_none : IsShared b p s keys 0
  shared_none = subst (λ w. IsShared b w s keys 0) (sym p_is) (subst (λ w. IsShared b none_yet s w 0) (sym keys_is) (record {
    keyed = record {
      keyed = λ item k c. absurd (nothing item k c);
      listed = λ k f at. none_kept k f at;
      single = λ item k. rw (list_none 0 item) (omega arith);
      none = λ no k. no_value k;
      fit = omega arith;
    };
    further = λ l k yes c. absurd (nothing l (far k) c);
    there = λ k f at. none_kept k f at;
    first = λ k f at. none_kept k f at;
    single = λ l m x c d. absurd (nothing l x c);
    once = λ l x y c d e. absurd (nothing l x c);
    marked = λ l x c. absurd (nothing l x c);
    low = λ l x c. absurd (nothing l x c);
    fit = omega arith;
    few = omega arith;
    even = refl;
  }))

  no_room : room_in s 0 ≡ 0
  no_room = ap (λ n. cond (leb n 0) (n - slab_len s) 0) capacity ∙ (let h : 0 - slab_len s ≡ 0 = omega arith in h)

  bare_items : items_of b s bare ≡ bare
  bare_items =
      ap (λ (m : Rows). let u : ListsView = record { lists = m; items = fitting b 0 } in u) (mapped_empty (item_at b s))
      ∙ ap (λ n. let u : ListsView = record { lists = map.empty; items = n } in u) (none_fit b)

  pub seen_none : seen b p s keys 0 ≡ empty b
  seen_none =
      ap (λ w. seen b w s keys 0) p_is ∙ ap (λ w. seen b none_yet s w 0) keys_is
      ∙ ap (λ w. let u : SharedView = record { all = w; ready = items_of b s bare; more = more_in s bare; room = room_in s 0; several = b } in u) bare_items
      ∙ ap (λ w. let u : SharedView = record { all = bare; ready = w; more = more_in s bare; room = room_in s 0; several = b } in u) bare_items
      ∙ ap (λ w. let u : SharedView = record { all = bare; ready = bare; more = w; room = room_in s 0; several = b } in u) (mapped_empty (list_at s))
      ∙ ap (λ w. let u : SharedView = record { all = bare; ready = bare; more = map.empty; room = w; several = b } in u) no_room
