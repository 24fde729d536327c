-- What is kept, and what the lists are then, once an item joined one or left it, or there is room for more.
use Rattle.std.proofs.Common.{◌≡◌, ◌≢◌, ℕ, ◌<◌, ◌≤◌, ◌^◌, ◌++◌, ◌∷◌, [], List, Option, Some, None, length, max, slice_get, refl, sym, ◌∙◌, ap, arith, Contains, true}
use Rattle.std.specs.Option.{option_or, option_map}
use Rattle.std.specs.Ordering.{nat_cmp}
use Rattle.std.specs.FinMap as map
use Rattle.member_lists.specs.declared.Link.{Link}
use Rattle.member_lists.specs.declared.Ends.{Ends}
use Rattle.member_lists.specs.Lists.{ListsView, list_of, with_list, without, IsApart}
use Rattle.member_lists.specs.Chains.{blank_ends, ends_at, items_from, lists_of, IsLinkedLast, IsUnlinked, IsKept}
use Rattle.member_lists.proofs.Times.{none_some}
use Rattle.member_lists.proofs.Sound.{IsShown, shown, same_gets}
use Rattle.member_lists.proofs.Values.{get-with_values}
use Rattle.member_lists.proofs.Changed.{last_fits, len_more, sound_pushed, view_pushed, item_in_range, item_stands, before_fits, behind_fits, len_left, blank_left, sound_left, view_left, lists_grown}
use Rattle.member_lists.proofs.Held.{held_here, held_other, filled_held, ends_held, is_left, IsLeft, kept_grown}

some_or : (o : Option ℕ) (item : ℕ) → (x : ℕ) × (option_or o (Some item) ≡ Some x)
some_or None item = (item, refl)
some_or (Some x) item = (x, refl)

-- a list that an item joined has a first item
pub linked_first : (links mores : List Link) (item : ℕ) (was now : Ends) → IsLinkedLast links mores item was now → (x : ℕ) × (now.first ≡ Some x)
linked_first links mores item was now joined = let some = some_or was.first item in (some.0, joined.first ∙ some.1)

-- the lists that these links and ends give
abbrev pub lists_in : List Link → map.FinMap nat_cmp Ends → ListsView
lists_in links ends = record { lists = lists_of links ends; items = length links }

module _ (links : List Link) (ends : map.FinMap nat_cmp Ends) (k : IsKept links ends) (v : ListsView) (is : lists_in links ends ≡ v) where
  abbrev pub chains : ℕ → Ends
  chains = ends_at ends

  abbrev pub sh : IsShown links chains v
  sh = shown links ends k v is

  -- ---- an item joins

  module _ (l item : ℕ) (room : item < v.items) (apart : IsApart v item) (e : Ends) (e_is : e ≡ chains l) where
    pub joins_last_fits : (x : ℕ) → e.last ≡ Some x → x < length links
    joins_last_fits = last_fits links links chains k.sound v sh l item room apart e e_is

    module _ (mores : List Link) (f : Ends) (joined : IsLinkedLast links mores item e f) where
      pub joins_some : (x : ℕ) × (f.first ≡ Some x)
      joins_some = linked_first links mores item e f joined

      pub len_pushed : length mores ≡ length links
      len_pushed = len_more links mores chains k.sound v sh l item room apart e e_is joined.linked

      pub joins_blank : f.first ≡ None → f ≡ blank_ends
      joins_blank none = absurd (none_some joins_some.0 (sym none ∙ joins_some.1))

      module _ (ends' : map.FinMap nat_cmp Ends) (put : (x : ℕ) → f.first ≡ Some x → ends' ≡ map.insert ends l f) where
        map_is : ends' ≡ map.insert ends l f
        map_is = put joins_some.0 joins_some.1

        here : ends_at ends' l ≡ f
        here = ap (λ m. ends_at m l) map_is ∙ held_here ends l f

        other : (c : ℕ) → c ≢ l → ends_at ends' c ≡ chains c
        other c d = ap (λ m. ends_at m c) map_is ∙ held_other ends l f c d

        pub kept_pushed : IsKept mores ends'
        kept_pushed =
            let len = len_pushed in
            record {
              sound = sound_pushed links mores chains k.sound v sh l item room apart e e_is joined.linked f joined.first joined.last (ends_at ends') here other;
              filled = λ c g at. filled_held ends l f k.filled joins_some.0 joins_some.1 c g (ap (λ m. map.get m c) (sym map_is) ∙ at);
              few = let n = k.few in omega arith;
            }

        pub lists_pushed : lists_in mores ends' ≡ with_list v l (list_of v l ++ item ∷ [])
        lists_pushed = view_pushed links mores chains k.sound v sh l item room apart e e_is joined.linked f joined.first joined.last (ends_at ends') here other
            (lists_in mores ends') (shown mores ends' kept_pushed (lists_in mores ends') refl)

  -- ---- an item leaves

  module _ (l item : ℕ) (inside : Contains (list_of v l) item) where
    pub leaves_in_range : item < length links
    leaves_in_range = item_in_range links chains k.sound v sh l item inside

    pub leaves_ends_held : map.contains_key ends l ≡ true
    leaves_ends_held = ends_held links ends k l item (item_stands links chains k.sound v sh l item inside)

    module _ (link : Link) (there : slice_get links item ≡ Some link) where
      pub leaves_before_fits : (x : ℕ) → link.before ≡ Some x → x < length links
      leaves_before_fits = before_fits links chains k.sound v sh l item inside link there

      pub leaves_behind_fits : (x : ℕ) → link.behind ≡ Some x → x < length links
      leaves_behind_fits = behind_fits links chains k.sound v sh l item inside link there

    module _ (e : Ends) (e_is : e ≡ chains l) (mores : List Link) (f : Ends) (out : IsUnlinked links mores item e f) where
      pub len_out : length mores ≡ length links
      len_out = len_left links chains k.sound v sh l item inside out.link out.there out.between mores out.ahead out.rear

      pub leaves_blank : f.first ≡ None → f ≡ blank_ends
      leaves_blank = blank_left links chains k.sound v sh l item inside out.link out.there out.between mores out.ahead out.rear e e_is f out.first out.last

      module _ (ends' : map.FinMap nat_cmp Ends) (none : f.first ≡ None → ends' ≡ map.remove ends l) (some : (x : ℕ) → f.first ≡ Some x → ends' ≡ map.insert ends l f) where
        left : IsLeft ends ends' l f none some leaves_blank k.filled
        left = is_left ends ends' l f none some leaves_blank k.filled

        pub kept_left : IsKept mores ends'
        kept_left =
            let len = len_out in
            record {
              sound = sound_left links chains k.sound v sh l item inside out.link out.there out.between mores out.ahead out.rear e e_is f out.first out.last (ends_at ends') left.here left.other;
              filled = left.still_filled;
              few = let n = k.few in omega arith;
            }

        pub lists_left : lists_in mores ends' ≡ with_list v l (without item (list_of v l))
        lists_left = view_left links chains k.sound v sh l item inside out.link out.there out.between mores out.ahead out.rear e e_is f out.first out.last (ends_at ends') left.here left.other
            (lists_in mores ends') (shown mores ends' kept_left (lists_in mores ends') refl)

  -- ---- room for more items

  module _ (mores : List Link) (ends' : map.FinMap nat_cmp Ends) (items : ℕ) (same : ends' ≡ ends) (len : length mores ≡ items) (few : items < 2 ^ 32) (more : length links ≤ items)
      (kept : (x : ℕ) → x < length links → slice_get mores x ≡ slice_get links x) where
    pub grown : IsKept mores ends'
    grown = kept_grown links mores ends ends' k same (omega arith) kept

    pub lists_more : lists_in mores ends' ≡ record v { items = max v.items items }
    lists_more =
        let had = sh.items in
        let count : length mores ≡ max v.items items = omega arith in
        ap (λ (m : map.FinMap nat_cmp (List ℕ)). let w : ListsView = record { lists = m; items = length mores } in w)
        (lists_grown links mores chains (ends_at ends') k.sound (λ c. ap (λ m. ends_at m c) same) kept v (lists_in mores ends') sh (shown mores ends' grown (lists_in mores ends') refl))
        ∙ ap (λ n. let w : ListsView = record { lists = v.lists; items = n } in w) count

-- ---- no lists yet

pub lists_none : (links : List Link) (ends : map.FinMap nat_cmp Ends) → links ≡ [] → ends ≡ map.empty → lists_in links ends ≡ record { lists = map.empty; items = 0 }
lists_none links ends e f =
    ap (λ (ks : List Link). lists_in ks ends) e
    ∙ ap (λ (m : map.FinMap nat_cmp (List ℕ)). let w : ListsView = record { lists = m; items = 0 } in w)
    (same_gets (lists_of [] ends) map.empty (λ q. get-with_values (items_from []) ends q
    ∙ ap (λ (m : map.FinMap nat_cmp Ends). option_map (items_from []) (map.get m q)) f ∙ ap (option_map (items_from [])) (map.get-empty {X = Ends} nat_cmp q) ∙ sym (map.get-empty {X = List ℕ} nat_cmp q)))
