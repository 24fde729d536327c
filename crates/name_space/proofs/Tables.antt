-- A table of names, as names come and go.
use Rattle.std.proofs.Common.{◌≡◌, ℕ, ◌-◌, ◌/◌, ◌<◌, ◌≤◌, ◌||◌, true, ap, sym, subst, ◌∙◌, Option, Some, None, is_some, arith}
use Rattle.std.specs.FinMap as map
use Rattle.std.specs.FinSet as set
use Rattle.std.specs.Ordering.{nat_cmp}
use Rattle.std.specs.Cmp.{nat_cmp_total, unsigned_tied}
use Rattle.mach_types.specs.Numbers.{most_names}
use Rattle.name_space_base.specs.Pages.{PagesView, HasPage}
use Rattle.name_space_base.specs.Pages as pages
use Rattle.name_space.specs.declared.Entry.{Entry}
use Rattle.name_space.specs.Names.{Names, IsFreshName, HasNoNeighbour}
use Rattle.name_space_base.specs.High.{HighView}
use Rattle.name_space.specs.Plain.{PlainView, HasPlainPlace, joined, IsLaid}
use Rattle.name_space.proofs.Keys.{same_some, some_or_none, eqb-same, put_other}
use Rattle.name_space.proofs.Gathered.{low_side, out_none, put_low, put_high, out_low, out_high, at_low, at_high, fresh-small, first-joined}

space_of : Names → ℕ → Option ℕ → PlainView
space_of a r k = record { names = a; room = r; kept = k }

pub same_space : (a b : Names) (r s : ℕ) (k l : Option ℕ) → a ≡ b → r ≡ s → k ≡ l → ◌≡◌ {A = PlainView} record { names = a; room = r; kept = k } record { names = b; room = s; kept = l }
unfolding space_of
same_space a b r s k l e f g = ap (λ m. space_of m r k) e ∙ ap (λ n. space_of b n k) f ∙ ap (space_of b s) g

none_in : (m : Names) → m ≡ map.empty → (q : ℕ) → map.get m q ≡ None
none_in m is q = ap (λ (a : Names). map.get a q) is ∙ map.get-empty nat_cmp q

pub joined_empty : (low high : Names) → low ≡ map.empty → high ≡ map.empty → joined low high ≡ map.empty
joined_empty low high e f = map.same_map nat_cmp_total map.nat_cmp-IsAntisymmetric _ _ (λ q. low_side low high q (none_in high f q) ∙ ap (λ (a : Names). map.get a q) e)

pub none_high : (high : HighView Entry) → ◌≡◌ {A = HighView Entry} high record { names = map.empty; kept = None } → high.names ≡ map.empty
none_high high is = ap (λ (h : HighView Entry). h.names) is

pub laid_empty : (low : PagesView Entry) (high : HighView Entry) → low.values ≡ map.empty → high.names ≡ map.empty → IsLaid low high 0 None
laid_empty low high e f = grind (arith, none_in, some_or_none)

page_put : (made : set.FinSet nat_cmp) (k : ℕ) → set.contains (set.insert made k) k ≡ true
page_put made k = set.contains-insert nat_cmp_total made k k ∙ ap (λ b. b || set.contains made k) (unsigned_tied k k ∙ eqb-same k)

module _ (low : PagesView Entry) (high : HighView Entry) (room : ℕ) (kept : Option ℕ) (x : IsLaid low high room kept) where
  -- one name changes
  pub low-changed : (new : PagesView Entry) (left : ℕ) → ((q : ℕ) → 65536 ≤ q → map.get new.values q ≡ None) → new.made ≡ low.made → left ≤ new.room → IsLaid new high left kept
  low-changed new left low_names made fits = grind arith

  pub high-changed : (new : HighView Entry) (left : ℕ) → ((q : ℕ) → q < 65536 → map.get new.names q ≡ None) → new.kept ≡ high.kept → left ≤ room → IsLaid low new left kept
  high-changed new left high_names same fits = grind arith

  put_none : (m : Names) (k q : ℕ) (e : Entry) → (q ≡ k → ⊥) → map.get m q ≡ None → map.get (map.insert m k e) q ≡ None
  put_none m k q e d none = put_other m k e q d ∙ none

  pub laid-put_low : (new : PagesView Entry) (left k : ℕ) (e : Entry) → new ≡ record { values = map.insert low.values k e; room = low.room - 1; made = low.made } → k < 65536 → left ≡ room - 1 → IsLaid new high left kept
  laid-put_low new left k e is small less = grind (arith, low-changed, put_none)

  pub laid-set_low : (new : PagesView Entry) (k : ℕ) (e : Entry) → new ≡ record { values = map.insert low.values k e; room = low.room; made = low.made } → k < 65536 → IsLaid new high room kept
  laid-set_low new k e is small = grind (arith, low-changed, put_none)

  pub laid-out_low : (new : PagesView Entry) (k : ℕ) → new ≡ record { values = map.remove low.values k; room = low.room; made = low.made } → IsLaid new high room kept
  laid-out_low new k is = grind (arith, low-changed, out_none)

  pub laid-put_high : (new : HighView Entry) (left k : ℕ) (e : Entry) → new ≡ record { names = map.insert high.names k e; kept = high.kept } → 65536 ≤ k → left ≤ room → IsLaid low new left kept
  laid-put_high new left k e is great less = grind (arith, high-changed, put_none)

  pub laid-out_high : (new : HighView Entry) (k : ℕ) → new ≡ record { names = map.remove high.names k; kept = high.kept } → IsLaid low new room kept
  laid-out_high new k is = grind (arith, high-changed, out_none)

  -- a place is made
  pub laid-page : (new : PagesView Entry) (k : ℕ) → new ≡ record { values = low.values; room = low.room; made = set.insert low.made (k / 256) } → k < 65536 → IsLaid new high room (Some k)
  laid-page new k is small = grind (arith, same_some, page_put)

  pub laid-kept : (new : HighView Entry) (k : ℕ) → new ≡ record { names = high.names; kept = Some k } → 65536 ≤ k → IsLaid low new room (Some k)
  laid-kept new k is great = grind (arith, same_some)

  -- ---- as a whole sees them

  module _ (v : PlainView) (view_is : ◌≡◌ {A = PlainView} record { names = joined low.values high.names; room = room; kept = kept } v) (n name : ℕ) (number : n ≡ name) where
    names_are : joined low.values high.names ≡ v.names
    names_are = ap (λ (a : PlainView). a.names) view_is

    pub room_is : room ≡ v.room
    room_is = ap (λ (a : PlainView). a.room) view_is

    kept_is : kept ≡ v.kept
    kept_is = ap (λ (a : PlainView). a.kept) view_is

    seen : map.get (joined low.values high.names) n ≡ map.get v.names name
    seen = ap (λ (m : Names). map.get m n) names_are ∙ ap (map.get v.names) number

    pub seen_low : n < 65536 → map.get low.values n ≡ map.get v.names name
    seen_low small = sym (at_low low.values high.names x.low_names x.high_names n small) ∙ seen

    pub seen_high : 65536 ≤ n → map.get high.names n ≡ map.get v.names name
    seen_high great = sym (at_high low.values high.names x.low_names x.high_names n great) ∙ seen

    -- what the pages lack, the whole does
    pub no_neighbour : n < 65536 → pages.WantsPage low n → HasNoNeighbour v.names v.kept name
    no_neighbour small w = grind (arith, is_some, at_low, names_are, kept_is)

    renamed : (f : Names → ℕ → Names) → f (joined low.values high.names) n ≡ f v.names name
    renamed f = ap (λ (m : Names). f m n) names_are ∙ ap (f v.names) number

    pub view-put_low : (values : Names) (left right : ℕ) (e : Entry) → values ≡ map.insert low.values n e → left ≡ right → n < 65536 →
        ◌≡◌ {A = PlainView} record { names = joined values high.names; room = left; kept = kept } record { names = map.insert v.names name e; room = right; kept = v.kept }
    view-put_low values left right e is same small = grind (arith, same_space, put_low, renamed, kept_is)

    pub view-out_low : (values : Names) → values ≡ map.remove low.values n → n < 65536 →
        ◌≡◌ {A = PlainView} record { names = joined values high.names; room = room; kept = kept } record { names = map.remove v.names name; room = v.room; kept = v.kept }
    view-out_low values is small = grind (arith, same_space, out_low, renamed, room_is, kept_is)

    pub view-put_high : (values : Names) (left right : ℕ) (e : Entry) → values ≡ map.insert high.names n e → left ≡ right →
        ◌≡◌ {A = PlainView} record { names = joined low.values values; room = left; kept = kept } record { names = map.insert v.names name e; room = right; kept = v.kept }
    view-put_high values left right e is same = grind (arith, same_space, put_high, renamed, kept_is)

    pub view-out_high : (values : Names) → values ≡ map.remove high.names n → 65536 ≤ n →
        ◌≡◌ {A = PlainView} record { names = joined low.values values; room = room; kept = kept } record { names = map.remove v.names name; room = v.room; kept = v.kept }
    view-out_high values is great = grind (arith, same_space, out_high, renamed, room_is, kept_is)

    fresh_here : IsFreshName v.names name → IsFreshName (joined low.values high.names) n
    fresh_here f = subst (λ (m : Names). IsFreshName m n) (sym names_are) (subst (IsFreshName v.names) (sym number) f)

    few_here : map.len v.names < most_names → map.len (joined low.values high.names) < most_names
    few_here few = subst (λ (m : Names). map.len m < most_names) (sym names_are) few

    -- a place for the name
    pub low_place_for : HasPlainPlace v name → n < 65536 → pages.HasPlace low n
    low_place_for place small = grind (arith, first-joined, fresh_here, room_is, kept_is)

    pub high_place_for : HasPlainPlace v name → map.len v.names < most_names → 65536 ≤ n → high.kept ≡ Some n
    high_place_for place few great = grind (arith, fresh-small, fresh_here, few_here, kept_is)
