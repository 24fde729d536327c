-- Names in places and in a tree, as a whole sees them.
use Rattle.std.proofs.Common.{◌≡◌, ◌≢◌, ◌⊎◌, inl, inr, ℕ, ◌/◌, ◌<◌, true, is_some, refl, ap, subst, sym, ◌∙◌, Option, Some, None, arith}
use Rattle.std.specs.Ordering.{nat_cmp}
use Rattle.std.specs.FinMap as map
use Rattle.std.specs.FinSet as set
use Rattle.name_space_base.specs.Pages.{PagesView, IsFirstFree, HasPlace, WantsPage}
use Rattle.name_space_base.specs.High.{HighView, KeepsUsed}
use Rattle.name_space_base.proofs.Options.{some_or_none, none_or_used}
use Rattle.name_space_base.proofs.Tables.{same_gets}
use Rattle.tagged_names.specs.declared.places.Slot.{Slot}
use Rattle.tagged_names.specs.Names.{IsFreshIndex, HasNoNeighbour}
use Rattle.tagged_names.specs.Places.{PlacesView, Slots, placed, joined, IsOpen, IsLaid, IsReady}
use Rattle.tagged_names.proofs.Joined.{known, no_slot, one_placed}
use Rattle.tagged_names.proofs.Changes.{seen_place, seen_tree, free_place, free_tree, laid-put, joined-put, laid-put_tree, joined-put_tree, laid-out_tree, joined-out_tree}
use Rattle.tagged_names.proofs.Fresh.{no_neighbour, fresh-first, fresh_small, first-fresh}

module _ {V : Type 0} where
  view_of : map.FinMap nat_cmp V → ℕ → Option ℕ → PlacesView V
  view_of a r k = record { names = a; room = r; kept = k }

  pub same_places : (a b : map.FinMap nat_cmp V) (r s : ℕ) (k l : Option ℕ) → a ≡ b → r ≡ s → k ≡ l →
      ◌≡◌ {A = PlacesView V} record { names = a; room = r; kept = k } record { names = b; room = s; kept = l }
  unfolding view_of
  same_places a b r s k l e f g = ap (λ m. view_of m r k) e ∙ ap (λ n. view_of b n k) f ∙ ap (view_of b s) g

  pub laid_at : {slots new : Slots V} {tree grown : map.FinMap nat_cmp V} → new ≡ slots → grown ≡ tree → IsLaid slots tree → IsLaid new grown
  laid_at {slots} {new} {tree} {grown} e f x = subst (λ s. IsLaid s grown) (sym e) (subst (IsLaid slots) (sym f) x)

  pub joined_at : {slots new : Slots V} {tree grown : map.FinMap nat_cmp V} → new ≡ slots → grown ≡ tree → joined new grown 65536 ≡ joined slots tree 65536
  joined_at {slots} {new} {tree} {grown} e f = ap (λ s. joined s grown 65536) e ∙ ap (λ t. joined slots t 65536) f

module _ {V : Type 0} (slots : PagesView (Slot V)) (others : HighView V) (x : IsReady slots others) where
  pub ready_with : (new : PagesView (Slot V)) (grown : HighView V) → IsLaid new.values grown.names → new.made ≡ slots.made → grown.kept ≡ others.kept → IsReady new grown
  ready_with new grown laid made kept = record { laid = laid; paged = λ n is a b. ap (λ s. set.contains s (n / 256 / 256)) made ∙ x.paged n (sym kept ∙ is) a b }

  module _ (v : PlacesView V) (view_is : ◌≡◌ {A = PlacesView V} record { names = joined slots.values others.names 65536; room = slots.room; kept = others.kept } v) where
    pub names_are : joined slots.values others.names 65536 ≡ v.names
    names_are = ap (λ (a : PlacesView V). a.names) view_is

    pub room_is : slots.room ≡ v.room
    room_is = ap (λ (a : PlacesView V). a.room) view_is

    pub kept_is : others.kept ≡ v.kept
    kept_is = ap (λ (a : PlacesView V). a.kept) view_is

    seen : (q : ℕ) → map.get (joined slots.values others.names 65536) q ≡ map.get v.names q
    seen q = ap (λ (m : map.FinMap nat_cmp V). map.get m q) names_are

    pub get_placed : (q : ℕ) (e : V) → placed slots.values q ≡ Some e → Some e ≡ map.get v.names q
    get_placed q e is = sym (seen_place slots.values others.names x.laid q e is) ∙ seen q

    pub get_other : (q : ℕ) → placed slots.values q ≡ None → map.get others.names q ≡ map.get v.names q
    get_other q none = sym (seen_tree slots.values others.names x.laid q none) ∙ seen q

    pub none_placed : (q : ℕ) → map.get v.names q ≡ None → placed slots.values q ≡ None
    none_placed q none = free_place slots.values others.names x.laid q (seen q ∙ none)

    pub none_in_tree : (q : ℕ) → map.get v.names q ≡ None → map.get others.names q ≡ None
    none_in_tree q none = free_tree slots.values others.names x.laid q (seen q ∙ none)

    -- ---- the fresh index

    fresh_here : (k : ℕ) → IsFreshIndex v.names k → IsFreshIndex (joined slots.values others.names 65536) k
    fresh_here k f = subst (λ (m : map.FinMap nat_cmp V). IsFreshIndex m k) (sym names_are) f

    few_here : map.len v.names < 65535 → map.len (joined slots.values others.names 65536) < 65535
    few_here few = subst (λ (m : map.FinMap nat_cmp V). map.len m < 65535) (sym names_are) few

    pub first_fresh : (k : ℕ) → IsFirstFree slots.values k → map.len v.names < 65535 → IsFreshIndex v.names k × (k < 65536)
    first_fresh k f few = grind (arith, fresh-first, few_here, names_are)

    pub fresh_fits : (k : ℕ) → IsFreshIndex v.names k → map.len v.names < 65535 → k < 65536
    fresh_fits k f few = fresh_small slots.values others.names x.laid (few_here few) k (fresh_here k f)

    pub fresh_place : (k : ℕ) → IsFreshIndex v.names k → map.len v.names < 65535 → IsFirstFree slots.values k
    fresh_place k f few = first-fresh slots.values others.names x.laid (few_here few) k (fresh_here k f)

    -- ---- a place is kept

    pub lacks_page : (k : ℕ) → (0 < k) × (k < 65536) × WantsPage slots k → HasNoNeighbour v.names v.kept k
    lacks_page k w = grind (arith, names_are, no_neighbour, kept_is)

    pub keeps_used : KeepsUsed others.names others.kept → KeepsUsed v.names v.kept
    keeps_used k = (k.0, sym kept_is ∙ k.1, sym (ap is_some (seen k.0)) ∙ ap is_some (seen_tree slots.values others.names x.laid k.0 (x.laid.apart k.0 k.2)) ∙ k.2)

    -- ---- where a name is put

    abbrev pub Awaits : (name : ℕ) → Type 0
    Awaits name = (IsFreshIndex v.names (name / 256) × (0 < v.room)) ⊎ (v.kept ≡ Some name)

    module _ (name : ℕ) (place : Awaits name) (few : map.len v.names < 65535) where
      pub fresh_open : IsFreshIndex v.names (name / 256) → IsOpen slots.values (name / 256)
      fresh_open f = (f.positive, fresh_fits (name / 256) f few, (fresh_place (name / 256) f few).free)

      pub kept_place : (IsOpen slots.values (name / 256) → ⊥) → others.kept ≡ Some name
      kept_place closed = elim place [ inl f ↦ absurd (closed (fresh_open f.0)) | inr is ↦ kept_is ∙ is ]

      pub page_place : IsOpen slots.values (name / 256) → HasPlace slots (name / 256)
      page_place free = grind (arith, fresh_place, room_is, kept_is)

    pub taken_of : (k : ℕ) → (IsOpen slots.values k → ⊥) → 0 < k → k < 65536 → map.contains_key slots.values k ≡ true
    taken_of k closed a b = elim (known (map.get slots.values k)) [ inl none ↦ absurd (closed (a, b, none)) | inr some ↦ ap is_some some.1 ]

    -- ---- a slot is written, in a free place or in that of its name

    abbrev pub Fits : (k name : ℕ) → Type 0
    Fits k name = (q : ℕ) → q / 256 ≡ k → q ≢ name → placed slots.values q ≡ None

    pub free_fits : (k name : ℕ) → map.get slots.values k ≡ None → Fits k name
    free_fits k name none q at d = no_slot slots.values q (ap (map.get slots.values) at ∙ none)

    pub own_fits : (name : ℕ) → is_some (placed slots.values name) ≡ true → Fits (name / 256) name
    own_fits name used q at d = one_placed slots.values name q used at d

    module _ (new : PagesView (Slot V)) (name room : ℕ) (e : V)
        (is : new ≡ record { values = map.insert slots.values (name / 256) record { name = name; value = e }; room = room; made = slots.made }) (small : name / 256 < 65536) (fit : Fits (name / 256) name) where
      values_are : new.values ≡ map.insert slots.values (name / 256) record { name = name; value = e }
      values_are = ap (λ (w : PagesView (Slot V)). w.values) is

      pub ready_written : map.get others.names name ≡ None → IsReady new others
      ready_written none =
          ready_with new others (laid_at values_are refl (laid-put slots.values others.names x.laid (name / 256) record { name = name; value = e } refl small fit none)) (ap (λ (w : PagesView (Slot V)). w.made) is) refl

      pub names_written : joined new.values others.names 65536 ≡ map.insert v.names name e
      names_written = grind (arith, joined_at, values_are, joined-put, names_are)

      pub view_written : (left : ℕ) → room ≡ left →
          ◌≡◌ {A = PlacesView V} record { names = joined new.values others.names 65536; room = new.room; kept = others.kept } record { names = map.insert v.names name e; room = left; kept = v.kept }
      view_written left same = same_places _ _ _ left _ _ names_written (ap (λ (w : PagesView (Slot V)). w.room) is ∙ same) kept_is

    -- ---- the tree changes, at a name that has no place

    module _ (new : HighView V) (name : ℕ) (free : placed slots.values name ≡ None) where
      module _ (e : V) (is : new ≡ record { names = map.insert others.names name e; kept = others.kept }) where
        tree_is : new.names ≡ map.insert others.names name e
        tree_is = ap (λ (h : HighView V). h.names) is

        pub ready_put : (0 < name / 256 → name / 256 < 65536 → map.contains_key slots.values (name / 256) ≡ true) → IsReady slots new
        ready_put taken = ready_with slots new (laid_at refl tree_is (laid-put_tree slots.values others.names x.laid name free e taken)) refl (ap (λ (h : HighView V). h.kept) is)

        pub names_put : joined slots.values new.names 65536 ≡ map.insert v.names name e
        names_put = grind (arith, joined_at, tree_is, joined-put_tree, names_are)

        pub view_put : ◌≡◌ {A = PlacesView V} record { names = joined slots.values new.names 65536; room = slots.room; kept = new.kept } record { names = map.insert v.names name e; room = v.room; kept = v.kept }
        view_put = same_places _ _ _ _ _ _ names_put room_is (ap (λ (h : HighView V). h.kept) is ∙ kept_is)

      module _ (is : new ≡ record { names = map.remove others.names name; kept = others.kept }) where
        pub ready_out : IsReady slots new
        ready_out = ready_with slots new (laid_at refl (ap (λ (h : HighView V). h.names) is) (laid-out_tree slots.values others.names x.laid name free)) refl (ap (λ (h : HighView V). h.kept) is)

        pub view_out : ◌≡◌ {A = PlacesView V} record { names = joined slots.values new.names 65536; room = slots.room; kept = new.kept } record { names = map.remove v.names name; room = v.room; kept = v.kept }
        view_out = grind (arith, same_places, joined_at, joined-out_tree, names_are, room_is, kept_is)

-- nothing is there at first
nothing : {A : Type 0} (m : map.FinMap nat_cmp A) → m ≡ map.empty → (q : ℕ) → map.get m q ≡ None
nothing {A} m none q = ap (λ (a : map.FinMap nat_cmp A). map.get a q) none ∙ map.get-empty nat_cmp q

pub ready_empty : {V : Type 0} (slots : PagesView (Slot V)) (others : HighView V) → slots.values ≡ map.empty → ◌≡◌ {A = HighView V} others record { names = map.empty; kept = None } → IsReady slots others
ready_empty {V} slots others none is = grind (arith, some_or_none, nothing, none_or_used)

pub names_empty : {V : Type 0} (slots : PagesView (Slot V)) (others : HighView V) → slots.values ≡ map.empty → ◌≡◌ {A = HighView V} others record { names = map.empty; kept = None } → joined slots.values others.names 65536 ≡ map.empty
names_empty {V} slots others none is = grind (arith, same_gets, seen_tree, ready_empty, no_slot, nothing)
