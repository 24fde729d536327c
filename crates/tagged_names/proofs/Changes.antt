-- Names in places and in a tree, as one changes.
use Rattle.std.proofs.Common.{◌≡◌, ◌≢◌, ℕ, ◌/◌, ◌<◌, true, ap, sym, ◌∙◌, Some, None, is_some, arith}
use Rattle.std.proofs.lemmas.Bool.{cases_lt, cases_eq}
use Rattle.std.specs.Option.{option_or}
use Rattle.std.specs.Ordering.{nat_cmp}
use Rattle.std.specs.FinMap as map
use Rattle.name_space_base.proofs.Tables.{same_gets, put_here, put_other, out_here, out_other}
use Rattle.tagged_names.specs.declared.places.Slot.{Slot}
use Rattle.tagged_names.specs.Places.{Slots, placed, joined, IsPlaced, IsLaid}
use Rattle.name_space_base.proofs.Options.{same_some, some_or_none, none_or_used}
use Rattle.tagged_names.proofs.Joined.{there, unused, get-joined, no_slot, one_placed, placed_here, placed_beside, placed_other, out_placed, out_placed_other}

module _ {V : Type 0} (slots : Slots V) (tree : map.FinMap nat_cmp V) (x : IsLaid slots tree) where
  abbrev all : map.FinMap nat_cmp V
  all = joined slots tree 65536

  pub seen_all : (q : ℕ) → map.get all q ≡ option_or (placed slots q) (map.get tree q)
  seen_all q = get-joined slots tree x.slots_placed q

  pub seen_place : (q : ℕ) (v : V) → placed slots q ≡ Some v → map.get all q ≡ Some v
  seen_place q v is = seen_all q ∙ ap (λ o. option_or o (map.get tree q)) is

  pub seen_tree : (q : ℕ) → placed slots q ≡ None → map.get all q ≡ map.get tree q
  seen_tree q none = seen_all q ∙ ap (λ o. option_or o (map.get tree q)) none

  -- a name with a place isn't in the tree
  pub not_in_tree : (q : ℕ) → is_some (placed slots q) ≡ true → map.get tree q ≡ None
  not_in_tree q used = unused (map.get tree q) (λ there. none_or_used (placed slots q) (x.apart q there) used)

  -- its index can be fresh
  pub placed_small : (q : ℕ) → is_some (placed slots q) ≡ true → q / 256 < 65536
  placed_small q used = grind (arith, cases_lt, none_or_used, no_slot)

  pub free_place : (q : ℕ) → map.get all q ≡ None → placed slots q ≡ None
  free_place q none = grind (arith, unused, there, some_or_none, seen_place)

  pub free_tree : (q : ℕ) → map.get all q ≡ None → map.get tree q ≡ None
  free_tree q none = sym (seen_tree q (free_place q none)) ∙ none

  -- ---- a slot is written, where no other name has its place

  module _ (k : ℕ) (s : Slot V) (at : s.name / 256 ≡ k) (small : k < 65536) where
    pub placed-put : IsPlaced (map.insert slots k s)
    placed-put = grind (arith, put_other, cases_eq, same_some, put_here)

    abbrev fits : Type 0
    fits = (q : ℕ) → q / 256 ≡ k → q ≢ s.name → placed slots q ≡ None

    pub placed_then : fits → (q : ℕ) → q ≢ s.name → placed (map.insert slots k s) q ≡ placed slots q
    placed_then fit q d = grind (arith, cases_eq, placed_beside, placed_other)

    pub joined-put : fits → joined (map.insert slots k s) tree 65536 ≡ map.insert all s.name s.value
    joined-put fit = grind (arith, same_gets, get-joined, placed-put, cases_eq, placed_here, put_here, placed_then, seen_all, put_other)

    slot_kept : (i : ℕ) → map.contains_key slots i ≡ true → map.contains_key (map.insert slots k s) i ≡ true
    slot_kept i used = grind (arith, cases_eq, is_some, put_here, put_other)

    pub laid-put : fits → map.get tree s.name ≡ None → IsLaid (map.insert slots k s) tree
    laid-put fit none = grind (arith, placed-put, placed_then, none_or_used, slot_kept)

    -- another name takes the place
    module _ (name : ℕ) (used : is_some (placed slots name) ≡ true) (of : name / 256 ≡ k) (other : map.get tree s.name ≡ Some s.value) where
      apart_name : s.name ≢ name
      apart_name e = some_or_none s.value _ other (ap (map.get tree) e ∙ not_in_tree name used)

      none_placed : (q : ℕ) → q / 256 ≡ k → q ≢ name → placed slots q ≡ None
      none_placed q same d = one_placed slots name q used (same ∙ sym of) d

      pub joined-moved : joined (map.insert slots k s) (map.remove tree s.name) 65536 ≡ map.remove all name
      joined-moved = grind (arith, same_gets, get-joined, placed-put, cases_eq, placed_here, out_other, apart_name, seen_tree, none_placed, placed_beside, not_in_tree, out_here, seen_all, placed_other)

      left : (q : ℕ) → map.contains_key (map.remove tree s.name) q ≡ true → (q ≢ s.name) × (map.contains_key tree q ≡ true)
      left q h = grind (arith, cases_eq, none_or_used, out_here, is_some, out_other)

      pub laid-moved : IsLaid (map.insert slots k s) (map.remove tree s.name)
      laid-moved = grind (arith, placed-put, cases_eq, placed_beside, left, placed_other, slot_kept)

  -- ---- a slot goes, where the tree has no name of its index

  module _ (name : ℕ) (used : is_some (placed slots name) ≡ true) (alone : (q : ℕ) → q / 256 ≡ name / 256 → map.get tree q ≡ None) where
    placed-out : IsPlaced (map.remove slots (name / 256))
    placed-out = grind (arith, cases_eq, some_or_none, out_here, out_other)

    pub joined-out : joined (map.remove slots (name / 256)) tree 65536 ≡ map.remove all name
    joined-out = grind (arith, same_gets, get-joined, placed-out, cases_eq, out_placed, out_here, out_other, seen_tree, one_placed, out_placed_other, seen_all)

    pub laid-out : IsLaid (map.remove slots (name / 256)) tree
    laid-out = grind (arith, placed-out, cases_eq, out_placed, out_placed_other, is_some, out_other, none_or_used)

  -- ---- the tree changes

  module _ (name : ℕ) (free : placed slots name ≡ None) where
    pub joined-put_tree : (v : V) → joined slots (map.insert tree name v) 65536 ≡ map.insert all name v
    joined-put_tree v = grind (arith, same_gets, get-joined, cases_eq, put_here, put_other, seen_all)

    pub laid-put_tree : (v : V) → (0 < name / 256 → name / 256 < 65536 → map.contains_key slots (name / 256) ≡ true) → IsLaid slots (map.insert tree name v)
    laid-put_tree v taken = grind (arith, cases_eq, is_some, put_other)

    pub joined-out_tree : joined slots (map.remove tree name) 65536 ≡ map.remove all name
    joined-out_tree = grind (arith, same_gets, get-joined, cases_eq, out_here, out_other, seen_all)

    pub laid-out_tree : IsLaid slots (map.remove tree name)
    laid-out_tree = grind (arith, cases_eq, none_or_used, out_here, is_some, out_other)
