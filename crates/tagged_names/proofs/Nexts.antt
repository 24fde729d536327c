-- The next name, of those in places and those in a tree.
use Rattle.std.proofs.Common.{◌≡◌, inl, inr, ℕ, ◌+◌, ◌/◌, ◌<◌, ◌≤◌, true, false, cond, nat_lt, refl, ap, sym, subst, ◌∙◌, Option, Some, None, is_some, IfSome, IfNone, arith}
use Rattle.std.proofs.lemmas.Bool.{cases_lt}
use Rattle.std.proofs.lemmas.Bool.Decides.{nat_tests}
use Rattle.std.specs.Ordering.{nat_cmp}
use Rattle.std.specs.FinMap as map
use Rattle.name_space_base.specs.Pages.{IsNextUsed}
use Rattle.tagged_names.specs.declared.places.Slot.{Slot}
use Rattle.tagged_names.specs.Places.{Slots, value_for, placed, joined, least_of, IsPlaced, IsLaid, IsNextPlaced}
use Rattle.tagged_names.proofs.Joined.{there, no_slot, own_name, other_name}
use Rattle.tagged_names.proofs.Changes.{seen_place, seen_tree}

module _ {V : Type 0} (slots : Slots V) (x : IsPlaced slots) (start : ℕ) where
  of_slot : (q k : ℕ) (s : Slot V) → map.get slots k ≡ Some s → q / 256 ≡ k → placed slots q ≡ value_for q (Some s)
  of_slot q k s is at = ap (λ n. value_for q (map.get slots n)) at ∙ ap (value_for q) is

  used_slot : (k : ℕ) (s : Slot V) → map.get slots k ≡ Some s → is_some (placed slots s.name) ≡ true
  used_slot k s is = ap is_some (of_slot s.name k s is (x.indexed k s is) ∙ own_name s s.name refl)

  pub next_here : (s : Slot V) → map.get slots (start / 256) ≡ Some s → start ≤ s.name → IsNextPlaced slots start s.name
  next_here s is h = grind (arith, x.indexed (start / 256) s is)

  -- no name from here on has the place of this very index
  abbrev pub NoneHere : Type 0
  NoneHere = (n : ℕ) → start ≤ n → n / 256 ≡ start / 256 → placed slots n ≡ None

  pub none_here : map.get slots (start / 256) ≡ None → NoneHere
  none_here none n a at = no_slot slots n (ap (map.get slots) at ∙ none)

  pub less_here : (s : Slot V) → map.get slots (start / 256) ≡ Some s → s.name < start → NoneHere
  less_here s is less n a at = of_slot n (start / 256) s is at ∙ other_name s n (λ e. omega arith)

  pub next_above : NoneHere → (k : ℕ) (s : Slot V) → IsNextUsed slots (start / 256 + 1) k → map.get slots k ≡ Some s → IsNextPlaced slots start s.name
  next_above none k s next is = grind (arith, x.indexed k s is, next.from)

is_less : (a b : ℕ) → a < b → nat_lt a b ≡ true
is_less a b h = grind (arith, nat_tests)

is_no_less : (a b : ℕ) → b ≤ a → nat_lt a b ≡ false
is_no_less a b h = grind (arith, nat_tests)

module _ {V : Type 0} (slots : Slots V) (tree : map.FinMap nat_cmp V) (x : IsLaid slots tree) (start : ℕ) where
  abbrev all : map.FinMap nat_cmp V
  all = joined slots tree 65536

  first_placed : (p : ℕ) → IsNextPlaced slots start p → ((n : ℕ) → start ≤ n → n < p → map.get tree n ≡ None) → IsNextUsed all start p
  first_placed p f none = grind (arith, there, is_some, seen_place, seen_tree)

  first_other : (q : ℕ) → IsNextUsed tree start q → ((n : ℕ) → start ≤ n → n < q → placed slots n ≡ None) → IsNextUsed all start q
  first_other q f none = grind (arith, is_some, seen_tree)

  pub next_found : (a b : Option ℕ) → IfSome a (IsNextPlaced slots start) → IfNone a ((n : ℕ) → start ≤ n → placed slots n ≡ None) → IfSome b (IsNextUsed tree start)
      → IfNone b ((n : ℕ) → start ≤ n → map.get tree n ≡ None) → IfSome (least_of a b) (IsNextUsed all start)
  next_found None None f none g empty = tt
  next_found None (Some q) f none g empty = first_other q g (λ n a b. none n a)
  next_found (Some p) None f none g empty = first_placed p f (λ n a b. empty n a)
  next_found (Some p) (Some q) f none g empty = elim (cases_lt q p) [
    | inl h ↦ subst (λ b. IsNextUsed all start (cond b q p)) (sym (is_less q p h)) (first_other q g (λ n a b. f.least n a (omega arith)))
    | inr h ↦ subst (λ b. IsNextUsed all start (cond b q p)) (sym (is_no_less q p h)) (first_placed p f (λ n a b. g.least n a (omega arith)))
  ]

  pub next_none : (a b : Option ℕ) → IfNone a ((n : ℕ) → start ≤ n → placed slots n ≡ None) → IfNone b ((n : ℕ) → start ≤ n → map.get tree n ≡ None)
      → IfNone (least_of a b) ((n : ℕ) → start ≤ n → map.get all n ≡ None)
  next_none None None none empty = λ n a. seen_tree slots tree x n (none n a) ∙ empty n a
  next_none None (Some q) none empty = tt
  next_none (Some p) None none empty = tt
  next_none (Some p) (Some q) none empty = tt
