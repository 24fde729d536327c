-- Names in the places of their indices and in a tree, as one map.
use Rattle.std.proofs.Common.{◌≡◌, ◌≢◌, ◌⊎◌, inl, inr, ℕ, zero, suc, ◌/◌, ◌<◌, ◌≤◌, if◌then◌else◌, true, false, refl, ap, sym, ◌∙◌, Option, Some, None, is_some, arith}
use Rattle.std.proofs.lemmas.Bool.{cases_lt, cases_eq, eq-eqb, ne_eqb}
use Rattle.std.specs.Option.{option_or}
use Rattle.std.specs.Ordering.{nat_cmp}
use Rattle.std.specs.FinMap as map
use Rattle.std.specs.FinSet as set
use Rattle.name_space_base.proofs.Options.{none_or_used}
use Rattle.name_space_base.proofs.Tables.{put_here, put_other, out_here, out_other, in_here, in_other}
use Rattle.tagged_names.specs.declared.places.Slot.{Slot}
use Rattle.tagged_names.specs.Places.{Slots, value_for, placed, with_slot, joined, IsPlaced}

pub known : {A : Type 0} (o : Option A) → (o ≡ None) ⊎ ((x : A) × (o ≡ Some x))
known None = inl refl
known (Some x) = inr (x, refl)

pub there : {A : Type 0} (o : Option A) → is_some o ≡ true → (x : A) × (o ≡ Some x)
there None e = cc
there (Some x) e = (x, refl)

pub unused : {A : Type 0} (o : Option A) → (is_some o ≡ true → ⊥) → o ≡ None
unused None never = refl
unused (Some x) never = absurd (never refl)

pub empty_of : {A : Type 0} (o : Option A) → is_some o ≡ false → o ≡ None
empty_of None e = refl
empty_of (Some x) e = cc

-- a page that was made stays
pub page_stays : (made : set.FinSet nat_cmp) (k q : ℕ) → set.contains made q ≡ true → set.contains (set.insert made k) q ≡ true
page_stays made k q there = elim (cases_eq q k) [ inl e ↦ ap (set.contains (set.insert made k)) e ∙ in_here made k | inr d ↦ in_other made k q d ∙ there ]

module _ {V : Type 0} where
  pub own_name : (s : Slot V) (q : ℕ) → s.name ≡ q → value_for q (Some s) ≡ Some s.value
  own_name s q e = ap (λ b. if b then Some s.value else None) (eq-eqb s.name q e)

  pub other_name : (s : Slot V) (q : ℕ) → s.name ≢ q → value_for q (Some s) ≡ None
  other_name s q d = ap (λ b. if b then Some s.value else None) (ne_eqb s.name q d)

  with_here : (m : map.FinMap nat_cmp V) (o : Option (Slot V)) (q : ℕ) → map.get (with_slot m o) q ≡ option_or (value_for q o) (map.get m q)
  with_here m None q = refl
  with_here m (Some s) q = grind (arith, cases_eq, put_here, own_name, put_other, other_name)

  with_other : (m : map.FinMap nat_cmp V) (o : Option (Slot V)) (q b : ℕ) → ((s : Slot V) → o ≡ Some s → s.name / 256 ≡ b) → q / 256 ≢ b → map.get (with_slot m o) q ≡ map.get m q
  with_other m None q b of d = refl
  with_other m (Some s) q b of d = put_other m s.name s.value q (λ e. d (ap (λ n. n / 256) e ∙ of s refl))

  module _ (slots : Slots V) (tree : map.FinMap nat_cmp V) (x : IsPlaced slots) where
    joined-above : (bound q : ℕ) → bound ≤ q / 256 → map.get (joined slots tree bound) q ≡ map.get tree q
    unfolding joined
    joined-above zero q h = refl
    joined-above (suc b) q h = with_other (joined slots tree b) (map.get slots b) q b (x.indexed b) (λ e. omega arith) ∙ joined-above b q (omega arith)

    joined-below : (bound q : ℕ) → q / 256 < bound → map.get (joined slots tree bound) q ≡ option_or (placed slots q) (map.get tree q)
    unfolding joined
    joined-below zero q h = absurd (omega arith)
    joined-below (suc b) q h = elim (cases_eq (q / 256) b) [
      | inl e ↦ with_here (joined slots tree b) (map.get slots b) q ∙ ap (option_or (value_for q (map.get slots b))) (joined-above b q (omega arith))
          ∙ ap (λ k. option_or (value_for q (map.get slots k)) (map.get tree q)) (sym e)
      | inr d ↦ with_other (joined slots tree b) (map.get slots b) q b (x.indexed b) d ∙ joined-below b q (omega arith)
    ]

    pub get-joined : (q : ℕ) → map.get (joined slots tree 65536) q ≡ option_or (placed slots q) (map.get tree q)
    get-joined q = grind (arith, cases_lt, joined-below, joined-above)

  -- ---- which names have places, after a change

  module _ (slots : Slots V) where
    pub no_slot : (q : ℕ) → map.get slots (q / 256) ≡ None → placed slots q ≡ None
    no_slot q none = ap (value_for q) none

    pub slot_of : (q : ℕ) → is_some (placed slots q) ≡ true → (s : Slot V) × (map.get slots (q / 256) ≡ Some s) × (s.name ≡ q)
    slot_of q used = elim (known (map.get slots (q / 256))) [
      | inl none ↦ absurd (none_or_used (placed slots q) (no_slot q none) used)
      | inr some ↦ elim (cases_eq (some.0).name q) [
        | inl e ↦ (some.0, some.1, e)
        | inr d ↦ absurd (none_or_used (placed slots q) (ap (value_for q) some.1 ∙ other_name some.0 q d) used)
      ]
    ]

    -- where one name has the place of its index, no other name has it
    pub one_placed : (name q : ℕ) → is_some (placed slots name) ≡ true → q / 256 ≡ name / 256 → q ≢ name → placed slots q ≡ None
    one_placed name q used same d = grind (arith, slot_of, other_name)

    pub placed_here : (k : ℕ) (s : Slot V) (q : ℕ) → q / 256 ≡ k → s.name ≡ q → placed (map.insert slots k s) q ≡ Some s.value
    placed_here k s q of e = ap (λ n. value_for q (map.get (map.insert slots k s) n)) of ∙ ap (value_for q) (put_here slots k s) ∙ own_name s q e

    pub placed_beside : (k : ℕ) (s : Slot V) (q : ℕ) → q / 256 ≡ k → s.name ≢ q → placed (map.insert slots k s) q ≡ None
    placed_beside k s q of d = ap (λ n. value_for q (map.get (map.insert slots k s) n)) of ∙ ap (value_for q) (put_here slots k s) ∙ other_name s q d

    pub placed_other : (k : ℕ) (s : Slot V) (q : ℕ) → q / 256 ≢ k → placed (map.insert slots k s) q ≡ placed slots q
    placed_other k s q d = ap (value_for q) (put_other slots k s (q / 256) d)

    pub out_placed : (k q : ℕ) → q / 256 ≡ k → placed (map.remove slots k) q ≡ None
    out_placed k q of = ap (λ n. value_for q (map.get (map.remove slots k) n)) of ∙ ap (value_for q) (out_here slots k)

    pub out_placed_other : (k q : ℕ) → q / 256 ≢ k → placed (map.remove slots k) q ≡ placed slots q
    out_placed_other k q d = ap (value_for q) (out_other slots k (q / 256) d)
