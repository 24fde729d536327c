-- Names, counts and room as a whole, as one name changes.
use Rattle.std.proofs.Common.{◌≡◌, ◌⊎◌, inl, inr, ℕ, ◌+◌, ◌-◌, ◌/◌, ◌<◌, ◌≤◌, true, cond, min, ap, sym, subst, ◌∙◌, Some, None, is_some, arith}
use Rattle.std.proofs.lemmas.Bool.{cases_eq}
use Rattle.std.specs.Ordering.{nat_cmp}
use Rattle.std.specs.Cmp.{nat_cmp_total}
use Rattle.std.specs.FinMap as map
use Rattle.name_space_base.proofs.Options.{same_some, some_or_none}
use Rattle.name_space_base.proofs.Tables.{put_here, put_other, out_other, len-put, len-kept, len-out}
use Rattle.tagged_names.specs.Names.{TaggedView, IsTaken, IsFreshIndex, CanCount, HasPlace}
use Rattle.tagged_names.specs.Places.{PlacesView}
use Rattle.tagged_names.specs.Counts.{CountsView}
use Rattle.tagged_names.specs.Sound.{IsSound}
use Rattle.tagged_names.proofs.Fresh.{all_taken, lesser_taken}

pub sound_new : {V : Type 0} (p : PlacesView V) (c : CountsView) → ◌≡◌ {A = PlacesView V} p record { names = map.empty; room = 0; kept = None } → IsSound p c 0 0
sound_new {V} p c is = record {
  counted = sym (ap (λ (w : PlacesView V). map.len w.names) is ∙ map.len-empty nat_cmp V);
  few = omega arith;
  has_room = omega arith;
  has_counts = omega arith;
  has_one_more = λ awaited. elim awaited [ inl some ↦ absurd (omega arith) | inr w ↦ absurd (some_or_none w.0 _ w.1 (ap (λ (w : PlacesView V). w.kept) is)) ];
}

module _ {V : Type 0} (p : PlacesView V) (c : CountsView) (len room : ℕ) (x : IsSound p c len room) where
  module _ (new : PlacesView V) (name : ℕ) where
    put_used : (e : V) (n : ℕ) → new.names ≡ map.insert p.names name e → n ≡ name → map.get new.names n ≡ None → ⊥
    put_used e n is same none = grind (arith, some_or_none, put_here)

    pub sound_put : (e : V) (left : ℕ) → new.names ≡ map.insert p.names name e → new.kept ≡ p.kept → map.get p.names name ≡ None → p.room - 1 ≤ new.room → left ≡ room - 1
        → (0 < room) ⊎ (p.kept ≡ Some name) → map.len p.names < 65535 → IsSound new c (len + 1) left
    sound_put e left is same none fits less place not_full = grind (arith, len-put, min, put_used, same_some)

    pub sound_set : (e : V) → new ≡ record { names = map.insert p.names name e; room = p.room; kept = p.kept } → map.contains_key p.names name ≡ true → IsSound new c len room
    sound_set e is used = grind (arith, len-kept, cases_eq, put_used, put_other)

    pub some_left : map.contains_key p.names name ≡ true → 1 ≤ len
    some_left used = let less = len-out p.names name used in let was = x.counted in omega arith

    module _ (is : new ≡ record { names = map.remove p.names name; room = p.room; kept = p.kept }) where
      pub sound_out : map.contains_key p.names name ≡ true → IsSound new c (len - 1) room
      sound_out used =
          let less : map.len (map.remove p.names name) + 1 ≡ map.len p.names = len-out p.names name used in
          let same : map.len new.names ≡ map.len (map.remove p.names name) = ap (λ (w : PlacesView V). map.len w.names) is in
          let left : new.room ≡ p.room = ap (λ (w : PlacesView V). w.room) is in
          let was = x.counted in
          let had = x.has_room in
          let reach = x.has_counts in
          let few = x.few in record { counted = omega arith; few = omega arith; has_room = omega arith; has_counts = omega arith; has_one_more = λ awaited. omega arith }

      pub sound_same : map.get p.names name ≡ None → IsSound new c len room
      sound_same none =
          let same : map.len new.names ≡ map.len p.names = ap (λ (w : PlacesView V). map.len w.names) is ∙ map.len-remove nat_cmp_total p.names name ∙ ap (λ o. cond (is_some o) (map.len p.names - 1) (map.len p.names)) none in
          let left : new.room ≡ p.room = ap (λ (w : PlacesView V). w.room) is in
          let was = x.counted in
          let had = x.has_room in
          record {
            counted = omega arith;
            few = x.few;
            has_room = omega arith;
            has_counts = x.has_counts;
            has_one_more = λ awaited. x.has_one_more (elim awaited [
              | inl some ↦ inl some
              | inr w ↦ inr (
                w.0,
                sym (ap (λ (w : PlacesView V). w.kept) is) ∙ w.1,
                elim (cases_eq w.0 name) [
                  | inl e ↦ ap (map.get p.names) e ∙ none
                  | inr d ↦ sym (ap (λ (m : PlacesView V). map.get m.names w.0) is ∙ out_other p.names name w.0 d) ∙ w.2
                ],
              )
            ]);
          }

-- other counts, with the same places
pub sound_counted : {V : Type 0} (p : PlacesView V) (c : CountsView) (len room : ℕ) (new : CountsView) → new.reach ≡ c.reach → IsSound p c len room → IsSound p new len room
sound_counted p c len room new same x = grind arith

-- room as a whole is room among the places
pub room_within : {V : Type 0} (p : PlacesView V) (c : CountsView) (len room : ℕ) → IsSound p c len room → (v : TaggedView V) → ◌≡◌ {A = TaggedView V} record { names = p.names; given = c.given; room = room; kept = p.kept } v → 0 < v.room → 0 < p.room
room_within p c len room x v view_is some = grind arith

-- a name that has a place as a whole has one among the places
pub place_for : {V : Type 0} (p : PlacesView V) (c : CountsView) (len room : ℕ) → IsSound p c len room → (v : TaggedView V)
    → ◌≡◌ {A = TaggedView V} record { names = p.names; given = c.given; room = room; kept = p.kept } v → (name : ℕ) → HasPlace v name → (IsFreshIndex p.names (name / 256) × (0 < p.room)) ⊎ (p.kept ≡ Some name)
place_for {V} p c len room x v view_is name place = grind arith

-- an index that can be counted has a place for its count
pub count_place : {V : Type 0} (p : PlacesView V) (c : CountsView) (len room : ℕ) → IsSound p c len room → (v : TaggedView V) → ◌≡◌ {A = TaggedView V} record { names = p.names; given = c.given; room = room; kept = p.kept } v
    → (k : ℕ) → CanCount v k → k ≤ c.reach
count_place {V} p c len room x v view_is k can =
    let names : map.len p.names ≡ map.len v.names = ap (λ (w : TaggedView V). map.len w.names) view_is in
    let left : room ≡ v.room = ap (λ (w : TaggedView V). w.room) view_is in
    let was = x.counted in
    let reach = x.has_counts in
    let small = can.small in
    elim can.here [
      | inl some ↦ (let few : k ≤ map.len v.names + 1 = lesser_taken v.names k can.least in omega arith)
      | inr taken ↦ (let few : k ≤ map.len v.names = all_taken v.names k (up_to taken) in omega arith)
    ]
  where
    up_to : IsTaken v.names k → (i : ℕ) → 0 < i → i ≤ k → IsTaken v.names i
    up_to taken i a b = elim (cases_eq i k) [ inl e ↦ subst (IsTaken v.names) (sym e) taken | inr d ↦ can.least i a (omega arith) ]
