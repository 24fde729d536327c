-- A port once it left one of its sets.
use Rattle.std.proofs.Common.{◌≡◌, ◌≢◌, ◌⊎◌, inl, inr, ℕ, Bool, cond, not, eqb, Option, Some, None, IfSome, IfNone, List, [], ◌∷◌, refl, ap, sym, subst, ◌∙◌, arith, Contains}
use Rattle.std.proofs.lemmas.List.Elements.{Contains-append_right, Contains-append_cases, Contains-push_cases}
use Rattle.std.specs.FinMap as map
use Rattle.member_lists.specs.Lists.{ListsView, list_of, without, IsApart}
use Rattle.member_lists.proofs.Listed.{list_other}
use Rattle.member_lists.proofs.Times.{equal_or_not, eqb_same, eqb_other, times_from_Contains, Contains_from_times, times-filter_in}
use Rattle.shared_lists.specs.Shared.{SharedView, more_of, IsFirst, parted, left, with_first, OthersKeep}
use Rattle.shared_lists.proofs.Standing.{without_from}
use Rattle.port_base.specs.declared.Membership.{Membership}
use Rattle.port_base.specs.declared.Membership.TheVariants.{Nowhere, Alone, Several}
use Rattle.port_base.specs.Memberships.{IsHome, IsParted, membership_in, sets_of}

-- ---- what is in a list

pub nothing_in : (y : ℕ) → Contains [] y → ⊥
nothing_in y c = omega (arith, c.1)

pub head_in : (y : ℕ) (ys : List ℕ) → Contains (y ∷ ys) y
head_in y ys = (0, omega arith, refl)

pub tail_in : (x y : ℕ) (ys : List ℕ) → Contains ys y → Contains (x ∷ ys) y
tail_in x y ys c = Contains-append_right (x ∷ []) ys y c

pub in_cases : (x y : ℕ) (ys : List ℕ) → Contains (x ∷ ys) y → (x ≡ y) ⊎ Contains ys y
in_cases x y ys c = elim (Contains-append_cases (x ∷ []) ys y c) [
  | inl a ↦ elim (Contains-push_cases [] x y a) [ inl b ↦ absurd (nothing_in y b) | inr b ↦ inl b ]
  | inr a ↦ inr a
]

pub only_in : (x y : ℕ) → Contains (x ∷ []) y → y ≡ x
only_in x y c = elim (in_cases x y [] c) [ inl e ↦ sym e | inr a ↦ absurd (nothing_in y a) ]

pub without_old : (x y : ℕ) (ys : List ℕ) → y ≢ x → Contains ys y → Contains (without x ys) y
without_old x y ys d c =
    let a = times_from_Contains y ys c in
    let b = times-filter_in (λ z. not (eqb z x)) y ys (ap not (eqb_other y x d)) in
    Contains_from_times y (without x ys) (omega arith)

-- ---- the sets that a port is in then

home_in : (v : SharedView) (key own : ℕ) → IsFirst v own key → (more : List ℕ) → more_of v key ≡ more → IsHome v key (membership_in (own ∷ more))
home_in v key own first [] is = (first, is)
home_in v key own first (x ∷ more) is = (first, λ e. (let f : x ∷ more ≡ [] = sym is ∙ e in cc))

sets_in : (v : SharedView) (key own : ℕ) (more : List ℕ) → more_of v key ≡ more → sets_of v key (membership_in (own ∷ more)) ≡ own ∷ more
sets_in v key own [] is = refl
sets_in v key own (x ∷ more) is = ap (λ ys. own ∷ ys) is

none_left : (set only : ℕ) → set ≡ only → without set (only ∷ []) ≡ []
none_left set only e = ap (λ b. cond (not b) (only ∷ []) (let none : List ℕ = [] in none)) (eqb_same only set (sym e))

module _ (old new : SharedView) (key set : ℕ) (is_ready : Bool) where
  parted-alone : (only : ℕ) → IsHome old key (Alone only) → Contains (only ∷ []) set → new ≡ left old only key is_ready → IsApart new.all key → IsParted old key (Alone only) set is_ready Nowhere new
  parted-alone only home there after apart =
      let e : set ≡ only = only_in only set there in
      let is : new ≡ left old set key is_ready = subst (λ n. new ≡ left old n key is_ready) (sym e) after in
      record {
        home = (apart, ap (λ (u : SharedView). more_of u key) after ∙ home.1);
        sets = sym (none_left set only e);
        lists = is ∙ ap (λ (u : SharedView). let w : SharedView = record (left old set key is_ready) { more = u.more; room = u.room } in w) (sym is);
        others = λ other d. ap (λ (u : SharedView). map.get u.more other) after;
      }

  module _ (first : ℕ) (stands : (list : ℕ) → Contains (first ∷ more_of old key) list → Contains (list_of old.all list) key) (after : new ≡ record (left old set key is_ready) { more = new.more; room = new.room }) (others : OthersKeep old new key) where
    -- it was in no other
    none_more : IsApart new.all key → (xs : List ℕ) → without set (first ∷ more_of old key) ≡ xs → xs ≡ []
    none_more apart [] e = refl
    none_more apart (x ∷ xs) e =
        let c = without_from set x (first ∷ more_of old key) (subst (λ ys. Contains ys x) (sym e) (head_in x xs)) in
        let was : Contains (list_of old.all x) key = stands x c.0 in
        let stays : Contains (list_of (parted old.all set key) x) key = subst (λ ys. Contains ys key) (sym (list_other old.all set (without key (list_of old.all set)) x c.1)) was in
        absurd (apart x (subst (λ (v : ListsView). Contains (list_of v x) key) (sym (ap (λ (u : SharedView). u.all) after)) stays))

    parted-several : (result : Option ℕ) (now : Membership) → with_first result (more_of new key) ≡ without set (first ∷ more_of old key) → IfSome result (λ own. IsFirst new own key) → IfNone result (IsApart new.all key) →
        ((own : ℕ) → result ≡ Some own → now ≡ membership_in (own ∷ more_of new key)) → (result ≡ None → now ≡ Nowhere) → IsParted old key (Several first) set is_ready now new
    parted-several None now lists firsts apart some none =
        let more : more_of new key ≡ [] = lists ∙ none_more apart (without set (first ∷ more_of old key)) refl in
        subst (λ m. IsParted old key (Several first) set is_ready m new) (sym (none refl)) (record { home = (apart, more); sets = sym more ∙ lists; lists = after; others = others })
    parted-several (Some own) now lists firsts apart some none =
        subst (λ m. IsParted old key (Several first) set is_ready m new) (sym (some own refl)) (record {
          home = home_in new key own firsts (more_of new key) refl;
          sets = sets_in new key own (more_of new key) refl ∙ lists;
          lists = after;
          others = others;
        })

-- the same by what is told of the port before
module _ (old new : SharedView) (key set : ℕ) (is_ready : Bool) (m : Membership) (home : IsHome old key m) (there : Contains (sets_of old key m) set) where
  pub parted_nowhere : m ≡ Nowhere → ⊥
  parted_nowhere e = nothing_in set (subst (λ n. Contains (sets_of old key n) set) e there)

  pub parted_alone : (only : ℕ) → m ≡ Alone only → new ≡ left old only key is_ready → IsApart new.all key → IsParted old key m set is_ready Nowhere new
  parted_alone only e after apart =
      subst (λ n. IsParted old key n set is_ready Nowhere new) (sym e) (parted-alone old new key set is_ready only (subst (IsHome old key) e home) (subst (λ n. Contains (sets_of old key n) set) e there) after apart)

  pub parted_several : (first : ℕ) → m ≡ Several first → ((list : ℕ) → Contains (sets_of old key m) list → Contains (list_of old.all list) key) → new ≡ record (left old set key is_ready) { more = new.more; room = new.room } → OthersKeep old new key →
      (result : Option ℕ) (now : Membership) → with_first result (more_of new key) ≡ without set (first ∷ more_of old key) → IfSome result (λ own. IsFirst new own key) → IfNone result (IsApart new.all key) →
      ((own : ℕ) → result ≡ Some own → now ≡ membership_in (own ∷ more_of new key)) → (result ≡ None → now ≡ Nowhere) → IsParted old key m set is_ready now new
  parted_several first e stands after others result now lists firsts apart some none =
      subst (λ n. IsParted old key n set is_ready now new) (sym e)
      (parted-several old new key set is_ready first (subst (λ n. (list : ℕ) → Contains (sets_of old key n) list → Contains (list_of old.all list) key) e stands) after others result now lists firsts apart some none)
