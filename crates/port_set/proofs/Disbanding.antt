-- Members that leave a set one after the other.
use Rattle.std.proofs.Common.{◌≡◌, ◌≢◌, ◌⊎◌, inl, inr, ℕ, zero, suc, ◌+◌, ◌<◌, ◌≤◌, ◌++◌, List, [], ◌∷◌, drop, slice_get, Bool, true, false, cond, refl, ap, sym, subst, ◌∙◌, Option, Some, None, IfSome, IfNone, is_some, arith, Contains}
use Rattle.std.specs.FinMap as map
use Rattle.std.specs.Option.{option_to_list}
use Rattle.port.specs.Ports.{PortView, PortsView, sets_in, with_sets, without, with_port, turned, IsIn, NoneIn}
use Rattle.port.specs.Turns.{turns_of, ready_if}
use Rattle.port.proofs.Each.{nothing_in, without_old, without_from, contains_or_not, is_contained}
use Rattle.port.proofs.InTurn.{turned_other}
use Rattle.port.proofs.Keys.{same_some, some_or_none, equal_or_not, put_here, put_other}
use Rattle.port_set.specs.Sets.{IsDisbanded}
use Rattle.port_set.specs.Kept.{is_member, members_below, IsLeaving}

one_less : (a b : Bool) (x y : ℕ) → a ≡ false → b ≡ true → x ≡ y → cond a 1 0 + x + 1 ≡ cond b 1 0 + y
one_less true b x y out was e = absurd (let no : true ≡ false = out in cc)
one_less false false x y out was e = absurd (let no : false ≡ true = was in cc)
one_less false true x y out was e = omega arith

as_many : (b : Bool) (x y : ℕ) → x + 1 ≡ y → cond b 1 0 + x + 1 ≡ cond b 1 0 + y
as_many true x y e = omega arith
as_many false x y e = omega arith

-- a port's sets are those that it is put into
sets_back : (xs : List ℕ) → option_to_list (slice_get xs 0) ++ drop 1 xs ≡ xs
sets_back [] = refl
sets_back (x ∷ xs) = refl

ready_within : {M : Type 0} (ms : List M) (xs ys : List ℕ) (s : ℕ) → (Contains xs s → Contains ys s) → Contains (ready_if ms xs) s → Contains (ready_if ms ys) s
ready_within [] xs ys s within c = absurd (nothing_in s c)
ready_within (m ∷ ms) xs ys s within c = within c

pub none_left : {M : Type 0} (old : PortsView M) (set : ℕ) → IsLeaving old old set
none_left old set = record { gone = λ q h. h; members = λ q p h m. inl h; others = λ q p h m. h; turns = λ other d. refl; made = refl; spare = refl; destroyed = refl; lost = refl; doomed = refl; noted = refl; several = refl }

module _ {M : Type 0} (set : ℕ) where
  -- the port in its other sets
  abbrev elsewhere : PortView M → PortView M
  elsewhere p = with_sets p (without set (sets_in p))

  sets_elsewhere : (p : PortView M) → sets_in (elsewhere p) ≡ without set (sets_in p)
  sets_elsewhere p = sets_back (without set (sets_in p))

  not_elsewhere : (p : PortView M) → Contains (sets_in (elsewhere p)) set → ⊥
  not_elsewhere p c = (without_from set set (sets_in p) (subst (λ xs. Contains xs set) (sets_elsewhere p) c)).1 refl

  no_member : (p : PortView M) → is_member set (Some (elsewhere p)) ≡ false
  no_member p = elim (contains_or_not (sets_in (elsewhere p)) set) [ inl a ↦ absurd (not_elsewhere p a.0) | inr a ↦ a.1 ]

module _ {M : Type 0} (mid new : PortsView M) (set port : ℕ) (inside : IsIn mid set port)
    (moved : (p : PortView M) → map.get mid.ports port ≡ Some p → new ≡ with_port mid port (with_sets p (without set (sets_in p)))) where
  is : new ≡ with_port mid port (elsewhere set inside.view)
  is = moved inside.view inside.there

  stays : (q : ℕ) → q ≢ port → map.get new.ports q ≡ map.get mid.ports q
  stays q d = ap (λ (v : PortsView M). map.get v.ports q) is ∙ put_other mid.ports port (elsewhere set inside.view) q d

  out_now : map.get new.ports port ≡ Some (elsewhere set inside.view)
  out_now = ap (λ (v : PortsView M). map.get v.ports port) is ∙ put_here mid.ports port (elsewhere set inside.view)

  other_turns : (other : ℕ) → other ≢ set → turns_of new.ready other ≡ turns_of mid.ready other
  other_turns other d =
      ap (λ (v : PortsView M). turns_of v.ready other) is
      ∙ ap (λ o. turns_of (turned mid.ready port o (elsewhere set inside.view)) other) inside.there
      ∙ turned_other mid.ready port inside.view (elsewhere set inside.view) other
      (ready_within inside.view.queue (sets_in inside.view) (sets_in (elsewhere set inside.view)) other (λ c. subst (λ xs. Contains xs other) (sym (sets_elsewhere set inside.view)) (without_old set other (sets_in inside.view) d c)))
      (ready_within inside.view.queue (sets_in (elsewhere set inside.view)) (sets_in inside.view) other (λ c. (without_from set other (sets_in inside.view) (subst (λ xs. Contains xs other) (sets_elsewhere set inside.view) c)).0))

  -- ---- one member less

  same_below : (n : ℕ) → n ≤ port → members_below new set n ≡ members_below mid set n
  same_below zero few = refl
  same_below (suc n) few =
      ap (λ o. cond (is_member set o) 1 0 + members_below new set n) (stays n (λ e. omega arith))
      ∙ ap (λ k. cond (is_member set (map.get mid.ports n)) 1 0 + k) (same_below n (omega arith))

  less_below : (n : ℕ) → port < n → members_below new set n + 1 ≡ members_below mid set n
  less_below zero more = absurd (omega arith)
  less_below (suc n) more = elim (equal_or_not n port) [
    | inl e ↦
        let was : is_member set (map.get mid.ports n) ≡ true = ap (λ q. is_member set (map.get mid.ports q)) e ∙ ap (is_member set) inside.there ∙ is_contained (sets_in inside.view) set inside.member in
        let now : is_member set (map.get new.ports n) ≡ false = ap (λ q. is_member set (map.get new.ports q)) e ∙ ap (is_member set) out_now ∙ no_member set inside.view in
        one_less (is_member set (map.get new.ports n)) (is_member set (map.get mid.ports n)) (members_below new set n) (members_below mid set n) now was (same_below n (omega arith))
    | inr d ↦
        ap (λ o. cond (is_member set o) 1 0 + members_below new set n + 1) (stays n d)
        ∙ as_many (is_member set (map.get mid.ports n)) (members_below new set n) (members_below mid set n) (less_below n (omega arith))
  ]

  made_same : new.made ≡ mid.made
  made_same = ap (λ (v : PortsView M). v.made) is

  pub fewer : members_below new set new.made < members_below mid set mid.made
  fewer =
      let less : members_below new set mid.made + 1 ≡ members_below mid set mid.made = less_below mid.made inside.given in
      let same : members_below new set new.made ≡ members_below new set mid.made = ap (members_below new set) made_same in
      omega arith

  -- ---- the others stay

  module _ (old : PortsView M) (so : IsLeaving old mid set) where
    seen : (q : ℕ) (p : PortView M) → q ≡ port → map.get mid.ports q ≡ Some p → inside.view ≡ p
    seen q p e h = same_some inside.view p (sym inside.there ∙ ap (map.get mid.ports) (sym e) ∙ h)

    member_after : (q : ℕ) (p : PortView M) → q ≡ port → map.get mid.ports q ≡ Some p → map.get new.ports q ≡ Some (elsewhere set p)
    member_after q p e h = ap (map.get new.ports) e ∙ out_now ∙ ap (λ (x : PortView M). Some (elsewhere set x)) (seen q p e h)

    still : (q : ℕ) (p : PortView M) → q ≡ port → map.get mid.ports q ≡ Some (elsewhere set p) → ⊥
    still q p e h = not_elsewhere set p (subst (λ (x : PortView M). Contains (sets_in x) set) (seen q (elsewhere set p) e h) inside.member)

    members_after : (q : ℕ) (p : PortView M) → map.get old.ports q ≡ Some p → Contains (sets_in p) set → (map.get new.ports q ≡ Some p) ⊎ (map.get new.ports q ≡ Some (elsewhere set p))
    members_after q p h m = elim (so.members q p h m) [
      | inl was ↦ elim (equal_or_not q port) [ inl e ↦ inr (member_after q p e was) | inr d ↦ inl (stays q d ∙ was) ]
      | inr out ↦ elim (equal_or_not q port) [ inl e ↦ absurd (still q p e out) | inr d ↦ inr (stays q d ∙ out) ]
    ]

    others_after : (q : ℕ) (p : PortView M) → map.get old.ports q ≡ Some p → (Contains (sets_in p) set → ⊥) → map.get new.ports q ≡ Some p
    others_after q p h m = elim (equal_or_not q port) [
      | inl e ↦ absurd (m (subst (λ (x : PortView M). Contains (sets_in x) set) (seen q p e (so.others q p h m)) inside.member))
      | inr d ↦ stays q d ∙ so.others q p h m
    ]

    gone_after : (q : ℕ) → map.get old.ports q ≡ None → map.get new.ports q ≡ None
    gone_after q h = elim (equal_or_not q port) [
      | inl e ↦ absurd (some_or_none inside.view (map.get mid.ports port) inside.there (ap (map.get mid.ports) (sym e) ∙ so.gone q h))
      | inr d ↦ stays q d ∙ so.gone q h
    ]

    pub left_more : IsLeaving old new set
    left_more = record {
      gone = gone_after;
      members = members_after;
      others = others_after;
      turns = λ other d. other_turns other d ∙ so.turns other d;
      made = made_same ∙ so.made;
      spare = ap (λ (v : PortsView M). v.spare) is ∙ so.spare;
      destroyed = ap (λ (v : PortsView M). v.destroyed) is ∙ so.destroyed;
      lost = ap (λ (v : PortsView M). v.lost) is ∙ so.lost;
      doomed = ap (λ (v : PortsView M). v.doomed) is ∙ so.doomed;
      noted = ap (λ (v : PortsView M). v.noted) is ∙ so.noted;
      several = ap (λ (v : PortsView M). v.several) is ∙ so.several;
    }

pub left_all : {M : Type 0} (old new : PortsView M) (set : ℕ) → IsLeaving old new set → NoneIn new set → IsDisbanded old new set
left_all old new set so none = record {
  gone = so.gone;
  members = λ q p h m. elim (so.members q p h m) [ inl still ↦ absurd (none.apart q p still m) | inr out ↦ out ];
  others = so.others;
  no_turns = none.turns;
  turns = so.turns;
  made = so.made;
  spare = so.spare;
  destroyed = so.destroyed;
  lost = so.lost;
  doomed = so.doomed;
  noted = so.noted;
  several = so.several;
}

-- the first member left, if there was one
pub left_next : {M : Type 0} (old mid new : PortsView M) (set : ℕ) (result : Option ℕ) → IfSome result (λ q. IsIn mid set q) →
    ((p : PortView M) → IfSome result (λ q. map.get mid.ports q ≡ Some p → new ≡ with_port mid q (with_sets p (without set (sets_in p))))) →
    is_some result ≡ true → IsLeaving old mid set → IsLeaving old new set × (members_below new set new.made < members_below mid set mid.made)
left_next old mid new set None inside moved some so = absurd (let f : false ≡ true = some in cc)
left_next old mid new set (Some q) inside moved some so = (left_more mid new set q inside moved old so, fewer mid new set q inside moved)

pub left_last : {M : Type 0} (old mid new : PortsView M) (set : ℕ) (result : Option ℕ) → IfNone result (NoneIn mid set × (new ≡ mid)) → is_some result ≡ false → IsLeaving old mid set → IsDisbanded old new set
left_last old mid new set None none gone so = subst (λ v. IsDisbanded old v set) (sym none.1) (left_all old mid set so none.0)
left_last old mid new set (Some q) none gone so = absurd (let f : true ≡ false = gone in cc)
