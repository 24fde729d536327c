-- The lists of ports that wait and of those noted have no keys just where they have no identities.
use Rattle.std.proofs.Common.{◌≡◌, ◌⊎◌, eqb, length, inl, inr, ℕ, ◌<◌, Bool, false, true, cond, Option, Some, None, List, [], ◌∷◌, refl, ap, sym, subst, arith, Contains}
use Rattle.std.specs.Prelude as std
use Rattle.std.proofs.lemmas.Option.{slice_get_within, get_or_from_slice_get}
use Rattle.member_lists.specs.Lists.{ListsView, list_of}
use Rattle.port_base.specs.declared.Holder.{Holder}
use Rattle.port_base.specs.declared.Holder.TheVariants.{Task, QueueOf, Nobody, Doomed}
use Rattle.port_base.specs.declared.Record.{Record}
use Rattle.port_base.specs.Records.{ids_at, waits_in, lost_list, doomed_list, noted_list}
use Rattle.port.specs.Records.{ids_in, IsAwaited, IsNoted}
use Rattle.member_lists.proofs.Times.{eqb_is}
use Rattle.port.proofs.Keys.{same_some}

no_keys : (f : ℕ → ℕ) (xs : List ℕ) → std.map f xs ≡ [] → xs ≡ []
no_keys f [] e = refl
no_keys f (x ∷ xs) e = cc

nothing_in : (xs : List ℕ) (x : ℕ) → xs ≡ [] → Contains xs x → ⊥
nothing_in [] x e c = let less : c.0 < 0 = c.1 in omega arith
nothing_in (y ∷ xs) x e c = cc

no_items : (xs : List ℕ) → ((x : ℕ) → Contains xs x → ⊥) → xs ≡ []
no_items [] h = refl
no_items (x ∷ xs) h = absurd (h x (0, slice_get_within (x ∷ xs) 0 x refl, get_or_from_slice_get (x ∷ xs) 0 x x refl))

pub none_of : {A : Type 0} (xs : List A) → eqb (length xs) 0 ≡ true → xs ≡ []
none_of [] e = refl
none_of (x ∷ xs) e = absurd (let none = eqb_is (length (x ∷ xs)) 0 e in omega arith)

pub no_length : {A : Type 0} (xs : List A) → xs ≡ [] → eqb (length xs) 0 ≡ true
no_length xs e = ap (λ ys. eqb (length ys) 0) e

which_waits : (h : Holder) (l : ℕ) → waits_in h ≡ Some l → (l ≡ lost_list) ⊎ (l ≡ doomed_list)
which_waits (Task task) l e = cc
which_waits (QueueOf q) l e = cc
which_waits Nobody l e = inl (sym (same_some lost_list l e))
which_waits Doomed l e = inr (sym (same_some doomed_list l e))

which_noted : (b : Bool) (l : ℕ) → cond b (Some noted_list) None ≡ Some l → l ≡ noted_list
which_noted true l e = sym (same_some noted_list l e)
which_noted false l e = cc

module _ {M : Type 0} (at : ℕ → Option (Record M)) where
  pub none_listed : (lists : ListsView) → ((l : ℕ) → list_of lists l ≡ []) → (l : ℕ) → ids_in at lists l ≡ []
  none_listed lists none l = ap (ids_at at) (none l)

  pub none_waits : (waiting : ListsView) → IsAwaited at waiting → ids_in at waiting lost_list ≡ [] → ids_in at waiting doomed_list ≡ [] → (l : ℕ) → list_of waiting l ≡ []
  none_waits waiting awaited lost doomed l = no_items (list_of waiting l) (λ x c.
      let r = awaited.held x l c in
      elim (which_waits r.0.kept.attributes.holder l ((awaited.stands x r.0 r.1).only l c)) [
        | inl is ↦ nothing_in (list_of waiting lost_list) x (no_keys _ (list_of waiting lost_list) lost) (subst (λ k. Contains (list_of waiting k) x) is c)
        | inr is ↦ nothing_in (list_of waiting doomed_list) x (no_keys _ (list_of waiting doomed_list) doomed) (subst (λ k. Contains (list_of waiting k) x) is c)
      ])

  pub none_noted : (noting : ListsView) → IsNoted at noting → ids_in at noting noted_list ≡ [] → (l : ℕ) → list_of noting l ≡ []
  none_noted noting are_noted none l = no_items (list_of noting l) (λ x c.
      let r = are_noted.held x l c in
      nothing_in (list_of noting noted_list) x (no_keys _ (list_of noting noted_list) none)
      (subst (λ k. Contains (list_of noting k) x) (which_noted r.0.kept.is_noted l ((are_noted.stands x r.0 r.1).only l c)) c))
