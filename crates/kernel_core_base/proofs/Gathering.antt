-- The names of a set's members, gathered from its ports.
use Rattle.std.proofs.Common.{◌≡◌, inl, inr, ℕ, Bool, true, false, List, [], ◌∷◌, ◌++◌, Option, Some, None, is_some, IfSome, refl, sym, ap, subst, ◌∙◌, ◌⊎◌, arith}
use Rattle.std.specs.Prelude.{Contains, cond}
use Rattle.std.specs.BTreeSet.{BTreeSet, contains, IsOrdered, IsEmpty, Updates}
use Rattle.std.specs.FinMap as map
use Rattle.std.specs.declared.cmp.Ordering.TheVariants.{Equal}
use Rattle.std.specs.Ordering.{nat_cmp}
use Rattle.std.proofs.lemmas.Cmp.{nat_cmp_total}
use Rattle.std.proofs.lemmas.List.Elements.{All-contains, filter_passes, Contains-push_cases}
use Rattle.std.proofs.lemmas.Map.Lookups.{btree_set_from_contains}
use Rattle.std.proofs.lemmas.Map.Views.{btree_set_contains_iff}
use Rattle.std.specs.Option.{option_and_then}
use Rattle.name_space.specs.declared.Entry.{Entry}
use Rattle.name_space.specs.Entry.{port_named, receive_named}
use Rattle.name_space.specs.Names.{Names, port_at}
use Rattle.port.specs.Ports.{IsIn, PortView, sets_in}
use Rattle.copyin_base.specs.Kept.{Kept}
use Rattle.copyin_base.specs.Worlds.{WorldView}
use Rattle.copyin_base.specs.Worlds as world
use Rattle.copyin_base.proofs.InSets.{in_set, set_has}
use Rattle.copyin_base.proofs.Told.{receive_has}
use Rattle.kernel_core_base.specs.Gathered.{IsNoted, AreGathered}
use Rattle.kernel_core_base.specs.Sets.{is_member, members_in}
use Rattle.kernel_core_base.proofs.Members.{same_key, kept_key, kept_sorted, is_one, member_is}

no_true : false ≡ true → ⊥
no_true e = cc

same_bool : (a b : Bool) → (a ≡ true → b ≡ true) → (b ≡ true → a ≡ true) → a ≡ b
same_bool true b f g = sym (f refl)
same_bool false true f g = g refl
same_bool false false f g = refl

-- ---- one name more

pub noted_none : (old : BTreeSet ℕ) → IsOrdered nat_cmp old → IsNoted old old None
noted_none old ordered = record { ordered = ordered; only = λ n has. inl has; kept = λ n has. has; has = λ n e. absurd (cc) }

either : (b old : Bool) → cond b true old ≡ true → (old ≡ true) ⊎ (b ≡ true)
either true old e = inr refl
either false old e = inl e

keeps : (b old : Bool) → old ≡ true → cond b true old ≡ true
keeps true old e = refl
keeps false old e = e

pub noted_some : (old new : BTreeSet ℕ) (k : ℕ) → IsOrdered nat_cmp new → Updates nat_cmp old new k true → IsNoted old new (Some k)
noted_some old new k ordered up = grind (arith, either, same_key, keeps)

-- ---- one name that is looked at

pub stands_for : (names : Names) (n : ℕ) (e : Entry) (p : ℕ) → map.get names n ≡ Some e → receive_named e ≡ Some p → port_at names n ≡ Some p
stands_for names n e p under named = ap (option_and_then port_named) under ∙ (receive_has e p named).0

pub is_of_set : (w : WorldView) (set : ℕ) (o : Option Entry) (e : Entry) (p : ℕ) → o ≡ Some e → receive_named e ≡ Some p → IsIn w.ports set p → is_member w set o ≡ true
is_of_set w set o e p under named i = is_one w set o record { e = e; under = under; p = p; named = named; in_it = set_has w p set i.view i.there i.member }

-- ---- all names

pub gathered_none : (w : WorldView) (set : ℕ) (names : Names) (numbers : BTreeSet ℕ) → IsOrdered nat_cmp numbers → IsEmpty numbers → AreGathered w set names [] numbers
gathered_none w set names numbers ordered empty = grind (arith, no_true)

pub gathered_more : (w : WorldView) (set : ℕ) (names : Names) (ports : List ℕ) (p : ℕ) (old new : BTreeSet ℕ) (name : Option ℕ) → AreGathered w set names ports old → IsNoted old new name
    → IfSome name (λ n. is_member w set (map.get names n) ≡ true)
    → ((n : ℕ) → port_at names n ≡ Some p → is_member w set (map.get names n) ≡ true → name ≡ Some n)
    → AreGathered w set names (ports ++ p ∷ []) new
gathered_more w set names ports p old new name g noted found only = record {
  ordered = noted.ordered;
  only = λ n has. elim (noted.only n has) [
    | inl was ↦ g.only n was
    | inr is ↦ subst (λ o. IfSome o (λ m. is_member w set (map.get names m) ≡ true)) is found
  ];
  all = λ q n c named is. elim (Contains-push_cases ports p q c) [
    | inl was ↦ noted.kept n (g.all q n was named is)
    | inr same ↦ noted.has n (only n (named ∙ ap Some (sym same)) is)
  ];
}

-- what a member's name is for is one of the set's ports
named_port : (w : WorldView) (set : ℕ) (names : Names) (ports : List ℕ) → ((p : ℕ) (v : PortView Kept) → world.port_at w p ≡ Some v → Contains (sets_in v) set → Contains ports p)
    → (n : ℕ) → is_member w set (map.get names n) ≡ true → (p : ℕ) × Contains ports p × (port_at names n ≡ Some p)
named_port w set names ports all n is =
    let m = member_is w set (map.get names n) is in
    let i = in_set w m.p set m.in_it in
    (m.p, all m.p i.view i.there i.member, stands_for names n m.e m.p m.under m.named)

pub gathered_all : (w : WorldView) (set : ℕ) (names : Names) (ports : List ℕ) (numbers : BTreeSet ℕ) → AreGathered w set names ports numbers
    → ((p : ℕ) (v : PortView Kept) → world.port_at w p ≡ Some v → Contains (sets_in v) set → Contains ports p) → numbers.keys ≡ members_in w set names
gathered_all w set names ports numbers g all = btree_set_from_contains nat_cmp_total numbers listed g.ordered (kept_sorted names test) (λ n. same_bool (contains nat_cmp numbers n) (contains nat_cmp listed n) (to n) (back n)) equal_same
  where
    test : ℕ → Bool
    test n = is_member w set (map.get names n)

    listed : BTreeSet ℕ
    listed = record { keys = members_in w set names }

    equal_same : (x y : ℕ) → nat_cmp x y ≡ Equal → x ≡ y
    equal_same x y e = map.nat_cmp-IsAntisymmetric x y e

    to : (n : ℕ) → contains nat_cmp numbers n ≡ true → contains nat_cmp listed n ≡ true
    to n has =
        let is = g.only n has in
        let m = member_is w set (map.get names n) is in
        (btree_set_contains_iff nat_cmp_total equal_same listed n).1 (kept_key names test n (ap is_some m.under) is)

    back : (n : ℕ) → contains nat_cmp listed n ≡ true → contains nat_cmp numbers n ≡ true
    back n has =
        let inside = (btree_set_contains_iff nat_cmp_total equal_same listed n).0 has in
        let is : test n ≡ true = All-contains (λ k. test k ≡ true) (members_in w set names) n (filter_passes test (map.keys names)) inside in
        let port = named_port w set names ports all n is in
        g.all port.0 n port.1 port.2 is
