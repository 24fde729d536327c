-- The names of a set's members.
use Rattle.std.proofs.Common.{◌≡◌, ℕ, zero, suc, ◌<◌, Bool, true, false, ◌&&◌, T, List, [], ◌∷◌, refl, sym, ap, ◌∙◌, arith, map as list_map, Option, Some, None, subst, inl, inr}
use Rattle.std.specs.Prelude.{AllPairs, All, Contains, filter, is_some, ◌≢◌}
use Rattle.std.specs.declared.cmp.Ordering.{Ordering}
use Rattle.std.specs.declared.cmp.Ordering.TheVariants.{Less, Equal, Greater}
use Rattle.std.specs.Ordering.{nat_cmp, eq_by_cmp, is_lt, is_eq}
use Rattle.std.specs.Cmp.{ranked}
use Rattle.std.specs.List.{AllByRecursion}
use Rattle.std.specs.List.Sorted.{IsStrictlySortedBy}
use Rattle.std.specs.FinMap as map
use Rattle.std.specs.FinMap.{nat_cmp-IsAntisymmetric}
use Rattle.std.specs.FinMap.Entries.{is_sorted, below_all}
use Rattle.std.proofs.lemmas.List.Kept.{AllPairs-cons, AllPairs-filter, IsStrictlySortedBy-filter}
use Rattle.std.proofs.lemmas.Map.Views.{any-filter_same, Contains-from_any}
use Rattle.std.specs.Option.{option_map, option_to_list}
use Rattle.std.proofs.lemmas.List.Elements.{All-contains, filter_passes}
use Rattle.mach_types.specs.declared.calls.Event.{Event}
use Rattle.mach_types.specs.declared.calls.Reply.{Reply}
use Rattle.mach_types.specs.declared.codes.KernReturn.TheVariants.{ResourceShortage, NotInSet}
use Rattle.mach_types.specs.Codes.{kern_number}
use Rattle.mach_types.specs.Tokens.{receive}
use Rattle.mach_model.specs.Refusals.{set_guards, used_guards, receive_guards, move_guards}
use Rattle.mach_model.specs.State.{State, Target, lookup, Holds, at}
use Rattle.mach_model.specs.Telling.{one_if, TellsMembers}
use Rattle.mach_model.specs.Names.{JoinsSet}
use Rattle.mach_model.specs.NameGuards.{IsSet}
use Rattle.mach_model.proofs.Settling.{named_lives}
use Rattle.name_space.specs.declared.Entry.{Entry}
use Rattle.name_space.specs.declared.Entry.TheVariants as entry
use Rattle.name_space.specs.Entry.{port_named, has_receive, receive_named}
use Rattle.name_space.specs.Names.{SpaceView}
use Rattle.port_base.specs.Turns.{contains_number}
use Rattle.port.proofs.Each.{contains_or_not, is_contained}
use Rattle.copyin_base.specs.Serving.{IsAllowed, Completes, Declines, IsRefused}
use Rattle.copyin_base.proofs.Acting.{done, looked, refused_later}
use Rattle.copyin_base.specs.Worlds.{WorldView, entry_in, entry_at, sets_at, space_at, HasTask}
use Rattle.copyin_base.specs.Shows.{target_of, Agrees, Shows}
use Rattle.copyin_base.proofs.Told.{port_of, names_port, used, found, port_there}
use Rattle.copyin_base.specs.Finds.{FindsReceive}
use Rattle.copyin_base.proofs.InSets.{in_set, sets_are}
use Rattle.copyin_base.proofs.SetsChanged.{PutsIn, in_sets_so}
use Rattle.copyin_base.proofs.Finding.{finds_used, finds_port, finds_receive, receive_port_lives}
use Rattle.kernel_core_base.specs.Sets.{is_in, is_member, members_in, GoesTo, MayMove}

-- ---- The keys of a map that pass a test: they rise, and each key that passes is among them.

pub first : (a b : Bool) → T (a && b) → T a
first true b p = tt
first false b p = p

pub second : (a b : Bool) → T (a && b) → T b
second true b p = p
second false b p = absurd p

pub less : (a b : ℕ) → T (is_lt (nat_cmp a b)) → a < b
less a b h = go (nat_cmp a b) refl h
  where
    go : (r : Ordering) → nat_cmp a b ≡ r → T (is_lt r) → a < b
    go Less e h = ranked a b Less (sym e)
    go Equal e h = absurd h
    go Greater e h = absurd h

abbrev pub keys_in : {X : Type 0} → List (ℕ × X) → List ℕ
keys_in es = list_map (λ e. e.0) es

above : {X : Type 0} (k : ℕ) (es : List (ℕ × X)) → T (below_all nat_cmp k es) → All (λ q. k < q) (keys_in es)
above k [] h i d within = absurd (omega (arith, within))
above k (e ∷ es) h zero d within = less k e.0 (first _ _ h)
above k (e ∷ es) h (suc i) d within = above k es (second _ _ h) i d (omega (arith, within))

pub rising : {X : Type 0} (es : List (ℕ × X)) → T (is_sorted nat_cmp es) → AllPairs (λ a b. a < b) (keys_in es)
rising [] h = λ i j d lt within. absurd (omega (arith, within))
rising (e ∷ es) h = AllPairs-cons (λ a b. a < b) e.0 (keys_in es) (above e.0 es (first _ _ h)) (rising es (second _ _ h))

pub keys_rise : {X : Type 0} (m : map.FinMap nat_cmp X) (test : ℕ → Bool) → AllPairs (λ a b. a < b) (filter test (map.keys m))
keys_rise m test = AllPairs-filter (λ a b. a < b) test (map.keys m) (rising (map.entries m) (map.entries_sorted m))

is_equal : (r : Ordering) → is_eq r ≡ true → r ≡ Equal
is_equal Less e = absurd (cc)
is_equal Equal e = refl
is_equal Greater e = absurd (cc)

pub same_key : (x y : ℕ) → eq_by_cmp nat_cmp x y ≡ true → x ≡ y
same_key x y e = nat_cmp-IsAntisymmetric x y (is_equal (nat_cmp x y) e)

pub kept_key : {X : Type 0} (m : map.FinMap nat_cmp X) (test : ℕ → Bool) (n : ℕ) → is_some (map.get m n) ≡ true → test n ≡ true → Contains (filter test (map.keys m)) n
kept_key m test n some passes = Contains-from_any same_key n (filter test (map.keys m))
    (any-filter_same (eq_by_cmp nat_cmp n) test true (λ k e. ap test (sym (same_key n k e)) ∙ passes) (map.keys m) ∙ sym (map.contains_key-keys m n) ∙ some)

pub kept_sorted : {X : Type 0} (m : map.FinMap nat_cmp X) (test : ℕ → Bool) → IsStrictlySortedBy nat_cmp (filter test (map.keys m))
unfolding IsStrictlySortedBy
kept_sorted m test = IsStrictlySortedBy-filter nat_cmp test (map.keys m) (strictly (map.entries m) (map.entries_sorted m))
  where
    is_less : (r : Ordering) → T (is_lt r) → r ≡ Less
    is_less Less h = refl
    is_less Equal h = absurd h
    is_less Greater h = absurd h

    all_above : {X : Type 0} (k : ℕ) (es : List (ℕ × X)) → T (below_all nat_cmp k es) → AllByRecursion (λ y. nat_cmp k y ≡ Less) (keys_in es)
    all_above k [] h = tt
    all_above k (e ∷ es) h = (is_less (nat_cmp k e.0) (first _ _ h), all_above k es (second _ _ h))

    strictly : {X : Type 0} (es : List (ℕ × X)) → T (is_sorted nat_cmp es) → IsStrictlySortedBy nat_cmp (keys_in es)
    strictly [] h = tt
    strictly (e ∷ es) h = (all_above e.0 es (first _ _ h), strictly es (second _ _ h))

-- ---- The names of a set's members, in the tables and in the machine alike.

-- ---- what is a member's name

pub record Member (w : WorldView) (set : ℕ) (o : Option Entry) : Type 0 where
  pub e : Entry
  pub under : o ≡ Some e
  pub p : ℕ
  pub named : receive_named e ≡ Some p
  pub in_it : Contains (sets_at w p) set

pub not_true : false ≡ true → ⊥
not_true e = cc

is_listed : (xs : List ℕ) (x : ℕ) → contains_number xs x ≡ true → Contains xs x
is_listed xs x is = elim (contains_or_not xs x) [
  | inl h ↦ h.0
  | inr h ↦ absurd (not_true (sym h.1 ∙ is))
]

pub member_is : (w : WorldView) (set : ℕ) (o : Option Entry) → is_member w set o ≡ true → Member w set o
member_is w set None is = absurd (not_true is)
member_is w set (Some e) is = go (receive_named e) refl is
  where
    go : (o : Option ℕ) → receive_named e ≡ o → is_in w set o ≡ true → Member w set (Some e)
    go None named is = absurd (not_true is)
    go (Some p) named is = record { e = e; under = refl; p = p; named = named; in_it = is_listed (sets_at w p) set is }

pub is_one : (w : WorldView) (set : ℕ) (o : Option Entry) → Member w set o → is_member w set o ≡ true
is_one w set o m = ap (is_member w set) m.under ∙ ap (is_in w set) m.named ∙ is_contained (sets_at w m.p) set m.in_it

-- ---- the sets of a port

-- they are those of the machine
pub sets_shown : (w : WorldView) (s : State) → Agrees w s → (p : ℕ) → s.live_port p ≡ true → s.sets_of p ≡ sets_at w p
sets_shown w s a p live = let h = port_there w s a p live in sym (sets_are w p h.0 h.1 ∙ (a.ports p h.0 h.1).sets)

pub set_there : (w : WorldView) (s : State) → Agrees w s → (p set : ℕ) → Contains (sets_at w p) set → Contains (s.sets_of p) set
set_there w s a p set has = let m = in_set w p set has in subst (λ (xs : List ℕ). Contains xs set) ((a.ports p m.view m.there).sets) m.member

set_found : (w : WorldView) (s : State) → Agrees w s → (p set : ℕ) → s.live_port p ≡ true → Contains (s.sets_of p) set → Contains (sets_at w p) set
set_found w s a p set live has = subst (λ (xs : List ℕ). Contains xs set) (sets_shown w s a p live) has

-- ---- the receive rights of the set's task

entry_by : (o : Option Entry) (t : Target) → Some t ≡ option_map target_of o → (e : Entry) × (o ≡ Some e) × (target_of e ≡ t)
entry_by None t is = absurd (cc)
entry_by (Some e) t is = grind arith

has_it : (e : Entry) (p : ℕ) → port_named e ≡ Some p → 0 < one_if (has_receive e) → receive_named e ≡ Some p
has_it (entry.Receive q) p is some = is
has_it (entry.ReceiveAndSend q n) p is some = is
has_it (entry.Send q n) p is some = absurd (omega (arith, some))
has_it (entry.SendOnce q) p is some = absurd (omega (arith, some))
has_it (entry.DeadName n) p is some = absurd (omega (arith, some))
has_it (entry.Set n) p is some = absurd (omega (arith, some))

one_owner : (o : Option ℕ) (t u : ℕ) → o ≡ Some t → o ≡ Some u → t ≡ u
one_owner o t u e f = cc

module _ (w : WorldView) (s : State) (sh : Shows w s) (task name set : ℕ) (space : SpaceView) (there : space_at w task ≡ Some space) (is : entry_at w task name ≡ Some (entry.Set set)) where
  under : (n : ℕ) → entry_at w task n ≡ map.get space.names n
  under n = ap (λ (o : Option SpaceView). entry_in o n) there

  under_set : lookup s task name ≡ Some (Target.set set)
  under_set = found w s sh.agrees task name (entry.Set set) is

  abbrev IsNamed : ℕ → Type 0
  IsNamed n = (p : ℕ) × (lookup s task n ≡ Some (Target.port p)) × Contains (s.sets_of p) set

  only : (n : ℕ) → Contains (members_in w set space.names) n → IsNamed n
  only n c =
      let test : ℕ → Bool = λ k. is_member w set (map.get space.names k) in
      let m = member_is w set (map.get space.names n) (All-contains (λ k. test k ≡ true) (members_in w set space.names) n (filter_passes test (map.keys space.names)) c) in
      (m.p, names_port w s sh.agrees task n m.e m.p (under n ∙ m.under) m.named, set_there w s sh.agrees m.p set m.in_it)

  all : (n : ℕ) → IsNamed n → Contains (members_in w set space.names) n
  all n (p, named, in_it) =
      let a = sh.agrees in
      let l = sh.lawful in
      let owner = l.members p set in_it in
      let same : owner.0 ≡ task = one_owner (s.set_owner set) owner.0 task owner.1 (l.set_owned task name set under_set) in
      let holds : Holds s task receive p = subst (λ (t : ℕ). Holds s t receive p) same owner.2 in
      let live = named_lives s l task n p named in
      let x = entry_by (entry_at w task n) (Target.port p) (sym named ∙ a.naming task n) in
      let of : port_named x.0 ≡ Some p = port_of x.0 p x.2 in
      let r = (a.references task n x.0 p x.1 of).0 in
      let some : 0 < one_if (has_receive x.0) = omega (arith, holds, r) in
      let there_is : map.get space.names n ≡ Some x.0 = sym (under n) ∙ x.1 in
      kept_key space.names (λ (k : ℕ). is_member w set (map.get space.names k)) n (ap is_some there_is)
      (is_one w set (map.get space.names n) record { e = x.0; under = there_is; p = p; named = has_it x.0 p of some; in_it = set_found w s a p set live in_it })

  pub members_told : TellsMembers s task name (members_in w set space.names)
  members_told = grind (arith, found, under_set, keys_rise, only, all)

-- ---- what SetStatus promises

module _ (w : WorldView) (task name set : ℕ) (is : entry_at w task name ≡ Some (entry.Set set)) where
  pub is_set_target : (s : State) → Agrees w s → ¬ ¬ (IsSet (lookup s task name))
  is_set_target s a not = not (subst (λ (o : Option Target). IsSet o) (sym (found w s a task name (entry.Set set) is)) tt)

  pub set_allowed : IsAllowed w (λ s. set_guards s task name)
  set_allowed = record { allowed = λ s sh. (used w s sh.agrees task name (entry.Set set) is, (is_set_target s sh.agrees, tt)) }

  pub set_no_memory : HasTask w task → Declines w (Event.SetStatus task name) (kern_number ResourceShortage) w
  set_no_memory below = refused_later w (Event.SetStatus task name) below (kern_number ResourceShortage) set_allowed (λ s sh. refl)

  pub set_told : HasTask w task → (space : SpaceView) → space_at w task ≡ Some space →
      Completes w (Event.SetStatus task name) (Reply.Members (members_in w set space.names)) w
  set_told below space there = done w (Event.SetStatus task name) (Reply.Members (members_in w set space.names)) w below set_allowed
      (λ now s sh. looked w (Event.SetStatus task name) (Reply.Members (members_in w set space.names)) now s sh tt (refl, refl) (members_told w s sh task name set space there is))

-- ---- MoveMember: what refuses it, and what it does.

pub one_port : (p q : ℕ) (o : Option Target) → o ≡ Some (Target.port p) → o ≡ Some (Target.port q) → p ≡ q
one_port p q o e f = grind arith

-- ---- what is judged

module _ (w : WorldView) (task member : ℕ) where
  -- a port that is to leave its set
  pub leaving_refused : (code : ℕ) → IsRefused w (λ s. receive_guards s task member) code → IsRefused w (λ s. move_guards s task member 0) code
  leaving_refused code r = grind arith

  module _ (p : ℕ) (f : FindsReceive w task member p) where
    pub not_in_set : sets_at w p ≡ [] → IsRefused w (λ s. move_guards s task member 0) (kern_number NotInSet)
    not_in_set none = grind (arith, finds_used, finds_receive, finds_port, sets_shown, receive_port_lives)

    pub may_leave : sets_at w p ≢ [] → MayMove w task member 0 p None
    may_leave some = grind (arith, finds_used, finds_receive, sets_shown, receive_port_lives, one_port, finds_port)

  -- a port that is to go into the set under another name
  module _ (after : ℕ) (some : after ≢ 0) where
    pub after_unused : (code : ℕ) → IsRefused w (λ s. used_guards s task after) code → IsRefused w (λ s. move_guards s task member after) code
    after_unused code r = grind arith

    pub joining_refused : (other : Entry) → entry_at w task after ≡ Some other → (code : ℕ) → IsRefused w (λ s. receive_guards s task member) code →
        IsRefused w (λ s. move_guards s task member after) code
    joining_refused other is code r = grind (arith, used)

    module _ (p : ℕ) (f : FindsReceive w task member p) where
      pub not_to_set : (code : ℕ) → IsRefused w (λ s. set_guards s task after) code → IsRefused w (λ s. move_guards s task member after) code
      not_to_set code r = grind (arith, finds_used)

      pub may_join : (set : ℕ) → entry_at w task after ≡ Some (entry.Set set) → IsAllowed w (λ s. move_guards s task member after)
      may_join set is = grind (arith, finds_used, used, finds_receive, is_set_target)

-- ---- what it does

pub moved : (w : WorldView) (task member after p : ℕ) (set : Option ℕ) → HasTask w task → MayMove w task member after p set → (new : WorldView) → PutsIn w p (option_to_list set) new → Completes w (Event.MoveMember task member after) (Reply.Code 0) new
moved w task member after p set below m new put = done w (Event.MoveMember task member after) (Reply.Code 0) new below m.allowed
    (λ now s sh. in_sets_so w new p (option_to_list set) put (Event.MoveMember task member after) now s sh (refl, joins s sh.agrees set m.goes, refl) tt tt)
  where
    joins : (s : State) → Agrees w s → (set : Option ℕ) → GoesTo w task after set → JoinsSet task member after s (record s { sets_of = at s.sets_of p (option_to_list set) })
    joins s a (Some set) goes = (p, (finds_port w task member p m.finds s a), inr (set, found w s a task after (entry.Set set) goes, refl))
    joins s a None goes = (p, (finds_port w task member p m.finds s a), inl (goes, refl))
