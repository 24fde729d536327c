-- A port enters a set beside others, or leaves one of several: what refuses it, and what it does.
use Rattle.std.proofs.Common.{◌≡◌, ℕ, true, false, List, [], ◌∷◌, ◌++◌, Some, None, refl, sym, ap, subst, ◌∙◌, inl, inr, arith}
use Rattle.std.specs.Prelude.{◌⊎◌, ◌≢◌, IfErr, Result, Ok, Err, is_some}
use Rattle.std.specs.Result.{IsErrAnd}
use Rattle.std.specs.List.{Contains}
use Rattle.mach_types.specs.declared.calls.Event.{Event}
use Rattle.mach_types.specs.declared.calls.Reply.{Reply}
use Rattle.mach_types.specs.declared.codes.KernReturn.{KernReturn}
use Rattle.mach_types.specs.declared.codes.KernReturn.TheVariants.{AlreadyInSet, InvalidArgument, InvalidName, InvalidRight, NotInSet, ResourceShortage}
use Rattle.mach_types.specs.declared.profiles.Profile.{Profile}
use Rattle.mach_types.specs.declared.profiles.Profile.TheVariants.{One, Two, Three}
use Rattle.mach_types.specs.Codes.{kern_number, code_number}
use Rattle.mach_types.specs.Guards.{FirstIs, NoneHolds}
use Rattle.mach_model.specs.State.{State, Target, lookup, at}
use Rattle.mach_model.specs.Names.{EntersSet, LeavesSet}
use Rattle.mach_model.specs.NameGuards.{HasSeveral, IsMember, IsSet, IsUnused, NamesReceive}
use Rattle.mach_model.specs.Refusals.{call_guards, member_guards, used_guards}
use Rattle.member_lists.specs.Lists.{without}
use Rattle.name_space.specs.declared.Entry.{Entry}
use Rattle.name_space.specs.declared.Entry.TheVariants as entry
use Rattle.name_space.specs.Entry.{receive_named, set_named}
use Rattle.port.specs.Ports.{IsIn, PortView, sets_in}
use Rattle.copyin_base.specs.Kept.{Kept}
use Rattle.mach_types.specs.declared.codes.Code.{Code}
use Rattle.mach_types.specs.declared.codes.Code.TheVariants.{Kern}
use Rattle.copyin_base.specs.Serving.{Completes, Declines, HasTasks, IsAllowed, IsRefused, Serves}
use Rattle.copyin_base.specs.Shows.{target_of, Agrees, Shows}
use Rattle.copyin_base.specs.Stands.{Stands}
use Rattle.copyin_base.specs.Worlds.{WorldView, HasTask, entry_at, has_several_sets, port_at, sets_at}
use Rattle.copyin_base.proofs.Acting.{done, refused, refused_later}
use Rattle.copyin_base.proofs.Finding.{finds_port, finds_receive, finds_used, receive_port_lives}
use Rattle.copyin_base.proofs.InSets.{in_set, set_has, sets_are}
use Rattle.copyin_base.proofs.SetsChanged.{PutsIn, in_sets_so}
use Rattle.copyin_base.proofs.Told.{found, not_receive, port_got, used}
use Rattle.kernel_core_base.specs.declared.sets.Member.{Member}
use Rattle.kernel_core_base.specs.Sets.{IsUnpaired, MayPair, WantsToEnter, pair_reply}
use Rattle.kernel_core_base.proofs.Members.{one_port, set_there, sets_shown}
use Rattle.kernel_core_base.proofs.Refused.{not_short}

several_as : (a b : Profile) → a ≡ b → has_several_sets a ≡ true → HasSeveral b
several_as One b is several = absurd (let e : false ≡ true = several in cc)
several_as Two b is several = absurd (let e : false ≡ true = several in cc)
several_as Three b is several = subst HasSeveral is tt

one_as : (a b : Profile) → b ≡ a → has_several_sets a ≡ false → HasSeveral b → ⊥
one_as One b is one several = subst HasSeveral is several
one_as Two b is one several = subst HasSeveral is several
one_as Three b is one several = let e : true ≡ false = one in cc

no_set : (e : Entry) → set_named e ≡ None → IsSet (Some (target_of e)) → ⊥
no_set (entry.Receive q) none is = is
no_set (entry.Send q n) none is = is
no_set (entry.ReceiveAndSend q n) none is = is
no_set (entry.SendOnce q) none is = is
no_set (entry.DeadName n) none is = is
no_set (entry.Set n) none is = let e : Some n ≡ None = none in cc

pub is_set : (e : Entry) (set : ℕ) → set_named e ≡ Some set → e ≡ entry.Set set
is_set (entry.Receive q) set is = absurd (let e : None ≡ Some set = is in cc)
is_set (entry.Send q n) set is = absurd (let e : None ≡ Some set = is in cc)
is_set (entry.ReceiveAndSend q n) set is = absurd (let e : None ≡ Some set = is in cc)
is_set (entry.SendOnce q) set is = absurd (let e : None ≡ Some set = is in cc)
is_set (entry.DeadName n) set is = absurd (let e : None ≡ Some set = is in cc)
is_set (entry.Set n) set is = let e : Some n ≡ Some set = is in cc

same_set : (a b : ℕ) → Some (Target.set a) ≡ Some (Target.set b) → a ≡ b
same_set a b e = cc

-- ---- what refuses both calls

module _ (w : WorldView) (task member set : ℕ) where
  unpaired : (code : ℕ) → ((s : State) → Shows w s → (last : Type 0) (own : KernReturn) → FirstIs (member_guards s task member set last own) code) → IsUnpaired w task member set code
  unpaired code refused = (
    record { refused = λ s sh. refused s sh (IsMember s task member set) AlreadyInSet },
    record { refused = λ s sh. refused s sh (¬ (IsMember s task member set)) NotInSet },
  )

  pub one_set : has_several_sets w.profile ≡ false → IsUnpaired w task member set (kern_number InvalidArgument)
  one_set one = unpaired (kern_number InvalidArgument) (λ s sh last own. inl ((λ several. one_as w.profile s.profile (sym sh.agrees.same_profile) one several), refl))

  module _ (several : has_several_sets w.profile ≡ true) where
    has_several : (s : State) → Shows w s → ¬ ¬ (HasSeveral s.profile)
    has_several s sh not = not (several_as w.profile s.profile sh.agrees.same_profile several)

    pub member_unused : (code : ℕ) → IsRefused w (λ s. used_guards s task member) code → IsUnpaired w task member set code
    member_unused code r = unpaired code (λ s sh last own. inr (has_several s sh, at_names s (r.refused s sh) last own))
      where
        at_names : (s : State) → FirstIs (used_guards s task member) code → (last : Type 0) (own : KernReturn) →
            ((IsUnused s task member ⊎ IsUnused s task set) × (code ≡ kern_number InvalidName)) ⊎ (¬ (IsUnused s task member ⊎ IsUnused s task set)
            × FirstIs ((¬ (NamesReceive s task member) ⊎ ¬ (IsSet (lookup s task set)), kern_number InvalidRight) ∷ (last, kern_number own) ∷ []) code)
        at_names s (inl u) last own = inl (inl u.0, u.1)
        at_names s (inr u) last own = absurd u.1

    module _ (e : Entry) (is : entry_at w task member ≡ Some e) where
      pub set_unused : (code : ℕ) → IsRefused w (λ s. used_guards s task set) code → IsUnpaired w task member set code
      set_unused code r = unpaired code (λ s sh last own. inr (has_several s sh, inl (at_set s (r.refused s sh))))
        where
          at_set : (s : State) → FirstIs (used_guards s task set) code → (IsUnused s task member ⊎ IsUnused s task set) × (code ≡ kern_number InvalidName)
          at_set s (inl u) = (inr u.0, u.1)
          at_set s (inr u) = absurd u.1

      module _ (o : Entry) (other : entry_at w task set ≡ Some o) where
        both_used : (s : State) → Shows w s → ¬ (IsUnused s task member ⊎ IsUnused s task set)
        both_used s sh (inl u) = used w s sh.agrees task member e is u
        both_used s sh (inr u) = used w s sh.agrees task set o other u

        pub not_received : receive_named e ≡ None → IsUnpaired w task member set (kern_number InvalidRight)
        not_received none = unpaired (kern_number InvalidRight)
            (λ s sh last own. inr (has_several s sh, inr (both_used s sh, inl (inl (not_receive w s sh.agrees task member e is none), refl))))

        pub not_set : set_named o ≡ None → IsUnpaired w task member set (kern_number InvalidRight)
        not_set none = unpaired (kern_number InvalidRight)
            (λ s sh last own. inr (has_several s sh, inr (both_used s sh, inl (inr (λ is_one. no_set o none (subst IsSet (found w s sh.agrees task set o other) is_one)), refl))))

-- ---- what the two calls do

module _ (w : WorldView) (task member set : ℕ) (pair : Member) (m : MayPair w task member set pair) where
  stands_for : (s : State) → Agrees w s → lookup s task set ≡ Some (Target.set pair.set)
  stands_for s a = found w s a task set (entry.Set pair.set) m.stands

  guarded : (s : State) → Shows w s → (last : Type 0) → ¬ last → (own : KernReturn) → NoneHolds (member_guards s task member set last own)
  guarded s sh last none own = (has_several w task member set m.several s sh, (neither, (right, (none, tt))))
    where
      neither : ¬ (IsUnused s task member ⊎ IsUnused s task set)
      neither (inl u) = finds_used w task member pair.port m.finds s sh.agrees u
      neither (inr u) = used w s sh.agrees task set (entry.Set pair.set) m.stands u

      right : ¬ (¬ (NamesReceive s task member) ⊎ ¬ (IsSet (lookup s task set)))
      right (inl not) = not (finds_receive w task member pair.port m.finds s sh.agrees)
      right (inr not) = not (subst IsSet (sym (stands_for s sh.agrees)) tt)

  -- in the machine as in the tables
  member_of : (s : State) → Shows w s → IsIn w.ports pair.set pair.port → IsMember s task member set
  member_of s sh i = (pair.port, pair.set, finds_port w task member pair.port m.finds s sh.agrees, stands_for s sh.agrees, set_there w s sh.agrees pair.port pair.set (set_has w pair.port pair.set i.view i.there i.member))

  in_it : (s : State) → Shows w s → IsMember s task member set → IsIn w.ports pair.set pair.port
  in_it s sh (p, t, names, stands, has) =
      let a = sh.agrees in
      let live = receive_port_lives w task member pair.port m.finds s sh in
      let port : p ≡ pair.port = one_port p pair.port (lookup s task member) names (finds_port w task member pair.port m.finds s a) in
      let own : t ≡ pair.set = same_set t pair.set (sym stands ∙ stands_for s a) in
      let listed : Contains (s.sets_of pair.port) pair.set = subst (λ (q : ℕ). Contains (s.sets_of q) pair.set) port (subst (λ (x : ℕ). Contains (s.sets_of p) x) own has) in
      let i = in_set w pair.port pair.set (subst (λ (xs : List ℕ). Contains xs pair.set) (sets_shown w s a pair.port live) listed) in
      let given = sh.lawful.made_port pair.port live in
      let made = a.ports_made in
      record { given = omega (arith, given, made); view = i.view; there = i.there; member = i.member }

  pub may_enter : ¬ (IsIn w.ports pair.set pair.port) → IsAllowed w (λ s. call_guards s (Event.InsertMember task member set))
  may_enter apart = record { allowed = λ s sh. guarded s sh (IsMember s task member set) (λ is. apart (in_it s sh is)) AlreadyInSet }

  -- what refuses the one is what the other wants
  own_refused : (own : KernReturn) (last : State → Type 0) → ((s : State) → Shows w s → last s) → IsRefused w (λ s. member_guards s task member set (last s) own) (kern_number own)
  own_refused own last holds = record {
    refused = λ s sh. let g = guarded s sh ⊥ (λ x. x) own in inr (g.0, inr (g.1.0, inr (g.1.1.0, inl (holds s sh, refl))));
  }

  pub already_in : IsIn w.ports pair.set pair.port → IsRefused w (λ s. call_guards s (Event.InsertMember task member set)) (kern_number AlreadyInSet)
  already_in i = own_refused AlreadyInSet (λ s. IsMember s task member set) (λ s sh. member_of s sh i)

  pub not_in : ¬ (IsIn w.ports pair.set pair.port) → IsRefused w (λ s. call_guards s (Event.ExtractMember task member set)) (kern_number NotInSet)
  not_in apart = own_refused NotInSet (λ s. ¬ (IsMember s task member set)) (λ s sh is. apart (in_it s sh is))

  -- a port that may enter is not in the set
  pub enters_apart : Stands w → IsAllowed w (λ s. call_guards s (Event.InsertMember task member set)) → ¬ (IsIn w.ports pair.set pair.port)
  enters_apart stands good i = let none = good.allowed stands.state stands.shown in none.1.1.1.0 (member_of stands.state stands.shown i)

  pub entered : HasTask w task → IsAllowed w (λ s. call_guards s (Event.InsertMember task member set)) → (new : WorldView) → PutsIn w pair.port (sets_at w pair.port ++ pair.set ∷ []) new →
      Completes w (Event.InsertMember task member set) (Reply.Code 0) new
  entered below good new put = done w (Event.InsertMember task member set) (Reply.Code 0) new below good
      (λ now s sh. in_sets_so w new pair.port (sets_at w pair.port ++ pair.set ∷ []) put (Event.InsertMember task member set) now s sh (refl, enters s sh, refl) tt tt)
    where
      enters : (s : State) → Shows w s → EntersSet task member set s (record s { sets_of = at s.sets_of pair.port (sets_at w pair.port ++ pair.set ∷ []) })
      enters s sh = record {
        port = pair.port;
        found = finds_port w task member pair.port m.finds s sh.agrees;
        entered = pair.set;
        found_set = stands_for s sh.agrees;
        rest = ap (λ (xs : List ℕ). record s { sets_of = at s.sets_of pair.port (xs ++ pair.set ∷ []) }) (sym (sets_shown w s sh.agrees pair.port (receive_port_lives w task member pair.port m.finds s sh)));
      }

  pub left : HasTask w task → IsIn w.ports pair.set pair.port → (new : WorldView) → PutsIn w pair.port (without pair.set (sets_at w pair.port)) new → Completes w (Event.ExtractMember task member set) (Reply.Code 0) new
  left below i new put = done w (Event.ExtractMember task member set) (Reply.Code 0) new below
      (record { allowed = λ s sh. guarded s sh (¬ (IsMember s task member set)) (λ not. not (member_of s sh i)) NotInSet })
      (λ now s sh. in_sets_so w new pair.port (without pair.set (sets_at w pair.port)) put (Event.ExtractMember task member set) now s sh (refl, leaves s sh, refl) tt tt)
    where
      leaves : (s : State) → Shows w s → LeavesSet task member set s (record s { sets_of = at s.sets_of pair.port (without pair.set (sets_at w pair.port)) })
      leaves s sh = record {
        port = pair.port;
        found = finds_port w task member pair.port m.finds s sh.agrees;
        left = pair.set;
        found_set = stands_for s sh.agrees;
        rest = ap (λ (xs : List ℕ). record s { sets_of = at s.sets_of pair.port (without pair.set xs) }) (sym (sets_shown w s sh.agrees pair.port (receive_port_lives w task member pair.port m.finds s sh)));
      }

-- ---- what is refused

abbrev pub IsKern : Result Member Code → KernReturn → Type 0
IsKern r code = IsErrAnd r (λ given. given ≡ Kern code)

pub pair_refused : (w : WorldView) (event : Event) (r : Result Member Code) (code : KernReturn) → IsKern r code → HasTasks w event → IsRefused w (λ s. call_guards s event) (kern_number code) → Serves w event (pair_reply r) w
pair_refused w event (Ok pair) code is tasks why = absurd is
pair_refused w event (Err given) code is tasks why = rw is (refused w event tasks (kern_number code) why)

-- not for want of memory
pub pair_wants : (w : WorldView) (event : Event) (task member : ℕ) (r : Result Member Code) (code : KernReturn) → IsKern r code → Stands w → IsRefused w (λ s. call_guards s event) (kern_number code) →
    IfErr r (λ given. code_number given ≡ kern_number ResourceShortage → WantsToEnter w task member)
pair_wants w event task member (Ok pair) code is stands why = tt
pair_wants w event task member (Err given) code is stands why = λ short. absurd (not_short w event stands code why (sym (ap code_number is) ∙ short))

-- Memory is refused.
pub no_memory : (w : WorldView) (task member set : ℕ) → HasTask w task → IsAllowed w (λ s. call_guards s (Event.InsertMember task member set)) →
    Declines w (Event.InsertMember task member set) (kern_number ResourceShortage) w
no_memory w task member set below good = refused_later w (Event.InsertMember task member set) below (kern_number ResourceShortage) good (λ s sh. refl)

pub wants_to_enter : (w : WorldView) (task member set : ℕ) (pair : Member) → MayPair w task member set pair → is_some (port_at w pair.port) ≡ true →
    ((v : PortView Kept) → port_at w pair.port ≡ Some v → sets_in v ≢ []) → WantsToEnter w task member
wants_to_enter w task member set pair m there some = record {
  port = pair.port;
  finds = m.finds;
  elsewhere = λ none. let v = port_got (port_at w pair.port) there in some v.0 v.1 (sym (sets_are w pair.port v.0 v.1) ∙ none);
}
