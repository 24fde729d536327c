-- What is covered once a message was sent that takes receive rights along: the queue of its port, and the ports whose rights they are.
use Rattle.std.proofs.Common.{◌≡◌, ℕ, zero, suc, All, List, [], ◌∷◌, Option, Some, None, refl, sym, ap, subst, ◌∙◌, arith, true, false, Bool, inl, inr}
use Rattle.std.specs.Prelude.{◌≢◌, ◌==◌, ◌⊎◌, MatchBool, Contains, if◌then◌else◌, is_some, slice_get}
use Rattle.std.specs.Option.{option_map}
use Rattle.std.proofs.lemmas.Bool.Decides.{eqb_tells}
use Rattle.std.proofs.lemmas.List.Elements.{All-head, All-tail, All-nil, All-cons}
use Rattle.mach_types.specs.declared.calls.Waited.{Waited}
use Rattle.mach_types.specs.declared.rights.Disposition.{Disposition}
use Rattle.mach_types.specs.declared.rights.Disposition.TheVariants.{MoveReceive, MoveSend, MoveSendOnce, CopySend, MakeSend, MakeSendOnce}
use Rattle.mach_types.specs.declared.touched.Touched.{Touched}
use Rattle.mach_types.specs.declared.touched.Touched.TheVariants.{Few, All as Any}
use Rattle.mach_types.specs.Touching.{Covers}
use Rattle.mach_types.specs.Numbers.{disposition, null_word, dead_word}
use Rattle.mach_types.specs.Bodies.{AllZip, Through, body_rights}
use Rattle.mach_types.specs.Bodies.{body_words as machine_words}
use Rattle.mach_types.specs.Grammar.{Header}
use Rattle.mach_types.specs.Messages.{to_port, Message}
use Rattle.mach_types.specs.Messages.{Mark as MachineMark}
use Rattle.mach_types.specs.Tokens.{Kind}
use Rattle.mach_model.specs.State.{State}
use Rattle.mach_model.specs.Midway.{MidLawful}
use Rattle.mach_model.specs.Notices.{Owed}
use Rattle.mach_model.specs.Send.{Sends}
use Rattle.mach_laws.proofs.Carrying.{TakesAlong, SendsAlong as GoesAlong, along_touches, sends_one}
use Rattle.mach_laws.proofs.Touching.{sends_alike}
use Rattle.message_codec.specs.declared.words.PortWord.{PortWord}
use Rattle.message_codec.specs.Words.{body_words}
use Rattle.name_space.specs.Names.{Names}
use Rattle.copyin_base.specs.declared.Carried.{Carried}
use Rattle.copyin_base.specs.declared.Mark.{Mark}
use Rattle.copyin_base.specs.declared.Mark.TheVariants as mark
use Rattle.copyin_base.specs.Kept.{Kept, mark_of, receive_moved, receive_of}
use Rattle.copyin_base.specs.Posted.{with_posted}
use Rattle.copyin_base.specs.Serving.{ShowsMid}
use Rattle.copyin_base.specs.Shows.{Agrees, Shows}
use Rattle.copyin_base.specs.Worlds.{WorldView, sets_at}
use Rattle.copyin_base.proofs.KeptEntries.{rights_of, body_kept}
use Rattle.copyin.specs.Planned.{PlanView}
use Rattle.copyin.specs.Judging.{CopiesName, CopiesWord, PassesAs}
use Rattle.copyin.proofs.Copying.{pairs, body_pairs}
use Rattle.copyin.proofs.Planning.{message, third, copied, none_receives}
use Rattle.kernel_change.specs.declared.change.Change.{Change}
use Rattle.kernel_change.specs.declared.change.Change.TheVariants as change
use Rattle.kernel_change.specs.Changing.{by_taking, by_taking_along, by_taking_two, by_taking_three, has_more, is_in_no_other, lone, named_two_left, receives_of, touched_by, unless_several}
use Rattle.message_send.specs.Send.{PlansText}
use Rattle.message_send.specs.Telling.{TellsAlong}
use Rattle.kernel_core.proofs.Covered.{OwnTouches, none_some, one_some, set_is, covers_named, covers_its, unless_covers, unless_set}

-- ---- the words of a body, and the rights that they become

given_by : (names : Names) (w : PortWord) (c : Carried) (after : Names) → CopiesWord names w c after → disposition w.disposition ≡ Some c.given
given_by names w c after x = go (w.name == null_word) (w.name == dead_word) x
  where
    go : (a b : Bool) → MatchBool a (PassesAs w mark.Null names c after) (MatchBool b (PassesAs w mark.Dead names c after) (CopiesName names w c after)) → disposition w.disposition ≡ Some c.given
    go true b x = x.0
    go false true x = x.0
    go false false x = x.is_given

received_by : (d : Disposition) (m : Mark) (q : ℕ) → disposition 16 ≡ Some d → mark_of m ≡ to_port q → receive_moved d m ≡ Some q
received_by MoveReceive (mark.Port p) q is e = let same : p ≡ q = (let f = e in cc) in ap Some same
received_by MoveReceive mark.Null q is e = absurd (cc)
received_by MoveReceive mark.Dead q is e = absurd (cc)
received_by MoveSend m q is e = absurd (let f : Some MoveReceive ≡ Some MoveSend = is in cc)
received_by MoveSendOnce m q is e = absurd (let f : Some MoveReceive ≡ Some MoveSendOnce = is in cc)
received_by CopySend m q is e = absurd (let f : Some MoveReceive ≡ Some CopySend = is in cc)
received_by MakeSend m q is e = absurd (let f : Some MoveReceive ≡ Some MakeSend = is in cc)
received_by MakeSendOnce m q is e = absurd (let f : Some MoveReceive ≡ Some MakeSendOnce = is in cc)

abbrev IsAmong : List ℕ → Carried → Type 0
IsAmong ports c = (q : ℕ) → receive_of c ≡ Some q → Contains ports q

-- what comes out of one right comes out of it with others, and what comes out of the others
found_first : (c : Carried) (cs : List Carried) (q : ℕ) → receive_of c ≡ Some q → Contains (receives_of (c ∷ cs)) q
found_first c cs q is = rw is (0, omega arith, refl)

found_later : (c : Carried) (cs : List Carried) (q : ℕ) → Contains (receives_of cs) q → Contains (receives_of (c ∷ cs)) q
found_later c cs q in_it = go (receive_of c) refl
  where
    behind : (xs : List ℕ) (p : ℕ) → Contains xs q → Contains (p ∷ xs) q
    behind xs p (i, below, is) = (suc i, omega (arith, below), is)

    go : (o : Option ℕ) → receive_of c ≡ o → Contains (receives_of (c ∷ cs)) q
    go None is = rw is in_it
    go (Some p) is = rw is (behind (receives_of cs) p in_it)

all_among : (ports : List ℕ) (cs : List Carried) → ((q : ℕ) → Contains (receives_of cs) q → Contains ports q) → All (IsAmong ports) cs
all_among ports [] only = All-nil (IsAmong ports)
all_among ports (c ∷ cs) only = All-cons (IsAmong ports) c cs (λ q is. only q (found_first c cs q is)) (all_among ports cs (λ q in_it. only q (found_later c cs q in_it)))

along_words : (ports : List ℕ) (names : Names) (ws : List PortWord) (cs : List Carried) (last : Names) → Through CopiesWord names ws cs last → All (IsAmong ports) cs → AllZip (TakesAlong (Contains ports)) (pairs ws) (rights_of cs)
along_words ports names [] [] last t only = tt
along_words ports names (w ∷ ws) (c ∷ cs) last (mid, x, rest) only = (
  (λ is q e. All-head (IsAmong ports) c cs only q (received_by c.given c.mark q (sym (ap disposition is) ∙ given_by names w c mid x) e)),
  along_words ports mid ws cs last rest (All-tail (IsAmong ports) c cs only),
)
along_words ports names [] (c ∷ cs) last t only = absurd t
along_words ports names (w ∷ ws) [] last t only = absurd t

-- ---- what is covered

-- This covers a port with the sets that it is in, and others with those that they were in.
record CoversAlong (old w : WorldView) (to : ℕ) (ports : List ℕ) (touched : Touched) : Type 0 where
  port : Covers touched (Waited.Port to)
  own : (set : ℕ) → Contains (sets_at w to) set → Covers touched (Waited.Set set)
  others : (q : ℕ) → Contains ports q → Covers touched (Waited.Port q) × ((set : ℕ) → Contains (sets_at old q) set → Covers touched (Waited.Set set))

for_one : (P : ℕ → Type 0) (a : ℕ) → P a → (q : ℕ) → Contains (a ∷ []) q → P q
for_one P a x q (zero, below, same) = subst P same x
for_one P a x q (suc i, below, same) = absurd (omega (arith, below))

for_more : (P : ℕ → Type 0) (a : ℕ) (ports : List ℕ) → P a → ((q : ℕ) → Contains ports q → P q) → (q : ℕ) → Contains (a ∷ ports) q → P q
for_more P a ports x more q (zero, below, same) = subst P same x
for_more P a ports x more q (suc i, below, same) = more q (i, omega (arith, below), same)

-- what covers a port, with the sets that it was in
abbrev CoversLeft : (old : WorldView) (touched : Touched) (q : ℕ) → Type 0
CoversLeft old touched q = Covers touched (Waited.Port q) × ((set : ℕ) → Contains (sets_at old q) set → Covers touched (Waited.Set set))

-- The port was in this set at most.
abbrev Was : (old : WorldView) (q : ℕ) → Option ℕ → Type 0
Was old q o = (set : ℕ) → Contains (sets_at old q) set → o ≡ Some set

one_in : (sets : List ℕ) → has_more sets ≡ false → (set : ℕ) → Contains sets set → slice_get sets 0 ≡ Some set
one_in [] few set (i, below, is) = absurd (omega (arith, below))
one_in (a ∷ []) few set (zero, below, is) = ap Some is
one_in (a ∷ []) few set (suc i, below, is) = absurd (omega (arith, below))
one_in (a ∷ b ∷ sets) few set in_it = absurd (cc)

empty_in : (sets : List ℕ) → slice_get sets 0 ≡ None → (set : ℕ) → Contains sets set → None ≡ Some set
empty_in [] none set (i, below, is) = absurd (omega (arith, below))
empty_in (a ∷ sets) none set in_it = absurd (cc)

none_left : (old : WorldView) (touched : Touched) (q : ℕ) → Covers touched (Waited.Port q) → Was old q None → CoversLeft old touched q
none_left old touched q covers was = (covers, λ set in_it. absurd (none_some set (was set in_it)))

one_left : (old : WorldView) (touched : Touched) (q left : ℕ) → Covers touched (Waited.Port q) → Covers touched (Waited.Set left) → Was old q (Some left) → CoversLeft old touched q
one_left old touched q left covers set_too was = (covers, λ set in_it. subst (λ (x : ℕ). Covers touched (Waited.Set x)) (one_some left set (was set in_it)) set_too)

module _ (old w : WorldView) (to : ℕ) where
  -- All is covered, or just this.
  abbrev CoversBy : List ℕ → Touched → Type 0
  CoversBy ports touched = (touched ≡ Any) ⊎ CoversAlong old w to ports touched

  none_covers : CoversBy [] (touched_by w (change.Queue to))
  none_covers = inr (record { port = covers_named to (sets_at w to); own = λ set in_it. covers_its to (sets_at w to) set in_it; others = λ q in_it. absurd (none_in q in_it) })
    where
      none_in : (q : ℕ) → Contains [] q → ⊥
      none_in q (i, below, same) = omega (arith, below)

  -- what covers the port with its only set does so too where all may be meant
  unless_along : (ports : List ℕ) (touched : Touched) → Covers touched (Waited.Port to) → ((set : ℕ) → lone (sets_at w to) ≡ Some (Waited.Set set) → Covers touched (Waited.Set set)) →
      ((q : ℕ) → Contains ports q → CoversLeft old touched q) → CoversAlong old w to ports (unless_several (sets_at w to) touched)
  unless_along ports touched port own others = record {
    port = unless_covers (sets_at w to) touched (Waited.Port to) port;
    own = λ set in_it. unless_set (sets_at w to) touched set in_it (own set);
    others = λ q in_it. (
      unless_covers (sets_at w to) touched (Waited.Port q) (others q in_it).0,
      λ set was. unless_covers (sets_at w to) touched (Waited.Set set) ((others q in_it).1 set was),
    );
  }

  abbrev along : (a : ℕ) (left : Option ℕ) → Touched
  along a left = Few (Some (Waited.Port to) ∷ lone (sets_at w to) ∷ Some (Waited.Port a) ∷ option_map Waited.Set left ∷ [])

  one_covers : (a : ℕ) (left : Option ℕ) → Was old a left → CoversBy (a ∷ []) (touched_by w (by_taking_along to a left))
  one_covers a None was = inr (unless_along (a ∷ []) (along a None) (0, omega arith, refl) (λ set one. (1, omega arith, one)) (for_one (CoversLeft old (along a None)) a (none_left old (along a None) a (2, omega arith, refl) was)))
  one_covers a (Some left) was =
      inr (unless_along (a ∷ []) (along a (Some left)) (0, omega arith, refl) (λ set one. (1, omega arith, one)) (for_one (CoversLeft old (along a (Some left))) a (one_left old (along a (Some left)) a left (2, omega arith, refl) (3, omega arith, refl) was)))

  -- of two that left this set, at least one
  left_covers : (a b left : ℕ) → ((touched : Touched) → Covers touched (Waited.Port a) → Covers touched (Waited.Set left) → CoversLeft old touched a) → ((touched : Touched) → Covers touched (Waited.Port b) → Covers touched (Waited.Set left) → CoversLeft old touched b) →
      CoversBy (a ∷ b ∷ []) (named_two_left w to a b left)
  left_covers a b left first second = go (sets_at w to) refl
    where
      four : Touched
      four = Few (Some (Waited.Port to) ∷ Some (Waited.Port a) ∷ Some (Waited.Port b) ∷ Some (Waited.Set left) ∷ [])

      both : (q : ℕ) → Contains (a ∷ b ∷ []) q → CoversLeft old four q
      both = for_more (CoversLeft old four) a (b ∷ []) (first four (1, omega arith, refl) (3, omega arith, refl)) (for_one (CoversLeft old four) b (second four (2, omega arith, refl) (3, omega arith, refl)))

      in_these : (xs : List ℕ) → sets_at w to ≡ xs → (set : ℕ) → Contains (sets_at w to) set → Contains xs set
      in_these xs is set in_it = subst (λ (ys : List ℕ). Contains ys set) is in_it

      none_in : (set : ℕ) → Contains [] set → ⊥
      none_in set (i, below, same) = omega (arith, below)

      go : (xs : List ℕ) → sets_at w to ≡ xs → CoversBy (a ∷ b ∷ []) (if is_in_no_other xs left then four else Any)
      go [] is = inr (record { port = (0, omega arith, refl); own = λ set in_it. absurd (none_in set (in_these [] is set in_it)); others = both })
      go (set ∷ []) is = elim (eqb_tells set left) [
        | inl e ↦ (let same = e.0 in
            rw same (inr (record {
              port = (0, omega arith, refl);
              own = λ x in_it. for_one (λ (y : ℕ). Covers four (Waited.Set y)) set (subst (λ (y : ℕ). Covers four (Waited.Set y)) (sym e.1) (3, omega arith, refl)) x (in_these (set ∷ []) is x in_it);
              others = both;
            })))
        | inr e ↦ (let other = e.0 in rw other (inl refl))
      ]
      go (set ∷ other ∷ sets) is = inl refl

  abbrev received : (a b : ℕ) → Touched
  received a b = Few (Some (Waited.Port to) ∷ lone (sets_at w to) ∷ Some (Waited.Port a) ∷ Some (Waited.Port b) ∷ [])

  two_covers : (a b : ℕ) (left other : Option ℕ) → Was old a left → Was old b other → CoversBy (a ∷ b ∷ []) (touched_by w (by_taking_two to a b left other))
  two_covers a b None None was too =
      inr (unless_along (a ∷ b ∷ []) (received a b) (0, omega arith, refl) (λ set one. (1, omega arith, one))
      (for_more (CoversLeft old (received a b)) a (b ∷ []) (none_left old (received a b) a (2, omega arith, refl) was) (for_one (CoversLeft old (received a b)) b (none_left old (received a b) b (3, omega arith, refl) too))))
  two_covers a b None (Some set) was too = left_covers a b set (λ touched covers left. none_left old touched a covers was) (λ touched covers left. one_left old touched b set covers left too)
  two_covers a b (Some set) None was too = left_covers a b set (λ touched covers left. one_left old touched a set covers left was) (λ touched covers left. none_left old touched b covers too)
  two_covers a b (Some set) (Some other) was too = elim (eqb_tells set other) [
    | inl e ↦ (let same = e.0 in
        rw same (left_covers a b set (λ touched covers left. one_left old touched a set covers left was) (λ touched covers left. one_left old touched b set covers left (λ x in_it. ap Some e.1 ∙ too x in_it))))
    | inr e ↦ (let differs = e.0 in rw differs (inl refl))
  ]

  three_covers : (a b c : ℕ) (left other last : Option ℕ) → slice_get (sets_at old a) 0 ≡ left → slice_get (sets_at old b) 0 ≡ other → slice_get (sets_at old c) 0 ≡ last → CoversBy (a ∷ b ∷ c ∷ []) (touched_by w (by_taking_three to a b c left other last))
  three_covers a b c None None None is too three = go (sets_at w to) refl
    where
      four : Touched
      four = Few (Some (Waited.Port to) ∷ Some (Waited.Port a) ∷ Some (Waited.Port b) ∷ Some (Waited.Port c) ∷ [])

      none_in : (set : ℕ) → Contains [] set → ⊥
      none_in set (i, below, same) = omega (arith, below)

      go : (xs : List ℕ) → sets_at w to ≡ xs → CoversBy (a ∷ b ∷ c ∷ []) (if is_some (lone xs) then Any else four)
      go (set ∷ sets) e = inl refl
      go [] e = inr (record {
        port = (0, omega arith, refl);
        own = λ set in_it. absurd (none_in set (subst (λ (ys : List ℕ). Contains ys set) e in_it));
        others = for_more (CoversLeft old four) a (b ∷ c ∷ []) (none_left old four a (1, omega arith, refl) (empty_in (sets_at old a) is))
            (for_more (CoversLeft old four) b (c ∷ []) (none_left old four b (2, omega arith, refl) (empty_in (sets_at old b) too)) (for_one (CoversLeft old four) c (none_left old four c (3, omega arith, refl) (empty_in (sets_at old c) three))));
      })
  three_covers a b c (Some set) other last is too three = inl refl
  three_covers a b c None (Some set) last is too three = inl refl
  three_covers a b c None None (Some set) is too three = inl refl

  -- by the tables before
  taking_covers : (ports : List ℕ) → CoversBy ports (touched_by w (by_taking old to ports))
  taking_covers [] = none_covers
  taking_covers (a ∷ []) = go (has_more (sets_at old a)) refl
    where
      go : (m : Bool) → has_more (sets_at old a) ≡ m → CoversBy (a ∷ []) (touched_by w (if m then change.Any else by_taking_along to a (slice_get (sets_at old a) 0)))
      go true is = inl refl
      go false is = one_covers a (slice_get (sets_at old a) 0) (one_in (sets_at old a) is)
  taking_covers (a ∷ b ∷ []) = go (has_more (sets_at old a)) (has_more (sets_at old b)) refl refl
    where
      go : (m n : Bool) → has_more (sets_at old a) ≡ m → has_more (sets_at old b) ≡ n →
          CoversBy (a ∷ b ∷ []) (touched_by w (if m then change.Any else (if n then change.Any else by_taking_two to a b (slice_get (sets_at old a) 0) (slice_get (sets_at old b) 0))))
      go true n is too = inl refl
      go false true is too = inl refl
      go false false is too = two_covers a b (slice_get (sets_at old a) 0) (slice_get (sets_at old b) 0) (one_in (sets_at old a) is) (one_in (sets_at old b) too)
  taking_covers (a ∷ b ∷ c ∷ []) = three_covers a b c (slice_get (sets_at old a) 0) (slice_get (sets_at old b) 0) (slice_get (sets_at old c) 0) refl refl refl
  taking_covers (a ∷ b ∷ c ∷ d ∷ ports) = inl refl

module _ (now : ℕ) (old w : WorldView) (s mid : State) (owed : Owed) (sh : Shows old s) (shown : ShowsMid now old w mid owed) where
  agree : owed ≡ [] → Agrees w mid
  agree none = subst (λ (o : Owed). Agrees w (with_posted now mid o)) none shown.agrees

  law : owed ≡ [] → MidLawful mid []
  law none = subst (MidLawful mid) none shown.lawful

  pub along_own : (task : ℕ) (bytes : List ℕ) (plan : PlanView) (told : Change) → Sends now task bytes s mid → owed ≡ [] → PlansText old task bytes plan → TellsAlong old plan told → OwnTouches s mid owed (touched_by w told)
  along_own task bytes plan told x none p tells = elim (taking_covers old w plan.port (receives_of plan.message.rights)) [
    | inl every ↦ inl (ap (touched_by w) tells ∙ every)
    | inr covers ↦ (
        let ports : List ℕ = receives_of plan.message.rights in
        let j = p.is_plan.plans.judged in
        let y : Sends now task bytes s _ = record {
          header = p.text.header;
          written = p.text.written;
          spells = p.text.message.spells;
          m = message old s sh task bytes p.parsed p.text j;
          copied_state = (third old s sh task bytes p.parsed p.text j).t;
          copied = copied old s sh task bytes p.parsed p.text j;
          rest = refl;
        } in
        let same = sends_alike now task bytes s mid _ sh.lawful x y in
        let to : x.m.destination ≡ plan.port = same.0 ∙ sym p.is_plan.port in
        let one : y.m ≡ x.m = sends_one now task bytes s mid _ x y in
        let moved = none_receives old s sh task bytes p.parsed p.text j in
        let rights : body_rights x.m.body ≡ rights_of j.rights = ap (λ (m : Message). body_rights m.body) (sym one) ∙ body_kept p.text.written j.rights (third old s sh task bytes p.parsed p.text j).given in
        let words : machine_words x.written ≡ pairs (body_words p.text.written) = ap machine_words same.2 ∙ sym (body_pairs p.text.written) in
        let among : All (IsAmong ports) j.rights = subst (All (IsAmong ports)) (ap (λ (m : Kept). m.rights) p.is_plan.message) (all_among ports plan.message.rights (λ r in_it. in_it)) in
        let zip : AllZip (TakesAlong (Contains ports)) (pairs (body_words p.text.written)) (rights_of j.rights) = along_words ports j.second (body_words p.text.written) j.rights j.last j.copies_body among in
        let body : AllZip (TakesAlong (Contains ports)) (machine_words x.written) (body_rights x.m.body) =
        subst (λ (rs : List (Kind × MachineMark)). AllZip (TakesAlong (Contains ports)) (machine_words x.written) rs) (sym rights) (subst (λ (ws : List (ℕ × ℕ)). AllZip (TakesAlong (Contains ports)) ws (rights_of j.rights)) (sym words) zip) in
        let along : GoesAlong (Contains ports) x.header x.written x.m =
        record { destination = subst (λ (h : Header). h.remote_kind ≢ 16) (sym same.1) moved.remote; reply = subst (λ (h : Header). h.local_kind ≢ 16) (sym same.1) moved.local; body = body } in
        let touched : Touched = touched_by w (by_taking old plan.port ports) in
        subst (λ (c : Touched). OwnTouches s mid owed c) (sym (ap (touched_by w) tells))
        (inr (inl (
          none,
          λ t k.
              along_touches (Contains ports) now task bytes s mid x along t k touched (subst (λ (o : ℕ). Covers touched (Waited.Port o)) (sym to) covers.port)
              (λ set in_it. covers.own set (set_is w mid (agree none) plan.port ((law none).no_sets plan.port) set (subst (λ (o : ℕ). Contains (mid.sets_of o) set) to in_it)))
              (λ r in_it. (covers.others r in_it).0)
              (λ r set in_it was. (covers.others r in_it).1 set (set_is old s sh.agrees r (sh.lawful.no_sets r) set was)),
        ))))
  ]
