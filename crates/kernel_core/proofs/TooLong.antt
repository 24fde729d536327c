-- What is covered once a message was destroyed as too long: the queue of its port, and that of the port of its only send-once right.
use Rattle.std.proofs.Common.{◌≡◌, ℕ, ◌+◌, ◌≤◌, List, [], ◌∷◌, ◌++◌, Option, Some, None, refl, sym, ap, subst, ◌∙◌, arith, true, inl, inr}
use Rattle.std.specs.List.{filter_map}
use Rattle.std.specs.Prelude.{◌≢◌, ◌==◌, if◌then◌else◌, Contains, slice_get}
use Rattle.std.specs.Option.{option_and_then, option_to_list}
use Rattle.std.proofs.lemmas.Bool.{ne_eqb}
use Rattle.mach_types.specs.declared.calls.Waited.{Waited}
use Rattle.mach_types.specs.declared.rights.Disposition.{Disposition}
use Rattle.mach_types.specs.declared.rights.Disposition.TheVariants.{MoveReceive, MoveSend, MoveSendOnce, CopySend, MakeSend, MakeSendOnce}
use Rattle.mach_types.specs.declared.touched.Touched.{Touched}
use Rattle.mach_types.specs.declared.touched.Touched.TheVariants.{Few}
use Rattle.mach_types.specs.Touching.{Covers}
use Rattle.mach_types.specs.Bodies.{message_rights}
use Rattle.mach_types.specs.Messages.{Entry}
use Rattle.mach_types.specs.Numbers.{kind_sent}
use Rattle.mach_types.specs.Tokens.{Kind, receive, send, send_once, token}
use Rattle.mach_model.specs.State.{State, queue}
use Rattle.mach_model.specs.Carried.{rights_count}
use Rattle.mach_model.specs.Notices.{Owed}
use Rattle.mach_model.specs.Receive.{IsFront, DestroysFront}
use Rattle.mach_laws.proofs.Requesting.{OwesNone}
use Rattle.mach_laws.proofs.TooLong.{CarriesNone, first_left, destroyed_changes, destroyed_owing_none, destroyed_owing_one}
use Rattle.mach_laws.proofs.Touching.{Changes, changes_end, touches, touches_both}
use Rattle.port.specs.Ports.{PortView}
use Rattle.copyin_base.specs.declared.Carried.{Carried}
use Rattle.copyin_base.specs.declared.Mark.{Mark}
use Rattle.copyin_base.specs.declared.Mark.TheVariants as mark
use Rattle.copyin_base.specs.Kept.{Kept, Keeps, mark_of, receive_moved, receive_of}
use Rattle.copyin_base.specs.Posted.{with_notice, with_posted}
use Rattle.copyin_base.specs.Serving.{ShowsMid}
use Rattle.copyin_base.specs.Shows.{Agrees, Shows}
use Rattle.copyin_base.specs.Worlds.{WorldView, port_at, sets_at}
use Rattle.copyin_base.proofs.KeptEntries.{right_of, rights_of, message_kept}
use Rattle.copyin_base.proofs.Told.{port_there}
use Rattle.copyout.proofs.Fronts.{shown_empty, shown_front, shown_is_front}
use Rattle.kernel_change.specs.Changing.{lone, unless_several, with_sets, named_two, noticed, noticed_of, receives_of, touched_by, front_at, by_destroying, by_front, by_losing_with}
use Rattle.kernel_core.proofs.Covered.{OwnTouches, none_some, one_some, set_is, covers_named, covers_its, unless_covers, unless_set}
use Rattle.kernel_core.proofs.Freed.{front_same}

-- ---- the rights of a message, by the ports that they are for

abbrev times : ℕ → List ℕ → ℕ
times q [] = 0
times q (x ∷ xs) = (if x == q then 1 else 0) + times q xs

received : (given : Disposition) (one : Mark) (q : ℕ) → rights_count receive q ((kind_sent given, mark_of one) ∷ []) ≡ times q (option_to_list (receive_moved given one))
received MoveReceive (mark.Port p) q = refl
received MoveReceive mark.Null q = refl
received MoveReceive mark.Dead q = refl
received MoveSend (mark.Port p) q = refl
received MoveSend mark.Null q = refl
received MoveSend mark.Dead q = refl
received CopySend (mark.Port p) q = refl
received CopySend mark.Null q = refl
received CopySend mark.Dead q = refl
received MakeSend (mark.Port p) q = refl
received MakeSend mark.Null q = refl
received MakeSend mark.Dead q = refl
received MoveSendOnce (mark.Port p) q = refl
received MoveSendOnce mark.Null q = refl
received MoveSendOnce mark.Dead q = refl
received MakeSendOnce (mark.Port p) q = refl
received MakeSendOnce mark.Null q = refl
received MakeSendOnce mark.Dead q = refl

notified : (kind : Kind) (one : Mark) (q : ℕ) → rights_count send_once q ((kind, mark_of one) ∷ []) ≡ times q (option_to_list (noticed kind one))
notified send_once (mark.Port p) q = refl
notified send_once mark.Null q = refl
notified send_once mark.Dead q = refl
notified send (mark.Port p) q = refl
notified send mark.Null q = refl
notified send mark.Dead q = refl
notified receive (mark.Port p) q = refl
notified receive mark.Null q = refl
notified receive mark.Dead q = refl

counted : (kind : Kind) (f : Carried → Option ℕ) → ((c : Carried) (q : ℕ) → rights_count kind q (right_of c ∷ []) ≡ times q (option_to_list (f c))) → (cs : List Carried) (q : ℕ) → rights_count kind q (rights_of cs) ≡ times q (filter_map f cs)
counted kind f one [] q = refl
counted kind f one (c ∷ cs) q = go (f c) refl (one c q) (counted kind f one cs q)
  where
    go : (o : Option ℕ) → f c ≡ o → rights_count kind q (right_of c ∷ []) ≡ times q (option_to_list (f c)) → rights_count kind q (rights_of cs) ≡ times q (filter_map f cs) → rights_count kind q (rights_of (c ∷ cs)) ≡ times q (filter_map f (c ∷ cs))
    go None is own rest =
        let a : rights_count kind q (right_of c ∷ []) ≡ 0 = own ∙ ap (λ (o : Option ℕ). times q (option_to_list o)) is in
        rw is (omega (arith, a, rest))
    go (Some p) is own rest =
        let a : rights_count kind q (right_of c ∷ []) ≡ times q (p ∷ []) = own ∙ ap (λ (o : Option ℕ). times q (option_to_list o)) is in
        rw is (omega (arith, a, rest))

module _ (now : ℕ) (old w : WorldView) (s mid : State) (owed : Owed) (sh : Shows old s) (shown : ShowsMid now old w mid owed) where
  -- a set that a port is in
  is_member : (q : ℕ) → OwesNone q owed → (p set : ℕ) → Contains (mid.sets_of p) set → Contains (sets_at w p) set
  is_member q (inl none) p set = set_is w mid (subst (λ (o : Owed). Agrees w (with_posted now mid o)) none shown.agrees) p (shown.lawful.no_sets p) set
  is_member q (inr one) p set =
      set_is w (with_notice now mid (token send_once q one.place, one.notice)) (subst (λ (o : Owed). Agrees w (with_posted now mid o)) one.is shown.agrees) p (shown.lawful.no_sets p) set

  -- the queue of one port has changed, and a notice may come to another
  covered : (a b : ℕ) (touched : Touched) → ((p : ℕ) → Some a ≡ Some p → Covers touched (Waited.Port p)) → ((p : ℕ) → Some b ≡ Some p → Covers touched (Waited.Port p)) →
      ((p set : ℕ) → Some a ≡ Some p → Contains (sets_at w p) set → Covers touched (Waited.Set set)) → ((p set : ℕ) → Some b ≡ Some p → Contains (sets_at w p) set → Covers touched (Waited.Set set)) →
      Changes s mid (Some a) None → OwesNone b owed → OwnTouches s mid owed touched
  covered a b touched at_a at_b set_a set_b c owes = go owes
    where
      was : (p set : ℕ) → Contains (s.sets_of p) set → Contains (sets_at w p) set
      was p set in_it = is_member b owes p set (subst (λ (xs : List ℕ). Contains xs set) (sym (c.sets p)) in_it)

      go : OwesNone b owed → OwnTouches s mid owed touched
      go (inl none) = inr (inl (
        none,
        λ t k.
            touches s t (Some a) None touched (changes_end s mid t (Some a) None c k) at_a (λ p e. absurd (none_some p e)) (λ p set e in_it. set_a p set e (was p set in_it)),
      ))
      go (inr one) = inr (inr (
        b,
        one,
        λ t k.
            touches_both s mid t touched (touches s mid (Some a) None touched c at_a (λ p e. absurd (none_some p e)) (λ p set e in_it. set_a p set e (was p set in_it)))
            (touches mid t (Some b) None touched k at_b (λ p e. absurd (none_some p e)) (λ p set e in_it. set_b p set e (is_member b owes p set in_it))),
      ))

  module _ (p : ℕ) (e : Entry) (lives : s.live_port p ≡ true) (front : IsFront s p e) (d : DestroysFront p e s mid owed) where
    -- nobody is told
    untold : CarriesNone receive e → CarriesNone send_once e → OwnTouches s mid owed (with_sets w (Some p))
    untold none silent =
        covered p p (with_sets w (Some p)) at_p at_p set_p set_p (destroyed_changes p e s mid owed sh.lawful lives d none) (inl (destroyed_owing_none p e s mid owed sh.lawful lives d silent))
      where
        at_p : (q : ℕ) → Some p ≡ Some q → Covers (with_sets w (Some p)) (Waited.Port q)
        at_p q is = subst (λ (n : ℕ). Covers (with_sets w (Some p)) (Waited.Port n)) (one_some p q is) (covers_named p (sets_at w p))

        set_p : (q set : ℕ) → Some p ≡ Some q → Contains (sets_at w q) set → Covers (with_sets w (Some p)) (Waited.Set set)
        set_p q set is in_it = covers_its p (sets_at w p) set (subst (λ (n : ℕ). Contains (sets_at w n) set) (sym (one_some p q is)) in_it)

    -- this port is told, unless it is dead
    told : (q : ℕ) → CarriesNone receive e → ((r : ℕ) → r ≢ q → rights_count send_once r (message_rights e.message) ≡ 0) → rights_count send_once q (message_rights e.message) ≤ 1 → OwnTouches s mid owed (named_two w p q)
    told q none others most =
        covered p q (named_two w p q)
        (λ r is. unless_covers (sets_at w p) inner (Waited.Port r) (unless_covers (sets_at w q) both (Waited.Port r) (0, omega arith, ap (λ (n : ℕ). Some (Waited.Port n)) (one_some p r is))))
        (λ r is. unless_covers (sets_at w p) inner (Waited.Port r) (unless_covers (sets_at w q) both (Waited.Port r) (2, omega arith, ap (λ (n : ℕ). Some (Waited.Port n)) (one_some q r is))))
        (λ r set is in_it.
        unless_set (sets_at w p) inner set (subst (λ (n : ℕ). Contains (sets_at w n) set) (sym (one_some p r is)) in_it) (λ one. unless_covers (sets_at w q) both (Waited.Set set) (1, omega arith, one)))
        (λ r set is in_it.
        unless_covers (sets_at w p) inner (Waited.Set set) (unless_set (sets_at w q) both set (subst (λ (n : ℕ). Contains (sets_at w n) set) (sym (one_some q r is)) in_it) (λ one. (3, omega arith, one))))
        (destroyed_changes p e s mid owed sh.lawful lives d none) (destroyed_owing_one p e s mid owed sh.lawful lives d q others most)
      where
        both : Touched
        both = Few (Some (Waited.Port p) ∷ lone (sets_at w p) ∷ Some (Waited.Port q) ∷ lone (sets_at w q) ∷ [])

        inner : Touched
        inner = unless_several (sets_at w q) both

    destroyed : (cs : List Carried) → message_rights e.message ≡ rights_of cs → OwnTouches s mid owed (touched_by w (by_destroying p cs))
    destroyed cs are = go (receives_of cs) (filter_map noticed_of cs) refl refl
      where
        received_at : (q : ℕ) → rights_count receive q (message_rights e.message) ≡ times q (receives_of cs)
        received_at q = ap (rights_count receive q) are ∙ counted receive receive_of (λ c r. received c.given c.mark r) cs q

        noticed_at : (q : ℕ) → rights_count send_once q (message_rights e.message) ≡ times q (filter_map noticed_of cs)
        noticed_at q = ap (rights_count send_once q) are ∙ counted send_once noticed_of (λ c r. notified (kind_sent c.given) c.mark r) cs q

        one_or_none : (q : ℕ) → (if q == q then 1 else 0) + 0 ≤ 1
        one_or_none q = grind arith

        go : (rs ns : List ℕ) → receives_of cs ≡ rs → filter_map noticed_of cs ≡ ns → OwnTouches s mid owed (touched_by w (by_losing_with p rs ns))
        go [] [] r n = untold (λ q. received_at q ∙ ap (times q) r) (λ q. noticed_at q ∙ ap (times q) n)
        go [] (q ∷ []) r n =
            told q (λ x. received_at x ∙ ap (times x) r) (λ x other. noticed_at x ∙ ap (times x) n ∙ (let differs = ne_eqb q x (λ e. other (sym e)) in rw differs refl))
            (let many : rights_count send_once q (message_rights e.message) ≡ (if q == q then 1 else 0) + 0 = noticed_at q ∙ ap (times q) n in rw many (one_or_none q))
        go [] (q ∷ x ∷ ns) r n = inl refl
        go (x ∷ rs) ns r n = inl refl

    pub too_long_own : OwnTouches s mid owed (touched_by w (by_front p (front_at old p)))
    too_long_own = go v.0.queue refl
      where
        v : (x : PortView Kept) × (port_at old p ≡ Some x)
        v = port_there old s sh.agrees p lives

        at_front : (ms : List Kept) → v.0.queue ≡ ms → front_at old p ≡ slice_get ms 0
        at_front ms is = ap (option_and_then (λ (x : PortView Kept). slice_get x.queue 0)) v.1 ∙ ap (λ (xs : List Kept). slice_get xs 0) is

        no_first : (x : Entry) → None ≡ Some x → ⊥
        no_first x is = cc

        go : (ms : List Kept) → v.0.queue ≡ ms → OwnTouches s mid owed (touched_by w (by_front p (front_at old p)))
        go [] is =
            let none : queue s p ≡ [] = shown_empty old s sh.agrees p v.0 v.1 is in
            let first : slice_get (queue s p) 0 ≡ Some e = first_left (s.log p) (s.taken p) e front in
            absurd (no_first e (sym (ap (λ (xs : List Entry). slice_get xs 0) none) ∙ first))
        go (m ∷ ms) is =
            let f = shown_front old s sh.agrees p v.0 v.1 m ms is in
            let same = front_same s p f.first e (shown_is_front old s sh.agrees p v.0 v.1 m ms is) front in
            let keeps : Keeps p m e.message = subst (λ (x : Entry). Keeps p m x.message) same f.keeps in
            subst (λ (o : Option Kept). OwnTouches s mid owed (touched_by w (by_front p o))) (sym (at_front (m ∷ ms) is)) (destroyed (option_to_list m.reply ++ m.rights) (message_kept p m e.message keeps))
