-- What a kernel keeps of a step covers all that the machine's step changes of ports and sets.
use Rattle.std.proofs.Common.{◌≡◌, ℕ, suc, zero, ◌+◌, ◌-◌, ◌<◌, List, [], ◌∷◌, ◌++◌, Option, Some, None, refl, sym, ap, subst, ◌∙◌, arith, true, false, Bool, inl, inr, ◌⊎◌, length, is_some}
use Rattle.std.specs.Prelude.{◌≢◌, ◌==◌, ◌&&◌, ◌||◌, ℤ, not, if◌then◌else◌, MatchBool, Contains, nat_lt, All, Result, Ok, Err, IfOk}
use Rattle.std.specs.Option.{option_map, option_and_then}
use Rattle.std.proofs.lemmas.List.Elements.{All-head, All-tail, All-cons, All-nil}
use Rattle.std.proofs.lemmas.Bool.Decides.{eqb_tells}
use Rattle.mach_types.specs.declared.calls.Event.{Event}
use Rattle.mach_types.specs.declared.calls.Reply.{Reply}
use Rattle.mach_types.specs.declared.calls.Waited.{Waited}
use Rattle.mach_types.specs.declared.touched.Touched.{Touched}
use Rattle.mach_types.specs.declared.touched.Touched.TheVariants.{Few, All as Any}
use Rattle.mach_types.specs.Touching.{Covers}
use Rattle.mach_types.specs.declared.rights.Disposition.{Disposition}
use Rattle.mach_types.specs.declared.rights.Disposition.TheVariants.{MoveSend, MoveSendOnce}
use Rattle.mach_types.specs.Tokens.{Kind, receive, send_once, Token, token, Place, in_task, in_message, Request, in_request, count, is_of, is_held, Moves}
use Rattle.mach_types.specs.Messages.{Mark as MachineMark, to_port}
use Rattle.mach_types.specs.Grammar.{Header, WireBody}
use Rattle.mach_types.specs.Numbers.{most_identities}
use Rattle.mach_model.specs.State.{State, Target, lookup, held, gives, without_name}
use Rattle.mach_model.specs.Carried.{lying}
use Rattle.mach_model.specs.Death.{same_place}
use Rattle.mach_model.specs.Lawful.{IsLawful}
use Rattle.mach_model.specs.Midway.{MidLawful}
use Rattle.mach_model.specs.Acts.{Does}
use Rattle.mach_model.specs.Names.{Makes, EntersSet, LeavesSet}
use Rattle.mach_model.specs.Notices.{Notice, carried_by, Owed, right_unused}
use Rattle.mach_model.specs.Requests.{Requests}
use Rattle.mach_model.specs.SentMeans.{target_mark}
use Rattle.mach_model.specs.CopyIn.{CopyRight}
use Rattle.mach_model.specs.References.{LosesOne, unused_once, Deallocates, Destroys, Modifies, LosesAll, LosesReceive, RemovesRight, without_set, is_either}
use Rattle.mach_model.specs.Receive.{Receipt}
use Rattle.mach_model.specs.Send.{Sends}
use Rattle.mach_model.specs.Settles.{Settles}
use Rattle.mach_model.specs.Tasks.{EndsTask}
use Rattle.mach_model.proofs.Failing.{refusal_fails}
use Rattle.mach_model.proofs.StepLawful.{TakesFrom-live}
use Rattle.mach_model.proofs.NamesLawful.{gives-lawful}
use Rattle.mach_laws.specs.Touching.{TouchesOnly}
use Rattle.mach_laws.proofs.Disbanding.{disbanding_touches}
use Rattle.mach_laws.proofs.EndingTask.{HoldsSends, sends_hold, ends_keep, ends_owing_none}
use Rattle.mach_laws.proofs.LoneDeath.{LosesRight, dies_alone}
use Rattle.mach_laws.proofs.Losing.{one_keeps, all_keeps, IsCounted, counts_keep, modifies_removes, insert_ends, extract_ends, inserts_keep, extracts_keep}
use Rattle.mach_laws.proofs.Moving.{KeepsOthers, others_end, others_trans, moved_touches, joins_others, receive_moves}
use Rattle.mach_laws.proofs.QuietEnd.{IsQuietEnd, ends_quietly, ends_telling}
use Rattle.mach_laws.proofs.Requesting.{OwesOne, OwesNone, request_keeps, taken_away_keeps}
use Rattle.mach_laws.proofs.Touching.{Keeps, Changes, keeps_same, keeps_by, changes_none, changes_end, touches, touches_before, gives_keeps, made_touches, set_changes, dead_keeps, IsOtherWord, SendsOthers, keeps_trans, sends_change, sends_alike, creates_keep, renames_keep, limit_changes}
use Rattle.name_space.specs.declared.Entry.{Entry as Named}
use Rattle.name_space.specs.declared.Entry.TheVariants as named
use Rattle.name_space.specs.Entry.{set_named}
use Rattle.port_base.specs.Memberships.{membership_in}
use Rattle.port.specs.Ports.{PortView}
use Rattle.message_codec.specs.declared.words.PortWord.{PortWord}
use Rattle.copyin_base.specs.Kept.{Kept}
use Rattle.copyin_base.specs.Posted.{with_notice, with_posted}
use Rattle.copyin_base.specs.Serving.{Declines}
use Rattle.copyin_base.specs.Shows.{Agrees, Shows, target_of}
use Rattle.copyin_base.specs.Worlds.{WorldView, entry_at, port_at, sets_at, IsIdle}
use Rattle.copyin_base.specs.Serving.{ShowsMid}
use Rattle.message_codec.specs.Words.{body_words}
use Rattle.mach_types.specs.Bodies.{body_words as machine_words}
use Rattle.copyin.specs.Planned.{PlanView}
use Rattle.copyin.proofs.Copying.{pairs, body_pairs}
use Rattle.copyin.proofs.Planning.{message, third, copied, none_receives}
use Rattle.destroy.specs.Stages.{SettlesIn}
use Rattle.kernel_change.specs.declared.change.Change.TheVariants as change
use Rattle.kernel_change.specs.declared.change.Change.{Change}
use Rattle.kernel_change.specs.Changing.{ByDisbanding, ByEnding, ByLosingAll, ByReferences, DiesAlone, EndsAs, HasSendsAlone, by_handing, by_losing_all, by_losing_one, by_making, by_moving, by_paying, by_receipt, by_request, by_too_long, disbanded, few, is_send_or_dead, left_by, made_last, moved_from, named_left, touched_by, with_sets, by_pairing, lone, paired, port_under}
use Rattle.kernel_core.specs.InTurn.{source, TakesByTurn, CompletesInTurn}
use Rattle.kernel_core.specs.Receive.{taken_by, TakesOne}
use Rattle.message_send.specs.Send.{MovesNoReceive, PlansText}
use Rattle.message_send.specs.Telling.{TellsPlan}
use Rattle.kernel_core.specs.Telling.{TellsChange, EndsIdle}
use Rattle.kernel_core.specs.Touching.{Touches}
use Rattle.kernel_core.proofs.Along.{along_own}
use Rattle.kernel_core.proofs.Alone.{none_kept, is_lone}
use Rattle.kernel_core.proofs.Covered.{OwnTouches, touches_all, none_some, one_some, kept_all, set_is, under, covers_port, covers_set, covers_named, covers_its, unless_covers, unless_set, queue_changed, limit_changed}
use Rattle.kernel_core.proofs.Pairing.{enters_touch, leaves_touch}
use Rattle.kernel_core.proofs.Taking.{named_takes, again_takes, destroyed_one, one_taken, settled_in_turn, refused_in_turn}
use Rattle.kernel_core.proofs.Given.{message_own}
use Rattle.kernel_core.proofs.LostRight.{own_lost}
use Rattle.kernel_core.proofs.TooLong.{too_long_own}

-- ---- where nothing is left to do, the state midway and the one after are shown by the same tables

module _ (w : WorldView) (mid t : State) (a : Agrees w mid) (b : Shows w t) (no_sets : (p : ℕ) → mid.live_port p ≡ false → mid.sets_of p ≡ []) (idle : IsIdle w) where
  same_sets : (p : ℕ) (o : Option (PortView Kept)) → port_at w p ≡ o → t.sets_of p ≡ mid.sets_of p
  same_sets p None is =
      let c : mid.live_port p ≡ false = sym (a.live_port p) ∙ ap is_some is in
      let d : t.live_port p ≡ false = sym (b.agrees.live_port p) ∙ ap is_some is in
      b.lawful.no_sets p d ∙ sym (no_sets p c)
  same_sets p (Some v) is = sym (b.agrees.ports p v is).sets ∙ (a.ports p v is).sets

  pub quiet_end : IsQuietEnd mid t
  quiet_end = record {
    live = λ p. sym (b.agrees.live_port p) ∙ a.live_port p;
    sets = λ p. same_sets p (port_at w p) refl;
    stands = λ r. b.agrees.standing r ∙ sym (a.standing r);
    kept = none_kept w mid a idle.went;
  }

-- So it is where one notice was posted, which brings no right.
quiet_notice : (w : WorldView) (now : ℕ) (mid t : State) (p : ℕ) (place : Place) (notice : Notice) (bare : (at : Place) → carried_by notice at ≡ []) → Agrees w (with_notice now mid (token send_once p place, notice)) → Shows w t →
    ((q : ℕ) → mid.live_port q ≡ false → mid.sets_of q ≡ []) → IsIdle w → IsQuietEnd mid t
quiet_notice w now mid t p place notice bare a b no_sets idle =
    let e = quiet_end w (with_notice now mid (token send_once p place, notice)) t a b no_sets idle in
    record { live = e.live; sets = e.sets; stands = e.stands; kept = λ r gone kind q. let none = e.kept r gone kind q in let brings = bare (in_message p (length (mid.log p))) in kept_so r kind q (carried_by notice (in_message p (length (mid.log p)))) brings none }
  where
    kept_so : (r : Request) (kind : Kind) (q : ℕ) (xs : List Token) → xs ≡ [] → count (λ x. is_of kind q x && same_place (in_request r) x.place) ((token send_once p (in_message p (length (mid.log p))) ∷ xs) ++ mid.ledger) ≡ 0 → lying mid kind q (in_request r) ≡ 0
    kept_so r kind q [] e none = omega (arith, none)
    kept_so r kind q (x ∷ xs) e none = absurd (cc)

-- a set that is destroyed is covered, and so is each of few members
covers_disbanded : (v : WorldView) (set : ℕ) (ports : List ℕ) → Covers (touched_by v (disbanded set ports)) (Waited.Set set)
covers_disbanded v set [] = (0, omega arith, refl)
covers_disbanded v set (a ∷ []) = (1, omega arith, refl)
covers_disbanded v set (a ∷ b ∷ []) = (0, omega arith, refl)
covers_disbanded v set (a ∷ b ∷ c ∷ []) = (0, omega arith, refl)
covers_disbanded v set (a ∷ b ∷ c ∷ d ∷ xs) = tt

covers_member : (v : WorldView) (set : ℕ) (ports : List ℕ) (p : ℕ) → Contains ports p → Covers (touched_by v (disbanded set ports)) (Waited.Port p)
covers_member v set [] p (i, below, is) = absurd (omega (arith, below))
covers_member v set (a ∷ []) p (zero, below, is) = (0, omega arith, ap (λ (n : ℕ). Some (Waited.Port n)) is)
covers_member v set (a ∷ []) p (suc i, below, is) = absurd (omega (arith, below))
covers_member v set (a ∷ b ∷ []) p (zero, below, is) = (1, omega arith, ap (λ (n : ℕ). Some (Waited.Port n)) is)
covers_member v set (a ∷ b ∷ []) p (suc zero, below, is) = (2, omega arith, ap (λ (n : ℕ). Some (Waited.Port n)) is)
covers_member v set (a ∷ b ∷ []) p (suc (suc i), below, is) = absurd (omega (arith, below))
covers_member v set (a ∷ b ∷ c ∷ []) p (zero, below, is) = (1, omega arith, ap (λ (n : ℕ). Some (Waited.Port n)) is)
covers_member v set (a ∷ b ∷ c ∷ []) p (suc zero, below, is) = (2, omega arith, ap (λ (n : ℕ). Some (Waited.Port n)) is)
covers_member v set (a ∷ b ∷ c ∷ []) p (suc (suc zero), below, is) = (3, omega arith, ap (λ (n : ℕ). Some (Waited.Port n)) is)
covers_member v set (a ∷ b ∷ c ∷ []) p (suc (suc (suc i)), below, is) = absurd (omega (arith, below))
covers_member v set (a ∷ b ∷ c ∷ d ∷ xs) p in_it = tt

-- a port with its sets, and the set that it left
in_none : (set : ℕ) → Contains [] set → ⊥
in_none set (i, below, is) = omega (arith, below)

in_only : (left set : ℕ) → Contains (left ∷ []) set → left ≡ set
in_only left set (zero, below, is) = is
in_only left set (suc i, below, is) = absurd (omega (arith, below))

abbrev left_few : WorldView → (p left : ℕ) → Touched
left_few v p left = Few (Some (Waited.Port p) ∷ lone (sets_at v p) ∷ Some (Waited.Set left) ∷ None ∷ [])

covers_left : (v : WorldView) (p left : ℕ) (one : Waited) → Covers (left_few v p left) one → Covers (named_left v p left) one
covers_left v p left one c = unless_covers (sets_at v p) (left_few v p left) one c

covers_left_own : (v : WorldView) (p left set : ℕ) → Contains (sets_at v p) set → Covers (named_left v p left) (Waited.Set set)
covers_left_own v p left set in_it = unless_set (sets_at v p) (left_few v p left) set in_it (λ one. (1, omega arith, one))

-- a set stands under its name in the tables
named_set : (o : Option Named) (set : ℕ) → Some (Target.set set) ≡ option_map target_of o → option_and_then set_named o ≡ Some set
named_set None set e = cc
named_set (Some (named.Receive q)) set e = cc
named_set (Some (named.Send q n)) set e = cc
named_set (Some (named.ReceiveAndSend q n)) set e = cc
named_set (Some (named.SendOnce q)) set e = cc
named_set (Some (named.DeadName n)) set e = cc
named_set (Some (named.Set x)) set e = grind arith

-- what stands for no set
abbrev IsNoSet : Target → Type 0
IsNoSet (Target.set set) = ⊥
IsNoSet target = Unit {0}

-- what goes was held
held_some : (task p : ℕ) (old new : List Token) → Moves old new (token receive p (in_task task) ∷ []) [] → 0 < count (is_held task receive p) old
held_some task p old new moves =
    let m = moves (λ x. if is_held task receive p x then 1 else 0) in
    let own : is_held task receive p (token receive p (in_task task)) ≡ true = grind arith in
    let one : ◌≡◌ {A = ℕ} (if is_held task receive p (token receive p (in_task task)) then 1 else 0) 1 = rw own refl in
    omega (arith, m, one)

-- ---- a send

others_in : (ws : List PortWord) → MovesNoReceive ws → All IsOtherWord (pairs ws)
others_in [] none = All-nil IsOtherWord
others_in (w ∷ ws) none =
    All-cons IsOtherWord (w.disposition, w.name) (pairs ws) (All-head (λ (x : PortWord). x.disposition ≢ 16) w ws none) (others_in ws (All-tail (λ (x : PortWord). x.disposition ≢ 16) w ws none))

module _ (now : ℕ) (old w : WorldView) (s mid : State) (owed : Owed) (sh : Shows old s) (shown : ShowsMid now old w mid owed) where
  agree : owed ≡ [] → Agrees w mid
  agree none = subst (λ (o : Owed). Agrees w (with_posted now mid o)) none shown.agrees

  law : owed ≡ [] → MidLawful mid []
  law none = subst (MidLawful mid) none shown.lawful

  message_sent : (task : ℕ) (bytes : List ℕ) (plan : PlanView) → Sends now task bytes s mid → owed ≡ [] → PlansText old task bytes plan → MovesNoReceive plan.words.body → OwnTouches s mid owed (with_sets w (Some plan.port))
  message_sent task bytes plan x none p goes =
      let j = p.is_plan.plans.judged in
      let y : Sends now task bytes s _ = record {
        header = p.text.header;
        written = p.text.written;
        spells = p.text.message.spells;
        m = message old s sh task bytes p.parsed p.text j;
        copied_state = (third old s sh task bytes p.parsed p.text j).t;
        copied = copied old s sh task bytes p.parsed p.text j;
        rest = refl;
      } in
      let same = sends_alike now task bytes s mid _ sh.lawful x y in
      let to : x.m.destination ≡ plan.port = same.0 ∙ sym p.is_plan.port in
      let moved = none_receives old s sh task bytes p.parsed p.text j in
      let body : All IsOtherWord (machine_words p.text.written) = subst (All IsOtherWord) (body_pairs p.text.written) (others_in (body_words p.text.written) (subst MovesNoReceive p.is_plan.words.body goes)) in
      let others : SendsOthers x.header x.written =
      subst (λ (h : Header). SendsOthers h x.written) (sym same.1) (subst (λ (v : WireBody). SendsOthers p.text.header v) (sym same.2) (record { destination = moved.remote; reply = moved.local; body = body })) in
      queue_changed w mid (agree none) s owed plan.port (law none) (subst (λ (o : ℕ). Changes s mid (Some o) None) to (sends_change now task bytes s mid x others)) none

  sent_own : (task : ℕ) (bytes : List ℕ) (plan : PlanView) (told : Change) → Sends now task bytes s mid → owed ≡ [] → PlansText old task bytes plan → TellsPlan old plan told → OwnTouches s mid owed (touched_by w told)
  sent_own task bytes plan told x none p (inl (goes, is)) = subst (λ (c : Change). OwnTouches s mid owed (touched_by w c)) (sym is) (message_sent task bytes plan x none p goes)
  sent_own task bytes plan told x none p (inr along) = along_own now old w s mid owed sh shown task bytes plan told x none p along

  -- ---- references

  once_queue : (o : Option Named) (p : ℕ) → Some (Target.once p) ≡ option_map target_of o → (by_losing_one o ≡ change.Queue p) × (by_losing_all o ≡ change.Queue p)
  once_queue None p e = cc
  once_queue (Some (named.Receive q)) p e = cc
  once_queue (Some (named.Send q n)) p e = cc
  once_queue (Some (named.ReceiveAndSend q n)) p e = cc
  once_queue (Some (named.SendOnce q)) p e = let f : q ≡ p = (let g = e in cc) in (ap change.Queue f, ap change.Queue f)
  once_queue (Some (named.DeadName n)) p e = cc
  once_queue (Some (named.Set set)) p e = cc

  -- a port is owed a notice, and nothing else changed for those that wait
  notice_own : (p : ℕ) (told : Change) → Keeps s mid → OwesOne p owed → told ≡ change.Queue p → OwnTouches s mid owed (touched_by w told)
  notice_own p told keeps one tells = inr (inr (
    p,
    one,
    λ t c.
        touches_before s mid t (touched_by w told) keeps
        (subst (λ (x : Change). TouchesOnly mid t (touched_by w x)) (sym tells)
        (touches mid t (Some p) None (with_sets w (Some p)) c
        (λ q e. subst (λ (x : ℕ). Covers (with_sets w (Some p)) (Waited.Port x)) (one_some p q e) (covers_port w told_mid posted p))
        (λ q e. absurd (none_some q e))
        (λ q set e in_it. covers_set w told_mid posted p set (shown.lawful.no_sets p) (subst (λ (x : ℕ). Contains (mid.sets_of x) set) (sym (one_some p q e)) in_it)))),
  ))
    where
      told_mid : State
      told_mid = with_notice now mid (token send_once p one.place, one.notice)

      posted : Agrees w told_mid
      posted = subst (λ (o : Owed). Agrees w (with_posted now mid o)) one.is shown.agrees

  -- what no set stands for goes as the entry says
  loss_is : (o : Option Named) (target : Target) (told : Change) → Some target ≡ option_map target_of o → IsNoSet target → ByLosingAll old o told → told ≡ by_losing_all o
  loss_is None target told e other is = is
  loss_is (Some (named.Receive q)) target told e other is = is
  loss_is (Some (named.Send q n)) target told e other is = is
  loss_is (Some (named.ReceiveAndSend q n)) target told e other is = is
  loss_is (Some (named.SendOnce q)) target told e other is = is
  loss_is (Some (named.DeadName n)) target told e other is = is
  loss_is (Some (named.Set set)) target told e other is = absurd (subst IsNoSet (let f : target ≡ Target.set set = (let g = e in cc) in f) other)

  -- a send-once right went, and its port is owed a notice
  loss_own : (task name p : ℕ) (told : Change) → LosesOne task name MoveSendOnce (Target.once p) s mid → owed ≡ unused_once p task → told ≡ change.Queue p → OwnTouches s mid owed (touched_by w told)
  loss_own task name p told l is = notice_own p told (one_keeps task name MoveSendOnce (Target.once p) s mid refl l) (record { place = in_task task; notice = right_unused; bare = λ at. refl; is = is })

  any_all : (told : Change) → told ≡ change.Any → touched_by w told ≡ Any
  any_all told is = ap (touched_by w) is

  lost_all : (told : Change) (p : ℕ) → told ≡ change.Lost p → touched_by w told ≡ Any
  lost_all told p is = ap (touched_by w) is

  one_own : (task name : ℕ) (told : Change) → Deallocates task name s mid owed → told ≡ by_losing_one (entry_at old task name) → OwnTouches s mid owed (touched_by w told)
  one_own task name told (inl (p, l, none)) tells = kept_all s mid owed _ (one_keeps task name MoveSend (Target.port p) s mid refl l) none
  one_own task name told (inr (inl (p, l, is))) tells = loss_own task name p told l is (tells ∙ (once_queue (entry_at old task name) p (sym l.found ∙ sh.agrees.naming task name)).0)
  one_own task name told (inr (inr (n, l, none))) tells = kept_all s mid owed _ (one_keeps task name MoveSend (Target.dead n) s mid refl l) none

  -- all under a port's name goes: send rights, or the receive right too
  port_own : (task name p : ℕ) (told : Change) → lookup s task name ≡ Some (Target.port p) → LosesAll (is_either task p) s.ledger mid.ledger → mid ≡ record (without_name task name s) { ledger = mid.ledger } → owed ≡ [] →
      told ≡ by_losing_all (entry_at old task name) → OwnTouches s mid owed (touched_by w told)
  port_own task name p told found loses rest none tells = go (entry_at old task name) refl (sym found ∙ sh.agrees.naming task name)
    where
      go : (o : Option Named) → entry_at old task name ≡ o → Some (Target.port p) ≡ option_map target_of o → OwnTouches s mid owed (touched_by w told)
      go None is e = absurd (cc)
      go (Some (named.Receive q)) is e = inl (lost_all told q (tells ∙ ap by_losing_all is))
      go (Some (named.Send q n)) is e =
          let has = sh.agrees.references task name (named.Send q n) q is refl in
          let none_held : held s task receive q ≡ 0 = has.0 in
          let same : p ≡ q = (let f = e in cc) in
          kept_all s mid owed _ (all_keeps task p name s mid loses rest (subst (λ (x : ℕ). held s task receive x ≡ 0) (sym same) none_held)) none
      go (Some (named.ReceiveAndSend q n)) is e = inl (lost_all told q (tells ∙ ap by_losing_all is))
      go (Some (named.SendOnce q)) is e = absurd (cc)
      go (Some (named.DeadName n)) is e = absurd (cc)
      go (Some (named.Set set)) is e = absurd (cc)

  -- a set goes, with its members
  set_own : (task name set : ℕ) (told : Change) → lookup s task name ≡ Some (Target.set set) → mid ≡ without_set set (without_name task name s) → owed ≡ [] → ByLosingAll old (entry_at old task name) told → OwnTouches s mid owed (touched_by w told)
  set_own task name set told found e none tells = go (entry_at old task name) (sym found ∙ sh.agrees.naming task name) tells
    where
      by : ByDisbanding old set told → OwnTouches s mid owed (touched_by w told)
      by (inr any) = inl (any_all told any)
      by (inl (ports, are, is)) = inr (inl (
        none,
        λ t k. disbanding_touches task name set s mid t e k (touched_by w told) (subst (λ (c : Change). Covers (touched_by w c) (Waited.Set set)) (sym is) (covers_disbanded w set ports))
            (λ p in_it. subst (λ (c : Change). Covers (touched_by w c) (Waited.Port p)) (sym is) (covers_member w set ports p (are.all p (set_is old s sh.agrees p (sh.lawful.no_sets p) set in_it)))),
      ))

      go : (o : Option Named) → Some (Target.set set) ≡ option_map target_of o → ByLosingAll old o told → OwnTouches s mid owed (touched_by w told)
      go None f x = absurd (let h = f in cc)
      go (Some (named.Receive q)) f x = absurd (let h = f in cc)
      go (Some (named.Send q n)) f x = absurd (let h = f in cc)
      go (Some (named.ReceiveAndSend q n)) f x = absurd (let h = f in cc)
      go (Some (named.SendOnce q)) f x = absurd (let h = f in cc)
      go (Some (named.DeadName n)) f x = absurd (let h = f in cc)
      go (Some (named.Set t)) f x = by (subst (λ (n : ℕ). ByDisbanding old n told) (let g : t ≡ set = (let h = f in cc) in g) x)

  -- a task ends whose names stand for send rights and dead names alone
  module _ (task : ℕ) (sends : HasSendsAlone old task) where
    unlike : (name : ℕ) (x : Named) → entry_at old task name ≡ Some x → is_send_or_dead x ≡ false → ⊥
    unlike name x is other = let f : true ≡ false = sym (sends.only name x is) ∙ other in cc

    port_unheld : (name p : ℕ) (o : Option Named) → entry_at old task name ≡ o → Some (Target.port p) ≡ option_map target_of o → held s task receive p ≡ 0
    port_unheld name p None is e = absurd (cc)
    port_unheld name p (Some (named.Receive q)) is e = absurd (unlike name (named.Receive q) is refl)
    port_unheld name p (Some (named.Send q n)) is e =
        let none_held : held s task receive q ≡ 0 = (sh.agrees.references task name (named.Send q n) q is refl).0 in
        let same : p ≡ q = (let f = e in cc) in
        subst (λ (x : ℕ). held s task receive x ≡ 0) (sym same) none_held
    port_unheld name p (Some (named.ReceiveAndSend q n)) is e = absurd (unlike name (named.ReceiveAndSend q n) is refl)
    port_unheld name p (Some (named.SendOnce q)) is e = absurd (cc)
    port_unheld name p (Some (named.DeadName n)) is e = absurd (cc)
    port_unheld name p (Some (named.Set set)) is e = absurd (cc)

    no_once : (name p : ℕ) (o : Option Named) → entry_at old task name ≡ o → Some (Target.once p) ≡ option_map target_of o → ⊥
    no_once name p None is e = cc
    no_once name p (Some (named.Receive q)) is e = cc
    no_once name p (Some (named.Send q n)) is e = cc
    no_once name p (Some (named.ReceiveAndSend q n)) is e = cc
    no_once name p (Some (named.SendOnce q)) is e = unlike name (named.SendOnce q) is refl
    no_once name p (Some (named.DeadName n)) is e = cc
    no_once name p (Some (named.Set set)) is e = cc

    no_set : (name set : ℕ) (o : Option Named) → entry_at old task name ≡ o → Some (Target.set set) ≡ option_map target_of o → ⊥
    no_set name set None is e = cc
    no_set name set (Some (named.Receive q)) is e = cc
    no_set name set (Some (named.Send q n)) is e = cc
    no_set name set (Some (named.ReceiveAndSend q n)) is e = cc
    no_set name set (Some (named.SendOnce q)) is e = cc
    no_set name set (Some (named.DeadName n)) is e = cc
    no_set name set (Some (named.Set t)) is e = unlike name (named.Set t) is refl

    holds_sends : HoldsSends task s
    holds_sends =
        sends_hold task s sh.lawful (λ name p found. port_unheld name p (entry_at old task name) refl (sym found ∙ sh.agrees.naming task name))
        (λ name p found. no_once name p (entry_at old task name) refl (sym found ∙ sh.agrees.naming task name)) (λ name set found. no_set name set (entry_at old task name) refl (sym found ∙ sh.agrees.naming task name))

  ending_own : (task : ℕ) (told : Change) → EndsTask task s mid owed → ByEnding old task told → OwnTouches s mid owed (touched_by w told)
  ending_own task told e (inr any) = inl (any_all told any.1)
  ending_own task told e (inl sends) = let few = holds_sends task sends.0 in kept_all s mid owed _ (ends_keep task s mid owed e few) (ends_owing_none task s mid owed e few)

  all_own : (task name : ℕ) (told : Change) → Destroys task name s mid owed → ByLosingAll old (entry_at old task name) told → OwnTouches s mid owed (touched_by w told)
  all_own task name told (Target.port p, found, d) tells = port_own task name p told found d.0 d.1 d.2 (loss_is (entry_at old task name) (Target.port p) told (sym found ∙ sh.agrees.naming task name) tt tells)
  all_own task name told (Target.once p, found, d) tells =
      let e = sym found ∙ sh.agrees.naming task name in
      loss_own task name p told d.0 d.1 (loss_is (entry_at old task name) (Target.once p) told e tt tells ∙ (once_queue (entry_at old task name) p e).1)
  all_own task name told (Target.dead n, found, d) tells =
      kept_all s mid owed _ (keeps_by s mid _ d.0 (λ p. refl) (λ p. refl) (λ p. refl) (λ p. refl) (λ p. refl) (λ set. refl) (λ test is. ap (λ (x : State). count test x.ledger) d.0)) d.1
  all_own task name told (Target.set set, found, d) tells = set_own task name set told found d.0 d.1 tells

  counted : (right : ℕ) → (right == 0 || right == 4) ≡ true → IsCounted right
  counted right is = elim (eqb_tells right 0) [
    | inl e ↦ inl e.1
    | inr e ↦ elim (eqb_tells right 4) [
      | inl f ↦ inr f.1
      | inr f ↦ absurd (let g = is in grind arith)
    ]
  ]

  counted_not : (right : ℕ) → (right == 0 || right == 4) ≡ false → (right ≢ 0) × (right ≢ 4)
  counted_not right is = ((λ e. (let f : (right == 0 || right == 4) ≡ true = rw e refl in cc)), (λ e. (let f : (right == 0 || right == 4) ≡ true = rw e refl in cc)))

  -- a receive right that goes stands under its name
  receive_own : (task name p : ℕ) (told : Change) → lookup s task name ≡ Some (Target.port p) → LosesReceive task name p s mid → told ≡ by_losing_all (entry_at old task name) → touched_by w told ≡ Any
  receive_own task name p told found loses tells = go (entry_at old task name) refl (sym found ∙ sh.agrees.naming task name)
    where
      go : (o : Option Named) → entry_at old task name ≡ o → Some (Target.port p) ≡ option_map target_of o → touched_by w told ≡ Any
      go None is e = absurd (cc)
      go (Some (named.Receive q)) is e = lost_all told q (tells ∙ ap by_losing_all is)
      go (Some (named.Send q n)) is e =
          let none : held s task receive q ≡ 0 = (sh.agrees.references task name (named.Send q n) q is refl).0 in
          let same : p ≡ q = (let f = e in cc) in
          let some : 0 < held s task receive p = held_some task p s.ledger mid.ledger loses.0 in
          absurd (let zero : held s task receive p ≡ 0 = subst (λ (x : ℕ). held s task receive x ≡ 0) (sym same) none in omega (arith, zero, some))
      go (Some (named.ReceiveAndSend q n)) is e = lost_all told q (tells ∙ ap by_losing_all is)
      go (Some (named.SendOnce q)) is e = absurd (cc)
      go (Some (named.DeadName n)) is e = absurd (cc)
      go (Some (named.Set set)) is e = absurd (cc)

  -- a right goes that counts no references
  removed_own : (task name right : ℕ) (target : Target) (told : Change) → lookup s task name ≡ Some target → RemovesRight right task name target s mid owed → ByLosingAll old (entry_at old task name) told → OwnTouches s mid owed (touched_by w told)
  removed_own task name right (Target.port p) told found r tells = inl (receive_own task name p told found r.1 (loss_is (entry_at old task name) (Target.port p) told (sym found ∙ sh.agrees.naming task name) tt tells))
  removed_own task name right (Target.once p) told found r tells =
      let e = sym found ∙ sh.agrees.naming task name in
      loss_own task name p told r.1.0 r.1.1 (loss_is (entry_at old task name) (Target.once p) told e tt tells ∙ (once_queue (entry_at old task name) p e).1)
  removed_own task name right (Target.set set) told found r tells = set_own task name set told found r.1.0 r.1.1 tells
  removed_own task name right (Target.dead n) told found r tells = absurd r

  counts_own : (task name right : ℕ) (delta : ℤ) (told : Change) → Modifies task name right delta s mid owed → ByReferences old task name right told → OwnTouches s mid owed (touched_by w told)
  counts_own task name right delta told m tells = go (right == 0 || right == 4) refl tells
    where
      go : (b : Bool) → (right == 0 || right == 4) ≡ b → MatchBool b (told ≡ change.Nothing) (ByLosingAll old (entry_at old task name) told) → OwnTouches s mid owed (touched_by w told)
      go true is tells = let k = counts_keep task name right delta s mid owed (counted right is) m in kept_all s mid owed _ k.0 k.1
      go false is tells =
          let not = counted_not right is in
          elim (modifies_removes task name right delta s mid owed not.0 not.1 m) [
            | inl same ↦ kept_all s mid owed _ (keeps_same s mid same.0) same.1
            | inr (target, found, r) ↦ removed_own task name right target told found r tells
          ]

  -- ---- a port goes to other sets, or its receive right to another task

  moved_own : (p : ℕ) → KeepsOthers p s mid → owed ≡ [] → OwnTouches s mid owed (touched_by w (left_by p (membership_in (sets_at old p))))
  moved_own p others none = go (sets_at old p) refl
    where
      was : (xs : List ℕ) → sets_at old p ≡ xs → (set : ℕ) → Contains (s.sets_of p) set → Contains xs set
      was xs is set in_it = subst (λ (ys : List ℕ). Contains ys set) is (set_is old s sh.agrees p (sh.lawful.no_sets p) set in_it)

      covered : (touched : Touched) → Covers touched (Waited.Port p) → ((set : ℕ) → Contains (s.sets_of p) set → Covers touched (Waited.Set set)) → ((set : ℕ) → Contains (sets_at w p) set → Covers touched (Waited.Set set)) → OwnTouches s mid owed touched
      covered touched port before after = inr (inl (
        none,
        λ t k.
            moved_touches p s t (others_end p s mid t others k) touched port before
            (λ set in_it. after set (set_is w mid (agree none) p ((law none).no_sets p) set (subst (λ (xs : List ℕ). Contains xs set) (k.sets p) in_it))),
      ))

      go : (xs : List ℕ) → sets_at old p ≡ xs → OwnTouches s mid owed (touched_by w (left_by p (membership_in xs)))
      go [] is = covered (with_sets w (Some p)) (covers_named p (sets_at w p)) (λ set in_it. absurd (in_none set (was [] is set in_it))) (covers_its p (sets_at w p))
      go (left ∷ []) is =
          covered (named_left w p left) (covers_left w p left (Waited.Port p) (0, omega arith, refl))
          (λ set in_it. covers_left w p left (Waited.Set set) (2, omega arith, ap (λ (n : ℕ). Some (Waited.Set n)) (in_only left set (was (left ∷ []) is set in_it))))
          (covers_left_own w p left)
      go (a ∷ b ∷ xs) is = inl refl

  moving_own : (task name p : ℕ) (told : Change) → lookup s task name ≡ Some (Target.port p) → KeepsOthers p s mid → owed ≡ [] → told ≡ by_moving old task name → OwnTouches s mid owed (touched_by w told)
  moving_own task name p told found others none tells =
      let is : told ≡ left_by p (membership_in (sets_at old p)) = tells ∙ ap (moved_from old) (under old s sh.agrees task name p found) in
      subst (λ (c : Change). OwnTouches s mid owed (touched_by w c)) (sym is) (moved_own p others none)

  -- a port enters a set beside others, or leaves one of several
  paired_is : (task member name p set : ℕ) → lookup s task member ≡ Some (Target.port p) → lookup s task name ≡ Some (Target.set set) → by_pairing old task member name ≡ change.Member p set
  paired_is task member name p set found found_set =
      let a : port_under old task member ≡ Some p = under old s sh.agrees task member p found in
      let b : option_and_then set_named (entry_at old task name) ≡ Some set = named_set (entry_at old task name) set (sym found_set ∙ sh.agrees.naming task name) in
      ap (λ (o : Option ℕ). paired o (option_and_then set_named (entry_at old task name))) a ∙ ap (paired (Some p)) b

  entered_own : (task member name : ℕ) (told : Change) → EntersSet task member name s mid → owed ≡ [] → told ≡ by_pairing old task member name → OwnTouches s mid owed (touched_by w told)
  entered_own task member name told x none tells =
      subst (λ (c : Change). OwnTouches s mid owed (touched_by w c)) (sym (tells ∙ paired_is task member name x.port x.entered x.found x.found_set))
      (inr (inl (none, λ t k. enters_touch task member name s mid t x k (touched_by w (change.Member x.port x.entered)) (0, omega arith, refl) (1, omega arith, refl))))

  left_own : (task member name : ℕ) (told : Change) → LeavesSet task member name s mid → owed ≡ [] → told ≡ by_pairing old task member name → OwnTouches s mid owed (touched_by w told)
  left_own task member name told x none tells =
      subst (λ (c : Change). OwnTouches s mid owed (touched_by w c)) (sym (tells ∙ paired_is task member name x.port x.left x.found x.found_set))
      (inr (inl (none, λ t k. leaves_touch task member name s mid t x k (touched_by w (change.Member x.port x.left)) (0, omega arith, refl) (1, omega arith, refl))))

  -- a right is handed from the task's name
  handing_own : (task name number : ℕ) (told : Change) (copied : State) (mark : MachineMark) (place : Place) → CopyRight task place number name s mark copied → Keeps copied mid → (number ≢ 16 → Keeps s mid) → owed ≡ [] →
      told ≡ by_handing old task name number → OwnTouches s mid owed (touched_by w told)
  handing_own task name number told copied mark place copy ends keeps none tells = elim (eqb_tells number 16) [
    | inl e ↦
        let m = receive_moves task place name s mark copied (subst (λ (n : ℕ). CopyRight task place n name s mark copied) e.1 copy) in
        let f : told ≡ by_moving old task name = tells ∙ (let g = e.0 in rw g refl) in
        moving_own task name m.port told m.found (others_end m.port s copied mid m.others ends) none f
    | inr e ↦ kept_all s mid owed _ (keeps e.1) none
  ]

  -- ---- a request for a notice

  -- what pays is a right for this port, or one of which nothing is told
  pays_from : (o : Option Named) (target : Target) (p : ℕ) (d : Disposition) → Some target ≡ option_map target_of o → target_mark d target ≡ Some (to_port p) → (by_paying o ≡ change.Any) ⊎ (by_paying o ≡ change.Queue p)
  pays_from None target p d e m = absurd (cc)
  pays_from (Some (named.Send q n)) target p d e m = inl refl
  pays_from (Some (named.DeadName n)) target p d e m = inl refl
  pays_from (Some (named.Set set)) target p d e m = inl refl
  pays_from (Some (named.Receive q)) (Target.port x) p d e m = inr (let f : x ≡ q = (let g = e in cc) in let h : x ≡ p = (let g = m in cc) in ap change.Queue (sym f ∙ h))
  pays_from (Some (named.ReceiveAndSend q n)) (Target.port x) p d e m = inr (let f : x ≡ q = (let g = e in cc) in let h : x ≡ p = (let g = m in cc) in ap change.Queue (sym f ∙ h))
  pays_from (Some (named.SendOnce q)) (Target.once x) p d e m = inr (let f : x ≡ q = (let g = e in cc) in let h : x ≡ p = (let g = m in cc) in ap change.Queue (sym f ∙ h))
  pays_from (Some (named.Receive q)) target p d e m = absurd (let f = e in cc)
  pays_from (Some (named.ReceiveAndSend q n)) target p d e m = absurd (let f = e in cc)
  pays_from (Some (named.SendOnce q)) target p d e m = absurd (let f = e in cc)

  paid_own : (task name number p : ℕ) (told : Change) → Keeps s mid → OwesNone p owed → (by_paying (entry_at old task name) ≡ change.Any) ⊎ (by_paying (entry_at old task name) ≡ change.Queue p) → told ≡ by_paying (entry_at old task name) → OwnTouches s mid owed (touched_by w told)
  paid_own task name number p told keeps (inl none) is tells = kept_all s mid owed _ keeps none
  paid_own task name number p told keeps (inr one) (inl is) tells = inl (any_all told (tells ∙ is))
  paid_own task name number p told keeps (inr one) (inr is) tells = notice_own p told keeps one (tells ∙ is)

  request_own : (task name variant sync notify number previous : ℕ) (told : Change) → Requests task name variant sync notify number previous s mid owed → told ≡ by_request old task notify number → OwnTouches s mid owed (touched_by w told)
  request_own task name variant sync notify number previous told r tells = elim (eqb_tells notify 0) [
    | inl a ↦ let k = taken_away_keeps task name variant sync notify number previous s mid owed a.1 r in kept_all s mid owed _ k.0 k.1
    | inr a ↦ elim (eqb_tells number 16) [
      | inl b ↦ inl (any_all told (tells ∙ (let e = a.0 in let f = b.0 in rw (e, f) refl)))
      | inr b ↦
          let k = request_keeps task name variant sync notify number previous s mid owed b.1 r in
          elim k.1 [
            | inl none ↦ kept_all s mid owed _ k.0 none.0
            | inr pays ↦
                paid_own task notify number pays.port told k.0 pays.owes
                (pays_from (entry_at old task notify) pays.copy.target pays.port pays.copy.given (sym pays.copy.found ∙ sh.agrees.naming task notify) pays.copy.mark_is)
                (tells ∙ (let e = a.0 in let f = b.0 in rw (e, f) refl))
          ]
    ]
  ]

  -- ---- a receipt

  receipt_own : (task : ℕ) (waited : Waited) (room : ℕ) (large : Bool) (from : Option ℕ) (reply : Reply) → (taken_by large reply ≡ 1 → (port : ℕ) × (from ≡ Some port) × TakesOne s mid port) →
      Receipt s task waited room large reply mid owed → OwnTouches s mid owed (touched_by w (by_receipt old task large from reply))
  receipt_own task waited room large from (Reply.Message bytes) takes (p, of, r, none) = message_own w mid (agree none) s owed task p room bytes sh.lawful (law none) r none
  receipt_own task waited room large from (Reply.Empty told) takes (is, empty, same, none) = kept_all s mid owed _ (keeps_same s mid same) none
  receipt_own task waited room true from (Reply.TooLarge n) takes (p, e, of, front, is, over, what) = kept_all s mid owed _ (keeps_same s mid what.0) what.1
  receipt_own task waited room false from (Reply.TooLarge n) takes (p, e, of, front, is, over, d) =
      let x = takes refl in
      let here : from ≡ Some p = x.1 ∙ ap Some (one_taken s mid x.0 p x.2 (destroyed_one s mid p e owed d).next) in
      subst (λ (o : Option ℕ). OwnTouches s mid owed (touched_by w (by_too_long old o))) (sym here) (too_long_own now old w s mid owed sh shown p e (TakesFrom-live s sh.lawful task waited p of) front d)
  receipt_own task waited room large from reply takes x = absurd x

  -- ---- something is made under a name

  covers_last : (v : WorldView) (p : ℕ) → v.ports.made ≡ p + 1 → Covers (made_last v) (Waited.Port p)
  covers_last v p is = go (nat_lt v.ports.made most_identities)
    where
      same : p ≡ v.ports.made - 1
      same = omega (arith, is)

      go : (b : Bool) → Covers (if b then few (Some (Waited.Port (v.ports.made - 1))) None else Any) (Waited.Port p)
      go true = (0, omega arith, ap (λ (n : ℕ). Some (Waited.Port n)) (sym same))
      go false = tt

  made_own : (task right name : ℕ) (x : State) → Keeps s x → IsLawful x → Makes task right name x mid → owed ≡ [] → OwnTouches s mid owed (touched_by w (by_making right))
  made_own task right name x k l (inl (is, a)) none =
      let made : w.ports.made ≡ x.ports_made + 1 = (agree none).ports_made ∙ ap (λ (y : State). y.ports_made) a.rest in
      let told : touched_by w (by_making right) ≡ made_last w = rw is refl in
      inr (inl (none, λ t e. touches_before s x t _ k (made_touches task name x mid t _ l a e (subst (λ (y : Touched). Covers y (Waited.Port x.ports_made)) (sym told) (covers_last w x.ports_made made)))))
  made_own task right name x k l (inr (inl (is, e))) none =
      inr (inl (
        none,
        λ t end. touches_before s x t _ k
            (touches x t None None _ (changes_end x mid t None None (set_changes task name x mid l e) end) (λ p f. absurd (none_some p f)) (λ p f. absurd (none_some p f)) (λ p set f. absurd (none_some p f))),
      ))
  made_own task right name x k l (inr (inr (is, e))) none = kept_all s mid owed _ (keeps_trans s x mid k (dead_keeps task name 1 x mid e)) none

  -- ---- each call

  as_told : {told change : Change} → told ≡ change → OwnTouches s mid owed (touched_by w change) → OwnTouches s mid owed (touched_by w told)
  as_told is own = subst (λ (c : Change). OwnTouches s mid owed (touched_by w c)) (sym is) own

  pub own : (event : Event) (reply : Reply) (told : Change) → TakesByTurn old event reply s mid → Does now s event reply mid owed → TellsChange old event reply told → OwnTouches s mid owed (touched_by w told)
  own Event.TaskCreate (Reply.Task task) told turn d tells = kept_all s mid owed _ (creates_keep s task mid d.0) d.1
  own (Event.GetRefs task name right) (Reply.Refs n) told turn d tells = kept_all s mid owed _ (keeps_same s mid d.0) d.1
  own (Event.NameType task name) (Reply.NameType n) told turn d tells = kept_all s mid owed _ (keeps_same s mid d.0) d.1
  own (Event.Names task) (Reply.Names entries) told turn d tells = kept_all s mid owed _ (keeps_same s mid d.0) d.1
  own (Event.ReceiveStatus task name) (Reply.Status status) told turn d tells = kept_all s mid owed _ (keeps_same s mid d.0) d.1
  own (Event.SetStatus task name) (Reply.Members members) told turn d tells = kept_all s mid owed _ (keeps_same s mid d.0) d.1
  own (Event.Rename task o n) (Reply.Code code) told turn d tells = kept_all s mid owed _ (renames_keep task o n s mid d.1) d.2
  own (Event.SetMscount task name n) (Reply.Code code) told turn d tells =
      kept_all s mid owed _ (keeps_by s mid _ d.2.3 (λ p. refl) (λ p. refl) (λ p. refl) (λ p. refl) (λ p. refl) (λ set. refl) (λ test is. ap (λ (x : State). count test x.ledger) d.2.3)) d.3
  own (Event.SetSeqno task name n) (Reply.Code code) told turn d tells =
      kept_all s mid owed _ (keeps_by s mid _ d.2.3 (λ p. refl) (λ p. refl) (λ p. refl) (λ p. refl) (λ p. refl) (λ set. refl) (λ test is. ap (λ (x : State). count test x.ledger) d.2.3)) d.3
  own (Event.SetQlimit task name n) (Reply.Code code) told turn d tells =
      as_told tells (limit_changed w mid (agree d.2) s owed task name d.1.0 (limit_changes s mid d.1.0 n d.1.3) (ap (λ (x : State). lookup x task name) d.1.3 ∙ d.1.1) d.2)
  own (Event.Allocate task right) (Reply.Name name) told turn d tells = as_told tells (made_own task right name (gives task name s) (gives_keeps task name s) (gives-lawful task name s sh.lawful) d.1 d.2)
  own (Event.AllocateName task right name) (Reply.Name to) told turn d tells =
      as_told tells (made_own task right to s (keeps_same s s refl) sh.lawful (subst (λ (n : ℕ). Makes task right n s mid) (sym d.0) d.1) d.2)
  own (Event.Send task bytes) (Reply.Code code) told turn d tells = sent_own task bytes tells.plan told d.1 d.2 tells.planned tells.tells
  own (Event.Receive task name room large) reply told turn (waited, waits, receipt) tells = as_told tells (receipt_own task waited room large (source old (Event.Receive task name room large)) reply (λ one. turn (named_takes task name room large reply ∙ one)) receipt)
  own (Event.ReceiveAgain task waited room large) reply told turn receipt tells =
      as_told tells (receipt_own task waited room large (source old (Event.ReceiveAgain task waited room large)) reply (λ one. turn (again_takes task waited room large reply ∙ one)) receipt)
  own (Event.TaskTerminate task) (Reply.Code code) told turn d tells = ending_own task told d.1 tells
  own (Event.Deallocate task name) (Reply.Code code) told turn d tells = one_own task name told d.1 tells
  own (Event.Destroy task name) (Reply.Code code) told turn d tells = all_own task name told d.1 tells
  own (Event.ModRefs task name right delta) (Reply.Code code) told turn d tells = counts_own task name right delta told d.1 tells
  own (Event.MoveMember task member after) (Reply.Code code) told turn d tells = moving_own task member d.1.0 told d.1.1 (joins_others task member after s mid d.1) d.2 tells
  own (Event.InsertMember task member set) (Reply.Code code) told turn d tells = entered_own task member set told d.1 d.2 tells
  own (Event.ExtractMember task member set) (Reply.Code code) told turn d tells = left_own task member set told d.1 d.2 tells
  own (Event.InsertRight task name from poly number) (Reply.Code code) told turn (is, i, none) tells =
      handing_own from poly number told i.copied (to_port i.p) (in_task task) i.copy (insert_ends task name from poly number s mid i) (λ not. inserts_keep task name from poly number s mid not i) none tells
  own (Event.ExtractRight task name number to) (Reply.Right new_name kind) told turn (e, none) tells =
      handing_own task name number told e.copied (to_port e.p) (in_task to) e.copy (extract_ends task name number to new_name kind s mid e) (λ not. extracts_keep task name number to new_name kind s mid not e) none tells
  own (Event.RequestNotification task name variant sync notify number) (Reply.Previous previous) told turn d tells = request_own task name variant sync notify number previous told d tells
  own event reply told turn d tells = absurd d

-- ---- the step

module _ (old w new : WorldView) (event : Event) (reply : Reply) (turns : ℕ) (acts : CompletesInTurn old event reply w) (settles : SettlesIn w turns new) where
  pub all_touched : Touches old event reply new Any
  all_touched = λ now s sh.
      let x = acts.acts now s sh in
      let d = x.0 in
      let e = settles now old s d.mid d.owed sh d.shows in
      (e.0, inr (record { performed = record { mid = d.mid; owed = d.owed; does = d.does; settles = e.1 }; unrefused = d.unrefused; judged = d.judged }), e.2, touches_all s e.0, settled_in_turn old event reply now s d.mid e.0 d.owed e.1 x.1)

  any_touched : (ends : Change) → ends ≡ change.Any → Touches old event reply new (touched_by new ends)
  any_touched ends is = subst (λ (c : Change). Touches old event reply new (touched_by new c)) (sym is) all_touched

  pub few_touched : (told : Change) → TellsChange old event reply told → IsIdle w → new ≡ w → Touches old event reply new (touched_by new told)
  few_touched told tells idle same = λ now s sh.
      let x = acts.acts now s sh in
      let d = x.0 in
      let e = settles now old s d.mid d.owed sh d.shows in
      let here : Shows w e.0 = subst (λ (x : WorldView). Shows x e.0) same e.2 in
      let ends : (none : d.owed ≡ []) → Keeps d.mid e.0 = λ none.
      let l = law now old w s d.mid d.owed sh d.shows none in
      ends_quietly now s d.mid e.0 l (quiet_end w d.mid e.0 (agree now old w s d.mid d.owed sh d.shows none) here l.no_sets idle) (subst (λ (o : Owed). Settles now s d.mid o e.0) none e.1) in
      let tells_one : (p : ℕ) → OwesOne p d.owed → Changes d.mid e.0 (Some p) None = λ p one.
      ends_telling now s d.mid e.0 p one.place one.notice one.bare (subst (MidLawful d.mid) one.is d.shows.lawful)
      (quiet_notice w now d.mid e.0 p one.place one.notice one.bare (subst (λ (o : Owed). Agrees w (with_posted now d.mid o)) one.is d.shows.agrees) here d.shows.lawful.no_sets idle) (subst (λ (o : Owed). Settles now s d.mid o e.0) one.is e.1) in
      let only : TouchesOnly s e.0 (touched_by w told) = by (own now old w s d.mid d.owed sh d.shows event reply told x.1 d.does tells) ends tells_one in (
        e.0,
        inr (record { performed = record { mid = d.mid; owed = d.owed; does = d.does; settles = e.1 }; unrefused = d.unrefused; judged = d.judged }),
        e.2,
        subst (λ (v : WorldView). TouchesOnly s e.0 (touched_by v told)) (sym same) only,
        settled_in_turn old event reply now s d.mid e.0 d.owed e.1 x.1,
      )
    where
      by : {s mid t : State} {owed : Owed} {touched : Touched} → OwnTouches s mid owed touched → ((none : owed ≡ []) → Keeps mid t) →
          ((p : ℕ) → OwesOne p owed → Changes mid t (Some p) None) → TouchesOnly s t touched
      by {s} {mid} {t} {owed} {touched} (inl all) ends tells_one = subst (TouchesOnly s t) (sym all) (touches_all s t)
      by {s} {mid} {t} {owed} {touched} (inr (inl (none, only))) ends tells_one = only t (ends none)
      by {s} {mid} {t} {owed} {touched} (inr (inr (p, one, only))) ends tells_one = only t (tells_one p one)

  -- a port dies alone: it is covered, with the sets that it was in
  lone_touched : (p : ℕ) (told : Change) → told ≡ change.Lost p → TellsChange old event reply told → DiesAlone w p → Touches old event reply new (touched_by new (left_by p (membership_in (sets_at w p))))
  lone_touched p told lost tells alone = λ now s sh.
      let x = acts.acts now s sh in
      let d = x.0 in
      let e = settles now old s d.mid d.owed sh d.shows in
      let own = own_lost now old s d.mid d.owed sh p told lost event reply d.does tells in
      let a : Agrees w d.mid = agree now old w s d.mid d.owed sh d.shows own.1 in
      let l = law now old w s d.mid d.owed sh d.shows own.1 in
      let lone = is_lone w d.mid p a d.shows.requested alone s sh.lawful own.0 in
      let ends = dies_alone now p s d.mid e.0 l lone (subst (λ (o : Owed). Settles now s d.mid o e.0) own.1 e.1) in (
        e.0,
        inr (record { performed = record { mid = d.mid; owed = d.owed; does = d.does; settles = e.1 }; unrefused = d.unrefused; judged = d.judged }),
        e.2,
        dead_touched s d.mid e.0 p a e.2 own.0 (l.no_sets p) (others_trans p s d.mid e.0 own.0.others ends),
        settled_in_turn old event reply now s d.mid e.0 d.owed e.1 x.1,
      )
    where
      dead_touched : (s mid t : State) (p : ℕ) → Agrees w mid → Shows new t → LosesRight p s mid → (mid.live_port p ≡ false → mid.sets_of p ≡ []) → KeepsOthers p s t → TouchesOnly s t (touched_by new (left_by p (membership_in (sets_at w p))))
      dead_touched s mid t p a shown loses no_sets others = go (sets_at w p) refl
        where
          was : (xs : List ℕ) → sets_at w p ≡ xs → (set : ℕ) → Contains (s.sets_of p) set → Contains xs set
          was xs is set in_it = subst (λ (ys : List ℕ). Contains ys set) is (set_is w mid a p no_sets set (subst (λ (ys : List ℕ). Contains ys set) (sym loses.sets) in_it))

          is_in : (set : ℕ) → Contains (t.sets_of p) set → Contains (sets_at new p) set
          is_in set in_it = set_is new t shown.agrees p (shown.lawful.no_sets p) set in_it

          go : (xs : List ℕ) → sets_at w p ≡ xs → TouchesOnly s t (touched_by new (left_by p (membership_in xs)))
          go [] is =
              moved_touches p s t others (with_sets new (Some p)) (covers_named p (sets_at new p)) (λ set in_it. absurd (in_none set (was [] is set in_it)))
              (λ set in_it. covers_its p (sets_at new p) set (is_in set in_it))
          go (left ∷ []) is =
              moved_touches p s t others (named_left new p left) (covers_left new p left (Waited.Port p) (0, omega arith, refl))
              (λ set in_it. covers_left new p left (Waited.Set set) (2, omega arith, ap (λ (n : ℕ). Some (Waited.Set n)) (in_only left set (was (left ∷ []) is set in_it))))
              (λ set in_it. covers_left_own new p left set (is_in set in_it))
          go (x ∷ y ∷ xs) is = touches_all s t

  ends_touched : (told ends : Change) → TellsChange old event reply told → EndsAs w told ends → Touches old event reply new (touched_by new ends)
  ends_touched (change.Lost p) ends tells (inl (alone, is)) = subst (λ (c : Change). Touches old event reply new (touched_by new c)) (sym is) (lone_touched p (change.Lost p) refl tells alone)
  ends_touched (change.Lost p) ends tells (inr (not, is)) = any_touched ends is
  ends_touched change.Nothing ends tells is = any_touched ends is
  ends_touched change.Made ends tells is = any_touched ends is
  ends_touched (change.PortNamed task name) ends tells is = any_touched ends is
  ends_touched (change.Queue p) ends tells is = any_touched ends is
  ends_touched (change.Queues a b) ends tells is = any_touched ends is
  ends_touched (change.Along to p) ends tells is = any_touched ends is
  ends_touched (change.AlongFrom to p set) ends tells is = any_touched ends is
  ends_touched (change.AlongTwo to a b) ends tells is = any_touched ends is
  ends_touched (change.AlongTwoFrom to a b set) ends tells is = any_touched ends is
  ends_touched (change.AlongThree to a b c) ends tells is = any_touched ends is
  ends_touched (change.QueueNamed task name) ends tells is = any_touched ends is
  ends_touched (change.ReceivedOne task name a) ends tells is = any_touched ends is
  ends_touched (change.ReceivedTwo task name a b) ends tells is = any_touched ends is
  ends_touched (change.ReceivedThree task name a b c) ends tells is = any_touched ends is
  ends_touched (change.Left p set) ends tells is = any_touched ends is
  ends_touched (change.Member p set) ends tells is = any_touched ends is
  ends_touched (change.Disbanded set) ends tells is = any_touched ends is
  ends_touched (change.DisbandedTwo set a b) ends tells is = any_touched ends is
  ends_touched (change.DisbandedThree set a b c) ends tells is = any_touched ends is
  ends_touched change.Any ends tells is = any_touched ends is

  pub touched_after : (told ends : Change) → TellsChange old event reply told → EndsIdle w told ends new ⊎ EndsAs w told ends → Touches old event reply new (touched_by new ends)
  touched_after told ends tells (inl idle) = subst (λ (c : Change). Touches old event reply new (touched_by new c)) (sym idle.told_is) (few_touched told tells idle.idle idle.same)
  touched_after told ends tells (inr is) = ends_touched told ends tells is

-- a refusal changes nothing, whatever it touches
pub none_touched : (old new : WorldView) (event : Event) (code : ℕ) (touched : Touched) → Declines old event code new → Touches old event (Reply.Code code) new touched
none_touched old new event code touched d = λ now s sh. (
  s,
  inl (record { declined = record { code = code; failed = refusal_fails s event code (d.refuses s sh); told = refl; same = refl }; refuses = d.refuses s sh }),
  d.shows s sh,
  touches s s None None touched (changes_none s s None None (keeps_same s s refl)) (λ p e. absurd (none_some p e)) (λ p e. absurd (none_some p e)) (λ p set e. absurd (none_some p e)),
  refused_in_turn old event code s s,
)

-- by the same tables
pub still_touches : (old same new : WorldView) (event : Event) (reply : Reply) (touched : Touched) → old ≡ same → Touches old event reply new touched → Touches same event reply new touched
still_touches old same new event reply touched is touches = subst (λ (w : WorldView). Touches w event reply new touched) is touches

-- what holds however a call is answered
pub on_ok : {T E : Type 0} (r : Result T E) {P : T → Type 0} → ((x : T) → P x) → IfOk r P
on_ok (Ok x) p = p x
on_ok (Err e) p = tt
