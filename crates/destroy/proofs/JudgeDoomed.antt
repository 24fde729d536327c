-- A port that nobody holds is doomed; then all ports are judged.
use Rattle.std.proofs.Common.{◌≡◌, ℕ, zero, suc, ◌+◌, ◌<◌, List, [], ◌∷◌, ◌++◌, Some, refl, sym, ap, subst, ◌∙◌, arith, true, false, Bool, inl, inr, length, get_or, Option, None, ◌⊎◌, ◌≤◌, ◌^◌, ◌-◌}
use Rattle.std.specs.Prelude.{if◌then◌else◌, All, Contains, ◌&&◌, not, filter, is_some, map as list_map, ◌||◌, ◌==◌, min}
use Rattle.std.proofs.lemmas.List.Elements.{All-head, All-tail}
use Rattle.std.proofs.lemmas.Bool.{eqb-true, eq-eqb, cases_lt}
use Rattle.std.specs.FinMap as map
use Rattle.std.proofs.lemmas.Bool.Decides.{eqb_tells}
use Rattle.mach_types.specs.Tokens.{receive, send_once, no_senders, port_destroyed, dead_name, Place, in_task, in_message, in_request, Token, token, count, is_of, weigh, Kind, send, Request}
use Rattle.mach_model.specs.State.{State, at}
use Rattle.mach_model.specs.Death.{LiesAt, Dies, same_place, IsSaved}
use Rattle.mach_model.specs.Lawful.{tally}
use Rattle.mach_model.specs.Notices.{Notice, port_sent, Owed, Posted, all_posted_tokens}
use Rattle.mach_model.specs.Midway.{MidLawful}
use Rattle.mach_model.specs.Turns.{Begun, Ending, owed_in, went_in, listed, is_judged, IsFound, AreJudged, PaidForName, IsReached, lives_after, Dooms, turns, IsWaiting}
use Rattle.mach_model.specs.Work.{number}
use Rattle.mach_model.proofs.Names.{left_of, count_le, count_some}
use Rattle.mach_model.proofs.Settling.{is_at, own_test, place_refl, lives}
use Rattle.mach_model.proofs.SettledReceives.{or_left, or_right, of_kind, place_is, two_le, none_pass, none_paid, is_port_sent, tally-map, tally-append, tally-filter, posted_receives, owed_brings, owed_none, at_place, less as less_than}
use Rattle.mach_model.proofs.TurnsCounted.{reached_counted, reached_sound, listed_later, listed_first}
use Rattle.mach_model.proofs.TurnsSettle.{IsToldOf, IsPaidAt, HasPaid, DiesAround, HasGone, IsSound, all_doomed, all_saved, weaker}
use Rattle.mach_model.specs.Carried.{lying_among}
use Rattle.mach_model.specs.Unused.{onces_queued}
use Rattle.mach_model.proofs.TurnsMade.{doom, doom_is}
use Rattle.rights.specs.Ledger.{counts_of}
use Rattle.port.specs.Ports.{PortView, with_port, NoneQueued}
use Rattle.port.specs.declared.Holder.{Holder}
use Rattle.port.specs.declared.Holder.TheVariants as holder
use Rattle.port.specs.Holding.{held, IsHeldBy, NoneHeldBy}
use Rattle.request_table.specs.declared.Request.{Request as NameRequest}
use Rattle.copyin_base.specs.Kept.{Kept}
use Rattle.copyin_base.specs.Worlds.{WorldView, port_at}
use Rattle.copyin_base.proofs.Told.{is_there}
use Rattle.copyin_base.specs.Requests.{rights_kept, rights_went, RequestsAgree}
use Rattle.copyin_base.specs.Changes.{SetsHolder}
use Rattle.copyin_base.proofs.Agreeing.{live_put, ports_put}
use Rattle.copyin_base.proofs.Carriers.{carriers_held}
use Rattle.copyin_base.proofs.Gets.{of_some, same_found}
use Rattle.copyin_base.proofs.Holders.{holder_set}
use Rattle.copyin_base.proofs.Putting.{each_put, put_own, put_other}
use Rattle.copyin_base.proofs.Requested.{requested_held}
use Rattle.notifications.specs.SoFar.{due_so_far, posted_from, posted_so_far, IsWithNobody, IsHolder, Tied, IsSoFar, AgreesOf, HoldersTell}
use Rattle.notifications.proofs.NoticePosted.{filter_weigh}
use Rattle.destroy.specs.Between.{Between, HasLost}
use Rattle.destroy.proofs.JudgeReached.{judging, are_found, dooms_judging}
use Rattle.destroy.specs.Judging.{HasSent, HasLeft, IsJudging, GoesTo, DoomsPort, NoneSaved, Emptying, Empties, can_be_doomed, is_undoomed, remaining}
use Rattle.destroy.specs.Stages.{IsStarted, IsJudged, IsAt, Continues, SameSlots}
use Rattle.destroy.proofs.Counting.{count_none, count_joined}
use Rattle.destroy.proofs.EndSteps.{was_emptied}

-- ---- What is true between turns of the receive right of a port that isn't judged yet: it is where it was after the step's own part.

-- ---- lists

pub tally_none : {A : Type 0} (P : A → Type 0) (test : A → Bool) → ((x : A) → P x → test x ≡ true → ⊥) → (xs : List A) → All P xs → tally test xs ≡ 0
tally_none P test none [] all = refl
tally_none P test none (x ∷ xs) all = go (test x) refl (tally_none P test none xs (All-tail P x xs all))
  where
    go : (b : Bool) → test x ≡ b → tally test xs ≡ 0 → (if b then suc zero else zero) + tally test xs ≡ 0
    go true e ih = absurd (none x (All-head P x xs all) e)
    go false e ih = omega (arith, ih)

from_tally : (test : Notice → Bool) (ends : ℕ → ℕ) (ys : List (ℕ × Notice)) → tally (λ (x : Posted). test x.notice) (posted_from ends ys) ≡ tally (λ (y : ℕ × Notice). test y.1) ys
from_tally test ends [] = refl
from_tally test ends (y ∷ ys) = let ih = from_tally test (at ends y.0 (ends y.0 + 1)) ys in omega (arith, ih)

begun_tally : (test : Notice → Bool) (ys : Begun) → tally (λ (x : Token × Notice). test x.1) (list_map (λ y. y.1) ys) ≡ tally (λ (x : Token × Notice). test x.1) (owed_in ys) + tally (λ (x : Token × Notice). test x.1) (went_in ys)
begun_tally test [] = omega arith
begun_tally test (y ∷ ys) = go y.0 (begun_tally test ys)
  where
    go : (b : Bool) → tally (λ (x : Token × Notice). test x.1) (list_map (λ y. y.1) ys) ≡ tally (λ (x : Token × Notice). test x.1) (owed_in ys) + tally (λ (x : Token × Notice). test x.1) (went_in ys) →
        (if test y.1.1 then 1 else 0) + tally (λ (x : Token × Notice). test x.1) (list_map (λ y. y.1) ys) ≡
        tally (λ (x : Token × Notice). test x.1) (if b then y.1 ∷ owed_in ys else owed_in ys) + tally (λ (x : Token × Notice). test x.1) (if b then went_in ys else y.1 ∷ went_in ys)
    go true ih = omega (arith, ih)
    go false ih = omega (arith, ih)

-- ---- the machine

module _ (old mid : State) (owed : Owed) (e : Ending) (reached : IsReached old mid owed e) (l : MidLawful mid owed) where
  pub sound : IsSound old mid owed e
  sound = reached_sound old mid owed e reached

  doomed_judged : (p : ℕ) → listed e.doomed p ≡ true → is_judged e p ≡ false → ⊥
  doomed_judged p h un = let a = or_left (listed e.doomed p) (listed e.saved p) h in cc

  saved_judged : (p : ℕ) → listed e.saved p ≡ true → is_judged e p ≡ false → ⊥
  saved_judged p h un = let a = or_right (listed e.doomed p) (listed e.saved p) h in cc

  -- a message that was destroyed was a doomed port's
  pub destroyed_doomed : (q k : ℕ) → Contains e.destroyed (q, k) → listed e.doomed q ≡ true
  destroyed_doomed q k (i, below, is) = subst (λ (m : ℕ × ℕ). listed e.doomed m.0 ≡ true) is ((reached_counted old mid owed e reached).destroyed i (q, k) below).0

  -- a port's receive right is in one place
  pub one_place : (p : ℕ) (a b : Place) → LiesAt mid receive p a → LiesAt mid receive p b → b ≡ a
  one_place p a b la lb = go (same_place a b) refl
    where
      go : (t : Bool) → same_place a b ≡ t → b ≡ a
      go true t = place_is a b t
      go false t = absurd (
          let two = two_le (is_of receive p) (λ x. same_place a x.place) (λ x. same_place b x.place)
          (λ x f g. let c = place_is a x.place f in let d = place_is b x.place g in let h : same_place a b ≡ same_place x.place x.place = λ i. same_place (sym c i) (sym d i) in
          let k = place_refl x.place in let m : true ≡ false = sym (h ∙ k) ∙ t in cc) mid.ledger in
          let m = l.most_receive p in omega (arith, two, m, la, lb))

  -- ... so one that is with a task isn't found
  pub tasked_unjudged : (p task : ℕ) → LiesAt mid receive p (in_task task) → is_judged e p ≡ false
  tasked_unjudged p task lies = go (is_judged e p) refl
    where
      why : IsFound mid e p → ⊥
      why (inl o) = let a = count_le (λ x. is_of receive p x && same_place (in_task task) x.place) (is_of receive p) (λ x t. left_of _ _ t) mid.ledger in let z = o.1 in omega (arith, a, z, lies)
      why (inr (q, d, (k, other))) = let is : in_message q k ≡ in_task task = one_place p (in_task task) (in_message q k) lies other in cc

      go : (b : Bool) → is_judged e p ≡ b → is_judged e p ≡ false
      go false h = h
      go true h = absurd (why (are_found old mid owed e reached p h))

  -- ---- nothing became of the receive right of a port that isn't judged

  -- the right stood in the state midway
  abbrev Was : Token → Type 0
  Was x = HasGone mid x × (0 < count (is_at x.kind x.port x.place) mid.ledger)

  were : All Was e.gone
  were k d below = (
    sound.gone k d below,
    (
        let x = get_or e.gone k d in
        let a = count_some (is_at x.kind x.port x.place) e.gone k d below (own_test x) in
        let b = sound.parts (λ y. if is_at x.kind x.port x.place y then 1 else 0) in
        omega (arith, a, b)),
  )

  module _ (p : ℕ) (unjudged : is_judged e p ≡ false) where
    gone_judged : AreJudged mid e → (x : Token) → Was x → is_of receive p x ≡ true → ⊥
    gone_judged judged x (inl dies, there) t = doomed_judged p (all_doomed old mid owed e sound judged p (subst (Dies mid) (of_kind receive p x t).1 dies)) unjudged
    gone_judged judged x (inr (not, around), there) t = go x.place refl around
      where
        go : (place : Place) → x.place ≡ place → DiesAround mid place → ⊥
        go (in_task task) is h = h
        go (in_request r) is h = h
        go (in_message q k) is h =
            let o = of_kind receive p x t in
            let lies : LiesAt mid receive p (in_message q k) = subst (λ (y : Token). 0 < count (is_at y.kind y.port y.place) mid.ledger) (λ i. token (o.0 i) (o.1 i) (is i)) there in
            let a = judged p (inr (q, all_doomed old mid owed e sound judged q h, (k, lies))) in
            cc

    none_gone : count (is_of receive p) e.gone ≡ 0
    none_gone = elim (judging old mid owed e reached) [
      | inl judged ↦ none_pass Was (is_of receive p) (gone_judged judged) e.gone were
      | inr j ↦ none_pass (HasLeft e.saved) (is_of receive p) (λ x h t. saved_judged p (subst (λ (q : ℕ). listed e.saved q ≡ true) (of_kind receive p x t).1 h.1) unjudged) e.gone j.gone
    ]

    sent_is : (q : ℕ) → is_port_sent p (port_sent q) ≡ true → q ≡ p
    sent_is q h = eqb-true q p h

    paid_judged : AreJudged mid e → (x : Token × Notice) → HasPaid mid e.told x → is_port_sent p x.1 ≡ true → ⊥
    paid_judged judged x h t = go x.0.place x.1 h.1 t
      where
        told : (q : ℕ) (n : Notice) → IsToldOf mid q n → is_port_sent p n ≡ true → ⊥
        told q n (inl (s, is)) t = let a : is_port_sent p n ≡ false = ap (is_port_sent p) is in cc
        told q n (inr (s, is)) t = let a : is_port_sent p n ≡ false = ap (is_port_sent p) is in cc

        go : (place : Place) (n : Notice) → IsPaidAt mid e.told place n → is_port_sent p n ≡ true → ⊥
        go (in_task task) n h t = h
        go (in_message q k) n h t = let a : is_port_sent p n ≡ false = ap (is_port_sent p) h.1 in cc
        go (in_request (no_senders q)) n (inl h) t = let a : is_port_sent p n ≡ false = ap (is_port_sent p) h.1 in cc
        go (in_request (no_senders q)) n (inr h) t = told q n h.1 t
        go (in_request (port_destroyed q)) n (inl h) t = let a : is_port_sent p n ≡ false = ap (is_port_sent p) h.1 in cc
        go (in_request (port_destroyed q)) n (inr h) t =
            let same = sent_is q (sym (ap (is_port_sent p) h.1) ∙ t) in
            saved_judged p (subst (λ (x : ℕ). listed e.saved x ≡ true) same (all_saved old mid owed e sound judged q h.0)) unjudged
        go (in_request (dead_name task name)) n h t = let a : is_port_sent p n ≡ false = ap (is_port_sent p) h.2 in cc

    none_paid_sent : tally (λ (x : Token × Notice). is_port_sent p x.1) e.paid ≡ 0
    none_paid_sent = elim (judging old mid owed e reached) [
      | inl judged ↦ tally_none (HasPaid mid e.told) (λ x. is_port_sent p x.1) (paid_judged judged) e.paid sound.paid
      | inr j ↦ tally_none (HasSent mid e.saved) (λ x. is_port_sent p x.1)
          (λ x h t. saved_judged p (subst (λ (q : ℕ). listed e.saved q ≡ true) (sent_is h.port (sym (ap (is_port_sent p) h.tells) ∙ t)) h.is_saved) unjudged) e.paid j.paid
    ]

    none_sent : tally (λ (y : ℕ × Notice). is_port_sent p y.1) (due_so_far e) ≡ 0
    none_sent =
        let a = tally-map (λ (y : ℕ × Notice). is_port_sent p y.1) (λ (x : Token × Notice). (x.0.port, x.1)) (list_map (λ y. y.1) e.begun ++ e.paid) in
        let b = tally-append (λ (x : Token × Notice). is_port_sent p x.1) (list_map (λ y. y.1) e.begun) e.paid in
        let c = begun_tally (is_port_sent p) e.begun in
        let d = owed_none p owed (owed_brings mid owed l.are_owed) in
        let f : tally (λ (x : Token × Notice). is_port_sent p x.1) (owed_in e.begun) ≡ tally (λ (x : Token × Notice). is_port_sent p x.1) owed = ap (tally (λ (x : Token × Notice). is_port_sent p x.1)) sound.owes in
        let g = tally_none (PaidForName mid) (λ x. is_port_sent p x.1) (λ x h t. let z : is_port_sent p x.1 ≡ false = ap (is_port_sent p) h.tells in cc) (went_in e.begun) sound.went in
        let h = none_paid_sent in
        omega (arith, a, b, c, d, f, g, h)

    pub none_posted_here : (keep : Posted → Bool) → count (is_of receive p) (all_posted_tokens (filter keep (posted_so_far mid e))) ≡ 0
    none_posted_here keep =
        let a = posted_receives p (filter keep (posted_so_far mid e)) in
        let b = tally-filter (λ (x : Posted). is_port_sent p x.notice) keep (posted_so_far mid e) in
        let c = from_tally (is_port_sent p) (λ q. length (mid.log q)) (due_so_far e) in
        let d = none_sent in
        omega (arith, a, b, c, d)

    -- As many of its receive rights are left as there were, by each test.
    pub left_same : (test : Token → Bool) → ((x : Token) → test x ≡ true → is_of receive p x ≡ true) → count test e.left ≡ count test mid.ledger
    left_same test of =
        let parts = sound.parts (λ x. if test x then 1 else 0) in
        let gone = count_le test (is_of receive p) of e.gone in
        let none = none_gone in
        let paid = none_paid (λ x n. x.kind ≡ send_once) test (λ x n once t. once_of x once (of x t)) e.paid (weaker (HasPaid mid e.told) (λ x. x.0.kind ≡ send_once) (λ x h. h.0) e.paid sound.paid) in
        let went = none_paid (λ x n. x.kind ≡ send_once) test (λ x n once t. once_of x once (of x t)) (went_in e.begun) (weaker (PaidForName mid) (λ x. x.0.kind ≡ send_once) (λ x h. h.once) (went_in e.begun) sound.went) in
        omega (arith, parts, gone, none, paid, went)
      where
        once_of : (x : Token) → x.kind ≡ send_once → is_of receive p x ≡ true → ⊥
        once_of x once t = let k = (of_kind receive p x t).0 in let f : receive ≡ send_once = sym k ∙ once in cc

-- ---- the tables

module _ (now : ℕ) (tables : WorldView) (old mid : State) (owed : Owed) (e : Ending) (w : WorldView) (b : Between now tables old mid owed e w) where
  abbrev s : State
  s = b.tied.state

  -- As many receive rights are there as there were.
  pub same_receive : (p : ℕ) → is_judged e p ≡ false → (test : Token → Bool) → ((x : Token) → test x ≡ true → is_of receive p x ≡ true) → count test s.ledger ≡ count test mid.ledger
  same_receive p un test of =
      let a = b.tied.so_far.ledger (λ x. if test x then 1 else 0) in
      let c = left_same old mid owed e b.reached b.lawful p un test of in
      let posted = all_posted_tokens (filter (λ (x : Posted). s.live_port x.port) (posted_so_far mid e)) in
      let d = count_le test (is_of receive p) of posted in
      let f = none_posted_here old mid owed e b.reached b.lawful p un (λ x. s.live_port x.port) in
      omega (arith, a, c, d, f)

  pub lies_mid : (p : ℕ) → is_judged e p ≡ false → (place : Place) → LiesAt s receive p place → LiesAt mid receive p place
  lies_mid p un place lies = let a = same_receive p un (λ x. is_of receive p x && same_place place x.place) (λ x t. left_of _ _ t) in omega (arith, a, lies)

  pub mid_lies : (p : ℕ) → is_judged e p ≡ false → (place : Place) → LiesAt mid receive p place → LiesAt s receive p place
  mid_lies p un place lies = let a = same_receive p un (λ x. is_of receive p x && same_place place x.place) (λ x t. left_of _ _ t) in omega (arith, a, lies)

  pub there_live : (p : ℕ) (v : PortView Kept) → port_at w p ≡ Some v → s.live_port p ≡ true
  there_live p v there = sym (b.tied.agrees.live_port p) ∙ ap is_some there

  pub there_mid : (p : ℕ) (v : PortView Kept) → port_at w p ≡ Some v → mid.live_port p ≡ true
  there_mid p v there = left_of (mid.live_port p) (not (listed e.buried p)) (sym (b.tied.so_far.live_port p) ∙ there_live p v there)

  -- nobody has the right of a port that isn't judged: it is found
  pub found_now : (p : ℕ) (v : PortView Kept) → port_at w p ≡ Some v → is_judged e p ≡ false → IsWithNobody s e.destroyed p → IsFound mid e p
  found_now p v there un (inl none) = inl (there_mid p v there, (let a = same_receive p un (is_of receive p) (λ x t. t) in omega (arith, a, none)))
  found_now p v there un (inr (q, k, lies, gone)) = inr (q, destroyed_doomed old mid owed e b.reached b.lawful q k gone, (k, lies_mid p un (in_message q k) lies))

  pub still_judging : (p : ℕ) → IsFound mid e p → is_judged e p ≡ false → IsJudging mid e
  still_judging p found un = elim (judging old mid owed e b.reached) [
    | inl judged ↦ absurd (let a = judged p found in cc)
    | inr j ↦ j
  ]

  -- while ports are judged, each that lived is there
  pub live_there : IsJudging mid e → (p : ℕ) → mid.live_port p ≡ true → (v : PortView Kept) × (port_at w p ≡ Some v)
  live_there j p live = is_there (port_at w p) (b.tied.agrees.live_port p ∙ b.tied.so_far.live_port p ∙ (λ i. live i && not (listed (j.unburied i) p)))

-- ---- A port that nobody holds, and that has nowhere to go, is doomed: that is a turn, and the tables tell of it.

pub false_or : (a b : Bool) → (a || b) ≡ false → (a ≡ false) × (b ≡ false)
false_or true b h = absurd (cc)
false_or false b h = (refl, h)

module _ (now : ℕ) (tables : WorldView) (old mid : State) (owed : Owed) (e : Ending) (w : WorldView) (b : Between now tables old mid owed e w) where
  abbrev s_dooms : State
  s_dooms = b.tied.state

  -- a port whose right is with a task lives
  pub tasked_lives : (n task : ℕ) → LiesAt mid receive n (in_task task) → lives_after mid e n ≡ true
  tasked_lives n task lies =
      let some = count_le (λ x. is_of receive n x && same_place (in_task task) x.place) (is_of receive n) (λ x t. left_of _ _ t) mid.ledger in
      let live = lives b.lawful.ports receive n (omega (arith, some, lies)) in
      let un = (false_or (listed e.doomed n) (listed e.saved n) (tasked_unjudged old mid owed e b.reached b.lawful n task lies)).0 in
      rw (live, un) refl

  module _ (p : ℕ) (un : is_judged e p ≡ false) (j : IsJudging mid e) where
    unsaved_yet : listed e.saved p ≡ false
    unsaved_yet = (false_or (listed e.doomed p) (listed e.saved p) un).1

    -- the right that its request keeps has neither paid nor gone
    pub kept_still : (n : ℕ) → LiesAt mid send_once n (in_request (port_destroyed p)) → 0 < count (is_at send_once n (in_request (port_destroyed p))) e.left
    kept_still n kept =
        let parts = (sound old mid owed e b.reached b.lawful).parts (λ x. if is_at send_once n (in_request (port_destroyed p)) x then 1 else 0) in
        let went = none_paid (λ x m. (task : ℕ) × (name : ℕ) × (x.place ≡ in_request (dead_name task name))) (is_at send_once n (in_request (port_destroyed p)))
        (λ x m h t. let a : in_request (dead_name h.0 h.1) ≡ in_request (port_destroyed p) = sym h.2 ∙ (at_place send_once n (in_request (port_destroyed p)) x t).1 in cc) (went_in e.begun)
        (weaker (PaidForName mid) (λ x. (task : ℕ) × (name : ℕ) × (x.0.place ≡ in_request (dead_name task name))) (λ x h. (h.task, h.name, h.kept)) (went_in e.begun) (sound old mid owed e b.reached b.lawful).went) in
        let paid = none_paid (λ x m. (q : ℕ) × (listed e.saved q ≡ true) × (x.place ≡ in_request (port_destroyed q))) (is_at send_once n (in_request (port_destroyed p)))
        (λ x m h t. let a : in_request (port_destroyed h.0) ≡ in_request (port_destroyed p) = sym h.2 ∙ (at_place send_once n (in_request (port_destroyed p)) x t).1 in
        let same : h.0 ≡ p = cc in let f : listed e.saved p ≡ true = subst (λ (q : ℕ). listed e.saved q ≡ true) same h.1 in let g = unsaved_yet in cc) e.paid
        (weaker (HasSent mid e.saved) (λ x. (q : ℕ) × (listed e.saved q ≡ true) × (x.0.place ≡ in_request (port_destroyed q))) (λ x h. (h.port, h.is_saved, h.kept)) e.paid j.paid) in
        let gone = none_pass (HasLeft e.saved) (is_at send_once n (in_request (port_destroyed p)))
        (λ x h t. let a = (of_kind send_once n x (left_of (is_of send_once n x) (same_place (in_request (port_destroyed p)) x.place) t)).0 in let c : receive ≡ send_once = sym h.0 ∙ a in cc) e.gone j.gone in
        omega (arith, parts, went, paid, gone, kept)

    -- what its request keeps, in the tables
    pub lying_kept : (n : ℕ) → lives_after mid e n ≡ true → lying_among (filter (λ x. lives_after mid e x.port) s_dooms.ledger) send_once n (in_request (port_destroyed p)) ≡ count (is_at send_once n (in_request (port_destroyed p))) s_dooms.ledger
    lying_kept n live = filter_weigh (λ x. if is_at send_once n (in_request (port_destroyed p)) x then 1 else 0) (λ x. lives_after mid e x.port) s_dooms.ledger ∙ same s_dooms.ledger
      where
        same : (xs : List Token) → weigh (λ x. if lives_after mid e x.port then (if is_at send_once n (in_request (port_destroyed p)) x then 1 else 0) else 0) xs ≡ count (is_at send_once n (in_request (port_destroyed p))) xs
        same [] = refl
        same (x ∷ xs) = go (is_at send_once n (in_request (port_destroyed p)) x) (lives_after mid e x.port) refl refl (same xs)
          where
            go : (t l : Bool) → is_at send_once n (in_request (port_destroyed p)) x ≡ t → lives_after mid e x.port ≡ l →
                weigh (λ x. if lives_after mid e x.port then (if is_at send_once n (in_request (port_destroyed p)) x then 1 else 0) else 0) xs ≡ count (is_at send_once n (in_request (port_destroyed p))) xs →
                (if l then (if t then 1 else 0) else 0) + weigh (λ x. if lives_after mid e x.port then (if is_at send_once n (in_request (port_destroyed p)) x then 1 else 0) else 0) xs ≡ (if t then 1 else 0) + count (is_at send_once n (in_request (port_destroyed p))) xs
            go t true a c ih = omega (arith, ih)
            go false false a c ih = omega (arith, ih)
            go true false a c ih = absurd (let f = (at_place send_once n (in_request (port_destroyed p)) x a).0 in let g : lives_after mid e n ≡ false = subst (λ (q : ℕ). lives_after mid e q ≡ false) f c in cc)

    pub kept_table : (n : ℕ) → lives_after mid e n ≡ true → count (is_at send_once n (in_request (port_destroyed p))) s_dooms.ledger ≡ rights_kept (lives_after mid e) (map.get w.requests.port_destroyed.map p) send_once n
    kept_table n live =
        let a = lying_kept n live in
        let c = b.tied.agrees.of_requests.kept (port_destroyed p) send_once n in
        let d : rights_went (lives_after mid e) w.requests.names.went (port_destroyed p) send_once n ≡ 0 = ap (λ xs. rights_went (lives_after mid e) xs (port_destroyed p) send_once n) b.went in
        omega (arith, a, c, d)

    -- The port that the request names is that of the tables, and a task has its receive right.
    notify_is : (o : Option ℕ) (n : ℕ) → 0 < rights_kept (lives_after mid e) o send_once n → o ≡ Some n
    notify_is None n some = absurd (omega (arith, some))
    notify_is (Some m) n some = elim (eqb_tells m n) [
      | inl h ↦ ap Some h.1
      | inr h ↦ absurd (let z : (m == n && lives_after mid e n) ≡ false = rw h.0 refl in let y : rights_kept (lives_after mid e) (Some m) send_once n ≡ 0 = ap (λ (t : Bool). if t then suc zero else zero) z in omega (arith, some, y))
    ]

    module _ (saved : IsSaved mid p) where
      asked_is : map.get w.requests.port_destroyed.map p ≡ Some saved.notify
      asked_is =
          let left = kept_still saved.notify saved.kept in
          let ledger = b.tied.so_far.ledger (λ x. if is_at send_once saved.notify (in_request (port_destroyed p)) x then 1 else 0) in
          let kept = kept_table saved.notify (tasked_lives saved.notify saved.task saved.with_task) in
          notify_is (map.get w.requests.port_destroyed.map p) saved.notify (omega (arith, left, ledger, kept))

      notify_there : (v : PortView Kept) × (port_at w saved.notify ≡ Some v)
      notify_there = live_there now tables old mid owed e w b j saved.notify (left_of (mid.live_port saved.notify) _ (tasked_lives saved.notify saved.task saved.with_task))

      notify_unjudged : is_judged e saved.notify ≡ false
      notify_unjudged = tasked_unjudged old mid owed e b.reached b.lawful saved.notify saved.task saved.with_task

      not_carried : (q k : ℕ) → LiesAt s_dooms receive saved.notify (in_message q k) → ⊥
      not_carried q k lies =
          let one : in_message q k ≡ in_task saved.task = one_place old mid owed e b.reached b.lawful saved.notify (in_task saved.task) (in_message q k) saved.with_task (lies_mid now tables old mid owed e w b saved.notify notify_unjudged (in_message q k) lies) in
          cc

      not_nobody : IsWithNobody s_dooms e.destroyed saved.notify → ⊥
      not_nobody (inl none) =
          let same = same_receive now tables old mid owed e w b saved.notify notify_unjudged (is_of receive saved.notify) (λ x t. t) in
          let some = count_le (λ x. is_of receive saved.notify x && same_place (in_task saved.task) x.place) (is_of receive saved.notify) (λ x t. left_of _ _ t) mid.ledger in
          let with_task = saved.with_task in omega (arith, same, some, none, with_task)
      not_nobody (inr (q, k, lies, gone)) = not_carried q k lies

      notify_holder : (h : Holder) → IsHolder s_dooms e.destroyed saved.notify h → (task : ℕ) × (h ≡ holder.Task task)
      notify_holder (holder.Task task) is = (task, refl)
      notify_holder (holder.QueueOf q) is = absurd (not_carried q is.0 is.1)
      notify_holder holder.Nobody is = absurd (not_nobody is)
      notify_holder holder.Doomed is = absurd (not_nobody is)

      pub goes_to : GoesTo w p saved.notify
      goes_to =
          let there = notify_there in
          let h = notify_holder there.0.attributes.holder (b.tied.holders saved.notify there.0 there.1) in
          record { asked = asked_is; with_task = (h.0, record { view = there.0; there = there.1; holder_is = h.1 }) }

-- ---- The tables once a port was doomed: what is said between two parts is true of them, with a turn more.

-- ---- requests, where fewer ports live

kept_at : (lives lives2 : ℕ → Bool) (o : Option ℕ) (kind : Kind) (q : ℕ) → lives2 q ≡ lives q → rights_kept lives2 o kind q ≡ rights_kept lives o kind q
kept_at lives lives2 None kind q same = refl
kept_at lives lives2 (Some n) receive q same = refl
kept_at lives lives2 (Some n) send q same = refl
kept_at lives lives2 (Some n) send_once q same = ap (λ (b : Bool). if n == q && b then suc zero else zero) same

none_at : (lives : ℕ → Bool) (o : Option ℕ) (kind : Kind) (q : ℕ) → lives q ≡ false → rights_kept lives o kind q ≡ 0
none_at lives None kind q dead = refl
none_at lives (Some n) receive q dead = refl
none_at lives (Some n) send q dead = refl
none_at lives (Some n) send_once q dead = grind arith

went_at : (lives lives2 : ℕ → Bool) (went : List NameRequest) (r : Request) (kind : Kind) (q : ℕ) → lives2 q ≡ lives q → rights_went lives2 went r kind q ≡ rights_went lives went r kind q
went_at lives lives2 [] r kind q same = refl
went_at lives lives2 (x ∷ went) r kind q same = grind (arith, went_at lives lives2 went r kind q same, kept_at)

went_none : (lives : ℕ → Bool) (went : List NameRequest) (r : Request) (kind : Kind) (q : ℕ) → lives q ≡ false → rights_went lives went r kind q ≡ 0
went_none lives [] r kind q dead = refl
went_none lives (x ∷ went) r kind q dead = grind (arith, went_none lives went r kind q dead, none_at)

-- rights for one port among those for ports that live
lying_at : (lives : ℕ → Bool) (tokens : List Token) (kind : Kind) (q : ℕ) (r : Request) → lying_among (filter (λ x. lives x.port) tokens) kind q (in_request r) ≡ (if lives q then lying_among tokens kind q (in_request r) else 0)
lying_at lives tokens kind q r = filter_weigh (λ x. if test x then 1 else 0) (λ x. lives x.port) tokens ∙ all tokens
  where
    test : Token → Bool
    test x = is_of kind q x && same_place (in_request r) x.place

    all : (xs : List Token) → weigh (λ x. if lives x.port then (if test x then 1 else 0) else 0) xs ≡ (if lives q then count test xs else 0)
    all [] = go (lives q)
      where
        go : (b : Bool) → zero ≡ (if b then zero else zero)
        go true = refl
        go false = refl
    all (x ∷ xs) = go (test x) (lives x.port) (lives q) refl refl refl (all xs)
      where
        go : (t a b : Bool) → test x ≡ t → lives x.port ≡ a → lives q ≡ b → weigh (λ x. if lives x.port then (if test x then 1 else 0) else 0) xs ≡ (if b then count test xs else 0) →
            (if a then (if t then 1 else 0) else 0) + weigh (λ x. if lives x.port then (if test x then 1 else 0) else 0) xs ≡ (if b then (if t then 1 else 0) + count test xs else 0)
        go false true true e f g ih = omega (arith, ih)
        go false true false e f g ih = omega (arith, ih)
        go false false true e f g ih = omega (arith, ih)
        go false false false e f g ih = omega (arith, ih)
        go true true true e f g ih = omega (arith, ih)
        go true false false e f g ih = omega (arith, ih)
        go true true false e f g ih = absurd (let h = (at_place kind q (in_request r) x e).0 in let k : true ≡ false = sym f ∙ ap lives h ∙ g in cc)
        go true false true e f g ih = absurd (let h = (at_place kind q (in_request r) x e).0 in let k : false ≡ true = sym f ∙ ap lives h ∙ g in cc)

pub fewer_live : (notify : Request → Option ℕ) (went : List NameRequest) (made : ℕ) (stands : Request → Bool) (lives lives2 : ℕ → Bool) (tokens : List Token) →
    ((q : ℕ) → (lives2 q ≡ lives q) ⊎ (lives2 q ≡ false)) → RequestsAgree notify went made stands lives (filter (λ x. lives x.port) tokens) → RequestsAgree notify went made stands lives2 (filter (λ x. lives2 x.port) tokens)
fewer_live notify went made stands lives lives2 tokens fewer a = record {
  standing = a.standing;
  kept = λ r kind q. kept r kind q (fewer q);
  given = a.given;
  given_went = a.given_went;
  ended_went = a.ended_went;
}
  where
    kept : (r : Request) (kind : Kind) (q : ℕ) → (lives2 q ≡ lives q) ⊎ (lives2 q ≡ false) → lying_among (filter (λ x. lives2 x.port) tokens) kind q (in_request r) ≡ rights_kept lives2 (notify r) kind q + rights_went lives2 went r kind q
    kept r kind q (inl same) =
        let x = lying_at lives2 tokens kind q r in
        let y = lying_at lives tokens kind q r in
        let z : (if lives2 q then lying_among tokens kind q (in_request r) else 0) ≡ (if lives q then lying_among tokens kind q (in_request r) else 0) = ap (λ (b : Bool). if b then lying_among tokens kind q (in_request r) else 0) same in
        let k = a.kept r kind q in
        let m = kept_at lives lives2 (notify r) kind q same in
        let n = went_at lives lives2 went r kind q same in
        omega (arith, x, y, z, k, m, n)
    kept r kind q (inr dead) =
        let x = lying_at lives2 tokens kind q r in
        let z : (if lives2 q then lying_among tokens kind q (in_request r) else 0) ≡ 0 = ap (λ (b : Bool). if b then lying_among tokens kind q (in_request r) else 0) dead in
        let m = none_at lives2 (notify r) kind q dead in
        let n = went_none lives2 went r kind q dead in
        omega (arith, x, z, m, n)

-- ---- the port is doomed

module _ (now : ℕ) (tables : WorldView) (old mid : State) (owed : Owed) (e : Ending) (w : WorldView) (b : Between now tables old mid owed e w)
    (p : ℕ) (v : PortView Kept) (there : port_at w p ≡ Some v) (nobody : v.attributes.holder ≡ holder.Nobody) (nowhere : (notify : ℕ) → GoesTo w p notify → ⊥) where
  abbrev s_doomed : State
  s_doomed = b.tied.state

  abbrev pub f : Ending
  f = doom p e

  abbrev pub after : (lost doomed : List ℕ) → WorldView
  after lost doomed = record w { ports = record (with_port w.ports p (held v holder.Doomed)) { lost = lost; doomed = doomed } }

  unjudged : is_judged e p ≡ false
  unjudged = b.unjudged p (record { view = v; there = there; holder_is = nobody })

  with_nobody : IsWithNobody s_doomed e.destroyed p
  with_nobody = subst (λ (h : Holder). IsHolder s_doomed e.destroyed p h) nobody (b.tied.holders p v there)

  found : IsFound mid e p
  found = found_now now tables old mid owed e w b p v there unjudged with_nobody

  pub was_judging : IsJudging mid e
  was_judging = still_judging now tables old mid owed e w b p found unjudged

  unsaved : ¬ (IsSaved mid p)
  unsaved saved = nowhere saved.notify (goes_to now tables old mid owed e w b p unjudged was_judging saved)

  pub is_dooms : Dooms mid e f
  is_dooms = doom_is mid e p found unjudged unsaved

  more : (q : ℕ) → listed e.doomed q ≡ true → listed f.doomed q ≡ true
  more q h = listed_later p e.doomed q h

  lives_fewer : (q : ℕ) → (lives_after mid f q ≡ lives_after mid e q) ⊎ (lives_after mid f q ≡ false)
  lives_fewer q = grind arith

  module _ (lost doomed : List ℕ) where
    sets : SetsHolder w p holder.Doomed (record w { ports = with_port w.ports p (held v holder.Doomed) })
    sets = record { v = v; there = there; rest = refl }

    so_far : IsSoFar now mid f s_doomed
    so_far = grind arith

    agrees : AgreesOf (lives_after mid f) (after lost doomed) s_doomed
    agrees = let a = b.tied.agrees in record {
      spaces = a.spaces;
      rights = a.rights;
      live_port = live_put w.ports.ports p (held v holder.Doomed) s_doomed.live_port (there_live now tables old mid owed e w b p v there) a.live_port;
      ports_made = a.ports_made;
      ports = ports_put w.ports.ports p (held v holder.Doomed) s_doomed (let o = a.ports p v there in record { waiting = o.waiting; limit = o.limit; make_send = o.make_send; sequence = o.sequence; sets = o.sets })
          (λ q y not is. a.ports q y is);
      counts = λ q. let c = a.counts q in record { entered = c.entered; receivers = c.receivers; senders = c.senders; once_rights = c.once_rights; destinations = λ live. destined q (c.destinations live) (lives_fewer q) };
      total = a.total;
      in_sets = a.in_sets;
      of_requests = fewer_live _ _ _ _ (lives_after mid e) (lives_after mid f) s_doomed.ledger lives_fewer a.of_requests;
    }
      where
        destined : (q : ℕ) → (counts_of w.ledger q).destination ≡ (if lives_after mid e q then onces_queued s_doomed q else (counts_of w.ledger q).destination) → (lives_after mid f q ≡ lives_after mid e q) ⊎ (lives_after mid f q ≡ false) →
            (counts_of w.ledger q).destination ≡ (if lives_after mid f q then onces_queued s_doomed q else (counts_of w.ledger q).destination)
        destined q was (inl same) = was ∙ ap (λ (t : Bool). if t then onces_queued s_doomed q else (counts_of w.ledger q).destination) (sym same)
        destined q was (inr dead) = ap (λ (t : Bool). if t then onces_queued s_doomed q else (counts_of w.ledger q).destination) (sym dead)

    holders : HoldersTell (after lost doomed) s_doomed e.destroyed
    holders q y at = each_put w.ports.ports p (Some (held v holder.Doomed)) (λ q o. (y : PortView Kept) → o ≡ Some y → IsHolder s_doomed e.destroyed q y.attributes.holder)
        (of_some (held v holder.Doomed) (λ y. IsHolder s_doomed e.destroyed p y.attributes.holder) with_nobody) (λ q not y is. b.tied.holders q y is) q y at

    abbrev tied : Tied now mid f (after lost doomed)
    tied = record {
      state = s_doomed;
      so_far = so_far;
      agrees = agrees;
      holders = holders;
      slots = b.tied.slots;
      waiting = let a = b.tied.waiting in record {
        waiting = a.waiting;
        emptied = a.emptied;
        parts = a.parts;
        are = a.are;
        lost = weaker (λ m. All (λ x. x.place ≡ in_message m.0 m.1 → listed e.doomed x.port ≡ true) e.left) (λ m. All (λ x. x.place ≡ in_message m.0 m.1 → listed f.doomed x.port ≡ true) e.left)
            (λ m all. weaker (λ x. x.place ≡ in_message m.0 m.1 → listed e.doomed x.port ≡ true) (λ x. x.place ≡ in_message m.0 m.1 → listed f.doomed x.port ≡ true) (λ x h at. more x.port (h at)) e.left all) a.emptied a.lost;
      };
    }

    -- another port is as it was
    other : (q : ℕ) → (q ≡ p → ⊥) → port_at (after lost doomed) q ≡ port_at w q
    other q not = put_other w.ports.ports p (Some (held v holder.Doomed)) q not

    own : (y : PortView Kept) (q : ℕ) → q ≡ p → port_at (after lost doomed) q ≡ Some y → y.attributes.holder ≡ holder.Doomed
    own y q same at = of_some (held v holder.Doomed) (λ y. y.attributes.holder ≡ holder.Doomed) refl y (sym (put_own w.ports.ports p (Some (held v holder.Doomed))) ∙ subst (λ (x : ℕ). port_at (after lost doomed) x ≡ Some y) same at)

    judged_more : (q : ℕ) → is_judged e q ≡ true → is_judged f q ≡ true
    judged_more q h = grind arith

    lived : (q : ℕ) → lives_after mid f q ≡ true → lives_after mid e q ≡ true
    lived q live = grind (arith, lives_fewer)

    was_live : (q : ℕ) → is_some (port_at (after lost doomed) q) ≡ true → is_some (port_at w q) ≡ true
    was_live = each_put w.ports.ports p (Some (held v holder.Doomed)) (λ q o. is_some o ≡ true → is_some (port_at w q) ≡ true) (λ h. ap is_some there) (λ q not h. h)

    own_judged : (q : ℕ) → q ≡ p → is_judged f q ≡ true
    own_judged q same = rw (eq-eqb q p same) refl

    lost_now : (q : ℕ) → HasLost mid f q → HasLost mid e q
    lost_now q (inl o) = inl o
    lost_now q (inr (x, k, doomed, lies, gone)) = inr (x, k, destroyed_doomed old mid owed e b.reached b.lawful x k gone, lies, gone)

    pub doomed_between : Between now tables old mid owed f (after lost doomed)
    doomed_between = record {
      lawful = b.lawful;
      reached = turns e f b.reached (inl (doom_is mid e p found unjudged unsaved));
      tied = tied;
      held = record { held = (holder_set w _ b.held p holder.Doomed sets (λ task r. absurd (let a = b.held.held task r.name r.entry p r.found r.named r.receives v there in let c : holder.Nobody ≡ holder.Task task = sym nobody ∙ a in cc))).held };
      carriers = let c = carriers_held w _ b.carriers p holder.Doomed sets (λ q i. absurd (let a = b.carriers.carried q i.u i.message p i.there i.queued i.carries v there in let c : holder.Nobody ≡ holder.QueueOf q = sym nobody ∙ a in cc)) in
          record { given = c.given; carried = c.carried };
      requested = let r = requested_held w _ b.requested p holder.Doomed sets in record { on_names = λ key x is. let o = r.on_names key x is in record { own = o.own; small = o.small; entry = o.entry; found = o.found; for_port = o.for_port; live = o.live }; no_senders = r.no_senders; port_destroyed = r.port_destroyed };
      went = b.went;
      unjudged = λ q h. elim (eqb_tells q p) [
        | inl same ↦ absurd (let a : holder.Nobody ≡ holder.Doomed = sym h.holder_is ∙ own h.view q same.1 h.there in cc)
        | inr not ↦ (let was = b.unjudged q (record { view = h.view; there = sym (other q not.1) ∙ h.there; holder_is = h.holder_is }) in rw (not.0, was) refl)
      ];
      doomed = λ q y at. elim (eqb_tells q p) [
        | inl same ↦ ((λ h. rw same.0 refl), (λ h. own y q same.1 at))
        | inr not ↦ (let was = b.doomed q y (sym (other q not.1) ∙ at) in ((λ h. more q (was.0 h)), (λ h. was.1 (sym (ap (λ (t : Bool). t || listed e.doomed q) not.0) ∙ h))))
      ];
      lost = λ q h. elim (b.lost q (lost_now q h)) [
        | inl judged ↦ inl (judged_more q judged)
        | inr held ↦ elim (eqb_tells q p) [
          | inl same ↦ inl (own_judged q same.1)
          | inr not ↦ inr (record { view = held.view; there = other q not.1 ∙ held.there; holder_is = held.holder_is })
        ]
      ];
      emptied = b.emptied;
      senders = b.senders;
      noted = λ q live had none. b.noted q (lived q live) had (record { live = was_live q none.live; asked = none.asked; none = none.none });
      had = b.had;
      receivers = b.receivers;
      unlost = λ kind q x k not alive out. b.unlost kind q x k not (false_or (q == p) (listed e.doomed q) alive).1 out;
      had_senders = b.had_senders;
    }

-- ---- A port is judged, and then all are.

-- ---- a number of ports

number_le : (g h : ℕ → Bool) (n : ℕ) → ((q : ℕ) → g q ≡ true → h q ≡ true) → number g n ≤ number h n
number_le g h zero less = omega arith
number_le g h (suc n) less = go (g n) (h n) (less n) (number_le g h n less)
  where
    go : (a b : Bool) → (a ≡ true → b ≡ true) → number g n ≤ number h n → (if a then 1 else 0) + number g n ≤ (if b then 1 else 0) + number h n
    go true true l ih = omega (arith, ih)
    go false b l ih = omega (arith, ih)
    go true false l ih = absurd (let z : false ≡ true = l refl in cc)

-- one less passes
pub number_less : (g h : ℕ → Bool) (n p : ℕ) → p < n → ((q : ℕ) → g q ≡ true → h q ≡ true) → g p ≡ false → h p ≡ true → number g n < number h n
number_less g h zero p below less no_more was = absurd (omega (arith, below))
number_less g h (suc n) p below less no_more was = elim (eqb_tells p n) [
  | inl same ↦ (let a = subst (λ (q : ℕ). g q ≡ false) same.1 no_more in let b = subst (λ (q : ℕ). h q ≡ true) same.1 was in let c = number_le g h n less in rw (a, b) (omega (arith, c)))
  | inr differs ↦ go (g n) (h n) (less n) (number_less g h n p (under n p below differs.1) less no_more was)
]
  where
    under : (n p : ℕ) → p < suc n → (p ≡ n → ⊥) → p < n
    under n p l d = less_than p n (omega (arith, l)) d

    go : (a b : Bool) → (a ≡ true → b ≡ true) → number g n < number h n → (if a then 1 else 0) + number g n < (if b then 1 else 0) + number h n
    go true true l ih = omega (arith, ih)
    go false b l ih = omega (arith, ih)
    go true false l ih = absurd (let z : false ≡ true = l refl in cc)

-- ---- a port is doomed, and its queue is emptied

module _ (w : WorldView) (p : ℕ) (lost : IsHeldBy w.ports p holder.Nobody) (nowhere : (notify : ℕ) → GoesTo w p notify → ⊥) (w1 : WorldView) (d : DoomsPort w p w1) where
  same_view : lost.view ≡ d.v
  same_view = same_found (port_at w p) lost.view d.v lost.there d.there

  pub nobody : d.v.attributes.holder ≡ holder.Nobody
  nobody = ap (λ (v : PortView Kept). v.attributes.holder) (sym same_view) ∙ lost.holder_is

  -- one port less may be doomed
  pub dooms_fewer : IsAt IsStarted w → remaining w1 < remaining w
  dooms_fewer a = subst (λ (x : WorldView). remaining x < remaining w) (sym d.rest) (let b = fewer in omega (arith, b))
    where
      made : p < w.ports.made
      made =
          let b = a.between in
          let x = b.lawful.made_port p (there_mid a.now a.tables a.old a.mid a.owed a.ending w b p d.v d.there) in
          let y = b.tied.agrees.ports_made in
          let z : b.tied.state.ports_made ≡ a.mid.ports_made = ap (λ (s : State). s.ports_made) b.tied.so_far.rest in
          omega (arith, x, y, z)

      fewer : number (λ q. is_undoomed (map.get (map.insert w.ports.ports p (held d.v holder.Doomed)) q)) w.ports.made < number (λ q. is_undoomed (port_at w q)) w.ports.made
      fewer = number_less (λ q. is_undoomed (map.get (map.insert w.ports.ports p (held d.v holder.Doomed)) q)) (λ q. is_undoomed (port_at w q)) w.ports.made p made
          (each_put w.ports.ports p (Some (held d.v holder.Doomed)) (λ q o. is_undoomed o ≡ true → is_undoomed (port_at w q) ≡ true) (λ h. absurd (let z : false ≡ true = h in cc)) (λ q differs h. h))
          (ap is_undoomed (put_own w.ports.ports p (Some (held d.v holder.Doomed))))
          (ap is_undoomed d.there ∙ ap can_be_doomed nobody)

  module _ (now : ℕ) (tables : WorldView) (old mid : State) (owed : Owed) (e : Ending) (b : Between now tables old mid owed e w) (started : IsStarted mid e w) where
    unjudged_done : is_judged e p ≡ false
    unjudged_done = b.unjudged p lost

    none_saved : NoneSaved mid e p
    none_saved q k lies = go (listed e.saved q) refl
      where
        why : IsFound mid e q → ⊥
        why (inl o) = let a = count_le (λ x. is_of receive q x && same_place (in_message p k) x.place) (is_of receive q) (λ x t. left_of _ _ t) mid.ledger in let z = o.1 in omega (arith, a, z, lies)
        why (inr (x, listed_x, (n, other))) =
            let g = one_place old mid owed e b.reached b.lawful q (in_message p k) (in_message x n) lies other in
            let same : x ≡ p = cc in
            let j : is_judged e p ≡ true = or_left (listed e.doomed p) (listed e.saved p) (subst (λ (y : ℕ). listed e.doomed y ≡ true) same listed_x) in
            let un = unjudged_done in cc

        go : (t : Bool) → listed e.saved q ≡ t → listed e.saved q ≡ false
        go false h = h
        go true h = absurd (why (are_found old mid owed e b.reached q (or_right (listed e.doomed q) (listed e.saved q) h)))

    pub doomed_emptying : Emptying now tables old mid owed (f now tables old mid owed e w b p d.v d.there nobody nowhere) w1 p
    doomed_emptying = subst (λ (x : WorldView). Emptying now tables old mid owed (f now tables old mid owed e w b p d.v d.there nobody nowhere) x p) (sym d.rest) record {
      between = doomed_between now tables old mid owed e w b p d.v d.there nobody nowhere w1.ports.lost w1.ports.doomed;
      judging = dooms_judging mid e (f now tables old mid owed e w b p d.v d.there nobody nowhere) (is_dooms now tables old mid owed e w b p d.v d.there nobody nowhere) (was_judging now tables old mid owed e w b p d.v d.there nobody nowhere);
      doomed = listed_first p e.doomed;
      unsaved = none_saved;
      others = λ q v is held_by differs. started q v (sym (put_other w.ports.ports p (Some (held d.v holder.Doomed)) q differs) ∙ is) held_by;
    }

  -- once it is empty
  pub dooms_continues : (n : ℕ) (w2 : WorldView) → Empties w1 p n w2 → NoneQueued w2.ports p → (m : ℕ) → m ≡ min (n + 1) (2 ^ 64 - 1) → Continues IsStarted IsStarted w m w2
  dooms_continues n w2 empties none m is now tables old mid owed e b started =
      let r = empties now tables old mid owed (f now tables old mid owed e w b p d.v d.there nobody nowhere) (doomed_emptying now tables old mid owed e b started) in (
        r.0,
        r.1.between,
        (r.2.0 + 1, (let c = r.2.1 in omega (arith, c)), (let c = r.2.2 in omega (arith, c, is))),
        slots r.0 r.3,
        λ q v there held_by. elim (eqb_tells q p) [
          | inl same ↦ no_message v.queue (none v (subst (λ (x : ℕ). port_at w2 x ≡ Some v) same.1 there))
          | inr differs ↦ r.1.others q v there held_by differs.1
        ],
      )
    where
      slots : (g : Ending) → SameSlots (f now tables old mid owed e w b p d.v d.there nobody nowhere) w1 g w2 → SameSlots e w g w2
      slots g h =
          let a : w1.ports.spare ≡ w.ports.spare = ap (λ (x : WorldView). x.ports.spare) d.rest in
          let c : length w1.ports.destroyed ≡ length w.ports.destroyed = ap (λ (x : WorldView). length x.ports.destroyed) d.rest in
          omega (arith, h, a, c)

      no_message : (ms : List Kept) → length ms ≡ 0 → ms ≡ []
      no_message [] h = refl
      no_message (m ∷ ms) h = absurd (omega (arith, h))

-- ---- several

pub continues_none : (w : WorldView) → Continues IsStarted IsStarted w 0 w
continues_none w now tables old mid owed e b s = (e, b, count_none e.turns, refl, s)

pub continues_more : (w v u : WorldView) (n m : ℕ) → Continues IsStarted IsStarted w n v → Continues IsStarted IsStarted v m u → (t : ℕ) → t ≡ min (n + m) (2 ^ 64 - 1) → Continues IsStarted IsStarted w t u
continues_more w v u n m a b t is now tables old mid owed e h s =
    let x = a now tables old mid owed e h s in
    let y = b now tables old mid owed x.0 x.1 x.4 in
    (y.0, y.1, count_joined e.turns x.0.turns y.0.turns n m t x.2 y.2 is, (let c = x.3 in let d = y.3 in omega (arith, c, d)), y.4)

pub still_at : (w v : WorldView) (n : ℕ) → IsAt IsStarted w → Continues IsStarted IsStarted w n v → IsAt IsStarted v
still_at w v n a c =
    let x = c a.now a.tables a.old a.mid a.owed a.ending a.between a.stage_is in
    record { now = a.now; tables = a.tables; old = a.old; mid = a.mid; owed = a.owed; ending = x.0; between = x.1; stage_is = x.4 }

-- ---- all are judged

module _ (w : WorldView) (none : NoneHeldBy w.ports holder.Nobody) (empty : w.ports.lost ≡ []) (now : ℕ) (tables : WorldView) (old mid : State) (owed : Owed) (e : Ending)
    (b : Between now tables old mid owed e w) (s : IsStarted mid e w) where
  judged_or : (p : ℕ) → (is_judged e p ≡ true) ⊎ IsHeldBy w.ports p holder.Nobody → is_judged e p ≡ true
  judged_or p (inl h) = h
  judged_or p (inr h) = absurd (none p h.view h.there h.holder_is)

  waited : (p q k : ℕ) → LiesAt mid receive p (in_message q k) → IsWaiting mid e (q, k)
  waited p q k lies = (least, within)
    where
      least : mid.taken q ≤ k
      least = elim (cases_lt k (mid.taken q)) [
        | inl h ↦ absurd (let z = b.lawful.gone q k (inl h) receive p in omega (arith, z, lies))
        | inr h ↦ omega (arith, h)
      ]

      within : k < length (mid.log q) + tally (λ y. y.1.0.port == q) e.begun
      within = elim (cases_lt k (length (mid.log q))) [
        | inl h ↦ omega (arith, h)
        | inr h ↦ absurd (let z = b.lawful.no_entry q k (omega (arith, h)) receive p in omega (arith, z, lies))
      ]

  -- a doomed port's messages were destroyed
  destroyed : (q k : ℕ) → listed e.doomed q ≡ true → mid.live_port q ≡ true → IsWaiting mid e (q, k) → Contains e.destroyed (q, k)
  destroyed q k doomed live waits = go (listed e.buried q) refl
    where
      go : (t : Bool) → listed e.buried q ≡ t → Contains e.destroyed (q, k)
      go true h = b.emptied q k h waits
      go false h =
          let v = is_there (port_at w q) (b.tied.agrees.live_port q ∙ b.tied.so_far.live_port q ∙ (λ i. live i && not (h i))) in
          was_emptied now mid e w b.tied q v.0 v.1 (s q v.0 v.1 ((b.doomed q v.0 v.1).1 doomed)) k waits

  pub all_judged : IsJudged mid e w
  all_judged = record { emptied = s; judged = judged; none_lost = empty }
    where
      judged : AreJudged mid e
      judged p (inl o) = judged_or p (b.lost p (inl o))
      judged p (inr (q, doomed, (k, lies))) = judged_or p (b.lost p (inr (q, k, doomed, lies, destroyed q k doomed (live_at (mid.live_port q) refl) (waited p q k lies))))
        where
          live_at : (t : Bool) → mid.live_port q ≡ t → mid.live_port q ≡ true
          live_at true h = h
          live_at false h = absurd (let z = b.lawful.gone q k (inr h) receive p in omega (arith, z, lies))

pub judges_all : (w v : WorldView) (n : ℕ) → Continues IsStarted IsStarted w n v → NoneHeldBy v.ports holder.Nobody → v.ports.lost ≡ [] → Continues IsStarted IsJudged w n v
judges_all w v n c none empty now tables old mid owed e b s =
    let x = c now tables old mid owed e b s in
    (x.0, x.1, x.2, x.3, all_judged v none empty now tables old mid owed x.0 x.1 x.4)
