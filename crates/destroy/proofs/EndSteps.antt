-- The five parts of a step's end, one after the other, are the end of the step.
use Rattle.std.proofs.Common.{◌≡◌, ℕ, suc, zero, ◌+◌, List, [], ◌∷◌, refl, ap, ◌∙◌, arith, true, false, Bool, inl, inr, length, ◌++◌, sym, Option, Some, None, subst, ◌<◌, ◌≤◌, ◌⊎◌, get_or, ◌^◌, ◌-◌}
use Rattle.std.specs.Prelude.{if◌then◌else◌, All, not, ◌==◌, map, filter, ◌&&◌, ◌||◌, drop, is_some, option_map, Contains, reverse, min}
use Rattle.std.proofs.lemmas.List.Elements.{All-head, All-tail, All-contains}
use Rattle.std.proofs.lemmas.List.{length-append}
use Rattle.std.proofs.lemmas.Bool.Decides.{eqb_tells}
use Rattle.std.specs.FinMap as map
use Rattle.std.specs.Option.{unwrap_or}
use Rattle.std.proofs.lemmas.Bool.{true_from_ne_false, false_from_ne_true}
use Rattle.mach_types.specs.Tokens.{no_senders, port_destroyed, dead_name, Place, in_task, in_message, in_request, Token, count, Kind, Request, weigh, is_of, is_held, receive, send, send_once}
use Rattle.mach_types.specs.Messages.{Entry}
use Rattle.mach_model.specs.State.{State, at, Target, Names, lookup, queue, senders}
use Rattle.mach_model.specs.Notices.{Owed, Notice, notice_message, Posted, all_posted_tokens}
use Rattle.mach_model.specs.Settles.{tokens_of, due_notices, settled_target}
use Rattle.mach_model.specs.Turns.{Ending, listed, is_among, IsNameOf, outcome, IsOnGone, PaidForName, went_in, Begins, Turn, IsReached, begins, turns, Begun, lives_after, became_dead, has_ended, AreJudged, IsAtDoomed, IsWaiting, IsDone}
use Rattle.mach_model.proofs.TurnsMade.{is_on_gone, EndedWell, reached_ended}
use Rattle.mach_model.proofs.Names.{at_same, at_other, alike, weigh-append, length-weigh, count_some, count_le, left_of, lying_le_of}
use Rattle.mach_model.proofs.SettledEnd.{post_all}
use Rattle.mach_model.proofs.TurnsSettle.{due_in, with_paid, all_posted, posted_at, entries_at as listed_at, end_log, end_of, turns_names, IsSound}
use Rattle.mach_model.specs.Lawful.{IsLawful, tally}
use Rattle.mach_model.specs.Midway.{MidLawful}
use Rattle.mach_model.specs.Carried.{lying_among, lying}
use Rattle.mach_model.specs.Unused.{came_by_once, onces_queued}
use Rattle.mach_model.proofs.TurnsCounted.{reached_sound}
use Rattle.mach_model.specs.Death.{same_place, IsOrphan, CarriedAt}
use Rattle.mach_model.proofs.Settling.{is_at, own_test, lives}
use Rattle.mach_model.proofs.SettledReceives.{dead_cases, none_posted, and_false}
use Rattle.mach_model.proofs.TurnsBounded.{turns_end}
use Rattle.rights.specs.Ledger.{counts_of}
use Rattle.rights.specs.declared.Counts.{Counts}
use Rattle.rights.specs.Counts.{no_rights}
use Rattle.port.specs.Ports.{PortView}
use Rattle.port.specs.declared.Holder.TheVariants as holder
use Rattle.port.specs.Holding.{NoneHeldBy}
use Rattle.copyin_base.specs.Kept.{Kept}
use Rattle.copyin_base.specs.Requests.{notify_of}
use Rattle.copyin_base.specs.Worlds.{WorldView, port_at}
use Rattle.copyin_base.specs.Shows.{AllKept, ShowsPort, SpacesAgree, SetsAgree, CountsAgree, Agrees, Shows}
use Rattle.copyin_base.proofs.Requesting.{requests_stay}
use Rattle.copyin_base.proofs.Told.{port_got}
use Rattle.notifications.specs.SoFar.{due_so_far, entries_at, posted_from, posted_so_far, IsSoFar, AgreesOf, buried_alone, seen_for, AreEntries, Tied}
use Rattle.destroy.proofs.LoseCounts.{none_taken, buried_doomed}
use Rattle.destroy.proofs.PayLives.{kept_live}
use Rattle.destroy.specs.Between.{Between}
use Rattle.destroy.specs.Stages.{AreBuried, IsJudged, AreLost, AreTold, IsStarted, IsAt, SameSlots, Continues, IsMidway, Starts, SettlesIn, TellsDoomed}

-- ---- How a chain of turns began.

module _ (old mid : State) (owed : Owed) where
  -- ---- how it began

  turn_begun : (e f : Ending) → Turn old mid e f → f.begun ≡ e.begun
  turn_begun e f (inl t) = ap (λ (x : Ending). x.begun) t.rest
  turn_begun e f (inr (inl t)) = ap (λ (x : Ending). x.begun) t.rest
  turn_begun e f (inr (inr (inl t))) = ap (λ (x : Ending). x.begun) t.rest
  turn_begun e f (inr (inr (inr (inl t)))) = ap (λ (x : Ending). x.begun) t.rest
  turn_begun e f (inr (inr (inr (inr (inl t))))) = ap (λ (x : Ending). x.begun) t.rest
  turn_begun e f (inr (inr (inr (inr (inr (inl t)))))) = ap (λ (x : Ending). x.begun) t.rest
  turn_begun e f (inr (inr (inr (inr (inr (inr t)))))) = ap (λ (x : Ending). x.begun) t.rest

  pub first_of : (e : Ending) → IsReached old mid owed e → (d : Ending) × Begins mid owed d × (e.begun ≡ d.begun)
  first_of e' (begins e b) = (e, b, refl)
  first_of f' (turns e f before t) = let a = first_of e before in (a.0, a.1, turn_begun e f t ∙ a.2)

  -- ---- how many rights of requests whose names went have paid

  on_gone : (place : Place) → is_on_gone mid place ≡ true → IsOnGone mid place
  on_gone (in_task task) h = absurd (cc)
  on_gone (in_message q k) h = absurd (cc)
  on_gone (in_request (no_senders p)) h = absurd (cc)
  on_gone (in_request (port_destroyed p)) h = absurd (cc)
  on_gone (in_request (dead_name task name)) h = go (mid.stands (dead_name task name)) h
    where
      go : (b : Bool) → not b ≡ true → b ≡ false
      go true e = absurd (cc)
      go false e = refl

  none_gone : (xs : List Token) → All (λ x. ¬ (IsOnGone mid x.place)) xs → count (λ x. is_on_gone mid x.place) xs ≡ 0
  none_gone [] all = refl
  none_gone (x ∷ xs) all = go (is_on_gone mid x.place) refl (All-head (λ x. ¬ (IsOnGone mid x.place)) x xs all) (none_gone xs (All-tail (λ x. ¬ (IsOnGone mid x.place)) x xs all))
    where
      go : (b : Bool) → is_on_gone mid x.place ≡ b → ¬ (IsOnGone mid x.place) → count (λ x. is_on_gone mid x.place) xs ≡ 0 → (if b then suc zero else zero) + count (λ x. is_on_gone mid x.place) xs ≡ 0
      go true is h ih = absurd (h (on_gone x.place is))
      go false is h ih = omega (arith, ih)

  all_gone : (xs : Owed) → All (PaidForName mid) xs → count (λ x. is_on_gone mid x.place) (tokens_of xs) ≡ length xs
  all_gone [] all = refl
  all_gone (x ∷ xs) all =
      let h = All-head (PaidForName mid) x xs all in
      let is : is_on_gone mid x.0.place ≡ true = ap (is_on_gone mid) h.kept ∙ ap not h.went in
      let ih = all_gone xs (All-tail (PaidForName mid) x xs all) in
      rw is (omega (arith, ih))

  pub went_many : (e : Ending) → Begins mid owed e → length (went_in e.begun) ≡ count (λ x. is_on_gone mid x.place) mid.ledger
  went_many e b =
      let a = b.rights (λ x. if is_on_gone mid x.place then 1 else 0) in
      let c = none_gone e.left b.all_went in
      let d = all_gone (went_in e.begun) b.went in
      omega (arith, a, c, d)

-- ---- What was posted up to now, and what the end of a step posts: at ports that live both are the same.

due_alone : (xs : Owed) → due_in (map (λ x. (false, x)) xs) ≡ due_notices xs
due_alone [] = refl
due_alone (x ∷ xs) = ap (λ (ys : List (ℕ × Notice)). (x.0.port, x.1) ∷ ys) (due_alone xs)

due_with : (ys : Begun) (xs : Owed) → due_in (with_paid ys xs) ≡ due_notices (map (λ y. y.1) ys ++ xs)
due_with [] xs = due_alone xs
due_with (y ∷ ys) xs = ap (λ (zs : List (ℕ × Notice)). (y.1.0.port, y.1.1) ∷ zs) (due_with ys xs)

pub due_told : (e : Ending) → due_in (with_paid e.begun e.paid) ≡ due_so_far e
due_told e = due_with e.begun e.paid

due_kept : (lives : ℕ → Bool) (ys : Begun) → due_in (filter (λ y. lives y.1.0.port) ys) ≡ filter (λ y. lives y.0) (due_in ys)
due_kept lives [] = refl
due_kept lives (y ∷ ys) = go (lives y.1.0.port) (due_kept lives ys)
  where
    go : (b : Bool) → due_in (filter (λ y. lives y.1.0.port) ys) ≡ filter (λ y. lives y.0) (due_in ys) →
        due_in (if b then y ∷ filter (λ y. lives y.1.0.port) ys else filter (λ y. lives y.1.0.port) ys)
        ≡ (if b then (y.1.0.port, y.1.1) ∷ filter (λ y. lives y.0) (due_in ys) else filter (λ y. lives y.0) (due_in ys))
    go true ih = ap (λ (zs : List (ℕ × Notice)). (y.1.0.port, y.1.1) ∷ zs) ih
    go false ih = ih

pub entries_same : (now p : ℕ) (ys : List (ℕ × Notice)) → listed_at now p ys ≡ entries_at now p ys
entries_same now p [] = refl
entries_same now p (y ∷ ys) = go (y.0 == p) (entries_same now p ys)
  where
    go : (b : Bool) → listed_at now p ys ≡ entries_at now p ys →
        (if b then record { origin = now; message = notice_message p y.1 } ∷ listed_at now p ys else listed_at now p ys)
        ≡ map (λ y. record { origin = now; message = notice_message p y.1 }) (if b then y ∷ filter (λ y. y.0 == p) ys else filter (λ y. y.0 == p) ys)
    go true ih = ap (λ (es : List Entry). record { origin = now; message = notice_message p y.1 } ∷ es) ih
    go false ih = ih

-- the entries behind the log of before
pub entries_posted : (now p : ℕ) (e : Ending) → posted_at now p e ≡ entries_at now p (due_so_far e)
entries_posted now p e = entries_same now p (due_in (with_paid e.begun e.paid)) ∙ ap (entries_at now p) (due_told e)

abbrev one_more : (now : ℕ) → (ℕ → List Entry) → ℕ × Notice → ℕ → List Entry
one_more now front y = at front y.0 (front y.0 ++ record { origin = now; message = notice_message y.0 y.1 } ∷ [])

-- Those at ports that live stand where they stand if no others come.
kept_posted : (now : ℕ) (lives : ℕ → Bool) (ends : ℕ → ℕ) (front : ℕ → List Entry) (ys : List (ℕ × Notice)) → ((p : ℕ) → lives p ≡ true → ends p ≡ length (front p)) →
    filter (λ (x : Posted). lives x.port) (posted_from ends ys) ≡ post_all now front (filter (λ y. lives y.0) ys)
kept_posted now lives ends front [] same = refl
kept_posted now lives ends front (y ∷ ys) same = go (lives y.0) refl (λ ends front same. kept_posted now lives ends front ys same)
  where
    longer : (p : ℕ) → lives p ≡ true → at ends y.0 (ends y.0 + 1) p ≡ length (one_more now front y p)
    longer p live = elim (eqb_tells p y.0) [
      | inl h ↦ (let a = at_same ends y.0 (ends y.0 + 1) p h.1 in
          let b = ap length (at_same front y.0 (front y.0 ++ record { origin = now; message = notice_message y.0 y.1 } ∷ []) p h.1) in
          let c = length-append (front y.0) (record { origin = now; message = notice_message y.0 y.1 } ∷ []) in
          let d = same y.0 (ap lives (sym h.1) ∙ live) in
          omega (arith, a, b, c, d))
      | inr h ↦ at_other ends y.0 (ends y.0 + 1) p h.1 ∙ same p live ∙ sym (ap length (at_other front y.0 (front y.0 ++ record { origin = now; message = notice_message y.0 y.1 } ∷ []) p h.1))
    ]

    other : lives y.0 ≡ false → (p : ℕ) → lives p ≡ true → at ends y.0 (ends y.0 + 1) p ≡ length (front p)
    other dead p live = at_other ends y.0 (ends y.0 + 1) p (λ is. let a = ap lives is in cc) ∙ same p live

    go : (b : Bool) → lives y.0 ≡ b →
        ((ends : ℕ → ℕ) (front : ℕ → List Entry) → ((p : ℕ) → lives p ≡ true → ends p ≡ length (front p)) →
        filter (λ (x : Posted). lives x.port) (posted_from ends ys) ≡ post_all now front (filter (λ y. lives y.0) ys)) →
        (if b then record { port = y.0; entry = ends y.0; notice = y.1 } ∷ filter (λ (x : Posted). lives x.port) (posted_from (at ends y.0 (ends y.0 + 1)) ys)
        else filter (λ (x : Posted). lives x.port) (posted_from (at ends y.0 (ends y.0 + 1)) ys))
        ≡ post_all now front (if b then y ∷ filter (λ y. lives y.0) ys else filter (λ y. lives y.0) ys)
    go true live rest = λ i. record { port = y.0; entry = same y.0 live i; notice = y.1 } ∷ rest (at ends y.0 (ends y.0 + 1)) (one_more now front y) longer i
    go false dead rest = rest (at ends y.0 (ends y.0 + 1)) front (other dead)

pub end_posted : (now : ℕ) (mid : State) (e : Ending) → filter (λ (x : Posted). lives_after mid e x.port) (posted_so_far mid e) ≡ all_posted now mid e
end_posted now mid e =
    kept_posted now (lives_after mid e) (λ p. length (mid.log p)) mid.log (due_so_far e) (λ p live. refl)
    ∙ ap (λ (ys : List (ℕ × Notice)). post_all now mid.log (filter (λ y. lives_after mid e y.0) ys)) (sym (due_told e))
    ∙ ap (post_all now mid.log) (sym (due_kept (lives_after mid e) (with_paid e.begun e.paid)))

-- ---- When all that is doomed was buried, the tables that agree with the state so far agree with the state in which the step ends.

module _ (now : ℕ) (old mid : State) (owed : Owed) (e : Ending) (l : MidLawful mid owed) (reached : IsReached old mid owed e) (judged : AreJudged mid e) (s : State) (f : IsSoFar now mid e s)
    (all_buried : (p : ℕ) → listed e.buried p ≡ listed e.doomed p) where
  abbrev new : State
  new = end_of now mid e

  alive_alone : (p : ℕ) → lives_after mid (buried_alone e) p ≡ lives_after mid e p
  alive_alone p = ap (λ (b : Bool). mid.live_port p && not b) (all_buried p)

  pub alive : (p : ℕ) → s.live_port p ≡ lives_after mid e p
  alive p = f.live_port p ∙ alive_alone p

  became_same : (o : Option Target) → became_dead mid (buried_alone e) o ≡ became_dead mid e o
  became_same None = refl
  became_same (Some (Target.port p)) = ap not (alive_alone p)
  became_same (Some (Target.once p)) = ap not (alive_alone p)
  became_same (Some (Target.dead n)) = refl
  became_same (Some (Target.set n)) = refl

  ended_same : (r : Request) → has_ended mid (buried_alone e) r ≡ has_ended mid e r
  ended_same (no_senders p) = ap (λ (b : Bool). not b || listed e.told p) (alive_alone p)
  ended_same (port_destroyed p) = ap (λ (b : Bool). not b || listed e.saved p) (alive_alone p)
  ended_same (dead_name task name) = became_same (lookup mid task name)

  -- a request that ended with a doomed port is one that ends
  dead_port : (p q : ℕ) → p ≡ q → listed e.doomed q ≡ true → lives_after mid e p ≡ false
  dead_port p q is doomed = ap (λ (b : Bool). mid.live_port p && not b) (subst (λ (k : ℕ). listed e.doomed k ≡ true) (sym is) doomed) ∙ and_false (mid.live_port p)

  well_ended : (r : Request) → EndedWell mid e r → has_ended mid e r ≡ true
  well_ended (no_senders p) h = ap (λ (b : Bool). not b || listed e.told p) (dead_port p h.port h.is_of h.doomed)
  well_ended (port_destroyed p) h = ap (λ (b : Bool). not b || listed e.saved p) (dead_port p h.port h.is_of h.doomed)
  well_ended (dead_name task name) h = became (lookup mid task name) h.is_of
    where
      became : (o : Option Target) → IsNameOf h.port o → became_dead mid e o ≡ true
      became None is = absurd is
      became (Some (Target.port q)) is = ap not (dead_port q h.port is h.doomed)
      became (Some (Target.once q)) is = ap not (dead_port q h.port is h.doomed)
      became (Some (Target.dead n)) is = absurd is
      became (Some (Target.set n)) is = absurd is

  pub stands_same : (r : Request) → s.stands r ≡ new.stands r
  stands_same r = f.stands r ∙ go (is_among e.ended r) refl
    where
      go : (c : Bool) → is_among e.ended r ≡ c → (if c then false else (outcome mid (buried_alone e)).stands r) ≡ new.stands r
      go true is = sym (ap (λ (b : Bool). mid.stands r && not b) (well_ended r (reached_ended old mid owed e reached r is)) ∙ and_false (mid.stands r))
      go false is = ap (λ (b : Bool). mid.stands r && not b) (ended_same r)

  sets_same : (p : ℕ) → s.sets_of p ≡ new.sets_of p
  sets_same p = f.sets_of p ∙ ap (λ (b : Bool). if listed e.saved p then [] else if b then mid.sets_of p else []) (alive_alone p)

  -- ---- rights

  pub weights : (h : Token → ℕ) → weigh h s.ledger ≡ weigh h new.ledger
  weights h =
      let a = f.ledger h in
      let b : weigh h (all_posted_tokens (filter (λ (x : Posted). s.live_port x.port) (posted_so_far mid e))) ≡ weigh h (all_posted_tokens (all_posted now mid e)) =
      (λ i. weigh h (all_posted_tokens (filter (λ (x : Posted). alive x.port i) (posted_so_far mid e)))) ∙ ap (λ (xs : List Posted). weigh h (all_posted_tokens xs)) (end_posted now mid e) in
      let c = weigh-append h e.left (all_posted_tokens (all_posted now mid e)) in
      omega (arith, a, b, c)

  -- ---- names

  seen_same : (task name p : ℕ) → ((q : ℕ) → IsNameOf q (lookup mid task name) → p ≡ q) → (seen_for mid e.ended s.live_port task name).live_port p ≡ lives_after mid e p
  seen_same task name p own = go (is_among e.ended (dead_name task name)) refl
    where
      go : (c : Bool) → is_among e.ended (dead_name task name) ≡ c → (if c then false else s.live_port p) ≡ lives_after mid e p
      go true is = (let h = reached_ended old mid owed e reached (dead_name task name) is in sym (dead_port p h.port (own h.port h.is_of) h.doomed))
      go false is = alive p

  target_same : (task name : ℕ) (o : Option Target) → lookup mid task name ≡ o → option_map (settled_target mid (seen_for mid e.ended s.live_port task name) task name) o ≡ option_map (settled_target mid new task name) o
  target_same task name None is = refl
  target_same task name (Some (Target.port p)) is = rw (seen_same task name p (λ q h. subst (IsNameOf q) is h)) refl
  target_same task name (Some (Target.once p)) is = rw (seen_same task name p (λ q h. subst (IsNameOf q) is h)) refl
  target_same task name (Some (Target.dead n)) is = refl
  target_same task name (Some (Target.set n)) is = refl

  naming_same : s.naming ≡ new.naming
  naming_same = λ i task. alike (s.naming task) (new.naming task)
      (λ name. f.names task name ∙ target_same task name (lookup mid task name) refl ∙ sym (turns_names now old mid owed e l (reached_sound old mid owed e reached) judged task name)) i

  -- ---- queues

  taken_same : (p : ℕ) → lives_after mid e p ≡ true → s.taken p ≡ mid.taken p
  taken_same p live =
      let a = f.taken p in
      let b = none_taken old mid owed e reached p live in
      omega (arith, a, b)

  log_same : (p : ℕ) → lives_after mid e p ≡ true → s.log p ≡ new.log p
  log_same p live = f.log p ∙ sym (end_log now mid e p live ∙ ap (λ (es : List Entry). mid.log p ++ es) (entries_posted now p e))

  queue_same : (p : ℕ) → lives_after mid e p ≡ true → queue s p ≡ queue new p
  queue_same p live = λ i. drop (taken_same p live i) (log_same p live i)

  -- ---- the tables

  module _ (w : WorldView) (a : AgreesOf (lives_after mid e) w s) (lawful : IsLawful new) where
    lived : (p : ℕ) (v : PortView Kept) → port_at w p ≡ Some v → lives_after mid e p ≡ true
    lived p v there = sym (alive p) ∙ sym (a.live_port p) ∙ ap is_some there

    ports_end : (p : ℕ) (v : PortView Kept) → port_at w p ≡ Some v → ShowsPort v new p
    ports_end p v there = let b = a.ports p v there in record {
      waiting = subst (AllKept p v.queue) (queue_same p (lived p v there)) b.waiting;
      limit = b.limit ∙ ap (λ (x : State). x.limit p) f.rest;
      make_send = b.make_send ∙ f.make_send p;
      sequence = b.sequence ∙ f.sequence p;
      sets = b.sets ∙ sets_same p;
    }

    counts_end : (p : ℕ) → CountsAgree w.ledger new.live_port new.ledger (onces_queued new) p
    counts_end p = let b = a.counts p in record {
      entered = b.entered ∙ alive p;
      receivers = b.receivers ∙ weights (λ x. if is_of Kind.receive p x then 1 else 0);
      senders = b.senders ∙ weights (λ x. if is_of Kind.send p x then 1 else 0);
      once_rights = b.once_rights ∙ weights (λ x. if is_of Kind.send_once p x then 1 else 0);
      destinations = λ live. b.destinations (alive p ∙ live) ∙ own live ∙ ap (tally came_by_once) (queue_same p live);
    }
      where
        own : lives_after mid e p ≡ true → (if lives_after mid e p then onces_queued s p else (counts_of w.ledger p).destination) ≡ onces_queued s p
        own live = rw live refl

    none_dead : (kind : Kind) (q : ℕ) → lives_after mid e q ≡ false → count (is_of kind q) s.ledger ≡ 0
    none_dead kind q dead = weights (λ x. if is_of kind q x then 1 else 0) ∙ lawful.no_rights q dead kind

    pub end_agrees : Agrees w new
    end_agrees = record {
      spaces = subst (λ (n : ℕ → Names). SpacesAgree w.profile w.spaces mid.live_task mid.tasks_made n mid.profile mid.given) naming_same (subst (λ (x : State). SpacesAgree w.profile w.spaces x.live_task x.tasks_made s.naming x.profile x.given) f.rest a.spaces);
      rights = record {
        references = λ task name x p is named. let b = a.rights.references task name x p is named in (
          sym (weights (λ y. if is_held task Kind.receive p y then 1 else 0)) ∙ b.0,
          sym (weights (λ y. if is_held task Kind.send p y then 1 else 0)) ∙ b.1,
        );
      };
      live_port = λ p. a.live_port p ∙ alive p;
      ports_made = a.ports_made ∙ ap (λ (x : State). x.ports_made) f.rest;
      ports = ports_end;
      counts = counts_end;
      total = (let b = a.total in let c = weights (λ x. 1) in let d = length-weigh s.ledger in let g = length-weigh new.ledger in omega (arith, b, c, d, g));
      in_sets = subst (λ (n : ℕ → Names). SetsAgree w.sets mid.set_owner mid.sets_made n) naming_same (subst (λ (x : State). SetsAgree w.sets x.set_owner x.sets_made s.naming) f.rest a.in_sets);
      of_requests = requests_stay (notify_of w.requests) w.requests.names.went w.ports.made w.ports.made s.stands new.stands (lives_after mid e) (lives_after mid e)
          (filter (λ x. lives_after mid e x.port) s.ledger) new.ledger a.of_requests (omega arith) (λ r. sym (stands_same r)) (λ q few. refl)
          (λ r kind q. sym (kept_live (lives_after mid e) kind q (in_request r) s.ledger (none_dead kind q) ∙ lying_same r kind q));
    }
      where
        lying_same : (r : Request) (kind : Kind) (q : ℕ) → lying_among s.ledger kind q (in_request r) ≡ lying_among new.ledger kind q (in_request r)
        lying_same r kind q = weights _

-- ---- When nothing is left in the tables for the end of a step, nothing is left to do for the machine.

both : (a b : Bool) → (a ≡ true → b ≡ true) → (b ≡ true → a ≡ true) → a ≡ b
both true b f g = sym (f refl)
both false true f g = absurd (let e = g refl in cc)
both false false f g = refl

-- none wait where no message was destroyed that wasn't taken
no_entries : (s : State) (messages : List Kept) (ms : List (ℕ × ℕ)) → messages ≡ [] → AreEntries s messages ms → ms ≡ []
no_entries s messages [] none are = refl
no_entries s [] (m ∷ ms) none are = absurd are
no_entries s (x ∷ xs) (m ∷ ms) none are = absurd (cc)

-- a port that was not entered has no rights
none_counted : (o : Option Counts) → is_some o ≡ false → unwrap_or o no_rights ≡ no_rights
none_counted None e = refl
none_counted (Some c) e = absurd (cc)

module _ (now : ℕ) (tables : WorldView) (old mid : State) (owed : Owed) (e : Ending) (w : WorldView) (b : Between now tables old mid owed e w) where
  abbrev s : State
  s = b.tied.state

  sound : IsSound old mid owed e
  sound = reached_sound old mid owed e b.reached

  -- ---- rights that are left are among those of the state

  pub left_among : (h : Token → ℕ) → weigh h e.left ≤ weigh h s.ledger
  left_among h = let a = b.tied.so_far.ledger h in omega (arith, a)

  left_lies : (k : ℕ) (d : Token) → k < length e.left → 0 < lying mid (get_or e.left k d).kind (get_or e.left k d).port (get_or e.left k d).place
  left_lies k d below =
      let x = get_or e.left k d in
      let some = count_some (is_at x.kind x.port x.place) e.left k d below (own_test x) in
      let a = sound.parts (λ y. if is_at x.kind x.port x.place y then 1 else 0) in
      omega (arith, some, a)

  doomed_lived : (p : ℕ) → listed e.doomed p ≡ true → mid.live_port p ≡ true
  doomed_lived p h = go (dead_cases mid p (sound.doomed p h))
    where
      go : IsOrphan mid p ⊎ ((q : ℕ) × CarriedAt mid p q) → mid.live_port p ≡ true
      go (inl o) = o.0
      go (inr (q, at)) = lives b.lawful.ports receive p (let a = lying_le_of mid receive p (in_message q at.0) in let c = at.1 in omega (arith, a, c))

  -- no right is for a port that isn't there
  none_for : (p : ℕ) → s.live_port p ≡ false → (kind : Kind) → count (is_of kind p) s.ledger ≡ 0
  none_for p dead = go
    where
      counted : counts_of w.ledger p ≡ no_rights
      counted = none_counted (map.get w.ledger.counts p) ((b.tied.agrees.counts p).entered ∙ dead)

      go : (kind : Kind) → count (is_of kind p) s.ledger ≡ 0
      go receive = sym (b.tied.agrees.counts p).receivers ∙ ap (λ (c : Counts). c.receive) counted
      go send = sym (b.tied.agrees.counts p).senders ∙ ap (λ (c : Counts). c.send) counted
      go send_once = sym (b.tied.agrees.counts p).once_rights ∙ ap (λ (c : Counts). c.send_once + c.destination) counted

  module _ (none_doomed : NoneHeldBy w.ports holder.Doomed) where
    -- ---- all that is doomed was buried

    pub was_buried : (p : ℕ) → listed e.doomed p ≡ true → listed e.buried p ≡ true
    was_buried p h = true_from_ne_false (listed e.buried p) (λ unburied. absurd (left unburied))
      where
        left : listed e.buried p ≡ false → ⊥
        left unburied =
            let there : s.live_port p ≡ true = b.tied.so_far.live_port p ∙ rw (doomed_lived p h, unburied) refl in
            let v = port_got (port_at w p) (b.tied.agrees.live_port p ∙ there) in
            none_doomed p v.0 v.1 ((b.doomed p v.0 v.1).1 h)

    pub all_buried : (p : ℕ) → listed e.buried p ≡ listed e.doomed p
    all_buried p = both (listed e.buried p) (listed e.doomed p) (buried_doomed old mid owed e b.reached p) (was_buried p)

    pub lives_yet : (p : ℕ) → s.live_port p ≡ lives_after mid e p
    lives_yet p = b.tied.so_far.live_port p ∙ ap (λ (b : Bool). mid.live_port p && not b) (all_buried p)

    module _ (stage : AreBuried mid e w) where
      -- ---- no right is left at a doomed port

      module _ (k : ℕ) (d : Token) (below : k < length e.left) where
        abbrev right : Token
        right = get_or e.left k d

        some : 0 < lying mid right.kind right.port right.place
        some = left_lies k d below

        undoomed : listed e.doomed right.port ≡ true → ⊥
        undoomed h =
            let dead : s.live_port right.port ≡ false = lives_yet right.port ∙ gone (mid.live_port right.port) (listed e.doomed right.port) h in
            let z = none_for right.port dead right.kind in
            let a = left_among (λ y. if is_of right.kind right.port y then 1 else 0) in
            let c = count_le (is_at right.kind right.port right.place) (is_of right.kind right.port) (λ y t. left_of (is_of right.kind right.port y) (same_place right.place y.place) t) e.left in
            let f = count_some (is_at right.kind right.port right.place) e.left k d below (own_test right) in
            omega (arith, z, a, c, f)
          where
            gone : (a b : Bool) → b ≡ true → (a && not b) ≡ false
            gone true true h = refl
            gone false true h = refl
            gone a false h = absurd (cc)

        -- it waited in a queue
        waits : (q n : ℕ) → right.place ≡ in_message q n → IsWaiting mid e (q, n)
        waits q n at =
            let some_there : 0 < lying mid right.kind right.port (in_message q n) = subst (λ (place : Place). 0 < lying mid right.kind right.port place) at some in
            ((omega (arith, early some_there)), (let late = within some_there in omega (arith, late)))
          where
            early : 0 < lying mid right.kind right.port (in_message q n) → ¬ (n < mid.taken q)
            early lies less = let z = b.lawful.gone q n (inl less) right.kind right.port in omega (arith, lies, z)

            within : 0 < lying mid right.kind right.port (in_message q n) → ¬ (length (mid.log q) ≤ n)
            within lies more = let z = b.lawful.no_entry q n more right.kind right.port in omega (arith, lies, z)

        lost_at : (q n : ℕ) → right.place ≡ in_message q n → Contains e.destroyed (q, n) → listed e.doomed right.port ≡ true
        lost_at q n at one =
            let a = b.tied.waiting in
            let none : a.waiting ≡ [] = no_entries s w.ports.destroyed a.waiting stage.told.lost.none_destroyed a.are in
            let all : e.destroyed ≡ a.emptied = a.parts ∙ ap (λ (ms : List (ℕ × ℕ)). reverse ms ++ a.emptied) none in
            All-contains (λ m. All (λ x. x.place ≡ in_message m.0 m.1 → listed e.doomed x.port ≡ true) e.left) a.emptied (q, n) a.lost
            (subst (λ (ms : List (ℕ × ℕ)). Contains ms (q, n)) all one) k d below at

        not_at : (place : Place) → right.place ≡ place → IsAtDoomed e place → ⊥
        not_at (in_task task) at h = h
        not_at (in_message q n) at h = undoomed (lost_at q n at (b.emptied q n (was_buried q h) (waits q n at)))
        not_at (in_request r) at h = h

      -- ---- ports without senders were told

      was_told : (p : ℕ) → mid.stands (no_senders p) ≡ true → lives_after mid e p ≡ true → 0 < senders old p → count (is_of send p) e.left ≡ 0 → listed e.told p ≡ true
      was_told p stands live had none = true_from_ne_false (listed e.told p) (λ untold. absurd (left untold))
        where
          there : s.live_port p ≡ true
          there = lives_yet p ∙ live

          few : count (is_of send p) s.ledger ≡ 0
          few =
              let a = b.tied.so_far.ledger (λ x. if is_of send p x then 1 else 0) in
              let c = none_posted (λ x. Unit {0}) (is_of send p) (λ x u t. cc) (λ x q u sent t. cc) (filter (λ (x : Posted). s.live_port x.port) (posted_so_far mid e)) (λ k d below. tt) in
              omega (arith, a, c, none)

          empty : (ps : List ℕ) → ps ≡ [] → Contains ps p → ⊥
          empty [] is (i, below, at) = omega (arith, below)
          empty (q ∷ qs) is one = cc

          left : listed e.told p ≡ false → ⊥
          left untold =
              let unended : is_among e.ended (no_senders p) ≡ false = false_from_ne_true (is_among e.ended (no_senders p)) (λ is. let h = reached_ended old mid owed e b.reached (no_senders p) is in
              let z = dead_port now old mid owed e b.lawful b.reached stage.told.lost.judged.judged s b.tied.so_far all_buried p h.port h.is_of h.doomed in cc) in
              let stood : s.stands (no_senders p) ≡ true = b.tied.so_far.stands (no_senders p) ∙ rw (unended, stands, sym (b.tied.so_far.live_port p) ∙ there, untold) refl in
              let noted = b.noted p live (let a = b.senders p in omega (arith, a, had)) (record {
                live = b.tied.agrees.live_port p ∙ there;
                asked = sym (b.tied.agrees.of_requests.standing (no_senders p)) ∙ stood;
                none = (b.tied.agrees.counts p).senders ∙ few;
              }) in
              empty w.ports.noted stage.told.none_noted noted

      pub is_done : IsDone old mid e
      is_done = record {
        judged = stage.told.lost.judged.judged;
        lost = λ k d below. not_at k d below (get_or e.left k d).place refl;
        buried = was_buried;
        told = was_told;
      }

-- ---- All messages of a port were destroyed whose queue is empty and that waited as the step's end began.

-- a queue that is shown as empty has no entries
none_kept : (p : ℕ) (ms : List Kept) (es : List Entry) → ms ≡ [] → AllKept p ms es → es ≡ []
none_kept p ms [] none all = refl
none_kept p [] (e ∷ es) none all = absurd all
none_kept p (m ∷ ms) (e ∷ es) none all = absurd (cc)

length_drop : {A : Type 0} (n : ℕ) (xs : List A) → length xs ≤ n + length (drop n xs)
length_drop zero xs = omega arith
length_drop (suc n) [] = omega arith
length_drop (suc n) (x ∷ xs) = let a = length_drop n xs in omega (arith, a)

abbrev as_entry : (now p : ℕ) → ℕ × Notice → Entry
as_entry now p y = record { origin = now; message = notice_message p y.1 }

-- what the step's own part posted is among what was posted
begun_among : (now p : ℕ) (ys : Begun) (xs : Owed) → tally (λ y. y.1.0.port == p) ys ≤ length (entries_at now p (due_notices (map (λ y. y.1) ys ++ xs)))
begun_among now p [] xs = omega arith
begun_among now p (y ∷ ys) xs = go (y.1.0.port == p) (begun_among now p ys xs)
  where
    go : (b : Bool) → tally (λ y. y.1.0.port == p) ys ≤ length (entries_at now p (due_notices (map (λ y. y.1) ys ++ xs))) →
        (if b then suc zero else zero) + tally (λ y. y.1.0.port == p) ys
        ≤ length (map (λ (y : ℕ × Notice). as_entry now p y)
        (if b then (y.1.0.port, y.1.1) ∷ filter (λ y. y.0 == p) (due_notices (map (λ y. y.1) ys ++ xs)) else filter (λ y. y.0 == p) (due_notices (map (λ y. y.1) ys ++ xs))))
    go true ih = omega (arith, ih)
    go false ih = omega (arith, ih)

module _ (now : ℕ) (mid : State) (e : Ending) (w : WorldView) (t : Tied now mid e w) (p : ℕ) (v : PortView Kept) (there : port_at w p ≡ Some v) (empty : v.queue ≡ []) where
  all_taken : length (t.state.log p) ≤ t.state.taken p
  all_taken =
      let none : queue t.state p ≡ [] = none_kept p v.queue (queue t.state p) empty (t.agrees.ports p v there).waiting in
      let few : length (queue t.state p) ≡ 0 = ap length none in
      let a = length_drop (t.state.taken p) (t.state.log p) in
      omega (arith, few, a)

  pub was_emptied : (k : ℕ) → IsWaiting mid e (p, k) → Contains e.destroyed (p, k)
  was_emptied k waits =
      let a = all_taken in
      let b : length (t.state.log p) ≡ length (mid.log p ++ entries_at now p (due_so_far e)) = ap length (t.so_far.log p) in
      let c = length-append (mid.log p) (entries_at now p (due_so_far e)) in
      let d = begun_among now p e.begun e.paid in
      let f = waits.1 in
      (t.so_far.destroyed p k).1 (waits.0, omega (arith, a, b, c, d, f))

-- ---- The five parts of a step's end, one after the other, are the end of the step.

-- ---- where each part starts

pub started : (w v : WorldView) → IsMidway w → Starts w v → IsAt IsStarted v
started w v m starts =
    let a = starts m.now m.tables m.old m.mid m.owed m.shown m.shows in
    record { now = m.now; tables = m.tables; old = m.old; mid = m.mid; owed = m.owed; ending = a.0; between = a.1; stage_is = a.5 }

pub continued : (before after : State → Ending → WorldView → Type 0) (w : WorldView) (so_many : ℕ) (v : WorldView) → IsAt before w → Continues before after w so_many v → IsAt after v
continued before after w so_many v at goes =
    let a = goes at.now at.tables at.old at.mid at.owed at.ending at.between at.stage_is in
    record { now = at.now; tables = at.tables; old = at.old; mid = at.mid; owed = at.owed; ending = a.0; between = a.1; stage_is = a.4 }

-- ---- the end

pub none_held : (w : WorldView) → TellsDoomed w → w.ports.doomed ≡ [] → NoneHeldBy w.ports holder.Doomed
none_held w tells none port v there is = go w.ports.doomed none ((tells port).1 record { view = v; there = there; holder_is = is })
  where
    go : (ps : List ℕ) → ps ≡ [] → Contains ps port → ⊥
    go [] e (i, below, at) = omega (arith, below)
    go (p ∷ ps) e one = cc

module _ (now : ℕ) (tables : WorldView) (old mid : State) (owed : Owed) where
  -- The tables show the state in which the step ends.
  pub end_shows : (e : Ending) (w : WorldView) → Between now tables old mid owed e w → AreBuried mid e w → NoneHeldBy w.ports holder.Doomed → Shows w (end_of now mid e)
  end_shows e w b stage none =
      let done = is_done now tables old mid owed e w b none stage in
      let ended = turns_end now old mid owed e b.lawful b.reached done in
      record {
        agrees = end_agrees now old mid owed e b.lawful b.reached done.judged b.tied.state b.tied.so_far (all_buried now tables old mid owed e w b none) w b.tied.agrees ended.1;
        holders = b.held;
        carriers = b.carriers;
        slots = b.tied.slots;
        requested = b.requested;
        idle = record {
          none_lost = record { lost = stage.told.lost.judged.none_lost; doomed = stage.none_doomed; destroyed = stage.told.lost.none_destroyed };
          noted = stage.told.none_noted;
          went = b.went;
        };
        lawful = ended.1;
      }

pub settles : (w w1 w2 w3 w4 v : WorldView) (t2 t3 t4 t5 so_many : ℕ) → Starts w w1 → Continues IsStarted IsJudged w1 t2 w2 → Continues IsJudged AreLost w2 t3 w3 → Continues AreLost AreTold w3 t4 w4 →
    Continues AreTold AreBuried w4 t5 v → TellsDoomed v → so_many ≡ min (t2 + t3 + t4 + t5) (2 ^ 64 - 1) → SettlesIn w so_many v
settles w w1 w2 w3 w4 v t2 t3 t4 t5 so_many starts judges loses tells buries tells_doomed many now tables old mid owed shown shows =
    let a = starts now tables old mid owed shown shows in
    let b = judges now tables old mid owed a.0 a.1 a.5 in
    let c = loses now tables old mid owed b.0 b.1 b.4 in
    let d = tells now tables old mid owed c.0 c.1 c.4 in
    let e = buries now tables old mid owed d.0 d.1 d.4 in
    let between : Between now tables old mid owed e.0 v = e.1 in
    let none : NoneHeldBy v.ports holder.Doomed = none_held v tells_doomed e.4.none_doomed in
    let done = is_done now tables old mid owed e.0 v between none e.4 in
    let ended = turns_end now old mid owed e.0 between.lawful between.reached done in
    let begun : Begins mid owed a.0 = a.2 in
    let last = first_of old mid owed e.0 between.reached in (
      end_of now mid e.0,
      ended.0,
      end_shows now tables old mid owed e.0 v between e.4 none,
      record {
        ending = e.0;
        reached = between.reached;
        done = done;
        number =
            (let h : a.0.turns ≡ 0 = ap (λ (x : Ending). x.turns) begun.rest in
            let i = b.2.1 in let j = c.2.1 in let k = d.2.1 in let l = e.2.1 in
            let m = b.2.2 in let n = c.2.2 in let o = d.2.2 in let p = e.2.2 in
            omega (arith, h, i, j, k, l, m, n, o, p, many));
        bounded = ended.2;
        deaths_are = ended.3;
        slots =
            (let i : SameSlots a.0 w1 b.0 w2 = b.3 in
            let j : SameSlots b.0 w2 c.0 w3 = c.3 in
            let k : SameSlots c.0 w3 d.0 w4 = d.3 in
            let l : SameSlots d.0 w4 e.0 v = e.3 in
            let m : length a.0.paid ≡ 0 = ap (λ (x : Ending). length x.paid) begun.rest in
            let n : length a.0.destroyed ≡ 0 = ap (λ (x : Ending). length x.destroyed) begun.rest in
            let o : length w1.ports.destroyed ≡ 0 = ap length a.4 in
            let p : length v.ports.destroyed ≡ 0 = ap length e.4.told.lost.none_destroyed in
            let q = a.3 in
            let r = went_many old mid owed a.0 begun in
            let s = went_many old mid owed last.0 last.1 in
            let t : length (went_in e.0.begun) ≡ length (went_in last.0.begun) = ap (λ ys. length (went_in ys)) last.2 in
            omega (arith, i, j, k, l, m, n, o, p, q, r, s, t));
      },
    )
