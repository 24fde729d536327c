-- From each live port the way from carrying port to carrying port ends at a task.
use Rattle.std.proofs.Common.{◌≡◌, ℕ, suc, zero, ◌<◌, ◌≤◌, List, [], ◌∷◌, ◌++◌, refl, sym, ap, subst, ◌∙◌, arith, true, false, Bool, inl, inr, ℤ, ◌+◌, ◌⊎◌, length}
use Rattle.std.specs.Prelude.{if◌then◌else◌, All, ◌==◌, ◌&&◌, map as list_map, filter, ◌≢◌, replicate, MatchBool}
use Rattle.std.proofs.lemmas.Bool.{eq-eqb, eqb-true, and_from}
use Rattle.std.proofs.lemmas.Bool.Decides.{eqb_tells}
use Rattle.std.proofs.lemmas.List.Elements.{All-head, All-tail}
use Rattle.mach_types.specs.Tokens.{receive, send_once, port_destroyed, Place, in_task, in_message, in_request, Token, token, count, is_of, Kind, send, Request, Moves}
use Rattle.mach_types.specs.declared.calls.Event.{Event}
use Rattle.mach_types.specs.declared.calls.Reply.{Reply}
use Rattle.mach_types.specs.declared.calls.Waited.{Waited}
use Rattle.mach_types.specs.declared.rights.Disposition.{Disposition}
use Rattle.mach_types.specs.Messages.{Mark, to_port, null, dead, ReplyRight, absent, present, Body, Entry}
use Rattle.mach_types.specs.Grammar.{WireBody}
use Rattle.mach_types.specs.Bodies.{body_words, body_rights, Through}
use Rattle.mach_types.specs.Numbers.{null_word}
use Rattle.mach_model.specs.State.{State, Target, gives, opening_in}
use Rattle.mach_model.specs.Death.{same_place, LiesAt, CarriedAt, IsOrphan, IsSaved}
use Rattle.mach_model.specs.SendRefusals.{there, here, Reaches, sent_guards}
use Rattle.mach_model.specs.Grounded.{carried, at_task, IsGrounded}
use Rattle.mach_model.specs.Notices.{Notice, port_sent, Owed, Posted, posted_tokens, all_posted_tokens, carried_by}
use Rattle.mach_model.specs.Settles.{PlaceStays, TellsAt, PaysFor, GoesFrom, due_notices, tokens_of, told_by, Settles}
use Rattle.mach_model.specs.Lawful.{IsLawful, tally}
use Rattle.mach_model.specs.Midway.{MidLawful}
use Rattle.mach_model.proofs.Names.{weigh-append, left_of, right_of, pos_or_zero, count_le, weigh-le, both_test}
use Rattle.mach_model.proofs.Moving.{one_at_most}
use Rattle.mach_model.proofs.Settling.{place_refl, is_at}
use Rattle.mach_model.proofs.Receivers.{SomeToken, some_token}
use Rattle.mach_model.proofs.SettledReceives.{of_kind, place_is, at_place, two_le, is_port_sent, parts, made_of, stays_if, goes_if, kept_there, eq_symm, live_mid, tally-map, tally-append, unsent_saved, notify_lives}
use Rattle.mach_model.specs.CopyIn.{put_by, taken_by, CopyRight, CopyWord, CopyReply, CopyCarried, CopyBody}
use Rattle.mach_model.specs.CopyOut.{given_to, GiveRight, GiveMark, GiveWord}
use Rattle.mach_model.specs.Carried.{lying}
use Rattle.mach_model.specs.Names.{JoinsSet, ChangesPort, Makes, renamed_place, Renames}
use Rattle.mach_model.specs.References.{LosesOne, Deallocates, DestroysTarget, with_dead, RemovesRight, Modifies}
use Rattle.mach_model.specs.Tasks.{EndsTask}
use Rattle.mach_model.specs.Transfer.{Inserts, Extracts}
use Rattle.mach_model.specs.Requests.{GivesBack, Keeps, Requests}
use Rattle.mach_model.specs.Send.{place_at, Sends}
use Rattle.mach_model.specs.Receive.{Takes, Receives, DestroysFront, Receipt}
use Rattle.mach_model.specs.Machine.{Step, RunFrom, RunIn, Judged}
use Rattle.mach_model.specs.Acts.{Does}
use Rattle.mach_model.proofs.StepLawful.{opening-lawful, Does-mid, Step-lawful}
use Rattle.mach_types.specs.declared.profiles.Profile.{Profile}
use Rattle.mach_types.specs.Guards.{NoneHolds}

-- ---- From each port that lives the way from carrying port to carrying port ends at a task.

-- The way from the port ends at a task, or at a port that has lost its receive right.
pub data LeadsOn (mid : State) : ℕ → Type 0 where
  to_task : (p task : ℕ) → LiesAt mid receive p (in_task task) → LeadsOn mid p
  to_orphan : (p : ℕ) → IsOrphan mid p → LeadsOn mid p
  along : (p q : ℕ) → CarriedAt mid p q → LeadsOn mid q → LeadsOn mid p

-- where a port's receive right is
pub data Where (mid : State) (p : ℕ) : Type 0 where
  with_task : (t : ℕ) → LiesAt mid receive p (in_task t) → Where mid p
  nowhere : IsOrphan mid p → Where mid p
  queued : (q k : ℕ) → LiesAt mid receive p (in_message q k) → Where mid p

pub where_is : (mid : State) (owed : Owed) (p : ℕ) → MidLawful mid owed → mid.live_port p ≡ true → Where mid p
where_is mid owed p l live = elim (pos_or_zero (count (is_of receive p) mid.ledger)) [
  | inl none ↦ nowhere (live, none)
  | inr some ↦ let t = some_token (is_of receive p) mid.ledger some in by t t.x.place refl
]
  where
    is_there : (t : SomeToken (is_of receive p) mid.ledger) (place : Place) → t.x.place ≡ place → LiesAt mid receive p place
    is_there t place is = t.counted (is_at receive p place) (and_from (is_of receive p t.x) (same_place place t.x.place) t.passes (ap (same_place place) is ∙ place_refl place))

    by : (t : SomeToken (is_of receive p) mid.ledger) (place : Place) → t.x.place ≡ place → Where mid p
    by t (in_task task) is = with_task task (is_there t (in_task task) is)
    by t (in_message q k) is = queued q k (is_there t (in_message q k) is)
    by t (in_request r) is = absurd (let some = is_there t (in_request r) is in let none = l.once_kept r receive p (λ e. cc) in omega (arith, some, none))

-- a right that there is one of at most isn't at two places
apart : (s : State) (p : ℕ) (a b : Place) → ((x : Place) → same_place a x ≡ true → same_place b x ≡ true → ⊥) → count (is_of receive p) s.ledger ≤ 1 →
    LiesAt s receive p a → LiesAt s receive p b → ⊥
apart s p a b not one is_here is_there = grind (arith, two_le (is_of receive p) (λ x. same_place a x.place) (λ x. same_place b x.place) (λ x. not x.place) s.ledger)

-- ---- a step's own part

-- No receive right came into a queue, but at this place.
abbrev pub NoneQueued : Place → (old mid : State) → Type 0
NoneQueued own old mid = (p q k : ℕ) → same_place own (in_message q k) ≡ false → LiesAt mid receive p (in_message q k) → LiesAt old receive p (in_message q k)

-- What there is at the own place leads on by the port where it lies.
abbrev pub OwnLeads : Place → State → Type 0
OwnLeads own mid = (p q k : ℕ) → same_place own (in_message q k) ≡ true → LiesAt mid receive p (in_message q k) → LeadsOn mid q

abbrev pub AllGrounded : State → Type 0
AllGrounded s = (p : ℕ) → s.live_port p ≡ true → IsGrounded s p

pub same_queue : (s : State) (p q r : ℕ) → IsLawful s → CarriedAt s p q → CarriedAt s p r → q ≡ r
same_queue s p q r l c d = elim (eqb_tells q r) [
  | inl h ↦ h.1
  | inr h ↦ absurd (apart s p (in_message q c.0) (in_message r d.0)
      (λ x a b. let e = place_is (in_message q c.0) x a in let f = place_is (in_message r d.0) x b in let g : in_message q c.0 ≡ in_message r d.0 = sym e ∙ f in h.1 (cc))
      (one_at_most s.live_port s.ledger l.one_receive l.no_rights p) c.1 d.1)
]

-- a receive right isn't both with a task and in a queue
pub not_both : (s : State) (p t q k : ℕ) → IsLawful s → LiesAt s receive p (in_task t) → LiesAt s receive p (in_message q k) → ⊥
not_both s p t q k l lies c = apart s p (in_task t) (in_message q k)
    (λ x a b. let e = place_is (in_task t) x a in let f = place_is (in_message q k) x b in let g : in_task t ≡ in_message q k = sym e ∙ f in cc)
    (one_at_most s.live_port s.ledger l.one_receive l.no_rights p) lies c

-- a queue in which a right lies is a live port's
pub queue_lives : (mid : State) (owed : Owed) (p q k : ℕ) → MidLawful mid owed → LiesAt mid receive p (in_message q k) → mid.live_port q ≡ true
queue_lives mid owed p q k m some = grind arith

-- a port that wasn't there has no right
pub unmade : (old : State) (p q k : ℕ) → IsLawful old → old.live_port p ≡ false → LiesAt old receive p (in_message q k) → ⊥
unmade old p q k l is_dead some = grind (arith, l.no_rights p is_dead receive, count_le (is_at receive p (in_message q k)) (is_of receive p) (λ x t. left_of _ _ t) old.ledger)

module _ (own : Place) (old mid : State) (owed : Owed) (l : IsLawful old) (m : MidLawful mid owed) (none : NoneQueued own old mid) (mine : OwnLeads own mid) where
  queued_leads : (p q k : ℕ) → LiesAt mid receive p (in_message q k) → (LiesAt old receive p (in_message q k) → LeadsOn mid p) → LeadsOn mid p
  queued_leads p q k lies far = go (same_place own (in_message q k)) refl
    where
      go : (b : Bool) → same_place own (in_message q k) ≡ b → LeadsOn mid p
      go true e = along p q (k, lies) (mine p q k e lies)
      go false e = far (none p q k e lies)

  at_end : (p t : ℕ) → LiesAt old receive p (in_task t) → Where mid p → LeadsOn mid p
  at_end p t lies (with_task u h) = to_task p u h
  at_end p t lies (nowhere o) = to_orphan p o
  at_end p t lies (queued q k c) = queued_leads p q k c (λ was. absurd (not_both old p t q k l lies was))

  on : (p q : ℕ) → CarriedAt old p q → (mid.live_port q ≡ true → LeadsOn mid q) → Where mid p → LeadsOn mid p
  on p q c next (with_task u h) = to_task p u h
  on p q c next (nowhere o) = to_orphan p o
  on p q c next (queued r k h) = queued_leads p r k h (λ was.
      let same = same_queue old p q r l c (k, was) in
      along p r (k, h) (subst (LeadsOn mid) same (next (ap mid.live_port same ∙ queue_lives mid owed p r k m h))))

  leads : (p : ℕ) → IsGrounded old p → mid.live_port p ≡ true → LeadsOn mid p
  leads r (at_task p t lies) live = at_end p t lies (where_is mid owed p m live)
  leads r (carried p q c g) live = on p q c (leads q g) (where_is mid owed p m live)

  new_port : (p : ℕ) → old.live_port p ≡ false → Where mid p → LeadsOn mid p
  new_port p is_dead (with_task u h) = to_task p u h
  new_port p is_dead (nowhere o) = to_orphan p o
  new_port p is_dead (queued q k h) = queued_leads p q k h (λ was. absurd (unmade old p q k l is_dead was))

  pub all_lead : AllGrounded old → (p : ℕ) → mid.live_port p ≡ true → LeadsOn mid p
  all_lead all p live = go (old.live_port p) refl
    where
      go : (b : Bool) → old.live_port p ≡ b → LeadsOn mid p
      go true e = leads p (all p e) live
      go false e = new_port p e (where_is mid owed p m live)

-- ---- the end of the step

module _ (now : ℕ) (old mid : State) (owed : Owed) (new : State) (l : MidLawful mid owed) (s : Settles now old mid owed new) where
  stays : (p : ℕ) (place : Place) → new.live_port p ≡ true → PlaceStays new place → LiesAt mid receive p place → LiesAt new receive p place
  stays p place live is_there lies =
      let a = kept_there now old mid owed new s (is_at receive p place) (λ x t. let e = at_place receive p place x t in (ap new.live_port e.0 ∙ live, subst (PlaceStays new) (sym e.1) is_there)) in
      let b = made_of now old mid owed new s (is_at receive p place) in
      omega (arith, lies, a, b)

  abbrev kept_at : (p notify : ℕ) → Token → Bool
  kept_at p notify x = is_of send_once notify x && same_place (in_request (port_destroyed p)) x.place

  -- it is due to this port that the other is sent away
  abbrev is_sending : (p notify : ℕ) → ℕ × Notice → Bool
  is_sending p notify y = y.0 == notify && is_port_sent p y.1

  due_sending : (p notify : ℕ) → new.live_port p ≡ true → (xs : List (Token × Notice)) → All (λ x. PaysFor mid new x.0 x.1) xs → 0 < count (kept_at p notify) (tokens_of xs) →
      0 < tally (is_sending p notify) (due_notices xs)
  due_sending p notify live [] all some = absurd (omega (arith, some))
  due_sending p notify live (x ∷ xs) all some = go (kept_at p notify x.0) refl (due_sending p notify live xs (All-tail (λ (x : Token × Notice). PaysFor mid new x.0 x.1) x xs all))
    where
      told : kept_at p notify x.0 ≡ true → is_sending p notify (x.0.port, x.1) ≡ true
      told t =
          let e = at_place send_once notify (in_request (port_destroyed p)) x.0 t in
          let pays = All-head (λ (x : Token × Notice). PaysFor mid new x.0 x.1) x xs all in
          let f : x.1 ≡ told_by mid new (port_destroyed p) = subst (λ (y : Place). TellsAt mid new y x.1) e.1 pays.3 in
          let g : told_by mid new (port_destroyed p) ≡ port_sent p = rw live refl in
          let h : is_port_sent p x.1 ≡ true = ap (is_port_sent p) (f ∙ g) ∙ eq-eqb p p refl in
          and_from (x.0.port == notify) (is_port_sent p x.1) (eq-eqb x.0.port notify e.0) h

      go : (b : Bool) → kept_at p notify x.0 ≡ b → (0 < count (kept_at p notify) (tokens_of xs) → 0 < tally (is_sending p notify) (due_notices xs)) → 0 < tally (is_sending p notify) (due_notices (x ∷ xs))
      go true e rest = let f : (if is_sending p notify (x.0.port, x.1) then suc zero else zero) ≡ suc zero = rw (told e) refl in omega (arith, f)
      go false e rest = let z : (if kept_at p notify x.0 then suc zero else zero) ≡ zero = rw e refl in let r = rest (omega (arith, some, z)) in omega (arith, r)

  -- a notice that stands among those posted
  record SendsAway (p notify : ℕ) (xs : List Posted) : Type 0 where
    entry : ℕ
    brings : 0 < count (is_at receive p (in_message notify entry)) (all_posted_tokens xs)

  posted_sending : (p notify : ℕ) (xs : List Posted) → 0 < tally (is_sending p notify) (list_map (λ (x : Posted). (x.port, x.notice)) xs) → SendsAway p notify xs
  posted_sending p notify [] some = absurd (omega (arith, some))
  posted_sending p notify (x ∷ xs) some = go (is_sending p notify (x.port, x.notice)) refl (posted_sending p notify xs)
    where
      brought : (n : Notice) → is_port_sent p n ≡ true → x.port ≡ notify → 0 < count (is_at receive p (in_message notify x.entry)) (carried_by n (in_message x.port x.entry))
      brought (port_sent q) t e =
          let same : q ≡ p = eqb-true q p t in
          let f : is_at receive p (in_message notify x.entry) (token receive q (in_message x.port x.entry)) ≡ true =
          and_from (q == p) (same_place (in_message notify x.entry) (in_message x.port x.entry)) t (and_from (notify == x.port) (x.entry == x.entry) (eq-eqb notify x.port (sym e)) (eq-eqb x.entry x.entry refl)) in
          rw f (omega arith)
      brought n t e = absurd (cc)

      go : (b : Bool) → is_sending p notify (x.port, x.notice) ≡ b → (0 < tally (is_sending p notify) (list_map (λ (x : Posted). (x.port, x.notice)) xs) → SendsAway p notify xs) → SendsAway p notify (x ∷ xs)
      go true e rest = record {
        entry = x.entry;
        brings =
            let b = brought x.notice (right_of (x.port == notify) (is_port_sent p x.notice) e) (eqb-true x.port notify (left_of (x.port == notify) (is_port_sent p x.notice) e)) in
            let test : Token → Bool = is_at receive p (in_message notify x.entry) in
            let a = weigh-append (λ y. if test y then 1 else 0) (posted_tokens x) (all_posted_tokens xs) in
            let c = weigh-append (λ y. if test y then 1 else 0) (token send_once x.port (in_message x.port x.entry) ∷ []) (carried_by x.notice (in_message x.port x.entry)) in
            omega (arith, a, b, c);
      }
      go false e rest =
          let z : (if is_sending p notify (x.port, x.notice) then suc zero else zero) ≡ zero = rw e refl in
          let r = rest (omega (arith, some, z)) in
          record {
            entry = r.entry;
            brings = let a = weigh-append (λ y. if is_at receive p (in_message notify r.entry) y then 1 else 0) (posted_tokens x) (all_posted_tokens xs) in let b = r.brings in omega (arith, a, b);
          }

  -- a port that is sent away is carried by the notice, at a port whose receive right is with a task
  sent_grounded : (p : ℕ) → new.live_port p ≡ true → s.ports.is_sent p ≡ true → IsGrounded new p
  sent_grounded p live is = carried p notify (away.entry, lies) (at_task notify saved.task (stays notify (in_task saved.task) lives tt saved.with_task))
    where
      saved : IsSaved mid p
      saved = (s.ports.sent_only p is).0

      notify : ℕ
      notify = saved.notify

      lives : new.live_port notify ≡ true
      lives = notify_lives now old mid owed new l s p saved

      gone : new.stands (port_destroyed p) ≡ false
      gone = s.requests.ended (port_destroyed p) saved.stands (inr (s.ports.sent_only p is))

      pays : 0 < count (kept_at p notify) (tokens_of s.rights.paying)
      pays =
          let stay = stays_if now old mid owed new s (kept_at p notify) (λ x stays t.
          let e : new.stands (port_destroyed p) ≡ true = subst (PlaceStays new) (at_place send_once notify (in_request (port_destroyed p)) x t).1 stays.1 in let g = gone in cc) in
          let go = goes_if now old mid owed new s (kept_at p notify) (λ x goes t. unpaid x (of_kind send_once notify x (left_of (is_of send_once notify x) (same_place (in_request (port_destroyed p)) x.place) t)) goes) in
          let part = parts now old mid owed new s (kept_at p notify) in
          let some = saved.kept in
          omega (arith, stay, go, part, some)
        where
          unpaid : (x : Token) → (x.kind ≡ send_once) × (x.port ≡ notify) → GoesFrom new x → ⊥
          unpaid x h (inl is_dead) = let f = ap new.live_port h.1 in let g = lives in cc
          unpaid x h (inr g) = g.0 h.0

      away : SendsAway p notify s.notices.posted
      away = posted_sending p notify s.notices.posted (
          let a = due_sending p notify live s.rights.paying s.rights.pay pays in
          let b = ap (tally (is_sending p notify)) s.notices.due in
          let c = tally-map (is_sending p notify) (λ (x : Token × Notice). (x.0.port, x.1)) (s.rights.paying ++ filter (λ x. new.live_port x.0.port) owed) in
          let d = tally-append (λ (x : Token × Notice). is_sending p notify (x.0.port, x.1)) s.rights.paying (filter (λ x. new.live_port x.0.port) owed) in
          let e = tally-map (is_sending p notify) (λ (x : Token × Notice). (x.0.port, x.1)) s.rights.paying in
          omega (arith, a, b, c, d, e))

      lies : LiesAt new receive p (in_message notify away.entry)
      lies =
          let a = made_of now old mid owed new s (is_at receive p (in_message notify away.entry)) in
          let b = away.brings in
          omega (arith, a, b)

  -- Each way that leads on leads to a task after the step.
  pub settled_grounded : (p : ℕ) → LeadsOn mid p → new.live_port p ≡ true → IsGrounded new p
  settled_grounded r (to_task p task lies) live = at_task p task (stays p (in_task task) live tt lies)
  settled_grounded r (to_orphan p o) live = go (s.ports.is_sent p) refl
    where
      go : (b : Bool) → s.ports.is_sent p ≡ b → IsGrounded new p
      go true e = sent_grounded p live e
      go false e = absurd (unsent_saved now old mid owed new l s p live e (inl o))
  settled_grounded r (along p q c next) live = go (new.live_port q) refl (settled_grounded q next)
    where
      was_live : mid.live_port q ≡ true
      was_live = by (mid.live_port q) refl
        where
          by : (b : Bool) → mid.live_port q ≡ b → mid.live_port q ≡ true
          by true e = e
          by false e = absurd (let z = l.gone q c.0 (inr e) receive p in let some = c.1 in omega (arith, z, some))

      is_dead : (b : Bool) → s.ports.is_sent p ≡ b → new.live_port q ≡ false → IsGrounded new p
      is_dead true e gone = sent_grounded p live e
      is_dead false e gone = absurd (unsent_saved now old mid owed new l s p live e (inr (q, s.deaths.only q was_live gone, c)))

      go : (b : Bool) → new.live_port q ≡ b → (new.live_port q ≡ true → IsGrounded new q) → IsGrounded new p
      go true e rest = carried p q (c.0, stays p (in_message q c.0) live e c.1) (rest e)
      go false e rest = is_dead (s.ports.is_sent p) refl e

-- ---- After every step the way from each live port, from carrying port to carrying port, ends at a task. Only a message that is sent brings a
-- receive right into a queue, at its own place, and it closes no loop.

-- ---- how many receive rights lie in a queue

-- no more than before, but at the own place
abbrev Fewer : Place → State → State → Type 0
Fewer own s t = (p q k : ℕ) → same_place own (in_message q k) ≡ false → lying t receive p (in_message q k) ≤ lying s receive p (in_message q k)

fewer_same : (own : Place) (s t : State) → t.ledger ≡ s.ledger → Fewer own s t
fewer_same own s t e p q k far = let f = ap (λ (xs : List Token). count (is_at receive p (in_message q k)) xs) e in omega (arith, f)

fewer_trans : (own : Place) (a b c : State) → Fewer own a b → Fewer own b c → Fewer own a c
fewer_trans own a b c f g p q k far = let x = f p q k far in let y = g p q k far in omega (arith, x, y)

abbrev ComesElsewhere : Place → List Token → Type 0
ComesElsewhere own come = (p q k : ℕ) → same_place own (in_message q k) ≡ false → count (is_at receive p (in_message q k)) come ≡ 0

fewer_moves : (own : Place) (s t : State) (gone come : List Token) → Moves s.ledger t.ledger gone come → ComesElsewhere own come → Fewer own s t
fewer_moves own s t gone come moves none p q k far = grind (arith, is_at)

none_come : (own : Place) → ComesElsewhere own []
none_come own p q k far = refl

one_come : (own : Place) (kind : Kind) (r : ℕ) (place : Place) → ((q k : ℕ) → same_place own (in_message q k) ≡ false → same_place (in_message q k) place ≡ false) →
    ComesElsewhere own (token kind r place ∷ [])
one_come own kind r place apart p q k far = grind (arith, both_test)

far_back : (own : Place) (q k : ℕ) → same_place own (in_message q k) ≡ false → same_place (in_message q k) own ≡ false
far_back (in_task t) q k far = refl
far_back (in_message o j) q k far = let e : (q == o && k == j) ≡ (o == q && j == k) = rw (eq_symm o q, eq_symm j k) refl in e ∙ far
far_back (in_request r) q k far = refl

put_come : (own : Place) (d : Disposition) (target : Target) → ComesElsewhere own (put_by d target own)
put_come own d (Target.port p) = one_come own _ p own (far_back own)
put_come own d (Target.once p) = one_come own _ p own (far_back own)
put_come own d (Target.dead n) = none_come own
put_come own d (Target.set s) = none_come own

task_come : (own : Place) (kind : Kind) (p task : ℕ) → ComesElsewhere own (token kind p (in_task task) ∷ [])
task_come own kind p task = one_come own kind p (in_task task) (λ q k far. refl)

given_come : (own : Place) (kind : Kind) (p task : ℕ) (s : State) → ComesElsewhere own (given_to kind p task s)
given_come own receive p task s = task_come own receive p task
given_come own send_once p task s = task_come own send_once p task
given_come own send p task s = grind (arith, task_come, none_come)

many_come : (own : Place) (n : ℕ) (kind : Kind) (p task : ℕ) → ComesElsewhere own (replicate n (token kind p (in_task task)))
many_come own zero kind p task = none_come own
many_come own (suc n) kind p task = λ r q k far. let a = task_come own kind p task r q k far in let b = many_come own n kind p task r q k far in omega (arith, a, b)

-- ---- copying in

copy_fewer : (task : ℕ) (own : Place) (number name : ℕ) (old : State) (mark : Mark) (new : State) → CopyRight task own number name old mark new → Fewer own old new
copy_fewer task own number name old mark new r = grind (arith, fewer_moves, put_come)

pick : (b : Bool) (P Q R : Type 0) → (P → R) → (Q → R) → MatchBool b P Q → R
pick true P Q R f g h = f h
pick false P Q R f g h = g h

same_fewer : (own : Place) (s t : State) → t ≡ s → Fewer own s t
same_fewer own s t e = fewer_same own s t (ap (λ (x : State). x.ledger) e)

word_fewer : (task : ℕ) (own : Place) (number word : ℕ) (old : State) (mark : Mark) (new : State) → CopyWord task own number word old mark new → Fewer own old new
word_fewer task own number word old mark new = grind (arith, pick, same_fewer, copy_fewer)

reply_fewer : (task : ℕ) (own : Place) (number word : ℕ) (old : State) (reply : ReplyRight) (new : State) → CopyReply task own number word old reply new → Fewer own old new
reply_fewer task own number word old absent new h = same_fewer own old new h.2
reply_fewer task own number word old (present kind mark) new h = word_fewer task own number word old mark new h.1

words_fewer : (task : ℕ) (own : Place) (ws : List (ℕ × ℕ)) (old : State) (rs : List (Kind × Mark)) (new : State) → Through (CopyCarried task own) old ws rs new → Fewer own old new
words_fewer task own [] old [] new h = same_fewer own old new h
words_fewer task own (w ∷ ws) old (r ∷ rs) new h = fewer_trans own old h.0 new (word_fewer task own w.0 w.1 old r.1 h.0 h.1) (words_fewer task own ws h.0 rs new h.2)
words_fewer task own [] old (r ∷ rs) new h = absurd h
words_fewer task own (w ∷ ws) old [] new h = absurd h

body_fewer : (task : ℕ) (own : Place) (written : WireBody) (old : State) (body : Body) (new : State) → CopyBody task own written old body new → Fewer own old new
body_fewer task own written old body new h = words_fewer task own (body_words written) old (body_rights body) new h.1

-- ---- copying out

give_fewer : (own : Place) (task : ℕ) (place : Place) (kind : Kind) (p : ℕ) (old : State) (name : ℕ) (new : State) → GiveRight task place kind p old name new → Fewer own old new
give_fewer own task place kind p old name new g = fewer_moves own old new (token kind p place ∷ []) (given_to kind p task old) g.tokens (given_come own kind p task old)

mark_given : (own : Place) (task : ℕ) (place : Place) (kind : Kind) (mark : Mark) (old : State) (word : ℕ) (new : State) → GiveMark task place kind mark old word new → Fewer own old new
mark_given own task place kind null old word new h = same_fewer own old new h.1
mark_given own task place kind dead old word new h = same_fewer own old new h.1
mark_given own task place kind (to_port p) old word new h = grind (arith, pick, give_fewer, same_fewer)

words_given : (own : Place) (task : ℕ) (place : Place) (ws : List (ℕ × ℕ)) (old : State) (rs : List (Kind × Mark)) (new : State) → Through (GiveWord task place) old ws rs new → Fewer own old new
words_given own task place [] old [] new h = same_fewer own old new h
words_given own task place (w ∷ ws) old (r ∷ rs) new h = grind (arith, words_given own task place ws h.0 rs new h.2, fewer_trans, mark_given)
words_given own task place [] old (r ∷ rs) new h = absurd h
words_given own task place (w ∷ ws) old [] new h = absurd h

-- ---- what each event may do, but for a send

module _ (own : Place) where
  one_lost : (task name : ℕ) (d : Disposition) (target : Target) (old mid : State) → LosesOne task name d target old mid → Fewer own old mid
  one_lost task name d target old mid x = fewer_moves own old mid (taken_by d target task) [] x.tokens (none_come own)

  ledger_of : (old mid changed : State) → mid ≡ changed → changed.ledger ≡ old.ledger → Fewer own old mid
  ledger_of old mid changed e f = fewer_same own old mid (ap (λ (x : State). x.ledger) e ∙ f)

  makes_fewer : (task right name : ℕ) (old mid : State) → Makes task right name old mid → Fewer own old mid
  makes_fewer task right name old mid (inl x) = grind (arith, fewer_moves, task_come)
  makes_fewer task right name old mid (inr (inl x)) = ledger_of old mid _ x.1 refl
  makes_fewer task right name old mid (inr (inr x)) = ledger_of old mid _ x.1 refl

  deallocates_fewer : (task name : ℕ) (old mid : State) (owed : Owed) → Deallocates task name old mid owed → Fewer own old mid
  deallocates_fewer task name old mid owed (inl x) = one_lost task name _ _ old mid x.1
  deallocates_fewer task name old mid owed (inr (inl x)) = one_lost task name _ _ old mid x.1
  deallocates_fewer task name old mid owed (inr (inr x)) = one_lost task name _ _ old mid x.1

  target_fewer : (task name : ℕ) (target : Target) (old mid : State) (owed : Owed) → DestroysTarget task name target old mid owed → Fewer own old mid
  target_fewer task name (Target.port p) old mid owed x = fewer_moves own old mid x.0.gone [] x.0.moves (none_come own)
  target_fewer task name (Target.once p) old mid owed x = one_lost task name _ _ old mid x.0
  target_fewer task name (Target.dead n) old mid owed x = ledger_of old mid _ x.0 refl
  target_fewer task name (Target.set s) old mid owed x = ledger_of old mid _ x.0 refl

  with_dead_ledger : (task name n : ℕ) (s : State) → (with_dead task name n s).ledger ≡ s.ledger
  with_dead_ledger task name n s = grind arith

  removes_fewer : (right task name : ℕ) (target : Target) (old mid : State) (owed : Owed) → RemovesRight right task name target old mid owed → Fewer own old mid
  removes_fewer right task name (Target.port p) old mid owed x = fewer_moves own old mid (token receive p (in_task task) ∷ []) [] x.1.0 (none_come own)
  removes_fewer right task name (Target.once p) old mid owed x = target_fewer task name (Target.once p) old mid owed x.1
  removes_fewer right task name (Target.set s) old mid owed x = target_fewer task name (Target.set s) old mid owed x.1
  removes_fewer right task name (Target.dead n) old mid owed x = absurd x

  modifies_fewer : (task name right : ℕ) (delta : ℤ) (old mid : State) (owed : Owed) → Modifies task name right delta old mid owed → Fewer own old mid
  modifies_fewer task name right delta old mid owed (inl x) = grind (arith, fewer_moves, many_come)
  modifies_fewer task name right delta old mid owed (inr (inl x)) = ledger_of old mid _ x.5 (with_dead_ledger task name x.1 old)
  modifies_fewer task name right delta old mid owed (inr (inr (inl x))) = ledger_of old mid old x.2 refl
  modifies_fewer task name right delta old mid owed (inr (inr (inr x))) = removes_fewer right task name x.0 old mid owed x.3

  renamed_same : (task o n q k : ℕ) (place : Place) → same_place (in_message q k) (renamed_place task o n place) ≡ same_place (in_message q k) place
  renamed_same task o n q k (in_task t) = refl
  renamed_same task o n q k (in_message r j) = refl
  renamed_same task o n q k (in_request r) = grind arith

  renames_fewer : (task o n : ℕ) (old mid : State) → Renames task o n old mid → Fewer own old mid
  renames_fewer task o n old mid x p q k far = grind (arith, is_at, weigh-le, renamed_same)

  ports_fewer : (task name : ℕ) (change : ℕ → State) (old mid : State) → ((p : ℕ) → (change p).ledger ≡ old.ledger) → ChangesPort old task name change mid → Fewer own old mid
  ports_fewer task name change old mid same x = ledger_of old mid (change x.0) x.3 (same x.0)

  joins_fewer : (task member after : ℕ) (old mid : State) → JoinsSet task member after old mid → Fewer own old mid
  joins_fewer task member after old mid (p, found, inl x) = ledger_of old mid _ x.1 refl
  joins_fewer task member after old mid (p, found, inr x) = ledger_of old mid _ x.2 refl

  takes_fewer : (port : ℕ) (e : Entry) (old mid : State) → Takes port e old mid → Fewer own old mid
  takes_fewer port e old mid x = fewer_moves own old mid (token e.message.kind port (in_message port (old.taken port)) ∷ []) [] x.tokens (none_come own)

  ends_fewer : (task : ℕ) (old mid : State) (owed : Owed) → EndsTask task old mid owed → Fewer own old mid
  ends_fewer task old mid owed x = fewer_moves own old mid x.loses.gone [] x.loses.moves (none_come own)

  front_fewer : (port : ℕ) (e : Entry) (old mid : State) (owed : Owed) → DestroysFront port e old mid owed → Fewer own old mid
  front_fewer port e old mid owed x = grind (arith, fewer_trans, takes_fewer, fewer_moves, none_come)

  receives_fewer : (task port room : ℕ) (bytes : List ℕ) (old mid : State) → Receives task port room bytes old mid → Fewer own old mid
  receives_fewer task port room bytes old mid x = grind (arith, fewer_trans, takes_fewer, words_given)

  receipt_fewer : (old : State) (task : ℕ) (waited : Waited) (room : ℕ) (large : Bool) (reply : Reply) (mid : State) (owed : Owed) → Receipt old task waited room large reply mid owed → Fewer own old mid
  receipt_fewer old task waited room large (Reply.Message bytes) mid owed x = receives_fewer task x.0 room bytes old mid x.2
  receipt_fewer old task waited room large (Reply.Empty told) mid owed x = same_fewer own old mid x.2
  receipt_fewer old task waited room large (Reply.TooLarge n) mid owed x = grind (arith, pick, same_fewer, front_fewer)
  receipt_fewer old task waited room large reply mid owed x = absurd x

inserts_fewer : (task name from poly number : ℕ) (old mid : State) → Inserts task name from poly number old mid → Fewer (in_task task) old mid
inserts_fewer task name from poly number old mid x = grind (arith, fewer_trans, copy_fewer, same_fewer)

extracts_fewer : (task name number to new_name kind : ℕ) (old mid : State) → Extracts task name number to new_name kind old mid → Fewer (in_task to) old mid
extracts_fewer task name number to new_name kind old mid x = grind (arith, fewer_trans, copy_fewer, fewer_moves, none_come)

back_fewer : (own : Place) (task : ℕ) (request : Request) (before old : State) (name : ℕ) (new : State) → GivesBack task request before old name new → Fewer own old new
back_fewer own task request before old name new (inl x) = same_fewer own old new x.2
back_fewer own task request before old name new (inr (inl x)) = ledger_of own old new _ x.3 refl
back_fewer own task request before old name new (inr (inr x)) = grind (arith, fewer_moves, task_come)

keeps_fewer : (own : Place) (task name sync : ℕ) (request : Request) (q : ℕ) (old mid : State) (owed : Owed) → Keeps task name sync request q old mid owed → Fewer own old mid
keeps_fewer own task name sync request q old mid owed (inl x) = fewer_moves own old mid (token send_once q (in_request request) ∷ []) [] x.3 (none_come own)
keeps_fewer own task name sync request q old mid owed (inr (inl x)) = fewer_moves own old mid (token send_once q (in_request request) ∷ []) [] x.3 (none_come own)
keeps_fewer own task name sync request q old mid owed (inr (inr x)) = ledger_of own old mid _ x.2 refl

requests_fewer : (task name variant sync notify number previous : ℕ) (old mid : State) (owed : Owed) → Requests task name variant sync notify number previous old mid owed → Fewer (in_task 0) old mid
requests_fewer task name variant sync notify number previous old mid owed x = go x.copy
  where
    own : Place
    own = in_request x.request

    back : Fewer own x.copied x.back
    back = back_fewer own task x.request old x.copied previous x.back x.given_back

    go : (notify ≡ null_word) × (x.copied ≡ old) × (mid ≡ x.back) × (owed ≡ [])
        ⊎ (notify ≢ null_word) × ((q : ℕ) × CopyRight task (in_request x.request) number notify old (to_port q) x.copied × Keeps task name sync x.request q x.back mid owed) → Fewer (in_task 0) old mid
    go (inl h) = fewer_trans own old x.copied mid (same_fewer own old x.copied h.1) (fewer_trans own x.copied x.back mid back (same_fewer own x.back mid h.2))
    go (inr h) = fewer_trans own old x.copied mid (copy_fewer task own number notify old (to_port h.1.0) x.copied h.1.1)
        (fewer_trans own x.copied x.back mid back (keeps_fewer own task name sync x.request h.1.0 x.back mid owed h.1.2))

-- ---- a send

reaches_more : (s : State) (a b c : ℕ) → Reaches s a b → CarriedAt s b c → Reaches s a c
reaches_more s r t c (here p) d = there p c c d (here c)
reaches_more s r t c (there p q b e rest) d = there p q c e (reaches_more s q b c rest d)

reaches_over : (s t : State) → s.ledger ≡ t.ledger → (a b : ℕ) → Reaches s a b → Reaches t a b
reaches_over s t same r u (here p) = here p
reaches_over s t same r u (there p q b c rest) =
    there p q b (c.0, subst (λ (xs : List Token). 0 < count (is_at receive p (in_message q c.0)) xs) same c.1) (reaches_over s t same q b rest)

module _ (d e : ℕ) (old mid : State) (owed : Owed) (l : IsLawful old) (m : MidLawful mid owed) (none : NoneQueued (in_message d e) old mid)
    (loop : (x : ℕ) → LiesAt mid receive x (in_message d e) → Reaches mid d x → ⊥) where
  go_on : (x : ℕ) → Reaches mid d x → Where mid x → ((q k : ℕ) → LiesAt old receive x (in_message q k) → LiesAt mid receive x (in_message q k) → LeadsOn mid x) → LeadsOn mid x
  go_on x reach (with_task u h) far = to_task x u h
  go_on x reach (nowhere o) far = to_orphan x o
  go_on x reach (queued q k h) far = grind (arith, place_is)

  way : (x : ℕ) → IsGrounded old x → mid.live_port x ≡ true → Reaches mid d x → LeadsOn mid x
  way r (at_task x t lies) live reach = go_on x reach (where_is mid owed x m live) (λ q k was h. absurd (not_both old x t q k l lies was))
  way r (carried x q c g) live reach = go_on x reach (where_is mid owed x m live) (λ u k was h.
      let same : q ≡ u = same_queue old x q u l c (k, was) in
      let at : CarriedAt mid x q = subst (CarriedAt mid x) (sym same) (k, h) in
      along x q at (way q g (queue_lives mid owed x q at.0 m at.1) (reaches_more mid d x q reach at)))

  destination_leads : AllGrounded old → mid.live_port d ≡ true → LeadsOn mid d
  destination_leads all live = by (old.live_port d) refl
    where
      by : (b : Bool) → old.live_port d ≡ b → LeadsOn mid d
      by true was = way d (all d was) live (here d)
      by false gone = go_on d (here d) (where_is mid owed d m live) (λ q k was h. absurd (unmade old d q k l gone was))

  sent_mine : AllGrounded old → OwnLeads (in_message d e) mid
  sent_mine all p q k t lies = grind (arith, place_is, destination_leads, queue_lives)

  sent_leads : AllGrounded old → (p : ℕ) → mid.live_port p ≡ true → LeadsOn mid p
  sent_leads all = all_lead (in_message d e) old mid owed l m none (sent_mine all) all

sends_lead : (now task : ℕ) (bytes : List ℕ) (old mid : State) (owed : Owed) → IsLawful old → MidLawful mid owed → (x : Sends now task bytes old mid) →
    NoneHolds (sent_guards x.m (place_at old x.m.destination) x.copied_state) → AllGrounded old → (p : ℕ) → mid.live_port p ≡ true → LeadsOn mid p
sends_lead now task bytes old mid owed l m x unrefused = sent_leads x.m.destination (length (old.log x.m.destination)) old mid owed l m
    (λ p q k far lies. let f = fewer p q k far in omega (arith, f, lies)) loop
  where
    own : Place
    own = place_at old x.m.destination

    same : mid.ledger ≡ x.copied_state.ledger
    same = ap (λ (s : State). s.ledger) x.rest

    fewer : Fewer own old mid
    fewer = fewer_trans own old x.copied.first mid (copy_fewer task own x.header.remote_kind x.header.remote old (to_port x.m.destination) x.copied.first x.copied.destination)
        (fewer_trans own x.copied.first x.copied.second mid (reply_fewer task own x.header.local_kind x.header.local x.copied.first x.m.reply x.copied.second x.copied.reply)
        (fewer_trans own x.copied.second x.copied_state mid (body_fewer task own x.written x.copied.second x.m.body x.copied_state x.copied.body)
        (fewer_same own x.copied_state mid same)))

    loop : (y : ℕ) → LiesAt mid receive y own → Reaches mid x.m.destination y → ⊥
    loop y lies reach = unrefused.0 (y, subst (λ (xs : List Token). 0 < count (is_at receive y own) xs) same lies, reaches_over mid x.copied_state same x.m.destination y reach)

-- ---- all events

fewer_leads : (old mid : State) (owed : Owed) → IsLawful old → MidLawful mid owed → Fewer (in_task 0) old mid → AllGrounded old → (p : ℕ) → mid.live_port p ≡ true → LeadsOn mid p
fewer_leads old mid owed l m fewer = all_lead (in_task 0) old mid owed l m (λ p q k far lies. let f = fewer p q k far in omega (arith, f, lies)) (λ p q k t lies. absurd (cc))

does_lead : (now : ℕ) (old : State) (event : Event) (reply : Reply) (mid : State) (owed : Owed) → (does : Does now old event reply mid owed) → Judged now old event reply mid owed does →
    IsLawful old → MidLawful mid owed → AllGrounded old →
    (p : ℕ) → mid.live_port p ≡ true → LeadsOn mid p
does_lead now old Event.TaskCreate (Reply.Task task) mid owed d j l m = fewer_leads old mid owed l m (ledger_of (in_task 0) old mid _ d.0.rest refl)
does_lead now old (Event.TaskTerminate task) (Reply.Code code) mid owed d j l m = fewer_leads old mid owed l m (ends_fewer (in_task 0) task old mid owed d.1)
does_lead now old (Event.Allocate task right) (Reply.Name name) mid owed d j l m = fewer_leads old mid owed l m (makes_fewer (in_task 0) task right name (gives task name old) mid d.1)
does_lead now old (Event.AllocateName task right name) (Reply.Name told) mid owed d j l m = fewer_leads old mid owed l m (makes_fewer (in_task 0) task right name old mid d.1)
does_lead now old (Event.Deallocate task name) (Reply.Code code) mid owed d j l m = fewer_leads old mid owed l m (deallocates_fewer (in_task 0) task name old mid owed d.1)
does_lead now old (Event.Destroy task name) (Reply.Code code) mid owed d j l m = fewer_leads old mid owed l m (target_fewer (in_task 0) task name d.1.0 old mid owed d.1.2)
does_lead now old (Event.ModRefs task name right delta) (Reply.Code code) mid owed d j l m = fewer_leads old mid owed l m (modifies_fewer (in_task 0) task name right delta old mid owed d.1)
does_lead now old (Event.GetRefs task name right) (Reply.Refs n) mid owed d j l m = fewer_leads old mid owed l m (same_fewer (in_task 0) old mid d.0)
does_lead now old (Event.NameType task name) (Reply.NameType n) mid owed d j l m = fewer_leads old mid owed l m (same_fewer (in_task 0) old mid d.0)
does_lead now old (Event.Names task) (Reply.Names entries) mid owed d j l m = fewer_leads old mid owed l m (same_fewer (in_task 0) old mid d.0)
does_lead now old (Event.Rename task o n) (Reply.Code code) mid owed d j l m = fewer_leads old mid owed l m (renames_fewer (in_task 0) task o n old mid d.1)
does_lead now old (Event.ReceiveStatus task name) (Reply.Status status) mid owed d j l m = fewer_leads old mid owed l m (same_fewer (in_task 0) old mid d.0)
does_lead now old (Event.SetQlimit task name n) (Reply.Code code) mid owed d j l m = fewer_leads old mid owed l m (ports_fewer (in_task 0) task name _ old mid (λ p. refl) d.1)
does_lead now old (Event.SetMscount task name n) (Reply.Code code) mid owed d j l m = fewer_leads old mid owed l m (ports_fewer (in_task 0) task name _ old mid (λ p. refl) d.2)
does_lead now old (Event.SetSeqno task name n) (Reply.Code code) mid owed d j l m = fewer_leads old mid owed l m (ports_fewer (in_task 0) task name _ old mid (λ p. refl) d.2)
does_lead now old (Event.SetStatus task name) (Reply.Members members) mid owed d j l m = fewer_leads old mid owed l m (same_fewer (in_task 0) old mid d.0)
does_lead now old (Event.MoveMember task member after) (Reply.Code code) mid owed d j l m = fewer_leads old mid owed l m (joins_fewer (in_task 0) task member after old mid d.1)
does_lead now old (Event.InsertMember task member set) (Reply.Code code) mid owed d j l m = fewer_leads old mid owed l m (ledger_of (in_task 0) old mid _ d.1.rest refl)
does_lead now old (Event.ExtractMember task member set) (Reply.Code code) mid owed d j l m = fewer_leads old mid owed l m (ledger_of (in_task 0) old mid _ d.1.rest refl)
does_lead now old (Event.InsertRight task name from poly number) (Reply.Code code) mid owed d j l m = fewer_leads old mid owed l m (inserts_fewer task name from poly number old mid d.1)
does_lead now old (Event.ExtractRight task name number to) (Reply.Right new_name kind) mid owed d j l m = fewer_leads old mid owed l m (extracts_fewer task name number to new_name kind old mid d.0)
does_lead now old (Event.RequestNotification task name variant sync notify number) (Reply.Previous previous) mid owed d j l m =
    fewer_leads old mid owed l m (requests_fewer task name variant sync notify number previous old mid owed d)
does_lead now old (Event.Send task bytes) (Reply.Code code) mid owed d j l m = sends_lead now task bytes old mid owed l m d.1 j
does_lead now old (Event.Receive task name room large) reply mid owed d j l m = fewer_leads old mid owed l m (receipt_fewer (in_task 0) old task d.0 room large reply mid owed d.2)
does_lead now old (Event.ReceiveAgain task waited room large) reply mid owed d j l m = fewer_leads old mid owed l m (receipt_fewer (in_task 0) old task waited room large reply mid owed d)
does_lead now old event reply mid owed d j l m = absurd d

pub Step-grounded : (now : ℕ) (old : State) (event : Event) (reply : Reply) (new : State) → Step now old event reply new → IsLawful old → AllGrounded old → AllGrounded new
Step-grounded now old event reply new (inl r) l all = subst AllGrounded (sym r.same) all
Step-grounded now old event reply new (inr d) l all = λ p live.
    let m = Does-mid now old event reply d.mid d.owed d.unrefused d.does d.judged l in
    settled_grounded now old d.mid d.owed new m d.settles p (does_lead now old event reply d.mid d.owed d.does d.judged l m all p (live_mid now old d.mid d.owed new d.settles p live)) live

RunFrom-grounded : (now : ℕ) (old : State) (events : List Event) (replies : List Reply) (new : State) → RunFrom now old events replies new → IsLawful old → AllGrounded old → AllGrounded new
RunFrom-grounded now old [] [] new r l all = subst AllGrounded (sym r) all
RunFrom-grounded now old (e ∷ es) (x ∷ xs) new r l all =
    RunFrom-grounded (now + 1) r.0 es xs new r.2 (Step-lawful now old e x r.0 r.1 l) (Step-grounded now old e x r.0 r.1 l all)
RunFrom-grounded now old [] (x ∷ xs) new r l all = absurd r
RunFrom-grounded now old (e ∷ es) [] new r l all = absurd r

-- After every run the way from each live port ends at a task.
pub Run-grounded : (profile : Profile) (events : List Event) (replies : List Reply) (s : State) → RunIn profile events replies s → AllGrounded s
Run-grounded profile events replies s r = RunFrom-grounded 0 (opening_in profile) events replies s r (opening-lawful profile) (λ p live. absurd (cc))
