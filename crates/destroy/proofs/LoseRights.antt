-- The rights of a destroyed message are lost one after the other.
use Rattle.std.proofs.Common.{◌≡◌, ℕ, ◌<◌, ◌≤◌, List, [], ◌∷◌, ◌++◌, Option, Some, None, refl, sym, ap, subst, ◌∙◌, true, false, Bool, inl, inr, get_or, zero, suc, ◌+◌, ◌-◌, arith, length, ◌⊎◌, length-append, drop}
use Rattle.std.specs.Prelude.{◌≢◌, ◌&&◌, not, is_some, slice_get, All, Contains, if◌then◌else◌, ◌==◌, reverse, filter, ◌^◌, min}
use Rattle.std.proofs.lemmas.Bool.Decides.{eqb_tells}
use Rattle.std.proofs.lemmas.List.Elements.{Contains-append_right, Contains-append_left}
use Rattle.std.proofs.lemmas.Bool.{eq-eqb, ne_eqb}
use Rattle.std.proofs.lemmas.List.{append-nil, reverse-append, append_assoc, at_drop_more, at_drop_all}
use Rattle.mach_types.specs.Tokens.{Token, in_message, weigh, Kind, receive, send, send_once, Request, Place, in_request, token, count, is_of, is_held, same_kind}
use Rattle.mach_types.specs.Messages.{Entry, to_port, Mark as MachineMark}
use Rattle.mach_types.specs.Numbers.{kind_sent}
use Rattle.mach_types.specs.declared.rights.Disposition.TheVariants.{MoveReceive}
use Rattle.mach_model.specs.State.{State}
use Rattle.mach_model.specs.Notices.{Owed, right_unused}
use Rattle.mach_model.specs.Turns.{Ending, listed, lives_after, IsReached, turns, Loses}
use Rattle.mach_model.proofs.TurnsCounted.{reached_counted, reached_sound}
use Rattle.mach_model.proofs.TurnsMade.{all_fewer, without, without_weigh}
use Rattle.mach_model.proofs.Names.{left_of, both_test, count_le, length-weigh, elsewhere, weigh-append}
use Rattle.mach_model.specs.Death.{same_place}
use Rattle.mach_model.specs.Carried.{lying_among, mark_count, rights_count}
use Rattle.mach_model.specs.Unused.{onces_queued}
use Rattle.mach_model.proofs.Settling.{place_refl}
use Rattle.mach_model.proofs.TurnsSettle.{tokens_joined_settle as tokens_joined}
use Rattle.rights.specs.Ledger.{counts_of, taken}
use Rattle.rights.specs.declared.Counts.{Counts}
use Rattle.rights.specs.declared.RightKind.TheVariants as right
use Rattle.rights.specs.Counts.{with_fewer}
use Rattle.port.specs.declared.Holder.{Holder}
use Rattle.port.specs.declared.Holder.TheVariants as holder
use Rattle.port.specs.Ports.{PortView}
use Rattle.copyin_base.specs.Changes.{IsSenderless}
use Rattle.copyin_base.specs.declared.Notice.{Notice}
use Rattle.copyin_base.specs.Kept.{Kept, mark_of}
use Rattle.copyin_base.specs.Worlds.{WorldView, port_at}
use Rattle.copyin_base.proofs.Putting.{put_own, put_other}
use Rattle.copyin_base.specs.declared.Carried.{Carried}
use Rattle.copyin_base.specs.declared.Mark.{Mark}
use Rattle.copyin_base.specs.declared.Mark.TheVariants as mark
use Rattle.copyin_base.specs.declared.Notice.TheVariants.{SendOnce, PortDeleted, PortDestroyed, NoSenders, DeadName}
use Rattle.copyin_base.specs.Requests.{notify_of}
use Rattle.copyin_base.specs.Shows.{CountsAgree}
use Rattle.copyin_base.proofs.Counting.{right_taken, queues_same}
use Rattle.copyin_base.proofs.Listed.{none_listed}
use Rattle.copyin_base.proofs.Requesting.{requests_stay}
use Rattle.copyin_base.proofs.SendersNoted.{counts_own, counts_other, sends_elsewhere, sends_shifted}
use Rattle.copyin_base.specs.Queued.{notice_kept}
use Rattle.notifications.specs.SoFar.{AreEntries, AwaitLoss}
use Rattle.notifications.proofs.NoticePosted.{pays_from, filter_weigh}
use Rattle.copyin_base.specs.Losing.{CanPost}
use Rattle.destroy.specs.Between.{Between, IsUnlost}
use Rattle.destroy.specs.Paying.{LivesIn}
use Rattle.destroy.specs.Stages.{IsEmptied, SameSlots, IsCount}
use Rattle.destroy.proofs.LoseCounts.{alone_lives, left_within, can_pay}
use Rattle.destroy.proofs.LoseFrames.{same_ports, framed_stays, SameShape, with_notice, Goes, SameReceives, holders_stay, rekept, loose_posted}
use Rattle.destroy.specs.Losing.{Loose, Amid, CanLoseOf, CanLoseMark, CanLose, IsLosing, LosesOf, LosesMark, LosesRight, LosesTo, carried_in, rights_of}
use Rattle.destroy.proofs.Counting.{count_none, count_one, count_joined}

-- the tables with a send right of the port gone
abbrev without_send : WorldView → (port : ℕ) → WorldView
without_send w port = record w { ledger = taken w.ledger port right.Send 1 }

-- ---- What is so between turns: which ports live in the tables, which messages wait, and what a turn keeps of both.

abbrev pub loose_of : (now : ℕ) (tables : WorldView) (old mid : State) (owed : Owed) (e : Ending) (w : WorldView) → Between now tables old mid owed e w → Loose now tables old mid owed e w
loose_of now tables old mid owed e w b = record {
  lawful = b.lawful;
  reached = b.reached;
  state = b.tied.state;
  so_far = b.tied.so_far;
  agrees = b.tied.agrees;
  holders = b.tied.holders;
  slots = b.tied.slots;
  framed = record { held = b.held; carriers = b.carriers; requested = b.requested; went = b.went; unjudged = b.unjudged; doomed = b.doomed; lost = b.lost };
  senders = b.senders;
  receivers = b.receivers;
  had_senders = b.had_senders;
  emptied = b.emptied;
}

-- With the messages that wait and the ports that were noted that is all.
pub between_of : (now : ℕ) (tables : WorldView) (old mid : State) (owed : Owed) (f : Ending) (u : WorldView) (l : Loose now tables old mid owed f u) (waits : AwaitLoss u.ports.destroyed f l.state) →
    ((p : ℕ) → lives_after mid f p ≡ true → 0 < (counts_of tables.ledger p).send → IsSenderless u p → Contains u.ports.noted p) → ((p : ℕ) → Contains u.ports.noted p → 0 < (counts_of tables.ledger p).send) →
    IsUnlost f waits.emptied → Between now tables old mid owed f u
between_of now tables old mid owed f u l waits noted had unlost = record {
  lawful = l.lawful;
  reached = l.reached;
  tied = record { state = l.state; so_far = l.so_far; agrees = l.agrees; holders = l.holders; slots = l.slots; waiting = waits };
  held = l.framed.held;
  carriers = l.framed.carriers;
  requested = l.framed.requested;
  went = l.framed.went;
  unjudged = l.framed.unjudged;
  doomed = l.framed.doomed;
  lost = l.framed.lost;
  had_senders = l.had_senders;
  emptied = l.emptied;
  senders = l.senders;
  noted = noted;
  had = had;
  receivers = l.receivers;
  unlost = unlost;
}

-- It doesn't matter which ports are noted, how many slots are spare, and which messages wait.
abbrev pub loose_noted : (now : ℕ) (tables : WorldView) (old mid : State) (owed : Owed) (e : Ending) (w : WorldView) → Loose now tables old mid owed e w → (noted : List ℕ) (spare : ℕ) (destroyed : List Kept) →
    w.ledger.unused ≤ spare → Loose now tables old mid owed e (record w { ports = record w.ports { noted = noted; spare = spare; destroyed = destroyed } })
loose_noted now tables old mid owed e w l noted spare destroyed enough = record {
  lawful = l.lawful;
  reached = l.reached;
  state = l.state;
  so_far = l.so_far;
  agrees = let a = l.agrees in assumption (a);
  holders = l.holders;
  slots = enough;
  framed = framed_stays w _ (same_ports w _ refl refl refl refl (λ p h. h) refl) mid e e refl refl refl l.framed;
  senders = l.senders;
  receivers = l.receivers;
  had_senders = l.had_senders;
  emptied = l.emptied;
}

-- ---- ports that live

undoomed_of : (a b : Bool) → (a && not b) ≡ true → b ≡ false
undoomed_of true true e = absurd (cc)
undoomed_of true false e = refl
undoomed_of false b e = absurd (cc)

pub undoomed : (mid : State) (e : Ending) (q : ℕ) → lives_after mid e q ≡ true → listed e.doomed q ≡ false
undoomed mid e q h = undoomed_of (mid.live_port q) (listed e.doomed q) h

pub live_mid : (mid : State) (e : Ending) (q : ℕ) → lives_after mid e q ≡ true → mid.live_port q ≡ true
live_mid mid e q h = left_of (mid.live_port q) (not (listed e.doomed q)) h

some_view : (o : Option (PortView Kept)) → is_some o ≡ true → (v : PortView Kept) × (o ≡ Some v)
some_view (Some v) e = (v, refl)
some_view None e = absurd (cc)

module _ (now : ℕ) (tables : WorldView) (old mid : State) (owed : Owed) (e : Ending) (w : WorldView) (l : Loose now tables old mid owed e w) where
  pub lives_is : (q : ℕ) → LivesIn w q → lives_after mid e q ≡ true
  lives_is q h = go (mid.live_port q) (listed e.doomed q) (listed e.buried q) (sym (l.so_far.live_port q) ∙ sym (l.agrees.live_port q) ∙ ap is_some h.there) (λ is. h.undoomed ((l.framed.doomed q h.v h.there).1 is))
    where
      go : (a b c : Bool) → (a && not c) ≡ true → (b ≡ true → ⊥) → (a && not b) ≡ true
      go true true c x none = absurd (none refl)
      go true false c x none = refl
      go false b c x none = absurd (cc)

  pub lives_there : (q : ℕ) → lives_after mid e q ≡ true → LivesIn w q
  lives_there q h =
      let v = some_view (port_at w q) (l.agrees.live_port q ∙ l.so_far.live_port q ∙ alone_lives old mid owed e l.reached q h) in
      record { v = v.0; there = v.1; undoomed = λ is. let a = (l.framed.doomed q v.0 v.1).0 is in let b = undoomed mid e q h in cc }

-- ---- messages that wait

pub are_longer : (s s2 : State) → ((q k : ℕ) (x : Entry) → slice_get (s.log q) k ≡ Some x → slice_get (s2.log q) k ≡ Some x) → (ms : List Kept) (xs : List (ℕ × ℕ)) → AreEntries s ms xs → AreEntries s2 ms xs
are_longer s s2 stay [] [] h = h
are_longer s s2 stay (m ∷ ms) (x ∷ xs) h = ((h.0.0, stay x.0 x.1 h.0.0 h.0.1, h.0.2), are_longer s s2 stay ms xs h.1)
are_longer s s2 stay [] (x ∷ xs) h = absurd h
are_longer s s2 stay (m ∷ ms) [] h = absurd h

-- its rights are lost, but for those for doomed ports
abbrev pub IsLost : (doomed : List ℕ) → (left : List Token) → ℕ × ℕ → Type 0
IsLost doomed left m = All (λ (x : Token). x.place ≡ in_message m.0 m.1 → listed doomed x.port ≡ true) left

pub lost_fewer : (doomed : List ℕ) (left left2 : List Token) → ((h : Token → ℕ) → weigh h left2 ≤ weigh h left) → (ms : List (ℕ × ℕ)) → All (IsLost doomed left) ms → All (IsLost doomed left2) ms
lost_fewer doomed left left2 fewer ms all = λ k d below. all_fewer (λ (x : Token). x.place ≡ in_message (get_or ms k d).0 (get_or ms k d).1 → listed doomed x.port ≡ true) left2 left fewer (all k d below)

abbrev pub awaits_on : (messages : List Kept) (e f : Ending) (s s2 : State) → f.destroyed ≡ e.destroyed → f.doomed ≡ e.doomed → ((h : Token → ℕ) → weigh h f.left ≤ weigh h e.left) →
    ((q k : ℕ) (x : Entry) → slice_get (s.log q) k ≡ Some x → slice_get (s2.log q) k ≡ Some x) → AwaitLoss messages e s → AwaitLoss messages f s2
awaits_on messages e f s s2 destroyed doomed fewer stay a = record {
  waiting = a.waiting;
  emptied = a.emptied;
  parts = destroyed ∙ a.parts;
  are = are_longer s s2 stay messages a.waiting a.are;
  lost = lost_fewer f.doomed e.left f.left fewer a.emptied (subst (λ (ps : List ℕ). All (IsLost ps e.left) a.emptied) (sym doomed) a.lost);
}

-- a message whose rights are lost was a doomed port's
pub not_emptied : (old mid : State) (owed : Owed) (e : Ending) → IsReached old mid owed e → (front emptied : List (ℕ × ℕ)) → e.destroyed ≡ front ++ emptied → (q k : ℕ) → listed e.doomed q ≡ false → ¬ (Contains emptied (q, k))
not_emptied old mid owed e reached front emptied parts q k undoomed c = go (subst (λ (ms : List (ℕ × ℕ)). Contains ms (q, k)) (sym parts) (Contains-append_right front emptied (q, k) c))
  where
    go : Contains e.destroyed (q, k) → ⊥
    go (i, below, is) =
        let a = (reached_counted old mid owed e reached).destroyed i (q, k) below in
        let b : listed e.doomed q ≡ true = ap (λ (m : ℕ × ℕ). listed e.doomed m.0) (sym is) ∙ a.0 in cc

-- ---- queues of doomed ports

pub emptied_posted : (w : WorldView) (p : ℕ) (v : PortView Kept) (notice : Notice) → port_at w p ≡ Some v → v.attributes.holder ≢ holder.Doomed → IsEmptied w → IsEmptied (with_notice w p v notice)
emptied_posted w p v notice there undoomed empty q u is doomed = elim (eqb_tells q p) [
  | inl same ↦ absurd (undoomed (own (sym (put_own w.ports.ports p (Some _)) ∙ subst (λ (k : ℕ). port_at (with_notice w p v notice) k ≡ Some u) same.1 is) doomed))
  | inr not ↦ empty q u (sym (put_other w.ports.ports p (Some _) q not.1) ∙ is) doomed
]
  where
    own : {x : PortView Kept} → Some x ≡ Some u → u.attributes.holder ≡ holder.Doomed → x.attributes.holder ≡ holder.Doomed
    own {x} e d = ap (λ (o : Option (PortView Kept)). get o) e ∙ d
      where
        get : Option (PortView Kept) → Holder
        get (Some y) = y.attributes.holder
        get None = x.attributes.holder

-- ---- A right of a destroyed message is lost: what that asks of the tables, and the turn.

-- the message is among those that were destroyed
pub reversed : {A : Type 0} (x : A) (xs : List A) → reverse (x ∷ xs) ≡ reverse xs ++ x ∷ []
reversed x xs = reverse-append (x ∷ []) xs

pub last_reversed : {A : Type 0} (x : A) (xs ys : List A) → Contains (reverse (x ∷ xs) ++ ys) x
last_reversed x xs ys = Contains-append_left (reverse (x ∷ xs)) ys x (subst (λ zs. Contains zs x) (sym (reversed x xs)) (Contains-append_right (reverse xs) (x ∷ []) x (0, omega arith, refl)))

module _ (now : ℕ) (tables : WorldView) (old mid : State) (owed : Owed) (e : Ending) (m : ℕ × ℕ) (all : List Carried) (w : WorldView) (a : Amid now tables old mid owed e m all w) where
  abbrev l : Loose now tables old mid owed e w
  l = a.loose

  abbrev s : State
  s = l.state

  abbrev place : Place
  place = in_message m.0 m.1

  pub own_doomed : listed e.doomed m.0 ≡ true
  own_doomed = go (subst (λ (ms : List (ℕ × ℕ)). Contains ms m) (sym a.parts) (last_reversed m a.waiting a.emptied))
    where
      go : Contains e.destroyed m → listed e.doomed m.0 ≡ true
      go (i, below, is) = ap (λ (n : ℕ × ℕ). listed e.doomed n.0) (sym is) ∙ ((reached_counted old mid owed e l.reached).destroyed i m below).0

  other : (p : ℕ) → lives_after mid e p ≡ true → m.0 ≡ p → ⊥
  other p alive same = grind (arith, undoomed, own_doomed)

  not_here : (p k : ℕ) → lives_after mid e p ≡ true → ¬ (Contains (m ∷ a.emptied) (p, k))
  not_here p k alive (zero, below, is) = other p alive (ap (λ (n : ℕ × ℕ). n.0) is)
  not_here p k alive (suc i, below, is) = not_emptied old mid owed e l.reached (reverse (m ∷ a.waiting)) a.emptied a.parts p k (undoomed mid e p alive) (i, omega (arith, below), is)

  there_s : (p : ℕ) → lives_after mid e p ≡ true → s.live_port p ≡ true
  there_s p alive = l.so_far.live_port p ∙ alone_lives old mid owed e l.reached p alive

  in_ledger : (kind : Kind) (p : ℕ) → 0 < lying_among e.left kind p place → 0 < lying_among s.ledger kind p place
  in_ledger kind p some = let b = l.so_far.ledger (λ x. if is_of kind p x && same_place place x.place then 1 else 0) in omega (arith, some, b)

  can_of : (kind : Kind) (p : ℕ) → LivesIn w p → (kind ≢ receive → 0 < lying_among e.left kind p place) → CanLoseOf kind p w
  can_of receive p lives some = tt
  can_of send p lives some = grind (arith, lives_is, in_ledger, count_le, left_of, there_s)
  can_of send_once p lives some =
      let alive = lives_is now tables old mid owed e w l p lives in
      can_pay now old mid owed e l.lawful l.reached s l.so_far w l.agrees p alive (λ k. a.unlost send_once p p k (λ h. cc) (undoomed mid e p alive) (not_here p k alive)) l.slots place
      (λ k. off (m.0 == p) (ne_eqb m.0 p (other p alive)) (m.1 == k)) (some (λ h. cc))
    where
      off : (b : Bool) → b ≡ false → (c : Bool) → (b && c) ≡ false
      off true h c = absurd (cc)
      off false h c = refl

  pub can_mark : (kind : Kind) (k : Mark) → ((p : ℕ) → k ≡ mark.Port p → lives_after mid e p ≡ true → kind ≢ receive → 0 < lying_among e.left kind p place) → CanLoseMark kind k w
  can_mark kind (mark.Port p) some = λ lives. can_of kind p lives (some p refl (lives_is now tables old mid owed e w l p lives))
  can_mark kind mark.Null some = tt
  can_mark kind mark.Dead some = tt

-- one right for a port that lives is there for each mark
marked : (kind : Kind) (p : ℕ) (rest : List (Kind × MachineMark)) → 0 < rights_count kind p ((kind, to_port p) ∷ rest)
marked receive p rest = let one : mark_count receive p receive (to_port p) ≡ 1 = rw (eq-eqb p p refl) refl in omega (arith, one)
marked send p rest = let one : mark_count send p send (to_port p) ≡ 1 = rw (eq-eqb p p refl) refl in omega (arith, one)
marked send_once p rest = let one : mark_count send_once p send_once (to_port p) ≡ 1 = rw (eq-eqb p p refl) refl in omega (arith, one)

module _ (now : ℕ) (tables : WorldView) (old mid : State) (owed : Owed) (e : Ending) (m : ℕ × ℕ) (c : Carried) (rest : List Carried) (w : WorldView) (a : Amid now tables old mid owed e m (c ∷ rest) w) where
  pub some_there : (p : ℕ) → c.mark ≡ mark.Port p → lives_after mid e p ≡ true → kind_sent c.given ≢ receive → 0 < lying_among e.left (kind_sent c.given) p (in_message m.0 m.1)
  some_there p is alive kind = grind (arith, marked)

  pub can_lose : CanLose w c
  can_lose = can_mark now tables old mid owed e m (c ∷ rest) w a (kind_sent c.given) c.mark some_there

-- ---- the turn of a send-once right: its port is told

module _ (now : ℕ) (tables : WorldView) (old mid : State) (owed : Owed) (e : Ending) (m : ℕ × ℕ) (all : List Carried) (w : WorldView) (a : Amid now tables old mid owed e m all w)
    (p : ℕ) (alive : lives_after mid e p ≡ true) where
  abbrev l2 : Loose now tables old mid owed e w
  l2 = a.loose

  module _ (some : 0 < lying_among e.left send_once p (in_message m.0 m.1)) (v : PortView Kept) (there : port_at w p ≡ Some v) (paid : 0 < (counts_of w.ledger p).send_once) where
    abbrev x : Token
    x = token send_once p (in_message m.0 m.1)

    abbrev y : Token
    y = token send_once p (in_message p (length (l2.state.log p)))

    abbrev tokens : List Token
    tokens = y ∷ without x l2.state.ledger

    abbrev pub told_ending : Ending
    told_ending = record e { left = without x e.left; paid = e.paid ++ (x, right_unused) ∷ []; turns = e.turns + 1 }

    pub once_parts : (h : Token → ℕ) → weigh h e.left ≡ weigh h (without x e.left) + h x
    once_parts h = without_weigh x e.left some h

    moved : (h : Token → ℕ) → weigh h tokens + h x ≡ weigh h l2.state.ledger + h y
    moved h = let b = without_weigh x l2.state.ledger (in_ledger now tables old mid owed e m all w a send_once p some) h in omega (arith, b)

    pub once_turn : Loses mid e told_ending
    once_turn = record {
      right = x;
      judged = a.stage.judged;
      lives = undoomed mid e p alive;
      destroyed = own_doomed now tables old mid owed e m all w a;
      takes = inl (refl, record { left = λ h. let b = once_parts h in omega (arith, b); paid = refl; gone = sym (append-nil e.gone) });
      rest = refl;
    }

    pub once_loose : Goes now tables old mid owed l2.state told_ending (with_notice w p v SendOnce)
    once_loose = loose_posted now tables old mid owed e l2.lawful l2.reached l2.state l2.so_far w l2.state.naming tokens l2.state.stands
        (rekept (lives_after mid e) w l2.state w.requests tokens l2.state.stands l2.agrees (pays_from (lives_after mid e) w l2.state l2.agrees p m.0 m.1 (length (l2.state.log p)) tokens (λ h. let b = moved h in omega (arith, b))))
        l2.holders l2.slots l2.framed l2.senders l2.receivers l2.had_senders l2.emptied p v there SendOnce alive paid (λ q c. none_listed [] refl _ c) (λ at. refl)
        (in_message m.0 m.1) e.ended (without x e.left) e.told (e.turns + 1) once_parts moved l2.so_far.stands l2.so_far.names (inr (inr (inr (inl once_turn))))

  -- ---- the turn of a send right: it goes

  module _ (some : 0 < lying_among e.left send p (in_message m.0 m.1)) (noted : List ℕ) where
    abbrev z : Token
    z = token send p (in_message m.0 m.1)

    abbrev pub gone_ending : Ending
    gone_ending = record e { left = without z e.left; gone = e.gone ++ z ∷ []; turns = e.turns + 1 }

    abbrev pub fallen : WorldView
    fallen = record (without_send w p) { ports = record w.ports { noted = noted } }

    pub send_parts : (h : Token → ℕ) → weigh h e.left ≡ weigh h (without z e.left) + h z
    send_parts h = without_weigh z e.left some h

    left_parts : (h : Token → ℕ) → weigh h (without z l2.state.ledger) + h z ≡ weigh h l2.state.ledger
    left_parts h = let b = without_weigh z l2.state.ledger (in_ledger now tables old mid owed e m all w a send p some) h in omega (arith, b)

    pub send_turn : Loses mid e gone_ending
    send_turn = record {
      right = z;
      judged = a.stage.judged;
      lives = undoomed mid e p alive;
      destroyed = own_doomed now tables old mid owed e m all w a;
      takes = inr ((λ h. cc), record { left = λ h. let b = send_parts h in omega (arith, b); paid = sym (append-nil e.paid); gone = refl });
      rest = refl;
    }

    few : (q : ℕ) → (counts_of (taken w.ledger p right.Send 1) q).receive ≤ 1
    few q = elim (eqb_tells q p) [
      | inl same ↦ subst (λ (k : ℕ). (counts_of (taken w.ledger p right.Send 1) k).receive ≤ 1) (sym same.1)
          (let b : (counts_of (taken w.ledger p right.Send 1) p).receive ≡ (counts_of w.ledger p).receive = ap (λ (c : Counts). c.receive) (counts_own w.ledger p (with_fewer right.Send 1 (counts_of w.ledger p)) (taken w.ledger p right.Send 1) refl) in
          let d = l2.receivers p in omega (arith, b, d))
      | inr not ↦
          let b : (counts_of (taken w.ledger p right.Send 1) q).receive ≡ (counts_of w.ledger q).receive = ap (λ (c : Counts). c.receive) (counts_other w.ledger p (with_fewer right.Send 1 (counts_of w.ledger p)) (taken w.ledger p right.Send 1) refl q not.1) in
          let d = l2.receivers q in omega (arith, b, d)
    ]

    same_receives : SameReceives l2.state.ledger (without z l2.state.ledger)
    same_receives = grind (arith, left_parts)

    held_same : (task : ℕ) (kind : Kind) (q : ℕ) → count (is_held task kind q) (without z l2.state.ledger) ≡ count (is_held task kind q) l2.state.ledger
    held_same task kind q = let b = left_parts (λ t. if is_held task kind q t then 1 else 0) in let d = both_test (is_of kind q z) false (inr refl) in omega (arith, b, d)

    abbrev lives : ℕ → Bool
    lives = lives_after mid e

    kept_same : (r : Request) (kind : Kind) (q : ℕ) → lying_among (filter (λ t. lives t.port) (without z l2.state.ledger)) kind q (in_request r) ≡ lying_among (filter (λ t. lives t.port) l2.state.ledger) kind q (in_request r)
    kept_same r kind q = grind (arith, filter_weigh, without, left_parts, both_test)

    total_same : w.ledger.total - 1 ≡ length (without z l2.state.ledger)
    total_same = grind (arith, left_parts, length-weigh, without)

    abbrev s2 : State
    s2 = record l2.state { ledger = without z l2.state.ledger }

    pub send_loose : Goes now tables old mid owed l2.state gone_ending fallen
    send_loose = (
      record {
        lawful = l2.lawful;
        reached = turns e gone_ending l2.reached (inr (inr (inr (inl send_turn))));
        state = s2;
        so_far = let so = l2.so_far in record {
          live_port = so.live_port;
          stands = so.stands;
          sets_of = so.sets_of;
          make_send = so.make_send;
          sequence = so.sequence;
          names = so.names;
          log = so.log;
          taken = so.taken;
          destroyed = so.destroyed;
          ledger = λ h. let b = left_parts h in let d = send_parts h in let g = so.ledger h in omega (arith, b, d, g);
          rest = ap (λ (t : State). record t { ledger = without z l2.state.ledger }) so.rest;
        };
        agrees = let g = l2.agrees in record {
          spaces = g.spaces;
          rights = record { references = λ task name n q is named. let r = g.rights.references task name n q is named in (held_same task receive q ∙ r.0, held_same task send q ∙ r.1) };
          live_port = g.live_port;
          ports_made = g.ports_made;
          ports = λ q u is. let b = g.ports q u is in record { waiting = b.waiting; limit = b.limit; make_send = b.make_send; sequence = b.sequence; sets = b.sets };
          counts = counted;
          total = total_same;
          in_sets = g.in_sets;
          of_requests = requests_stay (notify_of w.requests) w.requests.names.went w.ports.made w.ports.made l2.state.stands l2.state.stands lives lives (filter (λ t. lives t.port) l2.state.ledger)
              (filter (λ t. lives t.port) (without z l2.state.ledger)) g.of_requests (omega arith) (λ r. refl) (λ n h. refl) kept_same;
        };
        holders = holders_stay l2.state s2 e.destroyed same_receives w fallen shape l2.holders;
        slots = (let b = l2.slots in omega (arith, b));
        framed = framed_stays w fallen shape mid e gone_ending refl refl refl l2.framed;
        senders = l2.senders;
        receivers = few;
        had_senders = l2.had_senders;
        emptied = l2.emptied;
      },
      λ q k t is. is,
    )
      where
        shape : SameShape w fallen
        shape = same_ports w fallen refl refl refl refl (λ q h. h) refl

        was_queued : ℕ → ℕ
        was_queued q = if lives q then onces_queued l2.state q else (counts_of w.ledger q).destination

        now_queued : ℕ → ℕ
        now_queued q = if lives q then onces_queued s2 q else (counts_of (taken w.ledger p right.Send 1) q).destination

        same_queued : (q : ℕ) → was_queued q ≡ now_queued q
        same_queued q = let b = dest in λ i. if lives q then onces_queued l2.state q else b i
          where
            dest : (counts_of w.ledger q).destination ≡ (counts_of (taken w.ledger p right.Send 1) q).destination
            dest = elim (eqb_tells q p) [
              | inl same ↦ subst (λ (k : ℕ). (counts_of w.ledger k).destination ≡ (counts_of (taken w.ledger p right.Send 1) k).destination) (sym same.1)
                  (ap (λ (c : Counts). c.destination) (sym (counts_own w.ledger p (with_fewer right.Send 1 (counts_of w.ledger p)) (taken w.ledger p right.Send 1) refl)))
              | inr not ↦ ap (λ (c : Counts). c.destination) (sym (counts_other w.ledger p (with_fewer right.Send 1 (counts_of w.ledger p)) (taken w.ledger p right.Send 1) refl q not.1))
            ]

        counted : (q : ℕ) → CountsAgree (taken w.ledger p right.Send 1) l2.state.live_port (without z l2.state.ledger) now_queued q
        counted = queues_same (taken w.ledger p right.Send 1) l2.state.live_port (without z l2.state.ledger) was_queued
            (right_taken w.ledger l2.state.live_port l2.state.ledger was_queued l2.agrees.counts send p (in_message m.0 m.1) (there_s now tables old mid owed e m all w a p alive) (λ h. cc) (without z l2.state.ledger) left_parts)
            now_queued same_queued

-- ---- One right after the other of a destroyed message is lost.

module _ (now : ℕ) (tables : WorldView) (old mid : State) (owed : Owed) (e : Ending) (m : ℕ × ℕ) (c : Carried) (rest : List Carried) (w : WorldView) (a : Amid now tables old mid owed e m (c ∷ rest) w) where
  abbrev l_steps : Loose now tables old mid owed e w
  l_steps = a.loose

  abbrev kind : Kind
  kind = kind_sent c.given

  abbrev place_steps : Place
  place_steps = in_message m.0 m.1

  abbrev pub Stepped : ℕ → WorldView → Type 0
  Stepped so_many v = (f : Ending) × Amid now tables old mid owed f m rest v × IsCount e.turns f.turns so_many × SameSlots e w f v

  -- the mark is of no right that was there
  pub unmarked : ((k2 : Kind) (q : ℕ) → k2 ≢ receive → lives_after mid e q ≡ true → mark_count k2 q kind (mark_of c.mark) ≡ 0) → Stepped 0 w
  unmarked none = (
    e,
    record {
      loose = a.loose;
      stage = a.stage;
      noted = a.noted;
      had = a.had;
      waiting = a.waiting;
      emptied = a.emptied;
      parts = a.parts;
      are = a.are;
      lost = a.lost;
      unlost = a.unlost;
      there = λ k2 q other alive. let b = a.there k2 q other alive in let d = none k2 q other alive in omega (arith, b, d);
    },
    count_none e.turns,
    refl,
  )

  -- not the message itself
  apart : (q k : ℕ) → ¬ (Contains (m ∷ a.emptied) (q, k)) → same_place (in_message q k) place_steps ≡ false
  apart q k none = elsewhere q m.0 k m.1 (λ same also. none (0, omega arith, (let b = sym same in let d = sym also in λ i. (b i, d i))))

  -- ---- for a port that lives

  module _ (p : ℕ) (is : c.mark ≡ mark.Port p) (lives : LivesIn w p) where
    alive : lives_after mid e p ≡ true
    alive = lives_is now tables old mid owed e w l_steps p lives

    there_was : (k2 : Kind) (q : ℕ) → k2 ≢ receive → lives_after mid e q ≡ true → lying_among e.left k2 q place_steps ≡ mark_count k2 q kind (to_port p) + rights_count k2 q (rights_of rest)
    there_was k2 q other living = a.there k2 q other living ∙ ap (λ (k : Mark). mark_count k2 q kind (mark_of k) + rights_count k2 q (rights_of rest)) is

    own_place : (b : Bool) → (if b && same_place place_steps place_steps then suc zero else zero) ≡ (if b then suc zero else zero)
    own_place true = rw (place_refl place_steps) refl
    own_place false = refl

    module _ (kind_is : kind ≡ send) where
      some_send : 0 < lying_among e.left send p place_steps
      some_send = grind (arith, some_there, alive)

      module _ (noted : List ℕ) where
        abbrev f : Ending
        f = gone_ending now tables old mid owed e m (c ∷ rest) w a p alive some_send noted

        abbrev v : WorldView
        v = fallen now tables old mid owed e m (c ∷ rest) w a p alive some_send noted

        g : Goes now tables old mid owed l_steps.state f v
        g = send_loose now tables old mid owed e m (c ∷ rest) w a p alive some_send noted

        abbrev z_steps : Token
        z_steps = token send p place_steps

        parts_f : (h : Token → ℕ) → weigh h e.left ≡ weigh h f.left + h z_steps
        parts_f h = send_parts now tables old mid owed e m (c ∷ rest) w a p alive some_send noted h

        unlost_f : IsUnlost f (m ∷ a.emptied)
        unlost_f k2 q n k other undoomed none = grind (arith, undoomed, weigh-append, both_test, apart)

        there_f : (k2 : Kind) (q : ℕ) → k2 ≢ receive → lives_after mid e q ≡ true → lying_among f.left k2 q place_steps ≡ rights_count k2 q (rights_of rest)
        there_f k2 q other living = grind (arith, there_was, parts_f, own_place)

        was : (q : ℕ) → (q ≡ p → ⊥) → IsSenderless v q → IsSenderless w q
        was q not s = record { live = s.live; asked = s.asked; none = sym (sends_elsewhere w.ledger p right.Send 1 q not) ∙ s.none }

        had_own : 0 < (counts_of tables.ledger p).send
        had_own =
            let b = l_steps.had_senders p m.0 m.1 ((reached_sound old mid owed e l_steps.reached).doomed m.0 (own_doomed now tables old mid owed e m (c ∷ rest) w a))
            (let some = some_send in let d = left_within old mid owed e l_steps.reached (λ t. if is_of send p t && same_place place_steps t.place then 1 else 0) in omega (arith, some, d)) in
            let d = l_steps.senders p in omega (arith, b, d)

        send_gone : ((q : ℕ) → Contains w.ports.noted q → Contains noted q) → (IsSenderless (without_send w p) p → Contains noted p) →
            ((q : ℕ) → Contains noted q → Contains w.ports.noted q ⊎ (q ≡ p) × IsSenderless (without_send w p) p) → Stepped 1 v
        send_gone stay own only = (
          f,
          record {
            loose = g.0;
            stage = record { emptied = a.stage.emptied; judged = a.stage.judged; none_lost = a.stage.none_lost };
            noted = λ q living some s. noted_now q living some s;
            had = λ q h. had_now q (only q h);
            waiting = a.waiting;
            emptied = a.emptied;
            parts = a.parts;
            are = are_longer l_steps.state g.0.state g.1 w.ports.destroyed a.waiting a.are;
            lost = lost_fewer e.doomed e.left f.left (λ h. let b = parts_f h in omega (arith, b)) a.emptied a.lost;
            unlost = unlost_f;
            there = there_f;
          },
          count_one e.turns _ refl,
          refl,
        )
          where
            noted_now : (q : ℕ) → lives_after mid e q ≡ true → 0 < (counts_of tables.ledger q).send → IsSenderless v q → Contains noted q
            noted_now q living some s = elim (eqb_tells q p) [
              | inl same ↦ subst (λ (k : ℕ). Contains noted k) (sym same.1) (own (let t = subst (λ (k : ℕ). IsSenderless v k) same.1 s in record { live = t.live; asked = t.asked; none = t.none }))
              | inr not ↦ stay q (a.noted q living some (was q not.1 s))
            ]

            had_now : (q : ℕ) → Contains w.ports.noted q ⊎ (q ≡ p) × IsSenderless (without_send w p) p → 0 < (counts_of tables.ledger q).send
            had_now q (inl h) = a.had q h
            had_now q (inr (same, s)) = subst (λ (k : ℕ). 0 < (counts_of tables.ledger k).send) (sym same) had_own

    module _ (kind_is : kind ≡ send_once) (spare : 0 < w.ports.spare) (u : PortView Kept) (at : port_at w p ≡ Some u) where
      some_once : 0 < lying_among e.left send_once p place_steps
      some_once = grind (arith, some_there, alive)

      may : CanPost w p
      may = can_mark now tables old mid owed e m (c ∷ rest) w a send_once (mark.Port p) (λ q same living other. subst (λ (k : ℕ). 0 < lying_among e.left send_once k place_steps) (port_same q same) some_once) lives
        where
          port_same : (q : ℕ) → mark.Port p ≡ mark.Port q → p ≡ q
          port_same q z_steps = cc

      abbrev f2 : Ending
      f2 = told_ending now tables old mid owed e m (c ∷ rest) w a p alive some_once u at may.paid

      abbrev v2 : WorldView
      v2 = with_notice w p u SendOnce

      g2 : Goes now tables old mid owed l_steps.state f2 v2
      g2 = once_loose now tables old mid owed e m (c ∷ rest) w a p alive some_once u at may.paid

      abbrev x_steps : Token
      x_steps = token send_once p place_steps

      parts_2 : (h : Token → ℕ) → weigh h e.left ≡ weigh h f2.left + h x_steps
      parts_2 h = once_parts now tables old mid owed e m (c ∷ rest) w a p alive some_once u at may.paid h

      unlost_2 : IsUnlost f2 (m ∷ a.emptied)
      unlost_2 k2 q n k other undoomed none = grind (arith, undoomed, tokens_joined, both_test, apart)

      there_2 : (k2 : Kind) (q : ℕ) → k2 ≢ receive → lives_after mid e q ≡ true → lying_among f2.left k2 q place_steps ≡ rights_count k2 q (rights_of rest)
      there_2 k2 q other living = grind (arith, there_was, parts_2, own_place)

      was_2 : (q : ℕ) → IsSenderless v2 q → IsSenderless w q
      was_2 q s = record { live = l_steps.framed.requested.no_senders q s.asked; asked = s.asked; none = sends_shifted w.ledger p q s.none }

      undoomed_p : u.attributes.holder ≢ holder.Doomed
      undoomed_p h = grind (arith, undoomed, alive)

      once_paid : Stepped 1 v2
      once_paid = (
        f2,
        record {
          loose = g2.0;
          stage = record { emptied = emptied_posted w p u SendOnce at undoomed_p a.stage.emptied; judged = a.stage.judged; none_lost = a.stage.none_lost };
          noted = λ q living some s. a.noted q living some (was_2 q s);
          had = a.had;
          waiting = a.waiting;
          emptied = a.emptied;
          parts = a.parts;
          are = are_longer l_steps.state g2.0.state g2.1 w.ports.destroyed a.waiting a.are;
          lost = lost_fewer e.doomed e.left f2.left (λ h. let b = parts_2 h in omega (arith, b)) a.emptied a.lost;
          unlost = unlost_2;
          there = there_2;
        },
        count_one e.turns _ refl,
        (let b = spare in let d = length-append e.paid ((x_steps, right_unused) ∷ []) in omega (arith, b, d)),
      )

    -- a receive right stays
    receive_stays : kind ≡ receive → Stepped 0 w
    receive_stays kind_is = grind (arith, unmarked)

    living_step : (so_many : ℕ) (v : WorldView) (k : Kind) → kind ≡ k → LosesOf k p w so_many v → Stepped so_many v
    living_step so_many v receive kind_is (none, same) = subst (λ (t : ℕ). Stepped t v) (sym none) (subst (Stepped 0) (sym same) (receive_stays kind_is))
    living_step so_many v send kind_is (one, n) = subst (λ (t : ℕ). Stepped t v) (sym one) (subst (Stepped 1) (sym n.rest) (send_gone kind_is n.noted n.stay n.notes n.only))
    living_step so_many v send_once kind_is (one, posts) = subst (λ (t : ℕ). Stepped t v) (sym one) (subst (Stepped 1) (sym posts.rest) (once_paid kind_is posts.spare posts.v posts.there))

  -- The right is lost where it is to be.
  pub step : (so_many : ℕ) (v : WorldView) → LosesRight w c so_many v → Stepped so_many v
  step so_many v loses = go c.mark refl loses
    where
      stays : (so_many ≡ 0) → (v ≡ w) → Stepped 0 w → Stepped so_many v
      stays none same h = subst (λ (t : ℕ). Stepped t v) (sym none) (subst (Stepped 0) (sym same) h)

      go : (k : Mark) → c.mark ≡ k → LosesMark kind k w so_many v → Stepped so_many v
      go (mark.Port p) is (inl (lives, h)) = living_step p is lives so_many v kind refl h
      go (mark.Port p) is (inr (dead, none, same)) = stays none same (unmarked (λ k2 q other living. ap (λ (k : Mark). mark_count k2 q kind (mark_of k)) is ∙ both_test (same_kind k2 kind) (p == q) (inr (ne_eqb p q (λ e2. dead (subst (λ (n : ℕ). LivesIn w n) (sym e2) (lives_there now tables old mid owed e w l_steps q living)))))))
      go mark.Null is (none, same) = stays none same (unmarked (λ k2 q other living. ap (λ (k : Mark). mark_count k2 q kind (mark_of k)) is))
      go mark.Dead is (none, same) = stays none same (unmarked (λ k2 q other living. ap (λ (k : Mark). mark_count k2 q kind (mark_of k)) is))

-- ---- one after the other

-- the messages that wait are as they were
right_keeps : (c : Carried) (w : WorldView) (so_many : ℕ) (v : WorldView) → LosesRight w c so_many v → v.ports.destroyed ≡ w.ports.destroyed
right_keeps c w so_many v loses = grind arith

pub loses_none : (rights : List Carried) (w : WorldView) → LosesTo rights rights w 0 w
loses_none rights w now tables old mid owed e m rest a = (e, a, count_none e.turns, refl, refl)

pub loses_one : (rights left : List Carried) (c : Carried) (w0 : WorldView) (so_many : ℕ) (w : WorldView) (number : ℕ) (v : WorldView) → LosesTo rights (c ∷ left) w0 so_many w → LosesRight w c number v →
    (sum : ℕ) → sum ≡ min (so_many + number) (2 ^ 64 - 1) → LosesTo rights left w0 sum v
loses_one rights left c w0 so_many w number v so_far is sum sum_is now tables old mid owed e m rest a =
    let r = so_far now tables old mid owed e m rest a in
    let g = step now tables old mid owed r.0 m c (left ++ rest) w r.1 number v is in
    (g.0, g.1, count_joined e.turns r.0.turns g.0.turns so_many number sum r.2 g.2 sum_is, (let x_steps = r.3 in let y = g.3 in omega (arith, x_steps, y)), right_keeps c w number v is ∙ r.4)

pub loses_single : (c : Carried) (w : WorldView) (number : ℕ) (v : WorldView) → LosesRight w c number v → LosesTo (c ∷ []) [] w number v
loses_single c w number v is now tables old mid owed e m rest a = grind (arith, step now tables old mid owed e m c rest w a number v is)

pub can_next : (rights left : List Carried) (c : Carried) (w0 : WorldView) (so_many : ℕ) (w : WorldView) → LosesTo rights (c ∷ left) w0 so_many w → IsLosing rights w0 → CanLose w c
can_next rights left c w0 so_many w so_far is =
    let r = so_far is.now is.tables is.old is.mid is.owed is.ending is.message is.rest is.amid in
    can_lose is.now is.tables is.old is.mid is.owed r.0 is.message c (left ++ is.rest) w r.1

pub can_first : (c : Carried) (w : WorldView) → IsLosing (c ∷ []) w → CanLose w c
can_first c w is = can_next (c ∷ []) [] c w 0 w (loses_none (c ∷ []) w) is

abbrev pub losing_front : (front back : List Carried) (w : WorldView) → IsLosing (front ++ back) w → IsLosing front w
losing_front front back w is = record {
  now = is.now;
  tables = is.tables;
  old = is.old;
  mid = is.mid;
  owed = is.owed;
  ending = is.ending;
  message = is.message;
  rest = back ++ is.rest;
  amid = subst (λ (cs : List Carried). Amid is.now is.tables is.old is.mid is.owed is.ending is.message cs w) (append_assoc front back is.rest) is.amid;
}

pub losing_back : (front back : List Carried) (w : WorldView) (so_many : ℕ) (u : WorldView) → IsLosing (front ++ back) w → LosesTo front [] w so_many u → IsLosing back u
losing_back front back w so_many u is loses =
    let f = losing_front front back w is in
    let r = loses f.now f.tables f.old f.mid f.owed f.ending f.message f.rest f.amid in
    record {
      now = is.now;
      tables = is.tables;
      old = is.old;
      mid = is.mid;
      owed = is.owed;
      ending = r.0;
      message = is.message;
      rest = is.rest;
      amid = r.1;
    }

pub loses_both : (front back : List Carried) (w : WorldView) (so_many : ℕ) (u : WorldView) (more : ℕ) (v : WorldView) → LosesTo front [] w so_many u → LosesTo back [] u more v → (sum : ℕ) → sum ≡ min (so_many + more) (2 ^ 64 - 1) → LosesTo (front ++ back) [] w sum v
loses_both front back w so_many u more v one two sum sum_is now tables old mid owed e m rest a =
    let r = one now tables old mid owed e m (back ++ rest) (subst (λ (cs : List Carried). Amid now tables old mid owed e m cs w) (append_assoc front back rest) a) in
    let g = two now tables old mid owed r.0 m rest r.1 in
    (g.0, g.1, count_joined e.turns r.0.turns g.0.turns so_many more sum r.2 g.2 sum_is, (let x_steps = r.3 in let y = g.3 in omega (arith, x_steps, y)), g.4 ∙ r.4)

receive_unmarked : (k2 : Kind) (q port : ℕ) → k2 ≢ receive → mark_count k2 q receive (to_port port) ≡ 0
receive_unmarked receive q port other = absurd (other refl)
receive_unmarked send q port other = refl
receive_unmarked send_once q port other = refl

-- A notice carries a receive right at most.
pub loses_told : (n : Notice) (w : WorldView) → LosesTo (carried_in (notice_kept n)) [] w 0 w
loses_told (PortDeleted name) w = loses_none [] w
loses_told (PortDestroyed port) w = λ now tables old mid owed e m rest a.
    let g = unmarked now tables old mid owed e m (record { given = MoveReceive; mark = mark.Port port }) rest w a (λ k2 q other living. receive_unmarked k2 q port other) in
    (g.0, g.1, g.2, g.3, refl)
loses_told (NoSenders number) w = loses_none [] w
loses_told SendOnce w = loses_none [] w
loses_told (DeadName name) w = loses_none [] w

-- ---- over a list

pub next_item : {X : Type 0} (xs : List X) (i : ℕ) (x_steps : X) → i < length xs → x_steps ≡ get_or xs i x_steps → drop i xs ≡ x_steps ∷ drop (i + 1) xs
next_item {X} xs i x_steps h is = at_drop_more (λ (ys : List X). ys) xs i x_steps h ∙ ap (λ (y : X). y ∷ drop (i + 1) xs) (sym is)

pub no_item : {X : Type 0} (xs : List X) (i : ℕ) → length xs ≤ i → drop i xs ≡ []
no_item {X} xs i h = at_drop_all (λ (ys : List X). ys) xs i h
