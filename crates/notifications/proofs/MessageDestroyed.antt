-- A port's front message is destroyed.
use Rattle.std.proofs.Common.{◌≡◌, ℕ, ◌+◌, ◌-◌, Bool, true, false, List, Some, refl, ◌∙◌, arith, inr, length, zero, ◌<◌, ◌≤◌, [], ◌∷◌, ◌++◌, sym, ap, subst, inl, suc, Option, None}
use Rattle.std.specs.Prelude.{if◌then◌else◌, is_some, ◌==◌, ◌&&◌, All, MatchBool, Contains, ◌≢◌, get_or, map as list_map, filter}
use Rattle.std.proofs.lemmas.Bool.{ne_eqb, cases_Bool, eq-eqb}
use Rattle.std.proofs.lemmas.Bool.Decides.{eqb_tells}
use Rattle.std.proofs.lemmas.List.{append-nil, map-append, length-append}
use Rattle.std.proofs.lemmas.List.Elements.{All-push, filter-append, Contains-append_cases, Contains-append_left, Contains-append_right}
use Rattle.std.specs.FinMap as map
use Rattle.std.specs.Option.{option_to_list}
use Rattle.mach_types.specs.Tokens.{Kind, receive, send, in_message, Token, token, count, is_of, is_held, send_once, same_kind, weigh, Place}
use Rattle.mach_types.specs.Numbers.{kind_sent}
use Rattle.mach_types.specs.Messages.{Entry}
use Rattle.mach_types.specs.declared.rights.Disposition.{Disposition}
use Rattle.mach_types.specs.declared.rights.Disposition.TheVariants.{MoveReceive, MoveSend, MoveSendOnce, CopySend, MakeSend, MakeSendOnce}
use Rattle.mach_model.specs.State.{State, queue}
use Rattle.mach_model.specs.Unused.{onces_queued}
use Rattle.mach_model.proofs.Names.{length-weigh, both_test, at_own, at_other, weigh-append, lying_le_of, count_none, count_some, count_le, left_of}
use Rattle.mach_model.specs.Death.{same_place}
use Rattle.mach_model.specs.Carried.{lying, mark_count, rights_count}
use Rattle.mach_model.specs.Notices.{right_unused, notice_message, Owed, posted_tokens}
use Rattle.mach_model.specs.References.{unused_among}
use Rattle.mach_model.proofs.Copying.{at_entry}
use Rattle.mach_model.proofs.Settling.{place_refl}
use Rattle.mach_model.specs.Lawful.{IsLawful}
use Rattle.mach_model.proofs.Moving.{IsMoving, IsOutside, one_at_most}
use Rattle.mach_model.proofs.MessagesLawful.{taken_moving, lies}
use Rattle.mach_model.specs.Receive.{IsFront, DestroysFront}
use Rattle.rights.specs.declared.RightKind.TheVariants as right
use Rattle.rights.specs.Ledger.{taken, counts_of}
use Rattle.rights.specs.declared.Counts.{Counts}
use Rattle.rights.specs.Counts.{with_fewer, one_shifted}
use Rattle.port.specs.declared.Holder.TheVariants.{Nobody, QueueOf}
use Rattle.port.specs.Holding.{held, CanHold}
use Rattle.port.specs.Ports.{PortView, with_port}
use Rattle.port.specs.declared.Holder.{Holder}
use Rattle.copyin_base.specs.Kept.{Kept, mark_of, Keeps}
use Rattle.copyin_base.specs.Requests.{notify_of, RequestsAgree}
use Rattle.copyin_base.specs.Worlds.{WorldView, port_at, NoneLost}
use Rattle.copyin_base.specs.Shows.{ReferencesAgree, Agrees, HoldersAgree, CarriersAgree, SlotsSuffice, RequestsStand, Shows}
use Rattle.copyin_base.proofs.Agreeing.{live_put, ports_put}
use Rattle.copyin_base.proofs.Counting.{right_taken}
use Rattle.copyin_base.proofs.Requesting.{requests_stay}
use Rattle.copyin_base.proofs.Taking.{Without, take_lying}
use Rattle.copyin_base.specs.declared.Notice.TheVariants as notice
use Rattle.copyin_base.specs.declared.Carried.{Carried}
use Rattle.copyin_base.specs.declared.Mark.{Mark}
use Rattle.copyin_base.specs.declared.Mark.TheVariants as mark
use Rattle.copyin_base.specs.Posted.{with_notice, with_posted, IsLeft}
use Rattle.copyin_base.proofs.SendersNoted.{noted_agrees, noted_holders, noted_carriers, noted_slots, noted_requested, noted_none_lost, keeps_senders_refl}
use Rattle.copyin_base.proofs.Listed.{listed_one, none_listed, listed_later}
use Rattle.copyin_base.proofs.Putting.{each_put}
use Rattle.copyin_base.specs.Changes.{NotesSenderless, NotesSenders}
use Rattle.copyin_base.proofs.Holders.{KeepHolders, put_holders, unheld, unheld_lying}
use Rattle.copyin_base.proofs.KeptEntries.{rights_of, message_kept}
use Rattle.copyout.specs.Takes.{TakesFront, NotesFront}
use Rattle.copyout.proofs.Fronts.{by_note, front_notes, HasFront_fronts as HasFront, shown_is_front, waits}
use Rattle.copyout.proofs.FrontTaken.{front, port_lives, left, taken_state, taken_moves, front_agrees, front_holders, front_carriers, front_requested}
use Rattle.copyout.proofs.GivenAll.{none_carries}
use Rattle.copyout.proofs.Rooms.{front_none_lost}
use Rattle.copyout.proofs.Delivered.{front_slots}
use Rattle.notifications.specs.Destroying.{LosesRight, LosesMark, CanLoseRight, one_for, rights_for, CanLoseAll, LosesAll, CanDestroy, DestroysMessage}
use Rattle.notifications.proofs.MessageRights.{can_kind, can_later, own_one, fewer, Sound, one_sound, lying_and_queued}
use Rattle.notifications.proofs.NoticePosted.{told_agrees}

-- ---- A right that lay in a message is lost: the state without it, with which the tables agree.

module _ (w : WorldView) (s : State) (a : Agrees w s) (o k p : ℕ) (live : s.live_port p ≡ true) where
  -- ---- what any right that lies in a message leaves

  module _ (kind : Kind) (left : Without (token kind p (in_message o k)) s.ledger) where
    tokens_for : (test : Token → Bool) → count test left.others + (if test (token kind p (in_message o k)) then 1 else 0) ≡ count test s.ledger
    tokens_for test = left.parts (λ x. if test x then 1 else 0)

    held_same : (task : ℕ) (c : Kind) (q : ℕ) → count (is_held task c q) left.others ≡ count (is_held task c q) s.ledger
    held_same task c q = let m = tokens_for (is_held task c q) in let z = both_test (is_of c q (token kind p (in_message o k))) false (inr refl) in omega (arith, m, z)

    references_left : ReferencesAgree w.spaces left.others
    references_left = record { references = λ task name x q is named. let r = a.rights.references task name x q is named in (held_same task receive q ∙ r.0, held_same task send q ∙ r.1) }

    total_left : w.ledger.total - 1 ≡ length left.others
    total_left = let m = left.parts (λ x. 1) in let t = a.total in let b = length-weigh s.ledger in let c = length-weigh left.others in omega (arith, m, t, b, c)

    requests_left : RequestsAgree (notify_of w.requests) w.requests.names.went w.ports.made s.stands s.live_port left.others
    requests_left = grind (arith, requests_stay, tokens_for, both_test)

  -- ---- a send right

  pub send_lost : (left : Without (token send p (in_message o k)) s.ledger) → Agrees (record w { ledger = taken w.ledger p right.Send 1 }) (record s { ledger = left.others })
  send_lost left = record {
    spaces = a.spaces;
    rights = references_left send left;
    live_port = a.live_port;
    ports_made = a.ports_made;
    ports = λ q v is. let b = a.ports q v is in record { waiting = b.waiting; limit = b.limit; make_send = b.make_send; sequence = b.sequence; sets = b.sets };
    counts = right_taken w.ledger s.live_port s.ledger (onces_queued s) a.counts send p (in_message o k) live (λ e. (cc)) left.others left.parts;
    total = total_left send left;
    in_sets = a.in_sets;
    of_requests = requests_left send left;
  }

  -- ---- a receive right

  pub receive_lost : (left : Without (token receive p (in_message o k)) s.ledger) (v : PortView Kept) → port_at w p ≡ Some v → (lost : List ℕ) →
      Agrees (record w { ports = record (with_port w.ports p (held v Nobody)) { lost = lost }; ledger = taken w.ledger p right.Receive 1 }) (record s { ledger = left.others })
  receive_lost left v there lost = record {
    spaces = a.spaces;
    rights = references_left receive left;
    live_port = live_put w.ports.ports p (held v Nobody) s.live_port live a.live_port;
    ports_made = a.ports_made;
    ports = ports_put w.ports.ports p (held v Nobody) (record s { ledger = left.others }) (let b = a.ports p v there in record { waiting = b.waiting; limit = b.limit; make_send = b.make_send; sequence = b.sequence; sets = b.sets })
        (λ q y not is. let b = a.ports q y is in record { waiting = b.waiting; limit = b.limit; make_send = b.make_send; sequence = b.sequence; sets = b.sets });
    counts = right_taken w.ledger s.live_port s.ledger (onces_queued s) a.counts receive p (in_message o k) live (λ e. (cc)) left.others left.parts;
    total = total_left receive left;
    in_sets = a.in_sets;
    of_requests = requests_left receive left;
  }

-- ---- A port's front message is destroyed: the machine's own part, with which the tables agree once what it owes was posted.

-- ---- notices that were posted

pub posted_push : (now : ℕ) (mid : State) (owed : Owed) (x : _) → with_posted now mid (owed ++ x ∷ []) ≡ with_notice now (with_posted now mid owed) x
posted_push now mid [] x = refl
posted_push now mid (y ∷ owed) x = posted_push now (with_notice now mid y) owed x

-- with other rights it is the same state but for these
pub posted_swap : (now : ℕ) (mid : State) (ledger : List Token) (owed : Owed) →
    with_posted now (record mid { ledger = ledger }) owed ≡ record (with_posted now mid owed) { ledger = (with_posted now (record mid { ledger = ledger }) owed).ledger }
posted_swap now mid ledger [] = refl
posted_swap now mid ledger (x ∷ owed) = grind (
  arith,
  posted_swap now (with_notice now mid x) (posted_tokens (record { port = x.0.port; entry = length (mid.log x.0.port); notice = x.1 }) ++ ledger) owed,
)

pub posted_weigh : (now : ℕ) (mid : State) (ledger : List Token) (owed : Owed) (h : Token → ℕ) →
    weigh h (with_posted now (record mid { ledger = ledger }) owed).ledger + weigh h mid.ledger ≡ weigh h (with_posted now mid owed).ledger + weigh h ledger
posted_weigh now mid ledger [] h = omega arith
posted_weigh now mid ledger (x ∷ owed) h =
    let tokens : List Token = posted_tokens (record { port = x.0.port; entry = length (mid.log x.0.port); notice = x.1 }) in
    let e = posted_weigh now (with_notice now mid x) (tokens ++ ledger) owed h in
    let a = weigh-append h tokens mid.ledger in
    let b = weigh-append h tokens ledger in omega (arith, e, a, b)

-- logs grow, and nothing is taken from them
pub posted_within : (now : ℕ) (mid : State) (owed : Owed) (p : ℕ) → mid.taken p ≤ length (mid.log p) → (with_posted now mid owed).taken p ≤ length ((with_posted now mid owed).log p)
posted_within now mid [] p within = within
posted_within now mid (x ∷ owed) p within = posted_within now (with_notice now mid x) owed p (elim (eqb_tells p x.0.port) [
  | inl h ↦
      let entry : Entry = record { origin = now; message = notice_message x.0.port x.1 } in
      let e : (with_notice now mid x).log p ≡ mid.log p ++ entry ∷ [] = ap (with_notice now mid x).log h.1 ∙ at_own mid.log x.0.port (mid.log x.0.port ++ entry ∷ []) ∙ ap (λ (q : ℕ). mid.log q ++ entry ∷ []) (sym h.1) in
      let l = ap length e ∙ length-append (mid.log p) (entry ∷ []) in omega (arith, within, l)
  | inr h ↦ (let e = ap length (at_other mid.log x.0.port (mid.log x.0.port ++ record { origin = now; message = notice_message x.0.port x.1 } ∷ []) p h.1) in omega (arith, within, e))
])

pub posted_live : (now : ℕ) (mid : State) (owed : Owed) → (with_posted now mid owed).live_port ≡ mid.live_port
posted_live now mid [] = refl
posted_live now mid (x ∷ owed) = posted_live now (with_notice now mid x) owed

-- ---- one right more is lost

unused_push : (gone : List Token) (x : Token) → unused_among (gone ++ x ∷ []) ≡ unused_among gone ++ unused_among (x ∷ [])
unused_push gone x = grind (arith, filter-append, map-append)

-- What is so while the rights of a message are lost that was taken from this entry, from the state t: these are still to be lost.
pub record IsLosing (now o k : ℕ) (t : State) (cs : List Carried) (u : WorldView) : Type 0 where
  pub mid : State
  pub gone : List Token
  pub rest : mid ≡ record t { ledger = mid.ledger }
  pub moves : (h : Token → ℕ) → weigh h mid.ledger + weigh h gone ≡ weigh h t.ledger
  pub passed : All (λ x. same_place (in_message o k) x.place ≡ true) gone
  pub agrees : Agrees u (with_posted now mid (unused_among gone))
  pub lie : (kind : Kind) (q : ℕ) → t.live_port q ≡ true → lying mid kind q (in_message o k) ≡ rights_for kind q cs
  pub can : CanLoseAll u cs

module _ (now o k : ℕ) (t : State) (within : (q : ℕ) → t.taken q ≤ length (t.log q)) (c : Carried) (cs : List Carried) (u : WorldView) (x : IsLosing now o k t (c ∷ cs) u) where
  abbrev kind : Kind
  kind = kind_sent c.given

  live_same : (q : ℕ) → t.live_port q ≡ true → (with_posted now x.mid (unused_among x.gone)).live_port q ≡ true
  live_same q live = ap (λ (f : ℕ → Bool). f q) (posted_live now x.mid (unused_among x.gone)) ∙ ap (λ (s : State). s.live_port q) x.rest ∙ live

  -- where nothing was lost
  stays : (v : WorldView) → v ≡ u → ((of : Kind) (q : ℕ) → t.live_port q ≡ true → one_for of q kind c.mark ≡ 0) → CanLoseAll v cs → IsLosing now o k t cs v
  stays v same none can = record {
    mid = x.mid;
    gone = x.gone;
    rest = x.rest;
    moves = x.moves;
    passed = x.passed;
    agrees = subst (λ (w : WorldView). Agrees w (with_posted now x.mid (unused_among x.gone))) (sym same) x.agrees;
    lie = λ of q live. let l = x.lie of q live in let z = none of q live in omega (arith, l, z);
    can = can;
  }

  -- a right for a port that lives
  module _ (p : ℕ) (is : c.mark ≡ mark.Port p) (live : t.live_port p ≡ true) where
    abbrev going : Token
    going = token kind p (in_message o k)

    own : one_for kind p kind (mark.Port p) ≡ 1
    own = grind (arith, cases_Bool)

    lies_destroyed : 0 < lying x.mid kind p (in_message o k)
    lies_destroyed = let l = x.lie kind p live in let e : one_for kind p kind c.mark ≡ 1 = ap (one_for kind p kind) is ∙ own in omega (arith, l, e)

    left_destroyed : Without going x.mid.ledger
    left_destroyed = take_lying o k kind p x.mid.ledger lies_destroyed

    abbrev after : State
    after = record x.mid { ledger = left_destroyed.others }

    abbrev before_posted : State
    before_posted = with_posted now x.mid (unused_among x.gone)

    abbrev after_posted : State
    after_posted = with_posted now after (unused_among x.gone)

    swapped : after_posted ≡ record before_posted { ledger = after_posted.ledger }
    swapped = posted_swap now x.mid left_destroyed.others (unused_among x.gone)

    parts_after : (h : Token → ℕ) → weigh h after_posted.ledger + h going ≡ weigh h before_posted.ledger
    parts_after h = let a = posted_weigh now x.mid left_destroyed.others (unused_among x.gone) h in let b = left_destroyed.parts h in omega (arith, a, b)

    abbrev without : (of : Kind) → kind ≡ of → Without (token of p (in_message o k)) before_posted.ledger
    without of e = record {
      others = after_posted.ledger;
      parts = λ h. subst (λ (a : Kind). weigh h after_posted.ledger + h (token a p (in_message o k)) ≡ weigh h before_posted.ledger) e (parts_after h);
    }

    lie_after : (of : Kind) (q : ℕ) → t.live_port q ≡ true → lying after of q (in_message o k) ≡ rights_for of q cs
    lie_after of q live_q = grind (arith, left_destroyed, at_entry)

    lost : (v : WorldView) → Agrees v (with_posted now after (unused_among (x.gone ++ going ∷ []))) → CanLoseAll v cs → IsLosing now o k t cs v
    lost v agrees can = record {
      mid = after;
      gone = x.gone ++ going ∷ [];
      rest = λ i. record (x.rest i) { ledger = left_destroyed.others };
      moves = λ h. let a = x.moves h in let b = left_destroyed.parts h in let c = weigh-append h x.gone (going ∷ []) in omega (arith, a, b, c);
      passed = All-push (λ y. same_place (in_message o k) y.place ≡ true) x.gone going x.passed (place_refl (in_message o k));
      agrees = agrees;
      lie = lie_after;
      can = can;
    }

    -- one that goes without a notice
    silent : same_kind send_once kind ≡ false → (v : WorldView) → Agrees v (record before_posted { ledger = after_posted.ledger }) → Agrees v (with_posted now after (unused_among (x.gone ++ going ∷ [])))
    silent not v a = grind (arith, unused_push, append-nil, swapped)

    by_kind : (of : Kind) → kind ≡ of → CanLoseRight u of p → (v : WorldView) → LosesRight u of p v → Agrees v (with_posted now after (unused_among (x.gone ++ going ∷ [])))
    by_kind send e can v loses = silent (ap (same_kind send_once) e) v
        (noted_agrees (record u { ledger = taken u.ledger p right.Send 1 }) v p loses (record before_posted { ledger = after_posted.ledger })
        (send_lost u before_posted x.agrees o k p (live_same p live) (without send e)))
    by_kind receive e can v loses = silent (ap (same_kind send_once) e) v
        (subst (λ (w : WorldView). Agrees w (record before_posted { ledger = after_posted.ledger })) (sym loses.rest)
        (receive_lost u before_posted x.agrees o k p (live_same p live) (without receive e) loses.v loses.there (u.ports.lost ++ p ∷ [])))
    by_kind send_once e can v loses =
        let grown = posted_within now x.mid (unused_among x.gone) p (subst (λ (s : State). s.taken p ≤ length (s.log p)) (sym x.rest) (within p)) in
        let told = told_agrees u before_posted x.agrees p notice.SendOnce v loses now grown can.paid (in_message o k) (λ r. refl) (length (before_posted.log p))
        (token send_once p (in_message p (length (before_posted.log p))) ∷ (without send_once e).others) (λ h. let m = (without send_once e).parts h in omega (arith, m)) in
        let one : unused_among (going ∷ []) ≡ (going, right_unused) ∷ [] = once (ap (same_kind send_once) e) in
        let owed : unused_among (x.gone ++ going ∷ []) ≡ unused_among x.gone ++ (going, right_unused) ∷ [] = unused_push x.gone going ∙ ap (λ (ys : Owed). unused_among x.gone ++ ys) one in
        let is : with_posted now after (unused_among (x.gone ++ going ∷ [])) ≡ with_notice now (record before_posted { ledger = after_posted.ledger }) (going, right_unused) =
        ap (with_posted now after) owed ∙ posted_push now after (unused_among x.gone) (going, right_unused) ∙ ap (λ (s : State). with_notice now s (going, right_unused)) swapped in
        subst (Agrees v) (sym is) told
      where
        once : same_kind send_once kind ≡ true → unused_among (going ∷ []) ≡ (going, right_unused) ∷ []
        once e = rw e refl

  -- What a right that was lost leaves is so for those behind it.
  pub one_lost : (v : WorldView) → LosesMark u kind c.mark v → IsLosing now o k t cs v
  one_lost v loses = go c.mark refl loses
    where
      can : CanLoseAll v cs
      can = can_later u c cs x.can v loses

      is_there : (p : ℕ) → is_some (port_at u p) ≡ t.live_port p
      is_there p = x.agrees.live_port p ∙ ap (λ (f : ℕ → Bool). f p) (posted_live now x.mid (unused_among x.gone)) ∙ ap (λ (s : State). s.live_port p) x.rest

      -- a right for a dead port is none for a port that lives
      none : (p : ℕ) → t.live_port p ≡ false → (of : Kind) (q : ℕ) → t.live_port q ≡ true → one_for of q kind (mark.Port p) ≡ 0
      none p dead of q live = zero_of (same_kind of kind) (ne_eqb p q (λ e. (let a : true ≡ false = sym live ∙ ap t.live_port (sym e) ∙ dead in cc)))
        where
          zero_of : (b : Bool) → (p == q) ≡ false → (if b && p == q then 1 else 0) ≡ zero
          zero_of true e = rw e refl
          zero_of false e = refl

      by : (p : ℕ) (b : Bool) → c.mark ≡ mark.Port p → is_some (port_at u p) ≡ b → MatchBool b (LosesRight u kind p v) (v ≡ u) → IsLosing now o k t cs v
      by p true is there lost_so =
          let live : t.live_port p ≡ true = sym (is_there p) ∙ there in
          lost p is live v (by_kind p is live kind refl (can_kind u c cs x.can kind p refl is there) v lost_so) can
      by p false is there same =
          let dead : t.live_port p ≡ false = sym (is_there p) ∙ there in
          stays v same (λ of q live. ap (one_for of q kind) is ∙ none p dead of q live) can

      go : (m : Mark) → c.mark ≡ m → LosesMark u kind m v → IsLosing now o k t cs v
      go (mark.Port p) is lost_so = by p (is_some (port_at u p)) is refl lost_so
      go mark.Null is same = stays v same (λ of q live. ap (one_for of q kind) is) can
      go mark.Dead is same = stays v same (λ of q live. ap (one_for of q kind) is) can

-- ---- A message's rights are lost one after the other: what is so at the first is so after the last, and the ports that were lost are listed.

-- The ports that were lost are those that are there and have no receive right.
pub record ListsLost (u : WorldView) : Type 0 where
  pub there : (q : ℕ) → Contains u.ports.lost q → is_some (port_at u q) ≡ true
  pub none : (q : ℕ) → Contains u.ports.lost q → (counts_of u.ledger q).receive ≡ 0
  pub listed : (q : ℕ) → is_some (port_at u q) ≡ true → (counts_of u.ledger q).receive ≡ 0 → Contains u.ports.lost q

module _ (u v : WorldView) (l : ListsLost u) (live : (q : ℕ) → is_some (port_at v q) ≡ is_some (port_at u q)) where
  -- no receive right went
  lists_same : ((q : ℕ) → (counts_of v.ledger q).receive ≡ (counts_of u.ledger q).receive) → v.ports.lost ≡ u.ports.lost → ListsLost v
  lists_same same lost = record {
    there = λ q c. live q ∙ l.there q (subst (λ (xs : List ℕ). Contains xs q) lost c);
    none = λ q c. same q ∙ l.none q (subst (λ (xs : List ℕ). Contains xs q) lost c);
    listed = λ q is none. subst (λ (xs : List ℕ). Contains xs q) (sym lost) (l.listed q (sym (live q) ∙ is) (sym (same q) ∙ none));
  }

  -- the receive right of this port went
  module _ (p : ℕ) (is : is_some (port_at u p) ≡ true) (few : (counts_of u.ledger p).receive ≤ 1) where
    lists_more : ((q : ℕ) → (counts_of v.ledger q).receive + one_for receive q receive (mark.Port p) ≡ (counts_of u.ledger q).receive) → v.ports.lost ≡ u.ports.lost ++ p ∷ [] → ListsLost v
    lists_more less lost = record {
      there = λ q c. elim (Contains-append_cases u.ports.lost (p ∷ []) q (subst (λ (xs : List ℕ). Contains xs q) lost c)) [
        | inl b ↦ live q ∙ l.there q b
        | inr b ↦ live q ∙ subst (λ (x : ℕ). is_some (port_at u x) ≡ true) (sym (listed_one p q b)) is
      ];
      none = λ q c. elim (Contains-append_cases u.ports.lost (p ∷ []) q (subst (λ (xs : List ℕ). Contains xs q) lost c)) [
        | inl b ↦ (let n = l.none q b in let m = less q in omega (arith, n, m))
        | inr b ↦ subst (λ (x : ℕ). (counts_of v.ledger x).receive ≡ 0) (sym (listed_one p q b)) (let m = less p in let own = own_one receive p in omega (arith, m, own, few))
      ];
      listed = λ q there none. subst (λ (xs : List ℕ). Contains xs q) (sym lost) (elim (eqb_tells q p) [
        | inl h ↦ Contains-append_right u.ports.lost (p ∷ []) q (0, omega arith, sym h.1)
        | inr h ↦ Contains-append_left u.ports.lost (p ∷ []) q
            (l.listed q (sym (live q) ∙ there) (let m = less q in let z = elsewhere q h.1 in omega (arith, m, z, none)))
      ]);
    }
      where
        elsewhere : (q : ℕ) → (q ≡ p → ⊥) → one_for receive q receive (mark.Port p) ≡ 0
        elsewhere q not = zero_of (ne_eqb p q (λ e. not (sym e)))
          where
            zero_of : (p == q) ≡ false → (if p == q then 1 else 0) ≡ zero
            zero_of e = rw e refl

-- ---- one right

module _ (u : WorldView) (c : Carried) (cs : List Carried) (a : CanLoseAll u (c ∷ cs)) (l : ListsLost u) (p : ℕ) (v : WorldView) where
  right_listed : (kind : Kind) → CanLoseRight u kind p → LosesRight u kind p v → ListsLost v
  right_listed send can x =
      let counts = with_fewer right.Send 1 (counts_of u.ledger p) in
      let ports : v.ports.ports ≡ u.ports.ports = ap (λ (y : WorldView). y.ports.ports) x.rest in
      lists_same u v l (λ q. ap (λ m. is_some (map.get m q)) ports)
      (λ q. let f = fewer u.ledger p counts v.ledger (ap (λ (y : WorldView). y.ledger.counts) x.rest) receive send (λ (y : Counts). y.receive) (omega arith) q in omega (arith, f))
      (ap (λ (y : WorldView). y.ports.lost) x.rest)
  right_listed receive can x =
      let counts = with_fewer right.Receive 1 (counts_of u.ledger p) in
      let some = can.counted in
      let ports : v.ports.ports ≡ map.insert u.ports.ports p (held x.v Nobody) = ap (λ (y : WorldView). y.ports.ports) x.rest in
      lists_more u v l
      (λ q. ap (λ m. is_some (map.get m q)) ports ∙ each_put u.ports.ports p (Some (held x.v Nobody)) (λ n o. is_some o ≡ is_some (port_at u n)) (sym (ap is_some x.there)) (λ n not. refl) q)
      p (ap is_some x.there) (a.one_each p)
      (fewer u.ledger p counts v.ledger (ap (λ (y : WorldView). y.ledger.counts) x.rest) receive receive (λ (y : Counts). y.receive) (let own = own_one receive p in omega (arith, own, some)))
      (ap (λ (y : WorldView). y.ports.lost) x.rest)
  right_listed send_once can x =
      let counts = one_shifted (counts_of u.ledger p) in
      let ports : v.ports.ports ≡ map.insert u.ports.ports p _ = ap (λ (y : WorldView). y.ports.ports) x.rest in
      lists_same u v l
      (λ q. ap (λ m. is_some (map.get m q)) ports ∙ each_put u.ports.ports p (Some _) (λ n o. is_some o ≡ is_some (port_at u n)) (sym (ap is_some x.there)) (λ n not. refl) q)
      (λ q. let f = fewer u.ledger p counts v.ledger (ap (λ (y : WorldView). y.ledger.counts) x.rest) receive send_once (λ (y : Counts). y.receive) (omega arith) q in omega (arith, f))
      (ap (λ (y : WorldView). y.ports.lost) x.rest)

pub one_listed : (u : WorldView) (c : Carried) (cs : List Carried) → CanLoseAll u (c ∷ cs) → ListsLost u → (v : WorldView) → LosesMark u (kind_sent c.given) c.mark v → ListsLost v
one_listed u c cs a l v loses = go c.mark refl loses
  where
    by : (p : ℕ) (b : Bool) → c.mark ≡ mark.Port p → is_some (port_at u p) ≡ b → MatchBool b (LosesRight u (kind_sent c.given) p v) (v ≡ u) → ListsLost v
    by p true is live x = right_listed u c cs a l p v (kind_sent c.given) (can_kind u c cs a (kind_sent c.given) p refl is live) x
    by p false is live same = subst ListsLost (sym same) l

    go : (m : Mark) → c.mark ≡ m → LosesMark u (kind_sent c.given) m v → ListsLost v
    go (mark.Port p) is x = by p (is_some (port_at u p)) is refl x
    go mark.Null is same = subst ListsLost (sym same) l
    go mark.Dead is same = subst ListsLost (sym same) l

-- ---- all of them

pub losing_all : (now o k : ℕ) (t : State) → ((q : ℕ) → t.taken q ≤ length (t.log q)) → (cs : List Carried) (u v : WorldView) → IsLosing now o k t cs u → LosesAll u cs v → IsLosing now o k t [] v
losing_all now o k t within [] u v x all = subst (IsLosing now o k t []) (sym all) x
losing_all now o k t within (c ∷ cs) u v x all = losing_all now o k t within cs all.0 v (one_lost now o k t within c cs u x all.0 all.1) all.2

pub sound_all : (w : WorldView) (cs : List Carried) (u v : WorldView) → Sound w cs u → LosesAll u cs v → Sound w [] v
sound_all w [] u v s all = subst (Sound w []) (sym all) s
sound_all w (c ∷ cs) u v s all = sound_all w cs all.0 v (one_sound w c cs u s all.0 all.1) all.2

pub listed_all : (cs : List Carried) (u v : WorldView) → CanLoseAll u cs → ListsLost u → LosesAll u cs v → ListsLost v
listed_all [] u v a l all = subst ListsLost (sym all) l
listed_all (c ∷ cs) u v a l all = listed_all cs all.0 v (can_later u c cs a all.0 all.1) (one_listed u c cs a l all.0 all.1) all.2

-- ---- A port's front message can be destroyed in tables that show a state: what is so once it was taken, before its rights are lost.

-- ---- the rights for a port

one_counted : (kind : Kind) (q : ℕ) (given : Kind) (m : Mark) → one_for kind q given m ≡ mark_count kind q given (mark_of m)
one_counted kind q given (mark.Port p) = refl
one_counted kind q given mark.Null = refl
one_counted kind q given mark.Dead = refl

pub rights_counted : (kind : Kind) (q : ℕ) (cs : List Carried) → rights_for kind q cs ≡ rights_count kind q (rights_of cs)
rights_counted kind q [] = refl
rights_counted kind q (c ∷ cs) = let a = one_counted kind q (kind_sent c.given) c.mark in let b = rights_counted kind q cs in omega (arith, a, b)

abbrev carried_as : Disposition → Mark → Carried
carried_as d m = record { given = d; mark = m }

module _ (q : ℕ) where
  -- it is the port's receive right, that was moved
  moved : (d : Disposition) (m : Mark) → 0 < one_for receive q (kind_sent d) m → (d ≡ MoveReceive) × (m ≡ mark.Port q)
  moved MoveReceive (mark.Port p) some = grind arith
  moved MoveSend (mark.Port p) some = absurd (omega (arith, some))
  moved MoveSendOnce (mark.Port p) some = absurd (omega (arith, some))
  moved CopySend (mark.Port p) some = absurd (omega (arith, some))
  moved MakeSend (mark.Port p) some = absurd (omega (arith, some))
  moved MakeSendOnce (mark.Port p) some = absurd (omega (arith, some))
  moved d mark.Null some = absurd (omega (arith, some))
  moved d mark.Dead some = absurd (omega (arith, some))

  carried_one : (cs : List Carried) → 0 < rights_for receive q cs → Contains cs (record { given = MoveReceive; mark = mark.Port q })
  carried_one [] some = absurd (omega (arith, some))
  carried_one (c ∷ cs) some = go (one_for receive q (kind_sent c.given) c.mark) refl (λ more. carried_one cs more)
    where
      here : (d : Disposition) (m : Mark) → d ≡ MoveReceive → m ≡ mark.Port q → carried_as d m ≡ carried_as MoveReceive (mark.Port q)
      here d m given is = ap (λ (y : Disposition). carried_as y m) given ∙ ap (λ (y : Mark). carried_as MoveReceive y) is

      go : (n : ℕ) → one_for receive q (kind_sent c.given) c.mark ≡ n → (0 < rights_for receive q cs → Contains cs (record { given = MoveReceive; mark = mark.Port q })) →
          Contains (c ∷ cs) (record { given = MoveReceive; mark = mark.Port q })
      go zero e later = listed_later c cs (record { given = MoveReceive; mark = mark.Port q }) (later (omega (arith, some, e)))
      go (suc n) e later = (0, omega arith, (let so = moved c.given c.mark (omega (arith, e)) in here c.given c.mark so.0 so.1))

  -- the right to answer with is none
  reply_none : (o : Option Carried) → ((c : Carried) → o ≡ Some c → c.given ≢ MoveReceive) → rights_for receive q (option_to_list o) ≡ 0
  reply_none None not = refl
  reply_none (Some c) not = go (one_for receive q (kind_sent c.given) c.mark) refl
    where
      go : (n : ℕ) → one_for receive q (kind_sent c.given) c.mark ≡ n → rights_for receive q (c ∷ []) ≡ 0
      go zero e = omega (arith, e)
      go (suc n) e = absurd (not c refl (moved c.given c.mark (omega (arith, e))).0)

rights_join : (kind : Kind) (q : ℕ) (xs ys : List Carried) → rights_for kind q (xs ++ ys) ≡ rights_for kind q xs + rights_for kind q ys
rights_join kind q [] ys = omega arith
rights_join kind q (x ∷ xs) ys = let r = rights_join kind q xs ys in omega (arith, r)

can_be_held : (h : Holder) (p : ℕ) → h ≡ QueueOf p → CanHold h
can_be_held h p is = subst CanHold (sym is) tt

-- ---- the front message was taken

module _ (w : WorldView) (s : State) (sh : Shows w s) (now p : ℕ) (t : WorldView) (f : TakesFront w p t) (v : WorldView) (n : NotesFront t p f.front v) where
  abbrev a : Agrees w s
  a = sh.agrees

  abbrev l : IsLawful s
  l = sh.lawful

  abbrev k : ℕ
  k = s.taken p

  abbrev pub rights : List Carried
  rights = option_to_list f.front.reply ++ f.front.rights

  abbrev is : HasFront p f.front f.behind (queue s p)
  is = front w s a l p t f

  abbrev pub start : State
  start = taken_state w s a l p t f

  pub moving : IsMoving start p (s.taken p)
  moving = taken_moving s p is.first start.ledger l (port_lives w s a l p t f) (shown_is_front w s a p f.v f.there f.front f.behind f.queue) (taken_moves w s a l p t f)

  lying_are : (kind : Kind) (q : ℕ) → start.live_port q ≡ true → lying start kind q (in_message p k) ≡ rights_for kind q rights
  lying_are kind q live =
      let c = lies s p is.first start.ledger l (port_lives w s a l p t f) (shown_is_front w s a p f.v f.there f.front f.behind f.queue) (taken_moves w s a l p t f) kind q live in
      c ∙ ap (rights_count kind q) (message_kept p f.front is.first.message is.keeps) ∙ sym (rights_counted kind q rights)

  outside : IsOutside start p k
  outside = inl (let own : start.taken p ≡ s.taken p + 1 = at_own s.taken p (s.taken p + 1) in omega (arith, own))

  noted : (P : WorldView → Type 0) → (NotesSenderless t p v → P v) → P t → P v
  noted P kept before = by_note P f.front.by_once t v p kept before n

  agrees : Agrees v start
  agrees = noted (λ x. Agrees x start) (λ y. noted_agrees t v p y start (front_agrees w s a l p t f)) (front_agrees w s a l p t f)

  is_live : (q : ℕ) → is_some (port_at v q) ≡ true → start.live_port q ≡ true
  is_live q there = sym (agrees.live_port q) ∙ there

  none_lost : NoneLost v
  none_lost = let before = front_none_lost w t p f sh.idle.none_lost in noted NoneLost (λ y. noted_none_lost t v p y before) before

  -- ---- what it carries can be lost

  -- so many lie there, and are counted
  few : (kind : Kind) (q : ℕ) → is_some (port_at v q) ≡ true → rights_for kind q rights ≤ count (is_of kind q) start.ledger
  few kind q there = let e = lying_are kind q (is_live q there) in let le = lying_le_of start kind q (in_message p k) in omega (arith, e, le)

  past : k < start.taken p
  past = let own : start.taken p ≡ s.taken p + 1 = at_own s.taken p (s.taken p + 1) in omega (arith, own)

  once_few : (q : ℕ) → is_some (port_at v q) ≡ true → rights_for send_once q rights ≤ (counts_of v.ledger q).send_once
  once_few q there =
      let live = is_live q there in
      let e = lying_are send_once q live in
      let c = (agrees.counts q).once_rights in
      let d = (agrees.counts q).destinations live in
      let m = lying_and_queued start p k moving past q live in
      omega (arith, e, c, d, m)

  -- a port's holder is as it was
  same_holder : KeepHolders w.ports.ports v.ports.ports
  same_holder = grind (arith, noted, put_holders)

  held_here : (q : ℕ) (x : PortView Kept) → port_at v q ≡ Some x → 0 < rights_for receive q rights → CanHold x.attributes.holder
  held_here q x there some =
      let none = reply_none q f.front.reply is.keeps.reply_sent in
      let join = rights_join receive q (option_to_list f.front.reply) f.front.rights in
      let body = carried_one q f.front.rights (omega (arith, some, none, join)) in
      let h = same_holder q x there in
      can_be_held x.attributes.holder p (sym h.is ∙ sh.carriers.carried p f.v f.front q f.there
      (subst (λ (ms : List Kept). Contains ms f.front) (sym f.queue) (0, omega arith, refl)) body h.v h.there)

  pub can_lose : CanLoseAll v rights
  can_lose = grind (arith, agrees, is_live, front_slots, noted, noted_slots, few, one_at_most, moving, once_few, held_here)

  -- ---- and that is so of which one right more is lost, and then the next

  pub is_losing : IsLosing now p (s.taken p) start rights v
  is_losing = record {
    mid = start;
    gone = [];
    rest = refl;
    moves = λ h. omega arith;
    passed = λ i d below. absurd (omega (arith, below));
    agrees = agrees;
    lie = lying_are;
    can = can_lose;
  }

  lies_some : (q : ℕ) → is_some (port_at v q) ≡ true → 0 < rights_for receive q rights → 0 < lying start receive q (in_message p k)
  lies_some q there some = let e = lying_are receive q (is_live q there) in omega (arith, e, some)

  pub is_sound : Sound w rights v
  is_sound = record {
    holders = noted HoldersAgree (λ y. noted_holders t v p y (front_holders w p t f sh.holders)) (front_holders w p t f sh.holders);
    carriers = noted CarriersAgree (λ y. noted_carriers t v p y (front_carriers w p t f sh.carriers)) (front_carriers w p t f sh.carriers);
    requested = noted RequestsStand (λ y. noted_requested t v p y (front_requested w p t f sh.requested)) (front_requested w p t f sh.requested);
    notes = front_notes w s sh p t f t (keeps_senders_refl t) v n;
    had = λ q there some.
        let m = few send q there in
        let c = (a.counts q).senders in
        let less = (left w s a l p t f).parts (λ x. if is_of send q x then 1 else 0) in omega (arith, some, m, c, less);
    uncarried = λ q there some r x. none_carries v start agrees p k moving outside q (is_live q there) (lies_some q there some) r x;
    unheld = λ q there some task x.
        let one = one_at_most start.live_port start.ledger moving.one_receive moving.no_rights q in
        unheld v start agrees task q (unheld_lying start task q p k one (lies_some q there some)) x;
    doomed = none_lost.doomed;
    destroyed = none_lost.destroyed;
  }

  pub lists_none : ListsLost v
  lists_none = grind (arith, none_listed, none_lost, moving, is_live, agrees)

-- A message that waits in tables that show a state can be destroyed.
pub can_destroy : (w : WorldView) (s : State) → Shows w s → (p : ℕ) (x : PortView Kept) → port_at w p ≡ Some x → (m : Kept) (behind : List Kept) → x.queue ≡ m ∷ behind → CanDestroy w p
can_destroy w s sh p x there m behind queued = record {
  waits = waits w s sh p x there m behind queued;
  later = λ t v takes notes. can_lose w s sh 0 p t takes v notes;
}

-- ---- A port's front message was destroyed: the machine's own part, what the tables agree with once what it owes was posted, and what is left to the step's end.

-- a notice that a right was unused brings no receive right
posted_receives : (now : ℕ) (mid : State) (xs : List Token) (q : ℕ) → count (is_of receive q) (with_posted now mid (list_map (λ (x : Token). (x, right_unused)) xs)).ledger ≡ count (is_of receive q) mid.ledger
posted_receives now mid [] q = refl
posted_receives now mid (x ∷ xs) q = let r = posted_receives now (with_notice now mid (x, right_unused)) xs q in omega (arith, r)

kind_refl : (kind : Kind) → same_kind kind kind ≡ true
kind_refl receive = refl
kind_refl send = refl
kind_refl send_once = refl

own_token : (place : Place) (x : Token) → same_place place x.place ≡ true → (is_of x.kind x.port x && same_place place x.place) ≡ true
own_token place x at = rw (kind_refl x.kind, eq-eqb x.port x.port refl, at) refl

-- where no right of any kind lies at the place, no token does
none_at : (place : Place) (xs : List Token) → ((kind : Kind) (q : ℕ) → count (λ x. is_of kind q x && same_place place x.place) xs ≡ 0) → count (λ x. same_place place x.place) xs ≡ 0
none_at place xs none = count_none (λ x. same_place place x.place) xs (λ i d below at.
    let x : Token = get_or xs i d in
    let some = count_some (λ y. is_of x.kind x.port y && same_place place y.place) xs i d below (own_token place x at) in
    let zero = none x.kind x.port in
    omega (arith, some, zero))

-- What the machine did, with which the tables agree once what it owes was posted, and what the step's end has to do.
pub record MessageDestroyed (now : ℕ) (w : WorldView) (s : State) (port : ℕ) (new : WorldView) : Type 0 where
  pub kept : Kept
  pub e : Entry
  pub mid : State
  pub owed : Owed
  pub keeps : Keeps port kept e.message
  pub front : IsFront s port e
  pub destroys : DestroysFront port e s mid owed
  pub agrees : Agrees new (with_posted now mid owed)
  pub holders : HoldersAgree new
  pub carriers : CarriersAgree new
  pub slots : SlotsSuffice new
  pub requested : RequestsStand new
  pub notes : NotesSenders w new
  pub left : IsLeft new mid

module _ (w : WorldView) (s : State) (sh : Shows w s) (now p : ℕ) (t : WorldView) (f : TakesFront w p t) (v : WorldView) (n : NotesFront t p f.front v) (new : WorldView)
    (x : IsLosing now p (s.taken p) (start w s sh now p t f v n) [] new) (y : Sound w [] new) (z : ListsLost new) where
  abbrev from : State
  from = start w s sh now p t f v n

  abbrev place : Place
  place = in_message p (s.taken p)

  fewer_ended : (kind : Kind) (q : ℕ) → count (is_of kind q) x.mid.ledger ≤ count (is_of kind q) from.ledger
  fewer_ended kind q = let m = x.moves (λ y. if is_of kind q y then 1 else 0) in omega (arith, m)

  none_lies : (kind : Kind) (q : ℕ) → lying x.mid kind q place ≡ 0
  none_lies kind q = elim (cases_Bool (from.live_port q)) [
    | inl live ↦ x.lie kind q live
    | inr dead ↦
        let none = (moving w s sh now p t f v n).no_rights q dead kind in
        let few = fewer_ended kind q in
        let le = count_le (λ y. is_of kind q y && same_place place y.place) (is_of kind q) (λ y. left_of (is_of kind q y) (same_place place y.place)) x.mid.ledger in
        omega (arith, none, few, le)
  ]

  destroys_front : DestroysFront p (front w s sh.agrees sh.lawful p t f).first s x.mid (unused_among x.gone)
  destroys_front = record {
    taken = from;
    takes = record { front = shown_is_front w s sh.agrees p f.v f.there f.front f.behind f.queue; rest = refl; tokens = taken_moves w s sh.agrees sh.lawful p t f };
    loses = record { gone = x.gone; moves = λ h. let m = x.moves h in omega (arith, m); passed = x.passed; none_left = none_at place x.mid.ledger none_lies };
    rest = x.rest;
    owed_are = refl;
  }

  receives : (q : ℕ) → (counts_of new.ledger q).receive ≡ count (is_of receive q) x.mid.ledger
  receives q = (x.agrees.counts q).receivers ∙ posted_receives now x.mid (filter (λ (y : Token). same_kind send_once y.kind) x.gone) q

  is_live_ended : (q : ℕ) → is_some (port_at new q) ≡ x.mid.live_port q
  is_live_ended q = x.agrees.live_port q ∙ ap (λ (g : ℕ → Bool). g q) (posted_live now x.mid (unused_among x.gone))

  ended : MessageDestroyed now w s p new
  ended = record {
    kept = f.front;
    e = (front w s sh.agrees sh.lawful p t f).first;
    mid = x.mid;
    owed = unused_among x.gone;
    keeps = (front w s sh.agrees sh.lawful p t f).keeps;
    front = shown_is_front w s sh.agrees p f.v f.there f.front f.behind f.queue;
    destroys = destroys_front;
    agrees = x.agrees;
    holders = y.holders;
    carriers = y.carriers;
    slots = x.can.slots;
    requested = y.requested;
    notes = y.notes;
    left = record {
      doomed = y.doomed;
      destroyed = y.destroyed;
      lost = λ q c. (sym (is_live_ended q) ∙ z.there q c, sym (receives q) ∙ z.none q c);
      orphans = λ q o. z.listed q (is_live_ended q ∙ o.0) (receives q ∙ o.1);
    };
  }

-- A message that is destroyed in the tables is destroyed by the machine.
pub message_destroyed : (w : WorldView) (s : State) → Shows w s → (now p : ℕ) (new : WorldView) → DestroysMessage w p new → MessageDestroyed now w s p new
message_destroyed w s sh now p new d =
    let within = (moving w s sh now p d.taken d.takes d.noted d.notes).within in
    let carried = rights w s sh now p d.taken d.takes d.noted d.notes in
    ended w s sh now p d.taken d.takes d.noted d.notes new
    (losing_all now p (s.taken p) (start w s sh now p d.taken d.takes d.noted d.notes) within carried d.noted new (is_losing w s sh now p d.taken d.takes d.noted d.notes) d.loses)
    (sound_all w carried d.noted new (is_sound w s sh now p d.taken d.takes d.noted d.notes) d.loses)
    (listed_all carried d.noted new (can_lose w s sh now p d.taken d.takes d.noted d.notes) (lists_none w s sh now p d.taken d.takes d.noted d.notes) d.loses)
