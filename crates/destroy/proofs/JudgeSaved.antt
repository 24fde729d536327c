-- A port that is to be sent away, and the state once it was.
use Rattle.std.proofs.Common.{◌≡◌, ◌↔◌, ◌<◌, ℕ, zero, suc, Bool, true, false, List, Option, Some, length, refl, sym, ap, subst, ◌∙◌, arith, ◌+◌, ◌≤◌, [], ◌∷◌, ◌++◌, None, ◌⊎◌, inl, inr, get_or, IsTrue}
use Rattle.std.specs.Prelude.{if◌then◌else◌, ◌&&◌, ◌==◌, not, filter, is_some, All, Contains, map as list_map, ◌||◌, slice_get}
use Rattle.std.proofs.lemmas.Bool.{both_ways, eq-eqb}
use Rattle.std.specs.FinMap as map
use Rattle.std.proofs.lemmas.Bool.Decides.{eqb_tells}
use Rattle.std.proofs.lemmas.List.{length-append, length-map, append-nil, append_assoc}
use Rattle.std.proofs.lemmas.List.Elements.{All-head, All-tail}
use Rattle.mach_types.specs.Tokens.{Kind, receive, send_once, port_destroyed, in_task, in_message, in_request, Token, token, count, is_of, weigh, same_kind, Request, no_senders, dead_name, Place, is_held, is_in_task}
use Rattle.mach_types.specs.Numbers.{most_rights}
use Rattle.mach_types.specs.Messages.{Entry}
use Rattle.mach_model.specs.State.{State, at, request_at}
use Rattle.mach_model.specs.Death.{LiesAt, IsSaved, same_place, IsOrphan}
use Rattle.mach_model.specs.Notices.{Owed, Posted, Notice, port_deleted, port_sent, no_more_senders, right_unused, name_died, all_posted_tokens, carried_by, notice_message, posted_tokens}
use Rattle.mach_model.specs.Turns.{Ending, listed, is_among, is_judged, IsFound, lives_after, has_ended, Saves, Begun, owed_in, went_in, PaidForName}
use Rattle.mach_model.proofs.Names.{left_of, pos_or_zero, at_own, at_other, weigh-append, right_of, count_le, length-weigh}
use Rattle.mach_model.proofs.Settling.{is_at}
use Rattle.mach_model.proofs.SettledReceives.{none_tasked, tally-append, of_kind, place_is, and_false}
use Rattle.mach_model.proofs.TurnsMade.{save, save_is, kept_right, is_carried_here, without, without_weigh, parted, all_fewer, is_at_doomed}
use Rattle.mach_model.specs.Lawful.{tally}
use Rattle.mach_model.specs.Settles.{tokens_of}
use Rattle.mach_model.proofs.SettledLawful.{not_longer}
use Rattle.mach_model.proofs.TurnsSettle.{HasPaid, weaker, tokens_joined_settle as tokens_joined}
use Rattle.mach_model.specs.Carried.{lying_among}
use Rattle.rights.specs.Ledger.{counts_of}
use Rattle.rights.specs.declared.Counts.{Counts}
use Rattle.port.specs.Ports.{PortView, PortsView, with_port, NoneQueued}
use Rattle.port.proofs.Keys.{put_here, same_some}
use Rattle.port.specs.declared.Holder.{Holder}
use Rattle.port.specs.declared.Holder.TheVariants as holder
use Rattle.port.specs.Holding.{IsHeldBy}
use Rattle.copyin_base.specs.Kept.{Kept}
use Rattle.copyin_base.specs.Requests.{rights_kept}
use Rattle.copyin_base.specs.Worlds.{WorldView, port_at}
use Rattle.copyin_base.proofs.Written.{tables}
use Rattle.copyin_base.proofs.Gets.{same_found as same_view}
use Rattle.copyin_base.proofs.Counting.{one_of}
use Rattle.notifications.specs.SoFar.{IsHolder, IsWithNobody, posted_so_far, buried_alone, due_so_far, posted_from, entries_at, IsSoFar, AreEntries, AwaitLoss}
use Rattle.notifications.proofs.NoticePosted.{filter_weigh}
use Rattle.destroy.proofs.LoseFrames.{StandsSoFar, stood_if}
use Rattle.destroy.specs.Judging.{GoesTo, IsJudging}
use Rattle.destroy.specs.Between.{Between, IsUnlost}
use Rattle.destroy.proofs.LoseCounts.{left_within, alone_lives, due_more, entries_more, ends_after, ends_are, posted_more}
use Rattle.destroy.proofs.JudgeDoomed.{there_mid, found_now, still_judging, sound, none_posted_here, destroyed_doomed, kept_table}

-- ---- A port that is there was put again, and waits elsewhere.

-- a port as given, where these are the ones that were lost, and these are doomed
abbrev with_waiting : PortsView Kept → (p : ℕ) → PortView Kept → (lost doomed : List ℕ) → PortsView Kept
with_waiting ports p v lost doomed = record (with_port ports p v) { lost = lost; doomed = doomed }

none_told : (n : ℕ) (b : Bool) → (IsTrue b ↔ (0 < n)) → b ≡ false → n ≡ 0
none_told zero b told not = refl
none_told (suc n) b told not = absurd (both_ways b not (told.1 (omega arith)))

module _ (old new : WorldView) (p : ℕ) (v : PortView Kept) (lost doomed : List ℕ) (is : new ≡ record old { ports = with_waiting old.ports p v lost doomed }) where
  -- ... whichever wait there
  pub waits_somewhere : new ≡ record old { ports = with_waiting old.ports p v new.ports.lost new.ports.doomed }
  waits_somewhere = is ∙ (λ i. record old { ports = with_waiting old.ports p v (sym (ap (λ (w : WorldView). w.ports.lost) is) i) (sym (ap (λ (w : WorldView). w.ports.doomed) is) i) })

  -- it has no messages, where it is told that the given port has none
  pub none_waiting : (b : Bool) → (IsTrue b ↔ (0 < length v.queue)) → b ≡ false → NoneQueued new.ports p
  none_waiting b told not q found =
      let given : v ≡ q = same_some v q (sym (put_here old.ports.ports p v) ∙ ap (λ (w : WorldView). map.get w.ports.ports p) (sym is) ∙ found) in
      ap (λ (x : PortView Kept). length x.queue) (sym given) ∙ none_told (length v.queue) b told not

-- ---- A port that nobody holds, and whose request names a port that a task has, is to be sent away: that is a turn.

module _ (now : ℕ) (tables : WorldView) (old mid : State) (owed : Owed) (e : Ending) (w : WorldView) (b : Between now tables old mid owed e w)
    (p n : ℕ) (lost : IsHeldBy w.ports p holder.Nobody) (goes : GoesTo w p n) where
  abbrev s : State
  s = b.tied.state

  abbrev tk : ℕ
  tk = goes.with_task.0

  abbrev u : PortView Kept
  u = goes.with_task.1.view

  pub unjudged : is_judged e p ≡ false
  unjudged = b.unjudged p lost

  pub with_nobody : IsWithNobody s e.destroyed p
  with_nobody = subst (λ (h : Holder). IsHolder s e.destroyed p h) lost.holder_is (b.tied.holders p lost.view lost.there)

  pub found : IsFound mid e p
  found = found_now now tables old mid owed e w b p lost.view lost.there unjudged with_nobody

  pub judging_still : IsJudging mid e
  judging_still = still_judging now tables old mid owed e w b p found unjudged

  -- posted rights lie in messages
  left_there : (test : Token → Bool) → ((kind : Kind) (r q k : ℕ) → test (token kind r (in_message q k)) ≡ false) → count test e.left ≡ count test s.ledger
  left_there test none =
      let a = b.tied.so_far.ledger (λ x. if test x then 1 else 0) in
      let c = none_tasked test none (filter (λ (x : Posted). s.live_port x.port) (posted_so_far mid e)) in
      omega (arith, a, c)

  out : (t : Bool) → (t && false) ≡ false
  out true = refl
  out false = refl

  -- ---- the port that is told

  pub target_live : mid.live_port n ≡ true
  target_live = there_mid now tables old mid owed e w b n u goes.with_task.1.there

  undoomed : listed e.doomed n ≡ false
  undoomed = go (listed e.doomed n) refl
    where
      go : (t : Bool) → listed e.doomed n ≡ t → listed e.doomed n ≡ false
      go false h = h
      go true h = absurd (let a = (b.doomed n u goes.with_task.1.there).1 h in let c : holder.Doomed ≡ holder.Task tk = sym a ∙ goes.with_task.1.holder_is in cc)

  pub target_lives : lives_after mid e n ≡ true
  target_lives = let a = target_live in let c = undoomed in rw (a, c) refl

  pub differs : p ≡ n → ⊥
  differs same =
      let a = same_view (port_at w n) lost.view u (subst (λ (q : ℕ). port_at w q ≡ Some lost.view) same lost.there) goes.with_task.1.there in
      let c : holder.Nobody ≡ holder.Task tk = sym lost.holder_is ∙ ap (λ (x : PortView Kept). x.attributes.holder) a ∙ goes.with_task.1.holder_is in cc

  pub with_task_left : 0 < count (λ x. is_of receive n x && same_place (in_task tk) x.place) e.left
  with_task_left =
      let lies : LiesAt s receive n (in_task tk) = subst (λ (h : Holder). IsHolder s e.destroyed n h) goes.with_task.1.holder_is (b.tied.holders n u goes.with_task.1.there) in
      let same = left_there (λ x. is_of receive n x && same_place (in_task tk) x.place) (λ kind r q k. out (is_of receive n (token kind r (in_message q k)))) in
      omega (arith, lies, same)

  -- ---- the right of the request

  pub kept_there : 0 < count (is_at send_once n (in_request (port_destroyed p))) e.left
  kept_there =
      let a = kept_table now tables old mid owed e w b p unjudged judging_still n target_lives in
      let own : (n == n && lives_after mid e n) ≡ true = let x = eq-eqb n n refl in let y = target_lives in rw (x, y) refl in
      let kept : rights_kept (lives_after mid e) (map.get w.requests.port_destroyed.map p) send_once n ≡ 1 = ap (λ (o : Option ℕ). rights_kept (lives_after mid e) o send_once n) goes.asked ∙ ap (λ (t : Bool). if t then suc zero else zero) own in
      let same = left_there (is_at send_once n (in_request (port_destroyed p))) (λ kind r q k. out (is_of send_once n (token kind r (in_message q k)))) in
      omega (arith, a, kept, same)

  pub stands : mid.stands (port_destroyed p) ≡ true
  stands = left_of (mid.stands (port_destroyed p)) (not (has_ended mid (buried_alone e) (port_destroyed p)))
      (stood_if (is_among e.ended (port_destroyed p)) _ (sym (b.tied.so_far.stands (port_destroyed p)) ∙ b.tied.agrees.of_requests.standing (port_destroyed p) ∙ ap is_some goes.asked))

  abbrev pub saved : IsSaved mid p
  saved = record {
    stands = stands;
    notify = n;
    kept = (let a = kept_there in let c = left_within old mid owed e b.reached (λ x. if is_at send_once n (in_request (port_destroyed p)) x then 1 else 0) in omega (arith, a, c));
    task = tk;
    with_task = (let a = with_task_left in let c = left_within old mid owed e b.reached (λ x. if is_of receive n x && same_place (in_task tk) x.place then 1 else 0) in omega (arith, a, c));
  }

  pub turn : Saves mid e (save n p e)
  turn = save_is mid e p found unjudged saved kept_there

-- ---- There is room for the receive right of an orphan that is sent away.

-- ---- receive rights, by their ports, and the other rights

abbrev ports_of : List Token → List ℕ
ports_of [] = []
ports_of (x ∷ xs) = if same_kind receive x.kind then x.port ∷ ports_of xs else ports_of xs

abbrev others : Token → ℕ
others x = if same_kind receive x.kind then 0 else 1

times_ports : (p : ℕ) (xs : List Token) → tally (λ x. x == p) (ports_of xs) ≡ count (is_of receive p) xs
times_ports p [] = omega arith
times_ports p (x ∷ xs) = go (same_kind receive x.kind) (times_ports p xs)
  where
    go : (b : Bool) → tally (λ x. x == p) (ports_of xs) ≡ count (is_of receive p) xs → tally (λ x. x == p) (if b then x.port ∷ ports_of xs else ports_of xs) ≡ (if b && x.port == p then 1 else 0) + count (is_of receive p) xs
    go true ih = omega (arith, ih)
    go false ih = omega (arith, ih)

in_two : (xs : List Token) → length xs ≡ weigh others xs + length (ports_of xs)
in_two [] = omega arith
in_two (x ∷ xs) = go (same_kind receive x.kind) (in_two xs)
  where
    go : (b : Bool) → length xs ≡ weigh others xs + length (ports_of xs) → suc (length xs) ≡ (if b then 0 else 1) + weigh others xs + length (if b then x.port ∷ ports_of xs else ports_of xs)
    go true ih = omega (arith, ih)
    go false ih = omega (arith, ih)

times_contained : (p : ℕ) (xs : List ℕ) → Contains xs p → 0 < tally (λ x. x == p) xs
times_contained p xs h = found xs h.0 h.1 h.2
  where
    found : (xs : List ℕ) (k : ℕ) → k < length xs → get_or xs k p ≡ p → 0 < tally (λ x. x == p) xs
    found [] k below e = absurd (omega arith)
    found (x ∷ xs) zero below e = rw (eq-eqb x p e) (omega arith)
    found (x ∷ xs) (suc k) below e = let h = found xs k (omega (arith, below)) e in omega (arith, h)

-- ---- how many notices, and rights that paid

one_each : (xs : List Posted) → weigh others (all_posted_tokens xs) ≡ length xs
one_each [] = refl
one_each (x ∷ xs) = go x.notice (one_each xs)
  where
    go : (n : Notice) → weigh others (all_posted_tokens xs) ≡ length xs →
        weigh others ((token send_once x.port (in_message x.port x.entry) ∷ carried_by n (in_message x.port x.entry)) ++ all_posted_tokens xs) ≡ suc (length xs)
    go (port_deleted k) ih = omega (arith, ih)
    go (port_sent q) ih = omega (arith, ih)
    go (no_more_senders k) ih = omega (arith, ih)
    go right_unused ih = omega (arith, ih)
    go (name_died k) ih = omega (arith, ih)

shorter : {A : Type 0} (keep : A → Bool) (xs : List A) → length (filter keep xs) ≤ length xs
shorter keep [] = omega arith
shorter keep (x ∷ xs) = go (keep x) (shorter keep xs)
  where
    go : (b : Bool) → length (filter keep xs) ≤ length xs → length (if b then x ∷ filter keep xs else filter keep xs) ≤ suc (length xs)
    go true ih = omega (arith, ih)
    go false ih = omega (arith, ih)

from_length : (ends : ℕ → ℕ) (ys : List (ℕ × Notice)) → length (posted_from ends ys) ≡ length ys
from_length ends [] = refl
from_length ends (y ∷ ys) = let ih = from_length (at ends y.0 (ends y.0 + 1)) ys in omega (arith, ih)

begun_length : (ys : Begun) → length ys ≡ length (owed_in ys) + length (went_in ys)
begun_length [] = omega arith
begun_length (y ∷ ys) = go y.0 (begun_length ys)
  where
    go : (b : Bool) → length ys ≡ length (owed_in ys) + length (went_in ys) → suc (length ys) ≡ length (if b then y.1 ∷ owed_in ys else owed_in ys) + length (if b then went_in ys else y.1 ∷ went_in ys)
    go true ih = omega (arith, ih)
    go false ih = omega (arith, ih)

all_others : (xs : Owed) → All (λ (x : Token × Notice). x.0.kind ≡ send_once) xs → weigh others (tokens_of xs) ≡ length xs
all_others [] all = refl
all_others (x ∷ xs) all =
    let ih = all_others xs (All-tail (λ (x : Token × Notice). x.0.kind ≡ send_once) x xs all) in
    let a : others x.0 ≡ 1 = ap (λ (k : Kind). if same_kind receive k then zero else suc zero) (All-head (λ (x : Token × Notice). x.0.kind ≡ send_once) x xs all) in
    omega (arith, ih, a)

module _ (now : ℕ) (tables : WorldView) (old mid : State) (owed : Owed) (e : Ending) (w : WorldView) (b : Between now tables old mid owed e w) where
  abbrev s_room : State
  s_room = b.tied.state

  few_others : weigh others s_room.ledger ≤ weigh others mid.ledger + length owed
  few_others =
      let i = sound old mid owed e b.reached b.lawful in
      let a = b.tied.so_far.ledger others in
      let c = one_each (filter (λ (x : Posted). s_room.live_port x.port) (posted_so_far mid e)) in
      let d = shorter (λ (x : Posted). s_room.live_port x.port) (posted_so_far mid e) in
      let f = from_length (λ q. length (mid.log q)) (due_so_far e) in
      let g : length (due_so_far e) ≡ length (list_map (λ (y : Bool × (Token × Notice)). y.1) e.begun ++ e.paid) = length-map (list_map (λ (y : Bool × (Token × Notice)). y.1) e.begun ++ e.paid) (λ (x : Token × Notice). (x.0.port, x.1)) in
      let h = length-append (list_map (λ (y : Bool × (Token × Notice)). y.1) e.begun) e.paid in
      let k : length (list_map (λ (y : Bool × (Token × Notice)). y.1) e.begun) ≡ length e.begun = length-map e.begun (λ (y : Bool × (Token × Notice)). y.1) in
      let m = begun_length e.begun in
      let n : length (owed_in e.begun) ≡ length owed = ap (λ (xs : Owed). length xs) i.owes in
      let o = all_others (went_in e.begun) (weaker (PaidForName mid) (λ (x : Token × Notice). x.0.kind ≡ send_once) (λ x h. h.once) (went_in e.begun) i.went) in
      let q = all_others e.paid (weaker (HasPaid mid e.told) (λ (x : Token × Notice). x.0.kind ≡ send_once) (λ x h. h.0) e.paid i.paid) in
      let r = i.parts others in
      omega (arith, a, c, d, f, g, h, k, m, n, o, q, r)

  one_receive : (q : ℕ) → count (is_of receive q) s_room.ledger ≤ 1
  one_receive q = let a = (b.tied.agrees.counts q).receivers in let c = b.receivers q in omega (arith, a, c)

  has_live : (q : ℕ) → 0 < count (is_of receive q) s_room.ledger → mid.live_port q ≡ true
  has_live q some = left_of (mid.live_port q) (not (listed e.buried q)) (sym (b.tied.so_far.live_port q) ∙ go (map.get w.ledger.counts q) refl)
    where
      go : (o : Option Counts) → map.get w.ledger.counts q ≡ o → s_room.live_port q ≡ true
      go (Some c) is = sym (b.tied.agrees.counts q).entered ∙ ap is_some is
      go None is = absurd (let a = (b.tied.agrees.counts q).receivers in let z : (counts_of w.ledger q).receive ≡ 0 = rw is refl in omega (arith, a, z, some))

  -- the receive right of one port more fits
  pub room : (p : ℕ) → IsOrphan mid p → count (is_of receive p) s_room.ledger ≡ 0 → w.ledger.total < most_rights
  room p orphan none =
      let a = in_two s_room.ledger in
      let c = in_two mid.ledger in
      let d = few_others in
      let f = not_longer (p ∷ ports_of s_room.ledger) (ports_of mid.ledger ++ b.lawful.orphans) each in
      let g = length-append (ports_of mid.ledger) b.lawful.orphans in
      let h = b.lawful.few_rights in
      let k = b.tied.agrees.total in
      omega (arith, a, c, d, f, g, h, k)
    where
      each : (q : ℕ) → tally (λ x. x == q) (p ∷ ports_of s_room.ledger) ≤ tally (λ x. x == q) (ports_of mid.ledger ++ b.lawful.orphans)
      each q = go (eqb_tells p q)
        where
          own : p ≡ q → (if p == q then suc zero else zero) + tally (λ x. x == q) (ports_of s_room.ledger) ≤ tally (λ x. x == q) (ports_of mid.ledger ++ b.lawful.orphans)
          own same =
              let x = times_ports q s_room.ledger in
              let y = tally-append (λ x. x == q) (ports_of mid.ledger) b.lawful.orphans in
              let z = times_contained q b.lawful.orphans (b.lawful.each_orphan q (subst (λ (r : ℕ). IsOrphan mid r) same orphan)) in
              let n = subst (λ (r : ℕ). count (is_of receive r) s_room.ledger ≡ 0) same none in
              let o = if_one (p == q) in
              omega (arith, x, y, z, n, o)
            where
              if_one : (t : Bool) → (if t then suc zero else zero) ≤ 1
              if_one true = omega arith
              if_one false = omega arith

          other : tally (λ x. x == q) (ports_of s_room.ledger) ≤ tally (λ x. x == q) (ports_of mid.ledger ++ b.lawful.orphans)
          other =
              let x = times_ports q s_room.ledger in
              let y = tally-append (λ x. x == q) (ports_of mid.ledger) b.lawful.orphans in
              let z = times_ports q mid.ledger in
              let one = one_receive q in
              elim (pos_or_zero (count (is_of receive q) s_room.ledger)) [
                | inl h ↦ omega (arith, x, h)
                | inr h ↦ elim (pos_or_zero (count (is_of receive q) mid.ledger)) [
                  | inr k ↦ omega (arith, x, y, z, one, k)
                  | inl k ↦ (let m = times_contained q b.lawful.orphans (b.lawful.each_orphan q (has_live q h, k)) in omega (arith, x, y, one, m))
                ]
              ]

          go : (((p == q) ≡ true) × (p ≡ q)) ⊎ (((p == q) ≡ false) × (p ≡ q → ⊥)) → (if p == q then suc zero else zero) + tally (λ x. x == q) (ports_of s_room.ledger) ≤ tally (λ x. x == q) (ports_of mid.ledger ++ b.lawful.orphans)
          go (inl h) = own h.1
          go (inr h) = let o = other in rw h.0 (omega (arith, o))

-- ---- The state once a port was sent away: its notice stands at the end of the log of the port that is told, and brings its receive right there.

module _ (now : ℕ) (tables : WorldView) (old mid : State) (owed : Owed) (e : Ending) (w : WorldView) (b : Between now tables old mid owed e w)
    (p n : ℕ) (lost : IsHeldBy w.ports p holder.Nobody) (goes : GoesTo w p n) where
  abbrev pub s_sent : State
  s_sent = b.tied.state

  abbrev pub f : Ending
  f = save n p e

  abbrev own : Entry
  own = record { origin = now; message = notice_message n (port_sent p) }

  -- where the notice stands
  abbrev pub place : ℕ
  place = length (s_sent.log n)

  abbrev pub posted : List Token
  posted = all_posted_tokens (filter (λ (x : Posted). s_sent.live_port x.port) (posted_so_far mid e))

  abbrev pub sent : State
  sent = record s_sent {
    log = at s_sent.log n (s_sent.log n ++ own ∷ []);
    ledger = token send_once n (in_message n place) ∷ (token receive p (in_message n place) ∷ (f.left ++ posted));
    stands = request_at s_sent.stands (port_destroyed p) false;
    sets_of = at s_sent.sets_of p [];
    make_send = at s_sent.make_send p 0;
    sequence = at s_sent.sequence p 0;
  }

  alive : s_sent.live_port n ≡ true
  alive = b.tied.so_far.live_port n ∙ alone_lives old mid owed e b.reached n (target_lives now tables old mid owed e w b p n lost goes)

  -- the right of the request, and the receive right where a queue had it, go; two come
  pub moved : (h : Token → ℕ) → weigh h sent.ledger + h (kept_right n p) + weigh h (filter (is_carried_here e p) (without (kept_right n p) e.left)) ≡
      weigh h s_sent.ledger + h (token send_once n (in_message n place)) + h (token receive p (in_message n place))
  moved h =
      let a = without_weigh (kept_right n p) e.left (kept_there now tables old mid owed e w b p n lost goes) h in
      let g = parted h (is_carried_here e p) (without (kept_right n p) e.left) in
      let c = weigh-append h f.left posted in
      let d = b.tied.so_far.ledger h in
      omega (arith, a, g, c, d)

  due : due_so_far f ≡ due_so_far e ++ (n, port_sent p) ∷ []
  due = due_more e (kept_right n p) (port_sent p)

  entries : (q : ℕ) → entries_at now q (due_so_far f) ≡ entries_at now q (due_so_far e) ++ (if n == q then record { origin = now; message = notice_message q (port_sent p) } ∷ [] else [])
  entries q = ap (entries_at now q) due ∙ entries_more now q (due_so_far e) n (port_sent p)

  logs : (q : ℕ) → at s_sent.log n (s_sent.log n ++ own ∷ []) q ≡ mid.log q ++ entries_at now q (due_so_far f)
  logs q = elim (eqb_tells q n) [
    | inl same ↦ subst (λ (k : ℕ). at s_sent.log n (s_sent.log n ++ own ∷ []) k ≡ mid.log k ++ entries_at now k (due_so_far f)) (sym same.1) here
    | inr differs ↦ there differs.1
  ]
    where
      here : at s_sent.log n (s_sent.log n ++ own ∷ []) n ≡ mid.log n ++ entries_at now n (due_so_far f)
      here =
          let is : (if n == n then own ∷ [] else []) ≡ own ∷ [] = rw (eq-eqb n n refl) refl in
          at_own s_sent.log n (s_sent.log n ++ own ∷ []) ∙ ap (λ (es : List Entry). es ++ own ∷ []) (b.tied.so_far.log n) ∙ append_assoc (mid.log n) (entries_at now n (due_so_far e)) (own ∷ [])
          ∙ ap (λ (es : List Entry). mid.log n ++ (entries_at now n (due_so_far e) ++ es)) (sym is) ∙ ap (λ (es : List Entry). mid.log n ++ es) (sym (entries n))

      there : (q ≡ n → ⊥) → at s_sent.log n (s_sent.log n ++ own ∷ []) q ≡ mid.log q ++ entries_at now q (due_so_far f)
      there differs = at_other s_sent.log n (s_sent.log n ++ own ∷ []) q differs ∙ b.tied.so_far.log q ∙ ap (λ (es : List Entry). mid.log q ++ es) (sym (entries q ∙ go (n == q) refl))
        where
          go : (t : Bool) → (n == q) ≡ t → entries_at now q (due_so_far e) ++ (if t then record { origin = now; message = notice_message q (port_sent p) } ∷ [] else []) ≡ entries_at now q (due_so_far e)
          go true is = absurd (elim (eqb_tells n q) [
            | inl h ↦ differs (sym h.1)
            | inr h ↦ (let a = h.0 in cc)
          ])
          go false is = append-nil (entries_at now q (due_so_far e))

  entry_is : ends_after (λ q. length (mid.log q)) (due_so_far e) n ≡ place
  entry_is =
      let a = ends_are now (λ q. length (mid.log q)) (due_so_far e) n in
      let c = length-append (mid.log n) (entries_at now n (due_so_far e)) in
      let d : place ≡ length (mid.log n ++ entries_at now n (due_so_far e)) = ap length (b.tied.so_far.log n) in
      omega (arith, a, c, d)

  brought : (h : Token → ℕ) → weigh h (all_posted_tokens (filter (λ (y : Posted). s_sent.live_port y.port) (posted_so_far mid f))) ≡ weigh h posted + h (token send_once n (in_message n place)) + h (token receive p (in_message n place))
  brought h =
      let a : weigh h (all_posted_tokens (filter (λ (y : Posted). s_sent.live_port y.port) (posted_so_far mid f))) ≡ weigh h (all_posted_tokens (filter (λ (y : Posted). s_sent.live_port y.port) (posted_from (λ q. length (mid.log q)) (due_so_far e ++ (n, port_sent p) ∷ [])))) =
      ap (λ (ys : List _). weigh h (all_posted_tokens (filter (λ (y : Posted). s_sent.live_port y.port) (posted_from (λ q. length (mid.log q)) ys)))) due in
      let c = posted_more s_sent.live_port (λ q. length (mid.log q)) (due_so_far e) n (port_sent p) alive h in
      let d : weigh h (posted_tokens (record { port = n; entry = ends_after (λ q. length (mid.log q)) (due_so_far e) n; notice = port_sent p })) ≡ h (token send_once n (in_message n place)) + (h (token receive p (in_message n place)) + 0) =
      ap (λ (k : ℕ). h (token send_once n (in_message n k)) + (h (token receive p (in_message n k)) + 0)) entry_is in
      omega (arith, a, c, d)

  stood : StandsSoFar mid f (request_at s_sent.stands (port_destroyed p) false)
  stood (no_senders q) = b.tied.so_far.stands (no_senders q)
  stood (dead_name task name) = b.tied.so_far.stands (dead_name task name)
  stood (port_destroyed q) = go (q == p) (is_among e.ended (port_destroyed q)) (b.tied.so_far.stands (port_destroyed q))
    where
      none : (a l : Bool) → false ≡ (a && not (l || true))
      none true true = refl
      none true false = refl
      none false l = refl

      go : (t c : Bool) → s_sent.stands (port_destroyed q) ≡ (if c then false else mid.stands (port_destroyed q) && not (not (lives_after mid (buried_alone e) q) || listed e.saved q)) →
          (if t then false else s_sent.stands (port_destroyed q)) ≡ (if c then false else mid.stands (port_destroyed q) && not (not (lives_after mid (buried_alone e) q) || (t || listed e.saved q)))
      go true true h = refl
      go true false h = none (mid.stands (port_destroyed q)) (not (lives_after mid (buried_alone e) q))
      go false c h = h

  if_own : {A : Type 0} (f g : ℕ → A) (a : A) (h : (q : ℕ) → Bool) (q : ℕ) → f q ≡ (if h q then a else g q) → at f p a q ≡ (if q == p || h q then a else g q)
  if_own f g a h q is = go (q == p)
    where
      go : (t : Bool) → (if t then a else f q) ≡ (if t || h q then a else g q)
      go true = refl
      go false = is

  pub sent_so_far : IsSoFar now mid f sent
  sent_so_far = let o = b.tied.so_far in record {
    live_port = o.live_port;
    stands = stood;
    sets_of = λ q. if_own s_sent.sets_of (λ q. if lives_after mid (buried_alone e) q then mid.sets_of q else []) [] (listed e.saved) q (o.sets_of q);
    make_send = λ q. if_own s_sent.make_send mid.make_send 0 (listed e.saved) q (o.make_send q);
    sequence = λ q. if_own s_sent.sequence mid.sequence 0 (listed e.saved) q (o.sequence q);
    names = o.names;
    log = logs;
    taken = o.taken;
    destroyed = o.destroyed;
    ledger = λ h. let a = brought h in let c = weigh-append h f.left posted in omega (arith, a, c);
    rest = ap (λ (z : State). record z { log = sent.log; ledger = sent.ledger; stands = sent.stands; sets_of = sent.sets_of; make_send = sent.make_send; sequence = sent.sequence }) o.rest;
  }

-- ---- The messages that were destroyed still wait once a port was sent away, and none of their rights is lost but receive rights.

append_get : {A : Type 0} (xs ys : List A) (k : ℕ) (x : A) → slice_get xs k ≡ Some x → slice_get (xs ++ ys) k ≡ Some x
append_get [] ys k x is = absurd (let e : None ≡ Some x = is in cc)
append_get (y ∷ xs) ys zero x is = is
append_get (y ∷ xs) ys (suc k) x is = append_get xs ys k x is

pub are_longer : (s_waiting t : State) → ((q k : ℕ) (x : Entry) → slice_get (s_waiting.log q) k ≡ Some x → slice_get (t.log q) k ≡ Some x) → (ms : List Kept) (xs : List (ℕ × ℕ)) → AreEntries s_waiting ms xs → AreEntries t ms xs
are_longer s_waiting t more [] [] h = tt
are_longer s_waiting t more (m ∷ ms) (x ∷ xs) ((entry, is, keeps), h) = ((entry, more x.0 x.1 entry is, keeps), are_longer s_waiting t more ms xs h)
are_longer s_waiting t more [] (x ∷ xs) h = absurd h
are_longer s_waiting t more (m ∷ ms) [] h = absurd h

-- those that go with the port are receive rights
receive_alone : (e : Ending) (p : ℕ) (test : Token → Bool) → ((x : Token) → test x ≡ true → x.kind ≡ receive → ⊥) → (xs : List Token) → count test (filter (is_carried_here e p) xs) ≡ 0
receive_alone e p test none [] = refl
receive_alone e p test none (x ∷ xs) = go (is_carried_here e p x) (test x) refl refl (receive_alone e p test none xs)
  where
    go : (c t : Bool) → is_carried_here e p x ≡ c → test x ≡ t → count test (filter (is_carried_here e p) xs) ≡ 0 → count test (if c then x ∷ filter (is_carried_here e p) xs else filter (is_carried_here e p) xs) ≡ 0
    go false t h k ih = ih
    go true false h k ih = let a : (if test x then suc zero else zero) ≡ 0 = rw k refl in omega (arith, ih, a)
    go true true h k ih = absurd (none x k (of_kind receive p x (left_of (is_of receive p x) _ h)).0)

module _ (now : ℕ) (tables : WorldView) (old mid : State) (owed : Owed) (e : Ending) (w : WorldView) (b : Between now tables old mid owed e w)
    (p n : ℕ) (lost : IsHeldBy w.ports p holder.Nobody) (goes : GoesTo w p n) where
  abbrev s_waiting : State
  s_waiting = b.tied.state

  abbrev g : Ending
  g = f now tables old mid owed e w b p n lost goes

  abbrev t : State
  t = sent now tables old mid owed e w b p n lost goes

  pub fewer : (h : Token → ℕ) → weigh h g.left ≤ weigh h e.left
  fewer h =
      let a = without_weigh (kept_right n p) e.left (kept_there now tables old mid owed e w b p n lost goes) h in
      let c = parted h (is_carried_here e p) (without (kept_right n p) e.left) in
      omega (arith, a, c)

  pub longer : (q k : ℕ) (x : Entry) → slice_get (s_waiting.log q) k ≡ Some x → slice_get (t.log q) k ≡ Some x
  longer q k x is = elim (eqb_tells q n) [
    | inl same ↦ subst (λ (r : ℕ). slice_get (t.log r) k ≡ Some x) (sym same.1)
        (ap (λ (es : List Entry). slice_get es k) (at_own s_waiting.log n _) ∙ append_get (s_waiting.log n) _ k x (subst (λ (r : ℕ). slice_get (s_waiting.log r) k ≡ Some x) same.1 is))
    | inr differs ↦ ap (λ (es : List Entry). slice_get es k) (at_other s_waiting.log n _ q differs.1) ∙ is
  ]

  abbrev pub sent_waiting : AwaitLoss w.ports.destroyed g t
  sent_waiting = let a = b.tied.waiting in record {
    waiting = a.waiting;
    emptied = a.emptied;
    parts = a.parts;
    are = are_longer s_waiting t longer w.ports.destroyed a.waiting a.are;
    lost = weaker (λ m. All (λ x. x.place ≡ in_message m.0 m.1 → listed e.doomed x.port ≡ true) e.left) (λ m. All (λ x. x.place ≡ in_message m.0 m.1 → listed e.doomed x.port ≡ true) g.left)
        (λ m all. all_fewer (λ x. x.place ≡ in_message m.0 m.1 → listed e.doomed x.port ≡ true) g.left e.left fewer all) a.emptied a.lost;
  }

  pub sent_unlost : IsUnlost g b.tied.waiting.emptied
  sent_unlost kind q x k differs alive out =
      let a = b.unlost kind q x k differs alive out in
      let c = tokens_joined (λ y. if is_of kind q y && same_place (in_message x k) y.place then 1 else 0) e.paid ((kept_right n p, port_sent p) ∷ []) in
      let d = weigh-append (λ y. if is_of kind q y && same_place (in_message x k) y.place then 1 else 0) e.gone (filter (is_carried_here e p) (without (kept_right n p) e.left)) in
      let h = receive_alone e p (λ y. is_of kind q y && same_place (in_message x k) y.place)
      (λ y is of. differs (sym (of_kind kind q y (left_of (is_of kind q y) _ is)).0 ∙ of)) (without (kept_right n p) e.left) in
      let m = none (is_of kind q (kept_right n p)) in
      omega (arith, a, c, d, h, m)
    where
      none : (y : Bool) → (if y && false then suc zero else zero) ≡ zero
      none true = refl
      none false = refl

-- ---- The rights once a port was sent away: of each kind there are as many as before but for its own receive right, of which there is one.

-- ---- rights that go with the port

module _ (e : Ending) (p : ℕ) where
  -- of no weight, where each is
  none_carried : (h : Token → ℕ) → ((x : Token) → is_carried_here e p x ≡ true → h x ≡ 0) → (xs : List Token) → weigh h (filter (is_carried_here e p) xs) ≡ 0
  none_carried h none [] = refl
  none_carried h none (x ∷ xs) = go (is_carried_here e p x) refl (none_carried h none xs)
    where
      go : (c : Bool) → is_carried_here e p x ≡ c → weigh h (filter (is_carried_here e p) xs) ≡ 0 → weigh h (if c then x ∷ filter (is_carried_here e p) xs else filter (is_carried_here e p) xs) ≡ 0
      go true is ih = let a = none x is in omega (arith, ih, a)
      go false is ih = ih

  -- they are receive rights for it
  all_carried : (xs : List Token) → weigh (λ x. 1) (filter (is_carried_here e p) xs) ≡ count (is_of receive p) (filter (is_carried_here e p) xs)
  all_carried [] = refl
  all_carried (x ∷ xs) = go (is_carried_here e p x) refl (all_carried xs)
    where
      go : (c : Bool) → is_carried_here e p x ≡ c → weigh (λ x. 1) (filter (is_carried_here e p) xs) ≡ count (is_of receive p) (filter (is_carried_here e p) xs) →
          weigh (λ x. 1) (if c then x ∷ filter (is_carried_here e p) xs else filter (is_carried_here e p) xs) ≡ count (is_of receive p) (if c then x ∷ filter (is_carried_here e p) xs else filter (is_carried_here e p) xs)
      go true is ih = let a : (if is_of receive p x then suc zero else zero) ≡ suc zero = ap (λ (b : Bool). if b then suc zero else zero) (left_of (is_of receive p x) (is_at_doomed e x.place) is) in omega (arith, ih, a)
      go false is ih = ih

  -- ... and all that lie so go
  carried_all : (test : Token → Bool) → ((x : Token) → test x ≡ true → is_carried_here e p x ≡ true) → (xs : List Token) → count test xs ≤ count (is_of receive p) (filter (is_carried_here e p) xs)
  carried_all test here [] = omega arith
  carried_all test here (x ∷ xs) = go (is_carried_here e p x) (test x) refl refl (carried_all test here xs)
    where
      go : (c t_rights : Bool) → is_carried_here e p x ≡ c → test x ≡ t_rights → count test xs ≤ count (is_of receive p) (filter (is_carried_here e p) xs) →
          (if t_rights then suc zero else zero) + count test xs ≤ count (is_of receive p) (if c then x ∷ filter (is_carried_here e p) xs else filter (is_carried_here e p) xs)
      go true true is of ih = let a : (if is_of receive p x then suc zero else zero) ≡ suc zero = ap (λ (b : Bool). if b then suc zero else zero) (left_of (is_of receive p x) (is_at_doomed e x.place) is) in omega (arith, ih, a)
      go true false is of ih = omega (arith, ih)
      go false false is of ih = omega (arith, ih)
      go false true is of ih = absurd (let a = here x of in cc)

  carried_kind : (kind : Kind) (q : ℕ) → (kind ≡ receive → p ≡ q → ⊥) → (x : Token) → is_carried_here e p x ≡ true → is_of kind q x ≡ true → ⊥
  carried_kind kind q apart x is of =
      let a = of_kind receive p x (left_of (is_of receive p x) (is_at_doomed e x.place) is) in
      let b = of_kind kind q x of in
      apart (sym b.0 ∙ a.0) (sym a.1 ∙ b.1)

  -- they lie in messages
  carried_untasked : (task : ℕ) (x : Token) → is_carried_here e p x ≡ true → is_in_task task x.place ≡ false
  carried_untasked task x is = go x.place (right_of (is_of receive p x) (is_at_doomed e x.place) is)
    where
      go : (at : Place) → is_at_doomed e at ≡ true → is_in_task task at ≡ false
      go (in_task t_rights) h = absurd (let z : false ≡ true = h in cc)
      go (in_message q k) h = refl
      go (in_request r) h = refl

  carried_unkept : (r : Request) (x : Token) → is_carried_here e p x ≡ true → same_place (in_request r) x.place ≡ false
  carried_unkept r x is = go x.place (right_of (is_of receive p x) (is_at_doomed e x.place) is)
    where
      go : (at : Place) → is_at_doomed e at ≡ true → same_place (in_request r) at ≡ false
      go (in_task t_rights) h = refl
      go (in_message q k) h = refl
      go (in_request s_rights) h = absurd (let z : false ≡ true = h in cc)

no_one : (test : Token → Bool) (x : Token) → (test x ≡ true → ⊥) → (if test x then suc zero else zero) ≡ zero
no_one test x none = go (test x) refl
  where
    go : (y : Bool) → test x ≡ y → (if y then suc zero else zero) ≡ zero
    go true h = absurd (none h)
    go false h = refl

no_and : (b c : Bool) → c ≡ false → (if b && c then suc zero else zero) ≡ zero
no_and b c is = ap (λ (t_rights : Bool). if b && t_rights then suc zero else zero) is ∙ ap (λ (t_rights : Bool). if t_rights then suc zero else zero) (and_false b)

no_one_of : (l b c : Bool) → c ≡ false → (if l then (if b && c then suc zero else zero) else zero) ≡ zero
no_one_of true b c is = no_and b c is
no_one_of false b c is = refl

-- ---- the rights after it

module _ (now : ℕ) (tables : WorldView) (old mid : State) (owed : Owed) (e : Ending) (w : WorldView) (b : Between now tables old mid owed e w)
    (p n : ℕ) (lost : IsHeldBy w.ports p holder.Nobody) (goes : GoesTo w p n) where
  abbrev s_rights : State
  s_rights = b.tied.state

  abbrev t_rights : State
  t_rights = sent now tables old mid owed e w b p n lost goes

  abbrev spot : ℕ
  spot = place now tables old mid owed e w b p n lost goes

  abbrev rights : List Token
  rights = without (kept_right n p) e.left

  abbrev carried : List Token
  carried = filter (is_carried_here e p) rights

  pub sent_held : (task : ℕ) (kind : Kind) (q : ℕ) → count (is_held task kind q) t_rights.ledger ≡ count (is_held task kind q) s_rights.ledger
  sent_held task kind q =
      let a = moved now tables old mid owed e w b p n lost goes (λ x. if is_held task kind q x then 1 else 0) in
      let c = none_carried e p (λ x. if is_held task kind q x then 1 else 0) (λ x is. no_and (is_of kind q x) (is_in_task task x.place) (carried_untasked e p task x is)) rights in
      let d = no_and (is_of kind q (kept_right n p)) false refl in
      let f = no_and (is_of kind q (token send_once n (in_message n spot))) false refl in
      let g = no_and (is_of kind q (token receive p (in_message n spot))) false refl in
      omega (arith, a, c, d, f, g)

  pub sent_counts : (kind : Kind) (q : ℕ) → (kind ≡ receive → p ≡ q → ⊥) → count (is_of kind q) t_rights.ledger ≡ count (is_of kind q) s_rights.ledger
  sent_counts kind q apart =
      let a = moved now tables old mid owed e w b p n lost goes (λ x. if is_of kind q x then 1 else 0) in
      let c = none_carried e p (λ x. if is_of kind q x then 1 else 0) (λ x is. no_one (is_of kind q) x (carried_kind e p kind q apart x is)) rights in
      let d = no_one (is_of kind q) (token receive p (in_message n spot)) (λ h. let k = of_kind kind q (token receive p (in_message n spot)) h in apart (sym k.0) k.1) in
      omega (arith, a, c, d)

  -- ---- its own receive right

  few : count (is_of receive p) s_rights.ledger ≤ 1
  few = let a = (b.tied.agrees.counts p).receivers in let c = b.receivers p in omega (arith, a, c)

  -- as many go as there were: none, or the one that lies in a message that was destroyed
  gone_all : count (is_of receive p) carried ≡ count (is_of receive p) s_rights.ledger
  gone_all = go (with_nobody now tables old mid owed e w b p n lost goes)
    where
      parts : count (is_of receive p) carried ≤ count (is_of receive p) s_rights.ledger
      parts =
          let a = without_weigh (kept_right n p) e.left (kept_there now tables old mid owed e w b p n lost goes) (λ x. if is_of receive p x then 1 else 0) in
          let c = parted (λ x. if is_of receive p x then 1 else 0) (is_carried_here e p) rights in
          let d = b.tied.so_far.ledger (λ x. if is_of receive p x then 1 else 0) in
          omega (arith, a, c, d)

      go : IsWithNobody s_rights e.destroyed p → count (is_of receive p) carried ≡ count (is_of receive p) s_rights.ledger
      go (inl none) = let a = parts in omega (arith, a, none)
      go (inr (q, k, lies, out)) =
          let doomed = destroyed_doomed old mid owed e b.reached b.lawful q k out in
          let a = without_weigh (kept_right n p) e.left (kept_there now tables old mid owed e w b p n lost goes) (λ x. if is_of receive p x && same_place (in_message q k) x.place then 1 else 0) in
          let c = b.tied.so_far.ledger (λ x. if is_of receive p x && same_place (in_message q k) x.place then 1 else 0) in
          let d = count_le (λ x. is_of receive p x && same_place (in_message q k) x.place) (is_of receive p) (λ x h. left_of (is_of receive p x) (same_place (in_message q k) x.place) h)
          (all_posted_tokens (filter (λ (x : Posted). s_rights.live_port x.port) (posted_so_far mid e))) in
          let f = none_posted_here old mid owed e b.reached b.lawful p (unjudged now tables old mid owed e w b p n lost goes) (λ x. s_rights.live_port x.port) in
          let g = carried_all e p (λ x. is_of receive p x && same_place (in_message q k) x.place) (λ x h. here q k doomed x h) rights in
          let m = parts in
          let o = few in
          omega (arith, a, c, d, f, g, lies, m, o)
        where
          here : (q k : ℕ) → listed e.doomed q ≡ true → (x : Token) → (is_of receive p x && same_place (in_message q k) x.place) ≡ true → is_carried_here e p x ≡ true
          here q k doomed x h =
              let a = left_of (is_of receive p x) (same_place (in_message q k) x.place) h in
              let c = place_is (in_message q k) x.place (right_of (is_of receive p x) (same_place (in_message q k) x.place) h) in
              let d : is_at_doomed e x.place ≡ true = ap (is_at_doomed e) c ∙ doomed in
              rw (a, d) refl

  pub sent_own : count (is_of receive p) t_rights.ledger ≡ 1
  sent_own =
      let a = moved now tables old mid owed e w b p n lost goes (λ x. if is_of receive p x then 1 else 0) in
      let c = gone_all in
      let d = one_of receive p (in_message n spot) refl in
      omega (arith, a, c, d)

  pub sent_total : length t_rights.ledger + count (is_of receive p) s_rights.ledger ≡ length s_rights.ledger + 1
  sent_total =
      let a = moved now tables old mid owed e w b p n lost goes (λ x. 1) in
      let c = gone_all in
      let d = all_carried e p rights in
      let f = length-weigh t_rights.ledger in
      let g = length-weigh s_rights.ledger in
      omega (arith, a, c, d, f, g)

  -- ---- what requests keep

  pub sent_kept : (r : Request) (kind : Kind) (q : ℕ) →
      lying_among (filter (λ x. lives_after mid e x.port) t_rights.ledger) kind q (in_request r) + (if is_of kind q (kept_right n p) && same_place (in_request r) (in_request (port_destroyed p)) then suc zero else zero) ≡
      lying_among (filter (λ x. lives_after mid e x.port) s_rights.ledger) kind q (in_request r)
  sent_kept r kind q =
      let a = moved now tables old mid owed e w b p n lost goes (λ x. if lives_after mid e x.port then (if is_of kind q x && same_place (in_request r) x.place then 1 else 0) else 0) in
      let c = none_carried e p (λ x. if lives_after mid e x.port then (if is_of kind q x && same_place (in_request r) x.place then 1 else 0) else 0)
      (λ x is. no_one_of (lives_after mid e x.port) (is_of kind q x) (same_place (in_request r) x.place) (carried_unkept e p r x is)) rights in
      let d = no_one_of (lives_after mid e n) (is_of kind q (token send_once n (in_message n spot))) false refl in
      let f = no_one_of (lives_after mid e p) (is_of kind q (token receive p (in_message n spot))) false refl in
      let g : (if lives_after mid e n then (if is_of kind q (kept_right n p) && same_place (in_request r) (in_request (port_destroyed p)) then suc zero else zero) else zero) ≡ (if is_of kind q (kept_right n p) && same_place (in_request r) (in_request (port_destroyed p)) then suc zero else zero) =
      ap (λ (l : Bool). if l then (if is_of kind q (kept_right n p) && same_place (in_request r) (in_request (port_destroyed p)) then suc zero else zero) else zero) (target_lives now tables old mid owed e w b p n lost goes) in
      let j = filter_weigh (λ x. if is_of kind q x && same_place (in_request r) x.place then 1 else 0) (λ x. lives_after mid e x.port) t_rights.ledger in
      let k = filter_weigh (λ x. if is_of kind q x && same_place (in_request r) x.place then 1 else 0) (λ x. lives_after mid e x.port) s_rights.ledger in
      omega (arith, a, c, d, f, g, j, k)
