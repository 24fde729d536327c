-- What waits at a doomed port is destroyed, message by message.
use Rattle.std.proofs.Common.{◌≡◌, ℕ, zero, suc, ◌+◌, ◌<◌, List, [], ◌∷◌, ◌++◌, Some, None, refl, sym, ap, subst, ◌∙◌, arith, true, false, Bool, inl, inr, length, ◌≤◌, Option, ◌⊎◌, drop, ◌-◌, ◌^◌}
use Rattle.std.specs.Prelude.{if◌then◌else◌, All, ◌&&◌, ◌==◌, filter, slice_get, map as list_map, Contains, not, is_some, ◌↔◌, ◌≢◌, min}
use Rattle.std.proofs.lemmas.Bool.{eqb-true, eq-eqb, ne_eqb}
use Rattle.std.proofs.lemmas.List.Elements.{All-cons, All-head, All-tail, All-map, All-append}
use Rattle.std.specs.FinMap as map
use Rattle.std.specs.Option.{option_to_list}
use Rattle.std.specs.Ordering.{nat_cmp}
use Rattle.std.proofs.lemmas.Bool.Decides.{eqb_tells}
use Rattle.std.proofs.lemmas.List.{reverse-append, length-append}
use Rattle.std.proofs.Math.Path.{fun_ext}
use Rattle.mach_types.specs.Tokens.{receive, send_once, in_task, in_message, Token, token, count, Place, in_request, is_of}
use Rattle.mach_types.specs.Messages.{Entry}
use Rattle.mach_model.specs.State.{State, at, queue}
use Rattle.mach_model.specs.Carried.{lying, message_count}
use Rattle.mach_model.specs.Death.{LiesAt, same_place}
use Rattle.mach_model.specs.Lawful.{tally}
use Rattle.mach_model.specs.Notices.{Notice, port_deleted, port_sent, no_more_senders, right_unused, name_died, Owed, notice_message, Posted, posted_tokens, all_posted_tokens, carried_by}
use Rattle.mach_model.specs.Turns.{Begun, Ending, owed_in, went_in, listed, PaidForName, IsWaiting, is_judged, lives_after, turns}
use Rattle.mach_model.specs.Work.{number}
use Rattle.mach_model.proofs.Names.{slice_get_drop, weigh-append, at_own, at_other, left_of, count_le}
use Rattle.mach_model.proofs.Settling.{is_at, lives}
use Rattle.mach_model.proofs.SettledReceives.{or_left, is_port_sent, BringsNone, tally-map, tally-append, owed_brings, less as less_than}
use Rattle.mach_model.proofs.TurnsSettle.{weaker}
use Rattle.mach_model.specs.Unused.{came_by_once, onces_queued}
use Rattle.mach_model.proofs.TurnsMade.{destroy, destroy_is}
use Rattle.rights.specs.Ledger.{counts_of}
use Rattle.port.specs.declared.Holder.{Holder}
use Rattle.port.specs.declared.Holder.TheVariants as holder
use Rattle.port.specs.Holding.{held, IsHeldBy}
use Rattle.port.specs.declared.Attributes.{Attributes}
use Rattle.port.specs.Turns.{ReadyLists}
use Rattle.port.specs.Ports.{PortView, with_port}
use Rattle.copyin_base.specs.Kept.{Kept, Keeps}
use Rattle.copyin_base.specs.Shows.{AllKept, ShowsPort, CarriesReceive}
use Rattle.copyin_base.specs.Losing.{DestroysNext}
use Rattle.copyin_base.specs.Worlds.{WorldView, port_at}
use Rattle.copyin_base.proofs.Gets.{same_found, of_some}
use Rattle.copyin_base.proofs.Requested.{requested_ports}
use Rattle.copyin_base.proofs.Told.{is_there as some_of}
use Rattle.copyin_base.proofs.Listed.{listed_later as in_behind}
use Rattle.copyin_base.proofs.Putting.{each_put, put_own, put_other}
use Rattle.notifications.specs.SoFar.{due_so_far, entries_at, posted_from, Tied, IsSoFar, AgreesOf, HoldersTell, IsHolder, IsWithNobody, AreEntries}
use Rattle.destroy.specs.Between.{Between, HasLost}
use Rattle.destroy.proofs.JudgeDoomed.{tally_none, sound, tasked_unjudged, one_place, lies_mid, mid_lies, there_mid, live_there}
use Rattle.destroy.proofs.LoseCounts.{front_or_behind, left_within}
use Rattle.destroy.specs.Judging.{HasSent, IsJudging, receive_right, CarriesAmong, LosesAt, NoneSaved, LosesAmong, last_destroyed, Empties, can_be_doomed, is_undoomed, remaining, queued_at}
use Rattle.destroy.proofs.Counting.{count_none, count_one, count_joined}
use Rattle.destroy.proofs.JudgeReached.{destroys_judging}
use Rattle.destroy.proofs.JudgeCarried.{counted_carries, carries_counted}

-- ---- What waits at a doomed port, while ports are judged: messages that were there after the step's own part, and notices that bring no right.

-- ---- lists

pub get_below : {A : Type 0} (xs : List A) (k : ℕ) (x : A) → slice_get xs k ≡ Some x → k < length xs
get_below [] k x is = absurd (let e : None ≡ Some x = is in cc)
get_below (y ∷ xs) zero x is = omega arith
get_below (y ∷ xs) (suc k) x is = let a = get_below xs k x is in omega (arith, a)

-- a message that is kept there, and its entry
pub kept_at : (p : ℕ) (ms : List Kept) (es : List Entry) → AllKept p ms es → (i : ℕ) (m : Kept) → slice_get ms i ≡ Some m → (x : Entry) × (slice_get es i ≡ Some x) × Keeps p m x.message
kept_at p [] es h i m is = absurd (let e : None ≡ Some m = is in cc)
kept_at p (y ∷ ms) [] h i m is = absurd h
kept_at p (y ∷ ms) (x ∷ es) h zero m is = (x, refl, subst (λ (z : Kept). Keeps p z x.message) (same_found (Some y) y m refl is) h.0)
kept_at p (y ∷ ms) (x ∷ es) h (suc i) m is = kept_at p ms es h.1 i m is

begun_all : (P : Token × Notice → Type 0) (ys : Begun) → All P (owed_in ys) → All P (went_in ys) → All P (list_map (λ y. y.1) ys)
begun_all P [] a b = λ k d below. absurd (omega (arith, below))
begun_all P (y ∷ ys) a b = go y.0 refl (λ a b. begun_all P ys a b)
  where
    go : (t : Bool) → y.0 ≡ t → (All P (owed_in ys) → All P (went_in ys) → All P (list_map (λ y. y.1) ys)) → All P (y.1 ∷ list_map (λ y. y.1) ys)
    go true is rest =
        let a2 : All P (y.1 ∷ owed_in ys) = subst (λ (t : Bool). All P (if t then y.1 ∷ owed_in ys else owed_in ys)) is a in
        let b2 : All P (went_in ys) = subst (λ (t : Bool). All P (if t then went_in ys else y.1 ∷ went_in ys)) is b in
        All-cons P y.1 (list_map (λ y. y.1) ys) (All-head P y.1 (owed_in ys) a2) (rest (All-tail P y.1 (owed_in ys) a2) b2)
    go false is rest =
        let a2 : All P (owed_in ys) = subst (λ (t : Bool). All P (if t then y.1 ∷ owed_in ys else owed_in ys)) is a in
        let b2 : All P (y.1 ∷ went_in ys) = subst (λ (t : Bool). All P (if t then went_in ys else y.1 ∷ went_in ys)) is b in
        All-cons P y.1 (list_map (λ y. y.1) ys) (All-head P y.1 (went_in ys) b2) (rest a2 (All-tail P y.1 (went_in ys) b2))

-- ---- notices that bring no receive right

none_counted : (p q : ℕ) (n : Notice) → is_port_sent q n ≡ false → message_count receive q (notice_message p n) ≡ 0
none_counted p q (port_deleted k) h = refl
none_counted p q (port_sent r) h = rw h refl
none_counted p q (no_more_senders k) h = refl
none_counted p q right_unused h = refl
none_counted p q (name_died k) h = refl

abbrev as_entry : (now p : ℕ) → ℕ × Notice → Entry
as_entry now p y = record { origin = now; message = notice_message p y.1 }

abbrev BringsNoneAt : ℕ → ℕ × Notice → Type 0
BringsNoneAt p y = (y.0 == p) ≡ true → BringsNone y.1

entries_none : (now p : ℕ) (ys : List (ℕ × Notice)) → All (BringsNoneAt p) ys → (j : ℕ) (x : Entry) → slice_get (entries_at now p ys) j ≡ Some x → (q : ℕ) → message_count receive q x.message ≡ 0
entries_none now p [] all j x is q = absurd (let e : None ≡ Some x = is in cc)
entries_none now p (y ∷ ys) all j x is q = go (λ j is. entries_none now p ys (All-tail (BringsNoneAt p) y ys all) j x is q) (y.0 == p) refl is
  where
    Rest : Type 0
    Rest = (j : ℕ) → slice_get (entries_at now p ys) j ≡ Some x → message_count receive q x.message ≡ 0

    first : Entry
    first = record { origin = now; message = notice_message p y.1 }

    at_place : Rest → (j : ℕ) → (y.0 == p) ≡ true → slice_get (first ∷ entries_at now p ys) j ≡ Some x → message_count receive q x.message ≡ 0
    at_place rest zero here is = subst (λ (z : Entry). message_count receive q z.message ≡ 0) (same_found (Some first) first x refl is) (none_counted p q y.1 (All-head (BringsNoneAt p) y ys all here q))
    at_place rest (suc j) here is = rest j is

    go : Rest → (t : Bool) → (y.0 == p) ≡ t → slice_get (list_map (as_entry now p) (if t then y ∷ filter (λ y. y.0 == p) ys else filter (λ y. y.0 == p) ys)) j ≡ Some x → message_count receive q x.message ≡ 0
    go rest true here is = at_place rest j here is
    go rest false here is = rest j is

entries_long : (now p : ℕ) (ys : List (ℕ × Notice)) → length (entries_at now p ys) ≡ tally (λ y. y.0 == p) ys
entries_long now p [] = refl
entries_long now p (y ∷ ys) = go (y.0 == p) (entries_long now p ys)
  where
    go : (t : Bool) → length (entries_at now p ys) ≡ tally (λ y. y.0 == p) ys →
        length (list_map (as_entry now p) (if t then y ∷ filter (λ y. y.0 == p) ys else filter (λ y. y.0 == p) ys)) ≡ (if t then 1 else 0) + tally (λ y. y.0 == p) ys
    go true ih = omega (arith, ih)
    go false ih = omega (arith, ih)

-- those of a port bring no receive right there
pub posted_none_at : (p q n : ℕ) (keep : Posted → Bool) (ends : ℕ → ℕ) (ys : List (ℕ × Notice)) → All (BringsNoneAt p) ys → count (is_at receive q (in_message p n)) (all_posted_tokens (filter keep (posted_from ends ys))) ≡ 0
posted_none_at p q n keep ends [] all = refl
posted_none_at p q n keep ends (y ∷ ys) all = go (keep first) (posted_none_at p q n keep (at ends y.0 (ends y.0 + 1)) ys (All-tail (BringsNoneAt p) y ys all))
  where
    first : Posted
    first = record { port = y.0; entry = ends y.0; notice = y.1 }

    rest : List Posted
    rest = filter keep (posted_from (at ends y.0 (ends y.0 + 1)) ys)

    sent : (r : ℕ) → y.1 ≡ port_sent r → (if (r == q) && (p == y.0 && n == ends y.0) then suc zero else zero) ≡ zero
    sent r is = cases (r == q) (p == y.0) (n == ends y.0) (λ a b. absurd (
        let here : (y.0 == p) ≡ true = eq-eqb y.0 p (sym (eqb-true p y.0 b)) in
        let none = All-head (BringsNoneAt p) y ys all here q in
        let c : is_port_sent q y.1 ≡ true = ap (is_port_sent q) is ∙ a in
        let d : true ≡ false = sym c ∙ none in cc))
      where
        cases : (a b c : Bool) → (a ≡ true → b ≡ true → ⊥) → (if a && (b && c) then suc zero else zero) ≡ zero
        cases true true c no_way = absurd (no_way refl refl)
        cases true false c no_way = refl
        cases false b c no_way = refl

    own : (notice : Notice) → y.1 ≡ notice → count (is_at receive q (in_message p n)) (token send_once y.0 (in_message y.0 (ends y.0)) ∷ carried_by notice (in_message y.0 (ends y.0))) ≡ 0
    own (port_deleted k) is = refl
    own (port_sent r) is = let a = sent r is in omega (arith, a)
    own (no_more_senders k) is = refl
    own right_unused is = refl
    own (name_died k) is = refl

    go : (t : Bool) → count (is_at receive q (in_message p n)) (all_posted_tokens rest) ≡ 0 → count (is_at receive q (in_message p n)) (all_posted_tokens (if t then first ∷ rest else rest)) ≡ 0
    go true ih =
        let a = weigh-append (λ x. if is_at receive q (in_message p n) x then 1 else 0) (posted_tokens first) (all_posted_tokens rest) in
        let c = own y.1 refl in
        omega (arith, ih, a, c)
    go false ih = ih

-- ---- the queue of a doomed port

module _ (now : ℕ) (tables : WorldView) (old mid : State) (owed : Owed) (e : Ending) (w : WorldView) (b : Between now tables old mid owed e w)
    (j : IsJudging mid e) (p : ℕ) (doomed : listed e.doomed p ≡ true) (live : mid.live_port p ≡ true) where
  abbrev s : State
  s = b.tied.state

  -- no right of a request has paid for a notice there
  pub unpaid : (x : Token × Notice) → HasSent mid e.saved x → x.0.port ≡ p → ⊥
  unpaid x h is =
      let un = tasked_unjudged old mid owed e b.reached b.lawful p h.task (subst (λ (q : ℕ). LiesAt mid receive q (in_task h.task)) is h.with_task) in
      let judged = or_left (listed e.doomed p) (listed e.saved p) doomed in
      cc

  none_brought : All (BringsNoneAt p) (due_so_far e)
  none_brought = All-map (BringsNoneAt p) (λ (x : Token × Notice). (x.0.port, x.1)) (list_map (λ y. y.1) e.begun ++ e.paid)
      (All-append (λ (x : Token × Notice). BringsNoneAt p (x.0.port, x.1)) (list_map (λ y. y.1) e.begun) e.paid
      (weaker (λ (x : Token × Notice). BringsNone x.1) (λ (x : Token × Notice). BringsNoneAt p (x.0.port, x.1)) (λ x h here. h) (list_map (λ y. y.1) e.begun)
      (begun_all (λ (x : Token × Notice). BringsNone x.1) e.begun
      (subst (λ (xs : Owed). All (λ (x : Token × Notice). BringsNone x.1) xs) (sym (sound old mid owed e b.reached b.lawful).owes) (owed_brings mid owed b.lawful.are_owed))
      (weaker (PaidForName mid) (λ (x : Token × Notice). BringsNone x.1) (λ x h q. ap (is_port_sent q) h.tells) (went_in e.begun) (sound old mid owed e b.reached b.lawful).went)))
      (weaker (HasSent mid e.saved) (λ (x : Token × Notice). BringsNoneAt p (x.0.port, x.1)) (λ x h here. absurd (unpaid x h (eqb-true x.0.port p here))) e.paid j.paid))

  behind_long : length (entries_at now p (due_so_far e)) ≡ tally (λ y. y.1.0.port == p) e.begun
  behind_long =
      let a = entries_long now p (due_so_far e) in
      let c = tally-map (λ (y : ℕ × Notice). y.0 == p) (λ (x : Token × Notice). (x.0.port, x.1)) (list_map (λ y. y.1) e.begun ++ e.paid) in
      let d = tally-append (λ (x : Token × Notice). x.0.port == p) (list_map (λ y. y.1) e.begun) e.paid in
      let f = tally-map (λ (x : Token × Notice). x.0.port == p) (λ y. y.1) e.begun in
      let g = tally_none (HasSent mid e.saved) (λ x. x.0.port == p) (λ x h t. unpaid x h (eqb-true x.0.port p t)) e.paid j.paid in
      omega (arith, a, c, d, f, g)

  -- the entry of a message that waits there
  in_log : (i : ℕ) (x : Entry) → slice_get (queue s p) i ≡ Some x → slice_get (mid.log p ++ entries_at now p (due_so_far e)) (s.taken p + i) ≡ Some x
  in_log i x is = ap (λ (es : List Entry). slice_get es (s.taken p + i)) (sym (b.tied.so_far.log p)) ∙ sym (slice_get_drop (s.taken p) (s.log p) i) ∙ is

  pub is_waiting : (i : ℕ) (x : Entry) → slice_get (queue s p) i ≡ Some x → IsWaiting mid e (p, s.taken p + i)
  is_waiting i x is =
      let t = b.tied.so_far.taken p in (
        (omega (arith, t)),
        elim (front_or_behind (mid.log p) (entries_at now p (due_so_far e)) (s.taken p + i) x (in_log i x is)) [
          | inl h ↦ (let a = get_below (mid.log p) (s.taken p + i) x h in omega (arith, a))
          | inr h ↦ (let a = get_below (entries_at now p (due_so_far e)) h.0 x h.2 in let c = behind_long in let d = h.1 in omega (arith, a, c, d))
        ],
      )

  -- The receive rights that lay there are those that the message carries.
  pub lies_count : (i : ℕ) (x : Entry) → slice_get (queue s p) i ≡ Some x → (q : ℕ) → mid.live_port q ≡ true → lying mid receive q (in_message p (s.taken p + i)) ≡ message_count receive q x.message
  lies_count i x is q live_q = elim (front_or_behind (mid.log p) (entries_at now p (due_so_far e)) (s.taken p + i) x (in_log i x is)) [
    | inl h ↦ front h
    | inr h ↦ (let a = h.1 in let none = b.lawful.no_entry p (s.taken p + i) (omega (arith, a)) receive q in let zero_count = entries_none now p (due_so_far e) none_brought h.0 x h.2 q in none ∙ sym zero_count)
  ]
    where
      gone : ℕ
      gone = tally (λ m. m.0 == p) e.destroyed

      at_index : s.taken p + i ≡ mid.taken p + (gone + i)
      at_index = let t = b.tied.so_far.taken p in omega (arith, t)

      front : slice_get (mid.log p) (s.taken p + i) ≡ Some x → lying mid receive q (in_message p (s.taken p + i)) ≡ message_count receive q x.message
      front h = ap (λ (k : ℕ). lying mid receive q (in_message p k)) at_index ∙
          b.lawful.carried p (gone + i) x live (slice_get_drop (mid.taken p) (mid.log p) (gone + i) ∙ ap (slice_get (mid.log p)) (sym at_index) ∙ h) receive q live_q

  -- A receive right that lies there lay there.
  pub lies_there : (q n : ℕ) → LiesAt s receive q (in_message p n) → LiesAt mid receive q (in_message p n)
  lies_there q n lies =
      let a = b.tied.so_far.ledger (λ x. if is_at receive q (in_message p n) x then 1 else 0) in
      let c = posted_none_at p q n (λ x. s.live_port x.port) (λ r. length (mid.log r)) (due_so_far e) none_brought in
      let d = left_within old mid owed e b.reached (λ x. if is_at receive q (in_message p n) x then 1 else 0) in
      omega (arith, a, c, d, lies)

-- ---- The front message of a doomed port was destroyed, and the ports whose receive rights it carries have lost them: that is a turn.

-- ---- lists

tail_kept : (p : ℕ) (m : Kept) (ms : List Kept) (n : ℕ) (xs : List Entry) → AllKept p (m ∷ ms) (drop n xs) → AllKept p ms (drop (suc n) xs)
tail_kept p m ms zero [] h = absurd h
tail_kept p m ms zero (x ∷ xs) h = h.1
tail_kept p m ms (suc n) [] h = absurd h
tail_kept p m ms (suc n) (x ∷ xs) h = tail_kept p m ms n xs h

are_more : (s_destroyed t : State) → t.log ≡ s_destroyed.log → (ms : List Kept) (xs : List (ℕ × ℕ)) → AreEntries s_destroyed ms xs → (m : Kept) (x : ℕ × ℕ) → (entry : Entry) × (slice_get (s_destroyed.log x.0) x.1 ≡ Some entry) × Keeps x.0 m entry.message →
    AreEntries t (ms ++ m ∷ []) (xs ++ x ∷ [])
are_more s_destroyed t same [] [] h m x (entry, at_log, keeps) = ((entry, ap (λ (l : ℕ → List Entry). slice_get (l x.0) x.1) same ∙ at_log, keeps), tt)
are_more s_destroyed t same (n ∷ ms) (y ∷ xs) ((entry, at_log, keeps), h) m x one = grind (arith, are_more s_destroyed t same ms xs h m x one)
are_more s_destroyed t same [] (y ∷ xs) h m x one = absurd h
are_more s_destroyed t same (n ∷ ms) [] h m x one = absurd h

contains_get : {A : Type 0} (xs : List A) (x : A) → Contains xs x → (i : ℕ) × (i < length xs) × (slice_get xs i ≡ Some x)
contains_get [] x (i, below, is) = absurd (omega (arith, below))
contains_get (y ∷ xs) x (zero, below, is) = (zero, omega arith, ap Some is)
contains_get (y ∷ xs) x (suc i, below, is) = let r = contains_get xs x (i, omega (arith, below), is) in let less = r.1 in (suc r.0, omega (arith, less), r.2)

abbrev port_in : Place → ℕ
port_in (in_message p k) = p
port_in (in_task task) = 0
port_in (in_request r) = 0

abbrev entry_in : Place → ℕ
entry_in (in_message p k) = k
entry_in (in_task task) = 0
entry_in (in_request r) = 0

module _ (now : ℕ) (tables : WorldView) (old mid : State) (owed : Owed) (e : Ending) (w : WorldView) (b : Between now tables old mid owed e w)
    (j : IsJudging mid e) (p : ℕ) (doomed : listed e.doomed p ≡ true) (unsaved : NoneSaved mid e p) (v : PortView Kept) (there : port_at w p ≡ Some v) where
  abbrev s_destroyed : State
  s_destroyed = b.tied.state

  abbrev k : ℕ
  k = s_destroyed.taken p

  live : mid.live_port p ≡ true
  live = there_mid now tables old mid owed e w b p v there

  pub own_holder : v.attributes.holder ≡ holder.Doomed
  own_holder = (b.doomed p v there).1 doomed

  -- ---- what a message that waits there carries

  -- a receive right that a message carries lay at its entry
  pub carried_lies : (i : ℕ) (m : Kept) → slice_get v.queue i ≡ Some m → (q : ℕ) → mid.live_port q ≡ true → CarriesAmong m (length m.rights) q → LiesAt mid receive q (in_message p (k + i))
  carried_lies i m is q live_q c =
      let x = kept_at p v.queue (queue s_destroyed p) (b.tied.agrees.ports p v there).waiting i m is in
      let same = lies_count now tables old mid owed e w b j p doomed live i x.0 x.1 q live_q in
      let some = carries_counted p m x.0.message x.2 q c in
      omega (arith, same, some)

  pub lies_carried : (i : ℕ) (m : Kept) → slice_get v.queue i ≡ Some m → (q : ℕ) → LiesAt mid receive q (in_message p (k + i)) → CarriesAmong m (length m.rights) q
  lies_carried i m is q lies =
      let x = kept_at p v.queue (queue s_destroyed p) (b.tied.agrees.ports p v there).waiting i m is in
      let some = count_le (λ x. is_of receive q x && same_place (in_message p (k + i)) x.place) (is_of receive q) (λ x t. left_of _ _ t) mid.ledger in
      let same = lies_count now tables old mid owed e w b j p doomed live i x.0 x.1 q (lives b.lawful.ports receive q (omega (arith, some, lies))) in
      counted_carries p m x.0.message x.2 q (omega (arith, same, lies))

  -- ---- a port whose receive right lay there

  -- one that nobody has judged yet, where it isn't doomed
  unjudged_at : (q n : ℕ) → LiesAt mid receive q (in_message p n) → listed e.doomed q ≡ false → is_judged e q ≡ false
  unjudged_at q n lies un = let a = unsaved q n lies in rw (un, a) refl

  undoomed : (q : ℕ) (u : PortView Kept) → port_at w q ≡ Some u → (u.attributes.holder ≡ holder.Doomed → ⊥) → listed e.doomed q ≡ false
  undoomed q u found held_by = grind arith

  module _ (first : Kept) (behind : List Kept) (queue_is : v.queue ≡ first ∷ behind) where
    abbrev pub Carried : ℕ → Type 0
    Carried q = CarriesAmong first (length first.rights) q

    abbrev pub f : Ending
    f = destroy p k e

    first_at : slice_get v.queue 0 ≡ Some first
    first_at = ap (λ (ms : List Kept). slice_get ms 0) queue_is

    behind_at : (i : ℕ) (m : Kept) → slice_get behind i ≡ Some m → slice_get v.queue (suc i) ≡ Some m
    behind_at i m is = ap (λ (ms : List Kept). slice_get ms (suc i)) queue_is ∙ is

    first_lies : (q : ℕ) → mid.live_port q ≡ true → Carried q → LiesAt mid receive q (in_message p k)
    first_lies q live_q c = let a = carried_lies 0 first first_at q live_q c in subst (λ (n : ℕ). LiesAt mid receive q (in_message p n)) (omega arith) a

    lies_first : (q : ℕ) → LiesAt mid receive q (in_message p k) → Carried q
    lies_first q lies = lies_carried 0 first first_at q (subst (λ (n : ℕ). LiesAt mid receive q (in_message p n)) (omega arith) lies)

    -- its own receive right isn't carried
    entry : (x : Entry) × (slice_get (queue s_destroyed p) 0 ≡ Some x) × Keeps p first x.message
    entry = kept_at p v.queue (queue s_destroyed p) (b.tied.agrees.ports p v there).waiting 0 first first_at

    fresh : ¬ (Contains e.destroyed (p, k))
    fresh c = let a = ((b.tied.so_far.destroyed p k).0 c).1 in omega (arith, a)

    waits : IsWaiting mid e (p, k)
    waits = subst (λ (n : ℕ). IsWaiting mid e (p, n)) (omega arith) (is_waiting now tables old mid owed e w b j p doomed live 0 entry.0 entry.1)

    -- ---- the state once it was taken

    abbrev t : State
    t = record s_destroyed { taken = at s_destroyed.taken p (k + 1) }

    other_taken : (q : ℕ) → (q ≡ p → ⊥) → t.taken q ≡ s_destroyed.taken q
    other_taken q differs = at_other s_destroyed.taken p (k + 1) q differs

    own_taken : t.taken p ≡ k + 1
    own_taken = at_own s_destroyed.taken p (k + 1)

    -- each message that was destroyed is one of those, or this one
    later : (q n : ℕ) → Contains e.destroyed (q, n) → Contains f.destroyed (q, n)
    later q n (i, below, is) = (suc i, omega (arith, below), is)

    either : (q n : ℕ) → Contains f.destroyed (q, n) → ((q ≡ p) × (n ≡ k)) ⊎ Contains e.destroyed (q, n)
    either q n (zero, below, is) = inl (let h : (p, k) ≡ (q, n) = is in (sym (ap (λ (x : ℕ × ℕ). x.0) h), sym (ap (λ (x : ℕ × ℕ). x.1) h)))
    either q n (suc i, below, is) = inr (i, omega (arith, below), is)

    so_far : IsSoFar now mid f t
    so_far = let o = b.tied.so_far in record {
      live_port = o.live_port;
      stands = o.stands;
      sets_of = o.sets_of;
      make_send = o.make_send;
      sequence = o.sequence;
      names = o.names;
      log = o.log;
      taken = taken;
      destroyed = λ q n. ((λ c. to q n (either q n c)), (λ h. from q n h.0 h.1));
      ledger = o.ledger;
      rest = ap (λ (x : State). record x { taken = at s_destroyed.taken p (k + 1) }) o.rest;
    }
      where
        taken : (q : ℕ) → t.taken q ≡ mid.taken q + tally (λ m. m.0 == q) f.destroyed
        taken q = elim (eqb_tells q p) [
          | inl h ↦ (let a = b.tied.so_far.taken q in let c : t.taken q ≡ s_destroyed.taken q + 1 = subst (λ (x : ℕ). t.taken x ≡ s_destroyed.taken x + 1) (sym h.1) own_taken in let g : (p == q) ≡ true = eq-eqb p q (sym h.1) in rw g (omega (arith, a, c)))
          | inr h ↦ (let a = b.tied.so_far.taken q in let c = other_taken q h.1 in let g : (p == q) ≡ false = ne_eqb p q (λ x. h.1 (sym x)) in rw g (omega (arith, a, c)))
        ]

        to : (q n : ℕ) → ((q ≡ p) × (n ≡ k)) ⊎ Contains e.destroyed (q, n) → (mid.taken q ≤ n) × (n < t.taken q)
        to q n (inl (same, is)) = subst (λ (x : ℕ). (mid.taken x ≤ n) × (n < t.taken x)) (sym same) ((let a = b.tied.so_far.taken p in omega (arith, a, is)), (let a = own_taken in omega (arith, a, is)))
        to q n (inr c) = let h = (b.tied.so_far.destroyed q n).0 c in (
          h.0,
          elim (eqb_tells q p) [
            | inl g ↦ subst (λ (x : ℕ). n < t.taken x) (sym g.1) (let a = own_taken in let d = subst (λ (x : ℕ). n < s_destroyed.taken x) g.1 h.1 in omega (arith, a, d))
            | inr g ↦ (let a = other_taken q g.1 in let d = h.1 in omega (arith, a, d))
          ],
        )

        from : (q n : ℕ) → mid.taken q ≤ n → n < t.taken q → Contains f.destroyed (q, n)
        from q n least less = elim (eqb_tells q p) [
          | inr g ↦ later q n ((b.tied.so_far.destroyed q n).1 (least, (let a = other_taken q g.1 in omega (arith, a, less))))
          | inl g ↦ subst (λ (x : ℕ). Contains f.destroyed (x, n)) (sym g.1) (elim (eqb_tells n k) [
            | inl h ↦ (zero, omega arith, (λ i. (p, sym h.1 i)))
            | inr h ↦ later p n ((b.tied.so_far.destroyed p n).1 (subst (λ (x : ℕ). mid.taken x ≤ n) g.1 least, (let a = own_taken in let d = subst (λ (x : ℕ). n < t.taken x) g.1 less in less_than n k (omega (arith, a, d)) h.1)))
          ])
        ]

    -- ---- the tables

    abbrev pub next : WorldView
    next = record w { ports = record (with_port w.ports p (record v { queue = behind })) { destroyed = w.ports.destroyed ++ first ∷ [] } }

    module _ (P : map.FinMap nat_cmp (PortView Kept)) (R : ReadyLists) (L : List ℕ) (each : (q : ℕ) → LosesAt Carried q (port_at next q) (map.get P q))
        (lost : (q : ℕ) → Carried q → (u : PortView Kept) (x : ℕ) → map.get P q ≡ Some u → u.attributes.holder ≡ holder.QueueOf x → ⊥) where
      abbrev pub after : WorldView
      after = record next { ports = record next.ports { ports = P; ready = R; lost = L } }

      -- what became of a port
      record Was (q : ℕ) (u : PortView Kept) : Type 0 where
        y : PortView Kept
        found : port_at w q ≡ Some y
        own : q ≡ p → u.queue ≡ behind
        other : (q ≡ p → ⊥) → u.queue ≡ y.queue
        more : u.more ≡ y.more
        attributes : (u.attributes ≡ y.attributes) ⊎ ((x : ℕ) × (y.attributes.holder ≡ holder.QueueOf x) × Carried q × (u.attributes ≡ record y.attributes { holder = holder.Nobody }))

      was_next : (q : ℕ) (u : PortView Kept) → port_at next q ≡ Some u → Was q u
      was_next = each_put w.ports.ports p (Some (record v { queue = behind })) (λ q o. (u : PortView Kept) → o ≡ Some u → Was q u)
          (of_some (record v { queue = behind }) (λ u. Was p u) record { y = v; found = there; own = λ same. refl; other = λ differs. absurd (differs refl); more = refl; attributes = inl refl })
          (λ q differs u is. record { y = u; found = is; own = λ same. absurd (differs same); other = λ differs. refl; more = refl; attributes = inl refl })

      was : (q : ℕ) (u : PortView Kept) → map.get P q ≡ Some u → Was q u
      was q u is = go (each q)
        where
          go : LosesAt Carried q (port_at next q) (map.get P q) → Was q u
          go (inl same) = was_next q u (sym same ∙ is)
          go (inr (z, x, at_next, queued, now_is, c)) =
              let same : u ≡ held z holder.Nobody = same_found (map.get P q) u (held z holder.Nobody) is now_is in
              let a = was_next q z at_next in
              subst (Was q) (sym same) record { y = a.y; found = a.found; own = a.own; other = a.other; more = a.more; attributes = lose a.y a.attributes }
            where
              lose : (y : PortView Kept) → (z.attributes ≡ y.attributes) ⊎ ((x : ℕ) × (y.attributes.holder ≡ holder.QueueOf x) × Carried q × (z.attributes ≡ record y.attributes { holder = holder.Nobody })) →
                  ((held z holder.Nobody).attributes ≡ y.attributes) ⊎ ((x : ℕ) × (y.attributes.holder ≡ holder.QueueOf x) × Carried q × ((held z holder.Nobody).attributes ≡ record y.attributes { holder = holder.Nobody }))
              lose y (inl e) = inr (x, (ap (λ (a : Attributes). a.holder) (sym e) ∙ queued), c, ap (λ (a : Attributes). record a { holder = holder.Nobody }) e)
              lose y (inr (n, h, d, e)) = inr (n, h, d, ap (λ (a : Attributes). record a { holder = holder.Nobody }) e)

      is_there : (q : ℕ) → is_some (map.get P q) ≡ is_some (port_at w q)
      is_there q = go (each q) ∙ each_put w.ports.ports p (Some (record v { queue = behind })) (λ q o. is_some o ≡ is_some (port_at w q)) (sym (ap is_some there)) (λ q differs. refl) q
        where
          go : LosesAt Carried q (port_at next q) (map.get P q) → is_some (map.get P q) ≡ is_some (port_at next q)
          go (inl same) = ap is_some same
          go (inr (z, x, at_next, queued, now_is, c)) = ap is_some now_is ∙ sym (ap is_some at_next)

      nobody : (q : ℕ) → IsWithNobody s_destroyed e.destroyed q → IsWithNobody t f.destroyed q
      nobody q (inl none) = inl none
      nobody q (inr (x, n, lies, c)) = inr (x, n, lies, later x n c)

      -- a port that lost its receive right wasn't judged
      lost_unjudged : (q : ℕ) (y : PortView Kept) (x : ℕ) → port_at w q ≡ Some y → y.attributes.holder ≡ holder.QueueOf x → LiesAt mid receive q (in_message p k) → is_judged e q ≡ false
      lost_unjudged q y x found queued lies = unjudged_at q k lies (undoomed q y found (λ h. let f : holder.QueueOf x ≡ holder.Doomed = sym queued ∙ h in cc))

      carried_at_first : (q : ℕ) (y : PortView Kept) → port_at w q ≡ Some y → Carried q → LiesAt mid receive q (in_message p k)
      carried_at_first q y found c = first_lies q (there_mid now tables old mid owed e w b q y found) c

      -- ---- the tables agree

      port_same : (q : ℕ) (u : PortView Kept) (a : Was q u) → ShowsPort a.y s_destroyed q → ShowsPort u t q
      port_same q u a o = record {
        waiting = elim (eqb_tells q p) [
          | inl same ↦ own same.1
          | inr differs ↦ subst (λ (ms : List Kept). AllKept q ms (queue t q)) (sym (a.other differs.1)) (subst (λ (n : ℕ). AllKept q a.y.queue (drop n (s_destroyed.log q))) (sym (other_taken q differs.1)) o.waiting)
        ];
        limit = (by (λ x. x.limit) (λ x. refl)) ∙ o.limit;
        make_send = (by (λ x. x.make_send) (λ x. refl)) ∙ o.make_send;
        sequence = (by (λ x. x.sequence) (λ x. refl)) ∙ o.sequence;
        sets = ap (λ (x : Option ℕ). option_to_list x ++ u.more) (by (λ x. x.set) (λ x. refl)) ∙ ap (λ (xs : List ℕ). option_to_list a.y.attributes.set ++ xs) a.more ∙ o.sets;
      }
        where
          by : {A : Type 0} (field : Attributes → A) → ((x : Attributes) → field (record x { holder = holder.Nobody }) ≡ field x) → field u.attributes ≡ field a.y.attributes
          by field same = go a.attributes
            where
              go : (u.attributes ≡ a.y.attributes) ⊎ ((x : ℕ) × (a.y.attributes.holder ≡ holder.QueueOf x) × Carried q × (u.attributes ≡ record a.y.attributes { holder = holder.Nobody })) → field u.attributes ≡ field a.y.attributes
              go (inl e) = ap field e
              go (inr (x, h, c, e)) = ap field e ∙ same a.y.attributes

          own : q ≡ p → AllKept q u.queue (queue t q)
          own same = subst (λ (ms : List Kept). AllKept q ms (queue t q)) (sym (a.own same)) (subst (λ (x : ℕ). AllKept x behind (queue t x)) (sym same)
              (subst (λ (n : ℕ). AllKept p behind (drop n (s_destroyed.log p))) (let e = own_taken in let g : suc k ≡ t.taken p = omega (arith, e) in g) (tail_kept p first behind k (s_destroyed.log p) (subst (λ (ms : List Kept). AllKept p ms (queue s_destroyed p)) queue_is (b.tied.agrees.ports p v there).waiting))))

      agrees : AgreesOf (lives_after mid f) after t
      agrees = let a = b.tied.agrees in record {
        spaces = a.spaces;
        rights = a.rights;
        live_port = λ q. is_there q ∙ a.live_port q;
        ports_made = a.ports_made;
        ports = λ q u is. let x = was q u is in port_same q u x (a.ports q x.y x.found);
        counts = λ q. let c = a.counts q in record { entered = c.entered; receivers = c.receivers; senders = c.senders; once_rights = c.once_rights; destinations = λ alive. destined q (c.destinations alive) (lives_after mid e q) refl };
        total = a.total;
        in_sets = a.in_sets;
        of_requests = a.of_requests;
      }
        where
          destined : (q : ℕ) → (counts_of w.ledger q).destination ≡ (if lives_after mid e q then onces_queued s_destroyed q else (counts_of w.ledger q).destination) → (c : Bool) → lives_after mid e q ≡ c →
              (counts_of w.ledger q).destination ≡ (if lives_after mid e q then onces_queued t q else (counts_of w.ledger q).destination)
          destined q before true is =
              let differs : q ≡ p → ⊥ = λ same. let d : listed e.doomed q ≡ true = subst (λ (x : ℕ). listed e.doomed x ≡ true) (sym same) doomed in let z : lives_after mid e q ≡ false = dead (mid.live_port q) (listed e.doomed q) d in cc in
              before ∙ (λ i. if lives_after mid e q then tally came_by_once (drop (sym (other_taken q differs) i) (s_destroyed.log q)) else (counts_of w.ledger q).destination)
            where
              dead : (a d : Bool) → d ≡ true → (a && not d) ≡ false
              dead true true h = refl
              dead false d h = refl
              dead true false h = absurd (cc)
          destined q before false is = rw is refl

      holders : HoldersTell after t f.destroyed
      holders q u is = let x = was q u is in tells q u is x x.attributes (b.tied.holders q x.y x.found)
        where
          still : (q : ℕ) (u : PortView Kept) → map.get P q ≡ Some u → (h : Holder) → u.attributes.holder ≡ h → IsHolder s_destroyed e.destroyed q h → IsHolder t f.destroyed q h
          still q u is (holder.Task task) held_by h = h
          still q u is (holder.QueueOf x) held_by (n, lies, out) = (
            n,
            lies,
            (λ c. elim (either x n c) [
              | inl same ↦ lost q (lies_first q (lies_there now tables old mid owed e w b j p doomed live q k (subst (λ (m : ℕ × ℕ). LiesAt s_destroyed receive q (in_message m.0 m.1)) (λ i. (same.0 i, same.1 i)) lies))) u x is held_by
              | inr before ↦ out before
            ]),
          )
          still q u is holder.Nobody held_by h = nobody q h
          still q u is holder.Doomed held_by h = nobody q h

          tells : (q : ℕ) (u : PortView Kept) → map.get P q ≡ Some u → (x : Was q u) → (u.attributes ≡ x.y.attributes) ⊎ ((n : ℕ) × (x.y.attributes.holder ≡ holder.QueueOf n) × Carried q × (u.attributes ≡ record x.y.attributes { holder = holder.Nobody })) →
              IsHolder s_destroyed e.destroyed q x.y.attributes.holder → IsHolder t f.destroyed q u.attributes.holder
          tells q u is x (inl same) h = still q u is u.attributes.holder refl (subst (λ (a : Attributes). IsHolder s_destroyed e.destroyed q a.holder) (sym same) h)
          tells q u is x (inr (n, queued, c, same)) h = subst (λ (a : Attributes). IsHolder t f.destroyed q a.holder) (sym same)
              (let lies = carried_at_first q x.y x.found c in inr (p, k, mid_lies now tables old mid owed e w b q (lost_unjudged q x.y n x.found queued lies) (in_message p k) lies, (zero, omega arith, refl)))

      abbrev tied : Tied now mid f after
      tied = record {
        state = t;
        so_far = so_far;
        agrees = agrees;
        holders = holders;
        slots = b.tied.slots;
        waiting = let a = b.tied.waiting in record {
          waiting = a.waiting ++ (p, k) ∷ [];
          emptied = a.emptied;
          parts = ap (λ (xs : List (ℕ × ℕ)). (p, k) ∷ xs) a.parts ∙ ap (λ (xs : List (ℕ × ℕ)). xs ++ a.emptied) (sym (reverse-append a.waiting ((p, k) ∷ [])));
          are = are_more s_destroyed t refl w.ports.destroyed a.waiting a.are first (p, k) (entry.0, (ap (slice_get (s_destroyed.log p)) (omega arith) ∙ sym (slice_get_drop k (s_destroyed.log p) 0) ∙ entry.1), entry.2);
          lost = a.lost;
        };
      }

      -- ---- what the tables alone tell

      holder_was : (q : ℕ) (u : PortView Kept) (h : Holder) → map.get P q ≡ Some u → u.attributes.holder ≡ h → (h ≡ holder.Nobody → ⊥) → (y : PortView Kept) × (port_at w q ≡ Some y) × (y.attributes.holder ≡ h)
      holder_was q u h is held_by some = grind (arith, was q u is)

      -- one that a queue doesn't hold has its holder still
      holder_stays : (q : ℕ) (y : PortView Kept) → port_at w q ≡ Some y → ((x : ℕ) → y.attributes.holder ≡ holder.QueueOf x → ⊥) → IsHeldBy after.ports q y.attributes.holder
      holder_stays q y found no_queue =
          let some = is_there_at q y found in
          let x = was q some.0 some.1 in
          let same : x.y ≡ y = same_found (port_at w q) x.y y x.found found in
          record { view = some.0; there = some.1; holder_is = go x x.attributes same }
        where
          is_there_at : (q : ℕ) (y : PortView Kept) → port_at w q ≡ Some y → (u : PortView Kept) × (map.get P q ≡ Some u)
          is_there_at q y found = some_of (map.get P q) (is_there q ∙ ap is_some found)

          go : {u : PortView Kept} → (x : Was q u) → (u.attributes ≡ x.y.attributes) ⊎ ((n : ℕ) × (x.y.attributes.holder ≡ holder.QueueOf n) × Carried q × (u.attributes ≡ record x.y.attributes { holder = holder.Nobody })) → x.y ≡ y → u.attributes.holder ≡ y.attributes.holder
          go x (inl e) same = ap (λ (a : Attributes). a.holder) e ∙ ap (λ (z : PortView Kept). z.attributes.holder) same
          go x (inr (n, queued, c, e)) same = absurd (no_queue n (ap (λ (z : PortView Kept). z.attributes.holder) (sym same) ∙ queued))

      abbrev Became : (q : ℕ) (u y : PortView Kept) → Type 0
      Became q u y = (u.attributes ≡ y.attributes) ⊎ ((n : ℕ) × (y.attributes.holder ≡ holder.QueueOf n) × Carried q × (u.attributes ≡ record y.attributes { holder = holder.Nobody }))

      held_still : (task q : ℕ) (u y : PortView Kept) → Became q u y → y.attributes.holder ≡ holder.Task task → u.attributes.holder ≡ holder.Task task
      held_still task q u y (inl same) h = ap (λ (a : Attributes). a.holder) same ∙ h
      held_still task q u y (inr (n, queued, c, same)) h = absurd (let g : holder.Task task ≡ holder.QueueOf n = sym h ∙ queued in cc)

      unjudged_still : (q : ℕ) (u y : PortView Kept) → Became q u y → port_at w q ≡ Some y → u.attributes.holder ≡ holder.Nobody → is_judged e q ≡ false
      unjudged_still q u y (inl same) found h = b.unjudged q (record { view = y; there = found; holder_is = ap (λ (a : Attributes). a.holder) (sym same) ∙ h })
      unjudged_still q u y (inr (n, queued, c, same)) found h = lost_unjudged q y n found queued (carried_at_first q y found c)

      doomed_still : (q : ℕ) (u y : PortView Kept) → Became q u y → port_at w q ≡ Some y → (u.attributes.holder ≡ holder.Doomed) ↔ (listed e.doomed q ≡ true)
      doomed_still q u y (inl same) found = grind arith
      doomed_still q u y (inr (n, queued, c, same)) found = grind arith

      nobody_still : (q : ℕ) → IsHeldBy w.ports q holder.Nobody → IsHeldBy after.ports q holder.Nobody
      nobody_still q h = grind (arith, holder_stays)

      -- ---- receive rights that messages carry

      queued_was : (q : ℕ) (u : PortView Kept) (m : Kept) → map.get P q ≡ Some u → Contains u.queue m → (y : PortView Kept) × (port_at w q ≡ Some y) × Contains y.queue m
      queued_was q u m is c = let x = was q u is in (
        x.y,
        x.found,
        elim (eqb_tells q p) [
          | inr differs ↦ subst (λ (ms : List Kept). Contains ms m) (x.other differs.1) c
          | inl same ↦ in_first x.y (same_found (port_at w p) v x.y there (subst (λ (n : ℕ). port_at w n ≡ Some x.y) same.1 x.found)) (subst (λ (ms : List Kept). Contains ms m) (x.own same.1) c)
        ],
      )
        where
          in_first : (y : PortView Kept) → v ≡ y → Contains behind m → Contains y.queue m
          in_first y same c = subst (λ (z : PortView Kept). Contains z.queue m) same (subst (λ (ms : List Kept). Contains ms m) (sym queue_is) (in_behind first behind m c))

      carries_among : (m : Kept) (q : ℕ) → CarriesReceive m q → CarriesAmong m (length m.rights) q
      carries_among m q c = inr (contains_get m.rights (receive_right q) c)

      -- the one that carries it waits behind, or elsewhere: it lay there too
      elsewhere : (q r : ℕ) (u : PortView Kept) (m : Kept) (y : PortView Kept) (n : ℕ) → map.get P q ≡ Some u → Contains u.queue m → CarriesReceive m r → port_at w r ≡ Some y → y.attributes.holder ≡ holder.QueueOf n → Carried r → ⊥
      elsewhere q r u m y n is queued carries found at_queue c = elim (eqb_tells q p) [
        | inl same ↦ here same.1
        | inr differs ↦ (let g : q ≡ p = ap (λ (x : Place). port_in x) (one_place old mid owed e b.reached b.lawful r (in_message p k) (in_message q there_at.0) lies there_at.1) in differs.1 g)
      ]
        where
          lies : LiesAt mid receive r (in_message p k)
          lies = carried_at_first r y found c

          by_queue : y.attributes.holder ≡ holder.QueueOf q
          by_queue = let o = queued_was q u m is queued in b.carriers.carried q o.0 m r o.1 o.2 carries y found

          there_at : (i : ℕ) × LiesAt mid receive r (in_message q i)
          there_at =
              let h : IsHolder s_destroyed e.destroyed r (holder.QueueOf q) = subst (λ (x : Holder). IsHolder s_destroyed e.destroyed r x) by_queue (b.tied.holders r y found) in
              (h.0, lies_mid now tables old mid owed e w b r (lost_unjudged r y n found at_queue lies) (in_message q h.0) h.1)

          here : q ≡ p → ⊥
          here same =
              let i = contains_get behind m (subst (λ (ms : List Kept). Contains ms m) ((was q u is).own same) queued) in
              let again = carried_lies (suc i.0) m (behind_at i.0 m i.2) r (there_mid now tables old mid owed e w b r y found) (carries_among m r carries) in
              let g : k + suc i.0 ≡ k = ap (λ (x : Place). entry_in x) (one_place old mid owed e b.reached b.lawful r (in_message p k) (in_message p (k + suc i.0)) lies again) in
              omega (arith, g)

      carried_still : (q r : ℕ) (u : PortView Kept) (m : Kept) (z y : PortView Kept) → Became r z y → map.get P q ≡ Some u → Contains u.queue m → CarriesReceive m r → port_at w r ≡ Some y → z.attributes.holder ≡ holder.QueueOf q
      carried_still q r u m z y (inl same) is queued carries found = let o = queued_was q u m is queued in ap (λ (a : Attributes). a.holder) same ∙ b.carriers.carried q o.0 m r o.1 o.2 carries y found
      carried_still q r u m z y (inr (n, at_queue, c, same)) is queued carries found = absurd (elsewhere q r u m y n is queued carries found at_queue c)

      -- ---- ports that have lost their receive rights

      lost_of_first : (q : ℕ) → LiesAt mid receive q (in_message p k) → (is_judged e q ≡ true) ⊎ IsHeldBy after.ports q holder.Nobody
      lost_of_first q lies = go (is_judged e q) refl
        where
          some : mid.live_port q ≡ true
          some = let a = count_le (λ x. is_of receive q x && same_place (in_message p k) x.place) (is_of receive q) (λ x t. left_of _ _ t) mid.ledger in lives b.lawful.ports receive q (omega (arith, a, lies))

          go : (d : Bool) → is_judged e q ≡ d → (is_judged e q ≡ true) ⊎ IsHeldBy after.ports q holder.Nobody
          go true is = inl is
          go false un = let y = live_there now tables old mid owed e w b j q some in inr (by y.0 y.1 y.0.attributes.holder refl (b.tied.holders q y.0 y.1))
            where
              one : (place : Place) → LiesAt s_destroyed receive q place → place ≡ in_message p k
              one place at_place = one_place old mid owed e b.reached b.lawful q (in_message p k) place lies (lies_mid now tables old mid owed e w b q un place at_place)

              taken : (n : ℕ) (u : PortView Kept) → map.get P q ≡ Some u → (y : PortView Kept) → Became q u y → y.attributes.holder ≡ holder.QueueOf n → IsHeldBy after.ports q holder.Nobody
              taken n u is y (inl same) at_queue = absurd (lost q (lies_first q lies) u n is (ap (λ (a : Attributes). a.holder) same ∙ at_queue))
              taken n u is y (inr (m, queued, c, same)) at_queue = record { view = u; there = is; holder_is = ap (λ (a : Attributes). a.holder) same }

              by : (y : PortView Kept) → port_at w q ≡ Some y → (h : Holder) → y.attributes.holder ≡ h → IsHolder s_destroyed e.destroyed q y.attributes.holder → IsHeldBy after.ports q holder.Nobody
              by y found (holder.Task task) is h = absurd (let g = one (in_task task) (subst (λ (x : Holder). IsHolder s_destroyed e.destroyed q x) is h) in cc)
              by y found (holder.QueueOf n) is h = let u = some_of (map.get P q) (is_there q ∙ ap is_some found) in let x = was q u.0 u.1 in taken n u.0 u.1 x.y x.attributes (ap (λ (z : PortView Kept). z.attributes.holder) (same_found (port_at w q) x.y y x.found found) ∙ is)
              by y found holder.Nobody is h = nobody_still q (record { view = y; there = found; holder_is = is })
              by y found holder.Doomed is h = absurd (let g = or_left (listed e.doomed q) (listed e.saved q) ((b.doomed q y found).0 is) in cc)

      lost_still : (q : ℕ) → (is_judged e q ≡ true) ⊎ IsHeldBy w.ports q holder.Nobody → (is_judged e q ≡ true) ⊎ IsHeldBy after.ports q holder.Nobody
      lost_still q (inl h) = inl h
      lost_still q (inr h) = inr (nobody_still q h)

      lost_now : (q : ℕ) → HasLost mid f q → (is_judged e q ≡ true) ⊎ IsHeldBy after.ports q holder.Nobody
      lost_now q (inl o) = lost_still q (b.lost q (inl o))
      lost_now q (inr (x, n, d, lies, c)) = elim (either x n c) [
        | inl same ↦ lost_of_first q (subst (λ (m : ℕ × ℕ). LiesAt mid receive q (in_message m.0 m.1)) (λ i. (same.0 i, same.1 i)) lies)
        | inr before ↦ lost_still q (b.lost q (inr (x, n, d, lies, before)))
      ]

      pub destroyed_between : Between now tables old mid owed f after
      destroyed_between = record {
        lawful = b.lawful;
        reached = turns e f b.reached (inr (inr (inl (destroy_is mid e p k doomed waits fresh))));
        tied = tied;
        held = record { held = λ task name n q found named has u is. let x = was q u is in held_still task q u x.y x.attributes (b.held.held task name n q found named has x.y x.found) };
        carriers = record {
          given = λ q u m r is queued carries. let o = queued_was q u m is queued in b.carriers.given q o.0 m r o.1 o.2 carries;
          carried = λ q u m r is queued carries z at_z. let x = was r z at_z in carried_still q r u m z x.y x.attributes is queued carries x.found;
        };
        requested = let r = requested_ports w after b.requested (λ q h. is_there q ∙ h) refl refl in r;
        went = b.went;
        unjudged = λ q h. let x = was q h.view h.there in unjudged_still q h.view x.y x.attributes x.found h.holder_is;
        doomed = λ q u is. let x = was q u is in doomed_still q u x.y x.attributes x.found;
        lost = lost_now;
        emptied = λ q n buried waiting. later q n (b.emptied q n buried waiting);
        senders = b.senders;
        noted = λ q alive had none. b.noted q alive had (record { live = sym (is_there q) ∙ none.live; asked = none.asked; none = none.none });
        had = b.had;
        receivers = b.receivers;
        unlost = b.unlost;
        had_senders = b.had_senders;
      }

      pub destroyed_judging : IsJudging mid f
      destroyed_judging = destroys_judging mid e f (destroy_is mid e p k doomed waits fresh) j

-- ---- A doomed port's queue is emptied, message by message.

at_end : {A : Type 0} (xs : List A) (x : A) → slice_get (xs ++ x ∷ []) (length xs) ≡ Some x
at_end [] x = refl
at_end (y ∷ xs) x = at_end xs x

pub last_of : {A : Type 0} (xs : List A) (x : A) → slice_get (xs ++ x ∷ []) (length (xs ++ x ∷ []) - 1) ≡ Some x
last_of xs x = ap (slice_get (xs ++ x ∷ [])) (let a = length-append xs (x ∷ []) in let b : length (xs ++ x ∷ []) - 1 ≡ length xs = omega (arith, a) in b) ∙ at_end xs x

module _ (w : WorldView) (p : ℕ) (w1 : WorldView) (d : DestroysNext w p w1) where
  -- what was destroyed
  abbrev pub first : Kept
  first = d.first.first

  pub next_is : w1 ≡ record w { ports = record (with_port w.ports p (record d.first.view { queue = d.first.behind })) { destroyed = w.ports.destroyed ++ first ∷ [] } }
  next_is = d.rest ∙ ap (λ ports. record w { ports = ports }) d.first.rest

  pub last_is : last_destroyed w1 ≡ Some first
  last_is = ap last_destroyed next_is ∙ last_of w.ports.destroyed first

  module _ (w2 : WorldView) (l : LosesAmong (CarriesAmong first (length first.rights)) w1 w2) where
    -- what became of each port
    each : (q : ℕ) → LosesAt (CarriesAmong first (length first.rights)) q (map.get (map.insert w.ports.ports p (record d.first.view { queue = d.first.behind })) q) (port_at w2 q)
    each q = subst (λ (o : Option (PortView Kept)). LosesAt (CarriesAmong first (length first.rights)) q o (port_at w2 q)) (ap (λ (x : WorldView). port_at x q) next_is) (l.each q)

    pub w2_is : w2 ≡ record w { ports = record (with_port w.ports p (record d.first.view { queue = d.first.behind })) { destroyed = w.ports.destroyed ++ first ∷ []; ports = w2.ports.ports; ready = w2.ports.ready; lost = w2.ports.lost } }
    w2_is = l.rest ∙ ap (λ (x : WorldView). record x { ports = record x.ports { ports = w2.ports.ports; ready = w2.ports.ready; lost = w2.ports.lost } }) next_is

    -- ---- as many ports may still be doomed

    undoomed_same : (q : ℕ) → is_undoomed (port_at w2 q) ≡ is_undoomed (port_at w q)
    undoomed_same q = go (CarriesAmong first (length first.rights)) (map.get (map.insert w.ports.ports p (record d.first.view { queue = d.first.behind })) q) (each q) ∙ each_put w.ports.ports p (Some (record d.first.view { queue = d.first.behind })) (λ q o. is_undoomed o ≡ is_undoomed (port_at w q)) (ap is_undoomed (sym d.first.there)) (λ q differs. refl) q
      where
        go : (P : ℕ → Type 0) (o : Option (PortView Kept)) → LosesAt P q o (port_at w2 q) → is_undoomed (port_at w2 q) ≡ is_undoomed o
        go P o (inl same) = ap is_undoomed same
        go P o (inr (v, x, was, queued, now_is, c)) = ap is_undoomed now_is ∙ sym (ap is_undoomed was ∙ ap can_be_doomed queued)

    pub remains : remaining w2 ≡ remaining w
    remains = (λ i. number (λ q. is_undoomed (port_at w2 q)) (made i) + number (λ q. map.contains_key (requests i).port_destroyed.map q) (made i)) ∙ ap (λ (g : ℕ → Bool). number g w.ports.made + number (λ q. map.contains_key w.requests.port_destroyed.map q) w.ports.made) (fun_ext undoomed_same)
      where
        made : w2.ports.made ≡ w.ports.made
        made = ap (λ (x : WorldView). x.ports.made) w2_is

        requests : w2.requests ≡ w.requests
        requests = ap (λ (x : WorldView). x.requests) w2_is

    -- ---- one message less waits there

    pub fewer : queued_at (port_at w2 p) < queued_at (port_at w p)
    fewer = go (CarriesAmong first (length first.rights)) (map.get (map.insert w.ports.ports p (record d.first.view { queue = d.first.behind })) p) (each p) (put_own w.ports.ports p (Some (record d.first.view { queue = d.first.behind })))
      where
        long : queued_at (port_at w p) ≡ suc (length d.first.behind)
        long = ap queued_at d.first.there ∙ ap (λ (ms : List Kept). length ms) d.first.queue

        go : (P : ℕ → Type 0) (o : Option (PortView Kept)) → LosesAt P p o (port_at w2 p) → o ≡ Some (record d.first.view { queue = d.first.behind }) → queued_at (port_at w2 p) < queued_at (port_at w p)
        go P o (inl same) is = let a = ap queued_at same ∙ ap queued_at is in let c = long in omega (arith, a, c)
        go P o (inr (v, x, was, queued, now_is, c)) is =
            let a = ap queued_at now_is in
            let e = ap (λ (y : PortView Kept). length y.queue) (same_found o v (record d.first.view { queue = d.first.behind }) was is) in
            let g = long in omega (arith, a, e, g)

    undisturbed : (q : ℕ) (v : PortView Kept) → port_at w2 q ≡ Some v → v.attributes.holder ≡ holder.Doomed → q ≢ p → (P : ℕ → Type 0) →
        LosesAt P q (map.get (map.insert w.ports.ports p (record d.first.view { queue = d.first.behind })) q) (port_at w2 q) → ((u : PortView Kept) → port_at w q ≡ Some u → u.attributes.holder ≡ holder.Doomed → q ≢ p → u.queue ≡ []) → v.queue ≡ []
    undisturbed q v is held_by differs P (inl same) empty = empty v (sym (put_other w.ports.ports p (Some (record d.first.view { queue = d.first.behind })) q differs) ∙ sym same ∙ is) held_by differs
    undisturbed q v is held_by differs P (inr (u, x, was, queued, now_is, c)) empty = absurd (
        let a = ap (λ (y : PortView Kept). y.attributes.holder) (same_found (port_at w2 q) v (held u holder.Nobody) is now_is) in let g : holder.Doomed ≡ holder.Nobody = sym held_by ∙ a in cc)

    -- ---- the turn

    pub empties_one : Empties w p 1 w2
    empties_one now tables old mid owed e m = (
      f now tables old mid owed e w m.between m.judging p m.doomed m.unsaved d.first.view d.first.there first d.first.behind d.first.queue,
      record {
        between = subst (λ (x : WorldView). Between now tables old mid owed (f now tables old mid owed e w m.between m.judging p m.doomed m.unsaved d.first.view d.first.there first d.first.behind d.first.queue) x) (sym w2_is)
            (destroyed_between now tables old mid owed e w m.between m.judging p m.doomed m.unsaved d.first.view d.first.there first d.first.behind d.first.queue w2.ports.ports w2.ports.ready w2.ports.lost each
            (λ q c u x is queued. l.lost q c (x, record { view = u; there = is; holder_is = queued })));
        judging = destroyed_judging now tables old mid owed e w m.between m.judging p m.doomed m.unsaved d.first.view d.first.there first d.first.behind d.first.queue w2.ports.ports w2.ports.ready w2.ports.lost each
            (λ q c u x is queued. l.lost q c (x, record { view = u; there = is; holder_is = queued }));
        doomed = m.doomed;
        unsaved = m.unsaved;
        others = λ q v is held_by differs. undisturbed q v is held_by differs (CarriesAmong first (length first.rights)) (each q) (λ u found. m.others q u found);
      },
      count_one e.turns _ refl,
      (let a : w2.ports.spare ≡ w.ports.spare = ap (λ (x : WorldView). x.ports.spare) w2_is in
          let c : length w2.ports.destroyed ≡ length (w.ports.destroyed ++ first ∷ []) = ap (λ (x : WorldView). length x.ports.destroyed) w2_is in
          let g = length-append w.ports.destroyed (first ∷ []) in
          omega (arith, a, c, g)),
    )

-- ---- several

pub empties_none : (w : WorldView) (p : ℕ) → Empties w p 0 w
empties_none w p now tables old mid owed e m = (e, m, count_none e.turns, refl)

pub empties_more : (w v u : WorldView) (p n : ℕ) → Empties w p n v → Empties v p 1 u → (m : ℕ) → m ≡ min (n + 1) (2 ^ 64 - 1) → Empties w p m u
empties_more w v u p n a b m is now tables old mid owed e h =
    let x = a now tables old mid owed e h in
    let y = b now tables old mid owed x.0 x.1 in
    (y.0, y.1, count_joined e.turns x.0.turns y.0.turns n 1 m x.2 y.2 is, (let c = x.3 in let d = y.3 in omega (arith, c, d)))
