-- The requests whose names went are paid for one by one; then the chain of turns begins.
use Rattle.std.proofs.Common.{◌≡◌, ℕ, ◌+◌, List, [], ◌∷◌, ◌++◌, refl, sym, ap, subst, ◌∙◌, arith, true, false, Bool, length, suc, zero, ◌<◌, Some, ◌≤◌, None, ◌⊎◌, inl, inr, ◌-◌, get_or}
use Rattle.std.specs.Prelude.{map, filter, All, if◌then◌else◌, ◌&&◌, drop, is_some, ◌≢◌, Contains, slice_get}
use Rattle.std.proofs.lemmas.List.{append-nil, append_assoc, length-append, drop-append-le}
use Rattle.std.proofs.lemmas.List.Elements.{All-head, All-tail, All-append}
use Rattle.std.proofs.lemmas.Bool.{eq-eqb}
use Rattle.std.proofs.lemmas.Option.{get_or_from_slice_get}
use Rattle.mach_types.specs.Tokens.{Token, weigh, Kind, receive, send, send_once, Request, no_senders, port_destroyed, dead_name, in_request, token, is_of, count, Place, in_message, is_held, in_task}
use Rattle.mach_types.specs.Messages.{Entry}
use Rattle.mach_types.specs.declared.rights.Disposition.TheVariants.{MoveReceive}
use Rattle.mach_model.specs.State.{State, at, queue, held, Holds, Target, lookup}
use Rattle.mach_model.specs.Notices.{Notice, Owed, Posted, notice_message, all_posted_tokens, port_deleted, carried_by}
use Rattle.mach_model.specs.Settles.{due_notices, tokens_of}
use Rattle.mach_model.specs.Midway.{MidLawful, IsOwed}
use Rattle.mach_model.specs.Turns.{Begun, Ending, owed_in, went_in, lives_after, is_judged, PaidForName, IsOnGone, IsReached, begins, Begins}
use Rattle.mach_model.proofs.Names.{at_same, at_other, weigh-append, same_naming, length-weigh, both_test, slice_get_drop, count_some, lying_le_of}
use Rattle.mach_model.proofs.TurnsMade.{start, without, without_weigh}
use Rattle.mach_model.specs.Death.{same_place, IsOrphan, LiesAt, Dies, orphan, carried_at}
use Rattle.mach_model.specs.Carried.{lying_among, lying}
use Rattle.mach_model.proofs.SettledReceives.{and_false, tally-append, none_tasked, eq_symm}
use Rattle.mach_model.specs.Unused.{onces_queued}
use Rattle.mach_model.proofs.SettledOnce.{are_apart, apart_count}
use Rattle.mach_model.proofs.TurnsCounted.{one_all}
use Rattle.mach_model.proofs.Grounded.{Where, with_task, nowhere, queued, where_is}
use Rattle.mach_model.proofs.SettledEnd.{front_stays}
use Rattle.mach_model.proofs.SettledDetermined.{weigh-same}
use Rattle.mach_model.proofs.Settling.{is_at, own_test}
use Rattle.mach_model.proofs.TurnsSettle.{tokens_joined_settle as tokens_joined}
use Rattle.rights.specs.Counts.{one_shifted, no_rights}
use Rattle.rights.specs.Ledger.{counts_of, shifted}
use Rattle.port.specs.Ports.{PortView}
use Rattle.port.specs.declared.Holder.TheVariants as holder
use Rattle.port.specs.Holding.{IsHeldBy, NoneHeldBy}
use Rattle.request_table.specs.declared.Request.{Request as NameRequest}
use Rattle.request_table.specs.Requests.{without_first_went}
use Rattle.copyin_base.specs.Posted.{with_notice, with_posted}
use Rattle.request_table.specs.Tables.{RequestTablesView}
use Rattle.copyin_base.specs.Requests.{notify_of, rights_kept, was_on, RequestsAgree, AreEnded}
use Rattle.copyin_base.specs.declared.Notice.TheVariants.{PortDeleted}
use Rattle.copyin_base.specs.Serving.{ShowsMid}
use Rattle.copyin_base.specs.Kept.{Kept}
use Rattle.copyin_base.specs.Queued.{notice_kept}
use Rattle.copyin_base.specs.Shows.{Agrees, RequestsStand, CountsAgree, Shows}
use Rattle.copyin_base.specs.Worlds.{WorldView, port_at}
use Rattle.copyin_base.proofs.Carriers.{carriers_queued}
use Rattle.copyin_base.proofs.Holders.{holders_ports, put_holders}
use Rattle.copyin_base.proofs.Requested.{requested_stay, keeps_same, requested_put}
use Rattle.copyin_base.proofs.SendersNoted.{counts_own, counts_other, keeps_senders, senders_kept, sends_shifted}
use Rattle.copyin_base.specs.declared.Carried.{Carried}
use Rattle.copyin_base.specs.declared.Mark.TheVariants as mark
use Rattle.copyin_base.proofs.Told.{port_got, task_holds}
use Rattle.copyin_base.proofs.KeptEntries.{kept_of, kept_at, some_at}
use Rattle.copyin_base.proofs.Requesting.{requests_stay}
use Rattle.copyin_base.proofs.Gets.{seen}
use Rattle.notifications.specs.SoFar.{IsSoFar, entries_at, posted_from, IsHolder, AgreesOf, AreEntries}
use Rattle.notifications.proofs.MessageRights.{posted_is, entry_with, brought, log_with, logs_longer, logs_more, rights_more, rights_with, rights_weigh}
use Rattle.copyin_base.proofs.Lost.{with_message}
use Rattle.notifications.proofs.NoticePosted.{first_so_far, told_agrees}
use Rattle.notifications.proofs.RequestBegun.{requests_changed}
use Rattle.copyin_base.specs.Losing.{CanPost}
use Rattle.destroy.proofs.JudgeCarried.{counted_carries}
use Rattle.destroy.specs.Between.{Between, HadSenders, HasLost}
use Rattle.destroy.specs.Stages.{IsEmptied, IsMidway, Starts, TellsDoomed, TellsLost}
use Rattle.destroy.proofs.PayLives.{kept_live}
use Rattle.copyin_base.specs.Leaving.{TakesWent}
use Rattle.destroy.specs.Paying.{LivesIn, Pays}
use Rattle.destroy.proofs.EndSteps.{none_held}
use Rattle.destroy.proofs.LoseFrames.{one_queued, shape_held, shape_was_held}

-- ---- The state midway with all that it owes posted is the state so far as the chain of turns starts.

-- ---- what was posted

abbrev own : (now : ℕ) → Token × Notice → Entry
own now x = record { origin = now; message = notice_message x.0.port x.1 }

pub posted_log : (now : ℕ) (m : State) (owed : Owed) (p : ℕ) → (with_posted now m owed).log p ≡ m.log p ++ entries_at now p (due_notices owed)
posted_log now m [] p = sym (append-nil (m.log p))
posted_log now m (x ∷ owed) p = grind (arith, posted_log now (with_notice now m x) owed p, at_same, append_assoc, at_other)

pub posted_ledger : (now : ℕ) (m : State) (owed : Owed) (h : Token → ℕ) →
    weigh h (with_posted now m owed).ledger ≡ weigh h m.ledger + weigh h (all_posted_tokens (posted_from (λ p. length (m.log p)) (due_notices owed)))
posted_ledger now m [] h = omega arith
posted_ledger now m (x ∷ owed) h = grind (arith, posted_ledger now (with_notice now m x) owed h, weigh-append, at_same, length-append, at_other)

-- those whose ports live are all
all_live : (lives : ℕ → Bool) (ends : ℕ → ℕ) (owed : Owed) → All (IsOwed lives) owed → filter (λ (x : Posted). lives x.port) (posted_from ends (due_notices owed)) ≡ posted_from ends (due_notices owed)
all_live lives ends [] all = refl
all_live lives ends (x ∷ owed) all = grind (arith, all_live lives (at ends x.0.port (ends x.0.port + 1)) owed (All-tail (IsOwed lives) x owed all), (All-head (IsOwed lives) x owed all).live)

-- ---- what has begun: what is owed, and what rights of requests whose names went paid for

abbrev pub begun_with : (owed paid : Owed) → Begun
begun_with owed paid = map (λ x. (true, x)) owed ++ map (λ x. (false, x)) paid

pub owed_begun : (owed paid : Owed) → owed_in (begun_with owed paid) ≡ owed
owed_begun [] [] = refl
owed_begun [] (y ∷ paid) = owed_begun [] paid
owed_begun (x ∷ owed) paid = ap (λ (xs : Owed). x ∷ xs) (owed_begun owed paid)

pub went_begun : (owed paid : Owed) → went_in (begun_with owed paid) ≡ paid
went_begun [] [] = refl
went_begun [] (y ∷ paid) = ap (λ (xs : Owed). y ∷ xs) (went_begun [] paid)
went_begun (x ∷ owed) paid = went_begun owed paid

due_begun : (owed paid : Owed) → due_notices (owed ++ paid) ≡ due_notices (map (λ y. y.1) (begun_with owed paid) ++ [])
due_begun [] [] = refl
due_begun [] (y ∷ paid) = ap (λ (ys : List (ℕ × Notice)). (y.0.port, y.1) ∷ ys) (due_begun [] paid)
due_begun (x ∷ owed) paid = ap (λ (ys : List (ℕ × Notice)). (x.0.port, x.1) ∷ ys) (due_begun owed paid)

-- ---- the state so far

module _ (now : ℕ) (mid : State) (owed : Owed) (l : MidLawful mid owed) (left : List Token) (paid : Owed) where
  abbrev m : State
  m = record mid { ledger = left }

  abbrev pub begun : Ending
  begun = start (begun_with owed paid) left

  -- where nothing is owed
  unowed : MidLawful mid []
  unowed = grind arith

  pub begun_so_far : All (IsOwed mid.live_port) (owed ++ paid) → IsSoFar now mid begun (with_posted now m (owed ++ paid))
  begun_so_far live = subst (IsSoFar now mid begun) (sym (posted_is now m (owed ++ paid))) (let f = first_so_far now mid unowed in record {
    live_port = f.live_port;
    stands = f.stands;
    sets_of = f.sets_of;
    make_send = f.make_send;
    sequence = f.sequence;
    names = λ task name. f.names task name;
    log = λ p. ap (λ (x : State). x.log p) (sym (posted_is now m (owed ++ paid))) ∙ posted_log now m (owed ++ paid) p ∙ ap (λ (ys : List (ℕ × Notice)). mid.log p ++ entries_at now p ys) (due_begun owed paid);
    taken = f.taken;
    destroyed = f.destroyed;
    ledger = λ h.
        let a = posted_ledger now m (owed ++ paid) h in
        let b : weigh h (with_posted now m (owed ++ paid)).ledger ≡ _ = ap (λ (x : State). weigh h x.ledger) (posted_is now m (owed ++ paid)) in
        let c = ap (λ (xs : List Posted). weigh h (all_posted_tokens xs)) (all_live mid.live_port (λ p. length (mid.log p)) (owed ++ paid) live) in
        let d = ap (λ (ys : List (ℕ × Notice)). weigh h (all_posted_tokens (filter (λ (x : Posted). mid.live_port x.port) (posted_from (λ p. length (mid.log p)) ys)))) (due_begun owed paid) in
        omega (arith, a, b, c, d);
    rest = refl;
  })

-- ---- The first of the requests whose names went is taken out: what the others keep is as it was.

abbrev pub without_went : RequestTablesView → RequestTablesView
without_went v = record v { names = without_first_went v.names }

-- a request's right, for a port that isn't there
pub none_kept : (lives : ℕ → Bool) (n : ℕ) → lives n ≡ false → (kind : Kind) (q : ℕ) → rights_kept lives (Some n) kind q ≡ 0
none_kept lives n dead receive q = refl
none_kept lives n dead send q = refl
none_kept lives n dead send_once q = grind arith

module _ (lives : ℕ → Bool) (v : RequestTablesView) (r0 : NameRequest) (rest : List NameRequest) (is : v.names.went ≡ r0 ∷ rest) where
  abbrev this : Request
  this = dead_name r0.task r0.name

  same_notify : (r : Request) → notify_of (without_went v) r ≡ notify_of v r
  same_notify (no_senders p) = refl
  same_notify (port_destroyed p) = refl
  same_notify (dead_name task name) = refl

  pub went_is : (without_went v).names.went ≡ rest
  went_is = ap (drop 1) is

  module _ (made : ℕ) (stands : Request → Bool) (tokens : List Token) (a : RequestsAgree (notify_of v) v.names.went made stands lives tokens) where
    all : RequestsAgree (notify_of v) (r0 ∷ rest) made stands lives tokens
    all = subst (λ (xs : List NameRequest). RequestsAgree (notify_of v) xs made stands lives tokens) is a

    pub requests_less : (tokens2 : List Token) →
        ((r : Request) (kind : Kind) (q : ℕ) → lying_among tokens kind q (in_request r) ≡ lying_among tokens2 kind q (in_request r) + (if was_on r r0 then rights_kept lives (Some r0.notify) kind q else 0)) →
        RequestsAgree (notify_of (without_went v)) (without_went v).names.went made stands lives tokens2
    requests_less tokens2 less = grind (arith, went_is, all, same_notify)

    -- its port isn't there
    pub requests_gone : lives r0.notify ≡ false → RequestsAgree (notify_of (without_went v)) (without_went v).names.went made stands lives tokens
    requests_gone dead = grind (arith, requests_less, none_kept)

    -- it keeps its right, where its port lives
    pub some_kept : lives r0.notify ≡ true → 0 < lying_among tokens send_once r0.notify (in_request this)
    some_kept live = grind (arith, all, eq-eqb)

-- the right that it keeps, as it is counted
pub one_kept : (lives : ℕ → Bool) (r0 : NameRequest) → lives r0.notify ≡ true → (r : Request) (kind : Kind) (q : ℕ) →
    (if is_of kind q (token send_once r0.notify (in_request (dead_name r0.task r0.name))) && same_place (in_request r) (in_request (dead_name r0.task r0.name)) then suc zero else zero)
    ≡ (if was_on r r0 then rights_kept lives (Some r0.notify) kind q else zero)
one_kept lives r0 live r kind q = grind (arith, and_false)

-- ---- A right that a request kept is one that no queued message goes by, also once all that is owed was posted: so its port can get a notice.

-- ---- each notice that is owed brings its own right

module _ (now p : ℕ) where
  one_owed : (s : State) (x : Token × Notice) → s.taken p ≤ length (s.log p) → onces_queued (with_notice now s x) p + count (is_of send_once p) s.ledger ≤ onces_queued s p + count (is_of send_once p) (with_notice now s x).ledger
  one_owed s x within = grind (arith, weigh-append, brought, entry_with, log_with, at_same, drop-append-le, tally-append, at_other)

  all_owed : (owed : Owed) (s : State) → s.taken p ≤ length (s.log p) → onces_queued (with_posted now s owed) p + count (is_of send_once p) s.ledger ≤ onces_queued s p + count (is_of send_once p) (with_posted now s owed).ledger
  all_owed [] s within = omega arith
  all_owed (x ∷ owed) s within =
      let longer = logs_longer now s.log (x ∷ []) p in
      grind (arith, one_owed s x within, all_owed owed (with_notice now s x) (omega (arith, within, longer)))

-- A right for the port that is there besides is one that no queued message goes by.
pub may_pay : (now : ℕ) (m : State) (owed owed2 : Owed) (p : ℕ) → m.live_port p ≡ true → (left : List Token) → MidLawful (record m { ledger = left }) owed2 → count (is_of send_once p) left < count (is_of send_once p) m.ledger →
    onces_queued (with_posted now m owed) p < count (is_of send_once p) (with_posted now m owed).ledger
may_pay now m owed owed2 p live left l less =
    let a = apart_count p (λ x. false) (λ x e. absurd (cc)) (m.taken p) (queue m p) left (λ i. refl) (are_apart m.live_port m.ports_made m.log m.taken left l.logs l.messages p live) in
    let b = all_owed now p owed m (l.within p) in
    omega (arith, less, a, b)

-- ---- A right of a request whose name went pays: the tables show the state midway still, without that right, where its notice is owed besides.

-- ---- the machine's side

-- The right of a request whose name went is owed a notice now.
module _ (m : State) (owed : Owed) (l : MidLawful m owed) (p task name : ℕ) (live : m.live_port p ≡ true) (notice : Notice) (none : (place : Place) → carried_by notice place ≡ []) (left : List Token)
    (parts : (h : Token → ℕ) → weigh h m.ledger ≡ weigh h left + h (token send_once p (in_request (dead_name task name)))) where
  abbrev right : Token
  right = token send_once p (in_request (dead_name task name))

  fewer : (test : Token → Bool) → count test left ≤ count test m.ledger
  fewer test = let a = parts (λ z. if test z then 1 else 0) in omega (arith, a)

  same : (test : Token → Bool) → test right ≡ false → count test left ≡ count test m.ledger
  same test off = let a = parts (λ z. if test z then 1 else 0) in let b : (if test right then suc zero else zero) ≡ zero = rw off refl in omega (arith, a, b)

  pub receives_stay : (q : ℕ) → count (is_of receive q) left ≡ count (is_of receive q) m.ledger
  receives_stay q = same (is_of receive q) refl

  held_same : (t : ℕ) (kind : Kind) (q : ℕ) → count (is_held t kind q) left ≡ held m t kind q
  held_same t kind q = same (is_held t kind q) (and_false (is_of kind q right))

  lying_same : (kind : Kind) (q n k : ℕ) → lying_among left kind q (in_message n k) ≡ lying m kind q (in_message n k)
  lying_same kind q n k = same (λ z. is_of kind q z && same_place (in_message n k) z.place) (and_false (is_of kind q right))

  member : (t q : ℕ) → Holds m t receive q ⊎ IsOrphan m q → Holds (record m { ledger = left }) t receive q ⊎ IsOrphan (record m { ledger = left }) q
  member t q (inl h) = inl (let e = held_same t receive q in omega (arith, h, e))
  member t q (inr o) = inr (o.0, receives_stay q ∙ o.1)

  pub paid_lawful : MidLawful (record m { ledger = left }) (owed ++ (right, notice) ∷ [])
  paid_lawful = record {
    tasks = l.tasks;
    naming = λ t. same_naming (m.naming t) (held m t) (λ kind q. count (is_held t kind q) left) (l.naming t) (held_same t);
    ports = record { made_port = l.made_port; no_rights = λ q dead kind. let a = fewer (is_of kind q) in let b = l.no_rights q dead kind in omega (arith, a, b) };
    numbers = l.numbers;
    receivers = record { most_receive = grind (arith, fewer); members = λ q set in_it. let h = l.members q set in_it in (h.0, h.1, member h.0 q h.2) };
    room = record {
      orphans = l.orphans;
      each_orphan = λ q is. l.each_orphan q (is.0, sym (receives_stay q) ∙ is.1);
      few_rights = grind (arith, parts (λ z. 1), length-weigh, length-append, l.few_rights);
      are_owed = All-append (IsOwed m.live_port) owed ((right, notice) ∷ []) l.are_owed (one_all (IsOwed m.live_port) (right, notice) record { once = refl; live = live; carries = none });
    };
    sets = l.sets;
    membership = l.membership;
    logs = l.logs;
    messages = grind (arith, lying_same);
    requests = grind (arith, fewer);
    standing = grind (arith, fewer);
    ground = l.ground;
  }

-- ---- the tables

-- the first request is taken out
abbrev pub without_first : WorldView → WorldView
without_first v = record v { requests = without_went v.requests }

-- and its right pays for a notice to its port
abbrev pub with_told : WorldView → NameRequest → PortView Kept → WorldView
with_told v r y = record (without_first v) { ports = with_message v.ports r.notify y (notice_kept (PortDeleted r.name)); ledger = shifted v.ledger r.notify }

-- One right has paid for a notice to its port.
pub record Paid (now : ℕ) (tables : WorldView) (m : State) (owed : Owed) (r : NameRequest) (new : WorldView) : Type 0 where
  pub left : List Token
  pub parts : (h : Token → ℕ) → weigh h m.ledger ≡ weigh h left + h (token send_once r.notify (in_request (dead_name r.task r.name)))
  pub shows : ShowsMid now tables new (record m { ledger = left }) (owed ++ (token send_once r.notify (in_request (dead_name r.task r.name)), port_deleted r.name) ∷ [])

module _ (now : ℕ) (tables v : WorldView) (m : State) (owed : Owed) (s : ShowsMid now tables v m owed) (r : NameRequest) (rest : List NameRequest) (is : v.requests.names.went ≡ r ∷ rest) where
  abbrev p : ℕ
  p = r.notify

  abbrev shown : State
  shown = with_posted now m owed

  unasked : RequestsStand (without_first v)
  unasked = requested_stay v (without_first v) s.requested (λ p lives. lives) (λ p is. is) refl (λ key q is. is) (λ key q is own. keeps_same _ _ refl)

  -- its port is gone
  pub passes_over : port_at v p ≡ None → ShowsMid now tables (without_first v) m owed
  passes_over gone =
      let agrees : Agrees (without_first v) shown = requests_changed v shown (without_went v.requests) shown.ledger shown.stands s.agrees (assumption)
      (requests_gone shown.live_port v.requests r rest is v.ports.made shown.stands shown.ledger s.agrees.of_requests (sym (s.agrees.live_port p) ∙ ap is_some gone)) in
      let notes = senders_kept tables v (without_first v) s.notes (keeps_senders v (without_first v) s.requested refl (λ q none. none) refl) in
      assumption (agrees, unasked, notes)

  -- it pays
  module _ (y : PortView Kept) (there : port_at v p ≡ Some y) where
    abbrev this_turn : Request
    this_turn = dead_name r.task r.name

    abbrev x : Token
    x = token send_once p (in_request this_turn)

    alive : shown.live_port p ≡ true
    alive = sym (s.agrees.live_port p) ∙ ap is_some there

    live : m.live_port p ≡ true
    live = sym (ap (λ (z : State). z.live_port p) (posted_is now m owed)) ∙ alive

    some_left : 0 < lying_among m.ledger send_once p (in_request this_turn)
    some_left =
        let a = some_kept shown.live_port v.requests r rest is v.ports.made shown.stands shown.ledger s.agrees.of_requests alive in
        let b = posted_ledger now m owed (λ z. if is_of send_once p z && same_place (in_request this_turn) z.place then 1 else 0) in
        let c = none_tasked (λ z. is_of send_once p z && same_place (in_request this_turn) z.place) (λ kind q n k. and_false _) (posted_from (λ q. length (m.log q)) (due_notices owed)) in
        omega (arith, a, b, c)

    abbrev left : List Token
    left = without x m.ledger

    parts : (h : Token → ℕ) → weigh h m.ledger ≡ weigh h left + h x
    parts h = without_weigh x m.ledger some_left h

    abbrev after : State
    after = record m { ledger = left }

    abbrev paid : Token × Notice
    paid = (x, port_deleted r.name)

    lawful : MidLawful after (owed ++ paid ∷ [])
    lawful = paid_lawful m owed s.lawful p r.task r.name live (port_deleted r.name) (λ place. refl) left parts

    pub pays_yet : 0 < (counts_of v.ledger p).send_once
    pays_yet =
        let b = may_pay now m owed (owed ++ paid ∷ []) p live left lawful (grind (arith, parts (λ z. if is_of send_once p z then 1 else 0), eq-eqb p p refl)) in
        grind (arith, s.agrees.counts p, alive, b)

    abbrev tokens : List Token
    tokens = rights_with now m.log owed left

    abbrev came : Token
    came = token send_once p (in_message p (length (shown.log p)))

    -- on its way the right lies anywhere but at a request
    abbrev on_way : Token
    on_way = token send_once p (in_message 0 0)

    less : (h : Token → ℕ) → weigh h shown.ledger ≡ weigh h tokens + h x
    less h = grind (arith, rights_with, posted_is, rights_weigh, parts)

    taken_out : Agrees (without_first v) (record shown { ledger = on_way ∷ tokens })
    taken_out = requests_changed v shown (without_went v.requests) (on_way ∷ tokens) shown.stands s.agrees (grind (arith, less, length-weigh))
        (requests_less shown.live_port v.requests r rest is v.ports.made shown.stands shown.ledger s.agrees.of_requests (on_way ∷ tokens) (λ q kind n.
        grind (arith, less (λ z. if is_of kind n z && same_place (in_request q) z.place then 1 else 0), one_kept shown.live_port r alive q kind n, both_test (is_of kind n on_way) false (inr refl))))

    abbrev v2 : WorldView
    v2 = with_told v r y

    within : shown.taken p ≤ length (shown.log p)
    within = grind (arith, posted_is, logs_longer)

    posted_state : with_posted now after (owed ++ paid ∷ []) ≡ record shown { log = at shown.log p (shown.log p ++ entry_with now p (port_deleted r.name) ∷ []); ledger = came ∷ tokens }
    posted_state = grind (arith, posted_is, logs_more, rights_more, entry_with, brought)

    fewer_sends : (q : ℕ) → (counts_of (shifted v.ledger p) q).send ≡ (counts_of v.ledger q).send
    fewer_sends q = grind (
      arith,
      counts_own v.ledger p (one_shifted (counts_of v.ledger p)) (shifted v.ledger p) refl,
      counts_other v.ledger p (one_shifted (counts_of v.ledger p)) (shifted v.ledger p) refl q,
    )

    module _ (counted : 0 < v.ledger.unused) (spare : 0 < v.ports.spare) where
      shows : ShowsMid now tables v2 after (owed ++ paid ∷ [])
      shows = record {
        agrees = subst (Agrees v2) (sym posted_state) (told_agrees (without_first v) (record shown { ledger = on_way ∷ tokens }) taken_out p (PortDeleted r.name) v2 (record { v = y; there = there; counted = counted; spare = spare; rest = refl })
            now within pays_yet (in_message 0 0) (λ r. refl) (length (shown.log p)) (came ∷ tokens) (λ h. omega arith));
        holders = holders_ports v v2 s.holders refl (put_holders v.ports.ports p y (record y { queue = y.queue ++ notice_kept (PortDeleted r.name) ∷ [] }) there refl);
        carriers = carriers_queued v v2 s.carriers p y (record y { queue = y.queue ++ notice_kept (PortDeleted r.name) ∷ [] }) (notice_kept (PortDeleted r.name)) there refl refl refl refl
            (λ q carries. absurd (let below = carries.1 in omega (arith, below)));
        slots = let slots = s.slots in omega (arith, slots);
        requested = requested_put (without_first v) v2 unasked p (record y { queue = y.queue ++ notice_kept (PortDeleted r.name) ∷ [] }) refl refl refl;
        notes = senders_kept tables v v2 s.notes (keeps_senders v v2 s.requested refl (sends_shifted v.ledger p) refl);
        makes = λ lost among q. let a = s.makes lost among q in let b = fewer_sends q in omega (arith, a, b);
        left = grind (arith, s.left, receives_stay m owed s.lawful p r.task r.name live (port_deleted r.name) (λ place. refl) left parts);
        lawful = lawful;
      }

      pub pays_one : Paid now tables m owed r (with_told v r y)
      pays_one = record { left = left; parts = parts; shows = shows }

-- ---- As a step's end starts each port knows who has its receive right.

-- What is owed brings no right but those that pay.
none_owed : (lives : ℕ → Bool) (h : Token → ℕ) → ((p : ℕ) (place : Place) → h (token send_once p place) ≡ 0) → (ends : ℕ → ℕ) (owed : Owed) → All (IsOwed lives) owed →
    weigh h (all_posted_tokens (posted_from ends (due_notices owed))) ≡ 0
none_owed lives h none ends [] all = refl
none_owed lives h none ends (x ∷ owed) all =
    let o = All-head (IsOwed lives) x owed all in
    let ih = none_owed lives h none (at ends x.0.port (ends x.0.port + 1)) owed (All-tail (IsOwed lives) x owed all) in
    grind (arith, o, ih, weigh-append, none)

module _ (now : ℕ) (tables w : WorldView) (mid : State) (owed : Owed) (shows : ShowsMid now tables w mid owed) where
  abbrev l : MidLawful mid owed
  l = shows.lawful

  abbrev pub s : State
  s = with_posted now mid owed

  pub live_same : (p : ℕ) → s.live_port p ≡ mid.live_port p
  live_same p = ap (λ (x : State). x.live_port p) (posted_is now mid owed)

  -- receive rights are where they were
  pub receives : (h : Token → ℕ) → ((p : ℕ) (place : Place) → h (token send_once p place) ≡ 0) → weigh h s.ledger ≡ weigh h mid.ledger
  receives h none = grind (arith, posted_ledger now mid owed h, none_owed mid.live_port h none (λ p. length (mid.log p)) owed l.are_owed)

  lies_yet : (p : ℕ) (place : Place) → LiesAt mid receive p place → LiesAt s receive p place
  lies_yet p place at = let a = receives (λ x. if is_of receive p x && same_place place x.place then 1 else 0) (λ q place. refl) in omega (arith, a, at)

  -- no reply is a receive right
  sendable : (q : ℕ) (u : PortView Kept) (m : Kept) (c : Carried) → port_at w q ≡ Some u → Contains u.queue m → m.reply ≡ Some c → c.given ≢ MoveReceive
  sendable q u m c there among reply = (kept_of q u.queue (queue s q) (shows.agrees.ports q u there).waiting m among).keeps.reply_sent c reply

  module _ (tells_lost : TellsLost w) (p : ℕ) (v : PortView Kept) (there : port_at w p ≡ Some v) where
    lived : mid.live_port p ≡ true
    lived = sym (live_same p) ∙ sym (shows.agrees.live_port p) ∙ ap is_some there

    -- ---- with a task

    task_has : (t : ℕ) → LiesAt mid receive p (in_task t) → 0 < held s t receive p
    task_has t lies = grind (arith, receives, weigh-same, eq_symm)

    by_task : (t : ℕ) → LiesAt mid receive p (in_task t) → v.attributes.holder ≡ holder.Task t
    by_task t lies =
        let some = task_has t lies in
        let mid_some : 0 < held mid t receive p = (let a = receives (λ x. if is_held t receive p x then 1 else 0) (λ q place. refl) in omega (arith, a, some)) in
        let named = (l.naming t).is_named p (omega (arith, mid_some)) in
        let at : lookup s t named.0 ≡ Some (Target.port p) = ap (λ (x : State). lookup x t named.0) (posted_is now mid owed) ∙ named.1 in
        task_holds w s shows.agrees shows.holders p v there t named.0 at some

    -- ---- in a queue

    by_queue : (q k : ℕ) → LiesAt mid receive p (in_message q k) → v.attributes.holder ≡ holder.QueueOf q
    by_queue q k lies = go (port_got (port_at w q) (shows.agrees.live_port q ∙ live_same q ∙ live)) (some_at (mid.log q) k within)
      where
        live : mid.live_port q ≡ true
        live = grind (arith, l.gone q k, lies)

        waits : mid.taken q ≤ k
        waits = grind (arith, l.gone q k, lies)

        within : k < length (mid.log q)
        within = grind (arith, l.no_entry q k, lies)

        place_is : mid.taken q + (k - mid.taken q) ≡ k
        place_is = let a = waits in omega (arith, a)

        go : (u : PortView Kept) × (port_at w q ≡ Some u) → (e : Entry) × (slice_get (mid.log q) k ≡ Some e) → v.attributes.holder ≡ holder.QueueOf q
        go (u, at) (e, is) =
            let log : slice_get (mid.log q) (mid.taken q + (k - mid.taken q)) ≡ Some e = ap (slice_get (mid.log q)) place_is ∙ is in
            let counted = l.carried q (k - mid.taken q) e live (slice_get_drop (mid.taken q) (mid.log q) (k - mid.taken q) ∙ log) receive p lived in
            let lying : 0 < lying_among mid.ledger receive p (in_message q (mid.taken q + (k - mid.taken q))) = subst (λ (n : ℕ). 0 < lying_among mid.ledger receive p (in_message q n)) (sym place_is) lies in
            let taken : s.taken q ≡ mid.taken q = ap (λ (x : State). x.taken q) (posted_is now mid owed) in
            let in_queue : slice_get (queue s q) (k - mid.taken q) ≡ Some e = slice_get_drop (s.taken q) (s.log q) (k - mid.taken q)
            ∙ (λ i. slice_get (posted_log now mid owed q i) (taken i + (k - mid.taken q)))
            ∙ front_stays (mid.log q) (entries_at now q (due_notices owed)) (mid.taken q + (k - mid.taken q)) e log in
            let m = kept_at q u.queue (queue s q) (k - mid.taken q) e (shows.agrees.ports q u at).waiting in_queue in
            carried u at m.0 m.1 (counted_carries q m.0 e.message m.2 p (omega (arith, counted, lying)))
          where
            carried : (u : PortView Kept) → port_at w q ≡ Some u → (m : Kept) → Contains u.queue m →
                (m.reply ≡ Some (record { given = MoveReceive; mark = mark.Port p })) ⊎ ((n : ℕ) × (n < length m.rights) × (slice_get m.rights n ≡ Some (record { given = MoveReceive; mark = mark.Port p }))) →
                v.attributes.holder ≡ holder.QueueOf q
            carried u at m one (inl reply) = absurd (sendable q u m (record { given = MoveReceive; mark = mark.Port p }) at one reply refl)
            carried u at m one (inr (n, below, is)) =
                shows.carriers.carried q u m p at one (n, below, get_or_from_slice_get m.rights n (record { given = MoveReceive; mark = mark.Port p }) (record { given = MoveReceive; mark = mark.Port p }) is) v there

    -- ---- nowhere

    by_none : IsOrphan mid p → v.attributes.holder ≡ holder.Nobody
    by_none o = grind (arith, (tells_lost p).0 (shows.left.orphans p o))

    pub start_holders : IsHolder s [] p v.attributes.holder
    start_holders = go (where_is mid owed p l lived)
      where
        go : Where mid p → IsHolder s [] p v.attributes.holder
        go (with_task t lies) = subst (IsHolder s [] p) (sym (by_task t lies)) (lies_yet p (in_task t) lies)
        go (queued q k lies) = subst (IsHolder s [] p) (sym (by_queue q k lies)) (k, lies_yet p (in_message q k) lies, λ c. let below = c.1 in omega (arith, below))
        go (nowhere o) = subst (IsHolder s [] p) (sym (by_none o)) (inl (receives (λ x. if is_of receive p x then 1 else 0) (λ q place. refl) ∙ o.1))

-- ---- When all rights of requests whose names went have paid, the chain of turns begins.

-- Some of the rights have paid: the tables show the state midway without these rights, where their notices are owed besides.
pub record Paying (now : ℕ) (tables : WorldView) (mid : State) (owed : Owed) (w v : WorldView) (left : List Token) (paid : Owed) : Type 0 where
  pub went : All (PaidForName mid) paid
  pub rights : (h : Token → ℕ) → weigh h mid.ledger ≡ weigh h left + weigh h (tokens_of paid)
  pub shows : ShowsMid now tables v (record mid { ledger = left }) (owed ++ paid)
  pub spare : v.ports.spare + length paid ≡ w.ports.spare
  pub undoomed : NoneHeldBy v.ports holder.Doomed
  pub tells : TellsLost v

module _ (now : ℕ) (tables : WorldView) (old mid : State) (owed : Owed) (shown : Shows tables old) (w v : WorldView) (start : ShowsMid now tables w mid owed)
    (left : List Token) (paid : Owed) (s : Paying now tables mid owed w v left paid) (none : v.requests.names.went ≡ []) where
  abbrev pub e : Ending
  e = begun now mid owed start.lawful left paid

  abbrev lives : ℕ → Bool
  lives = lives_after mid e

  abbrev here : State
  here = with_posted now (record mid { ledger = left }) (owed ++ paid)

  alive_same : (p : ℕ) → here.live_port p ≡ lives p
  alive_same p = grind (arith, posted_is)

  -- ---- the tables agree

  -- no right is for a port that isn't there
  none_for : (p : ℕ) → lives p ≡ false → (kind : Kind) → count (is_of kind p) here.ledger ≡ 0
  none_for p dead = go (let entered = (s.shows.agrees.counts p).entered ∙ alive_same p ∙ dead in grind (arith, entered)) (s.shows.agrees.counts p)
    where
      go : counts_of v.ledger p ≡ no_rights → CountsAgree v.ledger here.live_port here.ledger (onces_queued here) p → (kind : Kind) → count (is_of kind p) here.ledger ≡ 0
      go counted c receive = cc
      go counted c send = cc
      go counted c send_once = grind (arith, counted)

  agrees : AgreesOf lives v here
  agrees = grind (arith, alive_same, requests_stay, kept_live, none_for)

  -- ---- no right is left that such a request kept

  module _ (k : ℕ) (d : Token) (below : k < length left) where
    abbrev right_end : Token
    right_end = get_or left k d

    not_at : (r : Request) → right_end.place ≡ in_request r → mid.stands r ≡ false → ⊥
    not_at r at ended =
        let stands : here.stands r ≡ false = ap (λ (x : State). x.stands r) (posted_is now (record mid { ledger = left }) (owed ++ paid)) ∙ ended in
        let f = posted_ledger now (record mid { ledger = left }) (owed ++ paid) (λ y. if is_of right_end.kind right_end.port y && same_place (in_request r) y.place then 1 else 0) in
        let g : 0 < lying_among left right_end.kind right_end.port (in_request r) =
        subst (λ (place : Place). 0 < lying_among left right_end.kind right_end.port place) at (count_some (is_at right_end.kind right_end.port right_end.place) left k d below (own_test right_end)) in
        grind (arith, stands, s.shows.agrees.of_requests.standing r, s.shows.agrees.of_requests.kept r right_end.kind right_end.port, f, g, none)

    not_gone : (place : Place) → right_end.place ≡ place → IsOnGone mid place → ⊥
    not_gone (in_task task) at h = h
    not_gone (in_message q n) at h = h
    not_gone (in_request (no_senders p)) at h = h
    not_gone (in_request (port_destroyed p)) at h = h
    not_gone (in_request (dead_name task name)) at h = not_at (dead_name task name) at h

  pub has_begun : Begins mid owed e
  has_begun = record {
    owes = owed_begun owed paid;
    went = subst (λ (xs : Owed). All (PaidForName mid) xs) (sym (went_begun owed paid)) s.went;
    rights = λ h. let a = s.rights h in let b = ap (λ (xs : Owed). weigh h (tokens_of xs)) (went_begun owed paid) in omega (arith, a, b);
    all_went = λ k d below. not_gone k d below (get_or left k d).place refl;
    rest = refl;
  }

  reached : IsReached old mid owed e
  reached = begins e has_begun

  -- ---- send rights in messages of ports that die

  an_orphan : (q : ℕ) → Dies mid q → (p : ℕ) × IsOrphan mid p
  an_orphan p' (orphan p o unsaved) = (p, o)
  an_orphan p' (carried_at p q d at unsaved) = an_orphan q d

  had : HadSenders old mid
  had p q k dies lies =
      let o = an_orphan q dies in
      let a = start.makes o.0 (start.left.orphans o.0 o.1) p in
      let b = (start.agrees.counts p).senders in
      let c = receives now tables w mid owed start (λ x. if is_of send p x then 1 else 0) (λ q place. refl) in
      let d = lying_le_of mid send p (in_message q k) in
      let f = (shown.agrees.counts p).senders in
      omega (arith, a, b, c, d, f, lies)

  few_receive : (p : ℕ) → (counts_of v.ledger p).receive ≤ 1
  few_receive p = grind (
    arith,
    s.shows.agrees.counts p,
    receives now tables v (record mid { ledger = left }) (owed ++ paid) s.shows (λ x. if is_of receive p x then 1 else 0) (λ q place. refl),
    s.shows.lawful.most_receive p,
  )

  orphaned : (p : ℕ) → IsOrphan mid p → IsOrphan (record mid { ledger = left }) p
  orphaned p (live, few) = (live, (let a = s.rights (λ x. if is_of receive p x then 1 else 0) in omega (arith, a, few)))

  pub starts : Between now tables old mid owed e v
  starts = record {
    lawful = start.lawful;
    reached = reached;
    tied = record {
      state = here;
      so_far = begun_so_far now mid owed start.lawful left paid s.shows.lawful.are_owed;
      agrees = agrees;
      holders = start_holders now tables v (record mid { ledger = left }) (owed ++ paid) s.shows s.tells;
      slots = s.shows.slots;
      waiting = record { waiting = []; emptied = []; parts = refl; are = subst (λ (ms : List Kept). AreEntries here ms []) (sym s.shows.left.destroyed) tt; lost = λ k d below. absurd (omega arith) };
    };
    held = s.shows.holders;
    carriers = s.shows.carriers;
    requested = s.shows.requested;
    went = none;
    unjudged = λ p h. refl;
    doomed = λ p x there. ((λ is. absurd (s.undoomed p x there is)), (λ h. absurd (cc)));
    lost = λ p h. lost p h;
    emptied = λ p k h. absurd (cc);
    senders = λ p. (shown.agrees.counts p).senders;
    noted = λ p live had h. s.shows.notes.noted p had h;
    had = s.shows.notes.had;
    receivers = few_receive;
    unlost = λ kind p q k a b c. refl;
    had_senders = had;
  }
    where
      lost : (p : ℕ) → HasLost mid e p → (is_judged e p ≡ true) ⊎ IsHeldBy v.ports p holder.Nobody
      lost p (inl o) = inr ((s.tells p).0 (s.shows.left.orphans p (orphaned p o)))
      lost p (inr (q, k, doomed, at, c)) = absurd (cc)

  pub emptied : IsEmptied v
  emptied p x there doomed = absurd (s.undoomed p x there doomed)

-- ---- The requests whose names went are taken out one by one, and the right of each pays where its port is there.

-- From whatever state the step's own part left, some rights have paid.
abbrev pub PaysOn : WorldView → WorldView → Type 0
PaysOn w v = (now : ℕ) (tables : WorldView) (mid : State) (owed : Owed) → ShowsMid now tables w mid owed → (left_pays : List Token) × (paid_pays : Owed) × Paying now tables mid owed w v left_pays paid_pays

pub pays_first : (w : WorldView) → TellsDoomed w → TellsLost w → PaysOn w w
pays_first w doomed lost now tables mid owed shows = (
  mid.ledger,
  [],
  record {
    went = λ k d below. absurd (omega arith);
    rights = λ h. omega arith;
    shows = subst (ShowsMid now tables w mid) (sym (append-nil owed)) shows;
    spare = omega arith;
    undoomed = none_held w doomed shows.left.doomed;
    tells = lost;
  },
)

module _ (w v v1 : WorldView) (on : PaysOn w v) (r : NameRequest) (takes : TakesWent v r v1) where
  -- the port of the first request that is there can get its notice
  pub can_pay : IsMidway w → LivesIn v1 r.notify → CanPost v1 r.notify
  can_pay i lives =
      let (left_pays, paid_pays, s_pays) = on i.now i.tables i.mid i.owed i.shows in
      let is : LivesIn (without_first v) r.notify = subst (λ (x : WorldView). LivesIn x r.notify) takes.rest lives in
      subst (λ (x : WorldView). CanPost x r.notify) (sym takes.rest) (record {
        live = ap is_some is.there;
        paid = pays_yet i.now i.tables v (record i.mid { ledger = left_pays }) (i.owed ++ paid_pays) s_pays.shows r v1.requests.names.went takes.went is.v is.there;
        slots = s_pays.shows.slots;
      })

  module _ (now : ℕ) (tables : WorldView) (mid : State) (owed : Owed) (shows : ShowsMid now tables w mid owed) where
    abbrev left_pays : List Token
    left_pays = (on now tables mid owed shows).0

    abbrev paid_pays : Owed
    paid_pays = (on now tables mid owed shows).1

    abbrev s_pays : Paying now tables mid owed w v left_pays paid_pays
    s_pays = (on now tables mid owed shows).2

    abbrev m_pays : State
    m_pays = record mid { ledger = left_pays }

    abbrev HavePaid : WorldView → Type 0
    HavePaid v2 = (left_pays : List Token) × (paid_pays : Owed) × Paying now tables mid owed w v2 left_pays paid_pays

    over : port_at v r.notify ≡ None → HavePaid (without_first v)
    over gone = (left_pays, paid_pays, let shows = passes_over now tables v m_pays (owed ++ paid_pays) s_pays.shows r v1.requests.names.went takes.went gone in assumption (shows, s_pays))

    one : (y : PortView Kept) (there : port_at v r.notify ≡ Some y) → 0 < v.ledger.unused → 0 < v.ports.spare → HavePaid (with_told v r y)
    one y there counted some =
        let more = pays_one now tables v m_pays (owed ++ paid_pays) s_pays.shows r v1.requests.names.went takes.went y there counted some in
        let this : Token × Notice = (token send_once r.notify (in_request (dead_name r.task r.name)), port_deleted r.name) in
        let shape = one_queued (without_first v) (with_told v r y) r.notify y there (notice_kept (PortDeleted r.name)) (λ q c. let below = c.1 in omega (arith, below)) refl refl refl refl in (
          more.left,
          paid_pays ++ this ∷ [],
          record {
            went = All-append (PaidForName mid) paid_pays (this ∷ []) s_pays.went (one_all (PaidForName mid) this record { task = r.task; name = r.name; once = refl; kept = refl; went = ended; tells = refl });
            rights = λ h. let a = s_pays.rights h in let b = more.parts h in let d = tokens_joined h paid_pays (this ∷ []) in omega (arith, a, b, d);
            shows = subst (ShowsMid now tables (with_told v r y) (record mid { ledger = more.left })) (append_assoc owed paid_pays (this ∷ [])) more.shows;
            spare = grind (arith, some, s_pays.spare, length-append paid_pays (this ∷ []));
            undoomed = λ q z at. let b = shape.back q z at in λ doomed. s_pays.undoomed q b.v b.there (b.is ∙ doomed);
            tells = λ q. ((λ c. shape_held (without_first v) (with_told v r y) shape q holder.Nobody ((s_pays.tells q).0 c)), (λ h. (s_pays.tells q).1 (shape_was_held (without_first v) (with_told v r y) shape q holder.Nobody h)));
          },
        )
      where
        ended : mid.stands (dead_name r.task r.name) ≡ false
        ended = sym (ap (λ (z : State). z.stands (dead_name r.task r.name)) (posted_is now m_pays (owed ++ paid_pays))) ∙ (subst (λ xs. AreEnded (with_posted now m_pays (owed ++ paid_pays)).stands xs) takes.went s_pays.shows.agrees.of_requests.ended_went).0

  pub pays_more : (v2 : WorldView) → Pays v1 r.notify (PortDeleted r.name) v2 → PaysOn w v2
  pays_more v2 pays now tables mid owed shows = go (seen (port_at v r.notify))
    where
      first : Pays (without_first v) r.notify (PortDeleted r.name) v2
      first = subst (λ (x : WorldView). Pays x r.notify (PortDeleted r.name) v2) takes.rest pays

      gone : port_at v r.notify ≡ None → ¬ (LivesIn (without_first v) r.notify)
      gone none lives = let f : None ≡ Some lives.v = sym none ∙ lives.there in cc

      go : ((y : PortView Kept) × (port_at v r.notify ≡ Some y)) ⊎ (port_at v r.notify ≡ None) → HavePaid now tables mid owed shows v2
      go (inr none) = subst (HavePaid now tables mid owed shows) (sym (first.stays (gone none))) (over now tables mid owed shows none)
      go (inl (y, at)) =
          let posts = first.posts record { v = y; there = at; undoomed = (on now tables mid owed shows).2.undoomed r.notify y at } in
          subst (HavePaid now tables mid owed shows) (sym posts.rest) (one now tables mid owed shows posts.v posts.there posts.counted posts.spare)

pub pays_all : (w v : WorldView) → PaysOn w v → v.requests.names.went ≡ [] → Starts w v
pays_all w v on none now tables old mid owed shown shows =
    let (left_pays, paid_pays, s_pays) = on now tables mid owed shows in (
      e now tables old mid owed shown w v shows left_pays paid_pays s_pays none,
      starts now tables old mid owed shown w v shows left_pays paid_pays s_pays none,
      has_begun now tables old mid owed shown w v shows left_pays paid_pays s_pays none,
      (let a = ap length (went_begun owed paid_pays) in let b = s_pays.spare in omega (arith, a, b)),
      s_pays.shows.left.destroyed,
      emptied now tables old mid owed shown w v shows left_pays paid_pays s_pays none,
    )

pub pays_last : (w v v1 : WorldView) → PaysOn w v → (v.requests.names.went ≡ []) × (v1 ≡ v) → Starts w v1
pays_last w v v1 on none = pays_all w v1 (subst (PaysOn w) (sym none.1) on) (ap (λ (x : WorldView). x.requests.names.went) none.1 ∙ none.0)
