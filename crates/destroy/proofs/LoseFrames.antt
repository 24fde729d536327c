-- A turn in which a right pays for a notice, and what it keeps.
use Rattle.std.proofs.Common.{◌≡◌, ℕ, List, [], ◌∷◌, ◌++◌, Option, Some, refl, sym, ap, subst, ◌∙◌, arith, true, false, ◌⊎◌, inl, inr, ◌+◌, ◌<◌, ◌≤◌, Bool, length, length-append}
use Rattle.std.specs.Prelude.{◌||◌, Contains, if◌then◌else◌, ◌==◌, filter, slice_get}
use Rattle.std.specs.FinMap as map
use Rattle.std.specs.Ordering.{nat_cmp}
use Rattle.std.proofs.lemmas.Bool.Decides.{eqb_tells}
use Rattle.std.specs.Option.{option_map}
use Rattle.std.proofs.lemmas.Bool.{eq-eqb}
use Rattle.std.proofs.lemmas.List.{append-nil, append_assoc}
use Rattle.mach_types.specs.Tokens.{receive, send, send_once, Request, Place, in_task, in_message, Token, token, weigh, count, is_of}
use Rattle.mach_types.specs.Messages.{Entry}
use Rattle.mach_model.specs.State.{State, Names, lookup, at}
use Rattle.mach_model.proofs.Names.{removed_own, at_own, at_other}
use Rattle.mach_model.specs.Turns.{Ending, listed, is_among, is_judged, lives_after, outcome, IsWaiting, Turn, IsReached, turns}
use Rattle.mach_model.specs.Carried.{lying_among}
use Rattle.mach_model.specs.Midway.{MidLawful}
use Rattle.mach_model.specs.Notices.{notice_message, carried_by, Posted, posted_tokens, all_posted_tokens, Owed, Notice as MachineNotice}
use Rattle.mach_model.specs.Settles.{settled_target}
use Rattle.mach_model.specs.Unused.{onces_queued}
use Rattle.rights.specs.declared.Counts.{Counts}
use Rattle.rights.specs.Counts.{one_shifted}
use Rattle.rights.specs.Ledger.{counts_of, shifted}
use Rattle.name_space.specs.Names.{SpaceView}
use Rattle.port.specs.declared.Holder.{Holder}
use Rattle.port.specs.declared.Holder.TheVariants as holder
use Rattle.port.specs.Holding.{IsHeldBy}
use Rattle.port.specs.Ports.{PortView}
use Rattle.copyin_base.specs.Kept.{Kept}
use Rattle.copyin_base.specs.Shows.{CarriesReceive, CarriersAgree, RequestsStand, ReferencesAgree, SlotsSuffice}
use Rattle.copyin_base.specs.Worlds.{WorldView, port_at, entry_at, entry_in, space_in}
use Rattle.copyin_base.proofs.Carriers.{carriers_same, carriers_queued}
use Rattle.copyin_base.proofs.Gets.{same_found}
use Rattle.copyin_base.proofs.Holders.{KeepHolders, same_holders, put_holders, holders_ports}
use Rattle.copyin_base.proofs.Putting.{get_removed, put_own, put_other}
use Rattle.copyin_base.proofs.Requested.{requested_stay, requested_put, keeps_same}
use Rattle.copyin_base.specs.declared.Notice.{Notice}
use Rattle.copyin_base.specs.Queued.{notice_kept, notice_of}
use Rattle.request_table.specs.Tables.{RequestTablesView}
use Rattle.copyin_base.proofs.Counting.{counts_same}
use Rattle.copyin_base.proofs.SendersNoted.{counts_own, counts_other}
use Rattle.notifications.specs.SoFar.{due_so_far, entries_at, posted_so_far, posted_from, buried_alone, seen_for, IsSoFar, AgreesOf, IsWithNobody, IsHolder, HoldersTell}
use Rattle.notifications.proofs.NoticePosted.{PaysFrom, posted_agrees}
use Rattle.copyin_base.proofs.Lost.{with_message}
use Rattle.destroy.specs.Between.{HasLost, TellsSenders, HadSenders}
use Rattle.destroy.specs.Losing.{Framed, Loose}
use Rattle.destroy.proofs.LoseCounts.{alone_lives, none_taken, due_more, entries_more, ends_after, ends_are, posted_more, log_longer}

-- ---- What is said of the tables alone between turns is kept where ports keep their attributes, and queues get no receive right.

-- No port came or went, or has another holder, no message with a receive right was queued, and no request came.
pub record SameShape (w v : WorldView) : Type 0 where
  pub spaces : v.spaces ≡ w.spaces
  pub went : v.requests.names.went ≡ w.requests.names.went
  pub back : KeepHolders w.ports.ports v.ports.ports
  pub forth : KeepHolders v.ports.ports w.ports.ports
  pub carriers : CarriersAgree w → CarriersAgree v
  pub requested : RequestsStand w → RequestsStand v

-- tables of which one key was taken
pub kept_has : (m : map.FinMap nat_cmp ℕ) (k p : ℕ) → map.contains_key (map.remove m k) p ≡ true → map.contains_key m p ≡ true
kept_has m k p h = grind (arith, removed_own, get_removed)

-- ports are as they were
pub same_ports : (w v : WorldView) → v.spaces ≡ w.spaces → v.ports.ports ≡ w.ports.ports → v.ports.made ≡ w.ports.made → v.requests.names ≡ w.requests.names →
    ((p : ℕ) → map.contains_key v.requests.no_senders.map p ≡ true → map.contains_key w.requests.no_senders.map p ≡ true) → v.requests.port_destroyed ≡ w.requests.port_destroyed → SameShape w v
same_ports w v spaces ports made names no_senders port_destroyed = record {
  spaces = spaces;
  went = ap (λ n. n.went) names;
  back = subst (λ m. KeepHolders w.ports.ports m) (sym ports) (same_holders w.ports.ports);
  forth = subst (λ m. KeepHolders m w.ports.ports) (sym ports) (same_holders w.ports.ports);
  carriers = λ a. carriers_same w v a made ports;
  requested = λ a. requested_stay w v a (λ p live. subst (λ m. map.contains_key m p ≡ true) (sym ports) live) no_senders port_destroyed (λ key r is. ap (λ n. map.get n.requests key) (sym names) ∙ is)
      (λ key r is own. keeps_same (entry_at w r.task r.name) (entry_at v r.task r.name) (ap (λ (xs : List (Option SpaceView)). entry_in (space_in xs r.task) r.name) spaces));
}

-- a message came to the end of a port's queue, and carries no receive right
module _ (w v : WorldView) (p : ℕ) (x : PortView Kept) (there : port_at w p ≡ Some x) (m : Kept) (bare : (q : ℕ) → ¬ (CarriesReceive m q)) where
  abbrev longer : PortView Kept
  longer = record x { queue = x.queue ++ m ∷ [] }

  pub one_queued : v.spaces ≡ w.spaces → v.ports.ports ≡ map.insert w.ports.ports p longer → v.ports.made ≡ w.ports.made → v.requests ≡ w.requests → SameShape w v
  one_queued spaces ports made requests = record {
    spaces = spaces;
    went = ap (λ r. r.names.went) requests;
    back = subst (λ m. KeepHolders w.ports.ports m) (sym ports) (put_holders w.ports.ports p x longer there refl);
    forth = λ q y is. elim (eqb_tells q p) [
      | inl h ↦ record {
        v = longer;
        there = ap (λ n. map.get n q) ports ∙ ap (map.get (map.insert w.ports.ports p longer)) h.1 ∙ put_own w.ports.ports p (Some longer);
        is = ap (λ (z : PortView Kept). z.attributes.holder) (same_found (port_at w p) x y there (ap (port_at w) (sym h.1) ∙ is));
      }
      | inr h ↦ record { v = y; there = ap (λ n. map.get n q) ports ∙ put_other w.ports.ports p (Some longer) q h.1 ∙ is; is = refl }
    ];
    carriers = λ a. carriers_queued w v a p x longer m there made ports refl refl (λ q c. absurd (bare q c));
    requested = λ a. requested_put w v a p longer ports requests spaces;
  }

module _ (w v : WorldView) (same : SameShape w v) where
  pub shape_held : (q : ℕ) (h : Holder) → IsHeldBy w.ports q h → IsHeldBy v.ports q h
  shape_held q h x = let f = same.forth q x.view x.there in record { view = f.v; there = f.there; holder_is = f.is ∙ x.holder_is }

  pub shape_was_held : (q : ℕ) (h : Holder) → IsHeldBy v.ports q h → IsHeldBy w.ports q h
  shape_was_held q h x = let f = same.back q x.view x.there in record { view = f.v; there = f.there; holder_is = f.is ∙ x.holder_is }

  module _ (mid : State) (e f : Ending) (doomed : f.doomed ≡ e.doomed) (saved : f.saved ≡ e.saved) (destroyed : f.destroyed ≡ e.destroyed) (a : Framed mid e w) where
    judged_same : (p : ℕ) → is_judged f p ≡ is_judged e p
    judged_same p = λ i. listed (doomed i) p || listed (saved i) p

    was_lost : (p : ℕ) → HasLost mid f p → HasLost mid e p
    was_lost p (inl o) = inl o
    was_lost p (inr (q, k, d, at, c)) = inr (q, k, ap (λ (ps : List ℕ). listed ps q) (sym doomed) ∙ d, at, subst (λ (ms : List (ℕ × ℕ)). Contains ms (q, k)) destroyed c)

    pub framed_stays : Framed mid f v
    framed_stays = record {
      held = holders_ports w v a.held same.spaces same.back;
      carriers = same.carriers a.carriers;
      requested = same.requested a.requested;
      went = same.went ∙ a.went;
      unjudged = λ p h. judged_same p ∙ a.unjudged p (shape_was_held p holder.Nobody h);
      doomed = λ p x there. let b = same.back p x there in let d = a.doomed p b.v b.there in (
        (λ is. ap (λ (ps : List ℕ). listed ps p) doomed ∙ d.0 (b.is ∙ is)),
        (λ is. sym b.is ∙ d.1 (ap (λ (ps : List ℕ). listed ps p) (sym doomed) ∙ is)),
      );
      lost = λ p h. now_lost p (a.lost p (was_lost p h));
    }
      where
        now_lost : (p : ℕ) → (is_judged e p ≡ true) ⊎ IsHeldBy w.ports p holder.Nobody → (is_judged f p ≡ true) ⊎ IsHeldBy v.ports p holder.Nobody
        now_lost p (inl h) = inl (judged_same p ∙ h)
        now_lost p (inr h) = inr (shape_held p holder.Nobody h)

-- ---- A turn in which a right pays for a notice: the state and the tables with the notice at the end of its port's queue.

-- It is so, in a state whose logs have all entries that they had.
abbrev pub Goes : (now : ℕ) (tables : WorldView) (old mid : State) (owed : Owed) → State → Ending → WorldView → Type 0
Goes now tables old mid owed s f u = (l : Loose now tables old mid owed f u) × ((q k : ℕ) (x : Entry) → slice_get (s.log q) k ≡ Some x → slice_get (l.state.log q) k ≡ Some x)

-- ---- the tables agree where rights of a state are elsewhere, or a request ended

pub rekept : (lives : ℕ → Bool) (w : WorldView) (s : State) (r : RequestTablesView) (tokens : List Token) (stands : Request → Bool) → AgreesOf lives w s →
    PaysFrom lives (record w { requests = r }) s tokens stands → AgreesOf lives (record w { requests = r }) (record s { ledger = tokens; stands = stands })
rekept lives w s r tokens stands a pays =
    let rights : ReferencesAgree w.spaces tokens = record { references = λ task name e q is named. let x = a.rights.references task name e q is named in (pays.held task receive q ∙ x.0, pays.held task send q ∙ x.1) } in
    let counts = counts_same w.ledger s.live_port s.ledger (λ q. if lives q then onces_queued s q else (counts_of w.ledger q).destination) a.counts tokens pays.counts in
    let total = a.total ∙ pays.total in
    assumption (a, rights, counts, total, pays)

-- ---- holders

-- Receive rights are where they were.
pub record SameReceives (tokens tokens2 : List Token) : Type 0 where
  pub all : (p : ℕ) → count (is_of receive p) tokens2 ≡ count (is_of receive p) tokens
  pub each : (p : ℕ) (place : Place) → lying_among tokens2 receive p place ≡ lying_among tokens receive p place

module _ (s s2 : State) (destroyed : List (ℕ × ℕ)) (same : SameReceives s.ledger s2.ledger) where
  nobody_stays : (p : ℕ) → IsWithNobody s destroyed p → IsWithNobody s2 destroyed p
  nobody_stays p (inl none) = inl (same.all p ∙ none)
  nobody_stays p (inr (q, k, at, c)) = inr (q, k, (let a = same.each p (in_message q k) in omega (arith, a, at)), c)

  pub holder_stays : (p : ℕ) (h : Holder) → IsHolder s destroyed p h → IsHolder s2 destroyed p h
  holder_stays p (holder.Task task) at = let a = same.each p (in_task task) in omega (arith, a, at)
  holder_stays p (holder.QueueOf q) (k, at, none) = (k, (let a = same.each p (in_message q k) in omega (arith, a, at)), none)
  holder_stays p holder.Nobody h = nobody_stays p h
  holder_stays p holder.Doomed h = nobody_stays p h

  pub holders_stay : (w v : WorldView) → SameShape w v → HoldersTell w s destroyed → HoldersTell v s2 destroyed
  holders_stay w v shape h p u there = let b = shape.back p u there in subst (IsHolder s2 destroyed p) b.is (holder_stays p b.v.attributes.holder (h p b.v b.there))

-- ---- which requests stand, and what names stand for

abbrev pub StandsSoFar : State → Ending → (Request → Bool) → Type 0
StandsSoFar mid e stands = (r : Request) → stands r ≡ (if is_among e.ended r then false else (outcome mid (buried_alone e)).stands r)

pub stood_if : (c b : Bool) → (if c then false else b) ≡ true → b ≡ true
stood_if true b e = absurd (cc)
stood_if false b e = e

abbrev pub NamesSoFar : State → (ended : List Request) → (live : ℕ → Bool) → (ℕ → Names) → Type 0
NamesSoFar mid ended live naming = (task name : ℕ) → map.get (naming task) name ≡ option_map (settled_target mid (seen_for mid ended live task name) task name) (lookup mid task name)

-- ---- a notice is posted

module _ (now : ℕ) (mid : State) (e : Ending) (s : State) (so : IsSoFar now mid e s) (p : ℕ) (alive : s.live_port p ≡ true) (place : Place) (n : MachineNotice) (none : (at : Place) → carried_by n at ≡ [])
    (ended2 : List Request) (left2 : List Token) (told2 : List ℕ) (turns2 : ℕ) (naming : ℕ → Names) (tokens : List Token) (stands : Request → Bool) where
  abbrev x : Token
  x = token send_once p place

  abbrev pub paid_for : Ending
  paid_for = record e { ended = ended2; told = told2; left = left2; paid = e.paid ++ (x, n) ∷ []; turns = turns2 }

  abbrev own : Entry
  own = record { origin = now; message = notice_message p n }

  abbrev pub noticed : State
  noticed = record s { naming = naming; log = at s.log p (s.log p ++ own ∷ []); ledger = tokens; stands = stands }

  due : due_so_far paid_for ≡ due_so_far e ++ (p, n) ∷ []
  due = due_more e x n

  entries : (q : ℕ) → entries_at now q (due_so_far paid_for) ≡ entries_at now q (due_so_far e) ++ (if p == q then record { origin = now; message = notice_message q n } ∷ [] else [])
  entries q = ap (entries_at now q) due ∙ entries_more now q (due_so_far e) p n

  logs : (q : ℕ) → at s.log p (s.log p ++ own ∷ []) q ≡ mid.log q ++ entries_at now q (due_so_far paid_for)
  logs q = grind (arith, eq-eqb, at_own, append_assoc, entries, at_other, append-nil)

  entry_is : ends_after (λ q. length (mid.log q)) (due_so_far e) p ≡ length (s.log p)
  entry_is = grind (arith, ends_are, length-append)

  brought : (h : Token → ℕ) → weigh h (all_posted_tokens (filter (λ (y : Posted). s.live_port y.port) (posted_so_far mid paid_for))) ≡
      weigh h (all_posted_tokens (filter (λ (y : Posted). s.live_port y.port) (posted_so_far mid e))) + h (token send_once p (in_message p (length (s.log p))))
  brought h =
      let a : weigh h (all_posted_tokens (filter (λ (y : Posted). s.live_port y.port) (posted_so_far mid paid_for))) ≡ _ = ap (λ ys. weigh h (all_posted_tokens (filter (λ (y : Posted). s.live_port y.port) (posted_from (λ q. length (mid.log q)) ys)))) due in
      let b = posted_more s.live_port (λ q. length (mid.log q)) (due_so_far e) p n alive h in
      let c : weigh h (posted_tokens (record { port = p; entry = ends_after (λ q. length (mid.log q)) (due_so_far e) p; notice = n })) ≡ h (token send_once p (in_message p (length (s.log p)))) + weigh h [] =
      (λ i. h (token send_once p (in_message p (entry_is i))) + weigh h (none (in_message p (ends_after (λ q. length (mid.log q)) (due_so_far e) p)) i)) in
      omega (arith, a, b, c)

  pub noticed_so_far : ((h : Token → ℕ) → weigh h e.left ≡ weigh h left2 + h x) → ((h : Token → ℕ) → weigh h tokens + h x ≡ weigh h s.ledger + h (token send_once p (in_message p (length (s.log p))))) →
      StandsSoFar mid paid_for stands → NamesSoFar mid ended2 s.live_port naming → IsSoFar now mid paid_for noticed
  noticed_so_far parts moved stood named = record {
    live_port = so.live_port;
    stands = stood;
    sets_of = so.sets_of;
    make_send = so.make_send;
    sequence = so.sequence;
    names = named;
    log = logs;
    taken = so.taken;
    destroyed = so.destroyed;
    ledger = λ h. let a = parts h in let b = moved h in let c = brought h in let d = so.ledger h in omega (arith, a, b, c, d);
    rest = ap (λ (z : State). record z { naming = naming; log = at s.log p (s.log p ++ own ∷ []); ledger = tokens; stands = stands }) so.rest;
  }

-- ---- all together

-- the tables with the notice posted
abbrev pub with_notice : WorldView → (p : ℕ) → PortView Kept → Notice → WorldView
with_notice w p v notice = record w { ports = with_message w.ports p v (notice_kept notice); ledger = shifted w.ledger p }

-- Before the notice is posted the right that pays lies where the notice will bring it.
module _ (now : ℕ) (tables : WorldView) (old mid : State) (owed : Owed) (e : Ending) (lawful : MidLawful mid owed) (reached : IsReached old mid owed e) (s : State) (so : IsSoFar now mid e s)
    (w : WorldView) (naming : ℕ → Names) (tokens : List Token) (stands : Request → Bool) (agrees : AgreesOf (lives_after mid e) w (record s { naming = naming; ledger = tokens; stands = stands })) (holders : HoldersTell w s e.destroyed)
    (slots : SlotsSuffice w) (framed : Framed mid e w) (senders : TellsSenders tables old) (receivers : (q : ℕ) → (counts_of w.ledger q).receive ≤ 1)
    (had_senders : HadSenders old mid) (emptied : (q k : ℕ) → listed e.buried q ≡ true → IsWaiting mid e (q, k) → Contains e.destroyed (q, k))
    (p : ℕ) (v : PortView Kept) (there : port_at w p ≡ Some v) (notice : Notice) (alive : lives_after mid e p ≡ true) (paid : 0 < (counts_of w.ledger p).send_once)
    (bare : (q : ℕ) → ¬ (CarriesReceive (notice_kept notice) q)) (none : (at : Place) → carried_by (notice_of notice) at ≡ [])
    (place : Place) (ended2 : List Request) (left2 : List Token) (told2 : List ℕ) (turns2 : ℕ) where
  abbrev pub f : Ending
  f = record e { ended = ended2; told = told2; left = left2; paid = e.paid ++ (token send_once p place, notice_of notice) ∷ []; turns = turns2 }

  there_is : s.live_port p ≡ true
  there_is = so.live_port p ∙ alone_lives old mid owed e reached p alive

  within : s.taken p ≤ length (s.log p)
  within = grind (arith, none_taken, length-append)

  same_receives : ((h : Token → ℕ) → weigh h tokens + h (token send_once p place) ≡ weigh h s.ledger + h (token send_once p (in_message p (length (s.log p))))) → SameReceives s.ledger tokens
  same_receives moved = grind arith

  few : (q : ℕ) → (counts_of (shifted w.ledger p) q).receive ≤ 1
  few q = elim (eqb_tells q p) [
    | inl same ↦ subst (λ (k : ℕ). (counts_of (shifted w.ledger p) k).receive ≤ 1) (sym same.1)
        (let a : (counts_of (shifted w.ledger p) p).receive ≡ (counts_of w.ledger p).receive = ap (λ (c : Counts). c.receive) (counts_own w.ledger p (one_shifted (counts_of w.ledger p)) (shifted w.ledger p) refl) in
        let b = receivers p in omega (arith, a, b))
    | inr not ↦
        let a : (counts_of (shifted w.ledger p) q).receive ≡ (counts_of w.ledger q).receive = ap (λ (c : Counts). c.receive) (counts_other w.ledger p (one_shifted (counts_of w.ledger p)) (shifted w.ledger p) refl q not.1) in
        let b = receivers q in omega (arith, a, b)
  ]

  pub loose_posted : ((h : Token → ℕ) → weigh h e.left ≡ weigh h left2 + h (token send_once p place)) →
      ((h : Token → ℕ) → weigh h tokens + h (token send_once p place) ≡ weigh h s.ledger + h (token send_once p (in_message p (length (s.log p))))) →
      StandsSoFar mid f stands → NamesSoFar mid ended2 s.live_port naming → Turn old mid e f →
      Goes now tables old mid owed s f (with_notice w p v notice)
  loose_posted parts moved stood named turn = (
    record {
      lawful = lawful;
      reached = turns e f reached turn;
      state = noticed now mid e s so p there_is place (notice_of notice) none ended2 left2 told2 turns2 naming tokens stands;
      so_far = noticed_so_far now mid e s so p there_is place (notice_of notice) none ended2 left2 told2 turns2 naming tokens stands parts moved stood named;
      agrees = posted_agrees (lives_after mid e) w (record s { naming = naming; ledger = tokens; stands = stands }) agrees p v there notice now within alive paid;
      holders = holders_stay s (record s { ledger = tokens }) e.destroyed (same_receives moved) w _ shape holders;
      slots = omega (arith, slots);
      framed = framed_stays w _ shape mid e f refl refl refl framed;
      senders = senders;
      receivers = few;
      had_senders = had_senders;
      emptied = emptied;
    },
    log_longer s.log p (record { origin = now; message = notice_message p (notice_of notice) }),
  )
    where
      shape : SameShape w (with_notice w p v notice)
      shape = one_queued w _ p v there (notice_kept notice) bare refl refl refl refl
