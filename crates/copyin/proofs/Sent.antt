-- A message that is sent: the machine's step, and tables that agree with the state after it.
use Rattle.std.proofs.Common.{◌≡◌, ℕ, ◌+◌, ◌-◌, ◌<◌, ◌≤◌, Bool, true, false, List, [], ◌∷◌, ◌++◌, Some, refl, sym, ap, subst, ◌∙◌, arith, inl, inr, length, drop}
use Rattle.std.specs.Prelude.{◌^◌, ◌↔◌, is_some, if◌then◌else◌, Contains}
use Rattle.std.specs.FinMap as map
use Rattle.std.specs.Ordering.{nat_cmp}
use Rattle.std.proofs.lemmas.List.{drop-append-le}
use Rattle.mach_types.specs.Numbers.{most_rights, kind_sent}
use Rattle.mach_types.specs.Codes.{msg_number}
use Rattle.mach_types.specs.declared.codes.MsgReturn.TheVariants.{SendTimedOut, SendInvalidRight, SendNoBuffer}
use Rattle.mach_types.specs.Tokens.{receive, send, send_once, same_kind, count, is_of}
use Rattle.mach_types.specs.Messages.{Message, Entry}
use Rattle.mach_types.specs.Guards.{FirstIs, NoneHolds}
use Rattle.mach_model.specs.State.{State, at, queue}
use Rattle.mach_model.specs.Send.{Sends, place_at}
use Rattle.mach_model.specs.SendRefusals.{sent_guards, ClosesLoop}
use Rattle.mach_model.specs.Send.{entry as logged}
use Rattle.mach_model.specs.Carried.{lying, message_count}
use Rattle.mach_model.specs.Death.{LiesAt}
use Rattle.mach_model.specs.Lawful.{tally}
use Rattle.mach_model.proofs.Names.{at_own, at_other}
use Rattle.mach_model.proofs.SettledReceives.{tally-append}
use Rattle.mach_model.proofs.MessagesLawful.{Adds, Copied-adds}
use Rattle.mach_model.proofs.Moving.{moving, shape}
use Rattle.message_codec.specs.declared.text.Parsed.{Parsed}
use Rattle.message_codec.specs.Parses.{Parses}
use Rattle.message_codec.specs.Words.{body_words}
use Rattle.message_codec.proofs.Spelling.{laid_out-parsed}
use Rattle.port.specs.Ports.{PortView, with_port}
use Rattle.copyin_base.specs.Kept.{Kept, Keeps}
use Rattle.copyin_base.specs.Worlds.{WorldView, port_at}
use Rattle.rights.specs.Ledger.{counts_of}
use Rattle.copyin_base.specs.Shows.{AllKept, came_by_once, onces_queued, ShowsPort, CountsAgree, Agrees, HoldersAgree, CarriersAgree, RequestsStand, Shows}
use Rattle.copyin_base.proofs.Counting.{once_queued, queues_same}
use Rattle.copyin_base.proofs.Holders.{ReceivesAt, unheld, unheld_lying}
use Rattle.copyin_base.proofs.Tied.{stands_tied, stands_is_tied}
use Rattle.copyin.specs.Copies.{ledger_queued}
use Rattle.copyin.specs.Loops.{MakesLoop}
use Rattle.copyin.proofs.HoldersKept.{commits_carriers, commits_holders}
use Rattle.copyin_base.proofs.KeptEntries.{receive_right}
use Rattle.copyin.proofs.Holding.{held_ledger, held_agrees}
use Rattle.copyin.proofs.LoopFound.{closes, closed}
use Rattle.copyin.proofs.Committing.{kept_carries, carries_counted, once_stays}
use Rattle.copyin.proofs.Planning.{reply_sends, few_bytes, message, third, kind_is, copied, shape_is, total_is, all_changes}
use Rattle.copyin.proofs.Copying.{commits_requested, words_once}
use Rattle.copyin_base.proofs.Agreeing.{live_put, ports_put}
use Rattle.copyin.specs.Plans.{destination_word, reply_words, option_list, Judged, made_in, message_for, HasSlot, HasNoSlot, Commits}

-- ---- as many messages are kept as the queue has

pub all_kept_length : (p : ℕ) (ms : List Kept) (es : List Entry) → AllKept p ms es → length ms ≡ length es
all_kept_length p [] [] h = refl
all_kept_length p (m ∷ ms) (e ∷ es) h = let n = all_kept_length p ms es h.1 in omega (arith, n)
all_kept_length p [] (e ∷ es) h = absurd h
all_kept_length p (m ∷ ms) [] h = absurd h

-- ---- a queue with one message more

pub all_kept_append : (p : ℕ) (ms : List Kept) (es : List Entry) (m : Kept) (e : Entry) → AllKept p ms es → Keeps p m e.message → AllKept p (ms ++ m ∷ []) (es ++ e ∷ [])
all_kept_append p [] [] m e h k = (k, tt)
all_kept_append p (x ∷ ms) (y ∷ es) m e h k = (h.0, all_kept_append p ms es m e h.1 k)
all_kept_append p [] (y ∷ es) m e h k = absurd h
all_kept_append p (x ∷ ms) [] m e h k = absurd h

-- The entry is at the end of the port's log.
module _ (s : State) (p : ℕ) (entry : Entry) (within : s.taken p ≤ length (s.log p)) where
  abbrev pub with_entry : State
  with_entry = record s { log = at s.log p (s.log p ++ entry ∷ []) }

  queue_is : queue with_entry p ≡ queue s p ++ entry ∷ []
  queue_is = ap (drop (s.taken p)) (at_own s.log p (s.log p ++ entry ∷ [])) ∙ drop-append-le (s.taken p) (s.log p) (entry ∷ []) within

  queue_other : (q : ℕ) → (q ≡ p → ⊥) → queue with_entry q ≡ queue s q
  queue_other q not = ap (drop (s.taken q)) (at_other s.log p (s.log p ++ entry ∷ []) q not)

  pub once_more : onces_queued with_entry p ≡ onces_queued s p + (if came_by_once entry then 1 else 0)
  once_more = grind (arith, queue_is, tally-append)

  pub onces_other : (q : ℕ) → (q ≡ p → ⊥) → onces_queued s q ≡ onces_queued with_entry q
  onces_other q not = ap (tally came_by_once) (sym (queue_other q not))

  pub ports_longer : (ports : map.FinMap nat_cmp (PortView Kept)) → ((q : ℕ) (y : PortView Kept) → map.get ports q ≡ Some y → ShowsPort y s q) → (v : PortView Kept) → map.get ports p ≡ Some v →
      (m : Kept) → Keeps p m entry.message → (q : ℕ) (y : PortView Kept) → map.get (map.insert ports p (record v { queue = v.queue ++ m ∷ [] })) q ≡ Some y → ShowsPort y with_entry q
  ports_longer ports shows v there m keeps = ports_put ports p (record v { queue = v.queue ++ m ∷ [] }) with_entry
      (let b = shows p v there in let kept = subst (AllKept p (v.queue ++ m ∷ [])) (sym queue_is) (all_kept_append p v.queue (queue s p) m entry b.waiting keeps) in assumption (b, kept))
      (λ q y not is. let b = shows q y is in let kept = subst (AllKept q y.queue) (sym (queue_other q not)) b.waiting in assumption (b, kept))

-- ---- a message is appended

module _ (w : WorldView) (s : State) (a : Agrees w s) (p : ℕ) (v : PortView Kept) (there : port_at w p ≡ Some v) (m : Kept) (now : ℕ) (x : Message) (keeps : Keeps p m x)
    (within : s.taken p ≤ length (s.log p)) (spare : ℕ) (unused : m.by_once ≡ true → 0 < (counts_of w.ledger p).send_once) where
  abbrev pub appended : WorldView
  appended = record w { ports = record (with_port w.ports p (record v { queue = v.queue ++ m ∷ [] })) { spare = spare }; ledger = ledger_queued m.by_once p w.ledger }

  abbrev pub logged_state : State
  logged_state = with_entry s p (logged now x) within

  -- the right that it goes by, if that is a send-once right, is unused no more
  by_right : (b : Bool) → same_kind send_once (if b then send_once else send) ≡ b
  by_right true = refl
  by_right false = refl

  came : came_by_once (logged now x) ≡ m.by_once
  came = ap (λ (y : Message). same_kind send_once y.kind) keeps.message_is ∙ by_right m.by_once

  lives : s.live_port p ≡ true
  lives = sym (a.live_port p) ∙ ap is_some there

  others : (q : ℕ) → (q ≡ p → ⊥) → onces_queued s q ≡ onces_queued logged_state q
  others = onces_other s p (logged now x) within

  counted : (b : Bool) → (b ≡ true → 0 < (counts_of w.ledger p).send_once) → onces_queued logged_state p ≡ onces_queued s p + (if b then 1 else 0) →
      (q : ℕ) → CountsAgree (ledger_queued b p w.ledger) s.live_port s.ledger (onces_queued logged_state) q
  counted true some more = once_queued w.ledger s.live_port s.ledger (onces_queued s) a.counts (onces_queued logged_state) p lives others (some refl) more
  counted false some more = grind (arith, queues_same, others)

  total_queued : (b : Bool) → (ledger_queued b p w.ledger).total ≡ w.ledger.total
  total_queued true = refl
  total_queued false = refl

  pub appended_agrees : Agrees appended logged_state
  appended_agrees = record {
    spaces = a.spaces;
    rights = a.rights;
    live_port = live_put w.ports.ports p (record v { queue = v.queue ++ m ∷ [] }) s.live_port lives a.live_port;
    ports_made = a.ports_made;
    ports = ports_longer s p (logged now x) within w.ports.ports a.ports v there m keeps;
    counts = counted m.by_once unused (once_more s p (logged now x) within ∙ ap (λ (b : Bool). onces_queued s p + (if b then 1 else 0)) came);
    total = total_queued m.by_once ∙ a.total;
    in_sets = a.in_sets;
    of_requests = a.of_requests;
  }

-- ---- the message of a text

module _ (w : WorldView) (s : State) (sh : Shows w s) (now task : ℕ) (bytes : List ℕ) (parsed : Parsed) (text : Parses bytes parsed) (j : Judged w task parsed text.written) where
  abbrev copied_state : State
  copied_state = (third w s sh task bytes parsed text j).t

  abbrev m : Message
  m = message w s sh task bytes parsed text j

  shaped : copied_state ≡ shape s copied_state
  shaped = shape_is w s sh task bytes parsed text j

  keeps : Keeps j.port (message_for bytes j) m
  keeps = record {
    written = text.written;
    laid_out = laid_out-parsed bytes parsed text;
    is_complex = text.is_complex;
    given = (third w s sh task bytes parsed text j).given;
    few = few_bytes bytes parsed text;
    id_fits = subst (λ (n : ℕ). n < 2 ^ 32) (sym text.id) text.message.spells.header_fits.id;
    reply_sent = λ c is. reply_sends bytes parsed text j.first j.second j.reply j.copies_reply c is;
    message_is = refl;
  }

  adds : Adds s copied_state j.port (length (s.log j.port)) (λ c q. message_count c q m)
  adds = Copied-adds task text.header text.written s m copied_state (moving s j.port (length (s.log j.port)) sh.lawful) (copied w s sh task bytes parsed text j)

  -- the receive rights that lie at its place are those that it carries
  at_place : (p : ℕ) → LiesAt copied_state receive p (place_at s j.port) ↔ Contains j.rights (receive_right p)
  at_place p = (
    (λ lies. kept_carries j.port (message_for bytes j) m keeps p (let n = adds.lies receive p in let none = empty in omega (arith, lies, n, none))),
    (λ among. let some = carries_counted j.port (message_for bytes j) m keeps p among in let n = adds.lies receive p in omega (arith, some, n)),
  )
    where
      empty : lying s receive p (place_at s j.port) ≡ 0
      empty = sh.lawful.no_entry j.port (length (s.log j.port)) (omega arith) receive p

  loop : MakesLoop w.ports j.port j.rights → ClosesLoop copied_state j.port (place_at s j.port)
  loop = closes w s sh copied_state j.port j.rights adds.apart at_place

  no_loop : ¬ (MakesLoop w.ports j.port j.rights) → ¬ (ClosesLoop copied_state j.port (place_at s j.port))
  no_loop none c = none (closed w s sh copied_state j.port j.rights adds.apart at_place c)

  -- the port that it goes to, and its queue
  queue_same : queue copied_state j.port ≡ queue s j.port
  queue_same = ap (λ (x : State). queue x j.port) shaped

  limit_same : copied_state.limit j.port ≡ s.limit j.port
  limit_same = ap (λ (x : State). x.limit j.port) shaped

  not_full : HasSlot w j.port j.destination → ¬ ((m.kind ≡ send) × (copied_state.limit j.port ≤ length (queue copied_state j.port)))
  not_full (inl once) full = grind (arith, kind_is)
  not_full (inr slot) full =
      let b = sh.agrees.ports j.port slot.0 slot.1 in
      let n = all_kept_length j.port slot.0.queue (queue s j.port) b.waiting in
      let q = ap length queue_same in
      omega (arith, full.1, slot.2, n, q, limit_same, b.limit)

  is_full : HasNoSlot w j.port j.destination → (m.kind ≡ send) × (copied_state.limit j.port ≤ length (queue copied_state j.port))
  is_full h =
      let v = h.1.0 in
      let b = sh.agrees.ports j.port v h.1.1 in
      let n = all_kept_length j.port v.queue (queue s j.port) b.waiting in
      let q = ap length queue_same in
      let full = h.1.2 in
      (kind_is w s sh task bytes parsed text j ∙ h.0, omega (arith, full, n, q, limit_same, b.limit))

  rights_are : length copied_state.ledger ≡ w.ledger.total + made_in j
  rights_are = let t = (third w s sh task bytes parsed text j).along.agrees.total in let n = total_is w s sh task bytes parsed text j in omega (arith, t, n)

  pub unrefused : ¬ (MakesLoop w.ports j.port j.rights) → HasSlot w j.port j.destination → w.ledger.total + made_in j ≤ most_rights → NoneHolds (sent_guards m (place_at s j.port) copied_state)
  unrefused none slot few = (no_loop none, (not_full slot, ((λ many. let r = rights_are in omega (arith, many, r, few)), tt)))

  pub refused_loop : MakesLoop w.ports j.port j.rights → FirstIs (sent_guards m (place_at s j.port) copied_state) (msg_number SendInvalidRight)
  refused_loop l = inl (loop l, refl)

  pub refused_full : ¬ (MakesLoop w.ports j.port j.rights) → HasNoSlot w j.port j.destination → FirstIs (sent_guards m (place_at s j.port) copied_state) (msg_number SendTimedOut)
  refused_full none h = inr (no_loop none, inl (is_full h, refl))

  pub refused_many : ¬ (MakesLoop w.ports j.port j.rights) → HasSlot w j.port j.destination → most_rights < w.ledger.total + made_in j →
      FirstIs (sent_guards m (place_at s j.port) copied_state) (msg_number SendNoBuffer)
  refused_many none slot many = inr (no_loop none, inr (not_full slot, inl (let r = rights_are in omega (arith, many, r), refl)))

  abbrev pub sent_state : State
  sent_state = record copied_state { log = at copied_state.log j.port (copied_state.log j.port ++ logged now m ∷ []) }

  pub sends : ¬ (MakesLoop w.ports j.port j.rights) → HasSlot w j.port j.destination → w.ledger.total + made_in j ≤ most_rights → Sends now task bytes s sent_state
  sends none slot few = record {
    header = text.header;
    written = text.written;
    spells = text.message.spells;
    m = m;
    copied_state = copied_state;
    copied = copied w s sh task bytes parsed text j;
    rest = refl;
  }

  -- where it goes by a send-once right, its port has one that no queued message goes by
  is_unused : same_kind (kind_sent j.destination.given) send_once ≡ true → 0 < (counts_of (third w s sh task bytes parsed text j).w2.ledger j.port).send_once
  is_unused once =
      let changes = all_changes w s sh task bytes parsed text j in
      let d = j.copies_destination in
      once_stays w task (stands_is_tied w task record { state = s; shown = sh }) j.space j.there (destination_word parsed) j.destination d.entry d.found once j.port j.to_port
      changes.0 (third w s sh task bytes parsed text j).w2 changes.1 (reply_words parsed ++ body_words text.written) (option_list j.reply ++ j.rights) changes.2

  module _ (new : WorldView) (c : Commits w task parsed text.written j bytes new) where
    abbrev went : WorldView
    went = (third w s sh task bytes parsed text j).w2

    mid_is : c.mid ≡ went
    mid_is = words_once w task (destination_word parsed ∷ reply_words parsed ++ body_words text.written) (j.destination ∷ option_list j.reply ++ j.rights) c.mid went c.changes
        (all_changes w s sh task bytes parsed text j)

    mid_agrees : Agrees c.mid copied_state
    mid_agrees = subst (λ (y : WorldView). Agrees y copied_state) (sym mid_is) (third w s sh task bytes parsed text j).along.agrees

    once_there : same_kind (kind_sent j.destination.given) send_once ≡ true → 0 < (counts_of c.held.ledger j.port).send_once
    once_there once = grind (arith, held_ledger, mid_is, is_unused)

    pub sent_agrees : Agrees new sent_state
    sent_agrees =
        let within : copied_state.taken j.port ≤ length (copied_state.log j.port) =
        subst (λ (y : State). y.taken j.port ≤ length (y.log j.port)) (sym shaped) (sh.lawful.within j.port) in
        subst (λ (y : WorldView). Agrees y sent_state) (sym c.rest)
        (appended_agrees c.held copied_state (held_agrees j.port j.rights c.mid c.held c.holds copied_state mid_agrees) j.port c.v c.there (message_for bytes j) now m keeps within (w.ports.spare - 1) once_there)

    pub sent_requested : RequestsStand new
    sent_requested = commits_requested w task parsed text.written j bytes new c sh.requested

    -- a receive right that it carries lies in it, so no task has it ...
    most_one : (p : ℕ) → count (is_of receive p) copied_state.ledger ≤ 1
    most_one p = grind (arith, third)

    gone : (p : ℕ) → Contains j.rights (receive_right p) → (u : ℕ) → ReceivesAt c.mid u p → ⊥
    gone p among u = unheld c.mid copied_state mid_agrees u p (unheld_lying copied_state u p j.port (length (s.log j.port)) (most_one p) ((at_place p).1 among))

    pub sent_holders : HoldersAgree new
    sent_holders = commits_holders w task parsed text.written j bytes new c gone sh.holders

    -- ... and no other queue
    pub sent_carriers : w.ledger.total + made_in j ≤ most_rights → CarriersAgree new
    sent_carriers few = commits_carriers w task parsed text.written j bytes new c (stands_tied w task j.space record { state = s; shown = sh } j.there) few sh.holders sh.carriers
        (λ p lives. let less = (third w s sh task bytes parsed text j).along.moving.made_port p (sym (mid_agrees.live_port p) ∙ lives) in let same = mid_agrees.ports_made in omega (arith, less, same))
