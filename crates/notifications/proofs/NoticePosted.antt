-- A notice is posted: what that writes of the tables, and what they then agree with.
use Rattle.std.proofs.Common.{◌≡◌, ℕ, ◌<◌, ◌-◌, ◌++◌, [], ◌∷◌, List, Option, Some, refl, sym, ap, subst, ◌∙◌, arith, ◌+◌, ◌≤◌, Bool, true, length, false, None, inl, inr}
use Rattle.std.specs.Prelude.{is_some, if◌then◌else◌, filter, ◌&&◌, not, Contains, option_map}
use Rattle.std.specs.Option.{unwrap_or}
use Rattle.std.proofs.lemmas.List.{append-nil}
use Rattle.std.proofs.lemmas.Bool.{eq-eqb}
use Rattle.mach_types.specs.Tokens.{Kind, send_once, Request, in_message, Token, token, Moves, weigh, count, is_of, is_held, Place, in_request, receive, send, no_senders, port_destroyed, dead_name}
use Rattle.mach_types.specs.Messages.{Entry}
use Rattle.mach_model.specs.State.{State, Target, lookup}
use Rattle.mach_model.specs.Notices.{notice_message}
use Rattle.mach_model.specs.Unused.{onces_queued}
use Rattle.mach_model.proofs.Names.{length-weigh, some_tally, held_le_of, pos_or_zero}
use Rattle.mach_model.specs.Death.{same_place}
use Rattle.mach_model.specs.Send.{entry as logged}
use Rattle.mach_model.specs.Lawful.{is_once}
use Rattle.mach_model.specs.Midway.{MidLawful}
use Rattle.mach_model.specs.Settles.{settled_target}
use Rattle.mach_model.specs.Turns.{Ending, lives_after, became_dead, has_ended}
use Rattle.mach_model.proofs.Settling.{lives}
use Rattle.mach_model.proofs.TurnsMade.{start}
use Rattle.rights.specs.Ledger.{counts_of, shifted}
use Rattle.rights.specs.Counts.{no_rights, one_shifted}
use Rattle.port.specs.Ports.{PortView}
use Rattle.copyin_base.specs.declared.Notice.{Notice}
use Rattle.copyin_base.specs.Kept.{Kept}
use Rattle.copyin_base.specs.Requests.{notify_of, RequestsAgree}
use Rattle.copyin_base.specs.Shows.{SlotsSuffice, Agrees}
use Rattle.copyin_base.specs.Worlds.{WorldView, port_at}
use Rattle.copyin_base.specs.Queued.{notice_kept, notice_of}
use Rattle.copyin_base.proofs.Agreeing.{live_put}
use Rattle.copyin_base.proofs.Counting.{once_queued}
use Rattle.copyin_base.proofs.Lost.{with_message}
use Rattle.tables_base.proofs.Notices.{keeps_notice}
use Rattle.copyin_base.proofs.Putting.{put_other}
use Rattle.copyin_base.proofs.Requesting.{requests_stay}
use Rattle.copyin.proofs.Sent.{with_entry, once_more, onces_other, ports_longer, appended_agrees}
use Rattle.copyin_base.specs.Losing.{Posts}
use Rattle.notifications.specs.SoFar.{AgreesOf, IsSoFar}
use Rattle.notifications.proofs.RequestBegun.{SameCounts, requests_changed}

-- a slot is spare for each right that is unused then
pub slots_posted : (old : WorldView) (p : ℕ) (notice : Notice) (new : WorldView) → SlotsSuffice old → Posts old p notice new → SlotsSuffice new
slots_posted old p notice new slots posts = grind arith

-- ---- Tables that agree with a state still do when a notice is posted, where the state has it in the log and a right of its port pays.

-- ---- the rights of the state after it

-- As many rights of each kind are for each port, and as many with each task; the requests of the tables keep those that they keep.
pub record PaysFrom (lives : ℕ → Bool) (w : WorldView) (s : State) (tokens : List Token) (stands : Request → Bool) : Type 0 where
  pub counts : (kind : Kind) (q : ℕ) → count (is_of kind q) tokens ≡ count (is_of kind q) s.ledger
  pub held : (task : ℕ) (kind : Kind) (q : ℕ) → count (is_held task kind q) tokens ≡ count (is_held task kind q) s.ledger
  pub total : length s.ledger ≡ length tokens
  pub of_requests : RequestsAgree (notify_of w.requests) w.requests.names.went w.ports.made stands lives (filter (λ x. lives x.port) tokens)

pub filter_weigh : (h : Token → ℕ) (t : Token → Bool) (xs : List Token) → weigh h (filter t xs) ≡ weigh (λ x. if t x then h x else 0) xs
filter_weigh h t [] = refl
filter_weigh h t (x ∷ xs) = grind (arith, filter_weigh h t xs)

module _ (lives : ℕ → Bool) (w : WorldView) (s : State) (a : AgreesOf lives w s) (p : ℕ) where
  -- A send-once right for the port went from one message to another.
  pub pays_from : (q k j : ℕ) (tokens : List Token) → Moves s.ledger tokens (token send_once p (in_message q k) ∷ []) (token send_once p (in_message p j) ∷ []) → PaysFrom lives w s tokens s.stands
  pays_from q k j tokens moves = grind (arith, length-weigh, requests_stay, filter_weigh)

  module _ (v : PortView Kept) (there : port_at w p ≡ Some v) (notice : Notice) (now : ℕ) (within : s.taken p ≤ length (s.log p)) (alive : lives p ≡ true) (paid : 0 < (counts_of w.ledger p).send_once) where
    abbrev entry : Entry
    entry = record { origin = now; message = notice_message p (notice_of notice) }

    abbrev pub posted : WorldView
    posted = record w { ports = with_message w.ports p v (notice_kept notice); ledger = shifted w.ledger p }

    abbrev pub with_notice : State
    with_notice = with_entry s p entry within

    live_now : s.live_port p ≡ true
    live_now = sym (a.live_port p) ∙ ap is_some there

    abbrev was_queued : ℕ → ℕ
    was_queued q = if lives q then onces_queued s q else (counts_of w.ledger q).destination

    abbrev now_queued : ℕ → ℕ
    now_queued q = if lives q then onces_queued with_notice q else (counts_of posted.ledger q).destination

    elsewhere : (q : ℕ) → (q ≡ p → ⊥) → was_queued q ≡ now_queued q
    elsewhere q not =
        let a : onces_queued s q ≡ onces_queued with_notice q = onces_other s p entry within q not in
        let b : (counts_of w.ledger q).destination ≡ (counts_of posted.ledger q).destination =
        ap (λ o. (unwrap_or o no_rights).destination) (sym (put_other w.ledger.counts p (Some (one_shifted (counts_of w.ledger p))) q not)) in
        λ i. if lives q then a i else b i

    here_agreeing : now_queued p ≡ was_queued p + 1
    here_agreeing = rw alive (once_more s p entry within)

    pub posted_agrees : AgreesOf lives posted with_notice
    posted_agrees = record {
      spaces = a.spaces;
      rights = a.rights;
      live_port = live_put w.ports.ports p (record v { queue = v.queue ++ notice_kept notice ∷ [] }) s.live_port live_now a.live_port;
      ports_made = a.ports_made;
      ports = ports_longer s p entry within w.ports.ports a.ports v there (notice_kept notice) (keeps_notice p notice);
      counts = once_queued w.ledger s.live_port s.ledger was_queued a.counts now_queued p live_now elsewhere paid here_agreeing;
      total = a.total;
      in_sets = a.in_sets;
      of_requests = a.of_requests;
    }

-- ---- Tables that agree with a state still do when a notice is posted, where the state has it in the log and the right that pays goes along.

module _ (w : WorldView) (s : State) (a : Agrees w s) (p : ℕ) (notice : Notice) (new : WorldView) (posts : Posts w p notice new) (now : ℕ) (within : s.taken p ≤ length (s.log p))
    (paid : 0 < (counts_of w.ledger p).send_once) where
  -- The right was anywhere but at a request, and goes to the message.
  pub told_agrees : (place : Place) → ((r : Request) → same_place (in_request r) place ≡ false) → (j : ℕ) (tokens : List Token) →
      Moves s.ledger tokens (token send_once p place ∷ []) (token send_once p (in_message p j) ∷ []) → Agrees new (with_entry (record s { ledger = tokens }) p (logged now (notice_message p (notice_of notice))) within)
  told_agrees place apart j tokens moves =
      let same : SameCounts s tokens = grind (arith, moves, length-weigh) in
      let of_requests : RequestsAgree (notify_of w.requests) w.requests.names.went w.ports.made s.stands s.live_port tokens = grind (arith, requests_stay, apart, moves) in
      subst (λ (x : WorldView). Agrees x (with_entry (record s { ledger = tokens }) p (logged now (notice_message p (notice_of notice))) within)) (sym posts.rest)
      (appended_agrees w (record s { ledger = tokens }) (requests_changed w s w.requests tokens s.stands a same of_requests) p posts.v posts.there (notice_kept notice) now
      (notice_message p (notice_of notice)) (keeps_notice p notice) within (w.ports.spare - 1) (λ e. paid))

-- ---- As the end of a step starts, with nothing posted, the tables show the state after the step's own part.

module _ (now : ℕ) (mid : State) (l : MidLawful mid []) where
  abbrev first : Ending
  first = start [] mid.ledger

  first_lives : (p : ℕ) → lives_after mid first p ≡ mid.live_port p
  first_lives p = go (mid.live_port p)
    where
      go : (b : Bool) → (b && true) ≡ b
      go true = refl
      go false = refl

  named_lives : (task name p : ℕ) → lookup mid task name ≡ Some (Target.port p) → mid.live_port p ≡ true
  named_lives task name p is =
      let some = (l.naming task).has_right name p is in
      let a = held_le_of task receive p mid.ledger in
      let b = held_le_of task send p mid.ledger in
      elim (pos_or_zero (count (is_of receive p) mid.ledger)) [
        | inl h ↦ lives l.ports send p (omega (arith, some, a, b, h))
        | inr h ↦ lives l.ports receive p h
      ]

  once_lives : (task name p : ℕ) → lookup mid task name ≡ Some (Target.once p) → mid.live_port p ≡ true
  once_lives task name p is =
      let some = some_tally (is_once p) (mid.naming task) name (Target.once p) is (eq-eqb p p refl) in
      let a = held_le_of task send_once p mid.ledger in
      lives l.ports send_once p (omega (arith, some, (l.naming task).once_names p, a))

  -- no request that stands has ended
  unended : (r : Request) → mid.stands r ≡ true → has_ended mid first r ≡ false
  unended (no_senders p) stands = let a = first_lives p ∙ l.stands_on (no_senders p) stands in rw a refl
  unended (port_destroyed p) stands = let a = first_lives p ∙ l.stands_on (port_destroyed p) stands in rw a refl
  unended (dead_name task name) stands = go (lookup mid task name) refl
    where
      go : (o : Option Target) → lookup mid task name ≡ o → became_dead mid first o ≡ false
      go None is = refl
      go (Some (Target.port p)) is = let a = first_lives p ∙ named_lives task name p is in rw a refl
      go (Some (Target.once p)) is = let a = first_lives p ∙ once_lives task name p is in rw a refl
      go (Some (Target.dead n)) is = refl
      go (Some (Target.set n)) is = refl

  still : (a b : Bool) → (a ≡ true → b ≡ false) → a ≡ (a && not b)
  still true b none = let e = none refl in rw e refl
  still false b none = refl

  first_names : (task name : ℕ) (o : Option Target) → lookup mid task name ≡ o → o ≡ option_map (settled_target mid mid task name) o
  first_names task name None is = refl
  first_names task name (Some (Target.port p)) is = let a = named_lives task name p is in rw a refl
  first_names task name (Some (Target.once p)) is = let a = once_lives task name p is in rw a refl
  first_names task name (Some (Target.dead n)) is = refl
  first_names task name (Some (Target.set n)) is = refl

  pub first_so_far : IsSoFar now mid first mid
  first_so_far = record {
    live_port = λ p. sym (first_lives p);
    stands = λ r. still (mid.stands r) (has_ended mid first r) (unended r);
    sets_of = λ p. members p (mid.live_port p) refl;
    make_send = λ p. refl;
    sequence = λ p. refl;
    names = λ task name. first_names task name (lookup mid task name) refl;
    log = λ p. sym (append-nil (mid.log p));
    taken = λ p. omega arith;
    destroyed = λ p k. ((λ c. none p k c), (λ h. let a = h.0 in let b = h.1 in absurd (omega (arith, a, b))));
    ledger = λ h. omega arith;
    rest = refl;
  }
    where
      members : (p : ℕ) (b : Bool) → mid.live_port p ≡ b → mid.sets_of p ≡ (if b && true then mid.sets_of p else [])
      members p true is = refl
      members p false is = l.no_sets p is

      none : {A : Type 0} (p k : ℕ) → Contains {X = ℕ × ℕ} [] (p, k) → A
      none p k (i, below, is) = absurd (omega (arith, below))
