-- A request ends in a turn: the right that it keeps pays, where its port lives.
use Rattle.std.proofs.Common.{◌⊎◌, ◌≡◌, ℕ, zero, suc, ◌+◌, ◌<◌, ◌≤◌, List, [], ◌∷◌, ◌++◌, Option, Some, None, refl, sym, ap, subst, ◌∙◌, arith, true, false, Bool, inl, inr, get_or, length, length-append}
use Rattle.std.specs.Prelude.{if◌then◌else◌, ◌&&◌, not, is_some, filter, All, ◌≢◌, Contains}
use Rattle.std.proofs.lemmas.Bool.{eq-eqb, false_from_ne_true}
use Rattle.std.proofs.lemmas.Bool.Decides.{eqb_tells}
use Rattle.std.proofs.lemmas.List.{append-nil}
use Rattle.mach_types.specs.Tokens.{Kind, receive, send, send_once, Request, Place, in_message, in_request, Token, token, is_of, weigh}
use Rattle.mach_model.specs.State.{State, Names, request_at}
use Rattle.mach_model.specs.Death.{same_place}
use Rattle.mach_model.specs.Carried.{lying_among}
use Rattle.mach_model.specs.Midway.{MidLawful}
use Rattle.mach_model.specs.Notices.{Owed, Posted, carried_by}
use Rattle.mach_model.specs.Turns.{Ending, listed, is_among, lives_after, has_ended, IsOffRequest, IsReached, SpendsRights, Turn, turns}
use Rattle.mach_model.proofs.Names.{count_some, left_of, right_of, both_test}
use Rattle.mach_model.proofs.Settling.{own_test, lives as port_lives, place_refl}
use Rattle.mach_model.proofs.SettledDetermined.{weigh-same}
use Rattle.mach_model.proofs.SettledReceives.{none_tasked, at_place}
use Rattle.mach_model.proofs.TurnsMade.{without, without_weigh}
use Rattle.mach_model.proofs.TurnsSettle.{tokens_joined_settle as tokens_joined}
use Rattle.rights.specs.Ledger.{counts_of}
use Rattle.name_space.specs.Names.{SpaceView}
use Rattle.port.specs.declared.Holder.{Holder}
use Rattle.port.specs.declared.Holder.TheVariants as holder
use Rattle.port.specs.Ports.{PortView}
use Rattle.copyin_base.specs.declared.Notice.{Notice}
use Rattle.copyin_base.specs.Changes.{IsSenderless}
use Rattle.copyin_base.specs.Kept.{Kept}
use Rattle.copyin_base.specs.Queued.{notice_kept, notice_of}
use Rattle.request_table.specs.Tables.{RequestTablesView}
use Rattle.copyin_base.specs.Requests.{notify_of, rights_kept, rights_went}
use Rattle.copyin_base.specs.Shows.{CarriesReceive}
use Rattle.copyin_base.specs.Worlds.{WorldView, port_at}
use Rattle.copyin_base.proofs.Gets.{same_found}
use Rattle.copyin_base.proofs.SendersNoted.{sends_shifted}
use Rattle.copyin_base.specs.Losing.{CanPost}
use Rattle.notifications.specs.SoFar.{buried_alone, posted_so_far, IsSoFar, AgreesOf, AwaitLoss}
use Rattle.notifications.proofs.NoticePosted.{filter_weigh}
use Rattle.destroy.proofs.BuryRequest.{GoesOn}
use Rattle.destroy.proofs.Counting.{count_one}
use Rattle.destroy.proofs.LoseCounts.{left_within, can_pay}
use Rattle.destroy.proofs.LoseFrames.{StandsSoFar, NamesSoFar, stood_if, Goes, loose_posted, with_notice}
use Rattle.destroy.proofs.LoseRights.{lives_is, lives_there, undoomed, not_emptied, between_of, awaits_on, emptied_posted}
use Rattle.destroy.specs.Between.{IsUnlost, Between}
use Rattle.destroy.specs.Losing.{Framed, Loose}
use Rattle.destroy.specs.Paying.{LivesIn, Pays, PaysMany}
use Rattle.destroy.specs.Stages.{AreLost, IsCount, SameSlots}

-- ---- A port lives in the tables or it doesn't.

pub lives_or_not : (w : WorldView) (n : ℕ) → LivesIn w n ⊎ ¬ (LivesIn w n)
lives_or_not w n = go (port_at w n) refl
  where
    go : (o : Option (PortView Kept)) → port_at w n ≡ o → LivesIn w n ⊎ ¬ (LivesIn w n)
    go None is = inr (λ l. let a : None ≡ Some l.v = sym is ∙ l.there in cc)
    go (Some x) is = holds x.attributes.holder refl
      where
        holds : (h : Holder) → x.attributes.holder ≡ h → LivesIn w n ⊎ ¬ (LivesIn w n)
        holds (holder.Task t) at = inl (record { v = x; there = is; undoomed = λ f. let g : holder.Task t ≡ holder.Doomed = sym at ∙ f in cc })
        holds (holder.QueueOf q) at = inl (record { v = x; there = is; undoomed = λ f. let g : holder.QueueOf q ≡ holder.Doomed = sym at ∙ f in cc })
        holds holder.Nobody at = inl (record { v = x; there = is; undoomed = λ f. let g : holder.Nobody ≡ holder.Doomed = sym at ∙ f in cc })
        holds holder.Doomed at = inr (λ l. l.undoomed (ap (λ (y : PortView Kept). y.attributes.holder) (same_found (port_at w n) l.v x l.there is) ∙ at))

-- ---- The right that a request keeps, in the state so far.

abbrev pub kept_there : Request → Kind → ℕ → Token → ℕ
kept_there r kind q x = if is_of kind q x && same_place (in_request r) x.place then 1 else 0

module _ (now : ℕ) (old mid : State) (owed : Owed) (e : Ending) (lawful : MidLawful mid owed) (reached : IsReached old mid owed e) (s : State) (so : IsSoFar now mid e s)
    (w : WorldView) (agrees : AgreesOf (lives_after mid e) w s) (went : w.requests.names.went ≡ []) (own_request : Request) (notify : ℕ) (asked : notify_of w.requests own_request ≡ Some notify) where
  abbrev pub lives : ℕ → Bool
  lives = lives_after mid e

  abbrev pub living : List Token
  living = filter (λ x. lives x.port) s.ledger

  -- what is kept for ports that live
  pub kept_is : (kind : Kind) (q : ℕ) → lying_among living kind q (in_request own_request) ≡ rights_kept lives (Some notify) kind q
  kept_is kind q =
      let a = agrees.of_requests.kept own_request kind q in
      let b : rights_kept lives (notify_of w.requests own_request) kind q ≡ rights_kept lives (Some notify) kind q = ap (λ (o : Option ℕ). rights_kept lives o kind q) asked in
      let c : rights_went lives w.requests.names.went own_request kind q ≡ 0 = ap (λ went. rights_went lives went own_request kind q) went in
      omega (arith, a, b, c)

  -- rights of requests are no notices'
  pub left_is : (r : Request) (kind : Kind) (q : ℕ) → lying_among s.ledger kind q (in_request r) ≡ lying_among e.left kind q (in_request r)
  left_is r kind q =
      let a = so.ledger (kept_there r kind q) in
      let b = none_tasked (λ x. is_of kind q x && same_place (in_request r) x.place) (λ k n m i. and_no (is_of kind q (token k n (in_message m i)))) (filter (λ (x : Posted). s.live_port x.port) (posted_so_far mid e)) in
      omega (arith, a, b)
    where
      and_no : (b : Bool) → (b && false) ≡ false
      and_no true = refl
      and_no false = refl

  of_living : (kind : Kind) (q : ℕ) → lives q ≡ true → lying_among living kind q (in_request own_request) ≡ lying_among s.ledger kind q (in_request own_request)
  of_living kind q alive = filter_weigh (kept_there own_request kind q) (λ x. lives x.port) s.ledger ∙ weigh-same (λ x. if lives x.port then kept_there own_request kind q x else 0) (kept_there own_request kind q) same s.ledger
    where
      same : (x : Token) → (if lives x.port then kept_there own_request kind q x else 0) ≡ kept_there own_request kind q x
      same x = go (is_of kind q x && same_place (in_request own_request) x.place) refl
        where
          go : (b : Bool) → (is_of kind q x && same_place (in_request own_request) x.place) ≡ b → (if lives x.port then (if b then suc zero else zero) else zero) ≡ (if b then suc zero else zero)
          go true is = rw (ap lives (at_place kind q (in_request own_request) x is).0 ∙ alive) refl
          go false is = both (lives x.port)
            where
              both : (c : Bool) → (if c then zero else zero) ≡ zero
              both true = refl
              both false = refl

  stands_is : (if is_among e.ended own_request then false else mid.stands own_request && not (has_ended mid (buried_alone e) own_request)) ≡ true
  stands_is = sym (so.stands own_request) ∙ agrees.of_requests.standing own_request ∙ ap is_some asked

  pub stood : mid.stands own_request ≡ true
  stood = left_of (mid.stands own_request) (not (has_ended mid (buried_alone e) own_request)) (stood_if (is_among e.ended own_request) _ stands_is)

  pub yet_stands : not (has_ended mid (buried_alone e) own_request) ≡ true
  yet_stands = right_of (mid.stands own_request) (not (has_ended mid (buried_alone e) own_request)) (stood_if (is_among e.ended own_request) _ stands_is)

  pub unended : is_among e.ended own_request ≡ false
  unended = go (is_among e.ended own_request) stands_is
    where
      go : (c : Bool) → (if c then false else mid.stands own_request && not (has_ended mid (buried_alone e) own_request)) ≡ true → c ≡ false
      go true h = absurd (cc)
      go false h = refl

  -- Where the notify port lives its right is there, and none other for a port that lives.
  pub right_there : lives notify ≡ true → 0 < lying_among e.left send_once notify (in_request own_request)
  right_there alive =
      let a = kept_is send_once notify in
      let one : rights_kept lives (Some notify) send_once notify ≡ 1 = rw (eq-eqb notify notify refl, alive) refl in
      let b = of_living send_once notify alive in
      let c = left_is own_request send_once notify in
      omega (arith, a, one, b, c)

  pub none_kept : lives notify ≡ false → (kind : Kind) (q : ℕ) → rights_kept lives (Some notify) kind q ≡ 0
  none_kept dead receive q = refl
  none_kept dead send q = refl
  none_kept dead send_once q = elim (eqb_tells notify q) [
    | inl h ↦ rw (h.0, ap lives (sym h.1) ∙ dead) refl
    | inr h ↦ rw h.0 refl
  ]

  pub none_other : lives notify ≡ false → All (IsOffRequest e own_request) e.left
  none_other dead k d below at =
      let x = get_or e.left k d in
      let test : (is_of x.kind x.port x && same_place (in_request own_request) x.place) ≡ true = subst (λ (place : Place). (is_of x.kind x.port x && same_place place x.place) ≡ true) at (own_test x) in
      let some = count_some (λ y. is_of x.kind x.port y && same_place (in_request own_request) y.place) e.left k d below test in
      let all = count_some (is_of x.kind x.port) e.left k d below (left_of (is_of x.kind x.port x) (same_place (in_request own_request) x.place) test) in
      let within = left_within old mid owed e reached (λ y. if is_of x.kind x.port y then 1 else 0) in
      let live = port_lives lawful.ports x.kind x.port (omega (arith, all, within)) in
      doomed_of (mid.live_port x.port) (listed e.doomed x.port) live (false_from_ne_true (lives x.port) (λ alive.
      let a = kept_is x.kind x.port in let b = none_kept dead x.kind x.port in let c = of_living x.kind x.port alive in let g = left_is own_request x.kind x.port in omega (arith, some, a, b, c, g)))
    where
      doomed_of : (a b : Bool) → a ≡ true → (a && not b) ≡ false → b ≡ true
      doomed_of true true e f = refl
      doomed_of true false e f = absurd (cc)
      doomed_of false b e f = absurd (cc)

-- ---- the turn

module _ (now : ℕ) (tables : WorldView) (old mid : State) (owed : Owed) (e : Ending) (w : WorldView) (l : Loose now tables old mid owed e w) (waiting : AwaitLoss w.ports.destroyed e l.state)
    (unlost : IsUnlost e waiting.emptied) (r : Request) (notify : ℕ) (asked : notify_of w.requests r ≡ Some notify) where
  abbrev pub s : State
  s = l.state

  abbrev pub x : Token
  x = token send_once notify (in_request r)

  pub right_left : lives_after mid e notify ≡ true → 0 < lying_among e.left send_once notify (in_request r)
  right_left = right_there now old mid owed e l.lawful l.reached s l.so_far w l.agrees l.framed.went r notify asked

  -- it may pay where its port lives
  pub may_post : LivesIn w notify → CanPost w notify
  may_post there =
      let alive = lives_is now tables old mid owed e w l notify there in
      can_pay now old mid owed e l.lawful l.reached s l.so_far w l.agrees notify alive
      (λ k. unlost send_once notify notify k (λ h. cc) (undoomed mid e notify alive) (not_emptied old mid owed e l.reached _ waiting.emptied waiting.parts notify k (undoomed mid e notify alive)))
      l.slots (in_request r) (λ k. refl) (right_left alive)

  pub parts_left : lives_after mid e notify ≡ true → (h : Token → ℕ) → weigh h e.left ≡ weigh h (without x e.left) + h x
  parts_left alive h = without_weigh x e.left (right_left alive) h

  pub all_off : lives_after mid e notify ≡ true → All (IsOffRequest e r) (without x e.left)
  all_off alive k d below at = grind (
    arith,
    count_some (λ z. same_place (in_request r) z.place) (without x e.left) k d below (subst (λ (place : Place). same_place (in_request r) place ≡ true) (sym at) (place_refl (in_request r))),
    parts_left alive (λ z. if same_place (in_request r) z.place then 1 else 0),
    left_within old mid owed e l.reached (λ z. if same_place (in_request r) z.place then 1 else 0),
    l.lawful.one_kept r,
    place_refl,
  )

  pub none_off : lives_after mid e notify ≡ false → All (IsOffRequest e r) e.left
  none_off = none_other now old mid owed e l.lawful l.reached s l.so_far w l.agrees l.framed.went r notify asked

  module _ (spaces : List (Option SpaceView)) (rq : RequestTablesView) (naming : ℕ → Names) (ended2 : List Request) (told2 : List ℕ) (notice : Notice) where
    -- the tables in which the request has ended, before its right pays
    abbrev pub w1 : WorldView
    w1 = record w { spaces = spaces; requests = rq }

    abbrev pub dead_ending : Ending
    dead_ending = record e { ended = ended2; told = told2; turns = e.turns + 0 }

    abbrev pub paid_ending : Ending
    paid_ending = record e { ended = ended2; told = told2; left = without x e.left; paid = e.paid ++ (x, notice_of notice) ∷ []; turns = e.turns + 1 }

    pub dead_takes : SpendsRights e dead_ending [] []
    dead_takes = record { left = λ h. omega arith; paid = sym (append-nil e.paid); gone = sym (append-nil e.gone) }

    pub paid_takes : lives_after mid e notify ≡ true → SpendsRights e paid_ending ((x, notice_of notice) ∷ []) []
    paid_takes alive = record { left = λ h. let a = parts_left alive h in omega (arith, a); paid = refl; gone = sym (append-nil e.gone) }

    module _ (stood_now : StandsSoFar mid dead_ending (request_at s.stands r false)) (named : NamesSoFar mid ended2 s.live_port naming)
        (agrees_now : (xs : List Token) → GoesOn (lives_after mid e) notify r s.ledger xs → AgreesOf (lives_after mid e) w1 (record s { naming = naming; stands = request_at s.stands r false; ledger = xs }))
        (framed : Framed mid e w1) where
      -- ---- its port lives

      module _ (alive : lives_after mid e notify ≡ true) (none : (at : Place) → carried_by (notice_of notice) at ≡ []) (bare : (q : ℕ) → ¬ (CarriesReceive (notice_kept notice) q))
          (v : PortView Kept) (there : port_at w notify ≡ Some v) (turn : Turn old mid e paid_ending) where
        abbrev tokens : List Token
        tokens = token send_once notify (in_message notify (length (s.log notify))) ∷ without x s.ledger

        moved : (h : Token → ℕ) → weigh h tokens + h x ≡ weigh h s.ledger + h (token send_once notify (in_message notify (length (s.log notify))))
        moved h =
            let a = left_is now old mid owed e l.lawful l.reached s l.so_far w l.agrees l.framed.went r notify asked r send_once notify in
            let some = right_left alive in
            let b = without_weigh x s.ledger (omega (arith, a, some)) h in omega (arith, b)

        goes_on : GoesOn (lives_after mid e) notify r s.ledger tokens
        goes_on = record { k = length (s.log notify); goes = λ is h. let a = moved h in omega (arith, a); stays = λ is. absurd (let g : true ≡ false = sym alive ∙ is in cc) }

        lives_now : LivesIn w notify
        lives_now = lives_there now tables old mid owed e w l notify alive

        pub paid_loose : Goes now tables old mid owed s paid_ending (with_notice w1 notify v notice)
        paid_loose = loose_posted now tables old mid owed e l.lawful l.reached s l.so_far w1 naming tokens (request_at s.stands r false) (agrees_now tokens goes_on) l.holders l.slots framed l.senders l.receivers l.had_senders l.emptied
            notify v there notice alive (may_post lives_now).paid bare none (in_request r) ended2 (without x e.left) told2 (e.turns + 1) (parts_left alive) moved stood_now named turn

      -- ---- it doesn't

      pub dead_loose : lives_after mid e notify ≡ false → Turn old mid e dead_ending → Goes now tables old mid owed s dead_ending w1
      dead_loose dead turn = (
        record {
          lawful = l.lawful;
          reached = turns e dead_ending l.reached turn;
          state = record s { naming = naming; stands = request_at s.stands r false };
          so_far = let so = l.so_far in record {
            live_port = so.live_port;
            stands = stood_now;
            sets_of = so.sets_of;
            make_send = so.make_send;
            sequence = so.sequence;
            names = named;
            log = so.log;
            taken = so.taken;
            destroyed = so.destroyed;
            ledger = so.ledger;
            rest = ap (λ (z : State). record z { naming = naming; stands = request_at s.stands r false }) so.rest;
          };
          agrees = agrees_now s.ledger (record { k = 0; goes = λ is. absurd (let g : true ≡ false = sym is ∙ dead in cc); stays = λ is. refl });
          holders = l.holders;
          slots = l.slots;
          framed = record { held = framed.held; carriers = framed.carriers; requested = framed.requested; went = framed.went; unjudged = framed.unjudged; doomed = framed.doomed; lost = framed.lost };
          senders = l.senders;
          receivers = l.receivers;
          had_senders = l.had_senders;
          emptied = l.emptied;
        },
        λ q k z is. is,
      )

      -- ---- so the tables are between turns again

      module _ (none : (at : Place) → carried_by (notice_of notice) at ≡ []) (bare : (q : ℕ) → ¬ (CarriesReceive (notice_kept notice) q))
          (paid_turn : lives_after mid e notify ≡ true → Turn old mid e paid_ending) (dead_turn : lives_after mid e notify ≡ false → Turn old mid e dead_ending) (stage : AreLost mid e w)
          (noted : (u : WorldView) → u.requests ≡ rq → ((q : ℕ) → (counts_of u.ledger q).send ≡ 0 → (counts_of w.ledger q).send ≡ 0) →
          (q : ℕ) → lives_after mid e q ≡ true → 0 < (counts_of tables.ledger q).send → IsSenderless u q → Contains w.ports.noted q)
          (had : (q : ℕ) → Contains w.ports.noted q → 0 < (counts_of tables.ledger q).send) where
        abbrev pub Ended : (number : ℕ) → WorldView → Type 0
        Ended number u = (f : Ending) × Between now tables old mid owed f u × IsCount e.turns f.turns number × SameSlots e w f u × AreLost mid f u × (f.ended ≡ ended2) × (u.ports.noted ≡ w.ports.noted)

        ended_dead : lives_after mid e notify ≡ false → Ended 0 w1
        ended_dead dead =
            let g = dead_loose dead (dead_turn dead) in (
              dead_ending,
              between_of now tables old mid owed dead_ending w1 g.0 (awaits_on w.ports.destroyed e dead_ending s g.0.state refl refl (λ h. omega arith) g.1 waiting) (noted w1 refl (λ q none. none)) had unlost,
              (0, refl, omega arith),
              refl,
              record { judged = record { emptied = stage.judged.emptied; judged = stage.judged.judged; none_lost = stage.judged.none_lost }; none_destroyed = stage.none_destroyed },
              refl,
              refl,
            )

        ended_paid : lives_after mid e notify ≡ true → (v : PortView Kept) → port_at w notify ≡ Some v → LivesIn w notify → 0 < w.ports.spare → Ended 1 (with_notice w1 notify v notice)
        ended_paid alive v there lives spare =
            let g = paid_loose alive none bare v there (paid_turn alive) in (
              paid_ending,
              between_of now tables old mid owed paid_ending (with_notice w1 notify v notice) g.0 (awaits_on w.ports.destroyed e paid_ending s g.0.state refl refl fewer g.1 waiting)
                  (noted (with_notice w1 notify v notice) refl (sends_shifted w.ledger notify)) had unlost_paid,
              count_one e.turns _ refl,
              (let a = spare in let c = length-append e.paid ((x, notice_of notice) ∷ []) in omega (arith, a, c)),
              record { judged = record { emptied = emptied_posted w1 notify v notice there undead stage.judged.emptied; judged = stage.judged.judged; none_lost = stage.judged.none_lost }; none_destroyed = stage.none_destroyed },
              refl,
              refl,
            )
          where
            fewer : (h : Token → ℕ) → weigh h (without x e.left) ≤ weigh h e.left
            fewer h = let a = parts_left alive h in omega (arith, a)

            unlost_paid : IsUnlost paid_ending waiting.emptied
            unlost_paid kind q m k not_receive undoomed none =
                let a = unlost kind q m k not_receive undoomed none in
                let c = tokens_joined (λ z. if is_of kind q z && same_place (in_message m k) z.place then 1 else 0) e.paid ((x, notice_of notice) ∷ []) in
                let d = both_test (is_of kind q x) false (inr refl) in
                omega (arith, a, c, d)

            undead : v.attributes.holder ≢ holder.Doomed
            undead is = lives.undoomed (ap (λ (y : PortView Kept). y.attributes.holder) (same_found (port_at w notify) lives.v v lives.there there) ∙ is)

        pub ended : (number : ℕ) (new : WorldView) → Pays w1 notify notice new → PaysMany w1 notify number → Ended number new
        ended number new pays many = go (lives_after mid e notify) refl
          where
            go : (c : Bool) → lives_after mid e notify ≡ c → Ended number new
            go true alive =
                let there = lives_there now tables old mid owed e w l notify alive in
                let lives : LivesIn w1 notify = record { v = there.v; there = there.there; undoomed = there.undoomed } in
                let posts = pays.posts lives in
                subst (λ (n : ℕ). Ended n new) (sym (many.0 lives)) (subst (Ended 1) (sym posts.rest) (ended_paid alive posts.v posts.there there posts.spare))
            go false dead = subst (λ (n : ℕ). Ended n new) (sym (many.1 dies)) (subst (Ended 0) (sym (pays.stays dies)) (ended_dead dead))
              where
                no : true ≡ false → ⊥
                no z = cc

                dies : ¬ (LivesIn w1 notify)
                dies h = no (sym (lives_is now tables old mid owed e w l notify (record { v = h.v; there = h.there; undoomed = h.undoomed })) ∙ dead)
