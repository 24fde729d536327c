-- The tables once a port was sent away.
use Rattle.std.proofs.Common.{◌≡◌, ℕ, ◌+◌, ◌<◌, [], ◌∷◌, ◌++◌, Option, Some, None, refl, sym, ap, ◌∙◌, arith, true, false, Bool, ◌-◌, ◌≤◌, List, subst, ◌⊎◌, inl, inr, zero, suc, length, length-append}
use Rattle.std.specs.Prelude.{◌&&◌, is_some, ◌≢◌, if◌then◌else◌, ◌||◌, ◌==◌, Contains, ◌↔◌, filter}
use Rattle.std.proofs.Math.Path.{fun_ext}
use Rattle.std.specs.Option.{unwrap_or}
use Rattle.std.specs.FinMap as map
use Rattle.std.specs.Ordering.{nat_cmp}
use Rattle.std.proofs.lemmas.Bool.{eq-eqb, ne_eqb, eqb-true}
use Rattle.std.proofs.lemmas.Bool.Decides.{eqb_tells}
use Rattle.std.proofs.lemmas.List.Elements.{Contains-append_cases}
use Rattle.mach_types.specs.Numbers.{most_rights}
use Rattle.mach_types.specs.Tokens.{receive, send_once, port_destroyed, in_message, in_request, is_of, Place, in_task, Token, token, count, Kind, send, Request, no_senders, dead_name, is_held}
use Rattle.mach_types.specs.Messages.{Entry}
use Rattle.mach_model.specs.State.{State, at, request_at}
use Rattle.mach_model.specs.Death.{same_place, IsOrphan, LiesAt}
use Rattle.mach_model.specs.Carried.{lying_among}
use Rattle.mach_model.specs.Settles.{tokens_of}
use Rattle.mach_model.specs.Turns.{Ending, listed, is_judged, lives_after, turns}
use Rattle.mach_model.specs.Work.{number}
use Rattle.mach_model.proofs.SettledReceives.{at_place, of_kind, none_pass, none_paid, or_left, and_false}
use Rattle.mach_model.proofs.TurnsSettle.{weaker}
use Rattle.mach_model.proofs.Names.{left_of, at_own, at_other}
use Rattle.mach_model.specs.Notices.{Owed, notice_message, port_sent}
use Rattle.mach_model.proofs.TurnsMade.{save, kept_right, is_carried_here, without}
use Rattle.mach_model.proofs.Settling.{place_refl}
use Rattle.mach_model.specs.Unused.{onces_queued}
use Rattle.rights.specs.declared.Counts.{Counts}
use Rattle.rights.specs.Counts.{one_shifted, no_rights, with_more}
use Rattle.rights.specs.Ledger.{LedgerView, counts_of, shifted, IsEntered, made}
use Rattle.rights.specs.declared.RightKind.TheVariants.{Receive}
use Rattle.port.specs.declared.Holder.TheVariants as holder
use Rattle.port.specs.Holding.{held, IsHeldBy}
use Rattle.port.specs.Ports.{PortView, IsLive, restarted}
use Rattle.port.specs.Turns.{ReadyLists}
use Rattle.port.specs.declared.Holder.{Holder}
use Rattle.request_table.specs.declared.Request.{Request as NameRequest}
use Rattle.copyin_base.specs.declared.Notice.TheVariants.{PortDestroyed}
use Rattle.copyin_base.specs.Kept.{Kept, receive_of}
use Rattle.copyin_base.specs.Queued.{notice_kept}
use Rattle.copyin_base.specs.Worlds.{WorldView, port_at}
use Rattle.copyin_base.proofs.Gets.{same_found, of_some}
use Rattle.copyin_base.proofs.Putting.{each_put, put_own, put_other}
use Rattle.copyin_base.specs.Changes.{IsSenderless}
use Rattle.copyin_base.specs.Shows.{HoldersAgree, CarriersAgree, CarriesReceive, RequestsStand, SlotsSuffice, CountsAgree, ShowsPort}
use Rattle.copyin_base.proofs.Listed.{listed_one}
use Rattle.request_table.specs.Tables.{RequestTablesView}
use Rattle.copyin_base.specs.Requests.{notify_of, rights_kept, rights_went, RequestsAgree}
use Rattle.copyin_base.proofs.Counting.{counts_agree, counts_same}
use Rattle.copyin_base.proofs.Requesting.{ended_more}
use Rattle.copyin_base.specs.Leaving.{without_port_destroyed}
use Rattle.copyin_base.specs.Losing.{CanPost, Posts}
use Rattle.notifications.specs.SoFar.{IsHolder, IsWithNobody, HoldersTell, due_so_far, entries_at, AgreesOf}
use Rattle.notifications.proofs.NoticePosted.{posted_agrees}
use Rattle.copyin_base.proofs.Lost.{with_message}
use Rattle.destroy.specs.Between.{Between, HasLost}
use Rattle.destroy.specs.Judging.{CanSend, HasSent, HasLeft, ResetsPort, HoldsPort, brought, can_be_doomed, is_undoomed, remaining, GoesTo, receive_right}
use Rattle.destroy.proofs.LoseCounts.{can_pay, none_taken}
use Rattle.destroy.proofs.JudgeDoomed.{same_receive, there_live, there_mid, number_less, false_or}
use Rattle.destroy.proofs.JudgeSaved.{unjudged, judging_still, target_lives, differs, kept_there, turn, room, sent, place, moved, f, sent_so_far, sent_waiting, sent_unlost, sent_held, sent_counts, sent_own, sent_total, sent_kept}

-- ---- What sending a port away asks of the tables, verb by verb.

module _ (w : WorldView) (p n : ℕ) (c : CanSend w p n) where
  abbrev b : Between c.at.now c.at.tables c.at.old c.at.mid c.at.owed c.at.ending w
  b = c.at.between

  abbrev e : Ending
  e = c.at.ending

  apart : p ≡ n → ⊥
  apart = differs c.at.now c.at.tables c.at.old c.at.mid c.at.owed e w b p n c.lost c.goes

  -- no right that lay in a message has paid or gone but receive rights
  whole : (k : ℕ) → lying_among (tokens_of e.paid) send_once n (in_message n k) + lying_among e.gone send_once n (in_message n k) ≡ 0
  whole k =
      let j = judging_still c.at.now c.at.tables c.at.old c.at.mid c.at.owed e w b p n c.lost c.goes in
      let paid = none_paid (λ x m. (q : ℕ) × (x.place ≡ in_request (port_destroyed q))) (λ x. is_of send_once n x && same_place (in_message n k) x.place)
      (λ x m h t. let a : in_request (port_destroyed h.0) ≡ in_message n k = sym h.1 ∙ (at_place send_once n (in_message n k) x t).1 in cc) e.paid
      (weaker (HasSent c.at.mid e.saved) (λ x. (q : ℕ) × (x.0.place ≡ in_request (port_destroyed q))) (λ x h. (h.port, h.kept)) e.paid j.paid) in
      let gone = none_pass (HasLeft e.saved) (λ x. is_of send_once n x && same_place (in_message n k) x.place)
      (λ x h t. let a = (of_kind send_once n x (left_of (is_of send_once n x) (same_place (in_message n k) x.place) t)).0 in let g : receive ≡ send_once = sym h.0 ∙ a in cc) e.gone j.gone in
      omega (arith, paid, gone)

  pub can_post : CanPost w n
  can_post = can_pay c.at.now c.at.old c.at.mid c.at.owed e b.lawful b.reached b.tied.state b.tied.so_far w b.tied.agrees n
      (target_lives c.at.now c.at.tables c.at.old c.at.mid c.at.owed e w b p n c.lost c.goes) whole b.tied.slots (in_request (port_destroyed p)) (λ k. refl)
      (kept_there c.at.now c.at.tables c.at.old c.at.mid c.at.owed e w b p n c.lost c.goes)

  module _ (w1 : WorldView) (posts : Posts w n (PortDestroyed p) w1) (w2 : WorldView) (ends : w2 ≡ without_port_destroyed w1 p) where
    pub port_then : port_at w2 p ≡ Some c.lost.view
    port_then = ap (λ (x : WorldView). port_at x p) ends ∙ ap (λ (x : WorldView). port_at x p) posts.rest
        ∙ put_other w.ports.ports n (Some (record posts.v { queue = posts.v.queue ++ notice_kept (PortDestroyed p) ∷ [] })) p apart ∙ c.lost.there

    pub live_then : IsLive w2.ports p
    live_then = ap is_some port_then

    module _ (w3 : WorldView) (resets : ResetsPort w2 p w3) where
      pub held_then : IsHeldBy w3.ports p holder.Nobody
      held_then = record {
        view = restarted resets.v;
        there = ap (λ (x : WorldView). port_at x p) resets.rest ∙ put_own w2.ports.ports p (Some (restarted resets.v));
        holder_is = ap (λ (v : PortView Kept). v.attributes.holder) (same_found (port_at w2 p) resets.v c.lost.view resets.there port_then) ∙ c.lost.holder_is;
      }

      module _ (w4 : WorldView) (holds : HoldsPort w3 p n w4) where
        ledger_then : w4.ledger ≡ shifted w.ledger n
        ledger_then = ap (λ (x : WorldView). x.ledger) holds.rest ∙ ap (λ (x : WorldView). x.ledger) resets.rest ∙ ap (λ (x : WorldView). x.ledger) ends ∙ ap (λ (x : WorldView). x.ledger) posts.rest

        counts_then : map.get w4.ledger.counts p ≡ map.get w.ledger.counts p
        counts_then = ap (λ (l : LedgerView). map.get l.counts p) ledger_then ∙ put_other w.ledger.counts n (Some (one_shifted (counts_of w.ledger n))) p apart

        pub entered_then : IsEntered w4.ledger p
        entered_then = ap is_some counts_then ∙ (b.tied.agrees.counts p).entered ∙ there_live c.at.now c.at.tables c.at.old c.at.mid c.at.owed e w b p c.lost.view c.lost.there

        pub room_then : (counts_of w4.ledger p).receive ≡ 0 → w4.ledger.total < most_rights
        room_then none =
            let zero_count : (counts_of w.ledger p).receive ≡ 0 = ap (λ (o : Option Counts). (unwrap_or o no_rights).receive) (sym counts_then) ∙ none in
            let a = (b.tied.agrees.counts p).receivers in
            let un = unjudged c.at.now c.at.tables c.at.old c.at.mid c.at.owed e w b p n c.lost c.goes in
            let same = same_receive c.at.now c.at.tables c.at.old c.at.mid c.at.owed e w b p un (is_of receive p) (λ x t. t) in
            let orphan : IsOrphan c.at.mid p = (there_mid c.at.now c.at.tables c.at.old c.at.mid c.at.owed e w b p c.lost.view c.lost.there, (omega (arith, zero_count, a, same))) in
            let fits = room c.at.now c.at.tables c.at.old c.at.mid c.at.owed e w b p orphan (omega (arith, zero_count, a)) in
            let total : w4.ledger.total ≡ w.ledger.total = ap (λ (l : LedgerView). l.total) ledger_then in
            omega (arith, fits, total)

        -- One request less stands, and as many ports may still be doomed.
        pub sends_fewer : (w5 : WorldView) → w5 ≡ record w4 { ledger = brought w4.ledger p } → remaining w5 < remaining w
        sends_fewer w5 is =
            let a : number (λ q. is_undoomed (port_at w5 q)) w5.ports.made ≡ number (λ q. is_undoomed (port_at w q)) w.ports.made =
            (λ i. number (λ q. is_undoomed (port_at w5 q)) (made i)) ∙ ap (λ (g : ℕ → Bool). number g w.ports.made) (fun_ext undoomed_same) in
            let d : number (λ q. map.contains_key w5.requests.port_destroyed.map q) w5.ports.made ≡ number (λ q. map.contains_key (map.remove w.requests.port_destroyed.map p) q) w.ports.made =
            (λ i. number (λ q. map.contains_key (asked i) q) (made i)) in
            let f = number_less (λ q. map.contains_key (map.remove w.requests.port_destroyed.map p) q) (λ q. map.contains_key w.requests.port_destroyed.map q) w.ports.made p below
            (each_put w.requests.port_destroyed.map p None (λ q o. is_some o ≡ true → map.contains_key w.requests.port_destroyed.map q ≡ true) (λ h. absurd (let z : false ≡ true = h in cc)) (λ q other h. h))
            (ap is_some (put_own w.requests.port_destroyed.map p None)) (ap is_some c.goes.asked) in
            omega (arith, a, d, f)
          where
            made : w5.ports.made ≡ w.ports.made
            made = ap (λ (x : WorldView). x.ports.made) is ∙ ap (λ (x : WorldView). x.ports.made) holds.rest ∙ ap (λ (x : WorldView). x.ports.made) resets.rest ∙ ap (λ (x : WorldView). x.ports.made) ends ∙ ap (λ (x : WorldView). x.ports.made) posts.rest

            asked : w5.requests.port_destroyed.map ≡ map.remove w.requests.port_destroyed.map p
            asked = ap (λ (x : WorldView). x.requests.port_destroyed.map) is ∙ ap (λ (x : WorldView). x.requests.port_destroyed.map) holds.rest ∙ ap (λ (x : WorldView). x.requests.port_destroyed.map) resets.rest
                ∙ ap (λ (x : WorldView). x.requests.port_destroyed.map) ends ∙ ap (λ (x : WorldView). map.remove x.requests.port_destroyed.map p) posts.rest

            below : p < w.ports.made
            below =
                let x = b.lawful.made_port p (there_mid c.at.now c.at.tables c.at.old c.at.mid c.at.owed e w b p c.lost.view c.lost.there) in
                let y = b.tied.agrees.ports_made in
                let z : b.tied.state.ports_made ≡ c.at.mid.ports_made = ap (λ (s : State). s.ports_made) b.tied.so_far.rest in
                omega (arith, x, y, z)

            undoomed_put : (m : map.FinMap nat_cmp (PortView Kept)) (k : ℕ) (v v2 : PortView Kept) → map.get m k ≡ Some v → can_be_doomed v2.attributes.holder ≡ can_be_doomed v.attributes.holder →
                (q : ℕ) → is_undoomed (map.get (map.insert m k v2) q) ≡ is_undoomed (map.get m q)
            undoomed_put m k v v2 there same = each_put m k (Some v2) (λ q o. is_undoomed o ≡ is_undoomed (map.get m q)) (same ∙ ap is_undoomed (sym there)) (λ q other. refl)

            was_nobody : holds.v.attributes.holder ≡ holder.Nobody
            was_nobody = let h = held_then in ap (λ (v : PortView Kept). v.attributes.holder) (same_found (port_at w3 p) holds.v h.view holds.there h.there) ∙ h.holder_is

            undoomed_same : (q : ℕ) → is_undoomed (port_at w5 q) ≡ is_undoomed (port_at w q)
            undoomed_same q =
                ap (λ (x : WorldView). is_undoomed (port_at x q)) is
                ∙ ap (λ (x : WorldView). is_undoomed (port_at x q)) holds.rest
                ∙ undoomed_put w3.ports.ports p holds.v (held holds.v (holder.QueueOf n)) holds.there (sym (ap can_be_doomed was_nobody)) q
                ∙ ap (λ (x : WorldView). is_undoomed (port_at x q)) resets.rest
                ∙ undoomed_put w2.ports.ports p resets.v (restarted resets.v) resets.there refl q
                ∙ ap (λ (x : WorldView). is_undoomed (port_at x q)) ends
                ∙ ap (λ (x : WorldView). is_undoomed (port_at x q)) posts.rest
                ∙ undoomed_put w.ports.ports n posts.v (record posts.v { queue = posts.v.queue ++ notice_kept (PortDestroyed p) ∷ [] }) posts.there refl q

-- ---- The tables once a port was sent away: who holds the ports, and which are lost or doomed.

module _ (now : ℕ) (tables : WorldView) (old mid : State) (owed : Owed) (e : Ending) (w : WorldView) (b : Between now tables old mid owed e w)
    (p n : ℕ) (lost : IsHeldBy w.ports p holder.Nobody) (goes : GoesTo w p n) where
  abbrev u : PortView Kept
  u = goes.with_task.1.view

  abbrev pub f_tables : Ending
  f_tables = save n p e

  -- the port, and the one that is told
  abbrev pub own : PortView Kept
  own = held (restarted lost.view) (holder.QueueOf n)

  abbrev pub told : PortView Kept
  told = record u { queue = u.queue ++ notice_kept (PortDestroyed p) ∷ [] }

  un : is_judged e p ≡ false
  un = unjudged now tables old mid owed e w b p n lost goes

  apart_tables : p ≡ n → ⊥
  apart_tables = differs now tables old mid owed e w b p n lost goes

  module _ (P : map.FinMap nat_cmp (PortView Kept)) (R : ReadyLists) (L D : List ℕ) (at_own : map.get P p ≡ Some own) (at_told : map.get P n ≡ Some told)
      (at_others : (q : ℕ) → q ≢ p → q ≢ n → map.get P q ≡ port_at w q) where
    abbrev pub after : WorldView
    after = record w {
      ports = record w.ports { ports = P; ready = R; lost = L; doomed = D; spare = w.ports.spare - 1 };
      ledger = brought (shifted w.ledger n) p;
      requests = record w.requests { port_destroyed = record w.requests.port_destroyed { map = map.remove w.requests.port_destroyed.map p } };
    }

    -- what is true of the two, and of each other, is true of all
    pub each : (Q : ℕ → Option (PortView Kept) → Type 0) → Q p (Some own) → Q n (Some told) → ((q : ℕ) → q ≢ p → q ≢ n → Q q (port_at w q)) → (q : ℕ) → Q q (map.get P q)
    each Q one two others q = elim (eqb_tells q p) [
      | inl same ↦ subst (λ (x : ℕ). Q x (map.get P x)) (sym same.1) (subst (Q p) (sym at_own) one)
      | inr not_p ↦ elim (eqb_tells q n) [
        | inl same ↦ subst (λ (x : ℕ). Q x (map.get P x)) (sym same.1) (subst (Q n) (sym at_told) two)
        | inr not_n ↦ subst (Q q) (sym (at_others q not_p.1 not_n.1)) (others q not_p.1 not_n.1)
      ]
    ]

    pub sent_there : (q : ℕ) → is_some (map.get P q) ≡ is_some (port_at w q)
    sent_there = each (λ q o. is_some o ≡ is_some (port_at w q)) (sym (ap is_some lost.there)) (sym (ap is_some goes.with_task.1.there)) (λ q x y. refl)

    pub sent_doomed : (q : ℕ) (y : PortView Kept) → map.get P q ≡ Some y → (y.attributes.holder ≡ holder.Doomed) ↔ (listed f_tables.doomed q ≡ true)
    sent_doomed = each (λ q o. (y : PortView Kept) → o ≡ Some y → (y.attributes.holder ≡ holder.Doomed) ↔ (listed e.doomed q ≡ true))
        (of_some own (λ y. (y.attributes.holder ≡ holder.Doomed) ↔ (listed e.doomed p ≡ true))
        ((λ h. absurd (let g : holder.QueueOf n ≡ holder.Doomed = h in cc)), (λ h. absurd (let g = or_left (listed e.doomed p) (listed e.saved p) h in let k = un in cc))))
        (of_some told (λ y. (y.attributes.holder ≡ holder.Doomed) ↔ (listed e.doomed n ≡ true)) (b.doomed n u goes.with_task.1.there))
        (λ q x y. b.doomed q)

    pub sent_unjudged : (q : ℕ) → IsHeldBy after.ports q holder.Nobody → is_judged f_tables q ≡ false
    sent_unjudged q h = each (λ q o. (y : PortView Kept) → o ≡ Some y → y.attributes.holder ≡ holder.Nobody → is_judged f_tables q ≡ false)
        (of_some own (λ y. y.attributes.holder ≡ holder.Nobody → is_judged f_tables p ≡ false) (λ k. absurd (let g : holder.QueueOf n ≡ holder.Nobody = k in cc)))
        (of_some told (λ y. y.attributes.holder ≡ holder.Nobody → is_judged f_tables n ≡ false) (λ k. absurd (let g : holder.Task goes.with_task.0 ≡ holder.Nobody = sym goes.with_task.1.holder_is ∙ k in cc)))
        (λ q not_p not_n y is k. go q (q == p) (ne_eqb q p not_p) (b.unjudged q (record { view = y; there = is; holder_is = k })))
        q h.view h.there h.holder_is
      where
        go : (q : ℕ) (t : Bool) → t ≡ false → is_judged e q ≡ false → (listed e.doomed q || (t || listed e.saved q)) ≡ false
        go q true h k = absurd (cc)
        go q false h k = k

    more_judged : (q : ℕ) → is_judged e q ≡ true → is_judged f_tables q ≡ true
    more_judged q h = go (listed e.doomed q) (q == p) (listed e.saved q) h
      where
        go : (a t c : Bool) → (a || c) ≡ true → (a || (t || c)) ≡ true
        go true t c h = refl
        go false true c h = refl
        go false false c h = h

    own_judged : (q : ℕ) → q ≡ p → is_judged f_tables q ≡ true
    own_judged q same = go (listed e.doomed q) (q == p) (eq-eqb q p same)
      where
        go : (a t : Bool) → t ≡ true → (a || (t || listed e.saved q)) ≡ true
        go true t h = refl
        go false true h = refl
        go false false h = absurd (cc)

    pub sent_lost : (q : ℕ) → HasLost mid f_tables q → (is_judged f_tables q ≡ true) ⊎ IsHeldBy after.ports q holder.Nobody
    sent_lost q h = elim (b.lost q h) [
      | inl judged ↦ inl (more_judged q judged)
      | inr held ↦ elim (eqb_tells q p) [
        | inl same ↦ inl (own_judged q same.1)
        | inr not_p ↦ inr (record {
          view = held.view;
          there = at_others q not_p.1 (λ same. let a = same_found (port_at w n) held.view u (subst (λ (x : ℕ). port_at w x ≡ Some held.view) same held.there) goes.with_task.1.there in
              let g : holder.Nobody ≡ holder.Task goes.with_task.0 = sym held.holder_is ∙ ap (λ (x : PortView Kept). x.attributes.holder) a ∙ goes.with_task.1.holder_is in cc) ∙ held.there;
          holder_is = held.holder_is;
        })
      ]
    ]

    pub sent_held_tables : HoldersAgree after
    sent_held_tables = record {
      held = λ task name x q found named has y is. each (λ q o. ((v : PortView Kept) → port_at w q ≡ Some v → v.attributes.holder ≡ holder.Task task) → (y : PortView Kept) → o ≡ Some y → y.attributes.holder ≡ holder.Task task)
          (λ was. absurd (let g : holder.Nobody ≡ holder.Task task = sym lost.holder_is ∙ was lost.view lost.there in cc))
          (λ was. of_some told (λ y. y.attributes.holder ≡ holder.Task task) (was u goes.with_task.1.there))
          (λ q not_p not_n was. was) q (b.held.held task name x q found named has) y is;
    }

    -- ---- receive rights that messages carry

    abbrev Tells : ℕ → Kept → Type 0
    Tells q m = (r : ℕ) → CarriesReceive m r → (r < w.ports.made) × ((y : PortView Kept) → map.get P r ≡ Some y → y.attributes.holder ≡ holder.QueueOf q)

    -- a message that was queued: the port that was sent away is none that it carries
    was_queued : (q : ℕ) (v : PortView Kept) (m : Kept) → port_at w q ≡ Some v → Contains v.queue m → (r : ℕ) → CarriesReceive m r → (r < w.ports.made) × ((y : PortView Kept) → map.get P r ≡ Some y → y.attributes.holder ≡ holder.QueueOf q)
    was_queued q v m there queued r carries = (
      b.carriers.given q v m r there queued carries,
      each (λ r o. ((x : PortView Kept) → port_at w r ≡ Some x → x.attributes.holder ≡ holder.QueueOf q) → (y : PortView Kept) → o ≡ Some y → y.attributes.holder ≡ holder.QueueOf q)
          (λ was. absurd (let g : holder.Nobody ≡ holder.QueueOf q = sym lost.holder_is ∙ was lost.view lost.there in cc))
          (λ was. of_some told (λ y. y.attributes.holder ≡ holder.QueueOf q) (was u goes.with_task.1.there))
          (λ r not_p not_n was. was) r (λ x is. b.carriers.carried q v m r there queued carries x is),
    )

    tells : (q : ℕ) (y : PortView Kept) → map.get P q ≡ Some y → (m : Kept) → Contains y.queue m → Tells q m
    tells = each (λ q o. (y : PortView Kept) → o ≡ Some y → (m : Kept) → Contains y.queue m → Tells q m)
        (of_some own (λ y. (m : Kept) → Contains y.queue m → Tells p m) (λ m queued. was_queued p lost.view m lost.there queued))
        (of_some told (λ y. (m : Kept) → Contains y.queue m → Tells n m) (λ m queued. elim (Contains-append_cases u.queue (notice_kept (PortDestroyed p) ∷ []) m queued) [
          | inl c ↦ was_queued n u m goes.with_task.1.there c
          | inr c ↦ by_notice m (listed_one (notice_kept (PortDestroyed p)) m c)
        ]))
        (λ q x z y is m queued. was_queued q y m is queued)
      where
        its_port : (r : ℕ) → CarriesReceive (notice_kept (PortDestroyed p)) r → r ≡ p
        its_port r c = let a = listed_one (receive_right p) (receive_right r) c in let g : Some r ≡ Some p = ap receive_of a in cc

        by_notice : (m : Kept) → m ≡ notice_kept (PortDestroyed p) → Tells n m
        by_notice m is r carries =
            let same = its_port r (subst (λ (x : Kept). CarriesReceive x r) is carries) in (
              (let a = b.lawful.made_port p (there_mid now tables old mid owed e w b p lost.view lost.there) in let c = b.tied.agrees.ports_made in
                  let d : b.tied.state.ports_made ≡ mid.ports_made = ap (λ (s : State). s.ports_made) b.tied.so_far.rest in omega (arith, a, c, d, same)),
              λ y there. of_some own (λ y. y.attributes.holder ≡ holder.QueueOf n) refl y (sym at_own ∙ subst (λ (x : ℕ). map.get P x ≡ Some y) same there),
            )

    pub sent_carriers : CarriersAgree after
    sent_carriers = record {
      given = λ q v m r there queued carries. (tells q v there m queued r carries).0;
      carried = λ q v m r there queued carries y is. (tells q v there m queued r carries).1 y is;
    }

    -- ---- counts

    shift_same : (g : Counts → ℕ) → ((c : Counts) → g (one_shifted c) ≡ g c) → (q : ℕ) → g (counts_of (shifted w.ledger n) q) ≡ g (counts_of w.ledger q)
    shift_same g same q = elim (eqb_tells q n) [
      | inl h ↦ subst (λ (x : ℕ). g (counts_of (shifted w.ledger n) x) ≡ g (counts_of w.ledger x)) (sym h.1) (ap (λ (o : Option Counts). g (unwrap_or o no_rights)) (put_own w.ledger.counts n (Some (one_shifted (counts_of w.ledger n)))) ∙ same (counts_of w.ledger n))
      | inr h ↦ ap (λ (o : Option Counts). g (unwrap_or o no_rights)) (put_other w.ledger.counts n (Some (one_shifted (counts_of w.ledger n))) q h.1)
    ]

    brought_own : (l : LedgerView) → (counts_of (brought l p) p).receive ≤ 1 ⊎ ((counts_of (brought l p) p).receive ≡ (counts_of l p).receive)
    brought_own l = go ((counts_of l p).receive == 0) refl
      where
        go : (t : Bool) → ((counts_of l p).receive == 0) ≡ t → ((counts_of (if t then made l p Receive 1 else l) p).receive ≤ 1) ⊎ ((counts_of (if t then made l p Receive 1 else l) p).receive ≡ (counts_of l p).receive)
        go true is = inl (let a = eqb-true (counts_of l p).receive 0 is in let c : (counts_of (made l p Receive 1) p).receive ≡ (counts_of l p).receive + 1 = ap (λ (o : Option Counts). (unwrap_or o no_rights).receive) (put_own l.counts p (Some (with_more Receive 1 (counts_of l p)))) in omega (arith, a, c))
        go false is = inr refl

    brought_other : (l : LedgerView) (q : ℕ) → (q ≡ p → ⊥) → counts_of (brought l p) q ≡ counts_of l q
    brought_other l q not_p = go ((counts_of l p).receive == 0)
      where
        go : (t : Bool) → counts_of (if t then made l p Receive 1 else l) q ≡ counts_of l q
        go true = ap (λ (o : Option Counts). unwrap_or o no_rights) (put_other l.counts p (Some (with_more Receive 1 (counts_of l p))) q not_p)
        go false = refl

    brought_sends : (l : LedgerView) (q : ℕ) → (counts_of (brought l p) q).send ≡ (counts_of l q).send
    brought_sends l q = elim (eqb_tells q p) [
      | inl h ↦ subst (λ (x : ℕ). (counts_of (brought l p) x).send ≡ (counts_of l x).send) (sym h.1) (go ((counts_of l p).receive == 0))
      | inr h ↦ ap (λ (c : Counts). c.send) (brought_other l q h.1)
    ]
      where
        go : (t : Bool) → (counts_of (if t then made l p Receive 1 else l) p).send ≡ (counts_of l p).send
        go true = ap (λ (o : Option Counts). (unwrap_or o no_rights).send) (put_own l.counts p (Some (with_more Receive 1 (counts_of l p))))
        go false = refl

    pub sent_receivers : (q : ℕ) → (counts_of after.ledger q).receive ≤ 1
    sent_receivers q = elim (eqb_tells q p) [
      | inl h ↦ subst (λ (x : ℕ). (counts_of after.ledger x).receive ≤ 1) (sym h.1) (elim (brought_own (shifted w.ledger n)) [
        | inl few ↦ few
        | inr same ↦ (let a = shift_same (λ c. c.receive) (λ c. refl) p in let c = b.receivers p in omega (arith, same, a, c))
      ])
      | inr h ↦ (let a = ap (λ (c : Counts). c.receive) (brought_other (shifted w.ledger n) q h.1) in let d = shift_same (λ c. c.receive) (λ c. refl) q in let c = b.receivers q in omega (arith, a, c, d))
    ]

    pub sent_senderless : (q : ℕ) → IsSenderless after q → IsSenderless w q
    sent_senderless q s = record {
      live = sym (sent_there q) ∙ s.live;
      asked = s.asked;
      none = (let a = brought_sends (shifted w.ledger n) q in let c = shift_same (λ c. c.send) (λ c. refl) q in let d = s.none in omega (arith, a, c, d));
    }

    pub sent_requested : RequestsStand after
    sent_requested = record {
      on_names = λ key r is. let o = b.requested.on_names key r is in record { own = o.own; small = o.small; entry = o.entry; found = o.found; for_port = o.for_port; live = sent_there r.port ∙ o.live };
      no_senders = λ q h. sent_there q ∙ b.requested.no_senders q h;
      port_destroyed = λ q h. sent_there q ∙ b.requested.port_destroyed q (each_put w.requests.port_destroyed.map p None (λ q o. is_some o ≡ true → map.contains_key w.requests.port_destroyed.map q ≡ true) (λ k. absurd (let z : false ≡ true = k in cc)) (λ q x k. k) q h);
    }

-- ---- Where receive rights lie once a port was sent away: the port's own in its notice, each other where it lay.

-- those that go with the port are for no other
carried_none : (e : Ending) (p q : ℕ) (test : Token → Bool) → ((x : Token) → test x ≡ true → x.port ≡ q) → (p ≡ q → ⊥) → (xs : List Token) → count test (filter (is_carried_here e p) xs) ≡ 0
carried_none e p q test of apart [] = refl
carried_none e p q test of apart (x ∷ xs) = go (is_carried_here e p x) (test x) refl refl (carried_none e p q test of apart xs)
  where
    go : (c t : Bool) → is_carried_here e p x ≡ c → test x ≡ t → count test (filter (is_carried_here e p) xs) ≡ 0 → count test (if c then x ∷ filter (is_carried_here e p) xs else filter (is_carried_here e p) xs) ≡ 0
    go false t h k ih = ih
    go true false h k ih = let a : (if test x then suc zero else zero) ≡ 0 = rw k refl in omega (arith, ih, a)
    go true true h k ih = absurd (apart (sym (of_kind receive p x (left_of (is_of receive p x) _ h)).1 ∙ of x k))

module _ (now : ℕ) (tables : WorldView) (old mid : State) (owed : Owed) (e : Ending) (w : WorldView) (b : Between now tables old mid owed e w)
    (p n : ℕ) (lost : IsHeldBy w.ports p holder.Nobody) (goes : GoesTo w p n) where
  abbrev s : State
  s = b.tied.state

  abbrev t : State
  t = sent now tables old mid owed e w b p n lost goes

  abbrev spot : ℕ
  spot = place now tables old mid owed e w b p n lost goes

  -- another port's receive rights are where they were
  others_same : (q : ℕ) → (p ≡ q → ⊥) → (test : Token → Bool) → ((x : Token) → test x ≡ true → is_of receive q x ≡ true) → count test t.ledger ≡ count test s.ledger
  others_same q apart test of =
      let a = moved now tables old mid owed e w b p n lost goes (λ x. if test x then 1 else 0) in
      let c = carried_none e p q test (λ x h. (of_kind receive q x (of x h)).1) apart (without (kept_right n p) e.left) in
      let d = no_one (kept_right n p) (λ h. let k = (of_kind receive q (kept_right n p) (of (kept_right n p) h)).0 in cc) in
      let f = no_one (token send_once n (in_message n spot)) (λ h. let k = (of_kind receive q (token send_once n (in_message n spot)) (of (token send_once n (in_message n spot)) h)).0 in cc) in
      let g = no_one (token receive p (in_message n spot)) (λ h. apart (of_kind receive q (token receive p (in_message n spot)) (of (token receive p (in_message n spot)) h)).1) in
      omega (arith, a, c, d, f, g)
    where
      no_one : (x : Token) → (test x ≡ true → ⊥) → (if test x then suc zero else zero) ≡ zero
      no_one x none = go (test x) refl
        where
          go : (y : Bool) → test x ≡ y → (if y then suc zero else zero) ≡ zero
          go true h = absurd (none h)
          go false h = refl

  lies_same : (q : ℕ) → (p ≡ q → ⊥) → (at : Place) → LiesAt s receive q at → LiesAt t receive q at
  lies_same q apart at lies = let a = others_same q apart (λ x. is_of receive q x && same_place at x.place) (λ x h. left_of _ _ h) in omega (arith, a, lies)

  still : (q : ℕ) → (p ≡ q → ⊥) → (h : Holder) → IsHolder s e.destroyed q h → IsHolder t e.destroyed q h
  still q apart (holder.Task task) h = lies_same q apart (in_task task) h
  still q apart (holder.QueueOf x) (k, lies, out) = (k, lies_same q apart (in_message x k) lies, out)
  still q apart holder.Nobody h = nobody h
    where
      nobody : IsWithNobody s e.destroyed q → IsWithNobody t e.destroyed q
      nobody (inl none) = inl (let a = others_same q apart (is_of receive q) (λ x y. y) in omega (arith, a, none))
      nobody (inr (x, k, lies, c)) = inr (x, k, lies_same q apart (in_message x k) lies, c)
  still q apart holder.Doomed h = doomed h
    where
      doomed : IsWithNobody s e.destroyed q → IsWithNobody t e.destroyed q
      doomed (inl none) = inl (let a = others_same q apart (is_of receive q) (λ x y. y) in omega (arith, a, none))
      doomed (inr (x, k, lies, c)) = inr (x, k, lies_same q apart (in_message x k) lies, c)

  -- its own lies in the notice, which waits
  own_lies : LiesAt t receive p (in_message n spot)
  own_lies =
      let is : (is_of receive p (token receive p (in_message n spot)) && same_place (in_message n spot) (in_message n spot)) ≡ true = let a = eq-eqb p p refl in let c = place_refl (in_message n spot) in rw (a, c) refl in
      let one : (if is_of receive p (token receive p (in_message n spot)) && same_place (in_message n spot) (in_message n spot) then suc zero else zero) ≡ suc zero = rw is refl in
      omega (arith, one)

  waits : ¬ (Contains e.destroyed (n, spot))
  waits c =
      let below = ((b.tied.so_far.destroyed n spot).0 c).1 in
      let a = b.tied.so_far.taken n in
      let d = none_taken old mid owed e b.reached n (target_lives now tables old mid owed e w b p n lost goes) in
      let f = b.lawful.within n in
      let g : length (s.log n) ≡ length (mid.log n ++ entries_at now n (due_so_far e)) = ap length (b.tied.so_far.log n) in
      let h = length-append (mid.log n) (entries_at now n (due_so_far e)) in
      omega (arith, below, a, d, f, g, h)

  module _ (P : map.FinMap nat_cmp (PortView Kept)) (R : ReadyLists) (L D : List ℕ) (at_own : map.get P p ≡ Some (own now tables old mid owed e w b p n lost goes)) (at_told : map.get P n ≡ Some (told now tables old mid owed e w b p n lost goes))
      (at_others : (q : ℕ) → q ≢ p → q ≢ n → map.get P q ≡ port_at w q) where
    pub sent_holders : HoldersTell (after now tables old mid owed e w b p n lost goes P R L D at_own at_told at_others) t e.destroyed
    sent_holders = each now tables old mid owed e w b p n lost goes P R L D at_own at_told at_others (λ q o. (y : PortView Kept) → o ≡ Some y → IsHolder t e.destroyed q y.attributes.holder)
        (of_some (own now tables old mid owed e w b p n lost goes) (λ y. IsHolder t e.destroyed p y.attributes.holder) (spot, own_lies, waits))
        (of_some (told now tables old mid owed e w b p n lost goes) (λ y. IsHolder t e.destroyed n y.attributes.holder)
        (still n (differs now tables old mid owed e w b p n lost goes) goes.with_task.1.view.attributes.holder (b.tied.holders n goes.with_task.1.view goes.with_task.1.there)))
        (λ q not_p not_n y is. still q (λ same. not_p (sym same)) y.attributes.holder (b.tied.holders q y is))

-- ---- The tables after the verbs by which a port is sent away.

module _ (w : WorldView) (p n : ℕ) (c : CanSend w p n) (w1 : WorldView) (posts : Posts w n (PortDestroyed p) w1) (w2 : WorldView) (ends : w2 ≡ without_port_destroyed w1 p) (w3 : WorldView) (resets : ResetsPort w2 p w3)
    (w4 : WorldView) (holds : HoldsPort w3 p n w4) (w5 : WorldView) (is : w5 ≡ record w4 { ledger = brought w4.ledger p }) where
  apart_after : p ≡ n → ⊥
  apart_after = differs c.at.now c.at.tables c.at.old c.at.mid c.at.owed c.at.ending w c.at.between p n c.lost c.goes

  -- a port but for this one
  not_own : (q : ℕ) → q ≢ p → port_at w5 q ≡ port_at w1 q
  not_own q differs =
      ap (λ (x : WorldView). port_at x q) is ∙ ap (λ (x : WorldView). port_at x q) holds.rest
      ∙ put_other w3.ports.ports p (Some (held holds.v (holder.QueueOf n))) q differs
      ∙ ap (λ (x : WorldView). port_at x q) resets.rest
      ∙ put_other w2.ports.ports p (Some (restarted resets.v)) q differs
      ∙ ap (λ (x : WorldView). port_at x q) ends

  pub others_after : (q : ℕ) → q ≢ p → q ≢ n → port_at w5 q ≡ port_at w q
  others_after q not_p not_n = not_own q not_p ∙ ap (λ (x : WorldView). port_at x q) posts.rest
      ∙ put_other w.ports.ports n (Some (record posts.v { queue = posts.v.queue ++ notice_kept (PortDestroyed p) ∷ [] })) q not_n

  pub told_after : port_at w5 n ≡ Some (told c.at.now c.at.tables c.at.old c.at.mid c.at.owed c.at.ending w c.at.between p n c.lost c.goes)
  told_after = not_own n (λ same. apart_after (sym same)) ∙ ap (λ (x : WorldView). port_at x n) posts.rest
      ∙ put_own w.ports.ports n (Some (record posts.v { queue = posts.v.queue ++ notice_kept (PortDestroyed p) ∷ [] }))
      ∙ ap (λ (v : PortView Kept). Some (record v { queue = v.queue ++ notice_kept (PortDestroyed p) ∷ [] })) (same_found (port_at w n) posts.v c.goes.with_task.1.view posts.there c.goes.with_task.1.there)

  pub own_after : port_at w5 p ≡ Some (own c.at.now c.at.tables c.at.old c.at.mid c.at.owed c.at.ending w c.at.between p n c.lost c.goes)
  own_after =
      let reset_is : resets.v ≡ c.lost.view = same_found (port_at w2 p) resets.v c.lost.view resets.there (port_then w p n c w1 posts w2 ends) in
      let held_is : holds.v ≡ restarted c.lost.view = same_found (port_at w3 p) holds.v (restarted c.lost.view) holds.there
      (ap (λ (x : WorldView). port_at x p) resets.rest ∙ put_own w2.ports.ports p (Some (restarted resets.v)) ∙ ap (λ (v : PortView Kept). Some (restarted v)) reset_is) in
      ap (λ (x : WorldView). port_at x p) is ∙ ap (λ (x : WorldView). port_at x p) holds.rest ∙ put_own w3.ports.ports p (Some (held holds.v (holder.QueueOf n)))
      ∙ ap (λ (v : PortView Kept). Some (held v (holder.QueueOf n))) held_is

  -- what no verb but the first, or none, changes
  same_field : {A : Type 0} (g : WorldView → A) → g (record w4 { ledger = brought w4.ledger p }) ≡ g w4 → g w4 ≡ g w3 → g w3 ≡ g w2 → g w2 ≡ g w1 → g w5 ≡ g w1
  same_field g a b d e = ap g is ∙ a ∙ b ∙ d ∙ e

  -- The tables are those of before, but for these.
  pub after_is : w5 ≡ after c.at.now c.at.tables c.at.old c.at.mid c.at.owed c.at.ending w c.at.between p n c.lost c.goes w5.ports.ports w5.ports.ready w5.ports.lost w5.ports.doomed own_after told_after others_after
  after_is = λ i. record {
    profile = (same_field (λ x. x.profile) refl (ap (λ (x : WorldView). x.profile) holds.rest) (ap (λ (x : WorldView). x.profile) resets.rest) (ap (λ (x : WorldView). x.profile) ends) ∙ ap (λ (x : WorldView). x.profile) posts.rest) i;
    spaces = (same_field (λ x. x.spaces) refl (ap (λ (x : WorldView). x.spaces) holds.rest) (ap (λ (x : WorldView). x.spaces) resets.rest) (ap (λ (x : WorldView). x.spaces) ends) ∙ ap (λ (x : WorldView). x.spaces) posts.rest) i;
    ports = record {
      ports = w5.ports.ports;
      ready = w5.ports.ready;
      made = (same_field (λ x. x.ports.made) refl (ap (λ (x : WorldView). x.ports.made) holds.rest) (ap (λ (x : WorldView). x.ports.made) resets.rest) (ap (λ (x : WorldView). x.ports.made) ends) ∙ ap (λ (x : WorldView). x.ports.made) posts.rest) i;
      spare = (same_field (λ x. x.ports.spare) refl (ap (λ (x : WorldView). x.ports.spare) holds.rest) (ap (λ (x : WorldView). x.ports.spare) resets.rest) (ap (λ (x : WorldView). x.ports.spare) ends) ∙ ap (λ (x : WorldView). x.ports.spare) posts.rest) i;
      destroyed = (same_field (λ x. x.ports.destroyed) refl (ap (λ (x : WorldView). x.ports.destroyed) holds.rest) (ap (λ (x : WorldView). x.ports.destroyed) resets.rest) (ap (λ (x : WorldView). x.ports.destroyed) ends) ∙ ap (λ (x : WorldView). x.ports.destroyed) posts.rest) i;
      lost = w5.ports.lost;
      doomed = w5.ports.doomed;
      noted = (same_field (λ x. x.ports.noted) refl (ap (λ (x : WorldView). x.ports.noted) holds.rest) (ap (λ (x : WorldView). x.ports.noted) resets.rest) (ap (λ (x : WorldView). x.ports.noted) ends) ∙ ap (λ (x : WorldView). x.ports.noted) posts.rest) i;
      several = (same_field (λ x. x.ports.several) refl (ap (λ (x : WorldView). x.ports.several) holds.rest) (ap (λ (x : WorldView). x.ports.several) resets.rest) (ap (λ (x : WorldView). x.ports.several) ends) ∙ ap (λ (x : WorldView). x.ports.several) posts.rest) i;
    };
    ledger = (ap (λ (x : WorldView). x.ledger) is ∙ ap (λ (l : LedgerView). brought l p) (ap (λ (x : WorldView). x.ledger) holds.rest ∙ ap (λ (x : WorldView). x.ledger) resets.rest ∙ ap (λ (x : WorldView). x.ledger) ends ∙ ap (λ (x : WorldView). x.ledger) posts.rest)) i;
    sets = (same_field (λ x. x.sets) refl (ap (λ (x : WorldView). x.sets) holds.rest) (ap (λ (x : WorldView). x.sets) resets.rest) (ap (λ (x : WorldView). x.sets) ends) ∙ ap (λ (x : WorldView). x.sets) posts.rest) i;
    requests = (ap (λ (x : WorldView). x.requests) is ∙ ap (λ (x : WorldView). x.requests) holds.rest ∙ ap (λ (x : WorldView). x.requests) resets.rest ∙ ap (λ (x : WorldView). x.requests) ends
        ∙ ap (λ (x : WorldView). record x.requests { port_destroyed = record x.requests.port_destroyed { map = map.remove x.requests.port_destroyed.map p } }) posts.rest) i;
  }

-- ---- What is said between two parts is true once a port was sent away, where the tables agree with the state that is to be shown.

module _ (now : ℕ) (tables : WorldView) (old mid : State) (owed : Owed) (e : Ending) (w : WorldView) (b : Between now tables old mid owed e w)
    (p n : ℕ) (lost : IsHeldBy w.ports p holder.Nobody) (goes : GoesTo w p n)
    (P : map.FinMap nat_cmp (PortView Kept)) (R : ReadyLists) (L D : List ℕ) (at_own : map.get P p ≡ Some (own now tables old mid owed e w b p n lost goes)) (at_told : map.get P n ≡ Some (told now tables old mid owed e w b p n lost goes))
    (at_others : (q : ℕ) → q ≢ p → q ≢ n → map.get P q ≡ port_at w q) where
  abbrev v : WorldView
  v = after now tables old mid owed e w b p n lost goes P R L D at_own at_told at_others

  pub sent_between : AgreesOf (lives_after mid e) v (sent now tables old mid owed e w b p n lost goes) → SlotsSuffice v → Between now tables old mid owed (f now tables old mid owed e w b p n lost goes) v
  sent_between agrees slots = record {
    lawful = b.lawful;
    reached = turns e (f now tables old mid owed e w b p n lost goes) b.reached (inr (inl (turn now tables old mid owed e w b p n lost goes)));
    tied = record {
      state = sent now tables old mid owed e w b p n lost goes;
      so_far = sent_so_far now tables old mid owed e w b p n lost goes;
      agrees = agrees;
      holders = sent_holders now tables old mid owed e w b p n lost goes P R L D at_own at_told at_others;
      slots = slots;
      waiting = sent_waiting now tables old mid owed e w b p n lost goes;
    };
    held = sent_held_tables now tables old mid owed e w b p n lost goes P R L D at_own at_told at_others;
    carriers = sent_carriers now tables old mid owed e w b p n lost goes P R L D at_own at_told at_others;
    requested = sent_requested now tables old mid owed e w b p n lost goes P R L D at_own at_told at_others;
    went = b.went;
    unjudged = sent_unjudged now tables old mid owed e w b p n lost goes P R L D at_own at_told at_others;
    doomed = sent_doomed now tables old mid owed e w b p n lost goes P R L D at_own at_told at_others;
    lost = sent_lost now tables old mid owed e w b p n lost goes P R L D at_own at_told at_others;
    emptied = b.emptied;
    senders = b.senders;
    noted = λ q live had none. b.noted q live had (sent_senderless now tables old mid owed e w b p n lost goes P R L D at_own at_told at_others q none);
    had = b.had;
    receivers = sent_receivers now tables old mid owed e w b p n lost goes P R L D at_own at_told at_others;
    unlost = sent_unlost now tables old mid owed e w b p n lost goes;
    had_senders = b.had_senders;
  }

-- ---- The tables once a port was sent away agree with the state after it.

-- ---- counts, where the receive right of a port comes

module _ (l : LedgerView) (live lives : ℕ → Bool) (tokens tokens2 : List Token) (onces : ℕ → ℕ) (p : ℕ)
    (a : (q : ℕ) → CountsAgree l live tokens (λ q. if lives q then onces q else (counts_of l q).destination) q) (alive : live p ≡ true) (stays : lives p ≡ true)
    (same : (kind : Kind) (q : ℕ) → (kind ≡ receive → p ≡ q → ⊥) → count (is_of kind q) tokens2 ≡ count (is_of kind q) tokens) (one : count (is_of receive p) tokens2 ≡ 1)
    (few : (counts_of l p).receive ≤ 1) where
  abbrev queued : ℕ → ℕ
  queued q = if lives q then onces q else (counts_of l q).destination

  abbrev now_queued : LedgerView → ℕ → ℕ
  now_queued l2 q = if lives q then onces q else (counts_of l2 q).destination

  -- it comes where it was taken, so the number of its receive rights is 1 then
  some : ((counts_of l p).receive == 0) ≡ false → (counts_of l p).receive ≡ 1
  some is = grind arith

  same_other : (q : ℕ) → (q ≡ p → ⊥) → queued q ≡ now_queued (made l p Receive 1) q
  same_other q not =
      let d : (counts_of l q).destination ≡ (counts_of (made l p Receive 1) q).destination =
      ap (λ (o : Option Counts). (unwrap_or o no_rights).destination) (sym (put_other l.counts p (Some (with_more Receive 1 (counts_of l p))) q not)) in
      λ i. if lives q then onces q else d i

  same_own : queued p ≡ now_queued (made l p Receive 1) p
  same_own = rw stays refl

  pub brought_counts : (q : ℕ) → CountsAgree (brought l p) live tokens2 (now_queued (brought l p)) q
  brought_counts = go ((counts_of l p).receive == 0) refl
    where
      go : (t_agrees : Bool) → ((counts_of l p).receive == 0) ≡ t_agrees → (q : ℕ) → CountsAgree (if t_agrees then made l p Receive 1 else l) live tokens2 (now_queued (if t_agrees then made l p Receive 1 else l)) q
      go true is = counts_agree l live tokens queued a (made l p Receive 1) live tokens2 (now_queued (made l p Receive 1)) p (with_more Receive 1 (counts_of l p)) refl (sym alive)
          (let x = eqb-true (counts_of l p).receive 0 is in omega (arith, x, one))
          ((a p).senders ∙ sym (same send p (λ k. absurd (cc))))
          ((a p).once_rights ∙ sym (same send_once p (λ k. absurd (cc))))
          ((a p).destinations alive ∙ same_own)
          (λ q not. (refl, same_other q not, λ c. sym (same c q (λ k e. not (sym e)))))
      go false is = counts_same l live tokens queued a tokens2 each_agrees
        where
          each_agrees : (c : Kind) (q : ℕ) → count (is_of c q) tokens2 ≡ count (is_of c q) tokens
          each_agrees send q = same send q (λ k. absurd (cc))
          each_agrees send_once q = same send_once q (λ k. absurd (cc))
          each_agrees receive q = elim (eqb_tells q p) [
            | inl h ↦ subst (λ (x : ℕ). count (is_of receive x) tokens2 ≡ count (is_of receive x) tokens) (sym h.1) (let x = some is in let y = (a p).receivers in omega (arith, x, y, one))
            | inr h ↦ same receive q (λ k e. h.1 (sym e))
          ]

  pub brought_total : l.total ≡ length tokens → length tokens2 + count (is_of receive p) tokens ≡ length tokens + 1 → (brought l p).total ≡ length tokens2
  brought_total total more = grind (arith, eqb-true, some)

pub brought_unused : (l : LedgerView) (p : ℕ) → (brought l p).unused ≡ l.unused
brought_unused l p = grind arith

-- ---- requests, where the one of a port to be sent away ends

module _ (v : RequestTablesView) (went : List NameRequest) (made_ports : ℕ) (stands : Request → Bool) (live : ℕ → Bool) (tokens tokens2 : List Token) (p n : ℕ)
    (a : RequestsAgree (notify_of v) went made_ports stands live tokens) (asked : map.get v.port_destroyed.map p ≡ Some n) (alive : live n ≡ true)
    (kept : (r : Request) (kind : Kind) (q : ℕ) → lying_among tokens2 kind q (in_request r) + (if is_of kind q (kept_right n p) && same_place (in_request r) (in_request (port_destroyed p)) then suc zero else zero) ≡
    lying_among tokens kind q (in_request r)) where
  abbrev pub unasked : RequestTablesView
  unasked = record v { port_destroyed = record v.port_destroyed { map = map.remove v.port_destroyed.map p } }

  standing : (r : Request) → request_at stands (port_destroyed p) false r ≡ is_some (notify_of unasked r)
  standing (no_senders q) = a.standing (no_senders q)
  standing (dead_name task name) = a.standing (dead_name task name)
  standing (port_destroyed q) = each_put v.port_destroyed.map p None (λ q o. (if q == p then false else stands (port_destroyed q)) ≡ is_some o)
      (ap (λ (b : Bool). if b then false else stands (port_destroyed p)) (eq-eqb p p refl))
      (λ q not. ap (λ (b : Bool). if b then false else stands (port_destroyed q)) (ne_eqb q p not) ∙ a.standing (port_destroyed q)) q

  given : (r : Request) (q : ℕ) → notify_of unasked r ≡ Some q → q < made_ports
  given (no_senders x) q is = a.given (no_senders x) q is
  given (dead_name task name) q is = a.given (dead_name task name) q is
  given (port_destroyed x) q is = each_put v.port_destroyed.map p None (λ x o. (q : ℕ) → o ≡ Some q → q < made_ports) (λ q is. absurd (let z : None ≡ Some q = is in cc)) (λ x not q is. a.given (port_destroyed x) q is) x q is

  off : (b c : Bool) → c ≡ false → (if b && c then suc zero else zero) ≡ zero
  off b c is = ap (λ (t_agrees : Bool). if b && t_agrees then suc zero else zero) is ∙ ap (λ (t_agrees : Bool). if t_agrees then suc zero else zero) (and_false b)

  on : (b c : Bool) → c ≡ true → (if b && c then suc zero else zero) ≡ (if b then suc zero else zero)
  on true c is = ap (λ (t_agrees : Bool). if t_agrees then suc zero else zero) is
  on false c is = refl

  -- the right that it kept
  own_right : (kind : Kind) (q : ℕ) → rights_kept live (Some n) kind q ≡ (if is_of kind q (kept_right n p) then suc zero else zero)
  own_right receive q = refl
  own_right send q = refl
  own_right send_once q = grind (arith, on)

  keeps : (r : Request) (kind : Kind) (q : ℕ) → lying_among tokens2 kind q (in_request r) ≡ rights_kept live (notify_of unasked r) kind q + rights_went live went r kind q
  keeps (no_senders x) kind q = grind (arith, off, kept_right)
  keeps (dead_name task name) kind q = grind (arith, off, kept_right)
  keeps (port_destroyed x) kind q = elim (eqb_tells x p) [
    | inl h ↦ subst (λ (x : ℕ). lying_among tokens2 kind q (in_request (port_destroyed x)) ≡ rights_kept live (notify_of unasked (port_destroyed x)) kind q + rights_went live went (port_destroyed x) kind q) (sym h.1) here
    | inr h ↦ there h.1
  ]
    where
      here : lying_among tokens2 kind q (in_request (port_destroyed p)) ≡ rights_kept live (notify_of unasked (port_destroyed p)) kind q + rights_went live went (port_destroyed p) kind q
      here =
          let c = kept (port_destroyed p) kind q in
          let d = a.kept (port_destroyed p) kind q in
          let f = on (is_of kind q (kept_right n p)) (p == p) (eq-eqb p p refl) in
          let g = own_right kind q in
          let h : rights_kept live (notify_of v (port_destroyed p)) kind q ≡ rights_kept live (Some n) kind q = ap (λ (o : Option ℕ). rights_kept live o kind q) asked in
          let k : rights_kept live (notify_of unasked (port_destroyed p)) kind q ≡ 0 = ap (λ (o : Option ℕ). rights_kept live o kind q) (put_own v.port_destroyed.map p None) in
          omega (arith, c, d, f, g, h, k)

      there : (x ≡ p → ⊥) → lying_among tokens2 kind q (in_request (port_destroyed x)) ≡ rights_kept live (notify_of unasked (port_destroyed x)) kind q + rights_went live went (port_destroyed x) kind q
      there not =
          let c = kept (port_destroyed x) kind q in
          let d = a.kept (port_destroyed x) kind q in
          let f = off (is_of kind q (kept_right n p)) (x == p) (ne_eqb x p not) in
          let h : rights_kept live (notify_of unasked (port_destroyed x)) kind q ≡ rights_kept live (notify_of v (port_destroyed x)) kind q = ap (λ (o : Option ℕ). rights_kept live o kind q) (put_other v.port_destroyed.map p None x not) in
          omega (arith, c, d, f, h)

  pub unasked_agree : RequestsAgree (notify_of unasked) went made_ports (request_at stands (port_destroyed p) false) live tokens2
  unasked_agree = grind (arith, standing, keeps, given, ended_more)

-- ---- all together, where the notice was posted already

module _ (lives : ℕ → Bool) (w : WorldView) (s_agrees : State) (a : AgreesOf lives w s_agrees) (p : ℕ) (x : PortView Kept) (there : port_at w p ≡ Some x) (h : Holder)
    (P : map.FinMap nat_cmp (PortView Kept)) (R : ReadyLists) (L D : List ℕ)
    (own_at : map.get P p ≡ Some (held (restarted x) h))
    (at_others : (q : ℕ) → q ≢ p → map.get P q ≡ port_at w q) (l : LedgerView) (v : RequestTablesView) (tokens : List Token) (stands : Request → Bool) where
  abbrev next : WorldView
  next = record w { ports = record w.ports { ports = P; ready = R; lost = L; doomed = D }; ledger = l; requests = v }

  abbrev t_agrees : State
  t_agrees = record s_agrees { ledger = tokens; stands = stands; sets_of = at s_agrees.sets_of p []; make_send = at s_agrees.make_send p 0; sequence = at s_agrees.sequence p 0 }

  -- what is true of this port and of each other is true of all
  each_agrees : (Q : ℕ → Option (PortView Kept) → Type 0) → Q p (Some (held (restarted x) h)) →
      ((q : ℕ) → q ≢ p → Q q (port_at w q)) → (q : ℕ) → Q q (map.get P q)
  each_agrees Q one others q = grind arith

  pub reset_agrees : ((task : ℕ) (kind : Kind) (q : ℕ) → count (is_held task kind q) tokens ≡ count (is_held task kind q) s_agrees.ledger) →
      ((q : ℕ) → CountsAgree l s_agrees.live_port tokens (λ q. if lives q then onces_queued s_agrees q else (counts_of l q).destination) q) → l.total ≡ length tokens →
      RequestsAgree (notify_of v) v.names.went w.ports.made stands lives (filter (λ x. lives x.port) tokens) → AgreesOf lives next t_agrees
  reset_agrees stay counts total of_requests = record {
    spaces = a.spaces;
    rights = record { references = λ task name e q is named. let r = a.rights.references task name e q is named in (stay task receive q ∙ r.0, stay task send q ∙ r.1) };
    live_port = each_agrees (λ q o. is_some o ≡ s_agrees.live_port q) (ap is_some (sym there) ∙ a.live_port p) (λ q not. a.live_port q);
    ports_made = a.ports_made;
    ports = λ q y is. each_agrees (λ q o. (y : PortView Kept) → o ≡ Some y → PortShown q y) (of_some _ (PortShown p) own_port) (λ q not y is. other_port q not y (a.ports q y is)) q y is;
    counts = counts;
    total = total;
    in_sets = a.in_sets;
    of_requests = of_requests;
  }
    where
      PortShown : ℕ → PortView Kept → Type 0
      PortShown q y = ShowsPort y t_agrees q

      own_port : PortShown p (held (restarted x) h)
      own_port = let b = a.ports p x there in record {
        waiting = b.waiting;
        limit = b.limit;
        make_send = sym (at_own s_agrees.make_send p 0);
        sequence = sym (at_own s_agrees.sequence p 0);
        sets = sym (at_own s_agrees.sets_of p []);
      }

      other_port : (q : ℕ) → q ≢ p → (y : PortView Kept) → ShowsPort y s_agrees q → PortShown q y
      other_port q not y b = record {
        waiting = b.waiting;
        limit = b.limit;
        make_send = b.make_send ∙ sym (at_other s_agrees.make_send p 0 q not);
        sequence = b.sequence ∙ sym (at_other s_agrees.sequence p 0 q not);
        sets = b.sets ∙ sym (at_other s_agrees.sets_of p [] q not);
      }

-- ---- a port was sent away

module _ (now : ℕ) (tables : WorldView) (old mid : State) (owed : Owed) (e : Ending) (w : WorldView) (b : Between now tables old mid owed e w)
    (p n : ℕ) (lost : IsHeldBy w.ports p holder.Nobody) (goes : GoesTo w p n) (paid : 0 < (counts_of w.ledger n).send_once) where
  abbrev s_agrees : State
  s_agrees = b.tied.state

  abbrev sent_state : State
  sent_state = sent now tables old mid owed e w b p n lost goes

  abbrev u_agrees : PortView Kept
  u_agrees = goes.with_task.1.view

  apart_agrees : p ≡ n → ⊥
  apart_agrees = differs now tables old mid owed e w b p n lost goes

  within : s_agrees.taken n ≤ length (s_agrees.log n)
  within = grind (arith, none_taken, target_lives, length-append)

  own_lives : lives_after mid e p ≡ true
  own_lives = grind (arith, there_mid, false_or, unjudged)

  abbrev entry : Entry
  entry = record { origin = now; message = notice_message n (port_sent p) }

  -- the tables and the state with the notice alone
  abbrev w1 : WorldView
  w1 = record w { ports = with_message w.ports n u_agrees (notice_kept (PortDestroyed p)); ledger = shifted w.ledger n }

  abbrev s1 : State
  s1 = record s_agrees { log = at s_agrees.log n (s_agrees.log n ++ entry ∷ []) }

  noticed : AgreesOf (lives_after mid e) w1 s1
  noticed = posted_agrees (lives_after mid e) w s_agrees b.tied.agrees n u_agrees goes.with_task.1.there (PortDestroyed p) now within (target_lives now tables old mid owed e w b p n lost goes) paid

  few : (counts_of (shifted w.ledger n) p).receive ≤ 1
  few =
      let a : (counts_of (shifted w.ledger n) p).receive ≡ (counts_of w.ledger p).receive = ap (λ (o : Option Counts). (unwrap_or o no_rights).receive) (put_other w.ledger.counts n (Some (one_shifted (counts_of w.ledger n))) p apart_agrees) in
      let c = b.receivers p in
      omega (arith, a, c)

  module _ (P : map.FinMap nat_cmp (PortView Kept)) (R : ReadyLists) (L D : List ℕ) (at_own : map.get P p ≡ Some (own now tables old mid owed e w b p n lost goes)) (at_told : map.get P n ≡ Some (told now tables old mid owed e w b p n lost goes))
      (at_others : (q : ℕ) → q ≢ p → q ≢ n → map.get P q ≡ port_at w q) where
    not_own_agrees : (q : ℕ) → q ≢ p → map.get P q ≡ port_at w1 q
    not_own_agrees q not = elim (eqb_tells q n) [
      | inl h ↦ subst (λ (x : ℕ). map.get P x ≡ port_at w1 x) (sym h.1) (at_told ∙ sym (put_own w.ports.ports n (Some (told now tables old mid owed e w b p n lost goes))))
      | inr h ↦ at_others q not h.1 ∙ sym (put_other w.ports.ports n (Some (told now tables old mid owed e w b p n lost goes)) q h.1)
    ]

    pub sent_agrees : AgreesOf (lives_after mid e) (after now tables old mid owed e w b p n lost goes P R L D at_own at_told at_others) sent_state
    sent_agrees = reset_agrees (lives_after mid e) w1 s1 noticed p lost.view (put_other w.ports.ports n (Some (told now tables old mid owed e w b p n lost goes)) p apart_agrees ∙ lost.there) (holder.QueueOf n) P R L D at_own not_own_agrees
        (brought (shifted w.ledger n) p) (unasked w.requests w.requests.names.went w.ports.made s_agrees.stands (lives_after mid e) (filter (λ x. lives_after mid e x.port) s_agrees.ledger) (filter (λ x. lives_after mid e x.port) sent_state.ledger) p n
        b.tied.agrees.of_requests goes.asked (target_lives now tables old mid owed e w b p n lost goes) (sent_kept now tables old mid owed e w b p n lost goes))
        sent_state.ledger sent_state.stands
        (sent_held now tables old mid owed e w b p n lost goes)
        (brought_counts (shifted w.ledger n) s_agrees.live_port (lives_after mid e) s_agrees.ledger sent_state.ledger (onces_queued s1) p noticed.counts (there_live now tables old mid owed e w b p lost.view lost.there) own_lives
        (sent_counts now tables old mid owed e w b p n lost goes) (sent_own now tables old mid owed e w b p n lost goes) few)
        (brought_total (shifted w.ledger n) s_agrees.live_port (lives_after mid e) s_agrees.ledger sent_state.ledger (onces_queued s1) p noticed.counts (there_live now tables old mid owed e w b p lost.view lost.there) own_lives
        (sent_counts now tables old mid owed e w b p n lost goes) (sent_own now tables old mid owed e w b p n lost goes) few b.tied.agrees.total (sent_total now tables old mid owed e w b p n lost goes))
        (unasked_agree w.requests w.requests.names.went w.ports.made s_agrees.stands (lives_after mid e) (filter (λ x. lives_after mid e x.port) s_agrees.ledger) (filter (λ x. lives_after mid e x.port) sent_state.ledger) p n
        b.tied.agrees.of_requests goes.asked (target_lives now tables old mid owed e w b p n lost goes) (sent_kept now tables old mid owed e w b p n lost goes))

    pub sent_slots : SlotsSuffice (after now tables old mid owed e w b p n lost goes P R L D at_own at_told at_others)
    sent_slots = let a = brought_unused (shifted w.ledger n) p in let c = b.tied.slots in omega (arith, a, c)
