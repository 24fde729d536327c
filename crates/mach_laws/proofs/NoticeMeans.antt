-- Each notice that a step posts means what happened in the step.
use Rattle.std.proofs.Common.{◌≡◌, ℕ, zero, suc, ◌+◌, ◌≤◌, ◌<◌, List, [], ◌∷◌, ◌++◌, refl, sym, ap, subst, ◌∙◌, arith, true, false, Bool, inl, inr, length, get_or, Option, Some, None}
use Rattle.std.specs.Prelude.{◌⊎◌, ◌&&◌, if◌then◌else◌, filter, All, Contains, option_map}
use Rattle.std.proofs.lemmas.Bool.{and_from, eq-eqb}
use Rattle.std.proofs.lemmas.List.Elements.{All-head, All-tail, All-cons, All-append, All-map}
use Rattle.mach_types.specs.declared.calls.Event.{Event}
use Rattle.mach_types.specs.declared.calls.Reply.{Reply}
use Rattle.mach_types.specs.Tokens.{Kind, receive, send, send_once, Request, no_senders, port_destroyed, dead_name, Place, in_task, in_message, in_request, Token, token, count, is_of}
use Rattle.mach_model.specs.State.{State, Target, lookup, held, senders}
use Rattle.mach_model.specs.Death.{IsOrphan, IsSentAway, Dies, LiesAt, same_place}
use Rattle.mach_model.specs.Notices.{Notice, port_deleted, port_sent, no_more_senders, right_unused, name_died, Owed, carried_by, Posted, posted_tokens, all_posted_tokens}
use Rattle.mach_model.specs.Settles.{PlaceStays, told_by, TellsAt, PaysFor, Ends, dead_references, BecameDead, tokens_of, settled_target}
use Rattle.mach_model.specs.Turns.{IsNameOf}
use Rattle.mach_model.specs.Machine.{Done}
use Rattle.mach_model.specs.Lawful.{is_once, IsLawful, IsRight}
use Rattle.mach_model.specs.Midway.{MidLawful}
use Rattle.mach_model.specs.Carried.{lying}
use Rattle.mach_model.proofs.Names.{weigh-append, count_none, count_some, some_tally, held_le_of, left_of, right_of}
use Rattle.mach_model.proofs.Settling.{is_at, own_test, place_refl, place_stays, Dies-least}
use Rattle.mach_model.proofs.SettledReceives.{of_kind, parts, made_of, all_mapped}
use Rattle.mach_model.proofs.StepLawful.{Does-mid}
use Rattle.mach_laws.specs.Counts.{is_lost_at, is_lost}
use Rattle.mach_laws.specs.Meaning.{WasAsked, DiesIn, NameWent, LostSenders, HasNoSendersYet, WasLost, WentUnused, NameDied, IsDeadAlready, Means}
use Rattle.mach_laws.proofs.Counted.{senders_kept}
use Rattle.mach_laws.proofs.Shrinking.{Shrinks, shrinks_or_none}
use Rattle.mach_laws.proofs.OwedMeans.{OwedMeans, AllMean, owed_mean}
use Rattle.mach_laws.proofs.Kept.{IsNew, kept_before}

-- what the notice means but for the entry at which it stands
abbrev pub MeansThere : (old : State) → Event → (mid new : State) → (notify : ℕ) → Notice → Type 0
MeansThere old event mid new notify (port_deleted name) = NameWent old mid new notify name
MeansThere old event mid new notify (port_sent port) = WasAsked old new notify (port_destroyed port) × (new.live_port port ≡ true) × IsSentAway mid port
MeansThere old event mid new notify (no_more_senders n) = LostSenders old new notify n ⊎ HasNoSendersYet old event notify n
MeansThere old event mid new notify right_unused = WentUnused old event new notify
MeansThere old event mid new notify (name_died name) = NameDied old new notify name ⊎ IsDeadAlready old event notify name

module _ (now : ℕ) (old : State) (event : Event) (reply : Reply) (new : State) (l : IsLawful old) (d : Done now old event reply new) where
  abbrev mid : State
  mid = d.mid

  m : MidLawful mid d.owed
  m = Does-mid now old event reply mid d.owed d.unrefused d.does d.judged l

  none_dies : ((p : ℕ) → ¬ (IsOrphan mid p)) → (p : ℕ) → ¬ (Dies mid p)
  none_dies none p dies = Dies-least mid (λ q. ⊥) (record { orphans = λ q is not. none q is; carried = λ q r bad at not. bad }) p dies

  none_sent : ((p : ℕ) → ¬ (IsOrphan mid p)) → (p : ℕ) → ¬ (IsSentAway mid p)
  none_sent none p (saved, inl is) = none p is
  none_sent none p (saved, inr dies) = none_dies none dies.0 dies.1

  -- a port that lives midway and not after the step dies
  stays : ((p : ℕ) → ¬ (IsOrphan mid p)) → (p : ℕ) → mid.live_port p ≡ true → new.live_port p ≡ false → ⊥
  stays none p live dead = none_dies none p (d.settles.deaths.only p live dead)

  -- ---- a right that pays, and lies at this place

  module _ (notify : ℕ) where
    abbrev LiesMid : Place → Type 0
    LiesMid place = 0 < lying mid send_once notify place

    more : (a b : ℕ) → b ≤ a → 0 < b → 0 < a
    more a b le some = omega (arith, le, some)

    lay : Shrinks old mid → (place : Place) → LiesMid place → 0 < lying old send_once notify place
    lay s place some = more _ _ (s.fewer (is_at send_once notify place)) some

    queue_lives : (q k : ℕ) → LiesMid (in_message q k) → mid.live_port q ≡ true
    queue_lives q k some = go (mid.live_port q) refl
      where
        go : (b : Bool) → mid.live_port q ≡ b → mid.live_port q ≡ true
        go true e = e
        go false e = absurd (let z = m.gone q k (inr e) send_once notify in omega (arith, z, some))

    in_queue : (q k : ℕ) → LiesMid (in_message q k) → new.live_port q ≡ false → WentUnused old event new notify
    in_queue q k some dead = by (shrinks_or_none now old mid d.owed l event reply d.unrefused d.does)
      where
        by : Shrinks old mid ⊎ ((p : ℕ) → ¬ (IsOrphan mid p)) → WentUnused old event new notify
        by (inr none) = absurd (stays none q (queue_lives q k some) dead)
        by (inl s) = let at = lay s (in_message q k) some in record { place = in_message q k; lay = at; lost = inl (place_stays old l send_once notify (in_message q k) at, dead) }

    -- a request that kept its right before, too
    was_asked : (r : Request) → 0 < lying old send_once notify (in_request r) → new.stands r ≡ false → WasAsked old new notify r
    was_asked r at ended = record { stood = place_stays old l send_once notify (in_request r) at; kept = at; ended = ended }

    stood_mid : (r : Request) → LiesMid (in_request r) → ((b : Bool) → mid.stands r ≡ b → b ≡ false → ⊥) → mid.stands r ≡ true
    stood_mid r some not = go (mid.stands r) refl
      where
        go : (b : Bool) → mid.stands r ≡ b → mid.stands r ≡ true
        go true e = e
        go false e = absurd (not false e refl)

    senders_stood : (p : ℕ) → LiesMid (in_request (no_senders p)) → mid.stands (no_senders p) ≡ true
    senders_stood p some = stood_mid (no_senders p) some (λ b e f. let z = m.standing.ended (no_senders p) (e ∙ f) (λ h. h) send_once notify in omega (arith, z, some))

    sent_stood : (p : ℕ) → LiesMid (in_request (port_destroyed p)) → mid.stands (port_destroyed p) ≡ true
    sent_stood p some = stood_mid (port_destroyed p) some (λ b e f. let z = m.standing.ended (port_destroyed p) (e ∙ f) (λ h. h) send_once notify in omega (arith, z, some))

    -- the port of a request died
    port_dies : (r : Request) (p : ℕ) → LiesMid (in_request r) → mid.live_port p ≡ true → new.live_port p ≡ false → (DiesIn old new p → WasLost old event new (in_request r)) →
        WentUnused old event new notify
    port_dies r p some live dead lost = by (shrinks_or_none now old mid d.owed l event reply d.unrefused d.does)
      where
        by : Shrinks old mid ⊎ ((p : ℕ) → ¬ (IsOrphan mid p)) → WentUnused old event new notify
        by (inr none) = absurd (stays none p live dead)
        by (inl s) = record { place = in_request r; lay = lay s (in_request r) some; lost = lost (ap (λ (f : ℕ → Bool). f p) (sym s.live) ∙ live, dead) }

    -- ---- no senders

    -- where no port dies a step's end takes no send right away
    pub same_senders : ((p : ℕ) → ¬ (IsOrphan mid p)) → (p : ℕ) → new.live_port p ≡ true → senders new p ≡ senders mid p
    same_senders none p live =
        let e = senders_kept now old mid d.owed new m d.settles p live in
        let z = none_lost in omega (arith, e, z)
      where
        none_lost : count (λ x. is_of send p x && is_lost new x) mid.ledger ≡ 0
        none_lost = count_none (λ x. is_of send p x && is_lost new x) mid.ledger (λ k t below e. (
            let x : Token = get_or mid.ledger k t in
            let is : is_of send p x ≡ true = left_of (is_of send p x) (is_lost new x) e in
            not_lost k t below is x.place refl (subst (λ (q : ℕ). is_lost_at new q x.place ≡ true) (of_kind send p x is).1 (right_of (is_of send p x) (is_lost new x) e))))
          where
            not_lost : (k : ℕ) (t : Token) → k < length mid.ledger → is_of send p (get_or mid.ledger k t) ≡ true → (place : Place) → (get_or mid.ledger k t).place ≡ place →
                is_lost_at new p (get_or mid.ledger k t).place ≡ true → ⊥
            not_lost k t below is (in_task task) at lost = let e : false ≡ true = ap (is_lost_at new p) (sym at) ∙ lost in cc
            not_lost k t below is (in_request r) at lost = let e : false ≡ true = ap (is_lost_at new p) (sym at) ∙ lost in cc
            not_lost k t below is (in_message q j) at lost =
                let some = count_some (is_at send p (in_message q j)) mid.ledger k t below (and_from (is_of send p (get_or mid.ledger k t)) (same_place (in_message q j) (get_or mid.ledger k t).place) is (ap (same_place (in_message q j)) at ∙ place_refl (in_message q j))) in
                stays none q (go (mid.live_port q) refl some) (gone (new.live_port q) refl (ap (is_lost_at new p) (sym at) ∙ lost))
              where
                go : (b : Bool) → mid.live_port q ≡ b → 0 < lying mid send p (in_message q j) → mid.live_port q ≡ true
                go true e some = e
                go false e some = absurd (let z = m.gone q j (inr e) send p in omega (arith, z, some))

                gone : (b : Bool) → new.live_port q ≡ b → is_lost_at new p (in_message q j) ≡ true → new.live_port q ≡ false
                gone false e h = e
                gone true e h = absurd (let f : false ≡ true = sym (rw (e, live) refl) ∙ h in cc)

    senders_gone : (p : ℕ) → LiesMid (in_request (no_senders p)) → new.stands (no_senders p) ≡ false → new.live_port p ≡ true → LostSenders old new notify (new.make_send p)
    senders_gone p some ended live = by (d.settles.requests.only (no_senders p) (senders_stood p some) ended) (kept_before now old mid d.owed l notify (no_senders p) event reply d.unrefused d.does some)
      where
        by : Ends old mid new (no_senders p) → (0 < lying old send_once notify (in_request (no_senders p))) ⊎ IsNew old mid (no_senders p) → LostSenders old new notify (new.make_send p)
        by (inl dead) k = absurd (cc)
        by (inr h) (inl at) = record { port = p; asked = was_asked (no_senders p) at ended; lives = live; had = h.0; has_none = h.1; counted = refl }
        by (inr h) (inr made) = absurd (let a = same_senders made.none p live in let b = made.senders p in let had = h.0 in let has = h.1 in omega (arith, a, b, had, has))

    -- ---- port destroyed

    sent_away : (p : ℕ) → LiesMid (in_request (port_destroyed p)) → new.stands (port_destroyed p) ≡ false → new.live_port p ≡ true →
        WasAsked old new notify (port_destroyed p) × (new.live_port p ≡ true) × IsSentAway mid p
    sent_away p some ended live = by (d.settles.requests.only (port_destroyed p) (sent_stood p some) ended) (shrinks_or_none now old mid d.owed l event reply d.unrefused d.does)
      where
        by : Ends old mid new (port_destroyed p) → Shrinks old mid ⊎ ((p : ℕ) → ¬ (IsOrphan mid p)) → WasAsked old new notify (port_destroyed p) × (new.live_port p ≡ true) × IsSentAway mid p
        by (inl dead) h = absurd (cc)
        by (inr away) (inr none) = absurd (none_sent none p away)
        by (inr away) (inl s) = (was_asked (port_destroyed p) (lay s (in_request (port_destroyed p)) some) ended, live, away)

    -- ---- names

    name_went : (task name : ℕ) → LiesMid (in_request (dead_name task name)) → mid.stands (dead_name task name) ≡ false → NameWent old mid new notify name
    name_went task name some went = by (kept_before now old mid d.owed l notify (dead_name task name) event reply d.unrefused d.does some)
      where
        by : (0 < lying old send_once notify (in_request (dead_name task name))) ⊎ IsNew old mid (dead_name task name) → NameWent old mid new notify name
        by (inl at) = record { task = task; asked = was_asked (dead_name task name) at (d.settles.requests.unmade (dead_name task name) went); went = went }
        by (inr made) = absurd (let e = made.stands in cc)

    name_dead : (task name p : ℕ) (x : Target) → LiesMid (in_request (dead_name task name)) → new.stands (dead_name task name) ≡ false → lookup mid task name ≡ Some x → IsRight (Some x) → IsNameOf p (Some x) →
        mid.live_port p ≡ true → new.live_port p ≡ false → (references : ℕ) → settled_target mid new task name x ≡ Target.dead references → NameDied old new notify name
    name_dead task name p x some ended is right of live dead references settles = by (shrinks_or_none now old mid d.owed l event reply d.unrefused d.does)
      where
        by : Shrinks old mid ⊎ ((p : ℕ) → ¬ (IsOrphan mid p)) → NameDied old new notify name
        by (inr none) = absurd (stays none p live dead)
        by (inl s) = record {
          task = task;
          asked = was_asked (dead_name task name) (lay s (in_request (dead_name task name)) some) ended;
          port = p;
          named = subst (IsNameOf p) (sym (s.named task name x right is)) of;
          dies = (ap (λ (f : ℕ → Bool). f p) (sym s.live) ∙ live, dead);
          references = references;
          is_dead = d.settles.names task name ∙ ap (option_map (settled_target mid new task name)) is ∙ ap Some settles;
        }

    named_mid : (task name p : ℕ) → lookup mid task name ≡ Some (Target.port p) → mid.live_port p ≡ true
    named_mid task name p is = by ((m.naming task).has_right name p is) (held_le_of task receive p mid.ledger) (held_le_of task send p mid.ledger)
      where
        by : 0 < held mid task receive p + held mid task send p → held mid task receive p ≤ count (is_of receive p) mid.ledger → held mid task send p ≤ count (is_of send p) mid.ledger → mid.live_port p ≡ true
        by some a b = go (mid.live_port p) refl
          where
            go : (b : Bool) → mid.live_port p ≡ b → mid.live_port p ≡ true
            go true e = e
            go false e = absurd (let y = m.no_rights p e receive in let z = m.no_rights p e send in omega (arith, some, a, b, y, z))

    once_mid : (task name p : ℕ) → lookup mid task name ≡ Some (Target.once p) → mid.live_port p ≡ true
    once_mid task name p is = go (mid.live_port p) refl
      where
        go : (b : Bool) → mid.live_port p ≡ b → mid.live_port p ≡ true
        go true e = e
        go false e = absurd (
            let a = some_tally (is_once p) (mid.naming task) name (Target.once p) is (eq-eqb p p refl) in
            let c = (m.naming task).once_names p in
            let h = held_le_of task send_once p mid.ledger in
            let z = m.no_rights p e send_once in omega (arith, a, c, h, z))

    name_died_of : (task name : ℕ) → LiesMid (in_request (dead_name task name)) → new.stands (dead_name task name) ≡ false → (o : Option Target) → lookup mid task name ≡ o → BecameDead mid new o →
        NameDied old new notify name
    name_died_of task name some ended (Some (Target.port p)) is dead =
        name_dead task name p (Target.port p) some ended is tt refl (named_mid task name p is) dead (dead_references (mid.stands (dead_name task name)) (held mid task send p)) (rw dead refl)
    name_died_of task name some ended (Some (Target.once p)) is dead =
        name_dead task name p (Target.once p) some ended is tt refl (once_mid task name p is) dead (dead_references (mid.stands (dead_name task name)) 1) (rw dead refl)
    name_died_of task name some ended (Some (Target.dead n)) is dead = absurd dead
    name_died_of task name some ended (Some (Target.set n)) is dead = absurd dead
    name_died_of task name some ended None is dead = absurd dead

    -- ---- by what it tells

    abbrev There : Notice → Type 0
    There notice = MeansThere old event mid new notify notice

    not_true : (b : Bool) → ¬ (b ≡ true) → b ≡ false
    not_true false h = refl
    not_true true h = absurd (h refl)

    at_request : (r : Request) → LiesMid (in_request r) → new.stands r ≡ false → There (told_by mid new r)
    at_request (no_senders p) some ended = by (new.live_port p) refl
      where
        by : (b : Bool) → new.live_port p ≡ b → There (if b then no_more_senders (new.make_send p) else right_unused)
        by true live = inl (senders_gone p some ended live)
        by false dead = port_dies (no_senders p) p some (m.stands_on (no_senders p) (senders_stood p some)) dead (λ h. h)
    at_request (port_destroyed p) some ended = by (new.live_port p) refl
      where
        by : (b : Bool) → new.live_port p ≡ b → There (if b then port_sent p else right_unused)
        by true live = sent_away p some ended live
        by false dead = port_dies (port_destroyed p) p some (m.stands_on (port_destroyed p) (sent_stood p some)) dead (λ h. h)
    at_request (dead_name task name) some ended = by (mid.stands (dead_name task name)) refl
      where
        by : (b : Bool) → mid.stands (dead_name task name) ≡ b → There (if b then name_died name else port_deleted name)
        by true stands = inl (name_died_of task name some ended (lookup mid task name) refl (d.settles.requests.only (dead_name task name) stands ended))
        by false went = name_went task name some went

    tells : (place : Place) (notice : Notice) → LiesMid place → ¬ (PlaceStays new place) → TellsAt mid new place notice → There notice
    tells (in_task task) notice some gone h = absurd h
    tells (in_message q k) notice some gone h = subst There (sym h) (in_queue q k some (not_true (new.live_port q) gone))
    tells (in_request r) notice some gone h = subst There (sym h) (at_request r some (not_true (new.stands r) gone))

  -- ---- those that are paid for

  paid_some : (test : Token → Bool) (xs : Owed) (k : ℕ) (t : Token × Notice) → k < length xs → test (get_or xs k t).0 ≡ true → 0 < count test (tokens_of xs)
  paid_some test [] k t below e = absurd (omega (arith, below))
  paid_some test (x ∷ xs) zero t below e = rw e (omega arith)
  paid_some test (x ∷ xs) (suc k) t below e = let h = paid_some test xs k t (omega (arith, below)) e in omega (arith, h)

  abbrev pub IsMeant : Token × Notice → Type 0
  IsMeant y = (new.live_port y.0.port ≡ true) × MeansThere old event mid new y.0.port y.1

  paid : All IsMeant d.settles.rights.paying
  paid k t below =
      let y : Token × Notice = get_or d.settles.rights.paying k t in
      let pays : PaysFor mid new y.0 y.1 = d.settles.rights.pay k t below in
      let some = paid_some (is_at y.0.kind y.0.port y.0.place) d.settles.rights.paying k t below (own_test y.0) in
      let all = parts now old mid d.owed new d.settles (is_at y.0.kind y.0.port y.0.place) in
      let lies : 0 < lying mid y.0.kind y.0.port y.0.place = omega (arith, some, all) in
      (pays.1, tells y.0.port y.0.place y.1 (subst (λ (kind : Kind). 0 < lying mid kind y.0.port y.0.place) pays.0 lies) pays.2 pays.3)

  -- ---- those that are owed

  owed_there : (notify : ℕ) (notice : Notice) → OwedMeans old event new notify notice → MeansThere old event mid new notify notice
  owed_there notify notice (inl (e, h)) = subst (MeansThere old event mid new notify) (sym e) h
  owed_there notify notice (inr (inl (n, e, h))) = subst (MeansThere old event mid new notify) (sym e) (inr h)
  owed_there notify notice (inr (inr (name, e, h))) = subst (MeansThere old event mid new notify) (sym e) (inr h)

  lives_owed : (xs : Owed) → AllMean old event new xs → All IsMeant (filter (λ x. new.live_port x.0.port) xs)
  lives_owed [] all = λ k t below. absurd (omega (arith, below))
  lives_owed (x ∷ xs) all = by (new.live_port x.0.port) refl (lives_owed xs (All-tail (λ (y : Token × Notice). OwedMeans old event new y.0.port y.1) x xs all))
    where
      by : (b : Bool) → new.live_port x.0.port ≡ b → All IsMeant (filter (λ x. new.live_port x.0.port) xs) →
          All IsMeant (if b then x ∷ filter (λ x. new.live_port x.0.port) xs else filter (λ x. new.live_port x.0.port) xs)
      by true live rest = All-cons IsMeant x (filter (λ x. new.live_port x.0.port) xs)
          (live, owed_there x.0.port x.1 (All-head (λ (y : Token × Notice). OwedMeans old event new y.0.port y.1) x xs all)) rest
      by false gone rest = rest

  -- ---- those that are posted

  abbrev IsMeantAt : ℕ × Notice → Type 0
  IsMeantAt y = (new.live_port y.0 ≡ true) × MeansThere old event mid new y.0 y.1

  posted_mean : All (λ (x : Posted). IsMeantAt (x.port, x.notice)) d.settles.notices.posted
  posted_mean = all_mapped IsMeantAt (λ (x : Posted). (x.port, x.notice)) d.settles.notices.posted
      (subst (All IsMeantAt) (sym d.settles.notices.due)
      (All-map IsMeantAt (λ (x : Token × Notice). (x.0.port, x.1)) (d.settles.rights.paying ++ filter (λ x. new.live_port x.0.port) d.owed)
      (All-append IsMeant d.settles.rights.paying (filter (λ x. new.live_port x.0.port) d.owed) paid
      (lives_owed d.owed (owed_mean now old event reply mid d.owed new (ap (λ (s : State). s.taken) d.settles.rest) d.unrefused d.does)))))

  -- the receive right of a port that is sent away is in the notice
  brought : (p : ℕ) (xs : List Posted) (k : ℕ) (t : Posted) → k < length xs → (get_or xs k t).notice ≡ port_sent p →
      0 < count (is_at receive p (in_message (get_or xs k t).port (get_or xs k t).entry)) (all_posted_tokens xs)
  brought p [] k t below e = absurd (omega (arith, below))
  brought p (x ∷ xs) zero t below e =
      let test : Token → Bool = is_at receive p (in_message x.port x.entry) in
      let a = weigh-append (λ y. if test y then 1 else 0) (posted_tokens x) (all_posted_tokens xs) in
      let b : 0 < count test (posted_tokens x) = subst (λ (n : Notice). 0 < count test (token send_once x.port (in_message x.port x.entry) ∷ carried_by n (in_message x.port x.entry))) (sym e)
      (let f : (if test (token receive p (in_message x.port x.entry)) then suc zero else zero) ≡ suc zero = rw (own_test (token receive p (in_message x.port x.entry))) refl in omega (arith, f)) in
      omega (arith, a, b)
  brought p (x ∷ xs) (suc k) t below e =
      let y : Posted = get_or xs k t in
      let test : Token → Bool = is_at receive p (in_message y.port y.entry) in
      let a = weigh-append (λ y. if test y then 1 else 0) (posted_tokens x) (all_posted_tokens xs) in
      let b = brought p xs k t (omega (arith, below)) e in
      omega (arith, a, b)

  at_entry : (x : Posted) → Contains d.settles.notices.posted x → (notice : Notice) → x.notice ≡ notice → MeansThere old event mid new x.port notice → Means old event mid new x.port x.entry notice
  at_entry x c (port_deleted name) e h = h
  at_entry x c (port_sent p) e h = record { asked = h.0; lives = h.1; away = h.2; carried = lies }
    where
      lies : LiesAt new receive p (in_message x.port x.entry)
      lies =
          let there = subst (λ (y : Posted). 0 < count (is_at receive p (in_message y.port y.entry)) (all_posted_tokens d.settles.notices.posted)) c.2
          (brought p d.settles.notices.posted c.0 x c.1 (ap (λ (y : Posted). y.notice) c.2 ∙ e)) in
          let made = made_of now old mid d.owed new d.settles (is_at receive p (in_message x.port x.entry)) in
          omega (arith, there, made)
  at_entry x c (no_more_senders n) e h = h
  at_entry x c right_unused e h = h
  at_entry x c (name_died name) e h = h

  -- Each notice that is posted.
  pub notice_is_meant : (x : Posted) → Contains d.settles.notices.posted x → (new.live_port x.port ≡ true) × Means old event mid new x.port x.entry x.notice
  notice_is_meant x c =
      let h = subst (λ (y : Posted). IsMeantAt (y.port, y.notice)) c.2 (posted_mean c.0 x c.1) in
      (h.0, at_entry x c x.notice refl h.1)
