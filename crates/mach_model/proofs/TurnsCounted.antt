-- Each turn keeps what is true between turns, and a chain has no more turns than there was to do.
use Rattle.std.proofs.Common.{◌≡◌, ℕ, ◌+◌, ◌≤◌, List, [], ◌∷◌, ◌++◌, Option, Some, None, refl, sym, ap, subst, ◌∙◌, arith, true, false, Bool, ◌⊎◌, inl, inr, suc, zero, ◌<◌, length}
use Rattle.std.specs.Prelude.{if◌then◌else◌, All, ◌==◌, not, ◌≢◌, Contains, ◌&&◌, ◌||◌}
use Rattle.std.proofs.lemmas.List.{append-nil, length-append}
use Rattle.std.proofs.lemmas.List.Elements.{All-cons, All-append}
use Rattle.std.proofs.lemmas.Bool.{eq-eqb, eqb-true, false_from_ne_true}
use Rattle.mach_types.specs.Tokens.{receive, send, send_once, Request, no_senders, port_destroyed, dead_name, Place, in_task, in_message, in_request, Token, token, weigh, is_of, count}
use Rattle.mach_model.specs.State.{State, Target, lookup}
use Rattle.mach_model.specs.Death.{Dies, IsSentAway}
use Rattle.mach_model.specs.Notices.{Notice, port_sent, no_more_senders, right_unused, Owed}
use Rattle.mach_model.specs.Settles.{tokens_of}
use Rattle.mach_model.specs.Turns.{owed_in, went_in, Ending, listed, AreJudged, IsAtDoomed, IsNameOf, IsRequestOf, death_notice, SpendsRights, PaidForName, Begins, Dooms, Saves, DestroysDoomed, Loses, PaysAtEnd, EndsRequest, Buries, TellsSenderless, Turn, IsReached, begins, turns, Begun, IsWaiting}
use Rattle.mach_model.specs.Midway.{MidLawful}
use Rattle.mach_model.proofs.Names.{left_of, right_of, weigh-append, lying_le_of}
use Rattle.mach_model.proofs.Settling.{lives}
use Rattle.mach_model.proofs.SettledReceives.{or_cases, or_right, or_left, dead_cases}
use Rattle.mach_model.proofs.TurnsSettle.{dies_after, DiesUnder, IsToldOf, IsPaidAt, HasPaid, DiesAround, HasGone, WasTold, IsSound, found_is, found_dies, all_saved, survives, tokens_joined_settle as tokens_joined, weaker}
use Rattle.mach_model.specs.Lawful.{tally}

-- ---- Each turn keeps what is true between turns.

-- ---- lists of ports

pub listed_cases : (port : ℕ) (ps : List ℕ) (p : ℕ) → listed (port ∷ ps) p ≡ true → (p ≡ port) ⊎ (listed ps p ≡ true)
listed_cases port ps p h = grind (arith, or_cases, eqb-true)

pub listed_first : (port : ℕ) (ps : List ℕ) → listed (port ∷ ps) port ≡ true
listed_first port ps = or_left (port == port) (listed ps port) (eq-eqb port port refl)

pub listed_later : (port : ℕ) (ps : List ℕ) (p : ℕ) → listed ps p ≡ true → listed (port ∷ ps) p ≡ true
listed_later port ps p h = or_right (p == port) (listed ps p) h

-- what is so of each port of a list with one more
pub one_more : (P : ℕ → Type 0) (port : ℕ) (ps qs : List ℕ) → qs ≡ port ∷ ps → P port → ((p : ℕ) → listed ps p ≡ true → P p) → (p : ℕ) → listed qs p ≡ true → P p
one_more P port ps qs is own others p h = grind (arith, listed_cases)

none_all : {A : Type 0} (P : A → Type 0) → All P []
none_all P = λ k d below. absurd (omega arith)

pub one_all : {A : Type 0} (P : A → Type 0) (x : A) → P x → All P (x ∷ [])
one_all P x h = All-cons P x [] h (none_all P)

-- a turn that takes no right
pub takes_none : (e f : Ending) → f.left ≡ e.left → f.paid ≡ e.paid → f.gone ≡ e.gone → SpendsRights e f [] []
takes_none e f left paid gone = grind (arith, append-nil)

pub takes_less : (e f : Ending) (paying : Owed) (going : List Token) → SpendsRights e f paying going → (h : Token → ℕ) → weigh h f.left ≤ weigh h e.left
takes_less e f paying going t h = let a = t.left h in omega (arith, a)

module _ (old mid : State) (owed : Owed) where
  -- ---- what a place tells

  pub around : (e : Ending) → IsSound old mid owed e → (place : Place) → IsAtDoomed e place → DiesAround mid place
  around e s (in_task task) h = h
  around e s (in_message q k) h = s.doomed q h
  around e s (in_request r) h = h

  paid_around : (told : List ℕ) (place : Place) → DiesAround mid place → IsPaidAt mid told place right_unused
  paid_around told (in_task task) h = h
  paid_around told (in_message q k) h = (h, refl)
  paid_around told (in_request r) h = absurd h

  under : (p : ℕ) → Dies mid p → (o : Option Target) → IsNameOf p o → DiesUnder mid o
  under p d None is = is
  under p d (Some (Target.port q)) is = subst (Dies mid) (sym is) d
  under p d (Some (Target.once q)) is = subst (Dies mid) (sym is) d
  under p d (Some (Target.dead n)) is = is
  under p d (Some (Target.set n)) is = is

  paid_dead : (told : List ℕ) (p : ℕ) → Dies mid p → (r : Request) → mid.stands r ≡ true → IsRequestOf mid p r → IsPaidAt mid told (in_request r) (death_notice r)
  paid_dead told p d (no_senders q) stands is = inl (subst (Dies mid) (sym is) d, refl)
  paid_dead told p d (port_destroyed q) stands is = inl (subst (Dies mid) (sym is) d, refl)
  paid_dead told p d (dead_name task name) stands is = (under p d (lookup mid task name) is, stands, refl)

  -- ---- more was told

  more_at : (told told' : List ℕ) → ((p : ℕ) → listed told p ≡ true → listed told' p ≡ true) → (place : Place) (n : Notice) → IsPaidAt mid told place n → IsPaidAt mid told' place n
  more_at told told' more (in_task task) n h = h
  more_at told told' more (in_message q k) n h = h
  more_at told told' more (in_request (no_senders p)) n (inl h) = inl h
  more_at told told' more (in_request (no_senders p)) n (inr h) = inr (more p h.0, h.1)
  more_at told told' more (in_request (port_destroyed p)) n h = h
  more_at told told' more (in_request (dead_name task name)) n h = h

  -- ---- what a turn has to show

  pub record Adds (e f : Ending) (paying : Owed) (going : List Token) : Type 0 where
    pub begun : f.begun ≡ e.begun
    pub doomed : (p : ℕ) → listed f.doomed p ≡ true → Dies mid p
    pub saved : (p : ℕ) → listed f.saved p ≡ true → IsSentAway mid p
    pub told : (p : ℕ) → listed f.told p ≡ true → WasTold old mid e.left p
    pub more : (p : ℕ) → listed e.told p ≡ true → listed f.told p ≡ true
    pub takes : SpendsRights e f paying going
    pub pays : All (HasPaid mid f.told) paying
    pub goes : All (HasGone mid) going

  pub adds_sound : (e f : Ending) (paying : Owed) (going : List Token) → IsSound old mid owed e → Adds e f paying going → IsSound old mid owed f
  adds_sound e f paying going s a = record {
    owes = ap owed_in a.begun ∙ s.owes;
    went = subst (λ (xs : Owed). All (PaidForName mid) xs) (sym (ap went_in a.begun)) s.went;
    parts = λ h.
        let b = s.parts h in
        let c = a.takes.left h in
        let d : weigh h (tokens_of f.paid) ≡ weigh h (tokens_of (e.paid ++ paying)) = ap (λ (xs : Owed). weigh h (tokens_of xs)) a.takes.paid in
        let g : weigh h f.gone ≡ weigh h (e.gone ++ going) = ap (weigh h) a.takes.gone in
        let k = tokens_joined h e.paid paying in
        let m = joined h e.gone going in
        let n : weigh h (tokens_of (went_in f.begun)) ≡ weigh h (tokens_of (went_in e.begun)) = ap (λ xs. weigh h (tokens_of (went_in xs))) a.begun in
        omega (arith, b, c, d, g, k, m, n);
    doomed = a.doomed;
    saved = a.saved;
    told = λ p h. let w = a.told p h in record {
      live = w.live;
      survives = w.survives;
      had = w.had;
      none = let z = w.none in let b = takes_less e f paying going a.takes (λ x. if is_of send p x then 1 else 0) in omega (arith, z, b);
    };
    paid = subst (λ (xs : Owed). All (HasPaid mid f.told) xs) (sym a.takes.paid)
        (All-append (HasPaid mid f.told) e.paid paying (weaker (HasPaid mid e.told) (HasPaid mid f.told) (λ x h. (h.0, more_at e.told f.told a.more x.0.place x.1 h.1)) e.paid s.paid) a.pays);
    gone = subst (λ (xs : List Token). All (HasGone mid) xs) (sym a.takes.gone) (All-append (HasGone mid) e.gone going s.gone a.goes);
  }
    where
      joined : (h : Token → ℕ) (xs ys : List Token) → weigh h (xs ++ ys) ≡ weigh h xs + weigh h ys
      joined h [] ys = omega arith
      joined h (x ∷ xs) ys = omega (arith, joined h xs ys)

  -- ---- each turn

  pub begins_sound : (e : Ending) → Begins mid owed e → IsSound old mid owed e
  begins_sound e b = grind (arith, none_all)

  -- a right of the request tells that the port has no senders
  abbrev TellsFor : Ending → ℕ → Token × Notice → Type 0
  TellsFor e port x = (x.0.kind ≡ send_once) × (x.0.place ≡ in_request (no_senders port)) × (x.1 ≡ no_more_senders (if listed e.saved port then 0 else mid.make_send port))

  module _ (e f : Ending) (s : IsSound old mid owed e) where
    was_doomed : f.doomed ≡ e.doomed → (p : ℕ) → listed f.doomed p ≡ true → Dies mid p
    was_doomed is p h = s.doomed p (ap (λ (ps : List ℕ). listed ps p) (sym is) ∙ h)

    was_saved : f.saved ≡ e.saved → (p : ℕ) → listed f.saved p ≡ true → IsSentAway mid p
    was_saved is p h = s.saved p (ap (λ (ps : List ℕ). listed ps p) (sym is) ∙ h)

    was_told : f.told ≡ e.told → (p : ℕ) → listed f.told p ≡ true → WasTold old mid e.left p
    was_told is p h = s.told p (ap (λ (ps : List ℕ). listed ps p) (sym is) ∙ h)

    still_told : f.told ≡ e.told → (p : ℕ) → listed e.told p ≡ true → listed f.told p ≡ true
    still_told is p h = ap (λ (ps : List ℕ). listed ps p) is ∙ h

    dooms_sound : Dooms mid e f → IsSound old mid owed f
    dooms_sound t = adds_sound e f [] [] s record {
      begun = ap (λ (x : Ending). x.begun) t.rest;
      doomed = one_more (Dies mid) t.port e.doomed f.doomed (ap (λ (x : Ending). x.doomed) t.rest) (found_dies old mid owed e s t.port t.found t.unsaved) s.doomed;
      saved = was_saved (ap (λ (x : Ending). x.saved) t.rest);
      told = was_told (ap (λ (x : Ending). x.told) t.rest);
      more = still_told (ap (λ (x : Ending). x.told) t.rest);
      takes = takes_none e f (ap (λ (x : Ending). x.left) t.rest) (ap (λ (x : Ending). x.paid) t.rest) (ap (λ (x : Ending). x.gone) t.rest);
      pays = none_all (HasPaid mid f.told);
      goes = none_all (HasGone mid);
    }

    saves_sound : Saves mid e f → IsSound old mid owed f
    saves_sound t =
        let sent : IsSentAway mid t.port = (t.saved, found_is old mid owed e s t.port t.found) in
        adds_sound e f ((token send_once t.saved.notify (in_request (port_destroyed t.port)), port_sent t.port) ∷ []) t.going s record {
          begun = ap (λ (x : Ending). x.begun) t.rest;
          doomed = was_doomed (ap (λ (x : Ending). x.doomed) t.rest);
          saved = one_more (IsSentAway mid) t.port e.saved f.saved (ap (λ (x : Ending). x.saved) t.rest) sent s.saved;
          told = was_told (ap (λ (x : Ending). x.told) t.rest);
          more = still_told (ap (λ (x : Ending). x.told) t.rest);
          takes = t.takes;
          pays = one_all (HasPaid mid f.told) (token send_once t.saved.notify (in_request (port_destroyed t.port)), port_sent t.port) (refl, inr (sent, refl));
          goes = weaker (λ (x : Token). (x.kind ≡ receive) × (x.port ≡ t.port) × IsAtDoomed e x.place) (HasGone mid) (λ x h. inr ((λ is. let a = h.0 in cc), around e s x.place h.2)) t.going t.carried;
        }

    destroys_sound : DestroysDoomed mid e f → IsSound old mid owed f
    destroys_sound t = grind (arith, adds_sound, was_doomed, was_saved, was_told, still_told, takes_none, none_all)

    loses_sound : Loses mid e f → IsSound old mid owed f
    loses_sound t = go t.takes
      where
        lost : (paying : Owed) (going : List Token) → SpendsRights e f paying going → All (HasPaid mid f.told) paying → All (HasGone mid) going → IsSound old mid owed f
        lost paying going takes pays goes = adds_sound e f paying going s record {
          begun = ap (λ (x : Ending). x.begun) t.rest;
          doomed = was_doomed (ap (λ (x : Ending). x.doomed) t.rest);
          saved = was_saved (ap (λ (x : Ending). x.saved) t.rest);
          told = was_told (ap (λ (x : Ending). x.told) t.rest);
          more = still_told (ap (λ (x : Ending). x.told) t.rest);
          takes = takes;
          pays = pays;
          goes = goes;
        }

        go : (t.right.kind ≡ send_once) × SpendsRights e f ((t.right, right_unused) ∷ []) [] ⊎ (t.right.kind ≡ send_once → ⊥) × SpendsRights e f [] (t.right ∷ []) → IsSound old mid owed f
        go (inl (once, takes)) = lost ((t.right, right_unused) ∷ []) [] takes
            (one_all (HasPaid mid f.told) (t.right, right_unused) (once, paid_around f.told t.right.place (around e s t.right.place t.destroyed))) (none_all (HasGone mid))
        go (inr (not_once, takes)) = lost [] (t.right ∷ []) takes (none_all (HasPaid mid f.told)) (one_all (HasGone mid) t.right (inr (not_once, around e s t.right.place t.destroyed)))

    ends_sound : EndsRequest mid e f → IsSound old mid owed f
    ends_sound t =
        let d : Dies mid t.port = s.doomed t.port t.doomed in
        adds_sound e f t.paying [] s record {
          begun = ap (λ (x : Ending). x.begun) t.rest;
          doomed = was_doomed (ap (λ (x : Ending). x.doomed) t.rest);
          saved = was_saved (ap (λ (x : Ending). x.saved) t.rest);
          told = was_told (ap (λ (x : Ending). x.told) t.rest);
          more = still_told (ap (λ (x : Ending). x.told) t.rest);
          takes = t.takes;
          pays = weaker (PaysAtEnd e t.request) (HasPaid mid f.told) (λ x h. (h.once, paid x.0.place x.1 t.request h.kept h.tells (paid_dead f.told t.port d t.request t.stands t.is_of))) t.paying t.pays;
          goes = none_all (HasGone mid);
        }
      where
        paid : (place : Place) (n : Notice) (r : Request) → place ≡ in_request r → n ≡ death_notice r → IsPaidAt mid f.told (in_request r) (death_notice r) → IsPaidAt mid f.told place n
        paid place n r at tells h = subst (λ (x : Place). IsPaidAt mid f.told x n) (sym at) (subst (λ (m : Notice). IsPaidAt mid f.told (in_request r) m) (sym tells) h)

    buries_sound : Buries mid e f → IsSound old mid owed f
    buries_sound t =
        let d : Dies mid t.port = s.doomed t.port t.doomed in
        adds_sound e f [] t.going s record {
          begun = ap (λ (x : Ending). x.begun) t.rest;
          doomed = was_doomed (ap (λ (x : Ending). x.doomed) t.rest);
          saved = was_saved (ap (λ (x : Ending). x.saved) t.rest);
          told = was_told (ap (λ (x : Ending). x.told) t.rest);
          more = still_told (ap (λ (x : Ending). x.told) t.rest);
          takes = t.takes;
          pays = none_all (HasPaid mid f.told);
          goes = weaker (λ (x : Token). x.port ≡ t.port) (HasGone mid) (λ x is. inl (subst (Dies mid) (sym is) d)) t.going t.goes;
        }

    tells_sound : TellsSenderless old mid e f → IsSound old mid owed f
    tells_sound t =
        let now_told : f.told ≡ t.port ∷ e.told = ap (λ (x : Ending). x.told) t.rest in
        let own : listed f.told t.port ≡ true = ap (λ (ps : List ℕ). listed ps t.port) now_told ∙ listed_first t.port e.told in
        adds_sound e f t.paying [] s record {
          begun = ap (λ (x : Ending). x.begun) t.rest;
          doomed = was_doomed (ap (λ (x : Ending). x.doomed) t.rest);
          saved = was_saved (ap (λ (x : Ending). x.saved) t.rest);
          told = one_more (WasTold old mid e.left) t.port e.told f.told now_told record {
            live = left_of (mid.live_port t.port) (not (listed e.doomed t.port)) t.lives;
            survives = survives old mid owed e s t.judged t.port (undoomed (listed e.doomed t.port) (right_of (mid.live_port t.port) (not (listed e.doomed t.port)) t.lives));
            had = t.had;
            none = t.has_none;
          } s.told;
          more = λ p h. ap (λ (ps : List ℕ). listed ps p) now_told ∙ listed_later t.port e.told p h;
          takes = t.takes;
          pays = weaker (TellsFor e t.port) (HasPaid mid f.told) (λ x h. (h.0, subst (λ (place : Place). IsPaidAt mid f.told place x.1) (sym h.1) (inr (own, of (listed e.saved t.port) refl x.1 h.2)))) t.paying t.pays;
          goes = none_all (HasGone mid);
        }
      where
        undoomed : (b : Bool) → not b ≡ true → b ≡ false
        undoomed true h = absurd (cc)
        undoomed false h = refl

        of : (b : Bool) → listed e.saved t.port ≡ b → (n : Notice) → n ≡ no_more_senders (if listed e.saved t.port then 0 else mid.make_send t.port) → IsToldOf mid t.port n
        of true is n tells = inl (s.saved t.port is, tells ∙ rw is refl)
        of false is n tells = inr ((λ sent. let h = all_saved old mid owed e s t.judged t.port sent in cc), tells ∙ rw is refl)

    turn_sound : Turn old mid e f → IsSound old mid owed f
    turn_sound (inl t) = dooms_sound t
    turn_sound (inr (inl t)) = saves_sound t
    turn_sound (inr (inr (inl t))) = destroys_sound t
    turn_sound (inr (inr (inr (inl t)))) = loses_sound t
    turn_sound (inr (inr (inr (inr (inl t))))) = ends_sound t
    turn_sound (inr (inr (inr (inr (inr (inl t)))))) = buries_sound t
    turn_sound (inr (inr (inr (inr (inr (inr t)))))) = tells_sound t

  pub reached_sound : (e : Ending) → IsReached old mid owed e → IsSound old mid owed e
  reached_sound e' (begins e b) = begins_sound e b
  reached_sound f' (turns e f before t) = turn_sound e f (reached_sound e before) t

-- When all are judged, that stays so.
pub judged_stays : (old mid : State) (e f : Ending) → Turn old mid e f → AreJudged mid e → AreJudged mid f
judged_stays old mid e f t judged = grind arith

-- ---- A chain judges each port once, and destroys each message once; it has no more turns than it judged ports, destroyed messages, and
-- had rights that paid or were lost.

-- ---- lists in which each stands once

unlisted_none : (ps : List ℕ) (p : ℕ) → listed ps p ≡ false → tally (λ q. p == q) ps ≡ 0
unlisted_none [] p e = refl
unlisted_none (q ∷ ps) p e = go (p == q) (listed ps p) refl e (unlisted_none ps p)
  where
    go : (a b : Bool) → listed ps p ≡ b → (a || b) ≡ false → (listed ps p ≡ false → tally (λ q. p == q) ps ≡ 0) → (if a then suc zero else zero) + tally (λ q. p == q) ps ≡ 0
    go true b f e ih = absurd (cc)
    go false b f e ih = let r = ih (f ∙ e) in omega (arith, r)

neither : (a b : Bool) → (a || b) ≡ false → (a ≡ false) × (b ≡ false)
neither true b e = absurd (cc)
neither false b e = (refl, e)

uncontained : (xs : List (ℕ × ℕ)) (m : ℕ × ℕ) → ¬ (Contains xs m) → tally (λ n. m.0 == n.0 && m.1 == n.1) xs ≡ 0
uncontained [] m none = refl
uncontained (x ∷ xs) m none = go (m.0 == x.0 && m.1 == x.1) refl (uncontained xs m (λ c. none (later c)))
  where
    later : Contains xs m → Contains (x ∷ xs) m
    later (i, below, is) = (suc i, omega (arith, below), is)

    first : (m.0 == x.0 && m.1 == x.1) ≡ true → x ≡ m
    first e =
        let a = eqb-true m.0 x.0 (left_of (m.0 == x.0) (m.1 == x.1) e) in
        let b = eqb-true m.1 x.1 (right_of (m.0 == x.0) (m.1 == x.1) e) in
        λ i. (sym a i, sym b i)

    go : (b : Bool) → (m.0 == x.0 && m.1 == x.1) ≡ b → tally (λ n. m.0 == n.0 && m.1 == n.1) xs ≡ 0 → (if b then suc zero else zero) + tally (λ n. m.0 == n.0 && m.1 == n.1) xs ≡ 0
    go true e rest = absurd (none (zero, omega arith, first e))
    go false e rest = omega (arith, rest)

abbrev pub is_queued : Place → Bool
is_queued (in_task task) = false
is_queued (in_message q k) = true
is_queued (in_request request) = false

-- how many of the rights that went lay in messages, but for those whose ports die
abbrev pub lost_in : (dies : ℕ → Bool) → Ending → ℕ
lost_in dies e = count (λ x. is_queued x.place && not (dies x.port)) e.gone

-- a port that dies lived
pub dead_lived : (mid : State) (owed : Owed) → MidLawful mid owed → (p : ℕ) → Dies mid p → mid.live_port p ≡ true
dead_lived mid owed l p d = grind (arith, dead_cases, lives, lying_le_of)

-- Each port is judged once, each message destroyed once, of those that waited at a doomed port; and each port that is judged takes a turn.
pub record AreTurnsCounted (mid : State) (e : Ending) : Type 0 where
  pub least : length e.doomed + length e.saved ≤ e.turns
  pub port_once : (p : ℕ) → tally (λ q. p == q) e.doomed + tally (λ q. p == q) e.saved ≤ 1
  pub destroyed : All (λ m. (listed e.doomed m.0 ≡ true) × IsWaiting mid e m) e.destroyed
  pub message_once : (m : ℕ × ℕ) → tally (λ n. m.0 == n.0 && m.1 == n.1) e.destroyed ≤ 1

module _ (old mid : State) (owed : Owed) where
  abbrev WasDestroyed : Ending → ℕ × ℕ → Type 0
  WasDestroyed e m = (listed e.doomed m.0 ≡ true) × IsWaiting mid e m

  -- ---- the lists of before

  -- f goes on from e
  record Follows (e f : Ending) : Type 0 where
    begun : f.begun ≡ e.begun
    doomed : (p : ℕ) → listed e.doomed p ≡ true → listed f.doomed p ≡ true

  still_destroyed : (e f : Ending) → Follows e f → (m : ℕ × ℕ) → WasDestroyed e m → WasDestroyed f m
  still_destroyed e f g m (d, w) = (g.doomed m.0 d, (w.0, subst (λ (ys : Begun). m.1 < length (mid.log m.0) + tally (λ y. y.1.0.port == m.0) ys) (sym g.begun) w.1))

  same_in : (ps qs : List ℕ) → qs ≡ ps → (p : ℕ) → listed ps p ≡ true → listed qs p ≡ true
  same_in ps qs is p h = ap (λ (xs : List ℕ). listed xs p) is ∙ h

  -- ---- each turn

  module _ (e f : Ending) (t : AreTurnsCounted mid e) where
    -- a port that wasn't judged before stands in one list more
    once_more : (port : ℕ) (ps qs : List ℕ) → listed ps port ≡ false → listed qs port ≡ false → ((p : ℕ) → tally (λ q. p == q) ps + tally (λ q. p == q) qs ≤ 1) →
        (p : ℕ) → tally (λ q. p == q) (port ∷ ps) + tally (λ q. p == q) qs ≤ 1
    once_more port ps qs none none_too once p = grind (arith, unlisted_none)

    kept_destroyed : Follows e f → f.destroyed ≡ e.destroyed → All (WasDestroyed f) f.destroyed
    kept_destroyed g is = subst (All (WasDestroyed f)) (sym is) (weaker (WasDestroyed e) (WasDestroyed f) (still_destroyed e f g) e.destroyed t.destroyed)

    kept_once : f.destroyed ≡ e.destroyed → (m : ℕ × ℕ) → tally (λ n. m.0 == n.0 && m.1 == n.1) f.destroyed ≤ 1
    kept_once is m = let a = t.message_once m in let b = ap (tally (λ n. m.0 == n.0 && m.1 == n.1)) is in omega (arith, a, b)

    -- what follows from a turn that judges no port and destroys no message
    plain : f.begun ≡ e.begun → f.doomed ≡ e.doomed → f.saved ≡ e.saved → f.destroyed ≡ e.destroyed → e.turns ≤ f.turns → AreTurnsCounted mid f
    plain begun doomed saved destroyed no_fewer = record {
      least = let a = ap length doomed in let b = ap length saved in let c = t.least in omega (arith, a, b, c, no_fewer);
      port_once = λ p.
          let a = t.port_once p in
          let b = ap (tally (λ q. p == q)) doomed in
          let c = ap (tally (λ q. p == q)) saved in
          omega (arith, a, b, c);
      destroyed = kept_destroyed (record { begun = begun; doomed = same_in e.doomed f.doomed doomed }) destroyed;
      message_once = kept_once destroyed;
    }

    dooms_counted : Dooms mid e f → AreTurnsCounted mid f
    dooms_counted w =
        let now : f.doomed ≡ w.port ∷ e.doomed = ap (λ (x : Ending). x.doomed) w.rest in
        let saved : f.saved ≡ e.saved = ap (λ (x : Ending). x.saved) w.rest in
        let n : f.turns ≡ e.turns + 1 = ap (λ (x : Ending). x.turns) w.rest in
        let destroyed : f.destroyed ≡ e.destroyed = ap (λ (x : Ending). x.destroyed) w.rest in
        let g : Follows e f = record {
          begun = ap (λ (x : Ending). x.begun) w.rest;
          doomed = λ p h. same_in (w.port ∷ e.doomed) f.doomed now p (listed_later w.port e.doomed p h);
        } in
        let none = neither (listed e.doomed w.port) (listed e.saved w.port) w.unjudged in
        record {
          least = let a = ap length now in let b = ap length saved in let c = t.least in omega (arith, a, b, n, c);
          port_once = λ p.
              let a = once_more w.port e.doomed e.saved none.0 none.1 t.port_once p in
              let b = ap (tally (λ q. p == q)) now in
              let c = ap (tally (λ q. p == q)) saved in
              omega (arith, a, b, c);
          destroyed = kept_destroyed g destroyed;
          message_once = kept_once destroyed;
        }

    saves_counted : Saves mid e f → AreTurnsCounted mid f
    saves_counted w =
        let now : f.saved ≡ w.port ∷ e.saved = ap (λ (x : Ending). x.saved) w.rest in
        let doomed : f.doomed ≡ e.doomed = ap (λ (x : Ending). x.doomed) w.rest in
        let n : f.turns ≡ e.turns + 1 = ap (λ (x : Ending). x.turns) w.rest in
        let destroyed : f.destroyed ≡ e.destroyed = ap (λ (x : Ending). x.destroyed) w.rest in
        let none = neither (listed e.doomed w.port) (listed e.saved w.port) w.unjudged in
        record {
          least = let a = ap length now in let b = ap length doomed in let c = t.least in omega (arith, a, b, n, c);
          port_once = λ p.
              let a = once_more w.port e.saved e.doomed none.1 none.0 (λ q. let o = t.port_once q in omega (arith, o)) p in
              let b = ap (tally (λ q. p == q)) now in
              let c = ap (tally (λ q. p == q)) doomed in
              omega (arith, a, b, c);
          destroyed = kept_destroyed (record { begun = ap (λ (x : Ending). x.begun) w.rest; doomed = same_in e.doomed f.doomed doomed }) destroyed;
          message_once = kept_once destroyed;
        }

    destroys_counted : DestroysDoomed mid e f → AreTurnsCounted mid f
    destroys_counted w =
        let now : f.destroyed ≡ (w.port, w.entry) ∷ e.destroyed = ap (λ (x : Ending). x.destroyed) w.rest in
        let doomed : f.doomed ≡ e.doomed = ap (λ (x : Ending). x.doomed) w.rest in
        let saved : f.saved ≡ e.saved = ap (λ (x : Ending). x.saved) w.rest in
        let n : f.turns ≡ e.turns + 1 = ap (λ (x : Ending). x.turns) w.rest in
        let g : Follows e f = record { begun = ap (λ (x : Ending). x.begun) w.rest; doomed = same_in e.doomed f.doomed doomed } in
        record {
          least = let a = ap length doomed in let b = ap length saved in let c = t.least in omega (arith, a, b, n, c);
          port_once = λ p.
              let a = t.port_once p in
              let b = ap (tally (λ q. p == q)) doomed in
              let c = ap (tally (λ q. p == q)) saved in
              omega (arith, a, b, c);
          destroyed = subst (All (WasDestroyed f)) (sym now)
              (All-cons (WasDestroyed f) (w.port, w.entry) e.destroyed (still_destroyed e f g (w.port, w.entry) (w.doomed, (w.waits, w.within)))
              (weaker (WasDestroyed e) (WasDestroyed f) (still_destroyed e f g) e.destroyed t.destroyed));
          message_once = λ m. let b = ap (tally (λ n. m.0 == n.0 && m.1 == n.1)) now in
              let a = one m (m.0 == w.port && m.1 == w.entry) refl in omega (arith, a, b);
        }
      where
        one : (m : ℕ × ℕ) (b : Bool) → (m.0 == w.port && m.1 == w.entry) ≡ b → tally (λ n. m.0 == n.0 && m.1 == n.1) ((w.port, w.entry) ∷ e.destroyed) ≤ 1
        one m false is = let a = t.message_once m in rw is (omega (arith, a))
        one m true is =
            let a = eqb-true m.0 w.port (left_of (m.0 == w.port) (m.1 == w.entry) is) in
            let b = eqb-true m.1 w.entry (right_of (m.0 == w.port) (m.1 == w.entry) is) in
            let same : (w.port, w.entry) ≡ m = λ i. (sym a i, sym b i) in
            let z = uncontained e.destroyed m (λ c. w.undestroyed (subst (Contains e.destroyed) (sym same) c)) in
            rw is (omega (arith, z))

    turn_counted : Turn old mid e f → AreTurnsCounted mid f
    turn_counted (inl w) = dooms_counted w
    turn_counted (inr (inl w)) = saves_counted w
    turn_counted (inr (inr (inl w))) = destroys_counted w
    turn_counted (inr (inr (inr (inl w)))) = plain (ap (λ (x : Ending). x.begun) w.rest) (ap (λ (x : Ending). x.doomed) w.rest) (ap (λ (x : Ending). x.saved) w.rest) (ap (λ (x : Ending). x.destroyed) w.rest)
        (let n : f.turns ≡ e.turns + 1 = ap (λ (x : Ending). x.turns) w.rest in omega (arith, n))
    turn_counted (inr (inr (inr (inr (inl w))))) = plain (ap (λ (x : Ending). x.begun) w.rest) (ap (λ (x : Ending). x.doomed) w.rest) (ap (λ (x : Ending). x.saved) w.rest) (ap (λ (x : Ending). x.destroyed) w.rest)
        (let n : f.turns ≡ e.turns + length w.paying = ap (λ (x : Ending). x.turns) w.rest in omega (arith, n))
    turn_counted (inr (inr (inr (inr (inr (inl w)))))) = plain (ap (λ (x : Ending). x.begun) w.rest) (ap (λ (x : Ending). x.doomed) w.rest) (ap (λ (x : Ending). x.saved) w.rest) (ap (λ (x : Ending). x.destroyed) w.rest)
        (let n : f.turns ≡ e.turns = ap (λ (x : Ending). x.turns) w.rest in omega (arith, n))
    turn_counted (inr (inr (inr (inr (inr (inr w)))))) = plain (ap (λ (x : Ending). x.begun) w.rest) (ap (λ (x : Ending). x.doomed) w.rest) (ap (λ (x : Ending). x.saved) w.rest) (ap (λ (x : Ending). x.destroyed) w.rest)
        (let n : f.turns ≡ e.turns + length w.paying = ap (λ (x : Ending). x.turns) w.rest in omega (arith, n))

  begins_counted : (e : Ending) → Begins mid owed e → AreTurnsCounted mid e
  begins_counted e b = grind arith

  pub reached_counted : (e : Ending) → IsReached old mid owed e → AreTurnsCounted mid e
  reached_counted e' (begins e b) = begins_counted e b
  reached_counted f' (turns e f before t) = turn_counted e f (reached_counted e before) t

  -- ---- how many turns there are

  module _ (l : MidLawful mid owed) (dies : ℕ → Bool) (dies_are : (p : ℕ) → dies p ≡ true → Dies mid p) where
    abbrev is_lost_here : Token → Bool
    is_lost_here x = is_queued x.place && not (dies x.port)

    -- a right that lay in a message is for a port that lives
    abbrev LivesOn : Token × Notice → Type 0
    LivesOn x = is_queued x.0.place ≡ true → dies x.0.port ≡ false

    pub record IsFew (e : Ending) : Type 0 where
      pub most : e.turns ≤ length e.doomed + length e.saved + length e.destroyed + length e.paid + lost_in dies e
      pub live : All LivesOn e.paid

    -- more rights pay that lay in no message, or whose ports live
    more_live : (e f : Ending) (paying : Owed) (going : List Token) → IsFew e → SpendsRights e f paying going → All LivesOn paying → All LivesOn f.paid
    more_live e f paying going few t all = subst (λ (xs : Owed). All LivesOn xs) (sym t.paid) (All-append LivesOn e.paid paying few.live all)

    same_live : (e f : Ending) → IsFew e → f.paid ≡ e.paid → All LivesOn f.paid
    same_live e f few is = subst (λ (xs : Owed). All LivesOn xs) (sym is) few.live

    of_request : (r : Request) (x : Token × Notice) → x.0.place ≡ in_request r → LivesOn x
    of_request r x at queued = absurd (let h : is_queued (in_request r) ≡ true = subst (λ (y : Place). is_queued y ≡ true) at queued in cc)

    taken_paid : (e f : Ending) (paying : Owed) (going : List Token) → SpendsRights e f paying going → length f.paid ≡ length e.paid + length paying
    taken_paid e f paying going t = ap length t.paid ∙ length-append e.paid paying

    taken_lost : (e f : Ending) (paying : Owed) (going : List Token) → SpendsRights e f paying going → lost_in dies f ≡ lost_in dies e + count is_lost_here going
    taken_lost e f paying going t = ap (count is_lost_here) t.gone ∙ weigh-append (λ x. if is_lost_here x then 1 else 0) e.gone going

    turn_few : (e f : Ending) → IsReached old mid owed e → IsFew e → Turn old mid e f → IsFew f
    turn_few e f r few (inl w) =
        let before = few.most in
        let a : length f.doomed ≡ suc (length e.doomed) = ap (λ (x : Ending). length x.doomed) w.rest in
        let b : length f.saved + length f.destroyed + length f.paid + lost_in dies f ≡ length e.saved + length e.destroyed + length e.paid + lost_in dies e =
        ap (λ (x : Ending). length x.saved + length x.destroyed + length x.paid + lost_in dies x) w.rest in
        let n : f.turns ≡ e.turns + 1 = ap (λ (x : Ending). x.turns) w.rest in
        record { most = omega (arith, a, b, n, before); live = same_live e f few (ap (λ (x : Ending). x.paid) w.rest) }
    turn_few e f r few (inr (inl w)) =
        let before = few.most in
        let a : length f.saved ≡ suc (length e.saved) = ap (λ (x : Ending). length x.saved) w.rest in
        let b : length f.doomed + length f.destroyed ≡ length e.doomed + length e.destroyed = ap (λ (x : Ending). length x.doomed + length x.destroyed) w.rest in
        let c = taken_paid e f _ _ w.takes in
        let d = taken_lost e f _ _ w.takes in
        let n : f.turns ≡ e.turns + 1 = ap (λ (x : Ending). x.turns) w.rest in
        record {
          most = omega (arith, a, b, c, d, n, before);
          live = more_live e f _ _ few w.takes
              (one_all LivesOn (token send_once w.saved.notify (in_request (port_destroyed w.port)), port_sent w.port) (of_request (port_destroyed w.port) (token send_once w.saved.notify (in_request (port_destroyed w.port)), port_sent w.port) refl));
        }
    turn_few e f r few (inr (inr (inl w))) =
        let before = few.most in
        let a : length f.destroyed ≡ suc (length e.destroyed) = ap (λ (x : Ending). length x.destroyed) w.rest in
        let b : length f.doomed + length f.saved + length f.paid + lost_in dies f ≡ length e.doomed + length e.saved + length e.paid + lost_in dies e =
        ap (λ (x : Ending). length x.doomed + length x.saved + length x.paid + lost_in dies x) w.rest in
        let n : f.turns ≡ e.turns + 1 = ap (λ (x : Ending). x.turns) w.rest in
        record { most = omega (arith, a, b, n, before); live = same_live e f few (ap (λ (x : Ending). x.paid) w.rest) }
    turn_few e f r few (inr (inr (inr (inl w)))) =
        let before = few.most in
        let b : length f.doomed + length f.saved + length f.destroyed ≡ length e.doomed + length e.saved + length e.destroyed =
        ap (λ (x : Ending). length x.doomed + length x.saved + length x.destroyed) w.rest in
        let n : f.turns ≡ e.turns + 1 = ap (λ (x : Ending). x.turns) w.rest in
        let c = lost w.takes in
        record { most = omega (arith, b, c, n, before); live = all w.takes }
      where
        lies : (place : Place) → IsAtDoomed e place → is_queued place ≡ true
        lies (in_task task) h = absurd h
        lies (in_message q k) h = refl
        lies (in_request r) h = absurd h

        -- its port lives
        lives_on : dies w.right.port ≡ false
        lives_on = false_from_ne_true (dies w.right.port) (λ is.
            let d = dies_are w.right.port is in
            let gone : (mid.live_port w.right.port && not (listed e.doomed w.right.port)) ≡ false = dies_after old mid owed e (reached_sound old mid owed e r) w.judged w.right.port d in
            let live = dead_lived mid owed l w.right.port d in
            let k = w.lives in
            both (mid.live_port w.right.port) (listed e.doomed w.right.port) live k gone)
          where
            both : (a b : Bool) → a ≡ true → b ≡ false → (a && not b) ≡ false → ⊥
            both true false x y z = absurd (cc)
            both true true x y z = absurd (cc)
            both false b x y z = absurd (cc)

        own : (if is_lost_here w.right then suc zero else zero) ≡ 1
        own = rw (lies w.right.place w.destroyed, lives_on) refl

        lost : (w.right.kind ≡ send_once) × SpendsRights e f ((w.right, right_unused) ∷ []) [] ⊎ (w.right.kind ≢ send_once) × SpendsRights e f [] (w.right ∷ []) → length f.paid + lost_in dies f ≡ length e.paid + lost_in dies e + 1
        lost (inl h) = let a = taken_paid e f _ _ h.1 in let b = taken_lost e f _ _ h.1 in omega (arith, a, b)
        lost (inr h) = let a = taken_paid e f _ _ h.1 in let b = taken_lost e f _ _ h.1 in let c = own in omega (arith, a, b, c)

        all : (w.right.kind ≡ send_once) × SpendsRights e f ((w.right, right_unused) ∷ []) [] ⊎ (w.right.kind ≢ send_once) × SpendsRights e f [] (w.right ∷ []) → All LivesOn f.paid
        all (inl h) = more_live e f _ _ few h.1 (one_all LivesOn (w.right, right_unused) (λ queued. lives_on))
        all (inr h) = more_live e f _ _ few h.1 (none_all LivesOn)
    turn_few e f r few (inr (inr (inr (inr (inl w))))) =
        let before = few.most in
        let b : length f.doomed + length f.saved + length f.destroyed ≡ length e.doomed + length e.saved + length e.destroyed =
        ap (λ (x : Ending). length x.doomed + length x.saved + length x.destroyed) w.rest in
        let c = taken_paid e f _ _ w.takes in
        let d = taken_lost e f _ _ w.takes in
        let n : f.turns ≡ e.turns + length w.paying = ap (λ (x : Ending). x.turns) w.rest in
        record { most = omega (arith, b, c, d, n, before); live = more_live e f _ _ few w.takes (weaker (PaysAtEnd e w.request) LivesOn (λ x h. of_request w.request x h.kept) w.paying w.pays) }
    turn_few e f r few (inr (inr (inr (inr (inr (inl w)))))) =
        let before = few.most in
        let b : length f.doomed + length f.saved + length f.destroyed ≡ length e.doomed + length e.saved + length e.destroyed =
        ap (λ (x : Ending). length x.doomed + length x.saved + length x.destroyed) w.rest in
        let c = taken_paid e f _ _ w.takes in
        let d = taken_lost e f _ _ w.takes in
        let n : f.turns ≡ e.turns = ap (λ (x : Ending). x.turns) w.rest in
        record { most = omega (arith, b, c, d, n, before); live = more_live e f _ _ few w.takes (none_all LivesOn) }
    turn_few e f r few (inr (inr (inr (inr (inr (inr w)))))) =
        let before = few.most in
        let b : length f.doomed + length f.saved + length f.destroyed ≡ length e.doomed + length e.saved + length e.destroyed =
        ap (λ (x : Ending). length x.doomed + length x.saved + length x.destroyed) w.rest in
        let c = taken_paid e f _ _ w.takes in
        let d = taken_lost e f _ _ w.takes in
        let n : f.turns ≡ e.turns + length w.paying = ap (λ (x : Ending). x.turns) w.rest in
        record { most = omega (arith, b, c, d, n, before); live = more_live e f _ _ few w.takes (weaker (TellsFor old mid owed e w.port) LivesOn (λ x h. of_request (no_senders w.port) x h.1) w.paying w.pays) }

    begins_few : (e : Ending) → Begins mid owed e → IsFew e
    begins_few e b = record {
      most = let n : e.turns ≡ 0 = ap (λ (x : Ending). x.turns) b.rest in omega (arith, n);
      live = let is : e.paid ≡ [] = ap (λ (x : Ending). x.paid) b.rest in subst (λ (xs : Owed). All LivesOn xs) (sym is) (none_all LivesOn);
    }

    pub reached_few : (e : Ending) → IsReached old mid owed e → IsFew e
    reached_few e' (begins e b) = begins_few e b
    reached_few f' (turns e f before t) = turn_few e f before (reached_few e before) t
