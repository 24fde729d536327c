-- Ports that lost their last sender are told of.
use Rattle.std.proofs.Common.{◌≡◌, ℕ, zero, suc, ◌+◌, ◌<◌, List, [], Option, Some, None, refl, sym, ap, subst, ◌∙◌, arith, true, false, Bool, inl, inr, ◌∷◌, length, ◌≤◌, ◌-◌}
use Rattle.std.specs.Prelude.{if◌then◌else◌, ◌&&◌, ◌||◌, not, is_some, filter, All, IsTrue, ◌^◌, eqb, ◌==◌, slice_get, Contains, IfSome, IfNone, min}
use Rattle.std.specs.FinMap as map
use Rattle.std.proofs.lemmas.Bool.{eq-eqb, ne_eqb}
use Rattle.std.proofs.lemmas.Bool.Decides.{eqb_tells}
use Rattle.mach_types.specs.Tokens.{send, send_once, Request, no_senders, port_destroyed, dead_name, in_request, Token, token, is_of, count}
use Rattle.mach_model.specs.State.{State, same_request, request_at, senders}
use Rattle.mach_model.specs.Notices.{Owed, Notice, no_more_senders}
use Rattle.mach_model.specs.Turns.{Ending, listed, is_among, lives_after, IsOffRequest, AreJudged, outcome, SpendsRights, Turn}
use Rattle.mach_model.proofs.Names.{removed_own, pos_or_zero, alike}
use Rattle.mach_model.proofs.TurnsMade.{same_request_is}
use Rattle.mach_model.proofs.TurnsCounted.{one_all}
use Rattle.rights.specs.Ledger.{counts_of}
use Rattle.port.specs.declared.Attributes.{Attributes}
use Rattle.request_table.specs.Tables.{RequestTablesView}
use Rattle.copyin_base.specs.Requests.{notify_of}
use Rattle.copyin_base.specs.Worlds.{WorldView}
use Rattle.copyin_base.proofs.Putting.{get_removed}
use Rattle.copyin_base.specs.declared.Notice.TheVariants.{NoSenders}
use Rattle.copyin_base.specs.Changes.{HasAttributes, IsSenderless}
use Rattle.copyin_base.proofs.Listed.{none_listed, listed_later}
use Rattle.notifications.specs.SoFar.{buried_alone, AgreesOf, AwaitLoss}
use Rattle.destroy.specs.Paying.{LivesIn, Pays, PaysMany}
use Rattle.copyin_base.specs.Leaving.{without_no_senders}
use Rattle.destroy.specs.Telling.{CanTell, TellsOf, taken_out, TellsNoSenders}
use Rattle.destroy.specs.Between.{IsUnlost, Between}
use Rattle.destroy.proofs.LoseFrames.{same_ports, framed_stays, kept_has, StandsSoFar}
use Rattle.destroy.proofs.RequestEnds.{yet_stands, stood, may_post, all_off, none_off, dead_ending, paid_ending, dead_takes, paid_takes, Ended, ended as request_ends, lives_or_not}
use Rattle.destroy.proofs.BuryRequest.{GoesOn, request_ended}
use Rattle.destroy.specs.Losing.{Framed, Loose}
use Rattle.destroy.proofs.LoseRights.{lives_is, lives_there, loose_of, loose_noted, between_of}
use Rattle.destroy.specs.Stages.{AreLost, AreTold, IsAt, Continues, IsCount, SameSlots}
use Rattle.destroy.proofs.Counting.{count_none, count_joined}

-- ---- A request to be told of no senders was taken out of the tables.

module _ (requests : RequestTablesView) (p : ℕ) where
  abbrev pub ended : RequestTablesView
  ended = record requests { no_senders = record requests.no_senders { map = map.remove requests.no_senders.map p } }

  pub own_ended : notify_of ended (no_senders p) ≡ None
  own_ended = removed_own requests.no_senders.map p

  pub others_stay : (r : Request) → same_request r (no_senders p) ≡ false → notify_of ended r ≡ notify_of requests r
  others_stay (no_senders q) other = elim (eqb_tells q p) [
    | inl h ↦ absurd (let a = h.0 in cc)
    | inr h ↦ get_removed requests.no_senders.map p q h.1
  ]
  others_stay (port_destroyed q) other = refl
  others_stay (dead_name t n) other = refl

-- ---- What telling of a port comes to in the tables.

module _ (old : WorldView) (port : ℕ) where
  -- where no request stands none ends
  none_ended : map.get old.requests.no_senders.map port ≡ None → without_no_senders old port ≡ old
  none_ended none = ap (λ m. record old { requests = record old.requests { no_senders = record old.requests.no_senders { map = m } } })
      (alike (map.remove old.requests.no_senders.map port) old.requests.no_senders.map (λ q. elim (eqb_tells q port) [
        | inl same ↦ subst (λ (k : ℕ). map.get (map.remove old.requests.no_senders.map port) k ≡ map.get old.requests.no_senders.map k) (sym same.1) (removed_own old.requests.no_senders.map port ∙ sym none)
        | inr other ↦ get_removed old.requests.no_senders.map port q other.1
      ]))

  pub told_none : (new : WorldView) (notify : Option ℕ) → notify ≡ map.get old.requests.no_senders.map port → notify ≡ None → new ≡ without_no_senders old port → TellsOf old port 0 new
  told_none new notify is none ended = inr (refl, ended ∙ none_ended (sym is ∙ none), λ h. let a = h.1.asked in let b = ap is_some (sym is ∙ none) in no (sym a ∙ b))
    where
      no : true ≡ false → ⊥
      no e = cc

  pub told_one : (mid new : WorldView) (attributes : Attributes) (found : Option ℕ) (notify : ℕ) → LivesIn old port → (0 < (counts_of old.ledger port).send → IsTrue false) → HasAttributes old port attributes →
      found ≡ map.get old.requests.no_senders.map port → found ≡ Some notify → mid ≡ without_no_senders old port →
      Pays mid notify (NoSenders attributes.make_send) new → (number : ℕ) → PaysMany mid notify number → TellsOf old port number new
  told_one mid new attributes found notify lives none has is some ended pays number many = inl
      record {
        v = has.v;
        there = has.there;
        lives = lives;
        none = zero_of (λ some. no (none some));
        notify = notify;
        asked = sym is ∙ some;
        pays = subst (λ (w : WorldView). Pays w notify (NoSenders has.v.attributes.make_send) new) ended (subst (λ (a : Attributes). Pays mid notify (NoSenders a.make_send) new) (sym has.are) pays);
        many = subst (λ (w : WorldView). PaysMany w notify number) ended many;
      }
    where
      no : IsTrue false → ⊥
      no e = cc

      zero_of : {n : ℕ} → (0 < n → ⊥) → n ≡ 0
      zero_of {n} h = elim (pos_or_zero n) [
        | inl z ↦ z
        | inr some ↦ absurd (h some)
      ]

-- ---- A port that was noted is told of: a turn, after which the tables are between turns again.

-- The right of the request may pay where its port lives.
module _ (now : ℕ) (tables : WorldView) (old mid : State) (owed : Owed) (e : Ending) (w : WorldView) (l : Loose now tables old mid owed e w) (waiting : AwaitLoss w.ports.destroyed e l.state) (unlost : IsUnlost e waiting.emptied) where
  pub can_tell : (p : ℕ) → CanTell w p
  can_tell p own notify asked there = may_post now tables old mid owed e w l waiting unlost (no_senders p) notify asked there

  module _ (p notify : ℕ) (asked : map.get w.requests.no_senders.map p ≡ Some notify) where
    abbrev r : Request
    r = no_senders p

    abbrev rq : RequestTablesView
    rq = ended w.requests p

    abbrev s : State
    s = l.state

    pub framed : Framed mid e (without_no_senders w p)
    framed = framed_stays w (without_no_senders w p) (same_ports w (without_no_senders w p) refl refl refl refl (λ q h. kept_has w.requests.no_senders.map p q h) refl) mid e e refl refl refl l.framed

    -- the request stands no more
    pub stands_now : StandsSoFar mid (record e { told = p ∷ e.told }) (request_at s.stands r false)
    stands_now (port_destroyed q) = l.so_far.stands (port_destroyed q)
    stands_now (dead_name task name) = l.so_far.stands (dead_name task name)
    stands_now (no_senders q) = go (q == p) (is_among e.ended (no_senders q)) (l.so_far.stands (no_senders q))
      where
        none : (a b : Bool) → false ≡ (a && not (b || true))
        none true true = refl
        none true false = refl
        none false b = refl

        go : (t c : Bool) → s.stands (no_senders q) ≡ (if c then false else mid.stands (no_senders q) && not (not (lives_after mid (buried_alone e) q) || listed e.told q)) →
            (if t then false else s.stands (no_senders q)) ≡ (if c then false else mid.stands (no_senders q) && not (not (lives_after mid (buried_alone e) q) || (t || listed e.told q)))
        go true true h = refl
        go true false h = none (mid.stands (no_senders q)) (not (lives_after mid (buried_alone e) q))
        go false c h = h

    pub agrees_now : (xs : List Token) → GoesOn (lives_after mid e) notify r s.ledger xs → AgreesOf (lives_after mid e) (without_no_senders w p) (record s { stands = request_at s.stands r false; ledger = xs })
    agrees_now xs g = request_ended (lives_after mid e) w s l.agrees rq r notify xs (own_ended w.requests p) asked (others_stay w.requests p) l.framed.went l.framed.went g (λ q h. same_request_is q r h)

    untold : listed e.told p ≡ false
    untold = go (not (lives_after mid (buried_alone e) p)) (listed e.told p) (yet_stands now old mid owed e l.lawful l.reached s l.so_far w l.agrees l.framed.went r notify asked)
      where
        go : (a b : Bool) → not (a || b) ≡ true → b ≡ false
        go true b h = absurd (cc)
        go false true h = absurd (cc)
        go false false h = refl

    -- ---- the turn

    module _ (judged : AreJudged mid e) (own_lives : LivesIn w p) (had : 0 < senders old p) (none : (counts_of w.ledger p).send ≡ 0) (n : ℕ) (made : n ≡ (outcome mid e).make_send p) where
      has_none : count (is_of send p) e.left ≡ 0
      has_none = grind arith

      tells : (f : Ending) (paying : Owed) → All (λ (z : Token × Notice). (z.0.kind ≡ send_once) × (z.0.place ≡ in_request r) × (z.1 ≡ no_more_senders ((outcome mid e).make_send p))) paying → SpendsRights e f paying [] →
          All (IsOffRequest e r) f.left → f ≡ record e { told = p ∷ e.told; left = f.left; paid = f.paid; gone = f.gone; turns = e.turns + length paying } → Turn old mid e f
      tells f paying pays takes all_left rest = inr (inr (inr (inr (inr (inr (record {
        port = p;
        judged = judged;
        lives = lives_is now tables old mid owed e w l p own_lives;
        stands = stood now old mid owed e l.lawful l.reached s l.so_far w l.agrees l.framed.went r notify asked;
        had = had;
        has_none = has_none;
        untold = untold;
        paying = paying;
        pays = pays;
        takes = takes;
        all_left = all_left;
        rest = rest;
      }))))))

      pub dead_turn : lives_after mid e notify ≡ false → Turn old mid e (dead_ending now tables old mid owed e w l waiting unlost r notify asked w.spaces rq s.naming e.ended (p ∷ e.told) (NoSenders n))
      dead_turn dead = tells _ [] (λ k d below. absurd (omega arith)) (dead_takes now tables old mid owed e w l waiting unlost r notify asked w.spaces rq s.naming e.ended (p ∷ e.told) (NoSenders n))
          (none_off now tables old mid owed e w l waiting unlost r notify asked dead) refl

      pub paid_turn : lives_after mid e notify ≡ true → Turn old mid e (paid_ending now tables old mid owed e w l waiting unlost r notify asked w.spaces rq s.naming e.ended (p ∷ e.told) (NoSenders n))
      paid_turn alive = tells _ ((token send_once notify (in_request r), no_more_senders n) ∷ [])
          (one_all (λ (z : Token × Notice). (z.0.kind ≡ send_once) × (z.0.place ≡ in_request r) × (z.1 ≡ no_more_senders ((outcome mid e).make_send p))) (token send_once notify (in_request r), no_more_senders n)
          (refl, refl, ap (λ (m : ℕ). no_more_senders m) made))
          (paid_takes now tables old mid owed e w l waiting unlost r notify asked w.spaces rq s.naming e.ended (p ∷ e.told) (NoSenders n) alive)
          (all_off now tables old mid owed e w l waiting unlost r notify asked alive) refl

      module _ (stage : AreLost mid e w)
          (noted : (u : WorldView) → u.requests ≡ rq → ((q : ℕ) → (counts_of u.ledger q).send ≡ 0 → (counts_of w.ledger q).send ≡ 0) →
          (q : ℕ) → lives_after mid e q ≡ true → 0 < (counts_of tables.ledger q).send → IsSenderless u q → Contains w.ports.noted q)
          (had_noted : (q : ℕ) → Contains w.ports.noted q → 0 < (counts_of tables.ledger q).send) where
        pub told_ended : (number : ℕ) (new : WorldView) → Pays (without_no_senders w p) notify (NoSenders n) new → PaysMany (without_no_senders w p) notify number →
            Ended now tables old mid owed e w l waiting unlost r notify asked w.spaces rq s.naming e.ended (p ∷ e.told) (NoSenders n) stands_now l.so_far.names agrees_now framed
            (λ at. refl) (λ q c. none_listed [] refl _ c) paid_turn dead_turn stage noted had_noted number new
        told_ended = request_ends now tables old mid owed e w l waiting unlost r notify asked w.spaces rq s.naming e.ended (p ∷ e.told) (NoSenders n) stands_now l.so_far.names agrees_now framed
            (λ at. refl) (λ q c. none_listed [] refl _ c) paid_turn dead_turn stage noted had_noted

-- ---- Each port that was noted is told of in turn: between two of them the tables are between turns.

-- ---- the list of noted ports

-- the ports but this one
abbrev pub without_end : ℕ → List ℕ → List ℕ
without_end p = filter (λ x. not (eqb x p))

pub contains_without : (p : ℕ) (xs : List ℕ) (q : ℕ) → (q ≡ p → ⊥) → Contains xs q → Contains (without_end p xs) q
contains_without p [] q other c = c
contains_without p (x ∷ xs) q other (zero, below, is) = rw (ne_eqb x p (λ same. other (sym is ∙ same))) (zero, omega arith, is)
contains_without p (x ∷ xs) q other (suc i, below, is) = go (eqb x p) (contains_without p xs q other (i, omega (arith, below), is))
  where
    go : (b : Bool) → Contains (without_end p xs) q → Contains (if not b then x ∷ without_end p xs else without_end p xs) q
    go true c = c
    go false c = listed_later x (without_end p xs) q c

pub without_contains : (p : ℕ) (xs : List ℕ) (q : ℕ) → Contains (without_end p xs) q → Contains xs q
without_contains p [] q c = c
without_contains p (x ∷ xs) q c = go (eqb x p) c (λ d. without_contains p xs q d)
  where
    go : (b : Bool) → Contains (if not b then x ∷ without_end p xs else without_end p xs) q → (Contains (without_end p xs) q → Contains xs q) → Contains (x ∷ xs) q
    go true d ih = listed_later x xs q (ih d)
    go false (zero, below, is) ih = (zero, omega arith, is)
    go false (suc i, below, is) ih = listed_later x xs q (ih (i, omega (arith, below), is))

module _ (now : ℕ) (tables : WorldView) (old mid : State) (owed : Owed) (e : Ending) (w0 : WorldView) (b : Between now tables old mid owed e w0) (stage : AreLost mid e w0) (p : ℕ) (is_noted : Contains w0.ports.noted p) where
  -- the tables with the port taken out
  abbrev pub w : WorldView
  w = record w0 { ports = record w0.ports { noted = without_end p w0.ports.noted } }

  abbrev l : Loose now tables old mid owed e w
  l = loose_noted now tables old mid owed e w0 (loose_of now tables old mid owed e w0 b) (without_end p w0.ports.noted) w0.ports.spare w0.ports.destroyed b.tied.slots

  pub may_tell : CanTell w p
  may_tell = can_tell now tables old mid owed e w l b.tied.waiting b.unlost p

  lost_still : AreLost mid e w
  lost_still = record { judged = record { emptied = stage.judged.emptied; judged = stage.judged.judged; none_lost = stage.judged.none_lost }; none_destroyed = stage.none_destroyed }

  -- Nothing is told.
  pub nothing_told : ¬ (LivesIn w p × IsSenderless w p) → Between now tables old mid owed e w × AreLost mid e w
  nothing_told none = (
    between_of now tables old mid owed e w l b.tied.waiting
        (λ q alive some s. contains_without p w0.ports.noted q (λ same. none (subst (λ (k : ℕ). LivesIn w k × IsSenderless w k) same (lives_there now tables old mid owed e w l q alive, s)))
        (b.noted q alive some (record { live = s.live; asked = s.asked; none = s.none })))
        (λ q c. b.had q (without_contains p w0.ports.noted q c)) b.unlost,
    lost_still,
  )

  -- ---- it is told

  module _ (new : WorldView) (number : ℕ) (t : TellsNoSenders w p number new) where
    had : 0 < senders old p
    had = let a = b.had p is_noted in let c = b.senders p in omega (arith, a, c)

    made : t.v.attributes.make_send ≡ (outcome mid e).make_send p
    made = (b.tied.agrees.ports p t.v t.there).make_send ∙ b.tied.so_far.make_send p

    senderless_was : (u : WorldView) → u.requests ≡ ended w0.requests p → ((q : ℕ) → (counts_of u.ledger q).send ≡ 0 → (counts_of w0.ledger q).send ≡ 0) → (q : ℕ) → IsSenderless u q → (q ≡ p → ⊥) × IsSenderless w0 q
    senderless_was u requests sends q s = grind (arith, own_ended, get_removed)

    pub told : (f : Ending) × Between now tables old mid owed f new × IsCount e.turns f.turns number × SameSlots e w f new × AreLost mid f new
    told =
        let g = told_ended now tables old mid owed e w l b.tied.waiting b.unlost p t.notify t.asked stage.judged.judged t.lives had t.none t.v.attributes.make_send made lost_still
        (λ u requests sends q alive some s. let f = senderless_was u requests sends q s in contains_without p w0.ports.noted q f.0 (b.noted q alive some f.1))
        (λ q c. b.had q (without_contains p w0.ports.noted q c)) number new t.pays t.many in
        (g.0, g.1, g.2, g.3, g.4)

-- ---- the loop

first_noted : (xs : List ℕ) (p : ℕ) → slice_get xs 0 ≡ Some p → Contains xs p
first_noted [] p e = absurd (cc)
first_noted (x ∷ xs) p e = (0, omega arith, (let f : Some x ≡ Some p = e in cc))

module _ (old : WorldView) (so_many : ℕ) (w0 : WorldView) (so_far : Continues AreLost AreLost old so_many w0) (p : ℕ) (first : slice_get w0.ports.noted 0 ≡ Some p) where
  pub tells_next : IsAt AreLost old → CanTell (taken_out w0 p) p
  tells_next at =
      let r = so_far at.now at.tables at.old at.mid at.owed at.ending at.between at.stage_is in
      may_tell at.now at.tables at.old at.mid at.owed r.0 w0 r.1 r.4 p (first_noted w0.ports.noted p first)

  pub told_next : (number : ℕ) (new : WorldView) → TellsOf (taken_out w0 p) p number new → (sum : ℕ) → sum ≡ min (so_many + number) (2 ^ 64 - 1) → Continues AreLost AreLost old sum new
  told_next number new is sum sum_is now tables s mid owed e b stage = go is
    where
      r : (f : Ending) × Between now tables s mid owed f w0 × IsCount e.turns f.turns so_many × SameSlots e old f w0 × AreLost mid f w0
      r = so_far now tables s mid owed e b stage

      go : TellsOf (taken_out w0 p) p number new →
          (f : Ending) × Between now tables s mid owed f new × IsCount e.turns f.turns sum × SameSlots e old f new × AreLost mid f new
      go (inl t) =
          let g = told_of t in
          (g.0, g.1, count_joined e.turns r.0.turns g.0.turns so_many number sum r.2 g.2 sum_is, (let a = r.3 in let c = g.3 in omega (arith, a, c)), g.4)
        where
          told_of : (t : TellsNoSenders (taken_out w0 p) p number new) → (f : Ending) × Between now tables s mid owed f new × IsCount r.0.turns f.turns number × SameSlots r.0 (taken_out w0 p) f new × AreLost mid f new
          told_of t = told now tables s mid owed r.0 w0 r.1 r.4 p (first_noted w0.ports.noted p first) new number t
      go (inr (none, same, not)) =
          let g = nothing_told now tables s mid owed r.0 w0 r.1 r.4 p (first_noted w0.ports.noted p first) not in (
            r.0,
            subst (λ (u : WorldView). Between now tables s mid owed r.0 u) (sym same) g.0,
            (r.2.0, r.2.1, (let a = r.2.2 in omega (arith, a, none, sum_is))),
            subst (λ (u : WorldView). SameSlots e old r.0 u) (sym same) r.3,
            subst (λ (u : WorldView). AreLost mid r.0 u) (sym same) g.1,
          )

-- Nothing was told yet, and when no port is noted all is.
pub none_told : (w : WorldView) → Continues AreLost AreLost w 0 w
none_told w now tables old mid owed e b stage = (e, b, count_none e.turns, refl, stage)

pub all_told : (old : WorldView) (so_many : ℕ) (w : WorldView) → Continues AreLost AreLost old so_many w → w.ports.noted ≡ [] → Continues AreLost AreTold old so_many w
all_told old so_many w so_far none now tables s mid owed e b stage = grind (arith, so_far now tables s mid owed e b stage)

pub none_first : (xs : List ℕ) → slice_get xs 0 ≡ None → xs ≡ []
none_first [] e = refl
none_first (x ∷ xs) e = absurd (let f : Some x ≡ None = e in cc)

no_more : (p : ℕ) (xs : List ℕ) → length (without_end p xs) ≤ length xs
no_more p [] = omega arith
no_more p (x ∷ xs) = grind (arith, no_more p xs, x)

pub fewer_noted : (p : ℕ) (xs : List ℕ) → slice_get xs 0 ≡ Some p → length (without_end p xs) < length xs
fewer_noted p [] e = absurd (let f : None ≡ Some p = e in cc)
fewer_noted p (x ∷ xs) e = grind (arith, x, eq-eqb, no_more)

-- Telling leaves the noted ports.
noted_same : (w : WorldView) (p number : ℕ) (new : WorldView) → TellsOf w p number new → new.ports.noted ≡ w.ports.noted
noted_same w p number new (inr (none, same, not)) = ap (λ (u : WorldView). u.ports.noted) same
noted_same w p number new (inl t) = grind (arith, lives_or_not)

-- ---- as the loop has it

module _ (w0 taken : WorldView) (found : Option ℕ) (p : ℕ) (first : found ≡ slice_get w0.ports.noted 0) (some : found ≡ Some p) (out : IfSome found (λ q. taken ≡ taken_out w0 q)) where
  is_out : taken ≡ taken_out w0 p
  is_out = subst (λ (o : Option ℕ). IfSome o (λ q. taken ≡ taken_out w0 q)) some out

  is_first : slice_get w0.ports.noted 0 ≡ Some p
  is_first = sym first ∙ some

  pub loop_fewer : (number : ℕ) (new : WorldView) → TellsOf taken p number new → length new.ports.noted < length w0.ports.noted
  loop_fewer number new is = grind (arith, noted_same, is_out, fewer_noted, is_first)

  module _ (old : WorldView) (so_many : ℕ) (so_far : Continues AreLost AreLost old so_many w0) where
    pub loop_can : IsAt AreLost old → CanTell taken p
    loop_can at = subst (λ (u : WorldView). CanTell u p) (sym is_out) (tells_next old so_many w0 so_far p is_first at)

    pub loop_next : (number : ℕ) (new : WorldView) → TellsOf taken p number new → (sum : ℕ) → sum ≡ min (so_many + number) (2 ^ 64 - 1) → Continues AreLost AreLost old sum new
    loop_next number new is = told_next old so_many w0 so_far p is_first number new (subst (λ (u : WorldView). TellsOf u p number new) is_out is)

pub loop_done : (old : WorldView) (so_many : ℕ) (w0 new : WorldView) (found : Option ℕ) → Continues AreLost AreLost old so_many w0 → found ≡ slice_get w0.ports.noted 0 → found ≡ None → IfNone found (new ≡ w0) →
    Continues AreLost AreTold old so_many new
loop_done old so_many w0 new found so_far first none same =
    let is : new ≡ w0 = subst (λ (o : Option ℕ). IfNone o (new ≡ w0)) none same in
    subst (λ (u : WorldView). Continues AreLost AreTold old so_many u) (sym is) (all_told old so_many w0 so_far (none_first w0.ports.noted (sym first ∙ none)))
