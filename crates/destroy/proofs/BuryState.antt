-- The state after a burial, and the rights that pay in it.
use Rattle.std.proofs.Common.{◌≡◌, ℕ, zero, suc, ◌+◌, ◌<◌, ◌≤◌, List, [], ◌∷◌, ◌++◌, refl, sym, subst, ◌∙◌, arith, true, false, Bool, inl, inr, length, get_or, Option, Some, None, ap, ◌⊎◌}
use Rattle.std.specs.Prelude.{if◌then◌else◌, All, ◌==◌, ◌&&◌, not, filter, map, ◌||◌}
use Rattle.std.proofs.lemmas.Bool.{ne_eqb, eqb-true, eq-eqb}
use Rattle.std.proofs.lemmas.Bool.Decides.{eqb_tells}
use Rattle.std.proofs.lemmas.List.Elements.{All-head, All-tail, All-cons, All-append, All-map}
use Rattle.mach_types.specs.Tokens.{Kind, receive, send_once, Request, no_senders, port_destroyed, dead_name, Place, in_task, in_message, in_request, Token, token, weigh, count, is_of}
use Rattle.mach_model.specs.State.{State, at, Target, lookup}
use Rattle.mach_model.specs.Death.{same_place, Dies, IsSaved}
use Rattle.mach_model.specs.Notices.{Notice, port_deleted, port_sent, no_more_senders, right_unused, name_died, Owed, Posted, posted_tokens, all_posted_tokens, carried_by}
use Rattle.mach_model.specs.Settles.{tokens_of}
use Rattle.mach_model.specs.Midway.{MidLawful}
use Rattle.mach_model.specs.Turns.{Begun, Ending, owed_in, went_in, listed, is_among, IsReached, lives_after, became_dead, has_ended, IsNameOf, IsRequestOf}
use Rattle.mach_model.proofs.Names.{weigh-append, count_le, left_of}
use Rattle.mach_model.proofs.Settling.{is_at, own_test}
use Rattle.mach_model.proofs.SettledDetermined.{weigh-same}
use Rattle.mach_model.proofs.SettledReceives.{dead_cases, place_is, of_kind, two_le, and_false}
use Rattle.mach_model.proofs.TurnsSettle.{IsSound, IsPaidAt, dies_unsaved}
use Rattle.mach_model.proofs.TurnsCounted.{reached_sound}
use Rattle.notifications.specs.SoFar.{due_so_far, posted_from, buried_alone, IsSoFar}
use Rattle.notifications.proofs.NoticePosted.{filter_weigh}

-- ---- The rights that notices brought to ports that are there, once a port more has gone.

-- ---- notices of one port

-- A receive right that the notice brings is neither the port's nor brought to it.
abbrev pub IsFine : (port : ℕ) → ℕ × Notice → Type 0
IsFine port y = (r : ℕ) → y.1 ≡ port_sent r → (r ≡ port → ⊥) × (y.0 ≡ port → ⊥)

module _ (port : ℕ) (h : Token → ℕ) (live : ℕ → Bool) where
  -- the weight of rights for other ports
  abbrev pub elsewhere : Token → ℕ
  elsewhere x = if x.port == port then 0 else h x

  abbrev pub lives_else : ℕ → Bool
  lives_else q = live q && not (q == port)

  carried_same : (n : Notice) (place : Place) → ((r : ℕ) → n ≡ port_sent r → r ≡ port → ⊥) → weigh elsewhere (carried_by n place) ≡ weigh h (carried_by n place)
  carried_same (port_deleted name) place not = refl
  carried_same (port_sent r) place not = let e = ne_eqb r port (not r refl) in rw e refl
  carried_same (no_more_senders k) place not = refl
  carried_same right_unused place not = refl
  carried_same (name_died name) place not = refl

  none_carried : (n : Notice) (place : Place) → ((r : ℕ) → n ≡ port_sent r → ⊥) → weigh elsewhere (carried_by n place) ≡ 0
  none_carried (port_deleted name) place not = refl
  none_carried (port_sent r) place not = absurd (not r refl)
  none_carried (no_more_senders k) place not = refl
  none_carried right_unused place not = refl
  none_carried (name_died name) place not = refl

  tokens_same : (q k : ℕ) (n : Notice) → IsFine port (q, n) → (q == port) ≡ false →
      weigh elsewhere (posted_tokens (record { port = q; entry = k; notice = n })) ≡ weigh h (posted_tokens (record { port = q; entry = k; notice = n }))
  tokens_same q k n fine other = grind (arith, carried_same)

  no_tokens : (q k : ℕ) (n : Notice) → IsFine port (q, n) → (q == port) ≡ true → weigh elsewhere (posted_tokens (record { port = q; entry = k; notice = n })) ≡ 0
  no_tokens q k n fine same = grind (arith, none_carried, eqb-true)

  pub left_posted : (ys : List (ℕ × Notice)) (ends : ℕ → ℕ) → All (IsFine port) ys →
      weigh elsewhere (all_posted_tokens (filter (λ (x : Posted). live x.port) (posted_from ends ys))) ≡ weigh h (all_posted_tokens (filter (λ (x : Posted). lives_else x.port) (posted_from ends ys)))
  left_posted [] ends all = refl
  left_posted (y ∷ ys) ends all = go (live y.0) (y.0 == port) refl (All-head (IsFine port) y ys all) (left_posted ys (at ends y.0 (ends y.0 + 1)) (All-tail (IsFine port) y ys all))
    where
      first : Posted
      first = record { port = y.0; entry = ends y.0; notice = y.1 }

      rest : List Posted
      rest = posted_from (at ends y.0 (ends y.0 + 1)) ys

      go : (b c : Bool) → (y.0 == port) ≡ c → IsFine port y →
          weigh elsewhere (all_posted_tokens (filter (λ (x : Posted). live x.port) rest)) ≡ weigh h (all_posted_tokens (filter (λ (x : Posted). lives_else x.port) rest)) →
          weigh elsewhere (all_posted_tokens (if b then first ∷ filter (λ (x : Posted). live x.port) rest else filter (λ (x : Posted). live x.port) rest))
          ≡ weigh h (all_posted_tokens (if b && not c then first ∷ filter (λ (x : Posted). lives_else x.port) rest else filter (λ (x : Posted). lives_else x.port) rest))
      go false c is fine ih = ih
      go true true is fine ih =
          let a = weigh-append elsewhere (posted_tokens first) (all_posted_tokens (filter (λ (x : Posted). live x.port) rest)) in
          let b = no_tokens y.0 (ends y.0) y.1 fine is in
          omega (arith, a, b, ih)
      go true false is fine ih =
          let a = weigh-append elsewhere (posted_tokens first) (all_posted_tokens (filter (λ (x : Posted). live x.port) rest)) in
          let b = weigh-append h (posted_tokens first) (all_posted_tokens (filter (λ (x : Posted). lives_else x.port) rest)) in
          let c = tokens_same y.0 (ends y.0) y.1 fine is in
          omega (arith, a, b, c, ih)

-- ---- what was posted so far

abbrev Fine : ℕ → Token × Notice → Type 0
Fine port x = IsFine port (x.0.port, x.1)

no_bring : (port q : ℕ) (n : Notice) → ((r : ℕ) → n ≡ port_sent r → ⊥) → IsFine port (q, n)
no_bring port q n none r is = absurd (none r is)

begun_all : (P : Token × Notice → Type 0) (ys : Begun) → All P (owed_in ys) → All P (went_in ys) → All P (map (λ y. y.1) ys)
begun_all P [] a b = λ k d below. absurd (omega arith)
begun_all P (y ∷ ys) a b = go y.0 a b (begun_all P ys)
  where
    go : (c : Bool) → All P (if c then y.1 ∷ owed_in ys else owed_in ys) → All P (if c then went_in ys else y.1 ∷ went_in ys) → (All P (owed_in ys) → All P (went_in ys) → All P (map (λ y. y.1) ys)) → All P (y.1 ∷ map (λ y. y.1) ys)
    go true a b rest = All-cons P y.1 (map (λ y. y.1) ys) (All-head P y.1 (owed_in ys) a) (rest (All-tail P y.1 (owed_in ys) a) b)
    go false a b rest = All-cons P y.1 (map (λ y. y.1) ys) (All-head P y.1 (went_in ys) b) (rest a (All-tail P y.1 (went_in ys) b))

owed_brings : (n : Notice) → ((place : Place) → carried_by n place ≡ []) → (r : ℕ) → n ≡ port_sent r → ⊥
owed_brings n none r is = let a : token receive r (in_task 0) ∷ [] ≡ [] = subst (λ (m : Notice). carried_by m (in_task 0) ≡ []) is (none (in_task 0)) in cc

same_sent : (p r : ℕ) → port_sent p ≡ port_sent r → p ≡ r
same_sent p r e = cc

module _ (old mid : State) (owed : Owed) (e : Ending) (l : MidLawful mid owed) (reached : IsReached old mid owed e) (port : ℕ) (doomed : listed e.doomed port ≡ true) where
  abbrev sound : IsSound old mid owed e
  sound = reached_sound old mid owed e reached

  dies : Dies mid port
  dies = sound.doomed port doomed

  -- the port of the right that a request to be sent away kept has its receive right with a task, so it doesn't die
  notify_survives : (p : ℕ) (s : IsSaved mid p) → s.notify ≡ port → ⊥
  notify_survives p s is = elim (dead_cases mid s.notify (subst (Dies mid) (sym is) dies)) [
    | inl o ↦ (let e = own in let f = o.1 in let g = s.with_task in omega (arith, e, f, g))
    | inr c ↦ (
        let two = two_le (is_of receive s.notify) (λ x. same_place (in_task s.task) x.place) (λ x. same_place (in_message c.0 c.1.0) x.place)
        (λ x t u. let e = place_is (in_task s.task) x.place t in let f = place_is (in_message c.0 c.1.0) x.place u in
        let g : in_task s.task ≡ in_message c.0 c.1.0 = sym e ∙ f in cc) mid.ledger in
        let m = l.most_receive s.notify in let g = s.with_task in let h = c.1.1 in omega (arith, two, m, g, h))
  ]
    where
      own : count (λ x. is_of receive s.notify x && same_place (in_task s.task) x.place) mid.ledger ≤ count (is_of receive s.notify) mid.ledger
      own = count_le (λ x. is_of receive s.notify x && same_place (in_task s.task) x.place) (is_of receive s.notify) (λ x t. left_of _ _ t) mid.ledger

  -- two rights of one request are for one port
  one_port : (r : Request) (p q : ℕ) → 0 < count (λ x. is_of send_once p x && same_place (in_request r) x.place) mid.ledger → 0 < count (λ x. is_of send_once q x && same_place (in_request r) x.place) mid.ledger → p ≡ q
  one_port r p q a b = elim (eqb_tells p q) [
    | inl h ↦ h.1
    | inr h ↦ (
        let two = two_le (λ x. same_place (in_request r) x.place) (λ x. is_of send_once p x) (λ x. is_of send_once q x)
        (λ x t u. h.1 (sym (of_kind send_once p x t).1 ∙ (of_kind send_once q x u).1)) mid.ledger in
        let c = swapped (λ x. same_place (in_request r) x.place) (is_of send_once p) in
        let d = swapped (λ x. same_place (in_request r) x.place) (is_of send_once q) in
        let one = l.one_kept r in
        absurd (omega (arith, two, c, d, one, a, b)))
  ]
    where
      and_swap : (a b : Bool) → (a && b) ≡ true → (b && a) ≡ true
      and_swap true true is = refl
      and_swap true false is = absurd (cc)
      and_swap false b is = absurd (cc)

      swapped : (f g : Token → Bool) → count (λ x. g x && f x) mid.ledger ≤ count (λ x. f x && g x) mid.ledger
      swapped f g = count_le (λ x. g x && f x) (λ x. f x && g x) (λ x t. and_swap (g x) (f x) t) mid.ledger

  fine_paid : (k : ℕ) (d : Token × Notice) → k < length e.paid → Fine port (get_or e.paid k d)
  fine_paid k d below = go (x.0.place) refl (sound.paid k d below).1
    where
      x : Token × Notice
      x = get_or e.paid k d

      some_mid : 0 < count (is_at x.0.kind x.0.port x.0.place) mid.ledger
      some_mid =
          let a = sound.parts (λ y. if is_at x.0.kind x.0.port x.0.place y then 1 else 0) in
          let b = some_token e.paid k d below in omega (arith, a, b)
        where
          some_token : (xs : Owed) (k : ℕ) (d : Token × Notice) → k < length xs →
              0 < count (is_at (get_or xs k d).0.kind (get_or xs k d).0.port (get_or xs k d).0.place) (tokens_of xs)
          some_token [] k d below = absurd (omega (arith, below))
          some_token (z ∷ zs) zero d below = let a = own_test z.0 in let b : (if is_at z.0.kind z.0.port z.0.place z.0 then suc zero else zero) ≡ suc zero = rw a refl in omega (arith, b)
          some_token (z ∷ zs) (suc k) d below = let a = some_token zs k d (omega (arith, below)) in omega (arith, a)

      go : (place : Place) → x.0.place ≡ place → IsPaidAt mid e.told place x.1 → Fine port x
      go (in_task task) at h = absurd h
      go (in_message q k) at h = no_bring port x.0.port x.1 (λ r is. let a : right_unused ≡ port_sent r = sym h.1 ∙ is in cc)
      go (in_request (no_senders p)) at (inl h) = no_bring port x.0.port x.1 (λ r is. let a : right_unused ≡ port_sent r = sym h.1 ∙ is in cc)
      go (in_request (no_senders p)) at (inr (t, inl h)) = no_bring port x.0.port x.1 (λ r is. let a : no_more_senders 0 ≡ port_sent r = sym h.1 ∙ is in cc)
      go (in_request (no_senders p)) at (inr (t, inr h)) = no_bring port x.0.port x.1 (λ r is. let a : no_more_senders (mid.make_send p) ≡ port_sent r = sym h.1 ∙ is in cc)
      go (in_request (port_destroyed p)) at (inl h) = no_bring port x.0.port x.1 (λ r is. let a : right_unused ≡ port_sent r = sym h.1 ∙ is in cc)
      go (in_request (port_destroyed p)) at (inr h) = λ r is.
          let same : p ≡ r = same_sent p r (sym h.1 ∙ is) in (
            (λ is_port. dies_unsaved mid port dies (subst (IsSaved mid) (same ∙ is_port) h.0.0)),
            (λ is_port. notify_survives p h.0.0 (sym (one_port (port_destroyed p) x.0.port h.0.0.notify
                (subst (λ (kind : Kind). 0 < count (λ y. is_of kind x.0.port y && same_place (in_request (port_destroyed p)) y.place) mid.ledger) (sound.paid k d below).0
                (subst (λ (place : Place). 0 < count (is_at x.0.kind x.0.port place) mid.ledger) at some_mid)) h.0.0.kept) ∙ is_port)),
          )
      go (in_request (dead_name t n)) at h = no_bring port x.0.port x.1 (λ r is. let a : name_died n ≡ port_sent r = sym h.2 ∙ is in cc)

  fine_begun : All (Fine port) (map (λ y. y.1) e.begun)
  fine_begun = begun_all (Fine port) e.begun
      (subst (λ (xs : Owed). All (Fine port) xs) (sym sound.owes) (λ k d below. no_bring port _ _ (owed_brings _ (l.are_owed k d below).carries)))
      (λ k d below. no_bring port _ _ (λ r is. let h = sound.went k d below in let a : port_deleted h.name ≡ port_sent r = sym h.tells ∙ is in cc))

  pub all_fine : All (IsFine port) (due_so_far e)
  all_fine = All-map (IsFine port) (λ x. (x.0.port, x.1)) (map (λ y. y.1) e.begun ++ e.paid) (All-append (Fine port) (map (λ y. y.1) e.begun) e.paid fine_begun fine_paid)

-- ---- The state after a burial: the port is dead, with all rights for it.

-- ---- lists of rights

abbrev pub is_off : ℕ → Token → Bool
is_off port x = not (x.port == port)

-- rights for other ports stay
pub count_else : (port : ℕ) (test : Token → Bool) → ((x : Token) → x.port ≡ port → test x ≡ false) → (xs : List Token) → count test (filter (is_off port) xs) ≡ count test xs
count_else port test none xs = grind (arith, filter_weigh, weigh-same)

pub none_here : (port : ℕ) (test : Token → Bool) → ((x : Token) → (x.port ≡ port → ⊥) → test x ≡ false) → (xs : List Token) → count test (filter (is_off port) xs) ≡ 0
none_here port test none xs = filter_weigh (λ x. if test x then 1 else 0) (is_off port) xs
    ∙ weigh-same (λ x. if is_off port x then (if test x then 1 else 0) else 0) (λ x. 0) same xs ∙ all_zero xs
  where
    same : (x : Token) → (if is_off port x then (if test x then suc zero else zero) else zero) ≡ zero
    same x = elim (eqb_tells x.port port) [
      | inl h ↦ rw h.0 refl
      | inr h ↦ rw (h.0, none x h.1) refl
    ]

    all_zero : (xs : List Token) → weigh (λ x. 0) xs ≡ 0
    all_zero [] = refl
    all_zero (x ∷ xs) = omega (arith, all_zero xs)

-- ---- what a dead port's requests are

module _ (mid : State) (e : Ending) (port : ℕ) where
  abbrev before : Ending
  before = buried_alone e

  abbrev after : Ending
  after = record before { doomed = port ∷ e.buried }

  pub lives_else_after : (p : ℕ) → (lives_after mid before p && not (p == port)) ≡ lives_after mid after p
  lives_else_after p = grind arith

  lives_other : (p : ℕ) → (p ≡ port → ⊥) → lives_after mid after p ≡ lives_after mid before p
  lives_other p not = let h = ne_eqb p port not in rw h refl

  pub dead_own : lives_after mid after port ≡ false
  dead_own = let h = eq-eqb port port refl in rw h (and_false (mid.live_port port))

  dead_as : (p : ℕ) → p ≡ port → lives_after mid after p ≡ false
  dead_as p is = subst (λ (k : ℕ). lives_after mid after k ≡ false) (sym is) dead_own

  name_ended : (o : Option Target) → IsNameOf port o → became_dead mid after o ≡ true
  name_ended None h = absurd h
  name_ended (Some (Target.port q)) h = let d = dead_as q h in rw d refl
  name_ended (Some (Target.once q)) h = let d = dead_as q h in rw d refl
  name_ended (Some (Target.dead n)) h = absurd h
  name_ended (Some (Target.set n)) h = absurd h

  name_same : (o : Option Target) → (IsNameOf port o → ⊥) → became_dead mid after o ≡ became_dead mid before o
  name_same None h = refl
  name_same (Some (Target.port q)) h = ap not (lives_other q h)
  name_same (Some (Target.once q)) h = ap not (lives_other q h)
  name_same (Some (Target.dead n)) h = refl
  name_same (Some (Target.set n)) h = refl

  is_name : (o : Option Target) → IsNameOf port o ⊎ (IsNameOf port o → ⊥)
  is_name None = inr (λ h. h)
  is_name (Some (Target.port q)) = grind arith
  is_name (Some (Target.once q)) = grind arith
  is_name (Some (Target.dead n)) = inr (λ h. h)
  is_name (Some (Target.set n)) = inr (λ h. h)

  pub of_port : (r : Request) → IsRequestOf mid port r ⊎ (IsRequestOf mid port r → ⊥)
  of_port (no_senders p) = grind arith
  of_port (port_destroyed p) = grind arith
  of_port (dead_name t n) = is_name (lookup mid t n)

  pub own_ended : (r : Request) → IsRequestOf mid port r → has_ended mid after r ≡ true
  own_ended (no_senders p) h = let d = dead_as p h in rw d refl
  own_ended (port_destroyed p) h = let d = dead_as p h in rw d refl
  own_ended (dead_name t n) h = name_ended (lookup mid t n) h

  pub other_ended : (r : Request) → (IsRequestOf mid port r → ⊥) → has_ended mid after r ≡ has_ended mid before r
  other_ended (no_senders p) h = ap (λ (b : Bool). not b || listed e.told p) (lives_other p h)
  other_ended (port_destroyed p) h = ap (λ (b : Bool). not b || listed e.saved p) (lives_other p h)
  other_ended (dead_name t n) h = name_same (lookup mid t n) h

-- no request of the port stands
pub none_stands : (now : ℕ) (mid : State) (e : Ending) (port : ℕ) (s : State) → IsSoFar now mid e s → ((r : Request) → mid.stands r ≡ true → IsRequestOf mid port r → is_among e.ended r ≡ true) →
    (r : Request) → IsRequestOf mid port r → s.stands r ≡ false
none_stands now mid e port s f every r of = f.stands r ∙ go (mid.stands r) refl
  where
    go : (b : Bool) → mid.stands r ≡ b → (if is_among e.ended r then false else mid.stands r && not (has_ended mid (buried_alone e) r)) ≡ false
    go true is = rw (every r is of) refl
    go false is = rw is (both (is_among e.ended r))
      where
        both : (c : Bool) → (if c then false else false) ≡ false
        both true = refl
        both false = refl
