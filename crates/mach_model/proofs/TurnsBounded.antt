-- How many turns a chain has, in the machine's own numbers.
use Rattle.std.proofs.Common.{◌≡◌, ℕ, suc, zero, ◌+◌, ◌<◌, ◌≤◌, List, [], ◌∷◌, refl, sym, ap, subst, ◌∙◌, arith, true, false, Bool, inl, inr, length}
use Rattle.std.specs.Prelude.{if◌then◌else◌, All, ◌==◌, ◌&&◌, ◌||◌, not, drop}
use Rattle.std.proofs.lemmas.List.Elements.{All-cons, All-head, All-tail}
use Rattle.std.proofs.lemmas.Bool.{eq-eqb, ne_eqb, eqb-true, false_from_ne_true}
use Rattle.std.proofs.lemmas.Bool.Decides.{eqb_tells}
use Rattle.mach_types.specs.Tokens.{Place, in_task, in_message, in_request, Token, count}
use Rattle.mach_model.specs.State.{State, queue}
use Rattle.mach_model.specs.Death.{Dies, IsSentAway}
use Rattle.mach_model.specs.Notices.{Notice, Owed}
use Rattle.mach_model.specs.Settles.{tokens_of, Settles}
use Rattle.mach_model.specs.Lawful.{tally, IsLawful}
use Rattle.mach_model.specs.Midway.{MidLawful}
use Rattle.mach_model.specs.Turns.{Begun, owed_in, went_in, Ending, listed, IsReached, IsDone, AreJudged, IsWaiting, PaidForName}
use Rattle.mach_model.specs.Work.{number, total, has_died, deaths, destroyed_with, is_spent_at, is_spent, IsBounded}
use Rattle.mach_model.proofs.Names.{lying_le_of}
use Rattle.mach_model.proofs.Settling.{lives}
use Rattle.mach_model.proofs.SettledReceives.{or_cases, less, eq_symm}
use Rattle.mach_model.proofs.TurnsSettle.{all_doomed, IsPaidAt, HasPaid, DiesAround, HasGone, IsSound, end_of, paid_leaves, weaker}
use Rattle.mach_model.proofs.TurnsCounted.{listed_first, listed_later, reached_sound, reached_counted, AreTurnsCounted, is_queued, lost_in, dead_lived, IsFew, reached_few}
use Rattle.mach_model.proofs.SettledLawful.{settled_lawful}
use Rattle.mach_model.proofs.TurnsMade.{reached_settles}

-- ---- how many numbers are listed

abbrev times : ℕ → List ℕ → ℕ
times n ps = tally (λ q. n == q) ps

abbrev under : ℕ → List ℕ → ℕ
under n ps = number (λ p. listed ps p) n

pub number_same : (f g : ℕ → Bool) → (n : ℕ) → ((p : ℕ) → p < n → f p ≡ g p) → number f n ≡ number g n
number_same f g zero same = refl
number_same f g (suc n) same = grind (arith, number_same f g n (λ p h. same p (omega (arith, h))))

number_none : (f : ℕ → Bool) (n : ℕ) → ((p : ℕ) → p < n → f p ≡ false) → number f n ≡ 0
number_none f zero none = refl
number_none f (suc n) none = let a = none n (omega arith) in let b = number_none f n (λ p h. none p (omega (arith, h))) in rw a (omega (arith, b))

-- a number more in the list
number_more : (p : ℕ) (ps : List ℕ) (n : ℕ) → listed ps p ≡ false → p < n → under n (p ∷ ps) ≡ 1 + under n ps
number_more p ps zero none below = absurd (omega (arith, below))
number_more p ps (suc n) none below = elim (eqb_tells n p) [
  | inl h ↦ (let rest = number_same (λ q. listed (p ∷ ps) q) (λ q. listed ps q) n (λ q first. other q (λ is. let e = h.1 in omega (arith, first, is, e))) in
      let a : listed ps n ≡ false = ap (listed ps) h.1 ∙ none in
      rw (h.0, a) (omega (arith, rest)))
  | inr h ↦ (let rest = number_more p ps n none (less p n (omega (arith, below)) (λ is. h.1 (sym is))) in rw h.0 (omega (arith, rest)))
]
  where
    other : (q : ℕ) → (q ≡ p → ⊥) → listed (p ∷ ps) q ≡ listed ps q
    other q not = rw (ne_eqb q p not)

listed_times : (ps : List ℕ) (p : ℕ) → listed ps p ≡ true → 0 < times p ps
listed_times [] p h = absurd (cc)
listed_times (q ∷ ps) p h = go (p == q) h (λ more. listed_times ps p more)
  where
    go : (b : Bool) → (b || listed ps p) ≡ true → (listed ps p ≡ true → 0 < times p ps) → 0 < (if b then suc zero else zero) + times p ps
    go true h ih = omega arith
    go false h ih = let a = ih h in omega (arith, a)

-- Numbers that are listed once each are as many as the list is long.
once_number : (ps : List ℕ) (n : ℕ) → ((p : ℕ) → times p ps ≤ 1) → All (λ p. p < n) ps → under n ps ≡ length ps
once_number [] n once all = number_none (λ p. false) n (λ p h. refl)
once_number (p ∷ ps) n once all =
    let none : listed ps p ≡ false = false_from_ne_true (listed ps p) (λ h. own (once p) (listed_times ps p h)) in
    let a = number_more p ps n none (All-head (λ q. q < n) p ps all) in
    let b = once_number ps n (λ q. let o = once q in omega (arith, o)) (All-tail (λ q. q < n) p ps all) in
    omega (arith, a, b)
  where
    own : times p (p ∷ ps) ≤ 1 → 0 < times p ps → ⊥
    own o some = let e : (if p == p then suc zero else zero) ≡ suc zero = rw (eq-eqb p p refl) refl in omega (arith, o, some, e)

number_most : (f : ℕ → Bool) (first many : ℕ) → ((p : ℕ) → p < first → f p ≡ false) → number f (first + many) ≤ many
number_most f first zero none = let a = number_none f (first + zero) (λ p h. none p (omega (arith, h))) in omega (arith, a)
number_most f first (suc many) none =
    let e : first + suc many ≡ suc (first + many) = omega arith in
    let ih = number_most f first many none in
    let a : (if f (first + many) then suc zero else zero) ≤ 1 = one (f (first + many)) in
    rw e (omega (arith, ih, a))
  where
    one : (b : Bool) → (if b then suc zero else zero) ≤ 1
    one true = omega arith
    one false = omega arith

listed_all : (P : ℕ → Type 0) (ps : List ℕ) → ((p : ℕ) → listed ps p ≡ true → P p) → All P ps
listed_all P [] each = λ k d below. absurd (omega arith)
listed_all P (p ∷ ps) each = All-cons P p ps (each p (listed_first p ps)) (listed_all P ps (λ q h. each q (listed_later p ps q h)))

all_listed : (P : ℕ → Type 0) (ps : List ℕ) → All P ps → (p : ℕ) → listed ps p ≡ true → P p
all_listed P [] all p h = absurd (cc)
all_listed P (q ∷ ps) all p h = elim (or_cases (p == q) (listed ps p) h) [
  | inl is ↦ subst P (sym (eqb-true p q is)) (All-head P q ps all)
  | inr was ↦ all_listed P ps (All-tail P q ps all) p was
]

-- ---- the entries of each port

-- those of the port
abbrev entries : ℕ → List (ℕ × ℕ) → List ℕ
entries p [] = []
entries p (m ∷ ms) = if m.0 == p then m.1 ∷ entries p ms else entries p ms

entries_times : (p k : ℕ) (ms : List (ℕ × ℕ)) → times k (entries p ms) ≡ tally (λ m. p == m.0 && k == m.1) ms
entries_times p k [] = refl
entries_times p k (m ∷ ms) = grind (arith, entries_times p k ms, eq_symm)

entries_all : (P : ℕ × ℕ → Type 0) (p : ℕ) (ms : List (ℕ × ℕ)) → All P ms → All (λ k. P (p, k)) (entries p ms)
entries_all P p [] all = λ k d below. absurd (omega arith)
entries_all P p (m ∷ ms) all = elim (eqb_tells m.0 p) [
  | inl h ↦ rw h.0 (All-cons (λ k. P (p, k)) m.1 (entries p ms) (subst (λ (q : ℕ). P (q, m.1)) h.1 (All-head P m ms all)) (entries_all P p ms (All-tail P m ms all)))
  | inr h ↦ rw h.0 (entries_all P p ms (All-tail P m ms all))
]

pub total_fewer : (f g : ℕ → ℕ) (n : ℕ) → ((p : ℕ) → p < n → f p ≤ g p) → total f n ≤ total g n
total_fewer f g zero same = omega arith
total_fewer f g (suc n) same = let a = same n (omega arith) in let b = total_fewer f g n (λ p h. same p (omega (arith, h))) in omega (arith, a, b)

pub total_zero : (n : ℕ) → total (λ p. 0) n ≡ 0
total_zero zero = refl
total_zero (suc n) = let a = total_zero n in omega (arith, a)

pub total_both : (f g : ℕ → ℕ) (n : ℕ) → total (λ p. f p + g p) n ≡ total f n + total g n
total_both f g zero = refl
total_both f g (suc n) = let a = total_both f g n in omega (arith, a)

-- each notice that is owed is at one port
pub one_at : (q n : ℕ) → total (λ p. if q == p then 1 else 0) n ≤ 1
one_at q zero = omega arith
one_at q (suc n) = elim (eqb_tells q n) [
  | inl h ↦ (let a = total_fewer (λ p. if q == p then 1 else 0) (λ p. 0) n (λ p below. let e' = ne_eqb q p (λ is. let k = h.1 in omega (arith, below, is, k)) in rw e' (omega arith)) in
      let b = total_zero n in rw h.0 (omega (arith, a, b)))
  | inr h ↦ (let a = one_at q n in rw h.0 (omega (arith, a)))
]

pub owed_at : (xs : Owed) (n : ℕ) → total (λ p. tally (λ y. y.0.port == p) xs) n ≤ length xs
owed_at [] n = let a = total_zero n in omega (arith, a)
owed_at (x ∷ xs) n = let a = total_both (λ p. if x.0.port == p then 1 else 0) (λ p. tally (λ y. y.0.port == p) xs) n in let b = one_at x.0.port n in let c = owed_at xs n in omega (arith, a, b, c)

-- one entry more, of a port that is one of the first
total_more : (m : ℕ × ℕ) (ms : List (ℕ × ℕ)) (n : ℕ) → m.0 < n → total (λ p. length (entries p (m ∷ ms))) n ≡ 1 + total (λ p. length (entries p ms)) n
total_more m ms zero below = absurd (omega (arith, below))
total_more m ms (suc n) below = elim (eqb_tells m.0 n) [
  | inl h ↦ (let rest = others n (λ p first is. let e = h.1 in omega (arith, first, is, e)) in
      rw h.0 (omega (arith, rest)))
  | inr h ↦ (let rest = total_more m ms n (less m.0 n (omega (arith, below)) h.1) in rw h.0 (omega (arith, rest)))
]
  where
    others : (k : ℕ) → ((p : ℕ) → p < k → m.0 ≡ p → ⊥) → total (λ p. length (entries p (m ∷ ms))) k ≡ total (λ p. length (entries p ms)) k
    others zero not = refl
    others (suc k) not = let a = others k (λ p h. not p (omega (arith, h))) in rw (ne_eqb m.0 k (not k (omega arith))) (omega (arith, a))

entries_length : (ms : List (ℕ × ℕ)) (n : ℕ) → All (λ m. m.0 < n) ms → length ms ≡ total (λ p. length (entries p ms)) n
entries_length [] n all = sym (total_zero n)
entries_length (m ∷ ms) n all = grind (arith, total_more m ms n (All-head (λ m. m.0 < n) m ms all), entries_length ms n (All-tail (λ m. m.0 < n) m ms all))

-- how long the list is that is left behind the first
length_drop : {A : Type 0} (n : ℕ) (xs : List A) → length xs ≤ n + length (drop n xs)
length_drop zero xs = omega arith
length_drop (suc n) [] = omega arith
length_drop (suc n) (x ∷ xs) = let a = length_drop n xs in omega (arith, a)

-- ---- the bound

module _ (now : ℕ) (old mid : State) (owed : Owed) (e : Ending) (l : MidLawful mid owed) (r : IsReached old mid owed e) where
  sound : IsSound old mid owed e
  sound = reached_sound old mid owed e r

  counted : AreTurnsCounted mid e
  counted = reached_counted old mid owed e r

  sent_lived : (p : ℕ) → IsSentAway mid p → mid.live_port p ≡ true
  sent_lived p (saved, why) = grind (arith, lives, lying_le_of)

  doomed_made : (p : ℕ) → listed e.doomed p ≡ true → p < mid.ports_made
  doomed_made p h = l.made_port p (dead_lived mid owed l p (sound.doomed p h))

  abbrev new : State
  new = end_of now mid e

  died_is : (p : ℕ) → listed e.doomed p ≡ has_died mid new p
  died_is p = grind (arith, dead_lived mid owed l, sound)

  many_died : number (has_died mid new) mid.ports_made ≡ length e.doomed
  many_died =
      let a = number_same (λ p. listed e.doomed p) (has_died mid new) mid.ports_made (λ p h. died_is p) in
      let b = once_number e.doomed mid.ports_made (λ p. let o = counted.port_once p in omega (arith, o)) (listed_all (λ p. p < mid.ports_made) e.doomed doomed_made) in
      omega (arith, a, b)

  many_sent : number (listed e.saved) mid.ports_made ≡ length e.saved
  many_sent = once_number e.saved mid.ports_made (λ p. let o = counted.port_once p in omega (arith, o)) (listed_all (λ p. p < mid.ports_made) e.saved (λ p h. l.made_port p (sent_lived p (sound.saved p h))))

  abbrev WasDestroyed : ℕ × ℕ → Type 0
  WasDestroyed m = (listed e.doomed m.0 ≡ true) × IsWaiting mid e m

  -- how many wait at the port, with the notices that the step's own part posted there
  abbrev waiting_at : ℕ → ℕ
  waiting_at p = length (queue mid p) + tally (λ y. y.1.0.port == p) e.begun

  -- at each port no more are destroyed than waited there
  few_entries : (p : ℕ) → length (entries p e.destroyed) ≤ (if has_died mid new p then waiting_at p else 0)
  few_entries p = go (has_died mid new p) refl
    where
      all : All (λ k. WasDestroyed (p, k)) (entries p e.destroyed)
      all = entries_all WasDestroyed p e.destroyed counted.destroyed

      once : (k : ℕ) → times k (entries p e.destroyed) ≤ 1
      once k = let a = entries_times p k e.destroyed in let b = counted.message_once (p, k) in omega (arith, a, b)

      below : All (λ k. k < mid.taken p + waiting_at p) (entries p e.destroyed)
      below k d within = let h = all k d within in let a = h.1.1 in let b = length_drop (mid.taken p) (mid.log p) in omega (arith, a, b)

      early : (k : ℕ) → k < mid.taken p → listed (entries p e.destroyed) k ≡ false
      early k h = false_from_ne_true (listed (entries p e.destroyed) k) (λ is. let w = all_listed (λ k. WasDestroyed (p, k)) (entries p e.destroyed) all k is in let a = w.1.0 in omega (arith, h, a))

      go : (b : Bool) → has_died mid new p ≡ b → length (entries p e.destroyed) ≤ (if b then waiting_at p else 0)
      go true is =
          let a = once_number (entries p e.destroyed) (mid.taken p + waiting_at p) once below in
          let b = number_most (λ k. listed (entries p e.destroyed) k) (mid.taken p) (waiting_at p) early in omega (arith, a, b)
      go false is = none (entries p e.destroyed) all
        where
          none : (ks : List ℕ) → All (λ k. WasDestroyed (p, k)) ks → length ks ≤ 0
          none [] each = omega arith
          none (k ∷ ks) each = absurd (let h = (All-head (λ k. WasDestroyed (p, k)) k ks each).0 in let d = died_is p in cc)

  many_destroyed : length e.destroyed ≤ total (λ p. if has_died mid new p then waiting_at p else 0) mid.ports_made
  many_destroyed = grind (
    arith,
    entries_length e.destroyed mid.ports_made (λ k d below. doomed_made _ (counted.destroyed k d below).0),
    total_fewer (λ p. length (entries p e.destroyed)) (λ p. if has_died mid new p then waiting_at p else 0) mid.ports_made (λ p h. few_entries p),
  )

  -- ---- notices that the step's own part posted

  begun_parts : (p : ℕ) (ys : Begun) → tally (λ y. y.1.0.port == p) ys ≡ tally (λ y. y.0.port == p) (owed_in ys) + tally (λ y. y.0.port == p) (went_in ys)
  begun_parts p [] = refl
  begun_parts p ((true, y) ∷ ys) = let a = begun_parts p ys in omega (arith, a)
  begun_parts p ((false, y) ∷ ys) = let a = begun_parts p ys in omega (arith, a)

  abbrev went : Owed
  went = went_in e.begun

  few_begun : (p : ℕ) (b : Bool) → (if b then waiting_at p else 0) ≤ (if b then length (queue mid p) + tally (λ y. y.0.port == p) owed else 0) + tally (λ y. y.0.port == p) went
  few_begun p false = omega arith
  few_begun p true = let a = begun_parts p e.begun in let b = ap (λ (xs : Owed). tally (λ (y : Token × Notice). y.0.port == p) xs) sound.owes in omega (arith, a, b)

  few_destroyed : length e.destroyed ≤ destroyed_with mid owed new + length went
  few_destroyed =
      let a = many_destroyed in
      let b = total_fewer (λ p. if has_died mid new p then waiting_at p else 0) (λ p. (if has_died mid new p then length (queue mid p) + tally (λ y. y.0.port == p) owed else 0) + tally (λ y. y.0.port == p) went) mid.ports_made
      (λ p h. few_begun p (has_died mid new p)) in
      let c = total_both (λ p. if has_died mid new p then length (queue mid p) + tally (λ y. y.0.port == p) owed else 0) (λ p. tally (λ y. y.0.port == p) went) mid.ports_made in
      let d = owed_at went mid.ports_made in
      omega (arith, a, b, c, d)

  -- ---- rights that were lost, and those of requests that ended

  abbrev spends : Token → Bool
  spends = is_spent mid new

  died_dies : (p : ℕ) → has_died mid new p ≡ true → Dies mid p
  died_dies p h = sound.doomed p (died_is p ∙ h)

  -- all that are so are counted
  all_counted : (test : Token → Bool) (xs : Owed) → All (λ x. test x.0 ≡ true) xs → count test (tokens_of xs) ≡ length xs
  all_counted test [] all = refl
  all_counted test (x ∷ xs) all =
      let a : (if test x.0 then suc zero else zero) ≡ 1 = rw (All-head (λ (y : Token × Notice). test y.0 ≡ true) x xs all) refl in
      let b = all_counted test xs (All-tail (λ (y : Token × Notice). test y.0 ≡ true) x xs all) in omega (arith, a, b)

  fewer_counted : (test more : Token → Bool) (xs : List Token) → All (λ x. test x ≡ true → more x ≡ true) xs → count test xs ≤ count more xs
  fewer_counted test more [] all = omega arith
  fewer_counted test more (x ∷ xs) all =
      let a = one (test x) (more x) (All-head (λ (y : Token). test y ≡ true → more y ≡ true) x xs all) in
      let b = fewer_counted test more xs (All-tail (λ (y : Token). test y ≡ true → more y ≡ true) x xs all) in omega (arith, a, b)
    where
      one : (a b : Bool) → (a ≡ true → b ≡ true) → (if a then suc zero else zero) ≤ (if b then suc zero else zero)
      one false b so = omega arith
      one true b so = rw (so refl) (omega arith)

  went_spent : (x : Token × Notice) → PaidForName mid x → spends x.0 ≡ true
  went_spent x h = subst (λ (place : Place). is_spent_at mid new x.0.port place ≡ true) (sym h.kept) (let a = h.went in rw a refl)

  module _ (judged : AreJudged mid e) where
    dies_dead : (q : ℕ) → Dies mid q → has_died mid new q ≡ true
    dies_dead q d = sym (died_is q) ∙ all_doomed old mid owed e sound judged q d

    few : IsFew old mid owed l (has_died mid new) died_dies e
    few = reached_few old mid owed l (has_died mid new) died_dies e r

    paid_spent : (x : Token × Notice) → HasPaid mid e.told x × (is_queued x.0.place ≡ true → has_died mid new x.0.port ≡ false) → spends x.0 ≡ true
    paid_spent x h = at x.0.place h.0.1 h.1
      where
        both : (a b : Bool) → a ≡ true → b ≡ false → (a && not b) ≡ true
        both true false x y = refl
        both true true x y = absurd (cc)
        both false b x y = absurd (cc)

        at : (place : Place) → IsPaidAt mid e.told place x.1 → (is_queued place ≡ true → has_died mid new x.0.port ≡ false) → is_spent_at mid new x.0.port place ≡ true
        at (in_task task) paid live = absurd paid
        at (in_message q k) paid live = both (has_died mid new q) (has_died mid new x.0.port) (dies_dead q paid.0) (live refl)
        at (in_request request) paid live = ap not (false_from_ne_true (new.stands request) (paid_leaves now old mid owed e l sound judged (in_request request) x.1 paid))

    gone_spent : (x : Token) → HasGone mid x → (is_queued x.place && not (has_died mid new x.port)) ≡ true → spends x ≡ true
    gone_spent x (inl d) h = absurd (let a = dies_dead x.port d in no (is_queued x.place) (has_died mid new x.port) a h)
      where
        no : (a b : Bool) → b ≡ true → (a && not b) ≡ true → ⊥
        no true true x y = cc
        no true false x y = cc
        no false b x y = cc
    gone_spent x (inr h) lost = at x.place h.1 lost
      where
        both : (a b : Bool) → a ≡ true → b ≡ true → (a && b) ≡ true
        both true b x y = y
        both false b x y = absurd (cc)

        at : (place : Place) → DiesAround mid place → (is_queued place && not (has_died mid new x.port)) ≡ true → is_spent_at mid new x.port place ≡ true
        at (in_task task) d lost = absurd d
        at (in_message q k) d lost = both (has_died mid new q) (not (has_died mid new x.port)) (dies_dead q d) lost
        at (in_request request) d lost = absurd d

    few_spent : length e.paid + lost_in (has_died mid new) e + length went ≤ count spends mid.ledger
    few_spent =
        let a = all_counted spends e.paid (λ k d below. paid_spent _ (sound.paid k d below, few.live k d below)) in
        let b = all_counted spends went (weaker (PaidForName mid) (λ x. spends x.0 ≡ true) went_spent went sound.went) in
        let c = fewer_counted (λ x. is_queued x.place && not (has_died mid new x.port)) spends e.gone (weaker (HasGone mid) (λ x. (is_queued x.place && not (has_died mid new x.port)) ≡ true → spends x ≡ true) gone_spent e.gone sound.gone) in
        let d = sound.parts (λ x. if spends x then 1 else 0) in
        omega (arith, a, b, c, d)

    pub reached_bounded : IsBounded mid owed new e.turns
    reached_bounded = record {
      is_sent = listed e.saved;
      sent = sound.saved;
      most = let a = few.most in let b = many_died in let c = many_sent in let d = few_destroyed in let f = few_spent in omega (arith, a, b, c, d, f);
    }

    pub reached_deaths : deaths mid new ≤ e.turns
    reached_deaths = let a = counted.least in let b = many_died in omega (arith, a, b)

-- ---- the whole

-- A chain of turns that is done leads to an end of the step, which is lawful, and has so many turns at most; and at least one for each port that died.
pub turns_end : (now : ℕ) (old mid : State) (owed : Owed) (e : Ending) → MidLawful mid owed → IsReached old mid owed e → IsDone old mid e →
    Settles now old mid owed (end_of now mid e) × IsLawful (end_of now mid e) × IsBounded mid owed (end_of now mid e) e.turns × deaths mid (end_of now mid e) ≤ e.turns
turns_end now old mid owed e l r d =
    let s = reached_settles now old mid owed e l r d in
    (s, settled_lawful now old mid owed (end_of now mid e) l s, reached_bounded now old mid owed e l r d.judged, reached_deaths now old mid owed e l r d.judged)
