-- How many message slots are needed, and that a step's end leaves enough.
use Rattle.std.proofs.Common.{◌≡◌, ℕ, zero, suc, ◌+◌, ◌≤◌, ◌<◌, List, [], ◌∷◌, ◌++◌, Some, refl, sym, ap, ◌∙◌, arith, true, false, Bool, inl, inr, length, length-append, ◌-◌, subst, get_or}
use Rattle.std.specs.Prelude.{if◌then◌else◌, not, All, filter, drop, slice_get, ◌≢◌, ◌==◌, ◌&&◌, ◌||◌, Contains, Option, None, map as list_map}
use Rattle.std.proofs.lemmas.Bool.Decides.{leb_tells}
use Rattle.std.proofs.lemmas.Bool.{eq-eqb, ne_eqb, and_from}
use Rattle.std.proofs.lemmas.List.{length-map, drop-append-le}
use Rattle.std.proofs.lemmas.List.Elements.{All-head, All-tail}
use Rattle.mach_types.specs.Tokens.{Kind, send_once, in_message, Token, count, is_of, same_kind, receive, send, no_senders, port_destroyed, dead_name, Place, in_task, in_request, weigh}
use Rattle.mach_types.specs.Messages.{Entry, Message}
use Rattle.mach_model.specs.State.{State, queue, Target, lookup}
use Rattle.mach_model.specs.Notices.{Notice, Owed, Posted, all_posted_tokens}
use Rattle.mach_model.specs.Settles.{PaysFor, tokens_of, Settles, PlaceStays, StaysWith, GoesFrom, due_notices}
use Rattle.mach_model.specs.Lawful.{tally, LawfulPorts, LawfulLogs, LawfulMessages, IsLawful}
use Rattle.mach_model.specs.Midway.{MidLawful}
use Rattle.mach_model.specs.Unused.{came_by_once, unused_at}
use Rattle.mach_model.proofs.Names.{weigh-append, count_le, count_some, left_of, right_of, lying_le_of}
use Rattle.mach_model.proofs.SettledOnce.{are_apart, apart_count}
use Rattle.mach_model.proofs.SettledReceives.{parts, made_of, live_mid, and_false, or_left, or_right, all_mapped, none_pass, dead_cases}
use Rattle.mach_model.proofs.SettledLawful.{added_is, settled_lawful}
use Rattle.mach_model.specs.Death.{Dies, IsOrphan}
use Rattle.mach_model.specs.SameEnd.{sum, IsSameEnd}
use Rattle.mach_model.specs.Turns.{Begun, owed_in, went_in, Ending, listed, lives_after, became_dead, PaidForName, IsReached, IsDone, IsWaiting}
use Rattle.mach_model.specs.Work.{IsBounded, deaths}
use Rattle.mach_model.proofs.Settling.{Dies-least, kind_refl, lives, stays_with}
use Rattle.mach_model.proofs.SettledDetermined.{pays, place_stays, none_weigh, notices_sum, determined}
use Rattle.mach_model.proofs.TurnsSettle.{DiesUnder, IsPaidAt, HasGone, IsSound, all_saved, dies_after, end_of, all_posted}
use Rattle.mach_model.proofs.TurnsCounted.{reached_sound, reached_counted, AreTurnsCounted}
use Rattle.mach_model.proofs.TurnsBounded.{turns_end}
use Rattle.mach_laws.specs.Queued.{sum_below, waiting, queued, unused_onces}
use Rattle.mach_laws.specs.Counts.{once_rights, by_send_at, queued_by_send, destroyed}
use Rattle.mach_laws.proofs.Counted.{sum_same, sum_one, sum_both, queue_long, Settles-counted}

-- ---- How many slots are needed: as many as there are send-once rights, and queued messages that came by send rights. A step's end needs no more.

-- ---- sums over ports

pub tally_both : {A : Type 0} (test : A → Bool) (xs : List A) → length xs ≡ tally test xs + tally (λ x. not (test x)) xs
tally_both test [] = refl
tally_both {A} test (x ∷ xs) = go (test x) (tally_both test xs)
  where
    go : (b : Bool) → length xs ≡ tally test xs + tally (λ (x : A). not (test x)) xs →
        suc (length xs) ≡ (if b then 1 else 0) + tally test xs + ((if not b then 1 else 0) + tally (λ (x : A). not (test x)) xs)
    go true e = omega (arith, e)
    go false e = omega (arith, e)

-- each send-once right is for one port
once_summed : (n : ℕ) (xs : List Token) → ((p : ℕ) → n ≤ p → count (is_of send_once p) xs ≡ 0) → sum_below (λ p. count (is_of send_once p) xs) n ≡ count (λ x. same_kind send_once x.kind) xs
once_summed n [] none = zeros n
  where
    zeros : (n : ℕ) → sum_below (λ p. count (is_of send_once p) []) n ≡ 0
    zeros zero = refl
    zeros (suc n) = let h = zeros n in omega (arith, h)
once_summed n (x ∷ xs) none = go (same_kind send_once x.kind) refl (once_summed n xs (λ p above. let h = none p above in omega (arith, h)))
  where
    go : (b : Bool) → same_kind send_once x.kind ≡ b → sum_below (λ p. count (is_of send_once p) xs) n ≡ count (λ x. same_kind send_once x.kind) xs →
        sum_below (λ p. count (is_of send_once p) (x ∷ xs)) n ≡ (if same_kind send_once x.kind then 1 else 0) + count (λ x. same_kind send_once x.kind) xs
    go false is rest =
        let same = sum_same (λ p. count (is_of send_once p) xs) (λ p. count (is_of send_once p) (x ∷ xs)) n (λ p within. rw is (omega arith)) in
        let z : (if same_kind send_once x.kind then suc zero else zero) ≡ zero = rw is in
        omega (arith, same, rest, z)
    go true is rest =
        let own : (if is_of send_once x.port x then suc zero else zero) ≡ suc zero = rw (is, eq-eqb x.port x.port refl) refl in
        let within : x.port < n = below own in
        let more = sum_one (λ p. count (is_of send_once p) xs) (λ p. count (is_of send_once p) (x ∷ xs)) x.port n within (omega (arith, own))
        (λ q not. let f : (if is_of send_once q x then suc zero else zero) ≡ zero = rw (is, ne_eqb x.port q (λ e. not (sym e))) refl in omega (arith, f)) in
        let o : (if same_kind send_once x.kind then suc zero else zero) ≡ suc zero = rw is in
        omega (arith, more, rest, o)
      where
        below : (if is_of send_once x.port x then suc zero else zero) ≡ suc zero → x.port < n
        below own = elim (leb_tells n x.port) [
          | inl h ↦ absurd (let z = none x.port h.1 in omega (arith, z, own))
          | inr h ↦ omega (arith, h.1)
        ]

-- ---- in a state

module _ (s : State) (ports : LawfulPorts s.live_port s.ports_made s.ledger) (logs : LawfulLogs s.ports_made s.log s.taken)
    (messages : LawfulMessages s.live_port s.log s.taken s.ledger) where
  at_port : (p : ℕ) (b : Bool) → s.live_port p ≡ b → waiting s p + unused_at s p ≡ count (is_of send_once p) s.ledger + by_send_at s p
  at_port p true lives =
      let few = apart_count p (λ x. false) (λ x e. absurd (cc)) (s.taken p) (queue s p) s.ledger (λ i. refl) (are_apart s.live_port s.ports_made s.log s.taken s.ledger logs messages p lives) in
      let all = tally_both came_by_once (queue s p) in
      let a : waiting s p ≡ length (queue s p) = rw lives refl in
      let b : by_send_at s p ≡ tally (λ e. not (came_by_once e)) (queue s p) = rw lives refl in
      omega (arith, few, all, a, b)
  at_port p false dead =
      let none = ports.no_rights p dead send_once in
      let a : waiting s p ≡ 0 = rw dead refl in
      let b : by_send_at s p ≡ 0 = rw dead refl in
      omega (arith, none, a, b)

  unmade : (p : ℕ) → s.ports_made ≤ p → count (is_of send_once p) s.ledger ≡ 0
  unmade p above = grind arith

  pub needed : queued s + unused_onces s ≡ once_rights s + queued_by_send s
  needed = grind (
    arith,
    sum_both (waiting s) (unused_at s) (λ p. count (is_of send_once p) s.ledger) (by_send_at s) s.ports_made (λ p within. at_port p (s.live_port p) refl),
    once_summed s.ports_made s.ledger unmade,
  )

-- ---- a step's end

abbrev pub is_once_right : Token → Bool
is_once_right x = same_kind send_once x.kind

-- each notice goes by one send-once right, and brings no other
pub posted_onces : (xs : List Posted) → count is_once_right (all_posted_tokens xs) ≡ length xs
posted_onces [] = refl
posted_onces (x ∷ xs) = grind (arith, posted_onces xs, weigh-append)

paid_onces : (mid new : State) (xs : Owed) → All (λ x. PaysFor mid new x.0 x.1) xs → count is_once_right (tokens_of xs) ≡ length xs
paid_onces mid new [] all = refl
paid_onces mid new (x ∷ xs) all = grind (
  arith,
  All-head (λ (x : Token × Notice). PaysFor mid new x.0 x.1) x xs all,
  paid_onces mid new xs (All-tail (λ (x : Token × Notice). PaysFor mid new x.0 x.1) x xs all),
)

filter_fewer : {A : Type 0} (test : A → Bool) (xs : List A) → length (filter test xs) ≤ length xs
filter_fewer test [] = omega arith
filter_fewer {A} test (x ∷ xs) = go (test x) (filter_fewer test xs)
  where
    go : (b : Bool) → length (filter test xs) ≤ length xs → length (if b then x ∷ filter test xs else filter test xs) ≤ suc (length xs)
    go true e = omega (arith, e)
    go false e = omega (arith, e)

behind : {A : Type 0} (xs ys : List A) (i : ℕ) → slice_get (xs ++ ys) (length xs + i) ≡ slice_get ys i
behind [] ys i = ap (slice_get ys) (omega arith)
behind (x ∷ xs) ys i = grind (arith, behind xs ys i)

pub tally_append : {A : Type 0} (test : A → Bool) (xs ys : List A) → tally test (xs ++ ys) ≡ tally test xs + tally test ys
tally_append test [] ys = omega arith
tally_append test (x ∷ xs) ys = let h = tally_append test xs ys in omega (arith, h)

none_by_send : (xs : List Entry) → ((i : ℕ) (e : Entry) → slice_get xs i ≡ Some e → came_by_once e ≡ true) → tally (λ e. not (came_by_once e)) xs ≡ 0
none_by_send [] all = refl
none_by_send (x ∷ xs) all =
    let rest = none_by_send xs (λ i e is. all (suc i) e is) in
    let z : (if not (came_by_once x) then suc zero else zero) ≡ zero = rw (all 0 x refl) refl in
    omega (arith, rest, z)

pub sum_fewer : (f g : ℕ → ℕ) (n : ℕ) → ((p : ℕ) → p < n → g p ≤ f p) → sum_below g n ≤ sum_below f n
sum_fewer f g zero fewer = omega arith
sum_fewer f g (suc n) fewer = grind (arith, sum_fewer f g n (λ p within. fewer p (omega (arith, within))), fewer n (omega arith))

module _ (now : ℕ) (old mid : State) (owed : Owed) (new : State) (l : MidLawful mid owed) (s : Settles now old mid owed new) where
  fewer_onces : once_rights new ≤ once_rights mid + length owed
  fewer_onces =
      let made = made_of now old mid owed new s is_once_right in
      let staying = parts now old mid owed new s is_once_right in
      let posts = posted_onces s.notices.posted in
      let pays = paid_onces mid new s.rights.paying s.rights.pay in
      let due = sym (length-map s.notices.posted (λ (x : Posted). (x.port, x.notice))) ∙ ap length s.notices.due
      ∙ length-map (s.rights.paying ++ filter (λ x. new.live_port x.0.port) owed) (λ (x : Token × Notice). (x.0.port, x.1))
      ∙ length-append s.rights.paying (filter (λ x. new.live_port x.0.port) owed) in
      let few = filter_fewer (λ (x : Token × Notice). new.live_port x.0.port) owed in
      omega (arith, made, staying, posts, pays, due, few)

  same_by_send : (p : ℕ) (b : Bool) → new.live_port p ≡ b → by_send_at new p ≤ by_send_at mid p
  same_by_send p false dead = let a : by_send_at new p ≡ 0 = rw dead refl in omega (arith, a)
  same_by_send p true lives =
      let h = s.notices.logs p in
      let is : queue new p ≡ queue mid p ++ h.0 =
      ap (λ (x : State). drop (x.taken p) (new.log p)) s.rest ∙ ap (drop (mid.taken p)) h.1 ∙ drop-append-le (mid.taken p) (mid.log p) h.0 (l.within p) in
      let a : by_send_at new p ≡ tally (λ e. not (came_by_once e)) (queue new p) = rw lives refl in
      let b : by_send_at mid p ≡ tally (λ e. not (came_by_once e)) (queue mid p) = rw (live_mid now old mid owed new s p lives) refl in
      let c = ap (tally (λ e. not (came_by_once e))) is ∙ tally_append (λ e. not (came_by_once e)) (queue mid p) h.0 in
      let z = none_by_send h.0 (λ i e at. came i e (ap (λ (xs : List Entry). slice_get xs (length (mid.log p) + i)) h.1 ∙ behind (mid.log p) h.0 i ∙ at)) in
      omega (arith, a, b, c, z)
    where
      came : (i : ℕ) (e : Entry) → slice_get (new.log p) (length (mid.log p) + i) ≡ Some e → came_by_once e ≡ true
      came i e at = ap (λ (m : Message). same_kind send_once m.kind) (added_is now old mid owed new l s p (length (mid.log p) + i) e (omega arith) at).message

  fewer_by_send : queued_by_send new ≤ queued_by_send mid
  fewer_by_send = grind (arith, sum_fewer, same_by_send)

  -- What a step's end needs.
  pub ending_needs : queued new + unused_onces new ≤ queued mid + unused_onces mid + length owed
  ending_needs =
      let after = settled_lawful now old mid owed new l s in
      let a = needed new after.ports after.logs after.messages in
      let b = needed mid l.ports l.logs l.messages in
      omega (arith, fewer_onces, fewer_by_send, a, b)

-- ---- Message slots at a step's end: no more are there than its own part left and its notices took, and where no port is lost, just as many are needed.

-- ---- how many places there are for entries that are apart

-- how often the place is among these
abbrev times_at : List (ℕ × ℕ) → (port entry : ℕ) → ℕ
times_at ms p k = tally (λ (n : ℕ × ℕ). p == n.0 && k == n.1) ms

-- how many of these are at the port, of so many entries from the first
abbrev times_from : List (ℕ × ℕ) → (first many port : ℕ) → ℕ
times_from ms first many p = sum_below (λ j. times_at ms p (first + j)) many

zeros : (n : ℕ) → sum_below (λ p. 0) n ≡ 0
zeros zero = refl
zeros (suc n) = let h = zeros n in omega (arith, h)

abbrev IsWithin : (first many : ℕ → ℕ) → (n : ℕ) → ℕ × ℕ → Type 0
IsWithin first many n m = (m.0 < n) × (first m.0 ≤ m.1) × (m.1 < first m.0 + many m.0)

all_within : (first many : ℕ → ℕ) (n : ℕ) (ms : List (ℕ × ℕ)) → All (IsWithin first many n) ms → sum_below (λ p. times_from ms (first p) (many p) p) n ≡ length ms
all_within first many n [] all = sum_same (λ p. 0) (λ p. times_from [] (first p) (many p) p) n (λ p within. zeros (many p)) ∙ zeros n
all_within first many n (m ∷ ms) all =
    let here = All-head (IsWithin first many n) m ms all in
    let rest = all_within first many n ms (All-tail (IsWithin first many n) m ms all) in
    let more = sum_one (λ p. times_from ms (first p) (many p) p) (λ p. times_from (m ∷ ms) (first p) (many p) p) m.0 n here.0 (own here) other in
    omega (arith, rest, more)
  where
    other : (q : ℕ) → q ≢ m.0 → times_from (m ∷ ms) (first q) (many q) q ≡ times_from ms (first q) (many q) q
    other q apart = sum_same (λ j. times_at ms q (first q + j)) (λ j. times_at (m ∷ ms) q (first q + j)) (many q) (λ j within. rw (ne_eqb q m.0 apart) (omega arith))

    own : IsWithin first many n m → times_from (m ∷ ms) (first m.0) (many m.0) m.0 ≡ times_from ms (first m.0) (many m.0) m.0 + 1
    own here =
        let low = here.1 in
        let high = here.2 in
        let e : first m.0 + (m.1 - first m.0) ≡ m.1 = omega (arith, low) in
        sum_one (λ j. times_at ms m.0 (first m.0 + j)) (λ j. times_at (m ∷ ms) m.0 (first m.0 + j)) (m.1 - first m.0) (many m.0) (omega (arith, low, high))
        (rw (eq-eqb m.0 m.0 refl, eq-eqb (first m.0 + (m.1 - first m.0)) m.1 e) (omega arith))
        (λ j off. rw (eq-eqb m.0 m.0 refl, ne_eqb (first m.0 + j) m.1 (λ is. off (omega (arith, is, low)))) (omega arith))

at_most_all : (f : ℕ → ℕ) (n : ℕ) → ((j : ℕ) → f j ≤ 1) → sum_below f n ≤ n
at_most_all f zero few = omega arith
at_most_all f (suc n) few = let a = at_most_all f n few in let b = few n in omega (arith, a, b)

-- Entries that are apart are no more than places.
few_places : (first many : ℕ → ℕ) (n : ℕ) (ms : List (ℕ × ℕ)) → All (IsWithin first many n) ms → ((m : ℕ × ℕ) → tally (λ (n : ℕ × ℕ). m.0 == n.0 && m.1 == n.1) ms ≤ 1) → length ms ≤ sum_below many n
few_places first many n ms all once = grind (
  arith,
  all_within first many n ms all,
  sum_fewer many (λ p. times_from ms (first p) (many p) p) n (λ p within. at_most_all (λ j. times_at ms p (first p + j)) (many p) (λ j. once (p, first p + j))),
)

contained_times : (ms : List (ℕ × ℕ)) (m : ℕ × ℕ) → Contains ms m → 0 < times_at ms m.0 m.1
contained_times [] m (i, below, is) = absurd (omega (arith, below))
contained_times (x ∷ ms) m (zero, below, is) = grind (arith, eq-eqb)
contained_times (x ∷ ms) m (suc i, below, is) = let h = contained_times ms m (i, omega (arith, below), is) in omega (arith, h)

at_least_all : (f : ℕ → ℕ) (n : ℕ) → ((j : ℕ) → j < n → 0 < f j) → n ≤ sum_below f n
at_least_all f zero some = omega arith
at_least_all f (suc n) some = let a = at_least_all f n (λ j less. some j (omega (arith, less))) in let b = some n (omega arith) in omega (arith, a, b)

-- Where each place has one they are no fewer.
all_places : (first many : ℕ → ℕ) (n : ℕ) (ms : List (ℕ × ℕ)) → All (IsWithin first many n) ms → ((p j : ℕ) → p < n → j < many p → 0 < times_at ms p (first p + j)) → sum_below many n ≤ length ms
all_places first many n ms all each = grind (
  arith,
  all_within first many n ms all,
  sum_fewer (λ p. times_from ms (first p) (many p) p) many n (λ p within. at_least_all (λ j. times_at ms p (first p + j)) (many p) (λ j less. each p j within less)),
)

-- ---- notices that the step's own part posted

-- those at ports of this kind
abbrev begun_at : (ℕ → Bool) → Begun → ℕ → ℕ
begun_at test ys p = if test p then tally (λ (y : Bool × (Token × Notice)). y.1.0.port == p) ys else 0

none_begun : (test : ℕ → Bool) (p : ℕ) → begun_at test [] p ≡ 0
none_begun test p = grind arith

all_begun : (test : ℕ → Bool) (n : ℕ) → ((p : ℕ) → test p ≡ true → p < n) → (ys : Begun) →
    sum_below (begun_at test ys) n ≡ tally (λ (y : Bool × (Token × Notice)). test y.1.0.port) ys
all_begun test n low [] = sum_same (λ p. 0) (begun_at test []) n (λ p within. none_begun test p) ∙ zeros n
all_begun test n low (y ∷ ys) = go (test y.1.0.port) refl (all_begun test n low ys)
  where
    port : ℕ
    port = y.1.0.port

    apart : (b : Bool) (q : ℕ) → test q ≡ b → (y.1.0.port ≡ q → test q ≡ false) → begun_at test (y ∷ ys) q ≡ begun_at test ys q
    apart true q is none = let f : (y.1.0.port == q) ≡ false = ne_eqb y.1.0.port q (λ e. let z = none e in cc) in rw (is, f) (omega arith)
    apart false q is none = rw is refl

    go : (b : Bool) → test y.1.0.port ≡ b → sum_below (begun_at test ys) n ≡ tally (λ (y : Bool × (Token × Notice)). test y.1.0.port) ys →
        sum_below (begun_at test (y ∷ ys)) n ≡ (if test y.1.0.port then 1 else 0) + tally (λ (y : Bool × (Token × Notice)). test y.1.0.port) ys
    go true is rest =
        let one : begun_at test (y ∷ ys) y.1.0.port ≡ begun_at test ys y.1.0.port + 1 = rw (is, eq-eqb y.1.0.port y.1.0.port refl) (omega arith) in
        let more = sum_one (begun_at test ys) (begun_at test (y ∷ ys)) y.1.0.port n (low y.1.0.port is) one (λ q off. apart (test q) q refl (λ e. absurd (off (sym e)))) in
        rw is (omega (arith, more, rest))
    go false is rest =
        let same = sum_same (begun_at test ys) (begun_at test (y ∷ ys)) n (λ q within. apart (test q) q refl (λ e. subst (λ (p : ℕ). test p ≡ false) e is)) in
        rw is (omega (arith, same, rest))

-- Those at ports that die, and those owed and paid for at ports that live, are no more than all.
begun_parts : (live doomed : ℕ → Bool) (ys : Begun) →
    tally (λ (y : Bool × (Token × Notice)). doomed y.1.0.port) ys + length (filter (λ (x : Token × Notice). live x.0.port && not (doomed x.0.port)) (owed_in ys))
    + length (filter (λ (x : Token × Notice). live x.0.port && not (doomed x.0.port)) (went_in ys)) ≤ length (owed_in ys) + length (went_in ys)
begun_parts live doomed [] = omega arith
begun_parts live doomed (y ∷ ys) = grind (arith, begun_parts live doomed ys)

-- Where all are for ports that lived, they are all.
begun_whole : (live doomed : ℕ → Bool) (ys : Begun) → All (λ (x : Token × Notice). live x.0.port ≡ true) (owed_in ys) → All (λ (x : Token × Notice). live x.0.port ≡ true) (went_in ys) →
    length (owed_in ys) + length (went_in ys)
    ≤ tally (λ (y : Bool × (Token × Notice)). doomed y.1.0.port) ys + length (filter (λ (x : Token × Notice). live x.0.port && not (doomed x.0.port)) (owed_in ys))
    + length (filter (λ (x : Token × Notice). live x.0.port && not (doomed x.0.port)) (went_in ys))
begun_whole live doomed [] owed went = omega arith
begun_whole live doomed (y ∷ ys) owed went = go y.0 (doomed y.1.0.port) refl refl owed went (begun_whole live doomed ys)
  where
    go : (a c : Bool) → y.0 ≡ a → doomed y.1.0.port ≡ c → All (λ (x : Token × Notice). live x.0.port ≡ true) (if a then y.1 ∷ owed_in ys else owed_in ys) →
        All (λ (x : Token × Notice). live x.0.port ≡ true) (if a then went_in ys else y.1 ∷ went_in ys) →
        (All (λ (x : Token × Notice). live x.0.port ≡ true) (owed_in ys) → All (λ (x : Token × Notice). live x.0.port ≡ true) (went_in ys) →
        length (owed_in ys) + length (went_in ys)
        ≤ tally (λ (y : Bool × (Token × Notice)). doomed y.1.0.port) ys + length (filter (λ (x : Token × Notice). live x.0.port && not (doomed x.0.port)) (owed_in ys))
        + length (filter (λ (x : Token × Notice). live x.0.port && not (doomed x.0.port)) (went_in ys))) →
        length (owed_in (y ∷ ys)) + length (went_in (y ∷ ys))
        ≤ tally (λ (y : Bool × (Token × Notice)). doomed y.1.0.port) (y ∷ ys) + length (filter (λ (x : Token × Notice). live x.0.port && not (doomed x.0.port)) (owed_in (y ∷ ys)))
        + length (filter (λ (x : Token × Notice). live x.0.port && not (doomed x.0.port)) (went_in (y ∷ ys)))
    go true true e f o w more =
        let ih = more (All-tail (λ (x : Token × Notice). live x.0.port ≡ true) y.1 (owed_in ys) o) w in
        let h : live y.1.0.port ≡ true = All-head (λ (x : Token × Notice). live x.0.port ≡ true) y.1 (owed_in ys) o in rw (e, f, h) (omega (arith, ih))
    go true false e f o w more =
        let ih = more (All-tail (λ (x : Token × Notice). live x.0.port ≡ true) y.1 (owed_in ys) o) w in
        let h : live y.1.0.port ≡ true = All-head (λ (x : Token × Notice). live x.0.port ≡ true) y.1 (owed_in ys) o in rw (e, f, h) (omega (arith, ih))
    go false true e f o w more =
        let ih = more o (All-tail (λ (x : Token × Notice). live x.0.port ≡ true) y.1 (went_in ys) w) in
        let h : live y.1.0.port ≡ true = All-head (λ (x : Token × Notice). live x.0.port ≡ true) y.1 (went_in ys) w in rw (e, f, h) (omega (arith, ih))
    go false false e f o w more =
        let ih = more o (All-tail (λ (x : Token × Notice). live x.0.port ≡ true) y.1 (went_in ys) w) in
        let h : live y.1.0.port ≡ true = All-head (λ (x : Token × Notice). live x.0.port ≡ true) y.1 (went_in ys) w in rw (e, f, h) (omega (arith, ih))

-- ---- rights that pay

abbrev pay : State → Token → ℕ
pay new x = if pays new x then 1 else 0

place_is : (new : State) (place : Place) → PlaceStays new place → place_stays new place ≡ true
place_is new (in_task task) h = refl
place_is new (in_message q k) h = h
place_is new (in_request r) h = h

no_pay : (b : Bool) → (if b && false then suc zero else zero) ≡ zero
no_pay true = refl
no_pay false = refl

staying_pays : (new : State) (x : Token) → StaysWith new x → pay new x ≡ 0
staying_pays new x h = rw (h.0, place_is new x.place h.1) (no_pay (same_kind send_once x.kind))

once_not : (k : Kind) → k ≢ send_once → same_kind send_once k ≡ false
once_not receive h = refl
once_not send h = refl
once_not send_once h = absurd (h refl)

pay_most : (new : State) (xs : Owed) → weigh (pay new) (tokens_of xs) ≤ length xs
pay_most new [] = omega arith
pay_most new (x ∷ xs) = grind (arith, pay_most new xs, pays)

pay_live : (new : State) (xs : Owed) → weigh (pay new) (tokens_of xs) ≤ length (filter (λ (x : Token × Notice). new.live_port x.0.port) xs)
pay_live new [] = omega arith
pay_live new (x ∷ xs) = grind (arith, pay_live new xs, place_stays, no_pay)

-- a right pays that leaves its place
pays_here : (new : State) (x : Token) → x.kind ≡ send_once → new.live_port x.port ≡ true → place_stays new x.place ≡ false → pay new x ≡ 1
pays_here new x once live leaves = let a : same_kind send_once x.kind ≡ true = ap (same_kind send_once) once in rw (a, live, leaves) refl

pay_whole : (new : State) (xs : Owed) → All (λ (x : Token × Notice). new.live_port x.0.port ≡ true → pay new x.0 ≡ 1) xs →
    length (filter (λ (x : Token × Notice). new.live_port x.0.port) xs) ≤ weigh (pay new) (tokens_of xs)
pay_whole new [] all = omega arith
pay_whole new (x ∷ xs) all = go (new.live_port x.0.port) refl (All-head (λ (x : Token × Notice). new.live_port x.0.port ≡ true → pay new x.0 ≡ 1) x xs all)
    (pay_whole new xs (All-tail (λ (x : Token × Notice). new.live_port x.0.port ≡ true → pay new x.0 ≡ 1) x xs all))
  where
    go : (b : Bool) → new.live_port x.0.port ≡ b → (new.live_port x.0.port ≡ true → pay new x.0 ≡ 1) → length (filter (λ (x : Token × Notice). new.live_port x.0.port) xs) ≤ weigh (pay new) (tokens_of xs) →
        length (if b then x ∷ filter (λ (x : Token × Notice). new.live_port x.0.port) xs else filter (λ (x : Token × Notice). new.live_port x.0.port) xs) ≤ pay new x.0 + weigh (pay new) (tokens_of xs)
    go true is pays ih = let a = pays is in omega (arith, a, ih)
    go false is pays ih = omega (arith, ih)

all_kept : (test : ℕ → Bool) (xs : Owed) → All (λ (x : Token × Notice). test x.0.port ≡ true) xs → length (filter (λ (x : Token × Notice). test x.0.port) xs) ≡ length xs
all_kept test [] all = refl
all_kept test (x ∷ xs) all =
    let rest = all_kept test xs (All-tail (λ (x : Token × Notice). test x.0.port ≡ true) x xs all) in
    let here : test x.0.port ≡ true = All-head (λ (x : Token × Notice). test x.0.port ≡ true) x xs all in
    rw here (omega (arith, rest))

ended_not : (a b : Bool) → b ≡ true → (a && not b) ≡ false
ended_not a true e = and_false a
ended_not a false e = absurd (cc)

sum_ones : {A : Type 0} (xs : List A) → sum (λ x. 1) xs ≡ length xs
sum_ones [] = refl
sum_ones {A} (x ∷ xs) = let h = sum_ones xs in omega (arith, h)

-- ---- a chain of turns that is done

module _ (now : ℕ) (old mid : State) (owed : Owed) (e : Ending) (new : State) (l : MidLawful mid owed) (r : IsReached old mid owed e) (d : IsDone old mid e) (s : Settles now old mid owed new) where
  sound : IsSound old mid owed e
  sound = reached_sound old mid owed e r

  counted : AreTurnsCounted mid e
  counted = reached_counted old mid owed e r

  chain : State
  chain = end_of now mid e

  whole : Settles now old mid owed (end_of now mid e) × IsLawful (end_of now mid e) × IsBounded mid owed (end_of now mid e) e.turns × deaths mid (end_of now mid e) ≤ e.turns
  whole = turns_end now old mid owed e l r d

  same : IsSameEnd new (end_of now mid e) s.notices.posted whole.0.notices.posted
  same = determined now old mid owed new (end_of now mid e) l s whole.0

  -- ---- what was destroyed

  doomed_lived : (p : ℕ) → listed e.doomed p ≡ true → mid.live_port p ≡ true
  doomed_lived p h = grind (arith, dead_cases, sound, lives, lying_le_of)

  doomed_made : (p : ℕ) → listed e.doomed p ≡ true → p < mid.ports_made
  doomed_made p h = l.made_port p (doomed_lived p h)

  -- how many messages and posted notices wait at a port that dies
  abbrev lost_at : ℕ → ℕ
  lost_at p = if listed e.doomed p then length (queue mid p) + tally (λ y. y.1.0.port == p) e.begun else 0

  are_within : All (IsWithin mid.taken lost_at mid.ports_made) e.destroyed
  are_within k d' below = grind (arith, counted, queue_long, doomed_made)

  lost_parts : (p : ℕ) (b : Bool) → listed e.doomed p ≡ b → lost_at p ≤ (if new.live_port p then 0 else waiting mid p) + begun_at (listed e.doomed) e.begun p
  lost_parts p false is = rw is (omega arith)
  lost_parts p true is = grind (arith, sound, doomed_lived)

  many_destroyed : length e.destroyed ≤ destroyed mid new + tally (λ (y : Bool × (Token × Notice)). listed e.doomed y.1.0.port) e.begun
  many_destroyed =
      let a = few_places mid.taken lost_at mid.ports_made e.destroyed are_within counted.message_once in
      let b = sum_fewer (λ p. (if new.live_port p then 0 else waiting mid p) + begun_at (listed e.doomed) e.begun p) lost_at mid.ports_made (λ p within. lost_parts p (listed e.doomed p) refl) in
      let c = sum_both (λ p. (if new.live_port p then 0 else waiting mid p) + begun_at (listed e.doomed) e.begun p) (λ p. 0)
      (λ p. if new.live_port p then 0 else waiting mid p) (begun_at (listed e.doomed) e.begun) mid.ports_made (λ p within. omega arith) in
      let z = zeros mid.ports_made in
      let f = all_begun (listed e.doomed) mid.ports_made doomed_made e.begun in
      omega (arith, a, b, c, z, f)

  -- ---- what was posted

  gone_pays : (x : Token) → HasGone mid x → pay (end_of now mid e) x ≡ 0
  gone_pays x (inl dies) = let f = dies_after old mid owed e sound d.judged x.port dies in rw f (no_pay (same_kind send_once x.kind))
  gone_pays x (inr h) = rw (once_not x.kind h.0) refl

  left_pays : weigh (pay (end_of now mid e)) e.left ≡ 0
  left_pays = grind (
    arith,
    none_weigh (StaysWith (end_of now mid e)) (pay (end_of now mid e)) (staying_pays (end_of now mid e)) (end_of now mid e).ledger (stays_with (end_of now mid e) whole.1),
    weigh-append (pay (end_of now mid e)) e.left (all_posted_tokens (all_posted now mid e)),
  )

  same_many : length s.notices.posted ≡ length whole.0.notices.posted
  same_many =
      let a = same.notices (λ x. 1) in
      let b = sum_ones {A = ℕ × Notice} (list_map (λ (x : Posted). (x.port, x.notice)) s.notices.posted) in
      let c = sum_ones {A = ℕ × Notice} (list_map (λ (x : Posted). (x.port, x.notice)) whole.0.notices.posted) in
      let f = length-map {B = ℕ × Notice} s.notices.posted (λ (x : Posted). (x.port, x.notice)) in
      let g = length-map {B = ℕ × Notice} whole.0.notices.posted (λ (x : Posted). (x.port, x.notice)) in
      omega (arith, a, b, c, f, g)

  many_posted : length s.notices.posted ≤ length (filter (λ (x : Token × Notice). lives_after mid e x.0.port) (went_in e.begun)) + length e.paid
      + length (filter (λ (x : Token × Notice). lives_after mid e x.0.port) owed)
  many_posted =
      let a = notices_sum now old mid owed (end_of now mid e) whole.0 (λ x. 1) in
      let b = sum_ones {A = ℕ × Notice} (list_map (λ (x : Posted). (x.port, x.notice)) whole.0.notices.posted) in
      let c = length-map {B = ℕ × Notice} whole.0.notices.posted (λ (x : Posted). (x.port, x.notice)) in
      let f = sum_ones (due_notices (filter (λ (x : Token × Notice). lives_after mid e x.0.port) owed)) in
      let g = length-map {B = ℕ × Notice} (filter (λ (x : Token × Notice). lives_after mid e x.0.port) owed) (λ (x : Token × Notice). (x.0.port, x.1)) in
      let h = sound.parts (pay (end_of now mid e)) in
      let i = pay_live (end_of now mid e) (went_in e.begun) in
      let j = pay_most (end_of now mid e) e.paid in
      let k = none_weigh (HasGone mid) (pay (end_of now mid e)) gone_pays e.gone sound.gone in
      omega (arith, a, b, c, f, g, h, i, j, k, left_pays, same_many)

  -- A step's end makes no message slots: each notice that was paid for took a spare one, and each message destroyed left one.
  pub ends_with_slots : (before after : ℕ) → after + length e.paid + length (went_in e.begun) ≡ before + length e.destroyed → after + queued new ≤ before + queued mid + length owed
  ends_with_slots before after slots =
      let a = Settles-counted now old mid owed new l s in
      let b = begun_parts mid.live_port (listed e.doomed) e.begun in
      let c = sound.owes in
      let f = ap length c in
      let g = ap (λ (xs : Owed). length (filter (λ (x : Token × Notice). lives_after mid e x.0.port) xs)) c in
      omega (arith, slots, a, b, f, g, many_destroyed, many_posted)

  -- ---- the same where all is destroyed that waits at ports that die, and all that was paid for is for ports that live

  survives : (p : ℕ) → listed e.doomed p ≡ false → mid.live_port p ≡ true → new.live_port p ≡ true
  survives p undoomed lived = same.live p ∙ (rw (lived, undoomed) refl)

  lost_whole : (p : ℕ) (b a : Bool) → listed e.doomed p ≡ b → mid.live_port p ≡ a → (if new.live_port p then 0 else waiting mid p) + begun_at (listed e.doomed) e.begun p ≤ lost_at p
  lost_whole p true a is lived = grind (arith, sound, doomed_lived)
  lost_whole p false true is lived = rw (is, survives p is lived) (omega arith)
  lost_whole p false false is lived = grind arith

  all_destroyed : ((p k : ℕ) → listed e.doomed p ≡ true → IsWaiting mid e (p, k) → Contains e.destroyed (p, k)) →
      destroyed mid new + tally (λ (y : Bool × (Token × Notice)). listed e.doomed y.1.0.port) e.begun ≤ length e.destroyed
  all_destroyed all =
      let a = all_places mid.taken lost_at mid.ports_made e.destroyed are_within (λ p j within less. there p j (listed e.doomed p) refl less) in
      let b = sum_fewer lost_at (λ p. (if new.live_port p then 0 else waiting mid p) + begun_at (listed e.doomed) e.begun p) mid.ports_made (λ p within. lost_whole p (listed e.doomed p) (mid.live_port p) refl refl) in
      let c = sum_both (λ p. (if new.live_port p then 0 else waiting mid p) + begun_at (listed e.doomed) e.begun p) (λ p. 0)
      (λ p. if new.live_port p then 0 else waiting mid p) (begun_at (listed e.doomed) e.begun) mid.ports_made (λ p within. omega arith) in
      let z = zeros mid.ports_made in
      let f = all_begun (listed e.doomed) mid.ports_made doomed_made e.begun in
      omega (arith, a, b, c, z, f)
    where
      there : (p j : ℕ) (b : Bool) → listed e.doomed p ≡ b → j < lost_at p → 0 < times_at e.destroyed p (mid.taken p + j)
      there p j false is less = absurd (let z : lost_at p ≡ 0 = rw is refl in omega (arith, z, less))
      there p j true is less =
          let many : lost_at p ≡ length (queue mid p) + tally (λ y. y.1.0.port == p) e.begun = rw is refl in
          let q = queue_long mid l.logs p in
          contained_times e.destroyed (p, mid.taken p + j) (all p (mid.taken p + j) is (omega arith, omega (arith, q, many, less)))

  under_dies : (o : Option Target) → DiesUnder mid o → became_dead mid e o ≡ true
  under_dies None h = absurd h
  under_dies (Some (Target.port p)) h = rw (dies_after old mid owed e sound d.judged p h) refl
  under_dies (Some (Target.once p)) h = rw (dies_after old mid owed e sound d.judged p h) refl
  under_dies (Some (Target.dead n)) h = absurd h
  under_dies (Some (Target.set n)) h = absurd h

  dead_ended : (p : ℕ) (b : Bool) → Dies mid p → (not (lives_after mid e p) || b) ≡ true
  dead_ended p b dies = or_left (not (lives_after mid e p)) b (rw (dies_after old mid owed e sound d.judged p dies) refl)

  paid_leaves : (place : Place) (n : Notice) → IsPaidAt mid e.told place n → place_stays (end_of now mid e) place ≡ false
  paid_leaves (in_task task) n h = absurd h
  paid_leaves (in_message q k) n h = dies_after old mid owed e sound d.judged q h.0
  paid_leaves (in_request (no_senders p)) n (inl h) = ended_not (mid.stands (no_senders p)) _ (dead_ended p (listed e.told p) h.0)
  paid_leaves (in_request (no_senders p)) n (inr h) = ended_not (mid.stands (no_senders p)) _ (or_right (not (lives_after mid e p)) (listed e.told p) h.0)
  paid_leaves (in_request (port_destroyed p)) n (inl h) = ended_not (mid.stands (port_destroyed p)) _ (dead_ended p (listed e.saved p) h.0)
  paid_leaves (in_request (port_destroyed p)) n (inr h) = ended_not (mid.stands (port_destroyed p)) _ (or_right (not (lives_after mid e p)) (listed e.saved p) (all_saved old mid owed e sound d.judged p h.0))
  paid_leaves (in_request (dead_name task name)) n h = ended_not (mid.stands (dead_name task name)) _ (under_dies (lookup mid task name) h.0)

  went_pays : (x : Token × Notice) → PaidForName mid x → lives_after mid e x.0.port ≡ true → pay (end_of now mid e) x.0 ≡ 1
  went_pays x w live = pays_here (end_of now mid e) x.0 w.once live (ap (place_stays (end_of now mid e)) w.kept ∙ (rw w.went refl))

  went_lived : All (λ (x : Token × Notice). mid.live_port x.0.port ≡ true) (went_in e.begun)
  went_lived = all_mapped (λ (t : Token). mid.live_port t.port ≡ true) (λ (x : Token × Notice). x.0) (went_in e.begun) (λ k d' below.
      let t = get_or (tokens_of (went_in e.begun)) k d' in
      let some = count_some (is_of t.kind t.port) (tokens_of (went_in e.begun)) k d' below (and_from _ _ (kind_refl t.kind) (eq-eqb t.port t.port refl)) in
      let all = sound.parts (λ y. if is_of t.kind t.port y then 1 else 0) in
      lives l.ports t.kind t.port (omega (arith, some, all)))

  owed_lived : All (λ (x : Token × Notice). mid.live_port x.0.port ≡ true) (owed_in e.begun)
  owed_lived = subst (All (λ (x : Token × Notice). mid.live_port x.0.port ≡ true)) (sym sound.owes) (λ k d' below. (l.are_owed k d' below).live)

  module _ (paid : All (λ (x : Token × Notice). lives_after mid e x.0.port ≡ true) e.paid) where
    all_pay : length e.paid ≤ weigh (pay (end_of now mid e)) (tokens_of e.paid)
    all_pay =
        let a = pay_whole (end_of now mid e) e.paid (λ k d' below live. let h = sound.paid k d' below in let x = get_or e.paid k d' in pays_here (end_of now mid e) x.0 h.0 live (paid_leaves x.0.place x.1 h.1)) in
        let b = all_kept (lives_after mid e) e.paid paid in
        omega (arith, a, b)

    all_posts : length (filter (λ (x : Token × Notice). lives_after mid e x.0.port) (went_in e.begun)) + length e.paid
        + length (filter (λ (x : Token × Notice). lives_after mid e x.0.port) owed) ≤ length s.notices.posted
    all_posts =
        let a = notices_sum now old mid owed (end_of now mid e) whole.0 (λ x. 1) in
        let b = sum_ones {A = ℕ × Notice} (list_map (λ (x : Posted). (x.port, x.notice)) whole.0.notices.posted) in
        let c = length-map {B = ℕ × Notice} whole.0.notices.posted (λ (x : Posted). (x.port, x.notice)) in
        let f = sum_ones (due_notices (filter (λ (x : Token × Notice). lives_after mid e x.0.port) owed)) in
        let g = length-map {B = ℕ × Notice} (filter (λ (x : Token × Notice). lives_after mid e x.0.port) owed) (λ (x : Token × Notice). (x.0.port, x.1)) in
        let h = sound.parts (pay (end_of now mid e)) in
        let i = pay_whole (end_of now mid e) (went_in e.begun) (λ k d' below live. went_pays (get_or (went_in e.begun) k d') (sound.went k d' below) live) in
        omega (arith, a, b, c, f, g, h, i, all_pay, same_many)

    -- It loses none either, so the slots are as many as before, with what the own part of the step posted.
    pub ends_with_all_slots : ((p k : ℕ) → listed e.doomed p ≡ true → IsWaiting mid e (p, k) → Contains e.destroyed (p, k)) → (before after : ℕ) →
        after + length e.paid + length (went_in e.begun) ≡ before + length e.destroyed → after + queued new ≡ before + queued mid + length owed
    ends_with_all_slots all before after slots =
        let few = ends_with_slots before after slots in
        let a = Settles-counted now old mid owed new l s in
        let b = begun_whole mid.live_port (listed e.doomed) e.begun owed_lived went_lived in
        let f = ap length sound.owes in
        let g = ap (λ (xs : Owed). length (filter (λ (x : Token × Notice). lives_after mid e x.0.port) xs)) sound.owes in
        let h = all_destroyed all in
        omega (arith, slots, few, a, b, f, g, h, all_posts)

-- ---- where no port is lost

abbrev live_once : State → Token → Bool
live_once new x = is_once_right x && new.live_port x.port

both_onces : (new : State) (xs : List Token) → All (λ x. new.live_port x.port ≡ true) xs → count (live_once new) xs ≡ count is_once_right xs
both_onces new [] all = refl
both_onces new (x ∷ xs) all =
    let rest = both_onces new xs (All-tail (λ (x : Token). new.live_port x.port ≡ true) x xs all) in
    let same : (if is_once_right x && new.live_port x.port then suc zero else zero) ≡ (if is_once_right x then suc zero else zero) =
    ap (λ (b : Bool). if is_once_right x && b then suc zero else zero) (All-head (λ (x : Token). new.live_port x.port ≡ true) x xs all) ∙ whole (is_once_right x) in
    omega (arith, rest, same)
  where
    whole : (b : Bool) → (if b && true then suc zero else zero) ≡ (if b then suc zero else zero)
    whole true = refl
    whole false = refl

fewer_onces_slots : (new : State) (xs : List Token) → count (live_once new) xs ≤ count is_once_right xs
fewer_onces_slots new xs = count_le (live_once new) is_once_right (λ x h. left_of (is_once_right x) (new.live_port x.port) h) xs

onces_most : (xs : Owed) → count is_once_right (tokens_of xs) ≤ length xs
onces_most [] = omega arith
onces_most (x ∷ xs) = grind (arith, onces_most xs, is_once_right)

module _ (now : ℕ) (old mid : State) (owed : Owed) (new : State) (l : MidLawful mid owed) (s : Settles now old mid owed new) (none : (p : ℕ) → ¬ (IsOrphan mid p)) where
  pub none_dies : (p : ℕ) → ¬ (Dies mid p)
  none_dies p dies = Dies-least mid (λ q. ⊥) (record { orphans = λ q orphan unsaved. none q orphan; carried = λ q via dead at unsaved. dead }) p dies

  still_lives : (p : ℕ) → mid.live_port p ≡ true → new.live_port p ≡ true
  still_lives p lived = grind (arith, none_dies)

  all_live : All (λ x. new.live_port x.port ≡ true) mid.ledger
  all_live k d below =
      let x = get_or mid.ledger k d in
      still_lives x.port (lives l.ports x.kind x.port (count_some (is_of x.kind x.port) mid.ledger k d below (and_from _ _ (kind_refl x.kind) (eq-eqb x.port x.port refl))))

  goes_off : (x : Token) → GoesFrom new x → live_once new x ≡ true → ⊥
  goes_off x (inl dead) h = let a = right_of (is_once_right x) (new.live_port x.port) h in cc
  goes_off x (inr g) h = let a = left_of (is_once_right x) (new.live_port x.port) h in let b = once_not x.kind g.0 in cc

  more_onces : once_rights mid + length owed ≤ once_rights new
  more_onces =
      let made = made_of now old mid owed new s is_once_right in
      let all = parts now old mid owed new s (live_once new) in
      let whole = both_onces new mid.ledger all_live in
      let stay = fewer_onces_slots new s.rights.staying in
      let pays = fewer_onces_slots new (tokens_of s.rights.paying) in
      let paid = onces_most s.rights.paying in
      let go = none_pass (GoesFrom new) (live_once new) goes_off s.rights.going s.rights.go in
      let due = sym (length-map {B = ℕ × Notice} s.notices.posted (λ (x : Posted). (x.port, x.notice))) ∙ ap length s.notices.due
      ∙ length-map {B = ℕ × Notice} (s.rights.paying ++ filter (λ x. new.live_port x.0.port) owed) (λ (x : Token × Notice). (x.0.port, x.1))
      ∙ length-append s.rights.paying (filter (λ x. new.live_port x.0.port) owed) in
      let kept = all_kept new.live_port owed (λ k d below. still_lives (get_or owed k d).0.port (l.are_owed k d below).live) in
      let posts = posted_onces s.notices.posted in
      omega (arith, made, all, whole, stay, pays, paid, go, due, kept, posts)

  more_by_send : (p : ℕ) (b : Bool) → mid.live_port p ≡ b → by_send_at mid p ≤ by_send_at new p
  more_by_send p false dead = let a : by_send_at mid p ≡ 0 = rw dead refl in omega (arith, a)
  more_by_send p true lived =
      let h = s.notices.logs p in
      let is : queue new p ≡ queue mid p ++ h.0 =
      ap (λ (x : State). drop (x.taken p) (new.log p)) s.rest ∙ ap (drop (mid.taken p)) h.1 ∙ drop-append-le (mid.taken p) (mid.log p) h.0 (l.within p) in
      let a : by_send_at new p ≡ tally (λ e. not (came_by_once e)) (queue new p) = rw (still_lives p lived) refl in
      let b : by_send_at mid p ≡ tally (λ e. not (came_by_once e)) (queue mid p) = rw lived refl in
      let c = ap (tally (λ e. not (came_by_once e))) is ∙ tally_append (λ e. not (came_by_once e)) (queue mid p) h.0 in
      omega (arith, a, b, c)

  all_by_send : queued_by_send mid ≤ queued_by_send new
  all_by_send = grind (arith, sum_fewer, more_by_send)

  -- Where a step's own part lost no port, its end needs just the slots that this part needs, with what it owes.
  pub ending_needs_all : queued new + unused_onces new ≡ queued mid + unused_onces mid + length owed
  ending_needs_all =
      let after = settled_lawful now old mid owed new l s in
      let most = ending_needs now old mid owed new l s in
      let a = needed new after.ports after.logs after.messages in
      let b = needed mid l.ports l.logs l.messages in
      omega (arith, most, a, b, more_onces, all_by_send)
