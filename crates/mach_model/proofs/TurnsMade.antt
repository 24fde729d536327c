-- Each turn as a function, and what a chain that is done has left.
use Rattle.std.proofs.Common.{◌≡◌, ℕ, suc, zero, ◌+◌, ◌<◌, ◌≤◌, List, [], ◌∷◌, Option, Some, None, refl, sym, ap, subst, ◌∙◌, arith, true, false, Bool, ◌⊎◌, inl, inr, length, get_or, ◌++◌}
use Rattle.std.specs.Prelude.{◌≢◌, if◌then◌else◌, All, not, Contains, ◌==◌, ◌&&◌, map as list_map, filter}
use Rattle.std.proofs.lemmas.List.Elements.{All-head, All-tail, All-cons, All-map}
use Rattle.std.proofs.lemmas.Bool.{eq-eqb, and_from, false_from_ne_true, eqb-true}
use Rattle.std.proofs.lemmas.List.{append-nil}
use Rattle.mach_types.specs.Tokens.{receive, send, send_once, Request, no_senders, port_destroyed, dead_name, Place, in_task, in_message, in_request, Token, weigh, count, Kind, token, is_of, same_kind}
use Rattle.mach_model.specs.State.{State, Target, lookup, senders, same_request}
use Rattle.mach_model.specs.Death.{same_place, IsSaved}
use Rattle.mach_model.specs.Notices.{right_unused, Owed, Notice, port_sent, no_more_senders}
use Rattle.mach_model.specs.Settles.{PlaceStays, StaysWith, Settles, tokens_of}
use Rattle.mach_model.specs.Carried.{lying}
use Rattle.mach_model.specs.Lawful.{is_once}
use Rattle.mach_model.specs.Midway.{MidLawful}
use Rattle.mach_model.specs.Turns.{Ending, listed, lives_after, became_dead, has_ended, outcome, IsNameOf, IsRequestOf, IsOnGone, IsOffRequest, is_among, SpendsRights, Begins, Dooms, Saves, DestroysDoomed, Loses, EndsRequest, Buries, TellsSenderless, Turn, IsReached, begins, turns, IsDone, Begun, IsWaiting, is_judged, IsFound, AreJudged, IsAtDoomed, death_notice, PaysAtEnd, owed_in, went_in, PaidForName}
use Rattle.mach_model.proofs.Names.{left_of, count_some, lying_le_of, held_le_of, right_of, some_tally}
use Rattle.mach_model.proofs.Settling.{is_at, own_test, place_refl, lives}
use Rattle.mach_model.proofs.SettledReceives.{or_cases, or_right, of_kind, at_place, kind_is, place_is}
use Rattle.mach_model.proofs.TurnsSettle.{IsSound, end_of, turns_settle, weaker}
use Rattle.mach_model.proofs.TurnsCounted.{listed_later, one_more, takes_less, reached_sound}

-- ---- When nothing is left to do, each right that is left stays: so a chain of turns that is done is an end as `Settles` says.

-- ---- what is so of all stays so of fewer

-- a token that passes, of those that are so
one_passes : (P : Token → Type 0) (test : Token → Bool) (ys : List Token) → All P ys → 0 < count test ys → (y : Token) × (P y) × (test y ≡ true)
one_passes P test [] all some = absurd (omega (arith, some))
one_passes P test (y ∷ ys) all some = go (test y) refl (All-head P y ys all) some (λ more. one_passes P test ys (All-tail P y ys all) more)
  where
    go : (b : Bool) → test y ≡ b → P y → 0 < (if b then suc zero else zero) + count test ys → (0 < count test ys → (z : Token) × (P z) × (test z ≡ true)) → (z : Token) × (P z) × (test z ≡ true)
    go true e h some rest = (y, h, e)
    go false e h some rest = rest (omega (arith, some))

same_token : (P : Token → Type 0) (x y : Token) → is_at x.kind x.port x.place y ≡ true → P y → P x
same_token P x y e h = grind (arith, of_kind, left_of, at_place)

pub all_fewer : (P : Token → Type 0) (xs ys : List Token) → ((h : Token → ℕ) → weigh h xs ≤ weigh h ys) → All P ys → All P xs
all_fewer P xs ys fewer all = λ k d below.
    let x = get_or xs k d in
    let some = count_some (is_at x.kind x.port x.place) xs k d below (own_test x) in
    let less = fewer (λ y. if is_at x.kind x.port x.place y then 1 else 0) in
    let y = one_passes P (is_at x.kind x.port x.place) ys all (omega (arith, some, less)) in
    same_token P x y.0 y.2 y.1

all_so : (P Q : Token → Type 0) → ((x : Token) → P x → Q x) → (xs : List Token) → All P xs → All Q xs
all_so P Q so xs all = λ k d below. so (get_or xs k d) (all k d below)

-- ---- what has left, turn by turn

abbrev at_request : Request → Token → Bool
at_request r x = same_place (in_request r) x.place

-- ---- lists of requests

pub same_request_is : (r q : Request) → same_request r q ≡ true → r ≡ q
same_request_is (no_senders p) (no_senders q) e = ap no_senders (eqb-true p q e)
same_request_is (port_destroyed p) (port_destroyed q) e = ap port_destroyed (eqb-true p q e)
same_request_is (dead_name t n) (dead_name u m) e = grind (arith, eqb-true, left_of, right_of)
same_request_is (no_senders p) (port_destroyed q) e = absurd (cc)
same_request_is (no_senders p) (dead_name u m) e = absurd (cc)
same_request_is (port_destroyed p) (no_senders q) e = absurd (cc)
same_request_is (port_destroyed p) (dead_name u m) e = absurd (cc)
same_request_is (dead_name t n) (no_senders q) e = absurd (cc)
same_request_is (dead_name t n) (port_destroyed q) e = absurd (cc)

pub among_later : (request : Request) (rs : List Request) (r : Request) → is_among rs r ≡ true → is_among (request ∷ rs) r ≡ true
among_later request rs r h = or_right (same_request r request) (is_among rs r) h

-- what is so of each request of a list with one more
pub one_among : (P : Request → Type 0) (request : Request) (rs qs : List Request) → qs ≡ request ∷ rs → P request → ((r : Request) → is_among rs r ≡ true → P r) → (r : Request) → is_among qs r ≡ true → P r
one_among P request rs qs is own others r h = elim (or_cases (same_request r request) (is_among rs r) (ap (λ (xs : List Request). is_among xs r) (sym is) ∙ h)) [
  | inl same ↦ subst P (sym (same_request_is r request same)) own
  | inr was ↦ others r was
]

module _ (old mid : State) (owed : Owed) where
  abbrev EndedOf : Ending → ℕ → Type 0
  EndedOf e p = (r : Request) → mid.stands r ≡ true → IsRequestOf mid p r → is_among e.ended r ≡ true

  record IsCleared (e : Ending) : Type 0 where
    names : All (λ x. ¬ (IsOnGone mid x.place)) e.left
    ended : (r : Request) → is_among e.ended r ≡ true → All (IsOffRequest e r) e.left
    buried : (p : ℕ) → listed e.buried p ≡ true → All (λ x. x.port ≢ p) e.left
    ended_of : (p : ℕ) → listed e.buried p ≡ true → EndedOf e p
    told : (p : ℕ) → listed e.told p ≡ true → All (IsOffRequest e (no_senders p)) e.left
    saved : (p : ℕ) → listed e.saved p ≡ true → count (at_request (port_destroyed p)) e.left ≡ 0

  -- more are doomed and have ended, and fewer rights are left
  record IsFewer (e f : Ending) : Type 0 where
    doomed : (p : ℕ) → listed e.doomed p ≡ true → listed f.doomed p ≡ true
    ended : (r : Request) → is_among e.ended r ≡ true → is_among f.ended r ≡ true
    left : (h : Token → ℕ) → weigh h f.left ≤ weigh h e.left

  module _ (e f : Ending) (n : IsFewer e f) where
    off_request : (r : Request) (x : Token) → IsOffRequest e r x → IsOffRequest f r x
    off_request r x h at = n.doomed x.port (h at)

    all_off : (r : Request) → All (IsOffRequest e r) e.left → All (IsOffRequest f r) f.left
    all_off r all = all_so (IsOffRequest e r) (IsOffRequest f r) (off_request r) f.left (all_fewer (IsOffRequest e r) f.left e.left n.left all)

    still_off : (r : Request) → All (IsOffRequest e r) f.left → All (IsOffRequest f r) f.left
    still_off r all = all_so (IsOffRequest e r) (IsOffRequest f r) (off_request r) f.left all

    same_list : (P : ℕ → Type 0) (ps qs : List ℕ) → qs ≡ ps → ((p : ℕ) → listed ps p ≡ true → P p) → (p : ℕ) → listed qs p ≡ true → P p
    same_list P ps qs is all p h = all p (ap (λ (ps : List ℕ). listed ps p) (sym is) ∙ h)

    module _ (c : IsCleared e) where
      was_ended : (r : Request) → is_among e.ended r ≡ true → All (IsOffRequest f r) f.left
      was_ended r h = all_off r (c.ended r h)

      was_buried : (p : ℕ) → listed e.buried p ≡ true → All (λ x. x.port ≢ p) f.left
      was_buried p h = all_fewer (λ x. x.port ≢ p) f.left e.left n.left (c.buried p h)

      was_ended_of : (p : ℕ) → listed e.buried p ≡ true → EndedOf f p
      was_ended_of p h r stands of = n.ended r (c.ended_of p h r stands of)

      was_told : (p : ℕ) → listed e.told p ≡ true → All (IsOffRequest f (no_senders p)) f.left
      was_told p h = all_off (no_senders p) (c.told p h)

      was_saved : (p : ℕ) → listed e.saved p ≡ true → count (at_request (port_destroyed p)) f.left ≡ 0
      was_saved p h = let z = c.saved p h in let a = n.left (λ x. if at_request (port_destroyed p) x then 1 else 0) in omega (arith, z, a)

      same_ended : f.ended ≡ e.ended → (r : Request) → is_among f.ended r ≡ true → All (IsOffRequest f r) f.left
      same_ended is r h = was_ended r (ap (λ (rs : List Request). is_among rs r) (sym is) ∙ h)

      -- where no port was buried
      unburied_kept : f.buried ≡ e.buried → ((r : Request) → is_among f.ended r ≡ true → All (IsOffRequest f r) f.left) → ((p : ℕ) → listed f.told p ≡ true → All (IsOffRequest f (no_senders p)) f.left) →
          ((p : ℕ) → listed f.saved p ≡ true → count (at_request (port_destroyed p)) f.left ≡ 0) → IsCleared f
      unburied_kept b ended told saved = record {
        names = all_fewer (λ x. ¬ (IsOnGone mid x.place)) f.left e.left n.left c.names;
        ended = ended;
        buried = same_list (λ p. All (λ x. x.port ≢ p) f.left) e.buried f.buried b was_buried;
        ended_of = same_list (EndedOf f) e.buried f.buried b was_ended_of;
        told = told;
        saved = saved;
      }

      now_told : f.told ≡ e.told → (p : ℕ) → listed f.told p ≡ true → All (IsOffRequest f (no_senders p)) f.left
      now_told t = same_list (λ p. All (IsOffRequest f (no_senders p)) f.left) e.told f.told t was_told

      now_saved : f.saved ≡ e.saved → (p : ℕ) → listed f.saved p ≡ true → count (at_request (port_destroyed p)) f.left ≡ 0
      now_saved s = same_list (λ p. count (at_request (port_destroyed p)) f.left ≡ 0) e.saved f.saved s was_saved

      calm_kept : f.ended ≡ e.ended → f.buried ≡ e.buried → f.told ≡ e.told → f.saved ≡ e.saved → IsCleared f
      calm_kept d b t s = unburied_kept b (same_ended d) (now_told t) (now_saved s)

  same_doomed : (e f : Ending) → f.doomed ≡ e.doomed → (p : ℕ) → listed e.doomed p ≡ true → listed f.doomed p ≡ true
  same_doomed e f is p h = ap (λ (ps : List ℕ). listed ps p) is ∙ h

  still_ended : (e f : Ending) → f.ended ≡ e.ended → (r : Request) → is_among e.ended r ≡ true → is_among f.ended r ≡ true
  still_ended e f is r h = ap (λ (rs : List Request). is_among rs r) is ∙ h

  module _ (l : MidLawful mid owed) (e f : Ending) (s : IsSound old mid owed e) (c : IsCleared e) where
    no_less : f.left ≡ e.left → (h : Token → ℕ) → weigh h f.left ≤ weigh h e.left
    no_less is h = let a : weigh h f.left ≡ weigh h e.left = ap (weigh h) is in omega (arith, a)

    dooms_cleared : Dooms mid e f → IsCleared f
    dooms_cleared t = grind (arith, calm_kept, listed_later, still_ended, no_less)

    destroys_cleared : DestroysDoomed mid e f → IsCleared f
    destroys_cleared t = grind (arith, calm_kept, same_doomed, still_ended, no_less)

    loses_cleared : Loses mid e f → IsCleared f
    loses_cleared t = calm_kept e f (record { doomed = same_doomed e f (ap (λ (x : Ending). x.doomed) t.rest); ended = still_ended e f (ap (λ (x : Ending). x.ended) t.rest); left = less t.takes })
        c (ap (λ (x : Ending). x.ended) t.rest) (ap (λ (x : Ending). x.buried) t.rest) (ap (λ (x : Ending). x.told) t.rest) (ap (λ (x : Ending). x.saved) t.rest)
      where
        less : (t.right.kind ≡ send_once) × SpendsRights e f ((t.right, right_unused) ∷ []) [] ⊎ (t.right.kind ≢ send_once) × SpendsRights e f [] (t.right ∷ []) → (h : Token → ℕ) → weigh h f.left ≤ weigh h e.left
        less (inl a) = takes_less e f _ _ a.1
        less (inr a) = takes_less e f _ _ a.1

    saves_cleared : Saves mid e f → IsCleared f
    saves_cleared t =
        let n : IsFewer e f = record { doomed = same_doomed e f (ap (λ (x : Ending). x.doomed) t.rest); ended = still_ended e f (ap (λ (x : Ending). x.ended) t.rest); left = takes_less e f _ _ t.takes } in
        unburied_kept e f n c (ap (λ (x : Ending). x.buried) t.rest) (same_ended e f n c (ap (λ (x : Ending). x.ended) t.rest)) (now_told e f n c (ap (λ (x : Ending). x.told) t.rest))
        (one_more (λ p. count (at_request (port_destroyed p)) f.left ≡ 0) t.port e.saved f.saved (ap (λ (x : Ending). x.saved) t.rest) taken (was_saved e f n c))
      where
        own : same_place (in_request (port_destroyed t.port)) (in_request (port_destroyed t.port)) ≡ true
        own = place_refl (in_request (port_destroyed t.port))

        -- it was the one right that the request kept
        taken : count (at_request (port_destroyed t.port)) f.left ≡ 0
        taken =
            let a = t.takes.left (λ x. if at_request (port_destroyed t.port) x then 1 else 0) in
            let b = s.parts (λ x. if at_request (port_destroyed t.port) x then 1 else 0) in
            let one = l.one_kept (port_destroyed t.port) in
            let o : (if same_place (in_request (port_destroyed t.port)) (in_request (port_destroyed t.port)) then suc zero else zero) ≡ suc zero = rw own refl in
            omega (arith, a, b, one, o)

    ends_cleared : EndsRequest mid e f → IsCleared f
    ends_cleared t =
        let now : f.ended ≡ t.request ∷ e.ended = ap (λ (x : Ending). x.ended) t.rest in
        let n : IsFewer e f = record {
          doomed = same_doomed e f (ap (λ (x : Ending). x.doomed) t.rest);
          ended = λ r h. ap (λ (rs : List Request). is_among rs r) now ∙ among_later t.request e.ended r h;
          left = takes_less e f _ _ t.takes;
        } in
        unburied_kept e f n c (ap (λ (x : Ending). x.buried) t.rest)
        (one_among (λ r. All (IsOffRequest f r) f.left) t.request e.ended f.ended now (still_off e f n t.request t.all_left) (was_ended e f n c))
        (now_told e f n c (ap (λ (x : Ending). x.told) t.rest)) (now_saved e f n c (ap (λ (x : Ending). x.saved) t.rest))

    buries_cleared : Buries mid e f → IsCleared f
    buries_cleared t =
        let n : IsFewer e f = record { doomed = same_doomed e f (ap (λ (x : Ending). x.doomed) t.rest); ended = still_ended e f (ap (λ (x : Ending). x.ended) t.rest); left = takes_less e f _ _ t.takes } in
        record {
          names = all_fewer (λ x. ¬ (IsOnGone mid x.place)) f.left e.left n.left c.names;
          ended = same_ended e f n c (ap (λ (x : Ending). x.ended) t.rest);
          buried = one_more (λ p. All (λ x. x.port ≢ p) f.left) t.port e.buried f.buried (ap (λ (x : Ending). x.buried) t.rest) t.all_left (was_buried e f n c);
          ended_of = one_more (EndedOf f) t.port e.buried f.buried (ap (λ (x : Ending). x.buried) t.rest) (λ r stands of. n.ended r (t.ended r stands of)) (was_ended_of e f n c);
          told = now_told e f n c (ap (λ (x : Ending). x.told) t.rest);
          saved = now_saved e f n c (ap (λ (x : Ending). x.saved) t.rest);
        }

    tells_cleared : TellsSenderless old mid e f → IsCleared f
    tells_cleared t =
        let n : IsFewer e f = record { doomed = same_doomed e f (ap (λ (x : Ending). x.doomed) t.rest); ended = still_ended e f (ap (λ (x : Ending). x.ended) t.rest); left = takes_less e f _ _ t.takes } in
        unburied_kept e f n c (ap (λ (x : Ending). x.buried) t.rest) (same_ended e f n c (ap (λ (x : Ending). x.ended) t.rest))
        (one_more (λ p. All (IsOffRequest f (no_senders p)) f.left) t.port e.told f.told (ap (λ (x : Ending). x.told) t.rest) (still_off e f n (no_senders t.port) t.all_left) (was_told e f n c))
        (now_saved e f n c (ap (λ (x : Ending). x.saved) t.rest))

    turn_cleared : Turn old mid e f → IsCleared f
    turn_cleared (inl t) = dooms_cleared t
    turn_cleared (inr (inl t)) = saves_cleared t
    turn_cleared (inr (inr (inl t))) = destroys_cleared t
    turn_cleared (inr (inr (inr (inl t)))) = loses_cleared t
    turn_cleared (inr (inr (inr (inr (inl t))))) = ends_cleared t
    turn_cleared (inr (inr (inr (inr (inr (inl t)))))) = buries_cleared t
    turn_cleared (inr (inr (inr (inr (inr (inr t)))))) = tells_cleared t

  begins_cleared : (e : Ending) → Begins mid owed e → IsCleared e
  begins_cleared e b = record {
    names = b.all_went;
    ended = λ r h. absurd (let z : is_among e.ended r ≡ false = ap (λ (x : Ending). is_among x.ended r) b.rest in cc);
    buried = λ p h. absurd (let z : listed e.buried p ≡ false = ap (λ (x : Ending). listed x.buried p) b.rest in cc);
    ended_of = λ p h. absurd (let z : listed e.buried p ≡ false = ap (λ (x : Ending). listed x.buried p) b.rest in cc);
    told = λ p h. absurd (let z : listed e.told p ≡ false = ap (λ (x : Ending). listed x.told p) b.rest in cc);
    saved = λ p h. absurd (let z : listed e.saved p ≡ false = ap (λ (x : Ending). listed x.saved p) b.rest in cc);
  }

  reached_cleared : MidLawful mid owed → (e : Ending) → IsReached old mid owed e → IsCleared e
  reached_cleared l e' (begins e b) = begins_cleared e b
  reached_cleared l f' (turns e f before t) = turn_cleared l e f (reached_sound old mid owed e before) (reached_cleared l e before) t

  -- ---- where a right is that is left

  module _ (l : MidLawful mid owed) (e : Ending) (s : IsSound old mid owed e) (c : IsCleared e) where
    module _ (k : ℕ) (o : Token) (below : k < length e.left) where
      abbrev x : Token
      x = get_or e.left k o

      some_left : 0 < count (is_at x.kind x.port x.place) e.left
      some_left = count_some (is_at x.kind x.port x.place) e.left k o below (own_test x)

      some_lies : 0 < lying mid x.kind x.port x.place
      some_lies = let a = s.parts (λ y. if is_at x.kind x.port x.place y then 1 else 0) in let b = some_left in omega (arith, a, b)

      port_lived : mid.live_port x.port ≡ true
      port_lived = lives l.ports x.kind x.port (let a = some_lies in let b = lying_le_of mid x.kind x.port x.place in omega (arith, a, b))

      lies_at : (place : Place) → x.place ≡ place → 0 < lying mid x.kind x.port place
      lies_at place at = subst (λ (y : Place). 0 < lying mid x.kind x.port y) at some_lies

      stood : (r : Request) → x.place ≡ in_request r → mid.stands r ≡ true
      stood r at = grind (arith, lies_at (in_request r) at)

  -- ---- what is left stays

  module _ (l : MidLawful mid owed) (e : Ending) (s : IsSound old mid owed e) (c : IsCleared e) (d : IsDone old mid e) where
    undoomed_lives : (p : ℕ) → mid.live_port p ≡ true → (listed e.doomed p ≡ true → ⊥) → lives_after mid e p ≡ true
    undoomed_lives p live none = and_from (mid.live_port p) (not (listed e.doomed p)) live (rw (false_from_ne_true (listed e.doomed p) none) refl)

    -- a port of before that doesn't live
    gone_doomed : (p : ℕ) → mid.live_port p ≡ true → not (lives_after mid e p) ≡ true → listed e.doomed p ≡ true
    gone_doomed p live = grind arith

    named_lives : (task name p : ℕ) → lookup mid task name ≡ Some (Target.port p) → mid.live_port p ≡ true
    named_lives task name p is = grind (arith, (l.naming task).has_right name p is, held_le_of task receive p mid.ledger, held_le_of task send p mid.ledger)

    once_lives : (task name p : ℕ) → lookup mid task name ≡ Some (Target.once p) → mid.live_port p ≡ true
    once_lives task name p is = grind (arith, some_tally (is_once p) (mid.naming task) name (Target.once p) is (eq-eqb p p refl), held_le_of task send_once p mid.ledger)

    module _ (k : ℕ) (o : Token) (below : k < length e.left) where
      abbrev right : Token
      right = get_or e.left k o

      undoomed : listed e.doomed right.port ≡ true → ⊥
      undoomed h = c.buried right.port (d.buried right.port h) k o below refl

      -- its request is none of a doomed port
      off_doomed : (p : ℕ) (r : Request) → right.place ≡ in_request r → IsRequestOf mid p r → mid.live_port p ≡ true → not (lives_after mid e p) ≡ true → ⊥
      off_doomed p r at is live gone = undoomed (c.ended r (c.ended_of p (d.buried p (gone_doomed p live gone)) r (stood l e s c k o below r at) is) k o below at)

      unended : (r : Request) → right.place ≡ in_request r → mid.stands r ≡ true → has_ended mid e r ≡ true → ⊥
      unended (no_senders p) at stands h = elim (or_cases (not (lives_after mid e p)) (listed e.told p) h) [
        | inl gone ↦ off_doomed p (no_senders p) at refl (l.stands_on (no_senders p) stands) gone
        | inr was ↦ undoomed (c.told p was k o below at)
      ]
      unended (port_destroyed p) at stands h = elim (or_cases (not (lives_after mid e p)) (listed e.saved p) h) [
        | inl gone ↦ off_doomed p (port_destroyed p) at refl (l.stands_on (port_destroyed p) stands) gone
        | inr was ↦ (let z = c.saved p was in
            let some = count_some (at_request (port_destroyed p)) e.left k o below (subst (λ (y : Place). same_place (in_request (port_destroyed p)) y ≡ true) (sym at) (place_refl (in_request (port_destroyed p)))) in
            omega (arith, z, some))
      ]
      unended (dead_name task name) at stands h = go (lookup mid task name) refl h
        where
          go : (t : Option Target) → lookup mid task name ≡ t → became_dead mid e t ≡ true → ⊥
          go None is f = cc
          go (Some (Target.port p)) is f = off_doomed p (dead_name task name) at (subst (IsNameOf p) (sym is) refl) (named_lives task name p is) f
          go (Some (Target.once p)) is f = off_doomed p (dead_name task name) at (subst (IsNameOf p) (sym is) refl) (once_lives task name p is) f
          go (Some (Target.dead n)) is f = cc
          go (Some (Target.set n)) is f = cc

      place_stays : (place : Place) → right.place ≡ place → PlaceStays (outcome mid e) place
      place_stays (in_task task) at = tt
      place_stays (in_message q n) at = grind (arith, lies_at l e s c k o below (in_message q n) at)
      place_stays (in_request r) at = grind (arith, and_from, stood, false_from_ne_true, unended)

      one_stays : StaysWith (outcome mid e) right
      one_stays = (undoomed_lives right.port (port_lived l e s c k o below) undoomed, place_stays right.place refl)

    left_stays : All (StaysWith (outcome mid e)) e.left
    left_stays k o below = one_stays k o below

-- ---- requests that ended are of doomed ports

pub record EndedWell (mid : State) (e : Ending) (r : Request) : Type 0 where
  pub port : ℕ
  pub doomed : listed e.doomed port ≡ true
  pub stands : mid.stands r ≡ true
  pub is_of : IsRequestOf mid port r

module _ (old mid : State) (owed : Owed) where
  more_doomed : (e f : Ending) → ((p : ℕ) → listed e.doomed p ≡ true → listed f.doomed p ≡ true) → (r : Request) → EndedWell mid e r → EndedWell mid f r
  more_doomed e f more r h = record { port = h.port; doomed = more h.port h.doomed; stands = h.stands; is_of = h.is_of }

  same_well : (e f : Ending) → f.doomed ≡ e.doomed → f.ended ≡ e.ended → ((r : Request) → is_among e.ended r ≡ true → EndedWell mid e r) → (r : Request) → is_among f.ended r ≡ true → EndedWell mid f r
  same_well e f doomed ended well r h = more_doomed e f (same_doomed old mid owed e f doomed) r (well r (ap (λ (rs : List Request). is_among rs r) (sym ended) ∙ h))

  turn_well : (e f : Ending) → Turn old mid e f → ((r : Request) → is_among e.ended r ≡ true → EndedWell mid e r) → (r : Request) → is_among f.ended r ≡ true → EndedWell mid f r
  turn_well e f (inl t) well r h = more_doomed e f (λ p was. ap (λ (x : Ending). listed x.doomed p) t.rest ∙ listed_later t.port e.doomed p was) r (well r (ap (λ (x : Ending). is_among x.ended r) (sym t.rest) ∙ h))
  turn_well e f (inr (inl t)) well r h = same_well e f (ap (λ (x : Ending). x.doomed) t.rest) (ap (λ (x : Ending). x.ended) t.rest) well r h
  turn_well e f (inr (inr (inl t))) well r h = same_well e f (ap (λ (x : Ending). x.doomed) t.rest) (ap (λ (x : Ending). x.ended) t.rest) well r h
  turn_well e f (inr (inr (inr (inl t)))) well r h = same_well e f (ap (λ (x : Ending). x.doomed) t.rest) (ap (λ (x : Ending). x.ended) t.rest) well r h
  turn_well e f (inr (inr (inr (inr (inl t))))) well r h =
      let same = same_doomed old mid owed e f (ap (λ (x : Ending). x.doomed) t.rest) in
      one_among (EndedWell mid f) t.request e.ended f.ended (ap (λ (x : Ending). x.ended) t.rest) (record { port = t.port; doomed = same t.port t.doomed; stands = t.stands; is_of = t.is_of }) (λ r h. more_doomed e f same r (well r h)) r h
  turn_well e f (inr (inr (inr (inr (inr (inl t)))))) well r h = same_well e f (ap (λ (x : Ending). x.doomed) t.rest) (ap (λ (x : Ending). x.ended) t.rest) well r h
  turn_well e f (inr (inr (inr (inr (inr (inr t)))))) well r h = same_well e f (ap (λ (x : Ending). x.doomed) t.rest) (ap (λ (x : Ending). x.ended) t.rest) well r h

  pub reached_ended : (e : Ending) → IsReached old mid owed e → (r : Request) → is_among e.ended r ≡ true → EndedWell mid e r
  reached_ended e' (begins e b) r h = absurd (let z : is_among e.ended r ≡ false = ap (λ (x : Ending). is_among x.ended r) b.rest in cc)
  reached_ended f' (turns e f before t) r h = turn_well e f t (reached_ended e before) r h

-- A chain of turns that is done leads to an end of the step.
pub reached_settles : (now : ℕ) (old mid : State) (owed : Owed) (e : Ending) → MidLawful mid owed → IsReached old mid owed e → IsDone old mid e → Settles now old mid owed (end_of now mid e)
reached_settles now old mid owed e l r d =
    let s = reached_sound old mid owed e r in
    turns_settle now old mid owed e l s d.judged (left_stays old mid owed l e s (reached_cleared old mid owed l e r) d) d.told

-- ---- Each turn as a function: what it makes of an ending, and when that is a turn.

-- ---- lists of rights in parts

-- the first that is this right goes
abbrev pub without : Token → List Token → List Token
without x [] = []
without x (y ∷ ys) = if is_at x.kind x.port x.place y then ys else y ∷ without x ys

same_weight : (h : Token → ℕ) (x y : Token) → is_at x.kind x.port x.place y ≡ true → h y ≡ h x
same_weight h x y e = grind (arith, of_kind, left_of, at_place)

pub without_weigh : (x : Token) (xs : List Token) → 0 < count (is_at x.kind x.port x.place) xs → (h : Token → ℕ) → weigh h xs ≡ weigh h (without x xs) + h x
without_weigh x [] some h = absurd (omega (arith, some))
without_weigh x (y ∷ ys) some h = go (is_at x.kind x.port x.place y) refl some (λ more. without_weigh x ys more h)
  where
    go : (b : Bool) → is_at x.kind x.port x.place y ≡ b → 0 < (if b then suc zero else zero) + count (is_at x.kind x.port x.place) ys →
        (0 < count (is_at x.kind x.port x.place) ys → weigh h ys ≡ weigh h (without x ys) + h x) → h y + weigh h ys ≡ weigh h (if b then ys else y ∷ without x ys) + h x
    go true e some ih = let a = same_weight h x y e in omega (arith, a)
    go false e some ih = let a = ih (omega (arith, some)) in omega (arith, a)

pub parted : (h : Token → ℕ) (t : Token → Bool) (xs : List Token) → weigh h xs ≡ weigh h (filter (λ x. not (t x)) xs) + weigh h (filter t xs)
parted h t [] = omega arith
parted h t (x ∷ xs) = grind (arith, parted h t xs)

-- what is so of those that pass, and of those that don't
passing : (P : Token → Type 0) (t : Token → Bool) (xs : List Token) → All P xs → All (λ x. P x × (t x ≡ true)) (filter t xs)
passing P t [] all = λ k d below. absurd (omega arith)
passing P t (x ∷ xs) all = go (t x) refl (All-head P x xs all) (passing P t xs (All-tail P x xs all))
  where
    go : (b : Bool) → t x ≡ b → P x → All (λ x. P x × (t x ≡ true)) (filter t xs) → All (λ x. P x × (t x ≡ true)) (if b then x ∷ filter t xs else filter t xs)
    go true e h rest = All-cons (λ x. P x × (t x ≡ true)) x (filter t xs) (h, e) rest
    go false e h rest = rest

any_all : (xs : List Token) → All (λ x. Unit {0}) xs
any_all xs = λ k d below. tt

not_true : (b : Bool) → not b ≡ true → b ≡ false
not_true true e = absurd (cc)
not_true false e = refl

not_both : (a b : Bool) → not (a && not b) ≡ true → a ≡ true → b ≡ true
not_both true true e f = refl
not_both true false e f = absurd (cc)
not_both false b e f = absurd (cc)

abbrev pub notes : (Token → Notice) → List Token → Owed
notes n xs = list_map (λ x. (x, n x)) xs

notes_tokens : (n : Token → Notice) (xs : List Token) → tokens_of (notes n xs) ≡ xs
notes_tokens n [] = refl
notes_tokens n (x ∷ xs) = ap (λ (ys : List Token). x ∷ ys) (notes_tokens n xs)

-- ---- a port is judged

abbrev pub doom : ℕ → Ending → Ending
doom p e = record e { doomed = p ∷ e.doomed; turns = e.turns + 1 }

pub doom_is : (mid : State) (e : Ending) (p : ℕ) → IsFound mid e p → is_judged e p ≡ false → ¬ (IsSaved mid p) → Dooms mid e (doom p e)
doom_is mid e p found unjudged unsaved = record { port = p; found = found; unjudged = unjudged; unsaved = unsaved; rest = refl }

abbrev pub is_at_doomed : Ending → Place → Bool
is_at_doomed e (in_task task) = false
is_at_doomed e (in_message q k) = listed e.doomed q
is_at_doomed e (in_request r) = false

at_doomed : (e : Ending) (place : Place) → is_at_doomed e place ≡ true → IsAtDoomed e place
at_doomed e (in_task task) h = absurd (cc)
at_doomed e (in_message q k) h = h
at_doomed e (in_request r) h = absurd (cc)

abbrev pub is_carried_here : Ending → ℕ → Token → Bool
is_carried_here e p x = is_of receive p x && is_at_doomed e x.place

abbrev pub kept_right : (notify p : ℕ) → Token
kept_right notify p = token send_once notify (in_request (port_destroyed p))

abbrev pub save : (notify p : ℕ) → Ending → Ending
save notify p e = record e {
  saved = p ∷ e.saved;
  left = filter (λ x. not (is_carried_here e p x)) (without (kept_right notify p) e.left);
  paid = e.paid ++ (kept_right notify p, port_sent p) ∷ [];
  gone = e.gone ++ filter (is_carried_here e p) (without (kept_right notify p) e.left);
  turns = e.turns + 1;
}

pub save_is : (mid : State) (e : Ending) (p : ℕ) → IsFound mid e p → is_judged e p ≡ false → (saved : IsSaved mid p) →
    0 < count (is_at send_once saved.notify (in_request (port_destroyed p))) e.left → Saves mid e (save saved.notify p e)
save_is mid e p found unjudged saved there = record {
  port = p;
  found = found;
  unjudged = unjudged;
  saved = saved;
  going = filter (is_carried_here e p) (without (kept_right saved.notify p) e.left);
  carried = weaker (λ x. Unit {0} × (is_carried_here e p x ≡ true)) (λ x. (x.kind ≡ receive) × (x.port ≡ p) × IsAtDoomed e x.place)
      (λ x h. (
        (of_kind receive p x (left_of (is_of receive p x) (is_at_doomed e x.place) h.1)).0,
        (of_kind receive p x (left_of (is_of receive p x) (is_at_doomed e x.place) h.1)).1,
        at_doomed e x.place (right_of (is_of receive p x) (is_at_doomed e x.place) h.1),
      ))
      (filter (is_carried_here e p) (without (kept_right saved.notify p) e.left))
      (passing (λ x. Unit {0}) (is_carried_here e p) (without (kept_right saved.notify p) e.left) (any_all (without (kept_right saved.notify p) e.left)));
  takes = record {
    left = λ h.
        let a = without_weigh (kept_right saved.notify p) e.left there h in
        let b = parted h (is_carried_here e p) (without (kept_right saved.notify p) e.left) in omega (arith, a, b);
    paid = refl;
    gone = refl;
  };
  rest = refl;
}

-- ---- a right of a destroyed message is lost

abbrev pub lose : Token → Ending → Ending
lose x e = record e {
  left = without x e.left;
  paid = if same_kind send_once x.kind then e.paid ++ (x, right_unused) ∷ [] else e.paid;
  gone = if same_kind send_once x.kind then e.gone else e.gone ++ x ∷ [];
  turns = e.turns + 1;
}

pub lose_is : (mid : State) (e : Ending) (x : Token) → AreJudged mid e → listed e.doomed x.port ≡ false → IsAtDoomed e x.place → 0 < count (is_at x.kind x.port x.place) e.left → Loses mid e (lose x e)
lose_is mid e x judged lives at there = record { right = x; judged = judged; lives = lives; destroyed = at; takes = go (same_kind send_once x.kind) refl; rest = refl }
  where
    go : (b : Bool) → same_kind send_once x.kind ≡ b → (x.kind ≡ send_once) × SpendsRights e (lose x e) ((x, right_unused) ∷ []) [] ⊎ (x.kind ≢ send_once) × SpendsRights e (lose x e) [] (x ∷ [])
    go true is = grind (arith, kind_is, without_weigh, append-nil)
    go false is = grind (arith, without_weigh, append-nil)

-- ---- requests pay

-- a right that the request keeps, for a port that lives
abbrev pub is_paying : Ending → Request → Token → Bool
is_paying e r x = same_place (in_request r) x.place && not (listed e.doomed x.port)

abbrev pub paying_of : Ending → Notice → Request → List Token → Owed
paying_of e n r xs = notes (λ x. n) (filter (is_paying e r) xs)

abbrev pub left_after : Ending → Request → List Token → List Token
left_after e r xs = filter (λ x. not (is_paying e r x)) xs

paying_weigh : (e : Ending) (n : Notice) (r : Request) (xs : List Token) (h : Token → ℕ) → weigh h xs ≡ weigh h (left_after e r xs) + weigh h (tokens_of (paying_of e n r xs))
paying_weigh e n r xs h =
    let a = parted h (is_paying e r) xs in
    let d : weigh h (tokens_of (notes (λ x. n) (filter (is_paying e r) xs))) ≡ weigh h (filter (is_paying e r) xs) = ap (weigh h) (notes_tokens (λ x. n) (filter (is_paying e r) xs)) in
    omega (arith, a, d)

-- a right that a request keeps is a send-once right
abbrev pub IsOnceKept : Token → Type 0
IsOnceKept x = (r : Request) → x.place ≡ in_request r → x.kind ≡ send_once

pub all_once_kept : (old mid : State) (owed : Owed) (e : Ending) → MidLawful mid owed → IsSound old mid owed e → All IsOnceKept e.left
all_once_kept old mid owed e l s k d below r at = go (get_or e.left k d).kind refl
  where
    none : (kind : Kind) → (get_or e.left k d).kind ≡ kind → kind ≢ send_once → ⊥
    none kind is not =
        let some = count_some (is_at (get_or e.left k d).kind (get_or e.left k d).port (get_or e.left k d).place) e.left k d below (own_test (get_or e.left k d)) in
        let a = s.parts (λ y. if is_at (get_or e.left k d).kind (get_or e.left k d).port (get_or e.left k d).place y then 1 else 0) in
        let z = l.once_kept r kind (get_or e.left k d).port not in
        let same : lying mid (get_or e.left k d).kind (get_or e.left k d).port (get_or e.left k d).place ≡ lying mid kind (get_or e.left k d).port (in_request r) =
        λ i. lying mid (is i) (get_or e.left k d).port (at i) in
        omega (arith, some, a, z, same)

    go : (kind : Kind) → (get_or e.left k d).kind ≡ kind → (get_or e.left k d).kind ≡ send_once
    go receive is = absurd (none receive is (λ f. cc))
    go send is = absurd (none send is (λ f. cc))
    go send_once is = is

-- what paid is the right of the request
pub record IsPaying (e : Ending) (n : Notice) (request : Request) (x : Token × Notice) : Type 0 where
  pub once : x.0.kind ≡ send_once
  pub lives : listed e.doomed x.0.port ≡ false
  pub kept : x.0.place ≡ in_request request
  pub tells : x.1 ≡ n

all_paying : (e : Ending) (n : Notice) (r : Request) (xs : List Token) → All IsOnceKept xs → All (IsPaying e n r) (paying_of e n r xs)
all_paying e n r xs all = All-map (IsPaying e n r) (λ x. (x, n)) (filter (is_paying e r) xs)
    (weaker (λ x. IsOnceKept x × (is_paying e r x ≡ true)) (λ x. IsPaying e n r (x, n)) first (filter (is_paying e r) xs) (passing IsOnceKept (is_paying e r) xs all))
  where
    first : (x : Token) → IsOnceKept x × (is_paying e r x ≡ true) → IsPaying e n r (x, n)
    first x h =
        let at = place_is (in_request r) x.place (left_of (same_place (in_request r) x.place) (not (listed e.doomed x.port)) h.1) in
        record { once = h.0 r at; lives = not_true (listed e.doomed x.port) (right_of (same_place (in_request r) x.place) (not (listed e.doomed x.port)) h.1); kept = at; tells = refl }

-- no right that is left is its
off_request_left : (e : Ending) (r : Request) (xs : List Token) → All (IsOffRequest e r) (left_after e r xs)
off_request_left e r xs = weaker (λ x. Unit {0} × (not (is_paying e r x) ≡ true)) (IsOffRequest e r) off (left_after e r xs) (passing (λ x. Unit {0}) (λ x. not (is_paying e r x)) xs (any_all xs))
  where
    off : (x : Token) → Unit {0} × (not (is_paying e r x) ≡ true) → IsOffRequest e r x
    off x h at = not_both (same_place (in_request r) x.place) (listed e.doomed x.port) h.1 (subst (λ (y : Place). same_place (in_request r) y ≡ true) (sym at) (place_refl (in_request r)))

-- ---- a request ends with its dead port

abbrev pub end_request : Request → Ending → Ending
end_request r e = record e {
  ended = r ∷ e.ended;
  left = left_after e r e.left;
  paid = e.paid ++ paying_of e (death_notice r) r e.left;
  turns = e.turns + length (paying_of e (death_notice r) r e.left);
}

pub end_is : (old mid : State) (owed : Owed) (e : Ending) (p : ℕ) (r : Request) → MidLawful mid owed → IsReached old mid owed e → AreJudged mid e → listed e.doomed p ≡ true → listed e.buried p ≡ false →
    mid.stands r ≡ true → IsRequestOf mid p r → is_among e.ended r ≡ false → EndsRequest mid e (end_request r e)
end_is old mid owed e p r l reached judged doomed unburied stands of unended = record {
  port = p;
  request = r;
  judged = judged;
  doomed = doomed;
  unburied = unburied;
  stands = stands;
  is_of = of;
  unended = unended;
  paying = paying_of e (death_notice r) r e.left;
  pays = weaker (IsPaying e (death_notice r) r) (PaysAtEnd e r) (λ x h. record { once = h.once; lives = h.lives; kept = h.kept; tells = h.tells }) (paying_of e (death_notice r) r e.left)
      (all_paying e (death_notice r) r e.left (all_once_kept old mid owed e l (reached_sound old mid owed e reached)));
  takes = record { left = λ h. let a = paying_weigh e (death_notice r) r e.left h in omega (arith, a); paid = refl; gone = sym (append-nil e.gone) };
  all_left = off_request_left e r e.left;
  rest = refl;
}

-- ---- a port is buried

abbrev pub bury : ℕ → Ending → Ending
bury p e = record e { buried = p ∷ e.buried; left = filter (λ x. not (x.port == p)) e.left; gone = e.gone ++ filter (λ x. x.port == p) e.left }

pub bury_is : (mid : State) (e : Ending) (p : ℕ) → AreJudged mid e → listed e.doomed p ≡ true → listed e.buried p ≡ false →
    ((r : Request) → mid.stands r ≡ true → IsRequestOf mid p r → is_among e.ended r ≡ true) → Buries mid e (bury p e)
bury_is mid e p judged doomed unburied ended = record {
  port = p;
  judged = judged;
  doomed = doomed;
  unburied = unburied;
  ended = ended;
  going = filter (λ x. x.port == p) e.left;
  goes = weaker (λ x. Unit {0} × ((x.port == p) ≡ true)) (λ x. x.port ≡ p) (λ x h. eqb-true x.port p h.1) (filter (λ x. x.port == p) e.left)
      (passing (λ x. Unit {0}) (λ x. x.port == p) e.left (any_all e.left));
  takes = record { left = λ h. let a = parted h (λ x. x.port == p) e.left in omega (arith, a); paid = sym (append-nil e.paid); gone = refl };
  all_left = weaker (λ x. Unit {0} × (not (x.port == p) ≡ true)) (λ x. x.port ≢ p) off (filter (λ x. not (x.port == p)) e.left)
      (passing (λ x. Unit {0}) (λ x. not (x.port == p)) e.left (any_all e.left));
  rest = refl;
}
  where
    off : (x : Token) → Unit {0} × (not (x.port == p) ≡ true) → x.port ≢ p
    off x h is = let a = eq-eqb x.port p is in let b = not_true (x.port == p) h.1 in cc

-- ---- a port is told that it has no senders

abbrev pub tell : (count p : ℕ) → Ending → Ending
tell made p e = record e {
  told = p ∷ e.told;
  left = left_after e (no_senders p) e.left;
  paid = e.paid ++ paying_of e (no_more_senders made) (no_senders p) e.left;
  turns = e.turns + length (paying_of e (no_more_senders made) (no_senders p) e.left);
}

pub tell_is : (old mid : State) (owed : Owed) (e : Ending) (p : ℕ) → MidLawful mid owed → IsReached old mid owed e → AreJudged mid e → lives_after mid e p ≡ true → mid.stands (no_senders p) ≡ true →
    0 < senders old p → count (is_of send p) e.left ≡ 0 → listed e.told p ≡ false → TellsSenderless old mid e (tell ((outcome mid e).make_send p) p e)
tell_is old mid owed e p l reached judged lives stands had none untold = record {
  port = p;
  judged = judged;
  lives = lives;
  stands = stands;
  had = had;
  has_none = none;
  untold = untold;
  paying = paying_of e tells (no_senders p) e.left;
  pays = weaker (IsPaying e tells (no_senders p)) Pays (λ x h. (h.once, h.kept, h.tells)) (paying_of e tells (no_senders p) e.left)
      (all_paying e tells (no_senders p) e.left (all_once_kept old mid owed e l (reached_sound old mid owed e reached)));
  takes = record { left = λ h. let a = paying_weigh e tells (no_senders p) e.left h in omega (arith, a); paid = refl; gone = sym (append-nil e.gone) };
  all_left = off_request_left e (no_senders p) e.left;
  rest = refl;
}
  where
    tells : Notice
    tells = no_more_senders ((outcome mid e).make_send p)

    Pays : Token × Notice → Type 0
    Pays x = (x.0.kind ≡ send_once) × (x.0.place ≡ in_request (no_senders p)) × (x.1 ≡ no_more_senders ((outcome mid e).make_send p))

-- ---- the beginning, and a message

abbrev pub start : Begun → List Token → Ending
start begun left = record { doomed = []; saved = []; ended = []; buried = []; told = []; destroyed = []; begun = begun; left = left; paid = []; gone = []; turns = 0 }

abbrev pub is_on_gone : State → Place → Bool
is_on_gone mid (in_task task) = false
is_on_gone mid (in_message q k) = false
is_on_gone mid (in_request (no_senders p)) = false
is_on_gone mid (in_request (port_destroyed p)) = false
is_on_gone mid (in_request (dead_name task name)) = not (mid.stands (dead_name task name))

on_gone : (mid : State) (place : Place) → IsOnGone mid place → is_on_gone mid place ≡ true
on_gone mid (in_task task) h = absurd h
on_gone mid (in_message q k) h = absurd h
on_gone mid (in_request (no_senders p)) h = absurd h
on_gone mid (in_request (port_destroyed p)) h = absurd h
on_gone mid (in_request (dead_name task name)) h = rw h refl

-- The step's own part posted what is owed, and the notices of all rights of requests whose names went, in any order.
pub start_is : (mid : State) (owed : Owed) (begun : Begun) → owed_in begun ≡ owed → All (PaidForName mid) (went_in begun) →
    ((h : Token → ℕ) → weigh h (tokens_of (went_in begun)) ≡ weigh h (filter (λ x. is_on_gone mid x.place) mid.ledger)) →
    Begins mid owed (start begun (filter (λ x. not (is_on_gone mid x.place)) mid.ledger))
start_is mid owed begun owes went same = record {
  owes = owes;
  went = went;
  rights = λ h. let a = parted h (λ x. is_on_gone mid x.place) mid.ledger in let b = same h in omega (arith, a, b);
  all_went = weaker (λ x. Unit {0} × (not (is_on_gone mid x.place) ≡ true)) (λ x. ¬ (IsOnGone mid x.place))
      (λ x h gone. let a = on_gone mid x.place gone in let b = not_true (is_on_gone mid x.place) h.1 in cc) (filter (λ x. not (is_on_gone mid x.place)) mid.ledger)
      (passing (λ x. Unit {0}) (λ x. not (is_on_gone mid x.place)) mid.ledger (any_all mid.ledger));
  rest = refl;
}

abbrev pub destroy : (port entry : ℕ) → Ending → Ending
destroy p k e = record e { destroyed = (p, k) ∷ e.destroyed; turns = e.turns + 1 }

pub destroy_is : (mid : State) (e : Ending) (p k : ℕ) → listed e.doomed p ≡ true → IsWaiting mid e (p, k) → ¬ (Contains e.destroyed (p, k)) → DestroysDoomed mid e (destroy p k e)
destroy_is mid e p k doomed waits not = record { port = p; entry = k; doomed = doomed; waits = waits.0; within = waits.1; undestroyed = not; rest = refl }
