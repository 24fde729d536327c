-- What a step's end leaves of the rights; each live port has one receive right after it.
use Rattle.std.proofs.Common.{zero, suc, ◌<◌, ◌≡◌, ℕ, ◌+◌, ◌≤◌, List, [], ◌∷◌, ◌++◌, refl, sym, ap, subst, arith, true, false, Bool, ◌⊎◌, inl, inr, ◌∙◌, length, get_or}
use Rattle.std.specs.Prelude.{◌||◌, if◌then◌else◌, All, ◌==◌, ◌&&◌, map as list_map, filter, not}
use Rattle.std.proofs.lemmas.List.Elements.{All-cons, All-append, All-map, All-head, All-tail}
use Rattle.std.proofs.lemmas.Bool.{eq-eqb, ne_eqb, eqb-true, false_from_ne_true, and_from}
use Rattle.mach_types.specs.Tokens.{Kind, receive, send, send_once, Request, no_senders, port_destroyed, dead_name, Place, in_task, in_message, in_request, Token, token, count, is_of, is_held, is_in_task, same_kind}
use Rattle.mach_model.specs.State.{State, same_request}
use Rattle.mach_model.specs.Death.{same_place, Dies, orphan, carried_at, IsOrphan, CarriedAt, IsSaved, LiesAt, IsSentAway}
use Rattle.mach_model.specs.Grounded.{IsClosed}
use Rattle.mach_model.specs.Notices.{Notice, port_deleted, port_sent, no_more_senders, right_unused, name_died, Owed, Posted, posted_tokens, all_posted_tokens, carried_by}
use Rattle.mach_model.specs.Settles.{PlaceStays, StaysWith, TellsAt, PaysFor, GoesFrom, tokens_of, Settles}
use Rattle.mach_model.proofs.Names.{weigh-append, left_of, right_of, if_le, pos_or_zero, count_le, count_none, count_some, lying_le_of}
use Rattle.mach_model.proofs.Settling.{place_refl, own_test, is_at, Dies-least}
use Rattle.mach_model.specs.Lawful.{tally}
use Rattle.mach_model.specs.Midway.{MidLawful, IsOwed}

-- ---- What a step's end leaves of the rights: how many pass a test among those that stay, pay for a notice or go, and among those that
-- the notices bring.

-- ---- tests and numbers

pub less : (j m : ℕ) → j ≤ m → (j ≡ m → ⊥) → j < m
less zero zero le not = absurd (not refl)
less zero (suc m) le not = omega arith
less (suc j) zero le not = absurd (omega (arith, le))
less (suc j) (suc m) le not = let h = less j m (omega (arith, le)) (λ e. not (ap suc e)) in omega (arith, h)

pub eq_symm : (p q : ℕ) → (q == p) ≡ (p == q)
eq_symm p q = grind (arith, eq-eqb, ne_eqb)

pub and_false : (b : Bool) → (b && false) ≡ false
and_false true = refl
and_false false = refl

pub or_cases : (a b : Bool) → (a || b) ≡ true → (a ≡ true) ⊎ (b ≡ true)
or_cases true b e = inl refl
or_cases false b e = inr e

pub or_right : (a b : Bool) → b ≡ true → (a || b) ≡ true
or_right true b e = refl
or_right false b e = e

pub or_left : (a b : Bool) → a ≡ true → (a || b) ≡ true
or_left true b e = refl
or_left false b e = absurd (cc)

-- ---- lists of which all elements are so

-- no token passes the test
pub none_pass : (P : Token → Type 0) (test : Token → Bool) → ((x : Token) → P x → test x ≡ true → ⊥) → (xs : List Token) → All P xs → count test xs ≡ 0
none_pass P test none [] all = refl
none_pass P test none (x ∷ xs) all = grind (arith, none_pass P test none xs (All-tail P x xs all), false_from_ne_true (test x) (none x (All-head P x xs all)))

-- the same for those that pay
pub none_paid : (P : Token → Notice → Type 0) (test : Token → Bool) → ((x : Token) (n : Notice) → P x n → test x ≡ true → ⊥) → (xs : List (Token × Notice)) → All (λ x. P x.0 x.1) xs → count test (tokens_of xs) ≡ 0
none_paid P test none [] all = refl
none_paid P test none (x ∷ xs) all = grind (
  arith,
  false_from_ne_true (test x.0) (none x.0 x.1 (All-head (λ (x : Token × Notice). P x.0 x.1) x xs all)),
  none_paid P test none xs (All-tail (λ (x : Token × Notice). P x.0 x.1) x xs all),
)

pub all_mapped : {A B : Type 0} (P : B → Type 0) (f : A → B) (xs : List A) → All P (list_map f xs) → All (λ x. P (f x)) xs
all_mapped P f [] all = λ k d below. absurd (omega arith)
all_mapped {A} P f (x ∷ xs) all = All-cons (λ (x : A). P (f x)) x xs (All-head P (f x) (list_map f xs) all) (all_mapped P f xs (All-tail P (f x) (list_map f xs) all))

apart_le : (a b c : Bool) → (b ≡ true → c ≡ true → ⊥) → (if a && b then 1 else 0) + (if a && c then 1 else 0) ≤ (if a then 1 else 0)
apart_le true true true f = absurd (f refl refl)
apart_le true true false f = omega arith
apart_le true false c f = omega (arith, if_le c true (λ e. refl))
apart_le false b c f = omega arith

-- two tests that no token passes both
pub two_le : (f g h : Token → Bool) → ((x : Token) → g x ≡ true → h x ≡ true → ⊥) → (xs : List Token) →
    count (λ x. f x && g x) xs + count (λ x. f x && h x) xs ≤ count f xs
two_le f g h apart [] = omega arith
two_le f g h apart (x ∷ xs) = let e = apart_le (f x) (g x) (h x) (apart x) in let r = two_le f g h apart xs in omega (arith, e, r)

pub dead_cases : (mid : State) (p : ℕ) → Dies mid p → IsOrphan mid p ⊎ ((q : ℕ) × CarriedAt mid p q)
dead_cases mid r (orphan p o unsaved) = inl o
dead_cases mid r (carried_at p q d c unsaved) = inr (q, c)

-- ---- kinds and places that a test tells

pub kind_is : (a b : Kind) → same_kind a b ≡ true → b ≡ a
kind_is receive receive e = refl
kind_is receive send e = absurd (cc)
kind_is receive send_once e = absurd (cc)
kind_is send receive e = absurd (cc)
kind_is send send e = refl
kind_is send send_once e = absurd (cc)
kind_is send_once receive e = absurd (cc)
kind_is send_once send e = absurd (cc)
kind_is send_once send_once e = refl

pub of_kind : (kind : Kind) (p : ℕ) (x : Token) → is_of kind p x ≡ true → (x.kind ≡ kind) × (x.port ≡ p)
of_kind kind p x e = (kind_is kind x.kind (left_of _ _ e), eqb-true x.port p (right_of _ _ e))

same_is : (r s : Request) → same_request r s ≡ true → s ≡ r
same_is (no_senders p) (no_senders q) e = ap no_senders (sym (eqb-true p q e))
same_is (no_senders p) (port_destroyed q) e = absurd (cc)
same_is (no_senders p) (dead_name t n) e = absurd (cc)
same_is (port_destroyed p) (no_senders q) e = absurd (cc)
same_is (port_destroyed p) (port_destroyed q) e = ap port_destroyed (sym (eqb-true p q e))
same_is (port_destroyed p) (dead_name t n) e = absurd (cc)
same_is (dead_name t n) (no_senders p) e = absurd (cc)
same_is (dead_name t n) (port_destroyed p) e = absurd (cc)
same_is (dead_name t n) (dead_name u m) e = grind (arith, eqb-true, left_of, right_of)

pub place_is : (a b : Place) → same_place a b ≡ true → b ≡ a
place_is (in_task t) (in_task u) e = ap in_task (sym (eqb-true t u e))
place_is (in_task t) (in_message p k) e = absurd (cc)
place_is (in_task t) (in_request r) e = absurd (cc)
place_is (in_message p k) (in_task t) e = absurd (cc)
place_is (in_message p k) (in_message q l) e = grind (arith, eqb-true, left_of, right_of)
place_is (in_message p k) (in_request r) e = absurd (cc)
place_is (in_request r) (in_task t) e = absurd (cc)
place_is (in_request r) (in_message p k) e = absurd (cc)
place_is (in_request r) (in_request s) e = ap in_request (same_is r s e)

pub in_task_is : (task : ℕ) (place : Place) → is_in_task task place ≡ true → place ≡ in_task task
in_task_is task (in_task t) e = ap in_task (eqb-true t task e)
in_task_is task (in_message p k) e = absurd (cc)
in_task_is task (in_request r) e = absurd (cc)

-- where a token is that such tests pass
pub at_place : (kind : Kind) (q : ℕ) (place : Place) (x : Token) → (is_of kind q x && same_place place x.place) ≡ true → (x.port ≡ q) × (x.place ≡ place)
at_place kind q place x t = grind (arith, of_kind, left_of, place_is, right_of)

pub with_task : (task : ℕ) (kind : Kind) (p : ℕ) (x : Token) → is_held task kind p x ≡ true → (x.port ≡ p) × (x.place ≡ in_task task)
with_task task kind p x t = grind (arith, of_kind, left_of, in_task_is, right_of)

pub same_entry : (p k q l : ℕ) → same_place (in_message p k) (in_message q l) ≡ true → (q ≡ p) × (l ≡ k)
same_entry p k q l t = (sym (eqb-true p q (left_of (p == q) (k == l) t)), sym (eqb-true k l (right_of (p == q) (k == l) t)))

-- ---- notices that bring a receive right

abbrev pub is_port_sent : ℕ → Notice → Bool
is_port_sent p (port_sent q) = q == p
is_port_sent p notice = false

-- the notice brings no right but the one that it goes by, or that of a port that lives
abbrev pub BringsLive : (ℕ → Bool) → Notice → Type 0
BringsLive live notice = (p : ℕ) → is_port_sent p notice ≡ true → live p ≡ true

-- a notice that is owed brings no receive right
abbrev pub BringsNone : Notice → Type 0
BringsNone notice = (p : ℕ) → is_port_sent p notice ≡ false

-- a port and its notice
pub record IsDue (live : ℕ → Bool) (port : ℕ) (notice : Notice) : Type 0 where
  pub lives : live port ≡ true
  pub brings : BringsLive live notice

told_live : (live : ℕ → Bool) (p q : ℕ) (b : Bool) → live q ≡ b → is_port_sent p (if b then port_sent q else right_unused) ≡ true → live p ≡ true
told_live live p q true e h = subst (λ (x : ℕ). live x ≡ true) (eqb-true q p h) e
told_live live p q false e h = absurd (cc)

tells_live : (mid new : State) (place : Place) (notice : Notice) → TellsAt mid new place notice → BringsLive new.live_port notice
tells_live mid new (in_task t) notice h p e = absurd h
tells_live mid new (in_message q k) notice h p e = absurd (let f : is_port_sent p right_unused ≡ true = subst (λ (n : Notice). is_port_sent p n ≡ true) h e in cc)
tells_live mid new (in_request (no_senders q)) notice h p e = grind arith
tells_live mid new (in_request (port_destroyed q)) notice h p e = told_live new.live_port p q (new.live_port q) refl (subst (λ (n : Notice). is_port_sent p n ≡ true) h e)
tells_live mid new (in_request (dead_name t n)) notice h p e = grind arith

-- ---- the parts

module _ (now : ℕ) (old mid : State) (owed : Owed) (new : State) (s : Settles now old mid owed new) where
  pub parts : (test : Token → Bool) → count test mid.ledger ≡ count test s.rights.staying + count test (tokens_of s.rights.paying) + count test s.rights.going
  parts test = s.rights.parts (λ x. if test x then 1 else 0)

  pub made_of : (test : Token → Bool) → count test new.ledger ≡ count test s.rights.staying + count test (all_posted_tokens s.notices.posted)
  made_of test = s.notices.ledger (λ x. if test x then 1 else 0)

  pub live_mid : (p : ℕ) → new.live_port p ≡ true → mid.live_port p ≡ true
  live_mid p live = grind arith

  -- what stays is for live ports, at places that stay
  pub stays_if : (test : Token → Bool) → ((x : Token) → StaysWith new x → test x ≡ true → ⊥) → count test s.rights.staying ≡ 0
  stays_if test none = none_pass (StaysWith new) test none s.rights.staying s.rights.stay

  pub pays_if : (test : Token → Bool) → ((x : Token) (n : Notice) → PaysFor mid new x n → test x ≡ true → ⊥) → count test (tokens_of s.rights.paying) ≡ 0
  pays_if test none = none_paid (PaysFor mid new) test none s.rights.paying s.rights.pay

  pub goes_if : (test : Token → Bool) → ((x : Token) → GoesFrom new x → test x ≡ true → ⊥) → count test s.rights.going ≡ 0
  goes_if test none = none_pass (GoesFrom new) test none s.rights.going s.rights.go

  -- a right of a live port at a place that stays does stay
  pub kept_there : (test : Token → Bool) → ((x : Token) → test x ≡ true → (new.live_port x.port ≡ true) × PlaceStays new x.place) → count test mid.ledger ≡ count test s.rights.staying
  kept_there test there = grind (arith, pays_if, goes_if, parts)

  -- ---- notices

  pub due_all : All (λ x. BringsNone x.1) owed → All (λ (x : Posted). IsDue new.live_port x.port x.notice) s.notices.posted
  due_all none = all_mapped (λ (y : ℕ × Notice). IsDue new.live_port y.0 y.1) (λ (x : Posted). (x.port, x.notice)) s.notices.posted
      (subst (All (λ (y : ℕ × Notice). IsDue new.live_port y.0 y.1)) (sym s.notices.due)
      (All-map (λ (y : ℕ × Notice). IsDue new.live_port y.0 y.1) (λ (x : Token × Notice). (x.0.port, x.1)) (s.rights.paying ++ filter (λ x. new.live_port x.0.port) owed)
      (All-append (λ (x : Token × Notice). IsDue new.live_port x.0.port x.1) s.rights.paying (filter (λ x. new.live_port x.0.port) owed)
      (λ k d below. let h = s.rights.pay k d below in record { lives = h.1; brings = tells_live mid new _ _ h.3 })
      (lives owed none))))
    where
      lives : (xs : Owed) → All (λ x. BringsNone x.1) xs → All (λ (x : Token × Notice). IsDue new.live_port x.0.port x.1) (filter (λ x. new.live_port x.0.port) xs)
      lives [] all = λ k d below. absurd (omega arith)
      lives (x ∷ xs) all = go (new.live_port x.0.port) refl (lives xs (All-tail (λ (x : Token × Notice). BringsNone x.1) x xs all))
        where
          go : (b : Bool) → new.live_port x.0.port ≡ b → All (λ (x : Token × Notice). IsDue new.live_port x.0.port x.1) (filter (λ x. new.live_port x.0.port) xs) →
              All (λ (x : Token × Notice). IsDue new.live_port x.0.port x.1) (if b then x ∷ filter (λ x. new.live_port x.0.port) xs else filter (λ x. new.live_port x.0.port) xs)
          go true e rest = All-cons (λ (x : Token × Notice). IsDue new.live_port x.0.port x.1) x (filter (λ x. new.live_port x.0.port) xs)
              (record { lives = e; brings = λ p h. absurd (let f = All-head (λ (x : Token × Notice). BringsNone x.1) x xs all p in cc) }) rest
          go false e rest = rest

-- ---- what notices bring

-- no posted notice brings a token that passes
pub none_posted : (P : Posted → Type 0) (test : Token → Bool) → ((x : Posted) → P x → test (token send_once x.port (in_message x.port x.entry)) ≡ true → ⊥) →
    ((x : Posted) (p : ℕ) → P x → is_port_sent p x.notice ≡ true → test (token receive p (in_message x.port x.entry)) ≡ true → ⊥) → (xs : List Posted) → All P xs → count test (all_posted_tokens xs) ≡ 0
none_posted P test once sent [] all = refl
none_posted P test once sent (x ∷ xs) all =
    let a = weigh-append (λ y. if test y then 1 else 0) (posted_tokens x) (all_posted_tokens xs) in
    let rest = none_posted P test once sent xs (All-tail P x xs all) in
    let b = brought x.notice (λ p. sent x p (All-head P x xs all)) in
    let e : count test (posted_tokens x) ≡ 0 = rw (false_from_ne_true _ (once x (All-head P x xs all))) (omega (arith, b)) in
    omega (arith, a, rest, e)
  where
    brought : (n : Notice) → ((p : ℕ) → is_port_sent p n ≡ true → test (token receive p (in_message x.port x.entry)) ≡ true → ⊥) → count test (carried_by n (in_message x.port x.entry)) ≡ 0
    brought (port_deleted n) f = refl
    brought (port_sent p) f = rw (false_from_ne_true _ (f p (place_refl (in_task p)))) refl
    brought (no_more_senders n) f = refl
    brought right_unused f = refl
    brought (name_died n) f = refl

-- None is brought to a task or a request.
pub none_tasked : (test : Token → Bool) → ((kind : Kind) (p q k : ℕ) → test (token kind p (in_message q k)) ≡ false) → (xs : List Posted) → count test (all_posted_tokens xs) ≡ 0
none_tasked test not xs = none_posted (λ x. Unit {0}) test (λ x u t. let e = not send_once x.port x.port x.entry in cc) (λ x p u h t. let e = not receive p x.port x.entry in cc) xs (λ k d below. tt)

-- ---- After a step in which ports died, each live port has exactly one receive right: where it was, or in the notice that sends it away.

abbrev pub receives : ℕ → List Token → ℕ
receives p xs = count (is_of receive p) xs

-- ---- lists

pub tally-map : {A B : Type 0} (test : B → Bool) (f : A → B) (xs : List A) → tally test (list_map f xs) ≡ tally (λ x. test (f x)) xs
tally-map test f [] = refl
tally-map test f (x ∷ xs) = omega (arith, tally-map test f xs)

pub tally-append : {A : Type 0} (test : A → Bool) (xs ys : List A) → tally test (xs ++ ys) ≡ tally test xs + tally test ys
tally-append test [] ys = omega arith
tally-append test (x ∷ xs) ys = omega (arith, tally-append test xs ys)

pub tally-filter : {A : Type 0} (test keep : A → Bool) (xs : List A) → tally test (filter keep xs) ≤ tally test xs
tally-filter test keep [] = omega arith
tally-filter test keep (x ∷ xs) = grind (arith, tally-filter test keep xs)

-- ---- the receive rights that notices bring

one_posted : (p port : ℕ) (place : Place) (notice : Notice) →
    count (is_of receive p) (token send_once port place ∷ carried_by notice place) ≡ (if is_port_sent p notice then 1 else 0)
one_posted p port place (port_deleted n) = refl
one_posted p port place (port_sent q) = omega arith
one_posted p port place (no_more_senders n) = refl
one_posted p port place right_unused = refl
one_posted p port place (name_died n) = refl

pub posted_receives : (p : ℕ) (xs : List Posted) → receives p (all_posted_tokens xs) ≡ tally (λ (x : Posted). is_port_sent p x.notice) xs
posted_receives p [] = refl
posted_receives p (x ∷ xs) = grind (arith, posted_receives p xs, weigh-append, one_posted)

sent_if : (live : ℕ → Bool) (p q : ℕ) (b : Bool) → live p ≡ true → live q ≡ b → is_port_sent p (if b then port_sent q else right_unused) ≡ (p == q)
sent_if live p q true l e = eq_symm p q
sent_if live p q false l e = sym (ne_eqb p q (λ x. let f = ap live x in cc))

tells_sent : (mid new : State) (p : ℕ) (place : Place) (notice : Notice) → new.live_port p ≡ true → TellsAt mid new place notice →
    is_port_sent p notice ≡ same_place (in_request (port_destroyed p)) place
tells_sent mid new p (in_task t) notice live h = absurd h
tells_sent mid new p (in_message q k) notice live h = rw h refl
tells_sent mid new p (in_request (no_senders q)) notice live h = grind (arith, is_port_sent)
tells_sent mid new p (in_request (port_destroyed q)) notice live h = rw h (sent_if new.live_port p q (new.live_port q) live refl)
tells_sent mid new p (in_request (dead_name t n)) notice live h = grind (arith, is_port_sent)

-- as many notices send the port away as rights of its request pay
paying_sent : (mid new : State) (p : ℕ) (xs : List (Token × Notice)) → new.live_port p ≡ true → All (λ x. PaysFor mid new x.0 x.1) xs →
    tally (λ x. is_port_sent p x.1) xs ≡ count (λ x. same_place (in_request (port_destroyed p)) x.place) (tokens_of xs)
paying_sent mid new p [] live all = refl
paying_sent mid new p (x ∷ xs) live all = grind (
  arith,
  tells_sent mid new p x.0.place x.1 live (all 0 x (omega arith)).3,
  paying_sent mid new p xs live (λ k d below. all (suc k) d (omega (arith, below))),
)

-- an owed notice brings no receive right
none_brought : (n : Notice) → ((place : Place) → carried_by n place ≡ []) → BringsNone n
none_brought (port_deleted k) none p = refl
none_brought (port_sent q) none p = absurd (let e = none (in_task 0) in cc)
none_brought (no_more_senders k) none p = refl
none_brought right_unused none p = refl
none_brought (name_died k) none p = refl

pub owed_brings : (mid : State) (owed : Owed) → All (IsOwed mid.live_port) owed → All (λ (x : Token × Notice). BringsNone x.1) owed
owed_brings mid owed all k d below = none_brought _ (all k d below).carries

pub owed_none : (p : ℕ) (owed : Owed) → All (λ (x : Token × Notice). BringsNone x.1) owed → tally (λ (x : Token × Notice). is_port_sent p x.1) owed ≡ 0
owed_none p [] all = refl
owed_none p (x ∷ xs) all = grind (arith, All-head (λ (x : Token × Notice). BringsNone x.1) x xs all p, owed_none p xs (All-tail (λ (x : Token × Notice). BringsNone x.1) x xs all))

module _ (now : ℕ) (old mid : State) (owed : Owed) (new : State) (l : MidLawful mid owed) (s : Settles now old mid owed new) where
  abbrev pub At : ℕ → Token → Bool
  At p x = same_place (in_request (port_destroyed p)) x.place

  pub sent_posted : (p : ℕ) → new.live_port p ≡ true → receives p (all_posted_tokens s.notices.posted) ≡ count (At p) (tokens_of s.rights.paying)
  sent_posted p live = grind (
    arith,
    posted_receives p s.notices.posted,
    tally-map (λ (y : ℕ × Notice). is_port_sent p y.1) (λ (x : Posted). (x.port, x.notice)) s.notices.posted,
    ap (tally (λ (y : ℕ × Notice). is_port_sent p y.1)) s.notices.due,
    tally-map (λ (y : ℕ × Notice). is_port_sent p y.1) (λ (x : Token × Notice). (x.0.port, x.1)) (s.rights.paying ++ filter (λ x. new.live_port x.0.port) owed),
    tally-append (λ (x : Token × Notice). is_port_sent p x.1) s.rights.paying (filter (λ x. new.live_port x.0.port) owed),
    tally-filter (λ (x : Token × Notice). is_port_sent p x.1) (λ x. new.live_port x.0.port) owed,
    owed_none p owed (owed_brings mid owed l.are_owed),
    paying_sent mid new p s.rights.paying live s.rights.pay,
  )

  new_receives : (p : ℕ) → new.live_port p ≡ true → receives p new.ledger ≡ receives p s.rights.staying + count (At p) (tokens_of s.rights.paying)
  new_receives p live = let a = made_of now old mid owed new s (is_of receive p) in let b = sent_posted p live in omega (arith, a, b)

  pub none_pay : (p : ℕ) → receives p (tokens_of s.rights.paying) ≡ 0
  none_pay p = pays_if now old mid owed new s (is_of receive p) (λ x n pays t. let h = (of_kind receive p x t).0 in let k = pays.0 in cc)

  -- ---- a port that isn't sent away

  not_dead : (p : ℕ) → new.live_port p ≡ true → ¬ (Dies mid p)
  not_dead p live d = let e = s.deaths.dies p d in cc

  pub unsent_saved : (p : ℕ) → new.live_port p ≡ true → s.ports.is_sent p ≡ false → IsOrphan mid p ⊎ ((q : ℕ) × Dies mid q × CarriedAt mid p q) → ⊥
  unsent_saved p live un why =
      let unsaved : ¬ (IsSaved mid p) = λ saved. let e = s.ports.sent p (saved, why) in cc in
      elim why [
        | inl o ↦ not_dead p live (orphan p o unsaved)
        | inr d ↦ not_dead p live (carried_at p d.0 d.1 d.2 unsaved)
      ]

  -- a right that a request to send the port away keeps: the request stands
  kept_stands : (p : ℕ) → 0 < count (At p) mid.ledger → mid.stands (port_destroyed p) ≡ true
  kept_stands p some = go (mid.stands (port_destroyed p)) refl
    where
      go : (b : Bool) → mid.stands (port_destroyed p) ≡ b → mid.stands (port_destroyed p) ≡ true
      go true e = e
      go false e = absurd (
          let none = count_none (At p) mid.ledger (λ k d below t.
          let x = get_or mid.ledger k d in
          let z = l.ended (port_destroyed p) e (λ bad. bad) x.kind x.port in
          let some = count_some (is_at x.kind x.port (in_request (port_destroyed p))) mid.ledger k d below (and_from _ _ (left_of _ _ (own_test x)) t) in
          omega (arith, z, some)) in omega (arith, none, some))

  pub no_paying : (p : ℕ) → new.live_port p ≡ true → s.ports.is_sent p ≡ false → count (At p) (tokens_of s.rights.paying) ≡ 0
  no_paying p live un = go (new.stands (port_destroyed p)) refl
    where
      go : (b : Bool) → new.stands (port_destroyed p) ≡ b → count (At p) (tokens_of s.rights.paying) ≡ 0
      go true e = pays_if now old mid owed new s (At p) (λ x n pays t. pays.2 (subst (PlaceStays new) (sym (place_is (in_request (port_destroyed p)) x.place t)) e))
      go false e = elim (pos_or_zero (count (At p) (tokens_of s.rights.paying))) [
        | inl h ↦ h
        | inr h ↦
            let part = parts now old mid owed new s (At p) in
            let stood = kept_stands p (omega (arith, h, part)) in
            absurd (elim (s.requests.only (port_destroyed p) stood e) [
              | inl gone ↦ (cc)
              | inr sent ↦ let f = s.ports.sent p sent in cc
            ])
      ]

  -- a queue in which a right lies is a live port's
  live_queue : (q i : ℕ) (p : ℕ) → 0 < count (λ x. is_of receive p x && same_place (in_message q i) x.place) mid.ledger → mid.live_port q ≡ true
  live_queue q i p some = go (mid.live_port q) refl
    where
      go : (b : Bool) → mid.live_port q ≡ b → mid.live_port q ≡ true
      go true e = e
      go false e = absurd (let z = l.gone q i (inr e) receive p in omega (arith, z, some))

  going_none : (p : ℕ) → new.live_port p ≡ true → s.ports.is_sent p ≡ false → receives p s.rights.going ≡ 0
  going_none p live un = count_none (is_of receive p) s.rights.going (λ k d below t. at_going k d below t (s.rights.go k d below) (get_or s.rights.going k d).place refl)
    where
      at_going : (k : ℕ) (d : Token) → k < length s.rights.going → is_of receive p (get_or s.rights.going k d) ≡ true → GoesFrom new (get_or s.rights.going k d) →
          (place : Place) → (get_or s.rights.going k d).place ≡ place → ⊥
      at_going k d below t (inl gone) place e = let h = (of_kind receive p (get_or s.rights.going k d) t).1 in let f = ap new.live_port h in cc
      at_going k d below t (inr g) (in_task task) e = g.1 (subst (PlaceStays new) (sym e) tt)
      at_going k d below t (inr g) (in_message q i) e =
          let dead = false_from_ne_true (new.live_port q) (λ a. g.1 (subst (PlaceStays new) (sym e) a)) in
          let here : same_place (in_message q i) (get_or s.rights.going k d).place ≡ true = rw e (place_refl (in_message q i)) in
          let two = count_some (λ x. is_of receive p x && same_place (in_message q i) x.place) s.rights.going k d below (and_from _ _ t here) in
          let part = parts now old mid owed new s (λ x. is_of receive p x && same_place (in_message q i) x.place) in
          let lies : 0 < count (λ x. is_of receive p x && same_place (in_message q i) x.place) mid.ledger = omega (arith, two, part) in
          unsent_saved p live un (inr (q, s.deaths.only q (live_queue q i p lies) dead, (i, lies)))
      at_going k d below t (inr g) (in_request r) e =
          let here : same_place (in_request r) (get_or s.rights.going k d).place ≡ true = rw e (place_refl (in_request r)) in
          let two = count_some (λ x. is_of receive p x && same_place (in_request r) x.place) s.rights.going k d below (and_from _ _ t here) in
          let part = parts now old mid owed new s (λ x. is_of receive p x && same_place (in_request r) x.place) in
          let z = l.once_kept r receive p (λ e. cc) in
          omega (arith, two, part, z)

  unsent : (p : ℕ) → new.live_port p ≡ true → s.ports.is_sent p ≡ false → receives p new.ledger ≡ 1
  unsent p live un = grind (arith, pos_or_zero, unsent_saved, live_mid, parts, none_pay, going_none, new_receives, no_paying)

  -- ---- a port that is sent away

  live_rights : (kind : Kind) (p : ℕ) → 0 < count (is_of kind p) mid.ledger → mid.live_port p ≡ true
  live_rights kind p some = grind arith

  -- the port that is told lives: its receive right is with a task
  pub notify_lives : (p : ℕ) (saved : IsSaved mid p) → new.live_port saved.notify ≡ true
  notify_lives p saved = go (new.live_port saved.notify) refl
    where
      a : count (λ x. is_of receive saved.notify x && same_place (in_task saved.task) x.place) mid.ledger ≤ count (is_of receive saved.notify) mid.ledger
      a = count_le (λ x. is_of receive saved.notify x && same_place (in_task saved.task) x.place) (is_of receive saved.notify) (λ x t. left_of _ _ t) mid.ledger

      alive : ¬ (Dies mid saved.notify)
      alive d = elim (dead_cases mid saved.notify d) [
        | inl o ↦ (let e = a in let f = o.1 in let g = saved.with_task in omega (arith, e, f, g))
        | inr c ↦ (
            let two = two_le (is_of receive saved.notify) (λ x. same_place (in_task saved.task) x.place) (λ x. same_place (in_message c.0 c.1.0) x.place)
            (λ x t u. let e = place_is (in_task saved.task) x.place t in let f = place_is (in_message c.0 c.1.0) x.place u in
            let g : in_task saved.task ≡ in_message c.0 c.1.0 = sym e ∙ f in cc) mid.ledger in
            let m = l.most_receive saved.notify in let g = saved.with_task in let h = c.1.1 in omega (arith, two, m, g, h))
      ]

      go : (b : Bool) → new.live_port saved.notify ≡ b → new.live_port saved.notify ≡ true
      go true e = e
      go false e = absurd (alive (s.deaths.only saved.notify (live_rights receive saved.notify (let e = a in let g = saved.with_task in omega (arith, e, g))) e))

  abbrev kept_at : (p notify : ℕ) → Token → Bool
  kept_at p notify x = is_of send_once notify x && same_place (in_request (port_destroyed p)) x.place

  abbrev there_at : (p q i : ℕ) → Token → Bool
  there_at p q i x = is_of receive p x && same_place (in_message q i) x.place

  -- the right that its request kept pays
  paid_for : (p : ℕ) → new.stands (port_destroyed p) ≡ false → IsSaved mid p → 0 < count (At p) (tokens_of s.rights.paying)
  paid_for p ended saved =
      let stay = stays_if now old mid owed new s (kept_at p saved.notify) (λ x stays t.
      let e : new.stands (port_destroyed p) ≡ true = subst (PlaceStays new) (at_place send_once saved.notify (in_request (port_destroyed p)) x t).1 stays.1 in cc) in
      let go = goes_if now old mid owed new s (kept_at p saved.notify) (λ x goes t. unpaid x (of_kind send_once saved.notify x (left_of (is_of send_once saved.notify x) (At p x) t)) goes) in
      let more = count_le (kept_at p saved.notify) (At p) (λ x t. right_of (is_of send_once saved.notify x) (At p x) t) (tokens_of s.rights.paying) in
      let part = parts now old mid owed new s (kept_at p saved.notify) in
      let some = saved.kept in
      omega (arith, stay, go, more, part, some)
    where
      unpaid : (x : Token) → (x.kind ≡ send_once) × (x.port ≡ saved.notify) → GoesFrom new x → ⊥
      unpaid x h (inl gone) = let f = ap new.live_port h.1 in let g = notify_lives p saved in cc
      unpaid x h (inr g) = g.0 h.0

  -- the receive right stays nowhere else
  pub staying_none : (p : ℕ) → IsOrphan mid p ⊎ ((q : ℕ) × Dies mid q × CarriedAt mid p q) → receives p s.rights.staying ≡ 0
  staying_none p (inl o) = let part = parts now old mid owed new s (is_of receive p) in let z = o.1 in omega (arith, part, z)
  staying_none p (inr d) =
      let gone = s.deaths.dies d.0 d.1 in
      let stay = stays_if now old mid owed new s (there_at p d.0 d.2.0) (λ x stays t.
      let e : new.live_port d.0 ≡ true = subst (PlaceStays new) (at_place receive p (in_message d.0 d.2.0) x t).1 stays.1 in cc) in
      let a = count_le (there_at p d.0 d.2.0) (is_of receive p) (λ x t. left_of _ _ t) (tokens_of s.rights.paying) in
      let b = count_le (there_at p d.0 d.2.0) (is_of receive p) (λ x t. left_of _ _ t) s.rights.going in
      let c = parts now old mid owed new s (there_at p d.0 d.2.0) in
      let e = parts now old mid owed new s (is_of receive p) in
      let m = l.most_receive p in
      let f = d.2.1 in
      omega (arith, stay, a, b, c, e, m, f)

  sent_away : (p : ℕ) → new.live_port p ≡ true → s.ports.is_sent p ≡ true → receives p new.ledger ≡ 1
  sent_away p live is =
      let sent = s.ports.sent_only p is in
      let saved = sent.0 in
      let ended = s.requests.ended (port_destroyed p) saved.stands (inr sent) in
      let paid = paid_for p ended saved in
      let at_one = parts now old mid owed new s (At p) in
      let one = l.one_kept (port_destroyed p) in
      let none = staying_none p sent.1 in
      let made = new_receives p live in
      omega (arith, paid, at_one, one, none, made)

  -- After the step each live port has exactly one receive right.
  pub settled_one_receive : (p : ℕ) → new.live_port p ≡ true → receives p new.ledger ≡ 1
  settled_one_receive p live = grind (arith, sent_away, unsent)

-- ---- Who dies and who is saved can be told: the dying set is reached in as many rounds as there are ports, at most.

-- A test that tells whether it is so.
pub record Tells (b : Bool) (P : Type 0) : Type 0 where
  pub yes : b ≡ true → P
  pub is : P → b ≡ true

-- who dies, and who is sent away
pub record Told (mid : State) : Type 0 where
  pub dead : ℕ → Bool
  pub dies : (p : ℕ) → Tells (dead p) (Dies mid p)
  pub away : ℕ → Bool
  pub sent : (p : ℕ) → Tells (away p) (IsSentAway mid p)

-- ---- looking for a token

abbrev some_token : (Token → Bool) → List Token → Bool
some_token test [] = false
some_token test (x ∷ xs) = test x || some_token test xs

abbrev Passing : (Token → Bool) → List Token → Type 0
Passing test xs = (k : ℕ) × (d : Token) × (k < length xs) × (test (get_or xs k d) ≡ true)

some_passes : (test : Token → Bool) (xs : List Token) → some_token test xs ≡ true → Passing test xs
some_passes test [] e = absurd (cc)
some_passes test (x ∷ xs) e = elim (or_cases (test x) (some_token test xs) e) [
  | inl h ↦ (zero, x, omega arith, h)
  | inr h ↦ (let r = some_passes test xs h in let below = r.2 in (suc r.0, r.1, omega (arith, below), r.3))
]

passes_some : (test : Token → Bool) (xs : List Token) (k : ℕ) (d : Token) → k < length xs → test (get_or xs k d) ≡ true → some_token test xs ≡ true
passes_some test [] k d below e = absurd (omega arith)
passes_some test (x ∷ xs) zero d below e = or_left (test x) (some_token test xs) e
passes_some test (x ∷ xs) (suc k) d below e = or_right (test x) (some_token test xs) (passes_some test xs k d (omega (arith, below)) e)

count_passes : (test : Token → Bool) (xs : List Token) → 0 < count test xs → Passing test xs
count_passes test [] some = absurd (omega arith)
count_passes test (x ∷ xs) some = go (test x) refl (λ s. count_passes test xs s) some
  where
    go : (b : Bool) → test x ≡ b → (0 < count test xs → Passing test xs) → 0 < (if b then suc zero else zero) + count test xs → Passing test (x ∷ xs)
    go true e ih some = (zero, x, omega arith, e)
    go false e ih some = let r = ih (omega (arith, some)) in let below = r.2 in (suc r.0, r.1, omega (arith, below), r.3)

counts_some : (test : Token → Bool) (xs : List Token) → Passing test xs → 0 < count test xs
counts_some test xs p = count_some test xs p.0 p.1 p.2 p.3

-- ---- saved, orphaned and carried ports

abbrev with_a_task : Place → Bool
with_a_task (in_task t) = true
with_a_task place = false

abbrev in_queue : (ℕ → Bool) → Place → Bool
in_queue set (in_task t) = false
in_queue set (in_message q k) = set q
in_queue set (in_request r) = false

task_of : (place : Place) → with_a_task place ≡ true → (t : ℕ) × (place ≡ in_task t)
task_of (in_task t) e = (t, refl)
task_of (in_message q k) e = absurd (cc)
task_of (in_request r) e = absurd (cc)

queue_of : (set : ℕ → Bool) (place : Place) → in_queue set place ≡ true → (q : ℕ) × (k : ℕ) × (place ≡ in_message q k) × (set q ≡ true)
queue_of set (in_task t) e = absurd (cc)
queue_of set (in_message q k) e = (q, k, refl, e)
queue_of set (in_request r) e = absurd (cc)

module _ (mid : State) where
  -- the port's receive right is with a task
  abbrev tasked : ℕ → Bool
  tasked n = some_token (λ y. is_of receive n y && with_a_task y.place) mid.ledger

  abbrev pub is_saved : ℕ → Bool
  is_saved p = mid.stands (port_destroyed p) && some_token (λ x. (same_kind send_once x.kind && same_place (in_request (port_destroyed p)) x.place) && tasked x.port) mid.ledger

  is_here : (kind : Kind) (p : ℕ) (place : Place) (x : Token) → is_of kind p x ≡ true → x.place ≡ place → (is_of kind p x && same_place place x.place) ≡ true
  is_here kind p place x t e = and_from _ _ t (subst (λ (y : Place). same_place place y ≡ true) (sym e) (place_refl place))

  tasked_is : (n : ℕ) → tasked n ≡ true → (t : ℕ) × LiesAt mid receive n (in_task t)
  tasked_is n e = grind (arith, some_passes, task_of, right_of, counts_some, is_here, left_of)

  is_tasked : (n t : ℕ) → LiesAt mid receive n (in_task t) → tasked n ≡ true
  is_tasked n t some = grind (arith, count_passes, left_of, at_place, passes_some, and_from)

  pub saved_tells : (p : ℕ) → Tells (is_saved p) (IsSaved mid p)
  saved_tells p = record { yes = yes; is = is }
    where
      yes : is_saved p ≡ true → IsSaved mid p
      yes e =
          let stands = left_of (mid.stands (port_destroyed p)) (some_token (λ x. (same_kind send_once x.kind && same_place (in_request (port_destroyed p)) x.place) && tasked x.port) mid.ledger) e in
          let r = some_passes (λ x. (same_kind send_once x.kind && same_place (in_request (port_destroyed p)) x.place) && tasked x.port) mid.ledger (right_of (mid.stands (port_destroyed p)) (some_token (λ x. (same_kind send_once x.kind && same_place (in_request (port_destroyed p)) x.place) && tasked x.port) mid.ledger) e) in
          let x = get_or mid.ledger r.0 r.1 in
          let a = left_of (same_kind send_once x.kind && same_place (in_request (port_destroyed p)) x.place) (tasked x.port) r.3 in
          let b = right_of (same_kind send_once x.kind && same_place (in_request (port_destroyed p)) x.place) (tasked x.port) r.3 in
          let t = tasked_is x.port b in
          record {
            stands = stands;
            notify = x.port;
            kept = counts_some (λ y. is_of send_once x.port y && same_place (in_request (port_destroyed p)) y.place) mid.ledger
                (r.0, r.1, r.2, and_from _ _ (and_from _ _ (left_of (same_kind send_once x.kind) (same_place (in_request (port_destroyed p)) x.place) a) (eq-eqb x.port x.port refl)) (right_of (same_kind send_once x.kind) (same_place (in_request (port_destroyed p)) x.place) a));
            task = t.0;
            with_task = t.1;
          }

      is : IsSaved mid p → is_saved p ≡ true
      is h =
          let r = count_passes (λ y. is_of send_once h.notify y && same_place (in_request (port_destroyed p)) y.place) mid.ledger h.kept in
          let x = get_or mid.ledger r.0 r.1 in
          let a = left_of (is_of send_once h.notify x) (same_place (in_request (port_destroyed p)) x.place) r.3 in
          let b = right_of (is_of send_once h.notify x) (same_place (in_request (port_destroyed p)) x.place) r.3 in
          let c = is_tasked h.notify h.task h.with_task in
          and_from _ _ h.stands (passes_some (λ x. (same_kind send_once x.kind && same_place (in_request (port_destroyed p)) x.place) && tasked x.port) mid.ledger r.0 r.1 r.2
          (and_from _ _ (and_from _ _ (left_of (same_kind send_once x.kind) (x.port == h.notify) a) b) (ap tasked (of_kind send_once h.notify x a).1 ∙ c)))

  abbrev pub is_orphan : ℕ → Bool
  is_orphan p = mid.live_port p && count (is_of receive p) mid.ledger == 0

  pub orphan_tells : (p : ℕ) → Tells (is_orphan p) (IsOrphan mid p)
  orphan_tells p = grind (arith, left_of, eqb-true, right_of, and_from, eq-eqb)

  -- carried at a port of the set
  abbrev pub is_carried : (ℕ → Bool) → ℕ → Bool
  is_carried set p = some_token (λ x. is_of receive p x && in_queue set x.place) mid.ledger

  pub carried_tells : (set : ℕ → Bool) (p : ℕ) → Tells (is_carried set p) ((q : ℕ) × (set q ≡ true) × CarriedAt mid p q)
  carried_tells set p = grind (arith, some_passes, queue_of, right_of, counts_some, is_here, left_of, count_passes, passes_some, and_from, at_place)

  -- ---- the dying set in rounds

  abbrev pub next : (ℕ → Bool) → ℕ → Bool
  next set p = (is_orphan p || is_carried set p) && not (is_saved p)

  abbrev pub round : ℕ → ℕ → Bool
  round zero p = false
  round (suc n) p = next (round n) p

  not_false : (b : Bool) → not b ≡ true → b ≡ false
  not_false true e = absurd (cc)
  not_false false e = refl

  is_not : (b : Bool) (P : Type 0) → Tells b P → ¬ P → not b ≡ true
  is_not true P tells none = absurd (none (tells.yes refl))
  is_not false P tells none = refl

  unsaved : (b : Bool) (P : Type 0) → Tells b P → not b ≡ true → ¬ P
  unsaved true P tells e = absurd (cc)
  unsaved false P tells e = λ p. let f = tells.is p in cc

  -- why a port is in the next round
  abbrev Why : (ℕ → Bool) → ℕ → Type 0
  Why set p = IsOrphan mid p ⊎ ((q : ℕ) × (set q ≡ true) × CarriedAt mid p q)

  next_yes : (set : ℕ → Bool) (p : ℕ) → next set p ≡ true → Why set p × ¬ (IsSaved mid p)
  next_yes set p e = (
    elim (or_cases (is_orphan p) (is_carried set p) (left_of (is_orphan p || is_carried set p) (not (is_saved p)) e)) [
      | inl h ↦ inl ((orphan_tells p).yes h)
      | inr h ↦ inr ((carried_tells set p).yes h)
    ],
    unsaved (is_saved p) (IsSaved mid p) (saved_tells p) (right_of (is_orphan p || is_carried set p) (not (is_saved p)) e),
  )

  next_is : (set : ℕ → Bool) (p : ℕ) → Why set p → ¬ (IsSaved mid p) → next set p ≡ true
  next_is set p why none = and_from _ _ (go why) (is_not (is_saved p) (IsSaved mid p) (saved_tells p) none)
    where
      go : Why set p → (is_orphan p || is_carried set p) ≡ true
      go (inl o) = or_left (is_orphan p) (is_carried set p) ((orphan_tells p).is o)
      go (inr c) = or_right (is_orphan p) (is_carried set p) ((carried_tells set p).is c)

  round_dies : (n p : ℕ) → round n p ≡ true → Dies mid p
  round_dies zero p e = absurd (cc)
  round_dies (suc n) p e = dies (next_yes (round n) p e) (λ q f. round_dies n q f)
    where
      dies : Why (round n) p × ¬ (IsSaved mid p) → ((q : ℕ) → round n q ≡ true → Dies mid q) → Dies mid p
      dies (inl o, none) before = orphan p o none
      dies (inr c, none) before = carried_at p c.0 (before c.0 c.1) c.2 none

  more : (f g : ℕ → Bool) → ((q : ℕ) → f q ≡ true → g q ≡ true) → (p : ℕ) → Why f p → Why g p
  more f g up p (inl o) = inl o
  more f g up p (inr c) = inr (c.0, up c.0 c.1, c.2)

  later : (n p : ℕ) → round n p ≡ true → round (suc n) p ≡ true
  later zero p e = absurd (cc)
  later (suc n) p e =
      let h = next_yes (round n) p e in
      next_is (round (suc n)) p (more (round n) (round (suc n)) (λ q f. later n q f) p h.0) h.1

  -- how many of the first numbers are in a set
  abbrev below : (ℕ → Bool) → ℕ → ℕ
  below f zero = 0
  below f (suc m) = (if f m then 1 else 0) + below f m

  below_le : (f : ℕ → Bool) (m : ℕ) → below f m ≤ m
  below_le f zero = omega arith
  below_le f (suc m) = grind (arith, below_le f m)

  below_more : (f g : ℕ → Bool) (m : ℕ) → ((q : ℕ) → f q ≡ true → g q ≡ true) → below f m ≤ below g m
  below_more f g zero up = omega arith
  below_more f g (suc m) up = let h = below_more f g m up in let a = if_le (f m) (g m) (up m) in omega (arith, h, a)

  -- no more, or one more at least
  same_or_more : (f g : ℕ → Bool) (m : ℕ) → ((q : ℕ) → f q ≡ true → g q ≡ true) → ((p : ℕ) → p < m → g p ≡ true → f p ≡ true) ⊎ (below f m + 1 ≤ below g m)
  same_or_more f g zero up = inl (λ p under e. absurd (omega (arith, under)))
  same_or_more f g (suc m) up = grind (arith, same_or_more f g m up, if_le, less, below_more)

  module _ (owed : Owed) (l : MidLawful mid owed) where
    live_right : (kind : Kind) (p : ℕ) → 0 < count (is_of kind p) mid.ledger → mid.live_port p ≡ true
    live_right kind p some = grind arith

    known : (n p : ℕ) → round n p ≡ true → p < mid.ports_made
    known zero p e = absurd (cc)
    known (suc n) p e = grind (arith, next_yes, live_right, lying_le_of)

    abbrev IsLast : ℕ → Type 0
    IsLast n = (p : ℕ) → round (suc n) p ≡ true → round n p ≡ true

    last_round : (fuel n : ℕ) → mid.ports_made ≤ fuel + below (round n) mid.ports_made → (k : ℕ) × IsLast k
    last_round zero n many = elim (same_or_more (round n) (round (suc n)) mid.ports_made (later n)) [
      | inl h ↦ (n, λ p e. h p (known (suc n) p e) e)
      | inr h ↦ absurd (let a = below_le (round (suc n)) mid.ports_made in omega (arith, many, h, a))
    ]
    last_round (suc fuel) n many = elim (same_or_more (round n) (round (suc n)) mid.ports_made (later n)) [
      | inl h ↦ (n, λ p e. h p (known (suc n) p e) e)
      | inr h ↦ last_round fuel (suc n) (omega (arith, many, h))
    ]

  module _ (n : ℕ) (last : (p : ℕ) → round (suc n) p ≡ true → round n p ≡ true) where
    closed : IsClosed mid (λ q. round n q ≡ true)
    closed = record {
      orphans = λ q o none. last q (next_is (round n) q (inl o) none);
      carried = λ q r in_set c none. last q (next_is (round n) q (inr (r, in_set, c)) none);
    }

    dies_last : (p : ℕ) → Tells (round n p) (Dies mid p)
    dies_last p = record { yes = round_dies n p; is = λ d. Dies-least mid (λ q. round n q ≡ true) closed p d }

    sent_last : (p : ℕ) → Tells (is_saved p && (is_orphan p || is_carried (round n) p)) (IsSentAway mid p)
    sent_last p = record { yes = yes; is = λ h. and_from _ _ ((saved_tells p).is h.0) (why h.1) }
      where
        yes : (is_saved p && (is_orphan p || is_carried (round n) p)) ≡ true → IsSentAway mid p
        yes e = (
          (saved_tells p).yes (left_of (is_saved p) (is_orphan p || is_carried (round n) p) e),
          elim (or_cases (is_orphan p) (is_carried (round n) p) (right_of (is_saved p) (is_orphan p || is_carried (round n) p) e)) [
            | inl h ↦ inl ((orphan_tells p).yes h)
            | inr h ↦ (let c = (carried_tells (round n) p).yes h in inr (c.0, round_dies n c.0 c.1, c.2))
          ],
        )

        why : IsOrphan mid p ⊎ ((q : ℕ) × Dies mid q × CarriedAt mid p q) → (is_orphan p || is_carried (round n) p) ≡ true
        why (inl o) = or_left (is_orphan p) (is_carried (round n) p) ((orphan_tells p).is o)
        why (inr c) = or_right (is_orphan p) (is_carried (round n) p) ((carried_tells (round n) p).is (c.0, (dies_last c.0).is c.1, c.2))

    pub from_last : Told mid
    from_last = record { dead = round n; dies = dies_last; away = λ p. is_saved p && (is_orphan p || is_carried (round n) p); sent = sent_last }

-- From a state that is lawful midway it can be told who dies and who is sent away.
pub told : (mid : State) (owed : Owed) → MidLawful mid owed → Told mid
told mid owed l = go (last_round mid owed l mid.ports_made 0 (omega arith))
  where
    go : (k : ℕ) × ((p : ℕ) → round mid (suc k) p ≡ true → round mid k p ≡ true) → Told mid
    go (k, last) = from_last mid k last
