-- From the state before a step, the one after its own part and what is owed, the end of the step is fixed: which ports live,
-- which requests stand, which rights are with whom, and which notices are sent. Only the order of the notices is free.
use Rattle.std.proofs.Common.{◌≡◌, ℕ, suc, ◌+◌, ◌<◌, ◌≤◌, List, [], ◌∷◌, ◌++◌, Option, Some, None, refl, sym, ap, subst, ◌∙◌, arith, true, false, Bool, inl, inr, length, get_or}
use Rattle.std.specs.Prelude.{if◌then◌else◌, All, ◌≢◌, ◌&&◌, map, filter, option_map}
use Rattle.std.proofs.lemmas.Bool.{and_from, false_from_ne_true}
use Rattle.mach_types.specs.Tokens.{Kind, receive, send, send_once, Request, no_senders, port_destroyed, dead_name, Place, in_task, in_message, in_request, Token, weigh, count, is_of, same_kind}
use Rattle.mach_model.specs.State.{State, Target, lookup, senders}
use Rattle.mach_model.specs.Notices.{Notice, right_unused, Owed, Posted, all_posted_tokens}
use Rattle.mach_model.specs.Settles.{PlaceStays, StaysWith, told_by, TellsAt, PaysFor, GoesFrom, BecameDead, Ends, settled_target, due_notices, tokens_of, Settles}
use Rattle.mach_model.specs.Midway.{MidLawful}
use Rattle.mach_model.specs.SameEnd.{Outside, sum, IsSameEnd}
use Rattle.mach_model.specs.Death.{same_place}
use Rattle.mach_model.proofs.Names.{weigh-append, count_some, count_none, left_of, right_of}
use Rattle.mach_model.proofs.Settling.{is_at, place_refl}
use Rattle.mach_model.proofs.SettledReceives.{and_false}

-- ---- the three fates, as tests

abbrev pub place_stays : State → Place → Bool
place_stays new (in_task task) = true
place_stays new (in_message q k) = new.live_port q
place_stays new (in_request r) = new.stands r

abbrev pub stays : State → Token → Bool
stays new x = new.live_port x.port && place_stays new x.place

abbrev pub pays : State → Token → Bool
pays new x = same_kind send_once x.kind && (new.live_port x.port && (if place_stays new x.place then false else true))

abbrev pub notice_of : (mid new : State) → Place → Notice
notice_of mid new (in_task task) = right_unused
notice_of mid new (in_message q k) = right_unused
notice_of mid new (in_request r) = told_by mid new r

stays_is : (new : State) (place : Place) → PlaceStays new place → place_stays new place ≡ true
stays_is new (in_task task) h = refl
stays_is new (in_message q k) h = h
stays_is new (in_request r) h = h

stays_not : (new : State) (place : Place) → ¬ (PlaceStays new place) → place_stays new place ≡ false
stays_not new (in_task task) h = absurd (h tt)
stays_not new (in_message q k) h = false_from_ne_true _ h
stays_not new (in_request r) h = false_from_ne_true _ h

tells : (mid new : State) (place : Place) (notice : Notice) → TellsAt mid new place notice → notice ≡ notice_of mid new place
tells mid new (in_task task) notice h = absurd h
tells mid new (in_message q k) notice h = h
tells mid new (in_request r) notice h = h

once_is : (k : Kind) → k ≡ send_once → same_kind send_once k ≡ true
once_is receive e = absurd (cc)
once_is send e = absurd (cc)
once_is send_once e = refl

once_not : (k : Kind) → k ≢ send_once → same_kind send_once k ≡ false
once_not receive h = refl
once_not send h = refl
once_not send_once h = absurd (h refl)

stay_stays : (new : State) (x : Token) → StaysWith new x → stays new x ≡ true
stay_stays new x h = rw (h.0, stays_is new x.place h.1)

stay_unpaid : (new : State) (x : Token) → StaysWith new x → pays new x ≡ false
stay_unpaid new x h = rw (h.0, stays_is new x.place h.1) (and_false (same_kind send_once x.kind))

pay_leaves : (mid new : State) (x : Token) (n : Notice) → PaysFor mid new x n → stays new x ≡ false
pay_leaves mid new x n h = rw (h.1, stays_not new x.place h.2)

pay_pays : (mid new : State) (x : Token) (n : Notice) → PaysFor mid new x n → pays new x ≡ true
pay_pays mid new x n h = rw (once_is x.kind h.0, h.1, stays_not new x.place h.2)

go_leaves : (new : State) (x : Token) → GoesFrom new x → stays new x ≡ false
go_leaves new x (inl h) = rw h
go_leaves new x (inr h) = rw (stays_not new x.place h.1) (and_false (new.live_port x.port))

go_unpaid : (new : State) (x : Token) → GoesFrom new x → pays new x ≡ false
go_unpaid new x (inl h) = rw h (and_false (same_kind send_once x.kind))
go_unpaid new x (inr h) = rw (once_not x.kind h.0)

-- ---- sums

pub sum-append : {A : Type 0} (g : A → ℕ) (xs ys : List A) → sum g (xs ++ ys) ≡ sum g xs + sum g ys
sum-append g [] ys = omega arith
sum-append g (x ∷ xs) ys = omega (arith, sum-append g xs ys)

pub map-append : {A B : Type 0} (f : A → B) (xs ys : List A) → map f (xs ++ ys) ≡ map f xs ++ map f ys
map-append f [] ys = refl
map-append f (x ∷ xs) ys = ap (λ zs. f x ∷ zs) (map-append f xs ys)

tail : {A : Type 0} (P : A → Type 0) (x : A) (xs : List A) → All P (x ∷ xs) → All P xs
tail P x xs all = λ k d below. all (suc k) d (omega (arith, below))

-- a weight that is none on all
pub none_weigh : (P : Token → Type 0) (h : Token → ℕ) → ((x : Token) → P x → h x ≡ 0) → (xs : List Token) → All P xs → weigh h xs ≡ 0
none_weigh P h none [] all = refl
none_weigh P h none (x ∷ xs) all = omega (arith, none x (all 0 x (omega arith)), none_weigh P h none xs (tail P x xs all))

same_weigh : (P : Token → Type 0) (g h : Token → ℕ) → ((x : Token) → P x → g x ≡ h x) → (xs : List Token) → All P xs → weigh g xs ≡ weigh h xs
same_weigh P g h same [] all = refl
same_weigh P g h same (x ∷ xs) all = omega (arith, same x (all 0 x (omega arith)), same_weigh P g h same xs (tail P x xs all))

pub weigh-same : (g h : Token → ℕ) → ((x : Token) → g x ≡ h x) → (xs : List Token) → weigh g xs ≡ weigh h xs
weigh-same g h same [] = refl
weigh-same g h same (x ∷ xs) = omega (arith, same x, weigh-same g h same xs)

module _ (now : ℕ) (old mid : State) (owed : Owed) (new : State) (s : Settles now old mid owed new) where
  -- what stays
  abbrev stay_h : (Token → ℕ) → Token → ℕ
  stay_h h x = if stays new x then h x else 0

  paying_none : (h : Token → ℕ) (xs : List (Token × Notice)) → All (λ x. PaysFor mid new x.0 x.1) xs → weigh (stay_h h) (tokens_of xs) ≡ 0
  paying_none h [] all = refl
  paying_none h (x ∷ xs) all = grind (arith, paying_none h xs (λ k d below. all (suc k) d (omega (arith, below))), pay_leaves mid new x.0 x.1 (all 0 x (omega arith)))

  pub staying_weigh : (h : Token → ℕ) → weigh h s.rights.staying ≡ weigh (stay_h h) mid.ledger
  staying_weigh h = grind (
    arith,
    s.rights.parts (stay_h h),
    same_weigh (StaysWith new) (stay_h h) h (λ x p. ap (λ (b : Bool). if b then h x else 0) (stay_stays new x p)) s.rights.staying s.rights.stay,
    paying_none h s.rights.paying s.rights.pay,
    none_weigh (GoesFrom new) (stay_h h) (λ x p. ap (λ (b : Bool). if b then h x else 0) (go_leaves new x p)) s.rights.going s.rights.go,
  )

  -- what pays
  abbrev pay_h : (ℕ × Notice → ℕ) → Token → ℕ
  pay_h g x = if pays new x then g (x.port, notice_of mid new x.place) else 0

  paying_sum : (g : ℕ × Notice → ℕ) (xs : List (Token × Notice)) → All (λ x. PaysFor mid new x.0 x.1) xs → weigh (pay_h g) (tokens_of xs) ≡ sum g (due_notices xs)
  paying_sum g [] all = refl
  paying_sum g (x ∷ xs) all = grind (arith, all 0 x (omega arith), paying_sum g xs (λ k d below. all (suc k) d (omega (arith, below))))

  -- The notices that are sent: those that rights pay for, and those owed to live ports.
  pub notices_sum : (g : ℕ × Notice → ℕ) →
      sum g (map (λ x. (x.port, x.notice)) s.notices.posted) ≡ weigh (pay_h g) mid.ledger + sum g (due_notices (filter (λ x. new.live_port x.0.port) owed))
  notices_sum g = grind (
    arith,
    s.rights.parts (pay_h g),
    none_weigh (StaysWith new) (pay_h g) (λ x p. ap (λ (b : Bool). if b then g (x.port, notice_of mid new x.place) else 0) (stay_unpaid new x p)) s.rights.staying s.rights.stay,
    paying_sum g s.rights.paying s.rights.pay,
    none_weigh (GoesFrom new) (pay_h g) (λ x p. ap (λ (b : Bool). if b then g (x.port, notice_of mid new x.place) else 0) (go_unpaid new x p)) s.rights.going s.rights.go,
    ap (sum g) s.notices.due,
    ap (sum g) (map-append (λ (x : Token × Notice). (x.0.port, x.1)) s.rights.paying (filter (λ x. new.live_port x.0.port) owed)),
    sum-append g (due_notices s.rights.paying) (due_notices (filter (λ x. new.live_port x.0.port) owed)),
  )

-- ---- two ends of the same step

posted_outside : (h : Token → ℕ) → Outside h → (xs : List Posted) → weigh h (all_posted_tokens xs) ≡ 0
posted_outside h out [] = refl
posted_outside h out (x ∷ xs) = grind (arith, posted_outside h out xs, weigh-append)

posted_sends : (p : ℕ) (xs : List Posted) → count (is_of send p) (all_posted_tokens xs) ≡ 0
posted_sends p [] = refl
posted_sends p (x ∷ xs) = grind (arith, posted_sends p xs, weigh-append)

true_both : (a b : Bool) → (a ≡ true → b ≡ true) → (b ≡ true → a ≡ true) → a ≡ b
true_both true b f g = sym (f refl)
true_both false true f g = g refl
true_both false false f g = refl

abbrev pub is_kept : Place → Bool
is_kept (in_task t) = false
is_kept (in_message q k) = false
is_kept (in_request r) = true

-- requests keep no send rights
abbrev NoSendKept : State → Type 0
NoSendKept mid = (p : ℕ) → count (λ x. is_of send p x && is_kept x.place) mid.ledger ≡ 0

module _ (now : ℕ) (old mid : State) (owed : Owed) (no_send_kept : NoSendKept mid) where
  module _ (a b : State) (s : Settles now old mid owed a) (t : Settles now old mid owed b) where
    lives_too : (p : ℕ) → a.live_port p ≡ true → b.live_port p ≡ true
    lives_too p live = grind arith

  module _ (a b : State) (s : Settles now old mid owed a) (t : Settles now old mid owed b) where
    -- the same ports live
    pub live_same : (p : ℕ) → a.live_port p ≡ b.live_port p
    live_same p = true_both _ _ (lives_too a b s t p) (lives_too b a t s p)

-- the place of a send right stays or not, whatever requests stand
abbrev pub queue_stays : (live : ℕ → Bool) → Place → Bool
queue_stays live (in_task t) = true
queue_stays live (in_message q k) = live q
queue_stays live (in_request r) = false

abbrev pub sends_left : (live : ℕ → Bool) → ℕ → Token → ℕ
sends_left live p x = if is_of send p x && (live x.port && queue_stays live x.place) then 1 else 0

-- with at most what requests keep between, and both ways
place_le : (c : State) (u v : Bool) (place : Place) →
    (if v && place_stays c place then (if u then 1 else 0) else 0) ≤ (if u && (v && queue_stays c.live_port place) then 1 else 0) + (if u && is_kept place then 1 else 0)
place_le c true true (in_task t) = omega arith
place_le c true true (in_message q k) = grind arith
place_le c true true (in_request r) = grind arith
place_le c true false place = omega arith
place_le c false true place = grind arith
place_le c false false place = omega arith

place_ge : (c : State) (u v : Bool) (place : Place) →
    (if u && (v && queue_stays c.live_port place) then 1 else 0) ≤ (if v && place_stays c place then (if u then 1 else 0) else 0)
place_ge c true true (in_task t) = omega arith
place_ge c true true (in_message q k) = grind arith
place_ge c true true (in_request r) = omega arith
place_ge c true false place = omega arith
place_ge c false true place = omega arith
place_ge c false false place = omega arith

pub weigh_two : (f g h : Token → ℕ) → ((x : Token) → f x ≤ g x + h x) → (xs : List Token) → weigh f xs ≤ weigh g xs + weigh h xs
weigh_two f g h le [] = omega arith
weigh_two f g h le (x ∷ xs) = omega (arith, le x, weigh_two f g h le xs)

-- how many send rights are left depends on the ports that live alone
pub senders_left : (now : ℕ) (old mid : State) (owed : Owed) (new : State) → Settles now old mid owed new →
    (p : ℕ) → count (λ x. is_of send p x && is_kept x.place) mid.ledger ≡ 0 → senders new p ≡ weigh (sends_left new.live_port p) mid.ledger
senders_left now old mid owed new s p none = grind (
  arith,
  s.notices.ledger (λ x. if is_of send p x then 1 else 0),
  posted_sends p s.notices.posted,
  staying_weigh now old mid owed new s (λ x. if is_of send p x then 1 else 0),
  weigh_two _ (sends_left new.live_port p) _ (λ x. place_le new (is_of send p x) (new.live_port x.port) x.place) mid.ledger,
  weigh_two (sends_left new.live_port p) (λ x. if stays new x then (if is_of send p x then 1 else 0) else 0) (λ x. 0) (λ x. omega (arith, place_ge new (is_of send p x) (new.live_port x.port) x.place)) mid.ledger,
  none_weigh (λ x. Unit {0}) (λ x. 0) (λ x u. refl) mid.ledger (λ k d below. tt),
)

module _ (now : ℕ) (old mid : State) (owed : Owed) (no_send_kept : NoSendKept mid) where
  module _ (a b : State) (s : Settles now old mid owed a) (t : Settles now old mid owed b) where
    same_live : (p : ℕ) → a.live_port p ≡ b.live_port p
    same_live p = live_same now old mid owed no_send_kept a b s t p

    same_senders : (p : ℕ) → senders a p ≡ senders b p
    same_senders p =
        let e = senders_left now old mid owed a s p (no_send_kept p) in
        let f = senders_left now old mid owed b t p (no_send_kept p) in
        let g : a.live_port ≡ b.live_port = λ i q. same_live q i in
        let h = ap (λ (l : ℕ → Bool). weigh (sends_left l p) mid.ledger) g in
        omega (arith, e, f, h)

    became : (o : Option Target) → BecameDead mid a o → BecameDead mid b o
    became None h = h
    became (Some (Target.port p)) h = sym (same_live p) ∙ h
    became (Some (Target.once p)) h = sym (same_live p) ∙ h
    became (Some (Target.dead n)) h = h
    became (Some (Target.set n)) h = h

    ends_too : (r : Request) → Ends old mid a r → Ends old mid b r
    ends_too (no_senders p) (inl dead) = inl (sym (same_live p) ∙ dead)
    ends_too (no_senders p) (inr h) = inr (h.0, sym (same_senders p) ∙ h.1)
    ends_too (port_destroyed p) (inl dead) = inl (sym (same_live p) ∙ dead)
    ends_too (port_destroyed p) (inr h) = inr h
    ends_too (dead_name task name) h = became (lookup mid task name) h

    stands_too : (r : Request) → b.stands r ≡ true → a.stands r ≡ true
    stands_too r stood = grind (arith, ends_too)

  module _ (a b : State) (s : Settles now old mid owed a) (t : Settles now old mid owed b) where
    -- the same requests stand
    pub stands_same : (r : Request) → a.stands r ≡ b.stands r
    stands_same r = true_both _ _ (stands_too b a t s r) (stands_too a b s t r)

    place_same : (place : Place) → place_stays a place ≡ place_stays b place
    place_same (in_task task) = refl
    place_same (in_message q k) = same_live a b s t q
    place_same (in_request r) = stands_same r

    -- The same rights are with tasks and requests, each as often.
    pub ledger_same : (h : Token → ℕ) → Outside h → weigh h a.ledger ≡ weigh h b.ledger
    ledger_same h out =
        let e = staying_weigh now old mid owed a s h in
        let f = staying_weigh now old mid owed b t h in
        let g = weigh-same (λ x. if stays a x then h x else 0) (λ x. if stays b x then h x else 0)
        (λ x. rw (same_live a b s t x.port, place_same x.place) refl) mid.ledger in
        omega (arith, s.notices.ledger h, t.notices.ledger h, posted_outside h out s.notices.posted, posted_outside h out t.notices.posted, e, f, g)

    sent_same : (p : ℕ) → s.ports.is_sent p ≡ t.ports.is_sent p
    sent_same p = true_both _ _ (λ e. t.ports.sent p (s.ports.sent_only p e)) (λ e. s.ports.sent p (t.ports.sent_only p e))

    pub make_send_same : (p : ℕ) → a.make_send p ≡ b.make_send p
    make_send_same p = s.ports.make_send p ∙ ap (λ (x : Bool). if x then 0 else mid.make_send p) (sent_same p) ∙ sym (t.ports.make_send p)

    pub sequence_same : (p : ℕ) → a.sequence p ≡ b.sequence p
    sequence_same p = s.ports.sequence p ∙ ap (λ (x : Bool). if x then 0 else mid.sequence p) (sent_same p) ∙ sym (t.ports.sequence p)

    -- The same ports are in the same sets.
    pub sets_same : (p : ℕ) → a.sets_of p ≡ b.sets_of p
    sets_same p = s.ports.sets_of p ∙ rw (sent_same p, same_live a b s t p) refl ∙ sym (t.ports.sets_of p)

    told_same : (r : Request) → told_by mid a r ≡ told_by mid b r
    told_same (no_senders p) = rw (same_live a b s t p, make_send_same p) refl
    told_same (port_destroyed p) = rw (same_live a b s t p) refl
    told_same (dead_name task name) = refl

    notice_same : (place : Place) → notice_of mid a place ≡ notice_of mid b place
    notice_same (in_task task) = refl
    notice_same (in_message q k) = refl
    notice_same (in_request r) = told_same r

    owed_same : (g : ℕ × Notice → ℕ) (xs : List (Token × Notice)) →
        sum g (due_notices (filter (λ x. a.live_port x.0.port) xs)) ≡ sum g (due_notices (filter (λ x. b.live_port x.0.port) xs))
    owed_same g [] = refl
    owed_same g (x ∷ xs) = grind (arith, owed_same g xs, same_live)

    -- The same notices are sent to the same ports, each as often.
    pub notices_same : (g : ℕ × Notice → ℕ) → sum g (map (λ x. (x.port, x.notice)) s.notices.posted) ≡ sum g (map (λ x. (x.port, x.notice)) t.notices.posted)
    notices_same g =
        let e = notices_sum now old mid owed a s g in
        let f = notices_sum now old mid owed b t g in
        let k = weigh-same (λ x. if pays a x then g (x.port, notice_of mid a x.place) else 0) (λ x. if pays b x then g (x.port, notice_of mid b x.place) else 0)
        (λ x. rw (same_live a b s t x.port, place_same x.place, notice_same x.place) refl) mid.ledger in
        omega (arith, e, f, k, owed_same g owed)

    same_lookup : (o : Option Target) (task name : ℕ) → option_map (settled_target mid a task name) o ≡ option_map (settled_target mid b task name) o
    same_lookup None task name = refl
    same_lookup (Some (Target.port p)) task name = rw (same_live a b s t p) refl
    same_lookup (Some (Target.once p)) task name = rw (same_live a b s t p) refl
    same_lookup (Some (Target.dead n)) task name = refl
    same_lookup (Some (Target.set n)) task name = refl

    -- The same names stand for the same.
    pub naming_same : (task name : ℕ) → lookup a task name ≡ lookup b task name
    naming_same task name = s.names task name ∙ same_lookup (lookup mid task name) task name ∙ sym (t.names task name)

-- ---- the whole

none_kept : (mid : State) (owed : Owed) → MidLawful mid owed → NoSendKept mid
none_kept mid owed l p = count_none (λ x. is_of send p x && is_kept x.place) mid.ledger (λ k d below t. go k d below t (get_or mid.ledger k d).place refl)
  where
    go : (k : ℕ) (d : Token) → k < length mid.ledger → (is_of send p (get_or mid.ledger k d) && is_kept (get_or mid.ledger k d).place) ≡ true →
        (place : Place) → (get_or mid.ledger k d).place ≡ place → ⊥
    go k d below t (in_request r) at =
        let x = get_or mid.ledger k d in
        let a = left_of (is_of send p x) (is_kept x.place) t in
        let some = count_some (is_at send p (in_request r)) mid.ledger k d below (and_from _ _ a (subst (λ (y : Place). same_place (in_request r) y ≡ true) (sym at) (place_refl (in_request r)))) in
        let z = l.once_kept r send p (λ e. cc) in
        omega (arith, some, z)
    go k d below t place at = absurd (let b = right_of (is_of send p (get_or mid.ledger k d)) (is_kept (get_or mid.ledger k d).place) t in let e = ap is_kept at in cc)

-- Any two ends of a step are the same so.
pub determined : (now : ℕ) (old mid : State) (owed : Owed) (a b : State) → MidLawful mid owed → (s : Settles now old mid owed a) → (t : Settles now old mid owed b) → IsSameEnd a b s.notices.posted t.notices.posted
determined now old mid owed a b l s t =
    let none = none_kept mid owed l in
    record {
      live = live_same now old mid owed none a b s t;
      stands = stands_same now old mid owed none a b s t;
      naming = naming_same now old mid owed none a b s t;
      sets_of = sets_same now old mid owed none a b s t;
      make_send = make_send_same now old mid owed none a b s t;
      sequence = sequence_same now old mid owed none a b s t;
      tokens = ledger_same now old mid owed none a b s t;
      notices = notices_same now old mid owed none a b s t;
    }
