-- One token taken from the ledger.
use Rattle.std.proofs.Common.{◌≡◌, ℕ, ◌+◌, ◌<◌, List, [], ◌∷◌, refl, subst, arith, true, false, Bool, zero, suc}
use Rattle.std.specs.Prelude.{if◌then◌else◌, ◌==◌, ◌&&◌}
use Rattle.std.proofs.lemmas.Bool.{eqb-true}
use Rattle.mach_types.specs.Tokens.{Kind, receive, send, send_once, Place, in_task, in_message, in_request, Token, token, weigh, count, is_of, is_held, is_in_task, same_kind}
use Rattle.mach_model.specs.Death.{same_place}
use Rattle.mach_model.proofs.Names.{left_of, right_of}

-- A token that passes the test, and the others.
record TakesOne (test : Token → Bool) (xs : List Token) : Type 0 where
  pub one : Token
  pub passes : test one ≡ true
  pub others : List Token
  pub parts : (h : Token → ℕ) → weigh h others + h one ≡ weigh h xs

take_first : (test : Token → Bool) (x : Token) (xs : List Token) (b : Bool) → test x ≡ b → 0 < count test (x ∷ xs) →
    (0 < count test xs → TakesOne test xs) → TakesOne test (x ∷ xs)
take_first test x xs true e some later = record { one = x; passes = e; others = xs; parts = λ h. omega arith }
take_first test x xs false e some later =
    let none : (if test x then suc zero else zero) ≡ zero = rw e in
    let rest = later (omega (arith, none, some)) in
    record { one = rest.one; passes = rest.passes; others = x ∷ rest.others; parts = λ h. omega (arith, rest.parts h) }

take_one : (test : Token → Bool) (xs : List Token) → 0 < count test xs → TakesOne test xs
take_one test [] some = absurd (omega arith)
take_one test (x ∷ xs) some = take_first test x xs (test x) refl some (take_one test xs)

is_kind : (a b : Kind) → same_kind a b ≡ true → b ≡ a
is_kind receive receive e = refl
is_kind receive send e = absurd (cc)
is_kind receive send_once e = absurd (cc)
is_kind send receive e = absurd (cc)
is_kind send send e = refl
is_kind send send_once e = absurd (cc)
is_kind send_once receive e = absurd (cc)
is_kind send_once send e = absurd (cc)
is_kind send_once send_once e = refl

in_that_task : (task : ℕ) (place : Place) → is_in_task task place ≡ true → place ≡ in_task task
in_that_task task (in_task t) e = let a : t ≡ task = eqb-true t task e in cc
in_that_task task (in_message q m) e = absurd (cc)
in_that_task task (in_request r) e = absurd (cc)

in_that_entry : (p n : ℕ) (place : Place) → same_place (in_message p n) place ≡ true → place ≡ in_message p n
in_that_entry p n (in_task t) e = absurd (cc)
in_that_entry p n (in_request r) e = absurd (cc)
in_that_entry p n (in_message q m) e =
    let a : p ≡ q = eqb-true p q (left_of (p == q) (n == m) e) in
    let b : n ≡ m = eqb-true n m (right_of (p == q) (n == m) e) in
    cc

that : (kind : Kind) (p : ℕ) (place : Place) (x : Token) → is_of kind p x ≡ true → x.place ≡ place → x ≡ token kind p place
that kind p place x of at =
    let k : x.kind ≡ kind = is_kind kind x.kind (left_of (same_kind kind x.kind) (x.port == p) of) in
    let q : x.port ≡ p = eqb-true x.port p (right_of (same_kind kind x.kind) (x.port == p) of) in
    λ i. record { kind = k i; port = q i; place = at i }

-- The others of a ledger from which this token is taken.
pub record Without (x : Token) (xs : List Token) : Type 0 where
  pub others : List Token
  pub parts : (h : Token → ℕ) → weigh h others + h x ≡ weigh h xs

-- a right that a task holds
pub take_held : (task : ℕ) (kind : Kind) (p : ℕ) (xs : List Token) → 0 < count (is_held task kind p) xs → Without (token kind p (in_task task)) xs
take_held task kind p xs some =
    let t = take_one (is_held task kind p) xs some in
    let is = that kind p (in_task task) t.one (left_of (is_of kind p t.one) (is_in_task task t.one.place) t.passes)
    (in_that_task task t.one.place (right_of (is_of kind p t.one) (is_in_task task t.one.place) t.passes)) in
    record { others = t.others; parts = λ h. subst (λ (y : Token). weigh h t.others + h y ≡ weigh h xs) is (t.parts h) }

-- a right that lies at an entry
pub take_lying : (o k : ℕ) (kind : Kind) (p : ℕ) (xs : List Token) → 0 < count (λ x. is_of kind p x && same_place (in_message o k) x.place) xs →
    Without (token kind p (in_message o k)) xs
take_lying o k kind p xs some =
    let t = take_one (λ x. is_of kind p x && same_place (in_message o k) x.place) xs some in
    let is = that kind p (in_message o k) t.one (left_of (is_of kind p t.one) (same_place (in_message o k) t.one.place) t.passes)
    (in_that_entry o k t.one.place (right_of (is_of kind p t.one) (same_place (in_message o k) t.one.place) t.passes)) in
    record { others = t.others; parts = λ h. subst (λ (y : Token). weigh h t.others + h y ≡ weigh h xs) is (t.parts h) }
