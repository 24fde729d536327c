-- A step's end loses no send-once right of a port that lives, and makes none: each stays, or goes to its port in a notice. Each queued message
-- that goes by one has it at its own entry.
use Rattle.std.proofs.Common.{◌≡◌, ℕ, suc, ◌+◌, ◌<◌, ◌≤◌, List, [], ◌∷◌, Some, refl, sym, ap, subst, ◌∙◌, arith, true, false, Bool, inl, inr, drop}
use Rattle.std.specs.Prelude.{if◌then◌else◌, All, ◌==◌, ◌&&◌, filter, slice_get, map as list_map}
use Rattle.std.proofs.lemmas.List.Elements.{All-head, All-tail}
use Rattle.std.proofs.lemmas.Bool.{eq-eqb, eqb-true}
use Rattle.mach_types.specs.Tokens.{Kind, send_once, Place, in_message, Token, token, count, is_of, same_kind}
use Rattle.mach_types.specs.Messages.{Entry, Message}
use Rattle.mach_model.specs.State.{State}
use Rattle.mach_model.specs.Death.{same_place}
use Rattle.mach_model.specs.Carried.{lying_among, message_count}
use Rattle.mach_model.specs.Lawful.{tally, LawfulLogs, LawfulMessages}
use Rattle.mach_model.specs.Unused.{came_by_once}
use Rattle.mach_model.specs.Notices.{Notice, Owed, Posted, all_posted_tokens}
use Rattle.mach_model.specs.Settles.{PaysFor, GoesFrom, due_notices, tokens_of, Settles}
use Rattle.mach_model.specs.SameEnd.{sum}
use Rattle.mach_model.specs.Midway.{IsOwed, MidLawful}
use Rattle.mach_model.proofs.Names.{elsewhere, slice_get_drop, weigh-append, count_le, left_of}
use Rattle.mach_model.proofs.TurnsMade.{without, without_weigh}
use Rattle.mach_model.proofs.SettledReceives.{of_kind, parts, made_of, goes_if}
use Rattle.mach_model.proofs.SettledDetermined.{sum-append, map-append}

-- how many of these notices are for the port
abbrev for_port : (p : ℕ) → List (ℕ × Notice) → ℕ
for_port p ys = sum (λ (y : ℕ × Notice). if y.0 == p then 1 else 0) ys

-- each notice goes by one send-once right, and brings no other
posted_once : (p : ℕ) (xs : List Posted) → count (is_of send_once p) (all_posted_tokens xs) ≡ for_port p (list_map (λ (x : Posted). (x.port, x.notice)) xs)
posted_once p [] = refl
posted_once p (x ∷ xs) = grind (arith, posted_once p xs, weigh-append)

own_port : (p : ℕ) (x : Token) → x.kind ≡ send_once → is_of send_once p x ≡ (x.port == p)
own_port p x e = ap (λ (k : Kind). same_kind send_once k && x.port == p) e

paid_once : (p : ℕ) (mid new : State) (xs : Owed) → All (λ x. PaysFor mid new x.0 x.1) xs → count (is_of send_once p) (tokens_of xs) ≡ for_port p (due_notices xs)
paid_once p mid new [] all = refl
paid_once p mid new (x ∷ xs) all = grind (
  arith,
  All-head (λ (x : Token × Notice). PaysFor mid new x.0 x.1) x xs all,
  paid_once p mid new xs (All-tail (λ (x : Token × Notice). PaysFor mid new x.0 x.1) x xs all),
)

-- those that are owed to the port are told, since it lives
owed_once : (p : ℕ) (lives alive : ℕ → Bool) (xs : Owed) → alive p ≡ true → All (IsOwed lives) xs → count (is_of send_once p) (tokens_of xs) ≡ for_port p (due_notices (filter (λ x. alive x.0.port) xs))
owed_once p lives alive [] live all = refl
owed_once p lives alive (x ∷ xs) live all =
    let owed = All-head (IsOwed lives) x xs all in
    let e = own_port p x.0 owed.once in
    let rest = owed_once p lives alive xs live (All-tail (IsOwed lives) x xs all) in
    rw e (by (alive x.0.port) refl (x.0.port == p) refl rest)
  where
    at_port : (x.0.port == p) ≡ true → alive x.0.port ≡ true
    at_port is = ap alive (eqb-true x.0.port p is) ∙ live

    by : (a : Bool) → alive x.0.port ≡ a → (b : Bool) → (x.0.port == p) ≡ b → count (is_of send_once p) (tokens_of xs) ≡ for_port p (due_notices (filter (λ x. alive x.0.port) xs)) →
        (if b then 1 else 0) + count (is_of send_once p) (tokens_of xs) ≡ for_port p (due_notices (if a then x ∷ filter (λ x. alive x.0.port) xs else filter (λ x. alive x.0.port) xs))
    by true e true f rest = rw f (omega (arith, rest))
    by true e false f rest = rw f (omega (arith, rest))
    by false e true f rest = absurd (let g = at_port f in cc)
    by false e false f rest = omega (arith, rest)

module _ (now : ℕ) (old mid : State) (owed : Owed) (new : State) (l : MidLawful mid owed) (s : Settles now old mid owed new) (p : ℕ) (live : new.live_port p ≡ true) where
  none_goes : count (is_of send_once p) s.rights.going ≡ 0
  none_goes = goes_if now old mid owed new s (is_of send_once p) (λ x goes t. lost x goes (of_kind send_once p x t))
    where
      lost : (x : Token) → GoesFrom new x → (x.kind ≡ send_once) × (x.port ≡ p) → ⊥
      lost x (inl dead) is = let e = ap new.live_port is.1 in cc
      lost x (inr h) is = h.0 is.0

  pub once_kept : count (is_of send_once p) new.ledger ≡ count (is_of send_once p) mid.ledger + count (is_of send_once p) (tokens_of owed)
  once_kept = grind (
    arith,
    parts now old mid owed new s (is_of send_once p),
    made_of now old mid owed new s (is_of send_once p),
    none_goes,
    posted_once p s.notices.posted ∙ ap (for_port p) s.notices.due ∙ ap (for_port p) (map-append (λ (x : Token × Notice). (x.0.port, x.1)) s.rights.paying (filter (λ x. new.live_port x.0.port) owed)) ∙ sum-append (λ (y : ℕ × Notice). if y.0 == p then 1 else 0) (due_notices s.rights.paying) (due_notices (filter (λ x. new.live_port x.0.port) owed)),
    paid_once p mid new s.rights.paying s.rights.pay,
    owed_once p mid.live_port new.live_port owed live l.are_owed,
  )

-- ---- each queued message that goes by a send-once right has it at its own entry

-- the rights that lie at these entries, one by one
abbrev pub AreApart : (p k : ℕ) → List Entry → List Token → Type 0
AreApart p k es tokens = (i : ℕ) (e : Entry) → slice_get es i ≡ Some e → came_by_once e ≡ true → 0 < lying_among tokens send_once p (in_message p (k + i))

pub by_its_kind : (p : ℕ) (message : Message) → message.destination ≡ p → same_kind send_once message.kind ≡ true → 0 < message_count send_once p message
by_its_kind p message to once = grind (arith, eq-eqb)

pub are_apart : (live : ℕ → Bool) (made : ℕ) (log : ℕ → List Entry) (taken : ℕ → ℕ) (ledger : List Token) → LawfulLogs made log taken → LawfulMessages live log taken ledger → (p : ℕ) → live p ≡ true →
    AreApart p (taken p) (drop (taken p) (log p)) ledger
are_apart live made log taken ledger logs messages p lives i e is once =
    let c = messages.carried p i e lives is send_once p lives in
    let to = (logs.sent_here p (taken p + i) e (sym (slice_get_drop (taken p) (log p) i) ∙ is)).0 in
    let some = by_its_kind p e.message to once in
    omega (arith, c, some)

-- rights that pass a test come besides, where none at these entries passes it
pub apart_count : (p : ℕ) (test : Token → Bool) → ((x : Token) → test x ≡ true → is_of send_once p x ≡ true) → (k : ℕ) (es : List Entry) (tokens : List Token) →
    ((i : ℕ) → test (token send_once p (in_message p (k + i))) ≡ false) → AreApart p k es tokens → count test tokens + tally came_by_once es ≤ count (is_of send_once p) tokens
apart_count p test of k [] tokens not apart = let h = count_le test (is_of send_once p) of tokens in omega (arith, h)
apart_count p test of k (e ∷ es) tokens not apart = go (came_by_once e) refl (λ others so. apart_count p test of (suc k) es others not_next so)
  where
    not_next : (i : ℕ) → test (token send_once p (in_message p (suc k + i))) ≡ false
    not_next i = subst (λ (n : ℕ). test (token send_once p (in_message p n)) ≡ false) (omega arith) (not (suc i))

    later : AreApart p (suc k) es tokens
    later i x is once = subst (λ (n : ℕ). 0 < lying_among tokens send_once p (in_message p n)) (omega arith) (apart (suc i) x is once)

    go : (b : Bool) → came_by_once e ≡ b → ((others : List Token) → AreApart p (suc k) es others → count test others + tally came_by_once es ≤ count (is_of send_once p) others) →
        count test tokens + ((if came_by_once e then 1 else 0) + tally came_by_once es) ≤ count (is_of send_once p) tokens
    go false is more = grind (arith, more tokens later)
    go true is more =
        let x : Token = token send_once p (in_message p k) in
        let here : 0 < lying_among tokens send_once p (in_message p k) = subst (λ (n : ℕ). 0 < lying_among tokens send_once p (in_message p n)) (omega arith) (apart 0 e refl is) in
        let not_here : test x ≡ false = subst (λ (n : ℕ). test (token send_once p (in_message p n)) ≡ false) (omega arith) (not 0) in
        let rest : AreApart p (suc k) es (without x tokens) = λ i y at once.
        let m = without_weigh x tokens here (λ y. if is_of send_once p y && same_place (in_message p (suc k + i)) y.place then 1 else 0) in
        grind (arith, later i y at once, m, elsewhere p p (suc k + i) k) in
        grind (arith, more (without x tokens) rest, without_weigh x tokens here (λ y. if is_of send_once p y then 1 else 0), without_weigh x tokens here (λ y. if test y then 1 else 0), not_here, is, eq-eqb)

-- ... such as those at another place
pub placed_apart : (p : ℕ) (place : Place) (k : ℕ) (es : List Entry) (tokens : List Token) → ((i : ℕ) → same_place place (in_message p (k + i)) ≡ false) → AreApart p k es tokens →
    lying_among tokens send_once p place + tally came_by_once es ≤ count (is_of send_once p) tokens
placed_apart p place k es tokens off apart = apart_count p (λ x. is_of send_once p x && same_place place x.place) (λ x. left_of (is_of send_once p x) (same_place place x.place)) k es tokens (λ i. grind (arith, off i)) apart
