-- A right that a request keeps after a step's own part was kept by it before, or the request is new there and no port dies.
use Rattle.std.proofs.Common.{◌≡◌, ℕ, zero, suc, ◌+◌, ◌≤◌, ◌<◌, List, [], ◌∷◌, refl, sym, ap, subst, ◌∙◌, arith, true, false, Bool, inl, inr}
use Rattle.std.specs.Prelude.{◌≢◌, ◌⊎◌, ◌==◌, ◌&&◌, Some, None, if◌then◌else◌}
use Rattle.std.proofs.lemmas.Bool.{eq-eqb, and_from}
use Rattle.std.proofs.lemmas.Bool.Decides.{eqb_tells}
use Rattle.mach_types.specs.declared.calls.Event.{Event}
use Rattle.mach_types.specs.declared.calls.Reply.{Reply}
use Rattle.mach_types.specs.declared.rights.Disposition.{Disposition}
use Rattle.mach_types.specs.Numbers.{null_word}
use Rattle.mach_types.specs.Tokens.{send, send_once, Request, no_senders, port_destroyed, dead_name, Place, in_task, in_message, in_request, Token, token, count, is_of, Moves}
use Rattle.mach_types.specs.Messages.{to_port}
use Rattle.mach_types.specs.Guards.{NoneHolds}
use Rattle.mach_model.specs.State.{State, Target, lookup, senders, same_request}
use Rattle.mach_model.specs.Names.{renamed_place, renamed_requests, Renames}
use Rattle.mach_model.specs.CopyIn.{put_by, CopyRight}
use Rattle.mach_model.specs.Death.{same_place, IsOrphan}
use Rattle.mach_model.specs.Notices.{Owed}
use Rattle.mach_model.specs.Requests.{GivesBack, Keeps, Requests}
use Rattle.mach_model.specs.Refusals.{guards}
use Rattle.mach_model.specs.Acts.{Does}
use Rattle.mach_model.specs.Lawful.{IsLawful}
use Rattle.mach_model.specs.Carried.{lying}
use Rattle.mach_model.proofs.Names.{left_of, right_of, count_le}
use Rattle.mach_model.proofs.Settling.{is_at, request_refl}
use Rattle.mach_model.proofs.SettledReceives.{and_false, place_is}
use Rattle.mach_model.proofs.SettledDetermined.{weigh_two}
use Rattle.mach_model.proofs.NamesLawful.{none_at}
use Rattle.mach_model.proofs.StepLawful.{is_none}
use Rattle.mach_model.proofs.StepReceives.{Does-receives}
use Rattle.mach_laws.proofs.Shrinking.{NoOnce, requests_same, unasked, one_of}
use Rattle.mach_laws.proofs.Asked.{Off, does_fewer, asks_fewer}

-- The request stands midway, no port dies, and the send rights are as many as before.
pub record IsNew (old mid : State) (r : Request) : Type 0 where
  pub stands : mid.stands r ≡ true
  pub none : (p : ℕ) → ¬ (IsOrphan mid p)
  pub senders : (p : ℕ) → senders mid p ≡ senders old p

-- ---- a request that is made

module _ (task name variant sync notify number previous : ℕ) (old mid : State) (owed : Owed) (l : IsLawful old) (r : Requests task name variant sync notify number previous old mid owed) where
  abbrev there : Token → Bool
  there x = same_place (in_request r.request) x.place

  put_one : (d : Disposition) (target : Target) (place : Place) → count there (put_by d target place) ≤ 1
  put_one d (Target.port p) place = grind arith
  put_one d (Target.once p) place = grind arith
  put_one d (Target.set q) place = omega arith
  put_one d (Target.dead n) place = omega arith

  own : count there (token send_once 0 (in_request r.request) ∷ []) ≡ 1
  own = rw (request_refl r.request) refl

  -- one more right was copied in at most, and what was kept before is given back
  back_one : (k : ℕ) → count there r.copied.ledger ≤ count there old.ledger + k → count there r.back.ledger ≤ k
  back_one k copied = by r.given_back
    where
      most : count there old.ledger ≤ 1
      most = l.one_kept r.request

      by : GivesBack task r.request old r.copied previous r.back → count there r.back.ledger ≤ k
      by (inl h) = let e = ap (λ (s : State). count there s.ledger) h.2 in let z = none_at old l r.request h.0 in omega (arith, copied, e, z)
      by (inr (inl h)) = let e = ap (λ (s : State). count there s.ledger) h.3 in let z = h.1 in omega (arith, copied, e, z)
      by (inr (inr (q, named, stood, lies, n, m, rest))) =
          let a = m (λ x. if there x then 1 else 0) in
          let b : count there (token send_once q (in_request r.request) ∷ []) ≡ 1 = rw (request_refl r.request) refl in
          omega (arith, a, b, most, copied)

  spent_none : (q : ℕ) → count there r.back.ledger ≤ 1 → Moves r.back.ledger mid.ledger (token send_once q (in_request r.request) ∷ []) [] → count there mid.ledger ≡ 0
  spent_none q few m =
      let a = m (λ x. if there x then 1 else 0) in
      let b : count there (token send_once q (in_request r.request) ∷ []) ≡ 1 = rw (request_refl r.request) refl in
      omega (arith, a, b, few)

  -- Where the request doesn't stand then it keeps nothing.
  ended_none : mid.stands r.request ≡ false → count there mid.ledger ≡ 0
  ended_none ended = by r.copy
    where
      kept : (q : ℕ) → count there r.back.ledger ≤ 1 → Keeps task name sync r.request q r.back mid owed → count there mid.ledger ≡ 0
      kept q few (inl (p, e, none_left, m, rest, owes)) = spent_none q few m
      kept q few (inr (inl (n, e, is, m, rest, owes))) = spent_none q few m
      kept q few (inr (inr (not, other, rest, none))) =
          let stands : mid.stands r.request ≡ true = ap (λ (s : State). s.stands r.request) rest ∙ rw (request_refl r.request) refl in absurd (cc)

      by : (notify ≡ null_word) × (r.copied ≡ old) × (mid ≡ r.back) × (owed ≡ [])
          ⊎ (notify ≢ null_word) × ((q : ℕ) × CopyRight task (in_request r.request) number notify old (to_port q) r.copied × Keeps task name sync r.request q r.back mid owed) → count there mid.ledger ≡ 0
      by (inl (none, e, f, owes)) =
          let a = ap (λ (s : State). count there s.ledger) e in let b = back_one 0 (omega (arith, a)) in let c = ap (λ (s : State). count there s.ledger) f in omega (arith, b, c)
      by (inr (some, (q, c, k))) =
          let a = c.tokens (λ x. if there x then 1 else 0) in
          let b = put_one c.given c.target (in_request r.request) in
          kept q (back_one 1 (omega (arith, a, b))) k

-- ---- a name's new number

module _ (task o n : ℕ) where
  place_kept : (r : Request) (place : Place) → same_place (in_request r) (renamed_place task o n place) ≡ true →
      (same_place (in_request r) place ≡ true) ⊎ ((same_request r (dead_name task n) ≡ true) × (same_place (in_request (dead_name task o)) place ≡ true))
  place_kept r (in_task u) e = absurd (cc)
  place_kept r (in_message q j) e = absurd (cc)
  place_kept r (in_request x) e = grind (arith, and_from, left_of, right_of, eq-eqb)

  if_both : (k a b c d : Bool) → (a ≡ true → (b ≡ true) ⊎ ((c ≡ true) × (d ≡ true))) →
      (if k && a then suc zero else zero) ≤ (if k && b then suc zero else zero) + (if c && (k && d) then suc zero else zero)
  if_both false a b c d f = omega arith
  if_both true false b c d f = omega arith
  if_both true true true c d f = omega arith
  if_both true true false true true f = omega arith
  if_both true true false false d f = grind arith
  if_both true true false true false f = grind arith

  module _ (old mid : State) (l : IsLawful old) (unused : lookup old task n ≡ None) (x : Renames task o n old mid) where
    number : (a b : ℕ) → (a == b) ≡ true → a ≡ b
    number a b e = elim (eqb_tells a b) [
      | inl h ↦ h.1
      | inr h ↦ absurd (let f = h.0 in cc)
    ]

    other_number : o ≡ n → ⊥
    other_number e = let f : lookup old task n ≡ Some x.target = subst (λ (k : ℕ). lookup old task k ≡ Some x.target) e x.found in cc

    -- the request on the new number stands where the one on the old did
    stands_too : (r : Request) → same_request r (dead_name task n) ≡ true → mid.stands r ≡ old.stands (dead_name task o)
    stands_too (no_senders p) e = absurd (cc)
    stands_too (port_destroyed p) e = absurd (cc)
    stands_too (dead_name t m) e = ap (λ (s : State). s.stands (dead_name t m)) x.rest ∙ by (same_request (dead_name t m) (dead_name task o)) refl
      where
        by : (b : Bool) → same_request (dead_name t m) (dead_name task o) ≡ b → renamed_requests task o n old.stands (dead_name t m) ≡ old.stands (dead_name task o)
        by true f = absurd (other_number (sym (number m o (right_of (t == task) (m == o) f)) ∙ number m n (right_of (t == task) (m == n) e)))
        by false f = rw (f, e) refl

    renamed_kept : (q : ℕ) (r : Request) → mid.stands r ≡ false → 0 < lying mid send_once q (in_request r) → 0 < lying old send_once q (in_request r)
    renamed_kept q r ended some =
        let a = x.tokens (λ y. if is_at send_once q (in_request r) y then 1 else 0) in
        let b = weigh_two (λ y. if is_of send_once q y && same_place (in_request r) (renamed_place task o n y.place) then 1 else 0) (λ y. if is_at send_once q (in_request r) y then 1 else 0)
        (λ y. if same_request r (dead_name task n) && is_at send_once q (in_request (dead_name task o)) y then 1 else 0)
        (λ y. if_both (is_of send_once q y) (same_place (in_request r) (renamed_place task o n y.place)) (same_place (in_request r) y.place) (same_request r (dead_name task n))
        (same_place (in_request (dead_name task o)) y.place) (place_kept r y.place)) old.ledger in
        let z = none (same_request r (dead_name task n)) refl in
        omega (arith, a, b, z, some)
      where
        nothing : (ys : List Token) → count (λ y. false && is_at send_once q (in_request (dead_name task o)) y) ys ≡ 0
        nothing [] = refl
        nothing (y ∷ ys) = let h = nothing ys in omega (arith, h)

        none : (b : Bool) → same_request r (dead_name task n) ≡ b → count (λ y. same_request r (dead_name task n) && is_at send_once q (in_request (dead_name task o)) y) old.ledger ≡ 0
        none false e = ap (λ (c : Bool). count (λ y. c && is_at send_once q (in_request (dead_name task o)) y) old.ledger) e ∙ nothing old.ledger
        none true e =
            let z = l.ended (dead_name task o) (sym (stands_too r e) ∙ ended) send_once q in
            ap (λ (c : Bool). count (λ y. c && is_at send_once q (in_request (dead_name task o)) y) old.ledger) e ∙ z

    same_senders : (p : ℕ) → senders mid p ≡ senders old p
    same_senders p = let a = x.tokens (λ y. if is_of send p y then 1 else 0) in omega (arith, a)

-- ---- each event

no_send_once : (p : ℕ) → NoOnce (is_of send p)
no_send_once p q place = refl

module _ (now : ℕ) (old : State) (mid : State) (owed : Owed) (l : IsLawful old) (q : ℕ) (r : Request) where
  abbrev Kept : Type 0
  Kept = (0 < lying old send_once q (in_request r)) ⊎ IsNew old mid r

  task_off : (task : ℕ) → Off (is_at send_once q (in_request r)) (in_task task)
  task_off task kind p = and_false _

  message_off : (o k : ℕ) → Off (is_at send_once q (in_request r)) (in_message o k)
  message_off o k kind p = and_false _

  more : (a b : ℕ) → b ≤ a → 0 < b → 0 < a
  more a b le some = omega (arith, le, some)

  same_one : (s : Request) → in_request s ≡ in_request r → s ≡ r
  same_one s e = cc

  asked : (task name variant sync notify number previous : ℕ) → NoneHolds (guards old (Event.RequestNotification task name variant sync notify number)) →
      (x : Requests task name variant sync notify number previous old mid owed) → 0 < lying mid send_once q (in_request r) → Kept
  asked task name variant sync notify number previous good x some = by (same_place (in_request r) (in_request x.request)) refl
    where
      new : (b : Bool) → mid.stands r ≡ b → x.request ≡ r → Kept
      new true stands e = inr (record {
        stands = stands;
        none = unasked now old mid owed l task name variant sync notify number previous good x;
        senders = λ p. (requests_same (is_of send p) (no_send_once p) task name variant sync notify number previous old mid owed (λ given. one_of number (λ h. good.1.0 (inr (inl (given, h.0, h.1))))) x).same;
      })
      new false ended e =
          let none = ended_none task name variant sync notify number previous old mid owed l x (ap mid.stands e ∙ ended) in
          let le = count_le (is_at send_once q (in_request r)) (λ y. same_place (in_request x.request) y.place) (λ y is. subst (λ (s : Request). same_place (in_request s) y.place ≡ true) (sym e) (right_of _ _ is)) mid.ledger in
          absurd (omega (arith, none, le, some))

      by : (b : Bool) → same_place (in_request r) (in_request x.request) ≡ b → Kept
      by true is = new (mid.stands r) refl (same_one x.request (place_is (in_request r) (in_request x.request) is))
      by false is =
          inl (more _ _ (asks_fewer (is_at send_once q (in_request r)) task name variant sync notify number previous old mid owed x (task_off task) (λ kind p. rw is (and_false _))) some)

  renamed : (task o n : ℕ) (reply : Reply) → NoneHolds (guards old (Event.Rename task o n)) → Does now old (Event.Rename task o n) reply mid owed → Renames task o n old mid →
      0 < lying mid send_once q (in_request r) → Kept
  renamed task o n reply good d x some = by (mid.stands r) refl
    where
      by : (b : Bool) → mid.stands r ≡ b → Kept
      by true stands = inr (record {
        stands = stands;
        none = Does-receives now old (Event.Rename task o n) reply mid owed tt good d l;
        senders = same_senders task o n old mid l (is_none (lookup old task n) good.1.1.1.0) x;
      })
      by false ended = inl (renamed_kept task o n old mid l (is_none (lookup old task n) good.1.1.1.0) x q r ended some)

  -- Each event.
  pub kept_before : (event : Event) (reply : Reply) → NoneHolds (guards old event) → Does now old event reply mid owed → 0 < lying mid send_once q (in_request r) → Kept
  kept_before (Event.RequestNotification task name variant sync notify number) (Reply.Previous previous) good d some = asked task name variant sync notify number previous good d some
  kept_before (Event.Rename task o n) (Reply.Code code) good d some = renamed task o n (Reply.Code code) good d d.1 some
  kept_before (Event.RequestNotification task name variant sync notify number) reply good d some = absurd d
  kept_before (Event.Rename task o n) reply good d some = absurd d
  kept_before event reply good d some =
      inl (more _ _ (does_fewer (is_at send_once q (in_request r)) task_off message_off now old event reply mid owed (λ t a v s b c e. cc) (λ t a b e. cc) d) some)
