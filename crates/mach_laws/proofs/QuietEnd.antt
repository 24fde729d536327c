-- A step's end that has nothing to do leaves each port and each set as the step's own part left it.
use Rattle.std.proofs.Common.{◌≡◌, ℕ, ◌+◌, ◌<◌, ◌≤◌, ◌⊎◌, List, [], ◌∷◌, ◌++◌, Some, None, refl, sym, ap, ◌∙◌, arith, true, false, Bool, inl, inr, length, All}
use Rattle.std.specs.Prelude.{◌≢◌, if◌then◌else◌, ◌==◌, map as list_map, filter}
use Rattle.std.proofs.lemmas.List.{append-nil}
use Rattle.std.proofs.lemmas.List.Elements.{All-head}
use Rattle.std.proofs.lemmas.Bool.{true_from_ne_false, ne_eqb}
use Rattle.mach_types.specs.Tokens.{Kind, send_once, token, Request, Place, in_task, in_message, in_request, Token, count}
use Rattle.mach_types.specs.Messages.{Entry}
use Rattle.mach_model.specs.State.{State}
use Rattle.mach_model.specs.Carried.{lying}
use Rattle.mach_model.specs.Midway.{MidLawful}
use Rattle.mach_model.specs.Notices.{Notice, carried_by, Owed, Posted, all_posted_tokens}
use Rattle.mach_model.specs.Settles.{PlaceStays, PaysFor, GoesFrom, due_notices, tokens_of, Settles}
use Rattle.mach_model.proofs.Names.{lying_le_of}
use Rattle.mach_model.proofs.Settling.{own_test}
use Rattle.mach_laws.proofs.Touching.{Keeps, Changes, IsOfReceives}

none_mapped : {A B : Type 0} (f : A → B) (xs : List A) → list_map f xs ≡ [] → xs ≡ []
none_mapped f [] e = refl
none_mapped f (x ∷ xs) e = absurd (cc)

none_long : {A : Type 0} (xs : List A) → length xs ≡ 0 → xs ≡ []
none_long [] e = refl
none_long (x ∷ xs) e = absurd (omega arith)

-- The same ports live, with the same sets, and the same requests stand. No right lies with a request that doesn't stand.
pub record IsQuietEnd (mid new : State) : Type 0 where
  pub live : (p : ℕ) → new.live_port p ≡ mid.live_port p
  pub sets : (p : ℕ) → new.sets_of p ≡ mid.sets_of p
  pub stands : (r : Request) → new.stands r ≡ mid.stands r
  pub kept : (r : Request) → mid.stands r ≡ false → (kind : Kind) (q : ℕ) → lying mid kind q (in_request r) ≡ 0

module _ (now : ℕ) (old mid new : State) (owed : Owed) (l : MidLawful mid owed) (quiet : IsQuietEnd mid new) (s : Settles now old mid owed new) where
  stays : (kind : Kind) (q : ℕ) (place : Place) → 0 < lying mid kind q place → PlaceStays new place
  stays kind q (in_task t) some = tt
  stays kind q (in_message p k) some = quiet.live p ∙ true_from_ne_false (mid.live_port p) (λ e. let z = l.gone p k (inr e) kind q in omega (arith, some, z))
  stays kind q (in_request r) some = quiet.stands r ∙ true_from_ne_false (mid.stands r) (λ e. let z = quiet.kept r e kind q in omega (arith, some, z))

  head_lies : (x : Token) (xs : List Token) → ((test : Token → Bool) → count test (x ∷ xs) ≤ count test mid.ledger) → 0 < lying mid x.kind x.port x.place
  head_lies x xs le = grind (arith, own_test)

  none_pays : (xs : List (Token × Notice)) → All (λ x. PaysFor mid new x.0 x.1) xs → ((test : Token → Bool) → count test (tokens_of xs) ≤ count test mid.ledger) → xs ≡ []
  none_pays [] all le = refl
  none_pays (x ∷ xs) all le = absurd ((All-head (λ (y : Token × Notice). PaysFor mid new y.0 y.1) x xs all).2 (stays x.0.kind x.0.port x.0.place (head_lies x.0 (tokens_of xs) le)))

  none_goes : (xs : List Token) → All (GoesFrom new) xs → ((test : Token → Bool) → count test xs ≤ count test mid.ledger) → xs ≡ []
  none_goes [] all le = refl
  none_goes (x ∷ xs) all le = absurd (left (All-head (GoesFrom new) x xs all))
    where
      some : 0 < lying mid x.kind x.port x.place
      some = head_lies x xs le

      left : GoesFrom new x → ⊥
      left (inl dead) =
          let gone : mid.live_port x.port ≡ false = sym (quiet.live x.port) ∙ dead in
          let z = l.no_rights x.port gone x.kind in
          let more = lying_le_of mid x.kind x.port x.place in
          omega (arith, some, z, more)
      left (inr h) = h.1 (stays x.kind x.port x.place some)

  none_paying : s.rights.paying ≡ []
  none_paying = none_pays s.rights.paying s.rights.pay (λ test. let e = s.rights.parts (λ x. if test x then 1 else 0) in omega (arith, e))

  none_going : s.rights.going ≡ []
  none_going = none_goes s.rights.going s.rights.go (λ test. let e = s.rights.parts (λ x. if test x then 1 else 0) in omega (arith, e))

  -- notices of what was owed are posted, and no others
  posted_owed : list_map (λ (x : Posted). (x.port, x.notice)) s.notices.posted ≡ due_notices (filter (λ (x : Token × Notice). new.live_port x.0.port) owed)
  posted_owed = s.notices.due ∙ ap (λ (xs : Owed). due_notices (xs ++ filter (λ (x : Token × Notice). new.live_port x.0.port) owed)) none_paying

  -- a port to which none was posted has the log that it had
  log_stays : (p : ℕ) → length (filter (λ (x : Posted). x.port == p) s.notices.posted) ≡ 0 → new.log p ≡ mid.log p
  log_stays p none =
      let h = s.notices.logs p in
      let e : h.0 ≡ [] = none_long h.0 (h.2 ∙ none) in
      h.1 ∙ ap (λ (xs : List Entry). mid.log p ++ xs) e ∙ append-nil (mid.log p)

  -- the rights are those that were there, and those that the notices brought
  rights_stay : (test : Token → Bool) → count test new.ledger ≡ count test mid.ledger + count test (all_posted_tokens s.notices.posted)
  rights_stay test =
      let parts = s.rights.parts (λ x. if test x then 1 else 0) in
      let kept = s.notices.ledger (λ x. if test x then 1 else 0) in
      let a = ap (λ (xs : List (Token × Notice)). count test (tokens_of xs)) none_paying in
      let b = ap (count test) none_going in
      omega (arith, parts, kept, a, b)

-- What was owed nothing: all stays.
module _ (now : ℕ) (old mid new : State) (l : MidLawful mid []) (quiet : IsQuietEnd mid new) (s : Settles now old mid [] new) where
  none_posted : s.notices.posted ≡ []
  none_posted = none_mapped (λ (x : Posted). (x.port, x.notice)) s.notices.posted (posted_owed now old mid new [] l quiet s)

  pub ends_quietly : Keeps mid new
  ends_quietly = record {
    live = quiet.live;
    log = λ p. log_stays now old mid new [] l quiet s p (ap (λ (xs : List Posted). length (filter (λ (x : Posted). x.port == p) xs)) none_posted);
    taken = λ p. ap (λ (x : State). x.taken p) s.rest;
    limit = λ p. ap (λ (x : State). x.limit p) s.rest;
    sets = quiet.sets;
    owner = λ set. ap (λ (x : State). x.set_owner set) s.rest;
    receives = λ test is. let a = rights_stay now old mid new [] l quiet s test in let b = ap (λ (xs : List Posted). count test (all_posted_tokens xs)) none_posted in omega (arith, a, b);
  }

-- One notice was owed, which brings no right: the queue of its port alone changes.
module _ (now : ℕ) (old mid new : State) (p : ℕ) (place : Place) (notice : Notice) (bare : (at : Place) → carried_by notice at ≡ []) (l : MidLawful mid ((token send_once p place, notice) ∷ [])) (quiet : IsQuietEnd mid new) (s : Settles now old mid ((token send_once p place, notice) ∷ []) new) where
  abbrev told : Owed
  told = (token send_once p place, notice) ∷ []

  abbrev due : List (ℕ × Notice) → Type 0
  due xs = (xs ≡ []) ⊎ (xs ≡ (p, notice) ∷ [])

  is_due : due (due_notices (filter (λ (x : Token × Notice). new.live_port x.0.port) told))
  is_due = go (new.live_port p) refl
    where
      go : (b : Bool) → new.live_port p ≡ b → due (due_notices (filter (λ (x : Token × Notice). new.live_port x.0.port) told))
      go true e = rw e (inr refl)
      go false e = rw e (inl refl)

  abbrev One : List Posted → Type 0
  One posted = (x : Posted) × (posted ≡ x ∷ []) × (x.port ≡ p) × (x.notice ≡ notice)

  at_most_one : (posted : List Posted) (xs : List (ℕ × Notice)) → list_map (λ (x : Posted). (x.port, x.notice)) posted ≡ xs → due xs → (posted ≡ []) ⊎ One posted
  at_most_one [] xs e d = inl refl
  at_most_one (x ∷ []) xs e (inl none) = absurd (let f = e ∙ none in cc)
  at_most_one (x ∷ []) xs e (inr one) = inr (let f = e ∙ one in (x, refl, ap (λ (ys : List (ℕ × Notice)). port_of ys) f, ap (λ (ys : List (ℕ × Notice)). notice_of ys) f))
    where
      port_of : List (ℕ × Notice) → ℕ
      port_of [] = 0
      port_of (y ∷ ys) = y.0

      notice_of : List (ℕ × Notice) → Notice
      notice_of [] = notice
      notice_of (y ∷ ys) = y.1
  at_most_one (x ∷ y ∷ ys) xs e (inl none) = absurd (let f = e ∙ none in cc)
  at_most_one (x ∷ y ∷ ys) xs e (inr one) = absurd (let f = e ∙ one in cc)

  was_posted : (s.notices.posted ≡ []) ⊎ One s.notices.posted
  was_posted = at_most_one s.notices.posted _ (posted_owed now old mid new told l quiet s) is_due

  none_elsewhere : (q : ℕ) → q ≢ p → length (filter (λ (x : Posted). x.port == q) s.notices.posted) ≡ 0
  none_elsewhere q other = elim was_posted [
    | inl none ↦ rw none refl
    | inr (x, one, port, which) ↦ let e : (x.port == q) ≡ false = ne_eqb x.port q (λ f. other (sym f ∙ port)) in rw (one, e) refl
  ]

  no_receive : (test : Token → Bool) → IsOfReceives test → count test (all_posted_tokens s.notices.posted) ≡ 0
  no_receive test is = elim was_posted [
    | inl none ↦ rw none refl
    | inr (x, one, port, which) ↦
        let e = is.kind (token send_once x.port (in_message x.port x.entry)) refl in
        let none = ap (λ (n : Notice). carried_by n (in_message x.port x.entry)) which ∙ bare (in_message x.port x.entry) in
        rw (one, none, e) refl
  ]

  pub ends_telling : Changes mid new (Some p) None
  ends_telling = record {
    live = quiet.live;
    waiting = λ q not.
        let a = log_stays now old mid new told l quiet s q (none_elsewhere q (λ e. not (ap Some (sym e)))) in
        let b : new.taken q ≡ mid.taken q = ap (λ (x : State). x.taken q) s.rest in
        rw (a, b) refl;
    limit = λ q not. ap (λ (x : State). x.limit q) s.rest;
    sets = quiet.sets;
    owner = λ set there. ap (λ (x : State). x.set_owner set) s.rest;
    receives = λ test is. let a = rights_stay now old mid new told l quiet s test in let b = no_receive test is in omega (arith, a, b);
  }
