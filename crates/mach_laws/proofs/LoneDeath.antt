-- A step whose own part took one port's receive right: where nothing is queued at the port and no request is on it or on a name of it, it dies, and
-- nothing else changes for those that wait.
use Rattle.std.proofs.Common.{◌≡◌, ℕ, ◌<◌, ◌≤◌, ◌⊎◌, List, [], ◌∷◌, ◌++◌, Option, Some, None, refl, sym, ap, subst, ◌∙◌, arith, true, false, Bool, inl, inr, length, All, drop}
use Rattle.std.specs.Prelude.{◌≢◌, if◌then◌else◌, ◌==◌, ◌&&◌, ◌||◌, nat_lt, map as list_map, filter}
use Rattle.std.proofs.lemmas.List.{append-nil, length-drop}
use Rattle.std.proofs.lemmas.List.Elements.{All-head, All-tail, All-cons, All-nil}
use Rattle.std.proofs.lemmas.Bool.{true_from_ne_false, false_from_ne_true, ne_eqb}
use Rattle.std.proofs.lemmas.Bool.Decides.{eqb_tells}
use Rattle.mach_types.specs.Tokens.{Kind, receive, send, send_once, Request, no_senders, port_destroyed, dead_name, Place, in_task, in_message, in_request, Token, token, count, Moves, is_of, same_kind, is_in_task}
use Rattle.mach_types.specs.Messages.{Entry}
use Rattle.mach_model.specs.State.{State, Target, lookup, held, queue, senders, without_name}
use Rattle.mach_model.specs.CopyIn.{name_kept}
use Rattle.mach_model.specs.References.{LosesAll, is_either, LosesReceive}
use Rattle.mach_model.specs.Carried.{lying}
use Rattle.mach_model.specs.Death.{Dies, IsOrphan, IsSentAway, CarriedAt}
use Rattle.mach_model.specs.Lawful.{IsLawful, is_once}
use Rattle.mach_model.specs.Midway.{MidLawful}
use Rattle.mach_model.specs.Notices.{Notice, Owed, Posted, all_posted_tokens}
use Rattle.mach_model.specs.Settles.{PlaceStays, PaysFor, GoesFrom, tokens_of, Ends, BecameDead, Settles}
use Rattle.mach_model.specs.Turns.{IsNameOf, IsRequestOf}
use Rattle.mach_model.proofs.Names.{lying_le_of, held_le_of, some_tally, weigh-append, left_of}
use Rattle.mach_model.proofs.Settling.{Dies-least, own_test, kept_set}
use Rattle.mach_laws.proofs.Touching.{IsOfReceives}
use Rattle.mach_laws.proofs.Moving.{KeepsOthers}

none_mapped : {A B : Type 0} (f : A → B) (xs : List A) → list_map f xs ≡ [] → xs ≡ []
none_mapped f [] e = refl
none_mapped f (x ∷ xs) e = absurd (cc)

none_long : {A : Type 0} (xs : List A) → length xs ≡ 0 → xs ≡ []
none_long [] e = refl
none_long (x ∷ xs) e = absurd (omega arith)

-- ---- what the step's own part took

abbrev pub IsFor : ℕ → Token → Type 0
IsFor p x = x.port ≡ p

-- Rights for the port went, and no others.
pub record LosesOf (p : ℕ) (old mid : State) : Type 0 where
  pub gone : List Token
  pub moves : Moves old.ledger mid.ledger gone []
  pub all : All (IsFor p) gone
  pub live : (q : ℕ) → mid.live_port q ≡ old.live_port q

-- All but names, requests on them and rights is as it was.
record Same (s t : State) : Type 0 where
  live : (q : ℕ) → t.live_port q ≡ s.live_port q
  log : (q : ℕ) → t.log q ≡ s.log q
  taken : (q : ℕ) → t.taken q ≡ s.taken q
  limit : (q : ℕ) → t.limit q ≡ s.limit q
  sets : (q : ℕ) → t.sets_of q ≡ s.sets_of q
  owner : (set : ℕ) → t.set_owner set ≡ s.set_owner set

same_by : (b : Bool) (task name : ℕ) (old mid : State) → mid ≡ record (name_kept b task name old) { ledger = mid.ledger } → Same old mid
same_by true task name old mid e = record {
  live = λ q. ap (λ (x : State). x.live_port q) e;
  log = λ q. ap (λ (x : State). x.log q) e;
  taken = λ q. ap (λ (x : State). x.taken q) e;
  limit = λ q. ap (λ (x : State). x.limit q) e;
  sets = λ q. ap (λ (x : State). x.sets_of q) e;
  owner = λ set. ap (λ (x : State). x.set_owner set) e;
}
same_by false task name old mid e = record {
  live = λ q. ap (λ (x : State). x.live_port q) e;
  log = λ q. ap (λ (x : State). x.log q) e;
  taken = λ q. ap (λ (x : State). x.taken q) e;
  limit = λ q. ap (λ (x : State). x.limit q) e;
  sets = λ q. ap (λ (x : State). x.sets_of q) e;
  owner = λ set. ap (λ (x : State). x.set_owner set) e;
}

-- no test of where another port's receive right lies passes among them
none_passes : (p : ℕ) (test : Token → Bool) → IsOfReceives test → ((place : Place) → test (token receive p place) ≡ false) → (xs : List Token) → All (IsFor p) xs → count test xs ≡ 0
none_passes p test is none [] all = refl
none_passes p test is none (x ∷ xs) all =
    let e : test x ≡ false = passes x.kind x.port x.place (All-head (IsFor p) x xs all) in
    let rest = none_passes p test is none xs (All-tail (IsFor p) x xs all) in
    rw e (omega (arith, rest))
  where
    passes : (kind : Kind) (q : ℕ) (place : Place) → q ≡ p → test (token kind q place) ≡ false
    passes receive q place e = ap (λ (o : ℕ). test (token receive o place)) e ∙ none place
    passes send q place e = is.kind (token send q place) refl
    passes send_once q place e = is.kind (token send_once q place) refl

-- Rights for the port went from under a name, or none, and nothing else changed but names and requests on them.
pub record LosesRight (p : ℕ) (old mid : State) : Type 0 where
  pub rights : LosesOf p old mid
  pub others : KeepsOthers p old mid
  pub sets : mid.sets_of p ≡ old.sets_of p

loses_by : (b : Bool) (task name p : ℕ) (old mid : State) → mid ≡ record (name_kept b task name old) { ledger = mid.ledger } → (gone : List Token) → Moves old.ledger mid.ledger gone [] → All (IsFor p) gone → LosesRight p old mid
loses_by b task name p old mid e gone moves all = record {
  rights = record { gone = gone; moves = moves; all = all; live = k.live };
  others = record {
    live = λ q not. k.live q;
    log = k.log;
    taken = k.taken;
    limit = k.limit;
    sets = λ q not. k.sets q;
    owner = k.owner;
    receives = λ test is none.
        let m = moves (λ x. if test x then 1 else 0) in
        let n = none_passes p test is none gone all in
        omega (arith, m, n);
  };
  sets = k.sets p;
}
  where
    k : Same old mid
    k = same_by b task name old mid e

-- ---- what is lost by a call

either_port : (task p : ℕ) (x : Token) → is_either task p x ≡ true → x.port ≡ p
either_port task p x is = go x.kind x.port (is_in_task task x.place) is
  where
    go : (k : Kind) (q : ℕ) (b : Bool) → (((same_kind receive k && q == p) && b) || ((same_kind send k && q == p) && b)) ≡ true → q ≡ p
    go receive q b e = grind arith
    go send q b e = grind arith
    go send_once q b e = absurd (cc)

pub none_lost : (p : ℕ) (old mid : State) → mid ≡ old → LosesRight p old mid
none_lost p old mid e = subst (LosesRight p old) (sym e) (record {
  rights = record { gone = []; moves = λ h. refl; all = All-nil (IsFor p); live = λ q. refl };
  others = record { live = λ q not. refl; log = λ q. refl; taken = λ q. refl; limit = λ q. refl; sets = λ q not. refl; owner = λ set. refl; receives = λ test is none. refl };
  sets = refl;
})

pub all_lose : (task name p : ℕ) (old mid : State) → LosesAll (is_either task p) old.ledger mid.ledger → mid ≡ record (without_name task name old) { ledger = mid.ledger } → LosesRight p old mid
all_lose task name p old mid l e = loses_by false task name p old mid e l.gone l.moves (fors l.gone l.passed)
  where
    fors : (xs : List Token) → All (λ x. is_either task p x ≡ true) xs → All (IsFor p) xs
    fors [] all = All-nil (IsFor p)
    fors (x ∷ xs) all =
        All-cons (IsFor p) x xs (either_port task p x (All-head (λ (y : Token). is_either task p y ≡ true) x xs all)) (fors xs (All-tail (λ (y : Token). is_either task p y ≡ true) x xs all))

pub receive_lost : (task name p : ℕ) (old mid : State) → LosesReceive task name p old mid → LosesRight p old mid
receive_lost task name p old mid l =
    loses_by (nat_lt 0 (held old task send p)) task name p old mid l.1 (token receive p (in_task task) ∷ []) l.0 (All-cons (IsFor p) (token receive p (in_task task)) [] refl (All-nil (IsFor p)))

none_of : (kind : Kind) (p q : ℕ) (xs : List Token) → q ≢ p → All (IsFor p) xs → count (is_of kind q) xs ≡ 0
none_of kind p q [] not all = refl
none_of kind p q (x ∷ xs) not all =
    let own : x.port ≡ p = All-head (IsFor p) x xs all in
    let differs : (x.port == q) ≡ false = ne_eqb x.port q (λ e. not (sym e ∙ own)) in
    let e : is_of kind q x ≡ false = false_and (same_kind kind x.kind) (x.port == q) differs in
    let rest = none_of kind p q xs not (All-tail (IsFor p) x xs all) in
    rw e (omega (arith, rest))
  where
    false_and : (a b : Bool) → b ≡ false → (a && b) ≡ false
    false_and true b e = e
    false_and false b e = refl

module _ (p : ℕ) (old mid : State) (l : LosesOf p old mid) where
  same_count : (kind : Kind) (q : ℕ) → q ≢ p → count (is_of kind q) mid.ledger ≡ count (is_of kind q) old.ledger
  same_count kind q not =
      let m = l.moves (λ x. if is_of kind q x then 1 else 0) in
      let n = none_of kind p q l.gone not l.all in
      omega (arith, m, n)

  -- no other port has lost its receive right
  pub one_orphan : IsLawful old → (q : ℕ) → IsOrphan mid q → q ≡ p
  one_orphan lawful q (lives, none) = elim (eqb_tells q p) [
    | inl e ↦ e.1
    | inr e ↦
        absurd (let a = lawful.one_receive q (sym (l.live q) ∙ lives) in let b = same_count receive q e.1 in omega (arith, a, b, none))
  ]

  pub same_sent : (q : ℕ) → q ≢ p → senders mid q ≡ senders old q
  same_sent q not = same_count send q not

-- ---- the step's end

-- Nothing is queued at the only port that lost its receive right, and no request is on it or on a name of it. No other port lost its last sender, and
-- no right lies with a request that doesn't stand.
pub record IsLone (p : ℕ) (old mid : State) : Type 0 where
  pub orphans : (q : ℕ) → IsOrphan mid q → q ≡ p
  pub unqueued : mid.live_port p ≡ true → queue mid p ≡ []
  pub unasked : (r : Request) → mid.stands r ≡ true → IsRequestOf mid p r → ⊥
  pub kept : (r : Request) → mid.stands r ≡ false → (kind : Kind) (q : ℕ) → lying mid kind q (in_request r) ≡ 0
  pub sent : (q : ℕ) → q ≢ p → senders mid q ≡ senders old q

none_dropped : {A : Type 0} (n : ℕ) (xs : List A) → drop n xs ≡ [] → length xs ≤ n
none_dropped n xs e = let a = length-drop n xs in let b = ap length e in omega (arith, a, b)

module _ (now : ℕ) (p : ℕ) (old mid new : State) (l : MidLawful mid []) (lone : IsLone p old mid) (s : Settles now old mid [] new) where
  none_there : (kind : Kind) (q k : ℕ) → lying mid kind q (in_message p k) ≡ 0
  none_there kind q k = go (mid.live_port p) refl
    where
      within : (a b : ℕ) → (a < b) ⊎ (b ≤ a)
      within a b = grind arith

      go : (b : Bool) → mid.live_port p ≡ b → lying mid kind q (in_message p k) ≡ 0
      go false dead = l.gone p k (inr dead) kind q
      go true lives = elim (within k (mid.taken p)) [
        | inl below ↦ l.gone p k (inl below) kind q
        | inr above ↦ l.no_entry p k (let a = none_dropped (mid.taken p) (mid.log p) (lone.unqueued lives) in omega (arith, a, above)) kind q
      ]

  only_dies : (q : ℕ) → Dies mid q → q ≡ p
  only_dies q d = Dies-least mid (λ r. r ≡ p) (record { orphans = λ r is not. lone.orphans r is; carried = λ r o is at not. absurd (none_carried r o is at) }) q d
    where
      none_carried : (r o : ℕ) → o ≡ p → CarriedAt mid r o → ⊥
      none_carried r o is at = let at_own = subst (CarriedAt mid r) is at in let z = none_there receive r at_own.0 in omega (arith, z, at_own.1)

  pub live_other : (q : ℕ) → q ≢ p → new.live_port q ≡ mid.live_port q
  live_other q not = go (mid.live_port q) (new.live_port q) refl refl
    where
      go : (a b : Bool) → mid.live_port q ≡ a → new.live_port q ≡ b → new.live_port q ≡ mid.live_port q
      go true true e f = f ∙ sym e
      go false false e f = f ∙ sym e
      go true false e f = absurd (not (only_dies q (s.deaths.only q e f)))
      go false true e f = absurd (let g = s.deaths.gone_before q e in let h : true ≡ false = sym f ∙ g in cc)

  none_sent : (q : ℕ) → IsSentAway mid q → ⊥
  none_sent q (saved, inl orphan) = lone.unasked (port_destroyed q) saved.stands (lone.orphans q orphan)
  none_sent q (saved, inr (r, dies, at)) = let at_own = subst (CarriedAt mid q) (only_dies r dies) at in let z = none_there receive q at_own.0 in omega (arith, z, at_own.1)

  -- ---- what a place keeps

  named_lives : (task name q : ℕ) → lookup mid task name ≡ Some (Target.port q) → mid.live_port q ≡ true
  named_lives task name q is = true_from_ne_false (mid.live_port q) (λ dead.
      let a = (l.naming task).has_right name q is in
      let b = l.no_rights q dead receive in
      let c = l.no_rights q dead send in
      let d = held_le_of task receive q mid.ledger in
      let e = held_le_of task send q mid.ledger in
      omega (arith, a, b, c, d, e))

  once_lives : (task name q : ℕ) → lookup mid task name ≡ Some (Target.once q) → mid.live_port q ≡ true
  once_lives task name q is = true_from_ne_false (mid.live_port q) (λ dead.
      let a = (l.naming task).once_names q in
      let b = l.no_rights q dead send_once in
      let c = held_le_of task send_once q mid.ledger in
      let d = some_tally (is_once q) (mid.naming task) name (Target.once q) is (is_own q) in
      omega (arith, a, b, c, d))
    where
      is_own : (q : ℕ) → is_once q (Target.once q) ≡ true
      is_own q = grind arith

  -- a port that lived and doesn't is this one
  died : (q : ℕ) → mid.live_port q ≡ true → new.live_port q ≡ false → q ≡ p
  died q lived dead = only_dies q (s.deaths.only q lived dead)

  message_stays : (kind : Kind) (q o k : ℕ) → 0 < lying mid kind q (in_message o k) → new.live_port o ≡ true
  message_stays kind q o k some = elim (eqb_tells o p) [
    | inl e ↦ absurd (let z = none_there kind q k in let some_own = subst (λ (x : ℕ). 0 < lying mid kind q (in_message x k)) e.1 some in omega (arith, z, some_own))
    | inr e ↦ live_other o e.1 ∙ true_from_ne_false (mid.live_port o) (λ dead. let z = l.gone o k (inr dead) kind q in omega (arith, some, z))
  ]

  sends_stay : (q : ℕ) (place : Place) → 0 < lying mid send q place → PlaceStays new place
  sends_stay q (in_task t) some = tt
  sends_stay q (in_message o k) some = message_stays send q o k some
  sends_stay q (in_request r) some = absurd (let z = l.once_kept r send q (λ e. cc) in omega (arith, some, z))

  -- ---- send rights for other ports

  head_lies : (x : Token) (xs : List Token) → ((test : Token → Bool) → count test (x ∷ xs) ≤ count test mid.ledger) → 0 < lying mid x.kind x.port x.place
  head_lies x xs le = grind (arith, own_test)

  lives : (kind : Kind) (q : ℕ) (place : Place) → 0 < lying mid kind q place → mid.live_port q ≡ true
  lives kind q place some = true_from_ne_false (mid.live_port q) (λ dead. let z = l.no_rights q dead kind in let more = lying_le_of mid kind q place in omega (arith, some, z, more))

  no_send_goes : (q : ℕ) → q ≢ p → (xs : List Token) → All (GoesFrom new) xs → ((test : Token → Bool) → count test xs ≤ count test mid.ledger) → count (is_of send q) xs ≡ 0
  no_send_goes q not [] all le = refl
  no_send_goes q not (x ∷ xs) all le =
      let e = false_from_ne_true (is_of send q x) (λ is. goes is (head_lies x xs le) (All-head (GoesFrom new) x xs all)) in
      let rest = no_send_goes q not xs (All-tail (GoesFrom new) x xs all) (λ test. let a = le test in omega (arith, a)) in
      rw e (omega (arith, rest))
    where
      send_kind : (k : Kind) → same_kind send k ≡ true → k ≡ send
      send_kind send e = refl
      send_kind receive e = absurd (cc)
      send_kind send_once e = absurd (cc)

      port_is : (k : Kind) (o : ℕ) → (same_kind send k && o == q) ≡ true → o ≡ q
      port_is k o e = grind arith

      goes_not : x.kind ≡ send → x.port ≡ q → 0 < lying mid x.kind x.port x.place → GoesFrom new x → ⊥
      goes_not kind port some (inl dead) =
          let lived : mid.live_port x.port ≡ true = lives x.kind x.port x.place some in
          not (sym port ∙ died x.port lived dead)
      goes_not kind port some (inr h) = h.1 (sends_stay x.port x.place (subst (λ (k : Kind). 0 < lying mid k x.port x.place) kind some))

      goes : is_of send q x ≡ true → 0 < lying mid x.kind x.port x.place → GoesFrom new x → ⊥
      goes is some gone =
          let kind : x.kind ≡ send = send_kind x.kind (left_of (same_kind send x.kind) (x.port == q) is) in
          let port : x.port ≡ q = port_is x.kind x.port is in
          goes_not kind port some gone

  no_send_pays : (q : ℕ) (xs : Owed) → All (λ x. PaysFor mid new x.0 x.1) xs → count (is_of send q) (tokens_of xs) ≡ 0
  no_send_pays q [] all = refl
  no_send_pays q (x ∷ xs) all =
      let once = (All-head (λ (y : Token × Notice). PaysFor mid new y.0 y.1) x xs all).0 in
      let e : is_of send q x.0 ≡ false = ap (λ (k : Kind). same_kind send k && x.0.port == q) once in
      let rest = no_send_pays q xs (All-tail (λ (y : Token × Notice). PaysFor mid new y.0 y.1) x xs all) in
      rw e (omega (arith, rest))

  no_send_posted : (q : ℕ) (xs : List Posted) → count (is_of send q) (all_posted_tokens xs) ≡ 0
  no_send_posted q [] = refl
  no_send_posted q (x ∷ xs) = grind (arith, no_send_posted q xs, weigh-append)

  going_le : (test : Token → Bool) → count test s.rights.going ≤ count test mid.ledger
  going_le test = let e = s.rights.parts (λ x. if test x then 1 else 0) in omega (arith, e)

  same_senders : (q : ℕ) → q ≢ p → senders new q ≡ senders mid q
  same_senders q not =
      let parts = s.rights.parts (λ x. if is_of send q x then 1 else 0) in
      let kept = s.notices.ledger (λ x. if is_of send q x then 1 else 0) in
      let a = no_send_goes q not s.rights.going s.rights.go going_le in
      let b = no_send_pays q s.rights.paying s.rights.pay in
      let c = no_send_posted q s.notices.posted in
      omega (arith, parts, kept, a, b, c)

  -- ---- no request ends

  none_ends : (r : Request) → mid.stands r ≡ true → Ends old mid new r → ⊥
  none_ends (no_senders q) is (inl dead) = lone.unasked (no_senders q) is (died q (l.stands_on (no_senders q) is) dead)
  none_ends (no_senders q) is (inr h) = elim (eqb_tells q p) [
    | inl e ↦ lone.unasked (no_senders q) is e.1
    | inr e ↦ (let a = lone.sent q e.1 in let b = same_senders q e.1 in let c = h.0 in let d = h.1 in omega (arith, a, b, c, d))
  ]
  none_ends (port_destroyed q) is (inl dead) = lone.unasked (port_destroyed q) is (died q (l.stands_on (port_destroyed q) is) dead)
  none_ends (port_destroyed q) is (inr sent) = none_sent q sent
  none_ends (dead_name task name) is ends = go (lookup mid task name) refl ends
    where
      go : (o : Option Target) → lookup mid task name ≡ o → BecameDead mid new o → ⊥
      go (Some (Target.port q)) found dead = lone.unasked (dead_name task name) is (subst (IsNameOf p) (sym found) (died q (named_lives task name q found) dead))
      go (Some (Target.once q)) found dead = lone.unasked (dead_name task name) is (subst (IsNameOf p) (sym found) (died q (once_lives task name q found) dead))
      go (Some (Target.dead n)) found dead = dead
      go (Some (Target.set set)) found dead = dead
      go None found dead = dead

  same_stands : (r : Request) → mid.stands r ≡ true → new.stands r ≡ true
  same_stands r is = true_from_ne_false (new.stands r) (λ ended. none_ends r is (s.requests.only r is ended))

  -- ---- so the rights of other ports stay

  stays : (kind : Kind) (q : ℕ) (place : Place) → 0 < lying mid kind q place → PlaceStays new place
  stays kind q (in_task t) some = tt
  stays kind q (in_message o k) some = message_stays kind q o k some
  stays kind q (in_request r) some = same_stands r (true_from_ne_false (mid.stands r) (λ e. let z = lone.kept r e kind q in omega (arith, some, z)))

  none_pays : (xs : List (Token × Notice)) → All (λ x. PaysFor mid new x.0 x.1) xs → ((test : Token → Bool) → count test (tokens_of xs) ≤ count test mid.ledger) → xs ≡ []
  none_pays [] all le = refl
  none_pays (x ∷ xs) all le = absurd ((All-head (λ (y : Token × Notice). PaysFor mid new y.0 y.1) x xs all).2 (stays x.0.kind x.0.port x.0.place (head_lies x.0 (tokens_of xs) le)))

  own_go : (xs : List Token) → All (GoesFrom new) xs → ((test : Token → Bool) → count test xs ≤ count test mid.ledger) → All (IsFor p) xs
  own_go [] all le = All-nil (IsFor p)
  own_go (x ∷ xs) all le =
      All-cons (IsFor p) x xs (goes (All-head (GoesFrom new) x xs all)) (own_go xs (All-tail (GoesFrom new) x xs all) (λ test. let a = le test in omega (arith, a)))
    where
      some : 0 < lying mid x.kind x.port x.place
      some = head_lies x xs le

      goes : GoesFrom new x → x.port ≡ p
      goes (inl dead) = died x.port (lives x.kind x.port x.place some) dead
      goes (inr h) = absurd (h.1 (stays x.kind x.port x.place some))

  none_paying : s.rights.paying ≡ []
  none_paying = none_pays s.rights.paying s.rights.pay (λ test. let e = s.rights.parts (λ x. if test x then 1 else 0) in omega (arith, e))

  none_posted : s.notices.posted ≡ []
  none_posted = none_mapped (λ (x : Posted). (x.port, x.notice)) s.notices.posted (s.notices.due ∙ rw none_paying refl)

  same_log : (q : ℕ) → new.log q ≡ mid.log q
  same_log q =
      let h = s.notices.logs q in
      let e : h.0 ≡ [] = none_long h.0 (h.2 ∙ ap (λ (xs : List Posted). length (filter (λ (x : Posted). x.port == q) xs)) none_posted) in
      h.1 ∙ ap (λ (xs : List Entry). mid.log q ++ xs) e ∙ append-nil (mid.log q)

  same_sets : (q : ℕ) → q ≢ p → new.sets_of q ≡ mid.sets_of q
  same_sets q not =
      let unsent : s.ports.is_sent q ≡ false = false_from_ne_true (s.ports.is_sent q) (λ e. none_sent q (s.ports.sent_only q e)) in
      s.ports.sets_of q ∙ rw (unsent, live_other q not) (sym (kept_set (mid.live_port q) (mid.sets_of q) (l.no_sets q)))

  pub dies_alone : KeepsOthers p mid new
  dies_alone = record {
    live = live_other;
    log = same_log;
    taken = λ q. ap (λ (x : State). x.taken q) s.rest;
    limit = λ q. ap (λ (x : State). x.limit q) s.rest;
    sets = same_sets;
    owner = λ set. ap (λ (x : State). x.set_owner set) s.rest;
    receives = λ test is none.
        let parts = s.rights.parts (λ x. if test x then 1 else 0) in
        let kept = s.notices.ledger (λ x. if test x then 1 else 0) in
        let a = ap (λ (xs : List (Token × Notice)). count test (tokens_of xs)) none_paying in
        let b = none_passes p test is none s.rights.going (own_go s.rights.going s.rights.go going_le) in
        let c = ap (λ (xs : List Posted). count test (all_posted_tokens xs)) none_posted in
        omega (arith, parts, kept, a, b, c);
  }
