-- The end of a step that kills nothing: it may leave the state as it is, and leaves it so but for the order of the tokens.
use Rattle.std.proofs.Common.{◌≡◌, ℕ, ◌+◌, ◌<◌, ◌≤◌, List, [], ◌∷◌, ◌++◌, Option, Some, None, refl, sym, ap, subst, ◌∙◌, arith, true, false, Bool, inl, inr, length, get_or}
use Rattle.std.specs.Prelude.{option_map, if◌then◌else◌, ◌==◌, ◌&&◌, ◌⊎◌, All, map as list_map, filter}
use Rattle.std.proofs.Math.Path.{fun_ext}
use Rattle.std.proofs.lemmas.List.{append-nil}
use Rattle.std.proofs.lemmas.List.Elements.{All-tail}
use Rattle.std.proofs.lemmas.Bool.{eq-eqb, and_from, false_from_ne_true, true_from_ne_false, cases_Bool}
use Rattle.mach_types.specs.Tokens.{Kind, receive, send, send_once, Request, no_senders, port_destroyed, dead_name, Place, in_task, in_message, in_request, Token, count, Moves, is_of, is_held, same_kind}
use Rattle.mach_types.specs.Messages.{Entry}
use Rattle.mach_model.specs.State.{State, Target, lookup, held, senders, same_request}
use Rattle.mach_model.specs.Death.{same_place, Dies, orphan, carried_at, IsOrphan, IsSentAway}
use Rattle.mach_model.specs.Grounded.{IsClosed}
use Rattle.mach_model.specs.Notices.{Notice, Owed, Posted, all_posted_tokens}
use Rattle.mach_model.specs.Settles.{PlaceStays, StaysWith, PaysFor, GoesFrom, settled_target, Ends, tokens_of, Settles}
use Rattle.mach_model.specs.Carried.{lying}
use Rattle.mach_model.specs.Lawful.{IsLawful, LawfulPorts, is_once}
use Rattle.mach_model.specs.Midway.{MidLawful}
use Rattle.mach_model.proofs.Midway.{IsQuiet, IsStill}
use Rattle.mach_model.proofs.Names.{length-weigh, weigh-append, left_of, count_some, lying_le_of, held_le_of, alike, some_tally, same_naming}
use Rattle.mach_model.proofs.Moving.{same_receivers}

-- ---- who dies

pub Dies-least : (mid : State) (S : ℕ → Type 0) → IsClosed mid S → (p : ℕ) → Dies mid p → S p
Dies-least mid S closed r (orphan p is not_saved) = closed.orphans p is not_saved
Dies-least mid S closed r (carried_at p q dies at not_saved) = closed.carried p q (Dies-least mid S closed q dies) at not_saved

pub Dies-closed : (mid : State) → IsClosed mid (Dies mid)
Dies-closed mid = record { orphans = orphan; carried = carried_at }

no_orphan : (mid : State) → IsLawful mid → (p : ℕ) → ¬ (IsOrphan mid p)
no_orphan mid l p o = omega (arith, l.one_receive p o.0, o.1)

pub no_death : (mid : State) → IsLawful mid → (p : ℕ) → ¬ (Dies mid p)
no_death mid l p d = Dies-least mid (λ q. ⊥) (record { orphans = λ q is not. no_orphan mid l q is; carried = λ q r bad at not. bad }) p d

pub never_sent : (mid : State) → IsLawful mid → (p : ℕ) → ¬ (IsSentAway mid p)
never_sent mid l p (saved, inl is) = no_orphan mid l p is
never_sent mid l p (saved, inr d) = no_death mid l d.0 d.1

-- ---- where the tokens of a lawful state are

pub kind_refl : (kind : Kind) → same_kind kind kind ≡ true
kind_refl receive = refl
kind_refl send = refl
kind_refl send_once = refl

pub request_refl : (r : Request) → same_request r r ≡ true
request_refl (no_senders p) = eq-eqb p p refl
request_refl (port_destroyed p) = eq-eqb p p refl
request_refl (dead_name t n) = and_from _ _ (eq-eqb t t refl) (eq-eqb n n refl)

pub place_refl : (place : Place) → same_place place place ≡ true
place_refl (in_task t) = eq-eqb t t refl
place_refl (in_message p k) = and_from _ _ (eq-eqb p p refl) (eq-eqb k k refl)
place_refl (in_request r) = request_refl r

-- the test of one kind, port and place
abbrev pub is_at : Kind → ℕ → Place → Token → Bool
is_at kind q place x = is_of kind q x && same_place place x.place

pub own_test : (x : Token) → is_at x.kind x.port x.place x ≡ true
own_test x = and_from _ _ (and_from _ _ (kind_refl x.kind) (eq-eqb x.port x.port refl)) (place_refl x.place)

-- a port that has a right lives
pub lives : {live : ℕ → Bool} {made : ℕ} {ledger : List Token} → LawfulPorts live made ledger → (kind : Kind) (p : ℕ) → 0 < count (is_of kind p) ledger → live p ≡ true
lives {live} l kind p some = true_from_ne_false (live p) (λ e. let z = l.no_rights p e kind in omega (arith, some, z))

pub alive : (s : State) → IsLawful s → (kind : Kind) (p : ℕ) → 0 < count (is_of kind p) s.ledger → s.live_port p ≡ true
alive s l = lives l.ports

pub place_stays : (s : State) → IsLawful s → (kind : Kind) (q : ℕ) (place : Place) → 0 < lying s kind q place → PlaceStays s place
place_stays s l kind q (in_task t) some = tt
place_stays s l kind q (in_message p k) some = true_from_ne_false (s.live_port p) (λ e. let z = l.gone p k (inr e) kind q in omega (arith, some, z))
place_stays s l kind q (in_request r) some = true_from_ne_false (s.stands r) (λ e. let z = l.ended r e kind q in omega (arith, some, z))

pub stays_with : (s : State) → IsLawful s → All (StaysWith s) s.ledger
stays_with s l k d below =
    let x = get_or s.ledger k d in
    let some : 0 < lying s x.kind x.port x.place = count_some (is_at x.kind x.port x.place) s.ledger k d below (own_test x) in
    (alive s l x.kind x.port (let le = lying_le_of s x.kind x.port x.place in omega (arith, some, le)), place_stays s l x.kind x.port x.place some)

pub named_lives : (s : State) → IsLawful s → (task name p : ℕ) → lookup s task name ≡ Some (Target.port p) → s.live_port p ≡ true
named_lives s l task name p is = grind (arith, (l.naming task).has_right name p is, held_le_of task receive p s.ledger, held_le_of task send p s.ledger)

pub once_lives : (s : State) → IsLawful s → (task name p : ℕ) → lookup s task name ≡ Some (Target.once p) → s.live_port p ≡ true
once_lives s l task name p is = grind (arith, some_tally (is_once p) (s.naming task) name (Target.once p) is (eq-eqb p p refl), held_le_of task send_once p s.ledger)

-- ---- a lawful state may stay

pub same_target : (mid new : State) (task name : ℕ) (o : Option Target) →
    ((p : ℕ) → o ≡ Some (Target.port p) → new.live_port p ≡ true) → ((p : ℕ) → o ≡ Some (Target.once p) → new.live_port p ≡ true) →
    o ≡ option_map (settled_target mid new task name) o
same_target mid new task name None f g = refl
same_target mid new task name (Some (Target.port p)) f g = rw (f p refl)
same_target mid new task name (Some (Target.once p)) f g = rw (g p refl)
same_target mid new task name (Some (Target.dead n)) f g = refl
same_target mid new task name (Some (Target.set s)) f g = refl

pub kept_set : (b : Bool) (o : List ℕ) → (b ≡ false → o ≡ []) → o ≡ (if b then o else [])
kept_set true o f = refl
kept_set false o f = f refl

-- The step's own part took the last send right of no port with a request to be told of that.
abbrev pub KeepsSenders : (old mid : State) → Type 0
KeepsSenders old mid = (p : ℕ) → mid.stands (no_senders p) ≡ true → 0 < senders old p → 0 < senders mid p

-- So no request ends.
pub nothing_ends : (old mid new : State) → IsLawful mid → KeepsSenders old mid → ((p : ℕ) → new.live_port p ≡ mid.live_port p) → ((p : ℕ) → senders new p ≡ senders mid p) →
    (r : Request) → mid.stands r ≡ true → ¬ (Ends old mid new r)
nothing_ends old mid new l keeps live same (no_senders p) is (inl dead) = let a = l.stands_on (no_senders p) is in let b = live p in cc
nothing_ends old mid new l keeps live same (no_senders p) is (inr h) = let a = keeps p is h.0 in let b = same p in let c = h.1 in omega (arith, a, b, c)
nothing_ends old mid new l keeps live same (port_destroyed p) is (inl dead) = let a = l.stands_on (port_destroyed p) is in let b = live p in cc
nothing_ends old mid new l keeps live same (port_destroyed p) is (inr sent) = never_sent mid l p sent
nothing_ends old mid new l keeps live same (dead_name task name) is dead = grind (arith, named_lives, once_lives)

-- From a lawful state after a step's own part that owes nothing and keeps senders, the step may end as it is.
pub calm_settles : (now : ℕ) (old mid : State) → IsLawful mid → KeepsSenders old mid → Settles now old mid [] mid
calm_settles now old mid l keeps = record {
  deaths = record { dies = λ p d. absurd (no_death mid l p d); only = λ p a b. absurd (cc); gone_before = λ p h. h };
  rights = record {
    staying = mid.ledger;
    paying = [];
    going = [];
    parts = λ h. omega arith;
    stay = stays_with mid l;
    pay = λ k d below. absurd (omega arith);
    go = λ k d below. absurd (omega arith);
  };
  notices = record {
    posted = [];
    due = refl;
    ledger = λ h. omega arith;
    logs = λ p. ([], sym (append-nil _), refl);
    stand = λ k d below. absurd (omega arith);
    cover = λ p k above below. absurd (omega arith);
  };
  names = λ task name. same_target mid mid task name (lookup mid task name) (named_lives mid l task name) (once_lives mid l task name);
  requests = record {
    ended = λ r stands ends. absurd (nothing_ends old mid mid l keeps (λ p. refl) (λ p. refl) r stands ends);
    only = λ r stands gone. absurd (cc);
    unmade = λ r h. h;
  };
  ports = record {
    is_sent = λ p. false;
    sent = λ p is. absurd (never_sent mid l p is);
    sent_only = λ p e. absurd (cc);
    sets_of = λ p. kept_set (mid.live_port p) (mid.sets_of p) (l.no_sets p);
    make_send = λ p. refl;
    sequence = λ p. refl;
  };
  rest = refl;
}

-- No request stands.
pub quiet_keeps : (old mid : State) → IsQuiet mid → KeepsSenders old mid
quiet_keeps old mid quiet p stands some = absurd (let e = quiet.none_stands (no_senders p) in cc)

pub quiet_settles : (now : ℕ) (old mid : State) → IsLawful mid → IsQuiet mid → Settles now old mid [] mid
quiet_settles now old mid l quiet = calm_settles now old mid l (quiet_keeps old mid quiet)

pub mid_settles : (now : ℕ) (old mid : State) (owed : Owed) → IsStill mid owed → Settles now old mid owed mid
mid_settles now old mid owed m = subst (λ (o : Owed). Settles now old mid o mid) (sym m.none_owed) (quiet_settles now old mid m.lawful m.quiet)

-- ---- and it does

-- The state stays, but for the order of the tokens.
pub record IsReordered (mid new : State) : Type 0 where
  pub rest : new ≡ record mid { ledger = new.ledger }
  pub tokens : Moves mid.ledger new.ledger [] []

empty_list : {A : Type 0} (xs : List A) → length xs ≡ 0 → xs ≡ []
empty_list [] e = refl
empty_list (x ∷ xs) e = absurd (omega arith)

empty_mapped : {A B : Type 0} (f : A → B) (xs : List A) → list_map f xs ≡ [] → xs ≡ []
empty_mapped f [] e = refl
empty_mapped f (x ∷ xs) e = absurd (cc)

module _ (now : ℕ) (old mid new : State) (l : IsLawful mid) (keeps : KeepsSenders old mid) (s : Settles now old mid [] new) where
  live : (p : ℕ) → new.live_port p ≡ mid.live_port p
  live p = grind (arith, cases_Bool, true_from_ne_false, no_death)

  -- a token that is one of the ledger's
  head_lies : (x : Token) (xs : List Token) → ((test : Token → Bool) → count test (x ∷ xs) ≤ count test mid.ledger) → 0 < lying mid x.kind x.port x.place
  head_lies x xs le = grind (arith, own_test)

  -- ---- send rights, of which no request keeps any

  sends_stay : (q : ℕ) (place : Place) → 0 < lying mid send q place → PlaceStays new place
  sends_stay q (in_task t) some = tt
  sends_stay q (in_message p k) some = live p ∙ place_stays mid l send q (in_message p k) some
  sends_stay q (in_request r) some = absurd (let z = l.once_kept r send q (λ e. cc) in omega (arith, some, z))

  send_kept : (x : Token) (q : ℕ) → is_of send q x ≡ true → 0 < lying mid x.kind x.port x.place → GoesFrom new x → ⊥
  send_kept x q is some (inl dead) = grind (arith, lying_le_of, alive, live)
  send_kept x q is some (inr h) = grind (arith, sends_stay, left_of)

  no_send_goes : (q : ℕ) (xs : List Token) → All (GoesFrom new) xs → ((test : Token → Bool) → count test xs ≤ count test mid.ledger) → count (is_of send q) xs ≡ 0
  no_send_goes q [] all le = refl
  no_send_goes q (x ∷ xs) all le =
      let e = false_from_ne_true (is_of send q x) (λ is. send_kept x q is (head_lies x xs le) (all 0 x (omega arith))) in
      let rest = no_send_goes q xs (All-tail (GoesFrom new) x xs all) (λ test. let a = le test in omega (arith, a)) in
      rw e (omega (arith, rest))

  no_send_pays : (q : ℕ) (xs : Owed) → All (λ x. PaysFor mid new x.0 x.1) xs → count (is_of send q) (tokens_of xs) ≡ 0
  no_send_pays q [] all = refl
  no_send_pays q (x ∷ xs) all =
      let pays = all 0 x (omega arith) in
      let once = pays.0 in
      let e : is_of send q x.0 ≡ false = ap (λ (k : Kind). same_kind send k && x.0.port == q) once in
      let rest = no_send_pays q xs (All-tail (λ (x : Token × Notice). PaysFor mid new x.0 x.1) x xs all) in
      rw e (omega (arith, rest))

  no_send_posted : (q : ℕ) (xs : List Posted) → count (is_of send q) (all_posted_tokens xs) ≡ 0
  no_send_posted q [] = refl
  no_send_posted q (x ∷ xs) = grind (arith, no_send_posted q xs, weigh-append)

  same_senders : (q : ℕ) → senders new q ≡ senders mid q
  same_senders q = grind (arith, no_send_goes, no_send_pays, no_send_posted)

  -- ---- so every right stays

  same_stands : (r : Request) → new.stands r ≡ mid.stands r
  same_stands r = grind (arith, cases_Bool, true_from_ne_false, nothing_ends, live, same_senders)

  stays_new : (kind : Kind) (q : ℕ) (place : Place) → 0 < lying mid kind q place → PlaceStays new place
  stays_new kind q (in_task t) some = tt
  stays_new kind q (in_message p k) some = live p ∙ place_stays mid l kind q (in_message p k) some
  stays_new kind q (in_request r) some = same_stands r ∙ place_stays mid l kind q (in_request r) some

  none_pays : (xs : List (Token × Notice)) → All (λ x. PaysFor mid new x.0 x.1) xs → ((test : Token → Bool) → count test (tokens_of xs) ≤ count test mid.ledger) → xs ≡ []
  none_pays [] all le = refl
  none_pays (x ∷ xs) all le = absurd ((all 0 x (omega arith)).2 (stays_new x.0.kind x.0.port x.0.place (head_lies x.0 (tokens_of xs) le)))

  none_goes : (xs : List Token) → All (GoesFrom new) xs → ((test : Token → Bool) → count test xs ≤ count test mid.ledger) → xs ≡ []
  none_goes [] all le = refl
  none_goes (x ∷ xs) all le = absurd (left (all 0 x (omega arith)))
    where
      some : 0 < lying mid x.kind x.port x.place
      some = head_lies x xs le

      left : GoesFrom new x → ⊥
      left (inl dead) =
          let more = lying_le_of mid x.kind x.port x.place in
          let e = alive mid l x.kind x.port (omega (arith, some, more)) in
          let f = live x.port in cc
      left (inr h) = h.1 (stays_new x.kind x.port x.place some)

  none_paying : s.rights.paying ≡ []
  none_paying = none_pays s.rights.paying s.rights.pay (λ test. let e = s.rights.parts (λ x. if test x then 1 else 0) in omega (arith, e))

  none_going : s.rights.going ≡ []
  none_going = none_goes s.rights.going s.rights.go (λ test. let e = s.rights.parts (λ x. if test x then 1 else 0) in omega (arith, e))

  none_posted : s.notices.posted ≡ []
  none_posted = grind (arith, empty_mapped, none_paying)

  same_log : (p : ℕ) → new.log p ≡ mid.log p
  same_log p =
      let h = s.notices.logs p in
      let e : h.0 ≡ [] = empty_list h.0 (h.2 ∙ ap (λ (xs : List Posted). length (filter (λ (x : Posted). x.port == p) xs)) none_posted) in
      h.1 ∙ ap (λ (xs : List Entry). mid.log p ++ xs) e ∙ append-nil (mid.log p)

  same_name : (task name : ℕ) → lookup new task name ≡ lookup mid task name
  same_name task name = grind (arith, same_target, live, named_lives, once_lives)

  unsent : (p : ℕ) → s.ports.is_sent p ≡ false
  unsent p = false_from_ne_true (s.ports.is_sent p) (λ e. never_sent mid l p (s.ports.sent_only p e))

  same_set : (p : ℕ) → new.sets_of p ≡ mid.sets_of p
  same_set p = s.ports.sets_of p ∙ rw (unsent p, live p) (sym (kept_set (mid.live_port p) (mid.sets_of p) (l.no_sets p)))

  same_make_send : (p : ℕ) → new.make_send p ≡ mid.make_send p
  same_make_send p = s.ports.make_send p ∙ rw (unsent p)

  same_sequence : (p : ℕ) → new.sequence p ≡ mid.sequence p
  same_sequence p = s.ports.sequence p ∙ rw (unsent p)

  -- From a lawful state after a step's own part that owes nothing and keeps senders, the step ends with that state.
  pub settles_calmly : IsReordered mid new
  settles_calmly = grind (arith, fun_ext, live, alike, same_name, same_log, same_stands, same_set, same_make_send, same_sequence, none_paying, none_going, none_posted)

pub settles_quietly : (now : ℕ) (old mid new : State) → IsLawful mid → IsQuiet mid → Settles now old mid [] new → IsReordered mid new
settles_quietly now old mid new l quiet s = settles_calmly now old mid new l (quiet_keeps old mid quiet) s

-- A step that only looks leaves the state, but for the order of the tokens.
pub looks_reorder : (now : ℕ) (old mid : State) (owed : Owed) (new : State) → IsLawful old → mid ≡ old → owed ≡ [] → Settles now old mid owed new → IsReordered old new
looks_reorder now old mid owed new l same none s =
    settles_calmly now old old new l (λ p is some. some)
    (subst (λ (o : Owed). Settles now old old o new) none (subst (λ (m : State). Settles now old m owed new) same s))

-- ---- and that is lawful

module _ (s : State) (ledger : List Token) (l : IsLawful s) (moves : Moves s.ledger ledger [] []) where
  same : (test : Token → Bool) → count test ledger ≡ count test s.ledger
  same test = let m = moves (λ x. if test x then 1 else 0) in omega (arith, m)

  reordered_lawful : IsLawful (record s { ledger = ledger })
  reordered_lawful = record {
    tasks = l.tasks;
    naming = λ t. same_naming (s.naming t) (held s t) (λ kind q. count (is_held t kind q) ledger) (l.naming t) (λ kind q. same (is_held t kind q));
    ports = record { made_port = l.made_port; no_rights = λ q dead kind. same (is_of kind q) ∙ l.no_rights q dead kind };
    numbers = l.numbers;
    receivers = same_receivers s.live_port s.set_owner s.sets_of s.ledger ledger l.receivers (λ q. same (is_of receive q)) (λ t q. let e = same (is_held t receive q) in omega (arith, e));
    few_rights = let m = moves (λ x. 1) in let h = l.few_rights in omega (arith, m, h, length-weigh s.ledger, length-weigh ledger);
    sets = l.sets;
    membership = l.membership;
    logs = l.logs;
    messages = record {
      carried = λ p i e live is kind q live_q. same (is_at kind q (in_message p (s.taken p + i))) ∙ l.carried p i e live is kind q live_q;
      gone = λ p k is kind q. same (is_at kind q (in_message p k)) ∙ l.gone p k is kind q;
      no_entry = λ p k above kind q. same (is_at kind q (in_message p k)) ∙ l.no_entry p k above kind q;
    };
    requests = record {
      one_kept = λ r. let m = same (λ x. same_place (in_request r) x.place) in let h = l.one_kept r in omega (arith, m, h);
      once_kept = λ r kind q not. same (is_at kind q (in_request r)) ∙ l.once_kept r kind q not;
    };
    standing = record { ended = λ r not kind q. same (is_at kind q (in_request r)) ∙ l.ended r not kind q };
    ground = l.ground;
  }

  reordered_quiet : IsQuiet s → IsQuiet (record s { ledger = ledger })
  reordered_quiet quiet = record { none_carried = λ p k q. same (is_at receive q (in_message p k)) ∙ quiet.none_carried p k q; none_stands = quiet.none_stands }

pub IsReordered-quiet : (mid new : State) → IsLawful mid → IsReordered mid new → IsQuiet mid → IsQuiet new
IsReordered-quiet mid new l r quiet = subst IsQuiet (sym r.rest) (reordered_quiet mid new.ledger l r.tokens quiet)

pub IsReordered-lawful : (mid new : State) → IsLawful mid → IsReordered mid new → IsLawful new
IsReordered-lawful mid new l r = subst IsLawful (sym r.rest) (reordered_lawful mid new.ledger l r.tokens)

-- So is a state that is lawful midway.
module _ (s : State) (ledger : List Token) (owed : Owed) (l : MidLawful s owed) (moves : Moves s.ledger ledger [] []) where
  same_mid : (test : Token → Bool) → count test ledger ≡ count test s.ledger
  same_mid test = let m = moves (λ x. if test x then 1 else 0) in omega (arith, m)

  reordered_member : (task p : ℕ) → (0 < held s task receive p) ⊎ IsOrphan s p → (0 < count (is_held task receive p) ledger) ⊎ IsOrphan (record s { ledger = ledger }) p
  reordered_member task p (inl holds) = inl (let e = same_mid (is_held task receive p) in omega (arith, holds, e))
  reordered_member task p (inr is) = inr (is.0, same_mid (is_of receive p) ∙ is.1)

  reordered_mid : MidLawful (record s { ledger = ledger }) owed
  reordered_mid = record {
    tasks = l.tasks;
    naming = λ t. same_naming (s.naming t) (held s t) (λ kind q. count (is_held t kind q) ledger) (l.naming t) (λ kind q. same_mid (is_held t kind q));
    ports = record { made_port = l.made_port; no_rights = λ q dead kind. same_mid (is_of kind q) ∙ l.no_rights q dead kind };
    numbers = l.numbers;
    receivers = record {
      most_receive = λ p. let e = same_mid (is_of receive p) in let h = l.most_receive p in omega (arith, e, h);
      members = λ p set in_it. let h = l.members p set in_it in (h.0, h.1, reordered_member h.0 p h.2);
    };
    room = record {
      orphans = l.orphans;
      each_orphan = λ p is. l.each_orphan p (is.0, sym (same_mid (is_of receive p)) ∙ is.1);
      few_rights = let m = moves (λ x. 1) in let h = l.few_rights in omega (arith, m, h, length-weigh s.ledger, length-weigh ledger);
      are_owed = l.are_owed;
    };
    sets = l.sets;
    membership = l.membership;
    logs = l.logs;
    messages = record {
      carried = λ p i e live is kind q live_q. same_mid (is_at kind q (in_message p (s.taken p + i))) ∙ l.carried p i e live is kind q live_q;
      gone = λ p k is kind q. same_mid (is_at kind q (in_message p k)) ∙ l.gone p k is kind q;
      no_entry = λ p k above kind q. same_mid (is_at kind q (in_message p k)) ∙ l.no_entry p k above kind q;
    };
    requests = record {
      one_kept = λ r. let m = same_mid (λ x. same_place (in_request r) x.place) in let h = l.one_kept r in omega (arith, m, h);
      once_kept = λ r kind q not. same_mid (is_at kind q (in_request r)) ∙ l.once_kept r kind q not;
    };
    standing = record { ended = λ r not on kind q. same_mid (is_at kind q (in_request r)) ∙ l.ended r not on kind q };
    ground = l.ground;
  }

pub IsReordered-mid : (s new : State) (owed : Owed) → MidLawful s owed → IsReordered s new → MidLawful new owed
IsReordered-mid s new owed l r = subst (λ (x : State). MidLawful x owed) (sym r.rest) (reordered_mid s new.ledger owed l r.tokens)
