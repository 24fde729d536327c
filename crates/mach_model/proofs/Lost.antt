-- Rights that are lost with their names, and those that go to a request or come from it.
use Rattle.std.proofs.Common.{◌≡◌, ℕ, zero, suc, ◌+◌, ◌<◌, ◌≤◌, List, [], ◌∷◌, Some, refl, sym, subst, ◌∙◌, arith, true, false, Bool, ◌⊎◌, length, get_or, ap}
use Rattle.std.specs.Prelude.{if◌then◌else◌, ◌&&◌, map, filter, slice_get, drop, All, Contains, ◌≢◌}
use Rattle.std.proofs.lemmas.Bool.{eq-eqb, and_from}
use Rattle.mach_types.specs.Tokens.{Kind, receive, send, send_once, in_message, in_request, Token, weigh, count, is_of, same_kind, Request, no_senders, port_destroyed, dead_name, Place, in_task, token, is_held, Moves}
use Rattle.mach_types.specs.Messages.{Entry}
use Rattle.mach_model.specs.State.{State, Holds, held, request_at, same_request}
use Rattle.mach_model.specs.Death.{same_place}
use Rattle.mach_model.specs.Carried.{message_count, lying}
use Rattle.mach_model.specs.Notices.{right_unused}
use Rattle.mach_model.specs.References.{unused_among}
use Rattle.mach_model.specs.Lawful.{LawfulTasks, LawfulNumbers, LawfulSets, LawfulMembership, IsLawful, StandsOn}
use Rattle.mach_model.specs.Midway.{IsOwed, MidLawful, IsOnName}
use Rattle.mach_model.proofs.Names.{length-weigh, right_of, count_some, pos_or_zero, held_le_of, left_of, count_le, KeepsRequests, all_ground, elsewhere, same_naming}
use Rattle.mach_model.proofs.Settling.{alive, kind_refl, is_at}
use Rattle.mach_model.proofs.Moving.{TaskNaming, one_at_most, IsMoving}
use Rattle.mach_model.proofs.MessagesLawful.{same_kinds, same_numbers}

-- ---- Rights that are lost, with the names that stood for them, leave a state lawful midway: ports may be orphans, and send-once rights are owed
-- a notice.

-- ---- among tokens that go: ports whose receive right is there, and send-once rights

abbrev pub orphans_of : List Token → List ℕ
orphans_of xs = map (λ x. x.port) (filter (λ x. same_kind receive x.kind) xs)

same_port : (kind : Kind) (p : ℕ) (x : Token) → is_of kind p x ≡ true → x.port ≡ p
same_port kind p x e = grind (arith, right_of)

pub among_orphans : (p : ℕ) (xs : List Token) → 0 < count (is_of receive p) xs → Contains (orphans_of xs) p
among_orphans p [] some = absurd (omega (arith, some))
among_orphans p (x ∷ xs) some = go (same_kind receive x.kind) refl (among_orphans p xs)
  where
    later : Contains (orphans_of xs) p → Contains (x.port ∷ orphans_of xs) p
    later r = (suc r.0, (let b = r.1 in omega (arith, b)), r.2)

    here : (b : Bool) → is_of receive p x ≡ b → (0 < count (is_of receive p) xs → Contains (orphans_of xs) p) → Contains (x.port ∷ orphans_of xs) p
    here true e rest = (zero, omega arith, same_port receive p x e)
    here false e rest = later (rest (let z : (if is_of receive p x then suc zero else zero) ≡ zero = rw e refl in omega (arith, some, z)))

    go : (b : Bool) → same_kind receive x.kind ≡ b → (0 < count (is_of receive p) xs → Contains (orphans_of xs) p) →
        Contains (map (λ x. x.port) (if b then x ∷ filter (λ x. same_kind receive x.kind) xs else filter (λ x. same_kind receive x.kind) xs)) p
    go true e rest = here (is_of receive p x) refl rest
    go false e rest = rest (let z : (if is_of receive p x then suc zero else zero) ≡ zero = rw e refl in omega (arith, some, z))

pub few_of : (xs : List Token) → length (unused_among xs) + length (orphans_of xs) ≤ length xs
few_of [] = omega arith
few_of (x ∷ xs) = grind (arith, few_of xs)

pub are_unused : (live : ℕ → Bool) (xs : List Token) → ((k : ℕ) (d : Token) → k < length xs → live (get_or xs k d).port ≡ true) → All (IsOwed live) (unused_among xs)
are_unused live [] is = λ k d below. absurd (omega (arith, below))
are_unused live (x ∷ xs) is = go x.kind refl (are_unused live xs (λ k d below. is (suc k) d (omega (arith, below))))
  where
    go : (kind : Kind) → x.kind ≡ kind → All (IsOwed live) (unused_among xs) →
        All (IsOwed live) (map (λ x. (x, right_unused)) (if same_kind send_once kind then x ∷ filter (λ x. same_kind send_once x.kind) xs else filter (λ x. same_kind send_once x.kind) xs))
    go receive e rest = rest
    go send e rest = rest
    go send_once e rest = first
      where
        first : All (IsOwed live) ((x, right_unused) ∷ unused_among xs)
        first zero d below = record { once = e; live = is 0 x (omega arith); carries = λ place. refl }
        first (suc k) d below = rest k d (omega (arith, below))

-- ---- a state that loses rights

-- the state s with what such a step changes, as it is in x
abbrev pub lost_shape : State → State → State
lost_shape s x = record s {
  live_task = x.live_task;
  naming = x.naming;
  set_owner = x.set_owner;
  sets_of = x.sets_of;
  stands = x.stands;
  taken = x.taken;
  sequence = x.sequence;
  ledger = x.ledger;
}

-- what is left to see, where these tokens go, and the spent ones are owed nothing
pub record Loses (s new : State) (gone spent : List Token) : Type 0 where
  pub rest : new ≡ lost_shape s new
  pub tokens : (h : Token → ℕ) → weigh h new.ledger + weigh h gone + weigh h spent ≡ weigh h s.ledger
  pub no_receive : (p : ℕ) → count (is_of receive p) spent ≡ 0
  pub tasks : LawfulTasks new.live_task s.tasks_made new.naming
  pub naming : (task : ℕ) → TaskNaming new task
  pub numbers : LawfulNumbers s.limit s.make_send new.sequence
  pub sets : LawfulSets new.naming new.set_owner s.sets_made
  pub members : (p set : ℕ) → Contains (new.sets_of p) set → (task : ℕ) × (new.set_owner set ≡ Some task) × Holds s task receive p
  pub membership : LawfulMembership s.profile s.live_port new.sets_of
  pub within : (p : ℕ) → new.taken p ≤ length (s.log p)
  pub carried : (p i : ℕ) (e : Entry) → s.live_port p ≡ true → slice_get (drop (new.taken p) (s.log p)) i ≡ Some e → (kind : Kind) (q : ℕ) → s.live_port q ≡ true →
      lying new kind q (in_message p (new.taken p + i)) ≡ message_count kind q e.message
  pub gone_there : (p k : ℕ) → (k < new.taken p) ⊎ (s.live_port p ≡ false) → (kind : Kind) (q : ℕ) → lying new kind q (in_message p k) ≡ 0
  pub stands : KeepsRequests s.stands new.stands new.naming

module _ (s new : State) (gone spent : List Token) (l : IsLawful s) (v : Loses s new gone spent) where
  fewer : (test : Token → Bool) → count test new.ledger ≤ count test s.ledger
  fewer test = let m = v.tokens (λ x. if test x then 1 else 0) in omega (arith, m)

  gone_fewer : (test : Token → Bool) → count test gone ≤ count test s.ledger
  gone_fewer test = let m = v.tokens (λ x. if test x then 1 else 0) in omega (arith, m)

  gone_live : (k : ℕ) (d : Token) → k < length gone → s.live_port (get_or gone k d).port ≡ true
  gone_live k d below =
      let x = get_or gone k d in
      let some = count_some (is_of x.kind x.port) gone k d below (and_from _ _ (kind_refl x.kind) (eq-eqb x.port x.port refl)) in
      let le = gone_fewer (is_of x.kind x.port) in alive s l x.kind x.port (omega (arith, some, le))

  -- a right that the task has lost no more was lost by all
  member : (task p : ℕ) → Holds s task receive p → Holds new task receive p ⊎ (s.live_port p ≡ true) × (count (is_of receive p) new.ledger ≡ 0)
  member task p holds = grind (arith, pos_or_zero, held_le_of, alive)

  abbrev shaped : State
  shaped = lost_shape s new

  shaped_lawful : MidLawful shaped (unused_among gone)
  shaped_lawful = record {
    tasks = v.tasks;
    naming = v.naming;
    ports = record { made_port = l.made_port; no_rights = λ p dead kind. let a = fewer (is_of kind p) in let b = l.no_rights p dead kind in omega (arith, a, b) };
    numbers = v.numbers;
    receivers = record {
      most_receive = λ p. let a = fewer (is_of receive p) in let b = one_at_most s.live_port s.ledger l.one_receive l.no_rights p in omega (arith, a, b);
      members = λ p set in_it. let h = v.members p set in_it in (h.0, h.1, member h.0 p h.2);
    };
    room = record {
      orphans = orphans_of gone;
      each_orphan = λ p is. among_orphans p gone (
          let m = v.tokens (λ x. if is_of receive p x then 1 else 0) in
          let one = l.one_receive p is.0 in let none = is.1 in let n = v.no_receive p in omega (arith, m, one, none, n));
      few_rights =
          let m = v.tokens (λ x. 1) in let few = l.few_rights in let less = few_of gone in
          omega (arith, m, few, less, length-weigh s.ledger, length-weigh new.ledger, length-weigh gone);
      are_owed = are_unused s.live_port gone gone_live;
    };
    sets = v.sets;
    membership = v.membership;
    logs = record { unmade_log = l.unmade_log; within = v.within; sent_here = l.sent_here; made_marks = l.made_marks };
    messages = record {
      carried = v.carried;
      gone = v.gone_there;
      no_entry = λ p k above kind q. let a = fewer (λ x. is_of kind q x && same_place (in_message p k) x.place) in let b = l.no_entry p k above kind q in omega (arith, a, b);
    };
    requests = record {
      one_kept = λ r. let a = fewer (λ x. same_place (in_request r) x.place) in let b = l.one_kept r in omega (arith, a, b);
      once_kept = λ r kind q not. let a = fewer (λ x. is_of kind q x && same_place (in_request r) x.place) in let b = l.once_kept r kind q not in omega (arith, a, b);
    };
    standing = record {
      ended = λ r not on kind q.
          let a = fewer (λ x. is_of kind q x && same_place (in_request r) x.place) in
          let b = l.ended r (sym (v.stands.ports r on) ∙ not) kind q in omega (arith, a, b);
    };
    ground = all_ground s.live_port s.naming new.naming s.stands new.stands l.ground v.stands;
  }

  pub Loses-lawful : MidLawful new (unused_among gone)
  Loses-lawful = subst (λ (x : State). MidLawful x (unused_among gone)) (sym v.rest) shaped_lawful

-- ---- A send-once right goes to a request, or comes from it, while the request is made or ended: the state stays lawful but for the rights on
-- their way.

-- ---- a token at a place

pub same_request_is : (a b : Request) → same_request a b ≡ true → b ≡ a
same_request_is (no_senders p) (no_senders q) e = sym (ap no_senders (same_numbers p q e))
same_request_is (port_destroyed p) (port_destroyed q) e = sym (ap port_destroyed (same_numbers p q e))
same_request_is (dead_name t n) (dead_name u m) e = grind (arith, same_numbers, left_of, right_of)
same_request_is (no_senders p) (port_destroyed q) e = absurd (cc)
same_request_is (no_senders p) (dead_name u m) e = absurd (cc)
same_request_is (port_destroyed p) (no_senders q) e = absurd (cc)
same_request_is (port_destroyed p) (dead_name u m) e = absurd (cc)
same_request_is (dead_name t n) (no_senders q) e = absurd (cc)
same_request_is (dead_name t n) (port_destroyed q) e = absurd (cc)

kept_at : (r : Request) (place : Place) → same_place (in_request r) place ≡ true → place ≡ in_request r
kept_at r (in_request x) e = ap in_request (same_request_is r x e)
kept_at r (in_task t) e = absurd (cc)
kept_at r (in_message p k) e = absurd (cc)

-- a token that passes is the one
kept_is : (kind : Kind) (p : ℕ) (r : Request) (x : Token) → is_at kind p (in_request r) x ≡ true → x ≡ token kind p (in_request r)
kept_is kind p r x e = grind (arith, left_of, same_kinds, same_numbers, right_of, kept_at)

pub kept_taken : (kind : Kind) (p : ℕ) (r : Request) (xs : List Token) → 0 < count (is_at kind p (in_request r)) xs → (ys : List Token) × Moves xs ys (token kind p (in_request r) ∷ []) []
kept_taken kind p r [] some = absurd (omega (arith, some))
kept_taken kind p r (x ∷ xs) some = go (is_at kind p (in_request r) x) refl (kept_taken kind p r xs)
  where
    go : (b : Bool) → is_at kind p (in_request r) x ≡ b → (0 < count (is_at kind p (in_request r)) xs → (ys : List Token) × Moves xs ys (token kind p (in_request r) ∷ []) []) →
        (ys : List Token) × Moves (x ∷ xs) ys (token kind p (in_request r) ∷ []) []
    go true e rest = (xs, λ h. (let f : h x ≡ h (token kind p (in_request r)) = ap h (kept_is kind p r x e) in omega (arith, f)))
    go false e rest =
        let z : (if is_at kind p (in_request r) x then suc zero else zero) ≡ zero = rw e refl in
        let m = rest (omega (arith, some, z)) in
        let n = m.1 in (x ∷ m.0, λ h. (let f = n h in omega (arith, f)))

-- ---- what the request keeps changes

pub record Rekeeps (s : State) (ledger : List Token) (o k : ℕ) (r : Request) (now : Bool) : Type 0 where
  pub far : (test : Token → Bool) → ((q : ℕ) → test (token send_once q (in_request r)) ≡ false) → ((q : ℕ) → test (token send_once q (in_message o k)) ≡ false) →
      count test ledger ≡ count test s.ledger
  pub of : (kind : Kind) (q : ℕ) → count (is_of kind q) ledger ≡ count (is_of kind q) s.ledger
  pub one : count (λ x. same_place (in_request r) x.place) ledger ≤ 1
  pub none : now ≡ false → count (λ x. same_place (in_request r) x.place) ledger ≡ 0
  pub on : now ≡ true → StandsOn s.live_port s.naming r

and_false : (a b : Bool) → b ≡ false → (a && b) ≡ false
and_false true b e = e
and_false false b e = refl

none_before : (a b : Bool) → a ≡ false → (a && b) ≡ false
none_before true b e = absurd (cc)
none_before false b e = refl

not_once : (kind : Kind) → kind ≢ send_once → same_kind kind send_once ≡ false
not_once receive not = refl
not_once send not = refl
not_once send_once not = absurd (not refl)

module _ (s : State) (ledger : List Token) (o k : ℕ) (r : Request) (now : Bool) (l : IsMoving s o k) (v : Rekeeps s ledger o k r now) where
  abbrev new : State
  new = record s { stands = request_at s.stands r now; ledger = ledger }

  held_same : (t : ℕ) (kind : Kind) (q : ℕ) → held new t kind q ≡ held s t kind q
  held_same t kind q = v.far (is_held t kind q) (λ p. and_false _ _ refl) (λ p. and_false _ _ refl)

  lying_far : (kind : Kind) (q p j : ℕ) → (p ≡ o → j ≡ k → ⊥) → lying new kind q (in_message p j) ≡ lying s kind q (in_message p j)
  lying_far kind q p j not = v.far (λ x. is_of kind q x && same_place (in_message p j) x.place) (λ c. and_false _ _ refl) (λ c. and_false _ _ (elsewhere p o j k not))

  other_lying : (x : Request) → same_request x r ≡ false → (kind : Kind) (q : ℕ) → lying new kind q (in_request x) ≡ lying s kind q (in_request x)
  other_lying x e kind q = v.far (λ y. is_of kind q y && same_place (in_request x) y.place) (λ c. and_false _ _ e) (λ c. and_false _ _ refl)

  ended : (x : Request) (b : Bool) → same_request x r ≡ b → (if b then now else s.stands x) ≡ false → ¬ (IsOnName x) → (kind : Kind) (q : ℕ) → lying new kind q (in_request x) ≡ 0
  ended x true e not on_port kind q = grind (arith, count_le, right_of, same_request_is)
  ended x false e not on_port kind q = other_lying x e kind q ∙ l.ended x not on_port kind q

  one_kept : (x : Request) (b : Bool) → same_request x r ≡ b → count (λ y. same_place (in_request x) y.place) ledger ≤ 1
  one_kept x true e = subst (λ (z : Request). count (λ y. same_place (in_request z) y.place) ledger ≤ 1) (same_request_is x r e) v.one
  one_kept x false e = let a = v.far (λ y. same_place (in_request x) y.place) (λ c. e) (λ c. refl) in let h = l.one_kept x in omega (arith, a, h)

  founded : (x : Request) (b : Bool) → same_request x r ≡ b → (if b then now else s.stands x) ≡ true → StandsOn s.live_port s.naming x
  founded x true e is = subst (StandsOn s.live_port s.naming) (same_request_is x r e) (v.on is)
  founded x false e is = l.stands_on x is

  pub rekept : IsMoving new o k
  rekept = record {
    tasks = l.tasks;
    naming = λ t. same_naming (s.naming t) (held s t) (held new t) (l.naming t) (held_same t);
    ports = record { made_port = l.made_port; no_rights = λ p dead kind. v.of kind p ∙ l.no_rights p dead kind };
    numbers = l.numbers;
    receivers = record {
      one_receive = λ p live. v.of receive p ∙ l.one_receive p live;
      members = λ p set in_it. let h = l.members p set in_it in let some = h.2 in let e = held_same h.0 receive p in (h.0, h.1, omega (arith, some, e));
    };
    sets = l.sets;
    membership = l.membership;
    logs = l.logs;
    messages = record {
      carried = λ p i e not live is kind q live_q. lying_far kind q p (s.taken p + i) not ∙ l.carried p i e not live is kind q live_q;
      gone = λ p j not is kind q. lying_far kind q p j not ∙ l.gone p j not is kind q;
      no_entry = λ p j not above kind q. lying_far kind q p j not ∙ l.no_entry p j not above kind q;
    };
    requests = record {
      one_kept = λ x. one_kept x (same_request x r) refl;
      once_kept = λ x kind q not.
          v.far (λ y. is_of kind q y && same_place (in_request x) y.place) (λ c. none_before _ _ (none_before _ _ (not_once kind not))) (λ c. and_false _ _ refl)
          ∙ l.once_kept x kind q not;
    };
    standing = record { ended = λ x not on_port kind q. ended x (same_request x r) refl not on_port kind q };
    ground = record { stands_on = λ x is. founded x (same_request x r) refl is };
  }
