-- States while rights are on their way: copied in and not yet in a message, or taken from a message and not yet copied out. They
-- lie at one entry of one port's log; but for these rights the state is lawful.
use Rattle.std.proofs.Common.{◌≡◌, ℕ, ◌+◌, ◌<◌, ◌≤◌, List, [], ◌∷◌, Option, Some, refl, sym, ap, subst, ◌∙◌, arith, true, false, Bool, ◌⊎◌, inl, inr, length}
use Rattle.std.specs.Prelude.{if◌then◌else◌, ◌&&◌, slice_get, drop, All}
use Rattle.std.proofs.lemmas.Bool.Decides.{eqb_tells}
use Rattle.std.proofs.lemmas.Bool.{ne_eqb, and_right, cases_Bool}
use Rattle.std.proofs.lemmas.Option.{slice_get_within}
use Rattle.std.proofs.lemmas.List.{length-drop}
use Rattle.mach_types.specs.Numbers.{most_rights}
use Rattle.mach_types.specs.Tokens.{Kind, receive, Request, in_task, in_message, in_request, Token, token, weigh, count, is_of, is_held, Moves}
use Rattle.mach_types.specs.Messages.{Entry}
use Rattle.mach_model.specs.State.{State, Names, at, held, queue}
use Rattle.mach_model.specs.Death.{same_place}
use Rattle.mach_model.specs.Carried.{message_count, lying_among, lying}
use Rattle.mach_model.specs.Notices.{Owed}
use Rattle.mach_model.specs.Lawful.{LawfulTasks, LawfulNames, LawfulPorts, LawfulNumbers, LawfulReceivers, LawfulSets, LawfulMembership, LawfulLogs, LawfulRequests, LawfulGround, IsLawful}
use Rattle.mach_model.specs.Midway.{IsOwed, MidRoom, MidStanding, MidLawful}
use Rattle.mach_model.proofs.Names.{KeepsRequests, stood, all_ground, requests_stay, at_same, at_other, elsewhere, tasks_named, all_named, SameSets, kept_set_law}

abbrev pub TaskNaming : State → (task : ℕ) → Type 0
TaskNaming s task = LawfulNames (s.naming task) (held s task)

-- The rights in messages are where they ought to be, but for those at entry k of port o's log.
pub record MovingMessages (live : ℕ → Bool) (log : ℕ → List Entry) (taken : ℕ → ℕ) (ledger : List Token) (o k : ℕ) : Type 0 where
  pub carried : (p i : ℕ) (e : Entry) → (p ≡ o → taken p + i ≡ k → ⊥) → live p ≡ true → slice_get (drop (taken p) (log p)) i ≡ Some e → (kind : Kind) (q : ℕ) → live q ≡ true →
      lying_among ledger kind q (in_message p (taken p + i)) ≡ message_count kind q e.message
  pub gone : (p j : ℕ) → (p ≡ o → j ≡ k → ⊥) → (j < taken p) ⊎ (live p ≡ false) → (kind : Kind) (q : ℕ) → lying_among ledger kind q (in_message p j) ≡ 0
  pub no_entry : (p j : ℕ) → (p ≡ o → j ≡ k → ⊥) → length (log p) ≤ j → (kind : Kind) (q : ℕ) → lying_among ledger kind q (in_message p j) ≡ 0

-- Lawful but for the rights that lie at entry k of port o's log, and for how many rights there are.
pub record IsMoving (s : State) (o k : ℕ) : Type 0 where
  pub tasks : LawfulTasks s.live_task s.tasks_made s.naming
  pub open tasks use *
  pub naming : (task : ℕ) → TaskNaming s task
  pub ports : LawfulPorts s.live_port s.ports_made s.ledger
  pub open ports use *
  pub numbers : LawfulNumbers s.limit s.make_send s.sequence
  pub open numbers use *
  pub receivers : LawfulReceivers s.live_port s.set_owner s.sets_of s.ledger
  pub open receivers use *
  pub sets : LawfulSets s.naming s.set_owner s.sets_made
  pub open sets use *
  pub membership : LawfulMembership s.profile s.live_port s.sets_of
  pub open membership use *
  pub logs : LawfulLogs s.ports_made s.log s.taken
  pub open logs use *
  pub messages : MovingMessages s.live_port s.log s.taken s.ledger o k
  pub open messages use *
  pub requests : LawfulRequests s.ledger
  pub open requests use *
  pub standing : MidStanding s.stands s.ledger
  pub open standing use *
  pub ground : LawfulGround s.live_port s.naming s.stands
  pub open ground use *

-- ---- to and from lawful states

-- Nothing is on its way in a lawful state.
pub moving : (s : State) (o k : ℕ) → IsLawful s → IsMoving s o k
moving s o k l = grind arith

-- The place is no queued entry's.
abbrev pub IsOutside : State → (o k : ℕ) → Type 0
IsOutside s o k = (k < s.taken o) ⊎ (length (s.log o) ≤ k)

-- each port has one receive right at most
pub one_at_most : (live : ℕ → Bool) (ledger : List Token) → ((p : ℕ) → live p ≡ true → count (is_of receive p) ledger ≡ 1) → ((p : ℕ) → live p ≡ false → (kind : Kind) → count (is_of kind p) ledger ≡ 0) →
    (p : ℕ) → count (is_of receive p) ledger ≤ 1
one_at_most live ledger one none p = grind (arith, cases_Bool)

-- no port is an orphan where each that lives has a receive right
pub no_orphans : (s : State) (owed : Owed) → ((p : ℕ) → s.live_port p ≡ true → count (is_of receive p) s.ledger ≡ 1) → All (IsOwed s.live_port) owed → length s.ledger + length owed ≤ most_rights → MidRoom s owed
no_orphans s owed one are few = grind arith

-- Where none is on its way, and there are not too many, the state is lawful but for what requests on names keep.
pub arriving : (s : State) (o k : ℕ) → IsMoving s o k → IsOutside s o k → ((kind : Kind) (q : ℕ) → lying s kind q (in_message o k) ≡ 0) → (owed : Owed) → All (IsOwed s.live_port) owed →
    length s.ledger + length owed ≤ most_rights → MidLawful s owed
arriving s o k l outside none owed are few = record {
  tasks = l.tasks;
  naming = l.naming;
  ports = l.ports;
  numbers = l.numbers;
  receivers = record { most_receive = one_at_most s.live_port s.ledger l.one_receive l.no_rights; members = λ p set in_it. let h = l.members p set in_it in (h.0, h.1, inl h.2) };
  room = no_orphans s owed l.one_receive are few;
  sets = l.sets;
  membership = l.membership;
  logs = l.logs;
  messages = record {
    carried = λ p i e live is. l.carried p i e (queued p i e is) live is;
    gone = λ p j is kind q. elsewhere_too p j kind q (λ not. l.gone p j not is kind q);
    no_entry = λ p j above kind q. elsewhere_too p j kind q (λ not. l.no_entry p j not above kind q);
  };
  requests = l.requests;
  standing = l.standing;
  ground = l.ground;
}
  where
    queued : (p i : ℕ) (e : Entry) → slice_get (queue s p) i ≡ Some e → p ≡ o → s.taken p + i ≡ k → ⊥
    queued p i e is same at =
        let a = slice_get_within (queue s p) i e is in
        let b = length-drop (s.taken p) (s.log p) in
        let c : s.taken p ≡ s.taken o = ap s.taken same in
        let d : length (s.log p) ≡ length (s.log o) = ap (λ (x : ℕ). length (s.log x)) same in
        elim outside [
          | inl h ↦ omega (arith, a, b, c, d, at, h)
          | inr h ↦ omega (arith, a, b, c, d, at, h)
        ]

    elsewhere_too : (p j : ℕ) (kind : Kind) (q : ℕ) → ((p ≡ o → j ≡ k → ⊥) → lying s kind q (in_message p j) ≡ 0) → lying s kind q (in_message p j) ≡ 0
    elsewhere_too p j kind q otherwise = elim (eqb_tells p o) [
      | inl h ↦ elim (eqb_tells j k) [
        | inl g ↦ subst (λ (x : ℕ). lying s kind q (in_message x j) ≡ 0) (sym h.1) (subst (λ (x : ℕ). lying s kind q (in_message o x) ≡ 0) (sym g.1) (none kind q))
        | inr g ↦ otherwise (λ a b. g.1 b)
      ]
      | inr h ↦ otherwise (λ a b. h.1 a)
    ]

pub none_owed : (live : ℕ → Bool) → All (IsOwed live) []
none_owed live j d below = absurd (omega (arith, below))

-- where nothing is owed
pub arrived : (s : State) (o k : ℕ) → IsMoving s o k → IsOutside s o k → ((kind : Kind) (q : ℕ) → lying s kind q (in_message o k) ≡ 0) → length s.ledger ≤ most_rights → MidLawful s []
arrived s o k l outside none few = arriving s o k l outside none [] (none_owed s.live_port) (omega (arith, few))

-- ---- what a right on its way changes

-- the state s with what copying in or out changes, as it is in x
abbrev pub shape : State → State → State
shape s x = record s { naming = x.naming; given = x.given; make_send = x.make_send; sequence = x.sequence; sets_of = x.sets_of; stands = x.stands; ledger = x.ledger }

pub shape-trans : (a b c : State) → b ≡ shape a b → c ≡ shape b c → c ≡ shape a c
shape-trans a b c e f = f ∙ ap (λ (x : State). shape x c) e

pub shape-same : (a b : State) → b ≡ a → b ≡ shape a b
shape-same a b e = e ∙ ap (shape a) (sym e)

-- Rights at other entries and at requests stay, and no request is made.
pub record Apart (s new : State) (o k : ℕ) : Type 0 where
  pub elsewhere : (kind : Kind) (q p j : ℕ) → (p ≡ o → j ≡ k → ⊥) → lying new kind q (in_message p j) ≡ lying s kind q (in_message p j)
  pub kept : (kind : Kind) (q : ℕ) (r : Request) → lying new kind q (in_request r) ≡ lying s kind q (in_request r)
  pub stood : (r : Request) → new.stands r ≡ true → s.stands r ≡ true

pub apart-trans : (a b c : State) (o k : ℕ) → Apart a b o k → Apart b c o k → Apart a c o k
apart-trans a b c o k x y = grind (arith, elsewhere, stood)

pub apart-same : (a b : State) (o k : ℕ) → b ≡ a → Apart a b o k
apart-same a b o k e = grind (arith, elsewhere, stood)

-- tokens that are with the task or at the entry, as a test sees them that passes none there
abbrev pub AreNear : (task o k : ℕ) → List Token → Type 0
AreNear task o k xs = (test : Token → Bool) → ((kind : Kind) (q : ℕ) → test (token kind q (in_task task)) ≡ false) → ((kind : Kind) (q : ℕ) → test (token kind q (in_message o k)) ≡ false) →
    weigh (λ x. if test x then 1 else 0) xs ≡ 0

pub near_none : (task o k : ℕ) → AreNear task o k []
near_none task o k test a b = refl

pub near_task : (task o k : ℕ) (kind : Kind) (p : ℕ) → AreNear task o k (token kind p (in_task task) ∷ [])
near_task task o k kind p test a b = rw (a kind p) refl

pub near_entry : (task o k : ℕ) (kind : Kind) (p : ℕ) → AreNear task o k (token kind p (in_message o k) ∷ [])
near_entry task o k kind p test a b = rw (b kind p) refl

-- Receive rights stay where they are.
pub same_receivers : (live : ℕ → Bool) (owner : ℕ → Option ℕ) (sets_of : ℕ → List ℕ) (ledger now : List Token) → LawfulReceivers live owner sets_of ledger →
    ((q : ℕ) → count (is_of receive q) now ≡ count (is_of receive q) ledger) → ((t q : ℕ) → count (is_held t receive q) ledger ≤ count (is_held t receive q) now) → LawfulReceivers live owner sets_of now
same_receivers live owner sets_of ledger now l same held = record {
  one_receive = λ q is. same q ∙ l.one_receive q is;
  members = λ q set in_it. let h = l.members q set in_it in let some = h.2 in let m = held h.0 q in (h.0, h.1, omega (arith, some, m));
}

-- what is left to see, where the rights that go and come are with the task and at the entry
pub record Leaves (s new : State) (task : ℕ) : Type 0 where
  pub rest : new ≡ shape s new
  pub is_task : s.live_task task ≡ true
  pub others : (t : ℕ) → (t ≡ task → ⊥) → new.naming t ≡ s.naming t
  pub own : TaskNaming new task
  pub same_sets : SameSets (s.naming task) (new.naming task)
  pub stands : KeepsRequests s.stands new.stands new.naming
  pub ports : LawfulPorts s.live_port s.ports_made new.ledger
  pub numbers : LawfulNumbers s.limit new.make_send new.sequence
  pub receivers : LawfulReceivers s.live_port s.set_owner new.sets_of new.ledger
  pub membership : LawfulMembership s.profile s.live_port new.sets_of

module _ (task o k : ℕ) (s : State) (l : IsMoving s o k) (is_task : s.live_task task ≡ true) (make_send sequence : ℕ → ℕ) (sets_of : ℕ → List ℕ) (ledger : List Token)
    (ports : LawfulPorts s.live_port s.ports_made ledger) (numbers : LawfulNumbers s.limit make_send sequence)
    (receivers : LawfulReceivers s.live_port s.set_owner sets_of ledger) (membership : LawfulMembership s.profile s.live_port sets_of) where
  abbrev now : State
  now = record s { make_send = make_send; sequence = sequence; sets_of = sets_of; ledger = ledger }

  -- the task's names stay
  pub same_leaves : TaskNaming now task → Leaves s now task
  same_leaves own = grind (arith, requests_stay)

  -- they are others, with the same sets
  pub other_leaves : (given : ℕ → ℕ → ℕ) (names : Names) (stands : Request → Bool) → LawfulNames names (held now task) → SameSets (s.naming task) names → KeepsRequests s.stands stands (at s.naming task names) →
      Leaves s (record now { naming = at s.naming task names; stands = stands; given = given }) task
  other_leaves given names stands own sets keeps = grind (arith, at_other, at_same)

module _ (s new : State) (task o k : ℕ) (l : IsMoving s o k) (gone come : List Token) (moves : Moves s.ledger new.ledger gone come)
    (near_gone : AreNear task o k gone) (near_come : AreNear task o k come) where
  far : (test : Token → Bool) → ((kind : Kind) (q : ℕ) → test (token kind q (in_task task)) ≡ false) → ((kind : Kind) (q : ℕ) → test (token kind q (in_message o k)) ≡ false) →
      count test new.ledger ≡ count test s.ledger
  far test a b = let m = moves (λ x. if test x then 1 else 0) in let c = near_gone test a b in let d = near_come test a b in omega (arith, m, c, d)

  held_far : (t : ℕ) → (t ≡ task → ⊥) → (kind : Kind) (q : ℕ) → held new t kind q ≡ held s t kind q
  held_far t not kind q = far (is_held t kind q) (λ c r. and_right _ _ (ne_eqb task t (λ e. not (sym e)))) (λ c r. and_right _ _ refl)

  lying_far : (kind : Kind) (q p j : ℕ) → (p ≡ o → j ≡ k → ⊥) → lying new kind q (in_message p j) ≡ lying s kind q (in_message p j)
  lying_far kind q p j not = far (λ x. is_of kind q x && same_place (in_message p j) x.place) (λ c r. and_right _ _ refl) (λ c r. and_right _ _ (elsewhere p o j k not))

  lying_kept : (kind : Kind) (q : ℕ) (r : Request) → lying new kind q (in_request r) ≡ lying s kind q (in_request r)
  lying_kept kind q r = far (λ x. is_of kind q x && same_place (in_request r) x.place) (λ c p. and_right _ _ refl) (λ c p. and_right _ _ refl)

  moved_shape : Leaves s new task → IsMoving (shape s new) o k
  moved_shape v = record {
    tasks = tasks_named s.naming new.naming task v.others s.live_task s.tasks_made l.tasks v.is_task;
    naming = all_named s.naming new.naming task v.others (held s) (held new) l.naming held_far v.own;
    ports = v.ports;
    numbers = v.numbers;
    receivers = v.receivers;
    sets = kept_set_law s.naming new.naming s.set_owner s.sets_made task l.sets v.others v.same_sets;
    membership = v.membership;
    logs = l.logs;
    messages = record {
      carried = λ p i e not live is kind q live_q. lying_far kind q p (s.taken p + i) not ∙ l.carried p i e not live is kind q live_q;
      gone = λ p j not is kind q. lying_far kind q p j not ∙ l.gone p j not is kind q;
      no_entry = λ p j not above kind q. lying_far kind q p j not ∙ l.no_entry p j not above kind q;
    };
    requests = record {
      one_kept = λ r. let a = far (λ x. same_place (in_request r) x.place) (λ c p. refl) (λ c p. refl) in let b = l.one_kept r in omega (arith, a, b);
      once_kept = λ r kind q not. lying_kept kind q r ∙ l.once_kept r kind q not;
    };
    standing = record { ended = λ r not on kind q. lying_kept kind q r ∙ l.ended r (sym (v.stands.ports r on) ∙ not) on kind q };
    ground = all_ground s.live_port s.naming new.naming s.stands new.stands l.ground v.stands;
  }

  pub moved : Leaves s new task → IsMoving new o k
  moved v = subst (λ (x : State). IsMoving x o k) (sym v.rest) (moved_shape v)

  pub moved_apart : Leaves s new task → Apart s new o k
  moved_apart v = record { elsewhere = lying_far; kept = lying_kept; stood = stood v.stands }
