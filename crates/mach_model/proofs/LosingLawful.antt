-- Losing rights, and a request, leave a lawful state midway.
use Rattle.std.proofs.Common.{◌≡◌, ℕ, zero, suc, ◌+◌, ◌<◌, ◌≤◌, List, [], ◌∷◌, Some, refl, sym, ap, subst, ◌∙◌, arith, true, false, Bool, ◌⊎◌, inl, inr, ◌-◌, length, Option, None}
use Rattle.std.specs.Prelude.{if◌then◌else◌, ◌==◌, ◌&&◌, nat_lt, map as list_map, filter, slice_get, drop, All, ℤ, pos, negsuc, ◌||◌, replicate, ◌≢◌}
use Rattle.std.specs.FinMap as map
use Rattle.std.proofs.lemmas.Bool.{ne_eqb, ltb-true, ltb-false, and_left, and_right, or_cases, or_left, or_right, cases_Bool, eq-eqb}
use Rattle.std.proofs.lemmas.Bool.Decides.{eqb_tells}
use Rattle.mach_types.specs.Numbers.{most_references, most_rights, disposition, kind_sent}
use Rattle.mach_types.specs.Tokens.{Kind, receive, send, send_once, Request, dead_name, in_task, in_message, Token, token, count, is_of, is_held, same_kind, Moves, weigh, Place, in_request}
use Rattle.mach_types.specs.Messages.{Entry, to_port}
use Rattle.mach_types.specs.declared.rights.Disposition.TheVariants.{MoveSendOnce, MoveReceive, MoveSend, CopySend, MakeSend, MakeSendOnce}
use Rattle.mach_types.specs.declared.rights.Disposition.{Disposition}
use Rattle.mach_types.specs.Guards.{NoneHolds}
use Rattle.mach_model.specs.State.{State, Target, Names, lookup, held, at, request_at, without_name, with_name, gives}
use Rattle.mach_model.specs.Death.{same_place, LiesAt}
use Rattle.mach_model.specs.CopyIn.{name_kept, IsLegal, taken_by, put_by, CopyRight}
use Rattle.mach_model.specs.Carried.{message_count, lying, mark_count}
use Rattle.mach_model.specs.References.{is_either, LosesAll, LosesReceive, unused_among, LosesOne, unused_once, Deallocates, DestroysTarget, Destroys, SetsSends, AddsTo, RemovesRight, Modifies}
use Rattle.mach_model.specs.Refusals.{added_rights, IsAbove, references_at, references_under, CountsReferences}
use Rattle.mach_model.specs.Notices.{Notice, right_unused, Owed, no_more_senders, name_died, carried_by}
use Rattle.mach_model.specs.Lawful.{LawfulNames, IsLawful, LawfulPorts, is_once, HasReferences, IsRight, StandsOn}
use Rattle.mach_model.specs.Midway.{MidLawful, IsOwed}
use Rattle.mach_model.proofs.Names.{count_le, count_none, held_le_of, length-weigh, both_test, lying_le_of, at_same, at_other, KeepsRequests, requests_stay, without_requests, named_requests, dead_not_right, has_task, tasks_named, all_named, port_kept, port_unnamed, other_unnamed, dead_counted, IsNew, SameSets, SameSets-refl, kept_set_law, removed_sets, IsNoSet, at_law, dead_sets, get_other}
use Rattle.mach_model.proofs.Moving.{one_at_most, moving, arrived, AreNear, same_receivers, Leaves, moved, IsMoving, arriving, shape, shape-trans, near_none}
use Rattle.mach_model.proofs.Copying.{own_right, own_task, other_port, kept_when, one_less, sends_leave, Copies, CopyRight-copies, at_entry, same_held, dead_leaves, come_once, gone_removes}
use Rattle.mach_model.proofs.MessagesLawful.{is_it, put_is, named_new}
use Rattle.mach_model.proofs.Lost.{Loses-lawful, kept_taken, rekept}
use Rattle.mach_model.proofs.Settling.{named_lives, IsReordered-mid, is_at, request_refl}
use Rattle.mach_model.proofs.Midway.{mid_lawful, unowed}
use Rattle.mach_model.proofs.NamesLawful.{without_set-mid, named_as, none_at}
use Rattle.mach_model.specs.NameGuards.{IsSet}
use Rattle.mach_model.specs.Requests.{RequestOn, GivesBack, Keeps, Requests}
use Rattle.mach_model.specs.RequestRefusals.{notify_guards, noted_guards}

-- ---- A name goes or stays, and rights of its task go with no others.

-- ---- rights of one task

-- They are all with the task.
abbrev pub AreOwn : (task : ℕ) → List Token → Type 0
AreOwn task xs = (test : Token → Bool) → ((kind : Kind) (q : ℕ) → test (token kind q (in_task task)) ≡ false) → count test xs ≡ 0

pub own_one : (task : ℕ) (kind : Kind) (p : ℕ) → AreOwn task (token kind p (in_task task) ∷ [])
own_one task kind p test not = rw (not kind p) refl

module _ (task : ℕ) (s new : State) (gone : List Token) (l : IsLawful s) (moves : Moves s.ledger new.ledger gone []) (own : AreOwn task gone) where
  pub far : (test : Token → Bool) → ((kind : Kind) (q : ℕ) → test (token kind q (in_task task)) ≡ false) → count test new.ledger ≡ count test s.ledger
  far test not = let m = moves (λ x. if test x then 1 else 0) in let z = own test not in omega (arith, m, z)

  pub held_far : (t : ℕ) → (t ≡ task → ⊥) → (kind : Kind) (q : ℕ) → held new t kind q ≡ held s t kind q
  held_far t not kind q = far (is_held t kind q) (λ c r. and_right _ _ (ne_eqb task t (λ e. not (sym e))))

  lying_far : (kind : Kind) (q p k : ℕ) → lying new kind q (in_message p k) ≡ lying s kind q (in_message p k)
  lying_far kind q p k = far (λ x. is_of kind q x && same_place (in_message p k) x.place) (λ c r. and_right _ _ refl)

  pub far_carried : (p i : ℕ) (e : Entry) → s.live_port p ≡ true → slice_get (drop (s.taken p) (s.log p)) i ≡ Some e → (kind : Kind) (q : ℕ) →
      s.live_port q ≡ true → lying new kind q (in_message p (s.taken p + i)) ≡ message_count kind q e.message
  far_carried p i e live is kind q live_q = lying_far kind q p (s.taken p + i) ∙ l.carried p i e live is kind q live_q

  pub far_gone : (p k : ℕ) → (k < s.taken p) ⊎ (s.live_port p ≡ false) → (kind : Kind) (q : ℕ) → lying new kind q (in_message p k) ≡ 0
  far_gone p k is kind q = lying_far kind q p k ∙ l.gone p k is kind q

-- ---- under one name

module _ (task : ℕ) (old : State) (ledger : List Token) (l : IsLawful old) (is_task : old.live_task task ≡ true) (gone : List Token) (moves : Moves old.ledger ledger gone []) (near : AreOwn task gone) where
  -- one task's names are others
  named_lost : (naming : ℕ → Names) (stands : Request → Bool) → ((t : ℕ) → (t ≡ task → ⊥) → naming t ≡ old.naming t) → LawfulNames (naming task) (λ kind q. count (is_held task kind q) ledger) →
      SameSets (old.naming task) (naming task) → KeepsRequests old.stands stands naming → MidLawful (record old { naming = naming; stands = stands; ledger = ledger }) (unused_among gone)
  named_lost naming stands others own same keeps = Loses-lawful old (record old { naming = naming; stands = stands; ledger = ledger }) gone [] l (record {
    rest = refl;
    tokens = λ h. let m = moves h in omega (arith, m);
    no_receive = λ p. refl;
    tasks = tasks_named old.naming naming task others old.live_task old.tasks_made l.tasks is_task;
    naming = all_named old.naming naming task others (held old) (λ t kind q. count (is_held t kind q) ledger) l.naming
        (held_far task old (record old { ledger = ledger }) gone l moves near) own;
    numbers = l.numbers;
    sets = kept_set_law old.naming naming old.set_owner old.sets_made task l.sets others same;
    members = l.members;
    membership = l.membership;
    within = l.within;
    carried = far_carried task old (record old { ledger = ledger }) gone l moves near;
    gone_there = far_gone task old (record old { ledger = ledger }) gone l moves near;
    stands = keeps;
  })

  -- the names stay
  pub kept_lost : LawfulNames (old.naming task) (λ kind q. count (is_held task kind q) ledger) → MidLawful (record old { ledger = ledger }) (unused_among gone)
  kept_lost own = named_lost old.naming old.stands (λ t not. refl) own (SameSets-refl (old.naming task)) (requests_stay old l.ground)

  -- a name goes
  pub name_lost : (name : ℕ) → LawfulNames (map.remove (old.naming task) name) (λ kind q. count (is_held task kind q) ledger) → SameSets (old.naming task) (map.remove (old.naming task) name) →
      MidLawful (record (without_name task name old) { ledger = ledger }) (unused_among gone)
  name_lost name own same = named_lost (at old.naming task (map.remove (old.naming task) name)) (request_at old.stands (dead_name task name) false) (at_other old.naming task (map.remove (old.naming task) name))
      (subst (λ (m : Names). LawfulNames m (λ kind q. count (is_held task kind q) ledger)) (sym (at_same old.naming task (map.remove (old.naming task) name) task refl)) own)
      (subst (SameSets (old.naming task)) (sym (at_same old.naming task (map.remove (old.naming task) name) task refl)) same) (without_requests old l.ground task name)

-- ---- a send-once right

module _ (task name p : ℕ) (old mid : State) (l : IsLawful old) (is : lookup old task name ≡ Some (Target.once p)) (rest : mid ≡ record (without_name task name old) { ledger = mid.ledger })
    (moves : Moves old.ledger mid.ledger (token send_once p (in_task task) ∷ []) []) where
  no_port : (q : ℕ) → Target.once p ≡ Target.port q → ⊥
  no_port q e = cc

  pub once_lost : MidLawful mid (unused_among (token send_once p (in_task task) ∷ []))
  once_lost = subst (λ (x : State). MidLawful x (unused_among (token send_once p (in_task task) ∷ []))) (sym rest)
      (name_lost task old mid.ledger l (has_task l.tasks task name (Target.once p) is) (token send_once p (in_task task) ∷ []) moves (own_one task send_once p) name
      (other_unnamed (old.naming task) (held old task) (held mid task) (l.naming task) (λ q. let m = moves (λ x. if is_held task receive q x then 1 else 0) in omega (arith, m))
      (λ q. let m = moves (λ x. if is_held task send q x then 1 else 0) in omega (arith, m)) name (Target.once p) is no_port
      (λ q. let m = moves (λ x. if is_held task send_once q x then 1 else 0) in let e = own_task task (p == q) in omega (arith, m, e)))
      (removed_sets (old.naming task) name (Target.once p) is (λ set e. cc)))

-- ---- rights of a port

module _ (task name p : ℕ) (old mid : State) (l : IsLawful old) (is : lookup old task name ≡ Some (Target.port p)) (gone : List Token)
    (moves : Moves old.ledger mid.ledger gone []) (near : AreOwn task gone)
    (only : (kind : Kind) (q : ℕ) → (q ≡ p → ⊥) → count (is_held task kind q) gone ≡ 0) (no_once : (q : ℕ) → count (is_held task send_once q) gone ≡ 0) where
  same_other : (kind : Kind) (q : ℕ) → (q ≡ p → ⊥) → held mid task kind q ≡ held old task kind q
  same_other kind q not = let m = moves (λ x. if is_held task kind q x then 1 else 0) in let z = only kind q not in omega (arith, m, z)

  same_once : held mid task send_once p ≡ held old task send_once p
  same_once = let m = moves (λ x. if is_held task send_once p x then 1 else 0) in let z = no_once p in omega (arith, m, z)

  few : held mid task send p ≤ most_references
  few = let m = moves (λ x. if is_held task send p x then 1 else 0) in let h = (l.naming task).few_references p in omega (arith, m, h)

  pub port_lost : (b : Bool) → mid ≡ record (name_kept b task name old) { ledger = mid.ledger } →
      (b ≡ true) × (0 < held mid task receive p + held mid task send p) ⊎ (b ≡ false) × (held mid task receive p + held mid task send p ≡ 0) → MidLawful mid (unused_among gone)
  port_lost true rest (inl (e, some)) = subst (λ (x : State). MidLawful x (unused_among gone)) (sym rest)
      (kept_lost task old mid.ledger l (has_task l.tasks task name (Target.port p) is) gone moves near
      (port_kept (old.naming task) (held old task) (held mid task) (l.naming task) p same_other same_once name is some few))
  port_lost false rest (inr (e, none)) = subst (λ (x : State). MidLawful x (unused_among gone)) (sym rest)
      (name_lost task old mid.ledger l (has_task l.tasks task name (Target.port p) is) gone moves near name
      (port_unnamed (old.naming task) (held old task) (held mid task) (l.naming task) p same_other same_once name is none)
      (removed_sets (old.naming task) name (Target.port p) is (λ set e. cc)))
  port_lost true rest (inr (e, none)) = absurd (cc)
  port_lost false rest (inl (e, some)) = absurd (cc)

-- all of them
module _ (task p : ℕ) (xs : List Token) (all : All (λ x. is_either task p x ≡ true) xs) where
  -- a test that neither right passes
  none_of_either : (test : Token → Bool) → test (token receive p (in_task task)) ≡ false → test (token send p (in_task task)) ≡ false → count test xs ≡ 0
  none_of_either test a b = grind (arith, count_none, or_cases, is_it)

  -- none of them is a send-once right
  pub none_unused : unused_among xs ≡ []
  none_unused = go xs (none_of_either (λ x. same_kind send_once x.kind) refl refl)
    where
      go : (ys : List Token) → count (λ x. same_kind send_once x.kind) ys ≡ 0 → unused_among ys ≡ []
      go [] e = refl
      go (y ∷ ys) e = by y.kind (let h : count (λ x. same_kind send_once x.kind) ys ≡ 0 = omega (arith, e) in go ys h) e
        where
          by : (kind : Kind) → unused_among ys ≡ [] → (if same_kind send_once kind then suc zero else zero) + count (λ x. same_kind send_once x.kind) ys ≡ 0 →
              list_map {B = Token × Notice} (λ x. (x, right_unused)) (if same_kind send_once kind then y ∷ filter (λ x. same_kind send_once x.kind) ys else filter (λ x. same_kind send_once x.kind) ys) ≡ []
          by receive h e = h
          by send h e = h
          by send_once h e = absurd (omega (arith, e))

pub all_lost : (task name p : ℕ) (old mid : State) → IsLawful old → lookup old task name ≡ Some (Target.port p) → LosesAll (is_either task p) old.ledger mid.ledger →
    mid ≡ record (without_name task name old) { ledger = mid.ledger } → MidLawful mid []
all_lost task name p old mid l is all rest =
    let a = count_le (is_held task receive p) (is_either task p) (λ x e. or_left (is_held task receive p x) (is_held task send p x) e) mid.ledger in
    let b = count_le (is_held task send p) (is_either task p) (λ x e. or_right (is_held task receive p x) (is_held task send p x) e) mid.ledger in
    let none = all.none_left in
    subst (MidLawful mid) (none_unused task p all.gone all.passed)
    (port_lost task name p old mid l is all.gone all.moves (λ test not. none_of_either task p all.gone all.passed test (not receive p) (not send p))
    (λ kind q not. none_of_either task p all.gone all.passed (is_held task kind q) (not_that kind receive q not) (not_that kind send q not))
    (λ q. none_of_either task p all.gone all.passed (is_held task send_once q) refl refl) false rest
    (inr (refl, omega (arith, a, b, none))))
  where
    not_that : (kind other : Kind) (q : ℕ) → (q ≡ p → ⊥) → is_held task kind q (token other p (in_task task)) ≡ false
    not_that kind other q not = and_left (same_kind kind other && p == q) (task == task) (and_right (same_kind kind other) (p == q) (ne_eqb p q (λ e. not (sym e))))

-- the receive right alone
pub receive_lost : (task name p : ℕ) (old mid : State) → IsLawful old → lookup old task name ≡ Some (Target.port p) → LosesReceive task name p old mid → MidLawful mid []
receive_lost task name p old mid l is d =
    port_lost task name p old mid l is (token receive p (in_task task) ∷ []) d.0 (own_one task receive p) only (λ q. refl) (nat_lt 0 (held old task send p)) d.1
    (elim (cases_Bool (nat_lt 0 (held old task send p))) [
      | inl e ↦ inl (e, (let h = ltb-true 0 (held old task send p) e in let s = sends in omega (arith, h, s)))
      | inr e ↦ inr (e, (let h = ltb-false 0 (held old task send p) e in let s = sends in let n = none in omega (arith, h, s, n)))
    ])
  where
    sends : held mid task send p ≡ held old task send p
    sends = let m = d.0 (λ x. if is_held task send p x then 1 else 0) in omega (arith, m)

    one : held old task receive p ≤ 1
    one =
        let le = held_le_of task receive p old.ledger in
        let most = one_at_most old.live_port old.ledger l.one_receive l.no_rights p in omega (arith, le, most)

    none : held mid task receive p ≡ 0
    none = let m = d.0 (λ x. if is_held task receive p x then 1 else 0) in let e = own_right task receive p refl in let h = one in omega (arith, m, e, h)

    only : (kind : Kind) (q : ℕ) → (q ≡ p → ⊥) → count (is_held task kind q) (token receive p (in_task task) ∷ []) ≡ 0
    only kind q not =
        let e = other_port task task kind receive q p not in omega (arith, e)

-- ---- Losing rights under a name, references and sets leaves a lawful state, midway.

-- ---- send references of one port

-- They are all the task's send rights for the port.
abbrev pub AreSends : (task port : ℕ) → List Token → Type 0
AreSends task p xs = (test : Token → Bool) → test (token send p (in_task task)) ≡ false → count test xs ≡ 0

pub no_sends : (task p : ℕ) → AreSends task p []
no_sends task p test e = refl

pub same_sends : (task p n : ℕ) → AreSends task p (replicate n (token send p (in_task task)))
same_sends task p zero test e = refl
same_sends task p (suc n) test e = grind (arith, same_sends task p n test e)

pub sends_near : (task p o k : ℕ) (xs : List Token) → AreSends task p xs → AreNear task o k xs
sends_near task p o k xs are test a b = are test (a send p)

module _ (task name p : ℕ) (old new : State) (l : IsLawful old) (is : lookup old task name ≡ Some (Target.port p)) (gone come : List Token)
    (moves : Moves old.ledger new.ledger gone come) (are_gone : AreSends task p gone) (are_come : AreSends task p come) where
  abbrev k : ℕ
  k = length (old.log 0)

  others : (test : Token → Bool) → test (token send p (in_task task)) ≡ false → count test new.ledger ≡ count test old.ledger
  others test e = let m = moves (λ x. if test x then 1 else 0) in let a = are_gone test e in let b = are_come test e in omega (arith, m, a, b)

  ports : LawfulPorts old.live_port old.ports_made new.ledger
  ports = grind (arith, others, and_right, ne_eqb, named_lives)

  apart : (c : Kind) (q : ℕ) → (q ≡ p → ⊥) → is_held task c q (token send p (in_task task)) ≡ false
  apart c q not = and_left (same_kind c send && p == q) (task == task) (and_right (same_kind c send) (p == q) (ne_eqb p q (λ e. not (sym e))))

  leaves : (b : Bool) → (b ≡ true) × (0 < held new task receive p + held new task send p) ⊎ (b ≡ false) × (held new task receive p + held new task send p ≡ 0) →
      held new task send p ≤ most_references → Leaves old (record (name_kept b task name old) { ledger = new.ledger }) task
  leaves b kept few = sends_leave task 0 k name p old new.ledger (moving old 0 k l) is (λ c q not. others (is_held task c q) (apart c q not)) (others (is_held task send_once p) refl)
      few ports b kept (same_receivers old.live_port old.set_owner old.sets_of old.ledger new.ledger l.receivers (λ q. others (is_of receive q) refl) (λ t q. let e = others (is_held t receive q) refl in omega (arith, e)))

  pub sends_lawful : (b : Bool) → (b ≡ true) × (0 < held new task receive p + held new task send p) ⊎ (b ≡ false) × (held new task receive p + held new task send p ≡ 0) →
      held new task send p ≤ most_references → length new.ledger ≤ most_rights → new ≡ record (name_kept b task name old) { ledger = new.ledger } → MidLawful new []
  sends_lawful b kept fits few rest =
      let v : Leaves old new task = subst (λ (x : State). Leaves old x task) (sym rest) (leaves b kept fits) in
      arrived new 0 k (moved old new task 0 k (moving old 0 k l) gone come moves (sends_near task p 0 k gone are_gone) (sends_near task p 0 k come are_come) v)
      (inr (let e : length (new.log 0) ≡ k = ap (λ (x : State). length (x.log 0)) v.rest in omega (arith, e)))
      (λ kind q. others (λ x. is_of kind q x && same_place (in_message 0 k) x.place) (and_right (is_of kind q (token send p (in_task task))) false refl) ∙ l.no_entry 0 k (omega arith) kind q) few

-- ---- names of no port

module _ (task name : ℕ) (old : State) (l : IsLawful old) where
  -- a name that stands for no port and no set goes
  pub unnamed_mid : (x : Target) → lookup old task name ≡ Some x → IsNoSet x → ((q : ℕ) → x ≡ Target.port q → ⊥) → ((q : ℕ) → is_once q x ≡ false) → MidLawful (without_name task name old) []
  unnamed_mid x is not_set not_port not_once =
      named_as task old l (has_task l.tasks task name x is) (map.remove (old.naming task) name) (request_at old.stands (dead_name task name) false)
      (other_unnamed (old.naming task) (held old task) (held old task) (l.naming task) (λ q. refl) (λ q. refl) name x is not_port
      (λ q. let b : (if is_once q x then suc zero else zero) ≡ zero = rw (not_once q) refl in omega (arith, b)))
      (at_law old.naming task old.set_owner old.sets_made (map.remove (old.naming task) name) l.sets (removed_sets (old.naming task) name x is not_set)) (without_requests old l.ground task name)

  -- a dead name has so many references
  counted_mid : (n m : ℕ) → lookup old task name ≡ Some (Target.dead n) → HasReferences (Target.dead m) → MidLawful (with_name task name (Target.dead m) old) []
  counted_mid n m is fits = named_as task old l (has_task l.tasks task name (Target.dead n) is) (map.insert (old.naming task) name (Target.dead m)) old.stands
      (dead_counted (old.naming task) (held old task) (held old task) (l.naming task) (λ q. refl) (λ q. refl) (λ q. refl) name n m is fits)
      (at_law old.naming task old.set_owner old.sets_made (map.insert (old.naming task) name (Target.dead m)) l.sets (dead_sets (old.naming task) name n m is))
      (named_requests old l.ground task name (Target.dead m) (inr (dead_not_right (lookup old task name) n is)))

  dead_mid : (n m : ℕ) → lookup old task name ≡ Some (Target.dead n) → m ≤ most_references → (b : Bool) → (b ≡ true → 0 < m) →
      MidLawful (if b then with_name task name (Target.dead m) old else without_name task name old) []
  dead_mid n m is fits true some = counted_mid n m is (some refl, fits)
  dead_mid n m is fits false some = unnamed_mid (Target.dead n) is (λ set e. cc) (λ q e. cc) (λ q. refl)

-- ---- deallocating

one_right : (task p : ℕ) → (if is_held task send p (token send p (in_task task)) then suc zero else zero) ≡ suc zero
one_right task p = own_right task send p refl

once_owed : (task name p : ℕ) (old mid : State) (owed : Owed) → IsLawful old → lookup old task name ≡ Some (Target.once p) → LosesOne task name MoveSendOnce (Target.once p) old mid →
    owed ≡ unused_once p task → MidLawful mid owed
once_owed task name p old mid owed l is d owes = subst (MidLawful mid) (sym owes) (once_lost task name p old mid l is d.rest d.tokens)

pub Deallocates-mid : (task name : ℕ) (old mid : State) (owed : Owed) → IsLawful old → Deallocates task name old mid owed → MidLawful mid owed
Deallocates-mid task name old mid owed l (inl (p, d, none)) = unowed mid owed none
    (sends_lawful task name p old mid l d.found (token send p (in_task task) ∷ []) [] d.tokens (same_sends task p 1) (no_sends task p)
    (nat_lt 1 (held old task send p) || nat_lt 0 (held old task receive p))
    (one_less (held old task send p) (held old task receive p) (held mid task send p) (held mid task receive p) less (let m = d.tokens (λ x. if is_held task receive p x then 1 else 0) in omega (arith, m)))
    (let h = (l.naming task).few_references p in omega (arith, h, less)) (let m = d.tokens (λ x. 1) in let h = l.few_rights in omega (arith, m, h, length-weigh old.ledger, length-weigh mid.ledger)) d.rest)
  where
    less : held mid task send p + 1 ≡ held old task send p
    less = let m = d.tokens (λ x. if is_held task send p x then 1 else 0) in let e = one_right task p in omega (arith, m, e)
Deallocates-mid task name old mid owed l (inr (inl (p, d, owes))) = once_owed task name p old mid owed l d.found d owes
Deallocates-mid task name old mid owed l (inr (inr (n, d, none))) = unowed mid owed none
    (IsReordered-mid (if nat_lt 1 n then with_name task name (Target.dead (n - 1)) old else without_name task name old) mid []
    (dead_mid task name old l n (n - 1) d.found (let h : HasReferences (Target.dead n) = (l.naming task).references name (Target.dead n) d.found in let f = h.1 in omega (arith, f)) (nat_lt 1 n)
    (λ e. let h = ltb-true 1 n e in omega (arith, h)))
    (record { rest = d.rest; tokens = same_tokens (nat_lt 1 n) }))
  where
    same_tokens : (b : Bool) → Moves (if b then with_name task name (Target.dead (n - 1)) old else without_name task name old).ledger mid.ledger [] []
    same_tokens true = d.tokens
    same_tokens false = d.tokens

-- ---- destroying

pub DestroysTarget-mid : (task name : ℕ) (old mid : State) → IsLawful old → (target : Target) (owed : Owed) → lookup old task name ≡ Some target → DestroysTarget task name target old mid owed →
    MidLawful mid owed
DestroysTarget-mid task name old mid l (Target.port p) owed is d = unowed mid owed d.2 (all_lost task name p old mid l is d.0 d.1)
DestroysTarget-mid task name old mid l (Target.once p) owed is d = once_owed task name p old mid owed l is d.0 d.1
DestroysTarget-mid task name old mid l (Target.dead n) owed is d =
    unowed mid owed d.1 (subst (λ (x : State). MidLawful x []) (sym d.0) (unnamed_mid task name old l (Target.dead n) is (λ set e. cc) (λ q e. cc) (λ q. refl)))
DestroysTarget-mid task name old mid l (Target.set set) owed is d = unowed mid owed d.1 (subst (λ (x : State). MidLawful x []) (sym d.0) (without_set-mid task name set old l is))

pub Destroys-mid : (task name : ℕ) (old mid : State) (owed : Owed) → IsLawful old → Destroys task name old mid owed → MidLawful mid owed
Destroys-mid task name old mid owed l (target, is, d) = DestroysTarget-mid task name old mid l target owed is d

-- ---- references by a number

weigh_replicate : (h : Token → ℕ) (n : ℕ) (x : Token) → h x ≡ 1 → weigh h (replicate n x) ≡ n
weigh_replicate h zero x e = refl
weigh_replicate h (suc n) x e = let r = weigh_replicate h n x e in omega (arith, r, e)

-- what the guards leave
pub record Fits (n m : ℕ) (delta : ℤ) (rights : ℕ) : Type 0 where
  pub references : m ≤ most_references
  pub room : rights + (m - n) ≤ most_rights

adds_fits : (n m : ℕ) (delta : ℤ) (rights : ℕ) → AddsTo n delta m → ¬ (IsAbove n delta) → n ≤ most_references → ¬ (most_rights < rights + added_rights delta) → Fits n m delta rights
adds_fits n m (pos k) rights adds not_above fits room = record { references = omega (arith, adds, not_above); room = omega (arith, adds, room) }
adds_fits n m (negsuc k) rights adds not_above fits room = record { references = omega (arith, adds, fits); room = omega (arith, adds, room) }

module _ (task name p m : ℕ) (old mid : State) (l : IsLawful old) (is : lookup old task name ≡ Some (Target.port p)) (d : SetsSends task name p m old mid) where
  now_held : held mid task send p ≡ m
  now_held = grind (arith, weigh_replicate, one_right)

  still_receives : held mid task receive p ≡ held old task receive p
  still_receives = grind (arith, same_sends)

  sends_set : (delta : ℤ) → Fits (held old task send p) m delta (length old.ledger) → MidLawful mid []
  sends_set delta fits = sends_lawful task name p old mid l is (replicate (held old task send p - m) (token send p (in_task task))) (replicate (m - held old task send p) (token send p (in_task task)))
      d.tokens (same_sends task p (held old task send p - m)) (same_sends task p (m - held old task send p))
      (nat_lt 0 m || nat_lt 0 (held old task receive p)) (let n = now_held in let r = still_receives in
      kept_when (nat_lt 0 m) (nat_lt 0 (held old task receive p)) (held mid task receive p + held mid task send p) (λ e. let h = ltb-true 0 m e in omega (arith, h, n))
      (λ e. let h = ltb-true 0 (held old task receive p) e in omega (arith, h, r))
      (λ e f. let h = ltb-false 0 m e in let g = ltb-false 0 (held old task receive p) f in omega (arith, h, g, n, r)))
      (let f = fits.references in let h = now_held in omega (arith, f, h))
      (let f = fits.room in
      let t = d.tokens (λ x. 1) in
      let a = weigh_replicate (λ x. 1) (held old task send p - m) (token send p (in_task task)) refl in
      let b = weigh_replicate (λ x. 1) (m - held old task send p) (token send p (in_task task)) refl in
      omega (arith, f, t, a, b, length-weigh old.ledger, length-weigh mid.ledger)) d.rest

-- What the guards of a change by a number say, where none holds.
pub record Unrefused (s : State) (task name right : ℕ) (delta : ℤ) : Type 0 where
  pub not_above : ¬ (CountsReferences right × IsAbove (references_at s task name right) delta)
  pub room : ¬ ((right ≡ 0) × (most_rights < length s.ledger + added_rights delta))

pub Modifies-mid : (task name right : ℕ) (delta : ℤ) (old mid : State) (owed : Owed) → IsLawful old → Unrefused old task name right delta → Modifies task name right delta old mid owed →
    MidLawful mid owed
Modifies-mid task name right delta old mid owed l u (inl (p, m, is_send, is, adds, d, none)) = unowed mid owed none
    (sends_set task name p m old mid l is d delta (adds_fits (held old task send p) m delta (length old.ledger) adds
    (λ above. u.not_above (inl is_send, subst (λ (n : ℕ). IsAbove n delta) (sym many) above)) ((l.naming task).few_references p) (λ more. u.room (is_send, more))))
  where
    many : references_at old task name right ≡ held old task send p
    many = ap (λ (r : ℕ). references_at old task name r) is_send ∙ ap (λ o. references_under old task o 0) is
Modifies-mid task name right delta old mid owed l u (inr (inl (n, m, is_dead, is, adds, rest, none))) =
    unowed mid owed none (subst (λ (x : State). MidLawful x []) (sym rest) (dead_mid task name old l n m is fits (nat_lt 0 m) (ltb-true 0 m)))
  where
    many : references_at old task name right ≡ n
    many = ap (λ (r : ℕ). references_at old task name r) is_dead ∙ ap (λ o. references_under old task o 4) is

    few : (delta : ℤ) → AddsTo n delta m → ¬ (IsAbove n delta) → n ≤ most_references → m ≤ most_references
    few (pos k) adds not_above fits = omega (arith, adds, not_above)
    few (negsuc k) adds not_above fits = omega (arith, adds, fits)

    fits : m ≤ most_references
    fits =
        let h : HasReferences (Target.dead n) = (l.naming task).references name (Target.dead n) is in
        few delta adds (λ above. u.not_above (inr is_dead, subst (λ (n : ℕ). IsAbove n delta) (sym many) above)) h.1
Modifies-mid task name right delta old mid owed l u (inr (inr (inl (uncounted, none, rest, owes)))) = unowed mid owed owes (subst (λ (x : State). MidLawful x []) (sym rest) (mid_lawful old l))
Modifies-mid task name right delta old mid owed l u (inr (inr (inr (target, one, is, d)))) = go target is d
  where
    go : (target : Target) → lookup old task name ≡ Some target → RemovesRight right task name target old mid owed → MidLawful mid owed
    go (Target.port p) is d = unowed mid owed d.2 (receive_lost task name p old mid l is d.1)
    go (Target.once p) is d = DestroysTarget-mid task name old mid l (Target.once p) owed is d.1
    go (Target.set set) is d = DestroysTarget-mid task name old mid l (Target.set set) owed is d.1
    go (Target.dead n) is d = absurd d

-- ---- A request leaves a lawful state midway. Its notify right is seen as lying at an entry that no log has until the right that the request
-- kept before is given.

-- ---- the notify right is copied in

once_sent : (number : ℕ) (given : Disposition) → disposition number ≡ Some given → (number ≡ 18) ⊎ (number ≡ 21) → kind_sent given ≡ send_once
once_sent number given is (inl e) = grind arith
once_sent number given is (inr e) = grind arith

-- what is taken from the task was at no request
taken_far : (s : State) (task : ℕ) (test : Token → Bool) → ((kind : Kind) (q : ℕ) → test (token kind q (in_task task)) ≡ false) → (given : Disposition) (target : Target) → IsLegal s task given target →
    weigh (λ x. if test x then 1 else 0) (taken_by given target task) ≡ 0
taken_far s task test not MoveReceive (Target.port q) legal = rw (not receive q) refl
taken_far s task test not MoveSend (Target.port q) legal = rw (not send q) refl
taken_far s task test not MoveSendOnce (Target.once q) legal = rw (not send_once q) refl
taken_far s task test not CopySend (Target.port q) legal = refl
taken_far s task test not MakeSend (Target.port q) legal = refl
taken_far s task test not MakeSendOnce (Target.port q) legal = refl
taken_far s task test not MoveSend (Target.dead n) legal = refl
taken_far s task test not MoveSendOnce (Target.dead n) legal = refl
taken_far s task test not CopySend (Target.dead n) legal = refl
taken_far s task test not given target legal = absurd legal

and_false : (a b : Bool) → b ≡ false → (a && b) ≡ false
and_false true b e = e
and_false false b e = refl

-- A send-once right that was copied in for a request, as if it still lay at the entry.
record Ready (s copied : State) (o k_request : ℕ) (r : Request) (q : ℕ) : Type 0 where
  ledger : List Token
  copies : Copies s (record copied { ledger = ledger }) o k_request send_once (to_port q)
  moves : Moves ledger copied.ledger (token send_once q (in_message o k_request) ∷ []) (token send_once q (in_request r) ∷ [])
  -- what requests keep is as it was
  kept : (test : Token → Bool) → ((t : ℕ) (kind : Kind) (p : ℕ) → test (token kind p (in_task t)) ≡ false) → ((p : ℕ) → test (token send_once p (in_message o k_request)) ≡ false) →
      count test ledger ≡ count test s.ledger

module _ (task number notify q o k_request : ℕ) (r : Request) (s copied : State) (l : IsMoving s o k_request) (c : CopyRight task (in_request r) number notify s (to_port q) copied)
    (once : kind_sent c.given ≡ send_once) where
  put : (place : Place) → put_by c.given c.target place ≡ token send_once q place ∷ []
  put place = put_is s task c.given c.target q c.legal c.mark_is place ∙ ap (λ (kind : Kind). token kind q place ∷ []) once

  own_kept : (if is_at send_once q (in_request r) (token send_once q (in_request r)) then suc zero else zero) ≡ suc zero
  own_kept = rw (eq-eqb q q refl, request_refl r) refl

  some : 0 < count (is_at send_once q (in_request r)) copied.ledger
  some = grind (arith, is_at, taken_far, and_false, put, own_kept)

  taken : (ys : List Token) × Moves copied.ledger ys (token send_once q (in_request r) ∷ []) []
  taken = kept_taken send_once q r copied.ledger some

  abbrev ledger : List Token
  ledger = token send_once q (in_message o k_request) ∷ taken.0

  at_place : Copies s (record copied { ledger = ledger }) o k_request (kind_sent c.given) (to_port q)
  at_place = CopyRight-copies task o k_request number notify s (to_port q) (record copied { ledger = ledger }) l (record {
    given = c.given;
    is_given = c.is_given;
    target = c.target;
    found = c.found;
    legal = c.legal;
    mark_is = c.mark_is;
    rest = ap (λ (x : State). record x { ledger = ledger }) c.rest;
    tokens = λ h.
        let a = c.tokens h in
        let b = taken.1 h in
        let e = ap (weigh h) (put (in_request r)) in
        let d = ap (weigh h) (put (in_message o k_request)) in omega (arith, a, b, e, d);
  })

  ready : Ready s copied o k_request r q
  ready = record {
    ledger = ledger;
    copies = subst (λ (kind : Kind). Copies s (record copied { ledger = ledger }) o k_request kind (to_port q)) once at_place;
    moves = λ h. let b = taken.1 h in omega (arith, b);
    kept = λ test not_task not_entry.
        let a = c.tokens (λ x. if test x then 1 else 0) in
        let b = taken.1 (λ x. if test x then 1 else 0) in
        let z = taken_far s task test (not_task task) c.given c.target c.legal in
        let e = ap (weigh (λ x. if test x then 1 else 0)) (put (in_request r)) in
        let f : (if test (token send_once q (in_message o k_request)) then suc zero else zero) ≡ zero = rw (not_entry q) refl in omega (arith, a, b, z, e, f);
  }

-- ---- the right that was kept comes out

-- The state after that, but for the notify right, which is still at the entry.
record Given (copied back : State) (ledger : List Token) (task o k_request : ℕ) (r : Request) : Type 0 where
  given : List Token
  keeps : IsMoving (record back { ledger = given }) o k_request
  same_shape : record back { ledger = given } ≡ shape (record copied { ledger = ledger }) (record back { ledger = given })
  moves : (h : Token → ℕ) → weigh h back.ledger + weigh h ledger ≡ weigh h copied.ledger + weigh h given
  none : count (λ x. same_place (in_request r) x.place) given ≡ 0
  way : (kind : Kind) (q : ℕ) → count (λ x. is_of kind q x && same_place (in_message o k_request) x.place) given ≡ count (λ x. is_of kind q x && same_place (in_message o k_request) x.place) ledger
  few : length given ≡ length ledger
  names : (n : ℕ) (x : Target) → lookup copied task n ≡ Some x → lookup back task n ≡ Some x

module _ (task name o k_request : ℕ) (r : Request) (before copied back : State) (ledger : List Token) (b : IsLawful before) (l : IsMoving (record copied { ledger = ledger }) o k_request)
    (is_task : copied.live_task task ≡ true)
    (kept : (test : Token → Bool) → ((t : ℕ) (kind : Kind) (p : ℕ) → test (token kind p (in_task t)) ≡ false) → ((p : ℕ) → test (token send_once p (in_message o k_request)) ≡ false) →
    count test ledger ≡ count test before.ledger) where
  all_kept : count (λ x. same_place (in_request r) x.place) ledger ≡ count (λ x. same_place (in_request r) x.place) before.ledger
  all_kept = kept (λ x. same_place (in_request r) x.place) (λ t kind p. refl) (λ p. refl)

  abbrev w : State
  w = record copied { ledger = ledger }

  none_kept : before.stands r ≡ false → Given copied copied ledger task o k_request r
  none_kept ended = record {
    given = ledger;
    keeps = l;
    same_shape = refl;
    moves = λ h. refl;
    none = all_kept ∙ none_at before b r ended;
    way = λ kind q. refl;
    few = refl;
    names = λ n x e. e;
  }

  abbrev without : State
  without = record copied { stands = request_at copied.stands r false }

  dead_kept : count (λ x. same_place (in_request r) x.place) before.ledger ≡ 0 → Given copied without ledger task o k_request r
  dead_kept none = record {
    given = ledger;
    keeps = rekept w ledger o k_request r false l (record {
      far = λ test x y. refl;
      of = λ kind q. refl;
      one = let e = all_kept in omega (arith, e, none);
      none = λ e. all_kept ∙ none;
      on = λ e. absurd (cc);
    });
    same_shape = refl;
    moves = λ h. refl;
    none = all_kept ∙ none;
    way = λ kind q. refl;
    few = refl;
    names = λ n x e. e;
  }

  module _ (q : ℕ) (lies : LiesAt before send_once q (in_request r)) (unused : IsNew (copied.naming task) name) where
    there : 0 < count (is_at send_once q (in_request r)) ledger
    there = grind (arith, is_at, and_false)

    taken_out : (ys : List Token) × Moves ledger ys (token send_once q (in_request r) ∷ []) []
    taken_out = kept_taken send_once q r ledger there

    abbrev on_way : List Token
    on_way = token send_once q (in_message o k_request) ∷ taken_out.0

    abbrev come : List Token
    come = token send_once q (in_task task) ∷ taken_out.0

    none_left : count (λ x. same_place (in_request r) x.place) taken_out.0 ≡ 0
    none_left = grind (arith, taken_out, request_refl)

    w2_keeps : IsMoving (record w { stands = request_at copied.stands r false; ledger = on_way }) o k_request
    w2_keeps = rekept w on_way o k_request r false l (record {
      far = λ test x y.
          let m = taken_out.1 (λ x. if test x then 1 else 0) in
          let a : (if test (token send_once q (in_request r)) then suc zero else zero) ≡ zero = rw (x q) refl in
          let c : (if test (token send_once q (in_message o k_request)) then suc zero else zero) ≡ zero = rw (y q) refl in omega (arith, m, a, c);
      of = λ kind p. let m = taken_out.1 (λ x. if is_of kind p x then 1 else 0) in omega (arith, m);
      one = let n = none_left in omega (arith, n);
      none = λ e. (let n = none_left in omega (arith, n));
      on = λ e. absurd (cc);
    })

    abbrev named : State
    named = record (with_name task name (Target.once q) (gives task name copied)) { stands = request_at copied.stands r false }

    named_keeps : IsMoving (record named { ledger = come }) o k_request
    named_keeps = (come_once task o k_request (record w { stands = request_at copied.stands r false; ledger = on_way }) (record named { ledger = come }) send_once q w2_keeps is_task (λ h. omega arith)
        (gives task name copied).given name refl unused refl).keeps

    given_kept : (back : State) → back ≡ record named { ledger = back.ledger } → Moves copied.ledger back.ledger (token send_once q (in_request r) ∷ []) (token send_once q (in_task task) ∷ []) →
        Given copied back ledger task o k_request r
    given_kept back rest moves = record {
      given = come;
      keeps = subst (λ (x : State). IsMoving x o k_request) (sym same) named_keeps;
      same_shape = same ∙ ap (shape w) (sym same);
      moves = λ h. let m = moves h in let n = taken_out.1 h in omega (arith, m, n);
      none = let n = none_left in omega (arith, n);
      way = λ kind p.
          let n = taken_out.1 (λ x. if is_of kind p x && same_place (in_message o k_request) x.place then 1 else 0) in
          let a = both_test (is_of kind p (token send_once q (in_request r))) false (inr refl) in
          let c = both_test (is_of kind p (token send_once q (in_task task))) false (inr refl) in omega (arith, n, a, c);
      few = let n = taken_out.1 (λ x. 1) in omega (arith, n, length-weigh taken_out.0, length-weigh ledger);
      names = λ n x e. ap (λ (s : State). lookup s task n) rest ∙ ap (λ (m : Names). map.get m n) (at_same copied.naming task (map.insert (copied.naming task) name (Target.once q)) task refl)
          ∙ get_other (copied.naming task) name (Target.once q) n (λ is. (let f : lookup copied task n ≡ None = subst (λ (y : ℕ). lookup copied task y ≡ None) (sym is) unused.unused in cc)) ∙ e;
    }
      where
        same : record back { ledger = come } ≡ record named { ledger = come }
        same = ap (λ (x : State). record x { ledger = come }) rest

  gives_back : GivesBack task r before copied name back → Given copied back ledger task o k_request r
  gives_back (inl (ended, null, is)) = subst (λ (x : State). Given copied x ledger task o k_request r) (sym is) (none_kept ended)
  gives_back (inr (inl (stood, none, dead, is))) = subst (λ (x : State). Given copied x ledger task o k_request r) (sym is) (dead_kept none)
  gives_back (inr (inr (q, named_state, stood, lies, n, moves, is))) =
      given_kept q lies (named_new task name (Target.once q) copied named_state n) back
      (is ∙ ap (λ (x : State). record x { stands = request_at copied.stands r false; ledger = back.ledger }) n.rest) moves

-- ---- the new right is kept, or used at once

named_port_lives : (s : State) (o k_request : ℕ) → IsMoving s o k_request → (task name p : ℕ) → lookup s task name ≡ Some (Target.port p) → s.live_port p ≡ true
named_port_lives s o k_request l task name p is = grind (arith, (l.naming task).has_right name p is, held_le_of task receive p s.ledger, held_le_of task send p s.ledger)

not_above : (a b : ℕ) → (b < a → ⊥) → a ≤ b
not_above a b not = omega (arith, not)

-- the state after the right that was kept is given, with the notify right still at an entry that no log has
module _ (task name variant sync notify q : ℕ) (r : Request) (old copied back mid : State) (owed : Owed) (l : IsLawful old) (y : Ready old copied 0 (length (old.log 0)) r q)
    (g : Given copied back y.ledger task 0 (length (old.log 0)) r) (good : NoneHolds (noted_guards old copied task name variant sync notify)) (on : RequestOn copied task name variant r)
    (is_task : old.live_task task ≡ true) where
  abbrev k_request : ℕ
  k_request = length (old.log 0)

  abbrev v : State
  v = record back { ledger = g.given }

  changed : v ≡ shape old v
  changed = shape-trans old (record copied { ledger = y.ledger }) v y.copies.rest g.same_shape

  task_lives : back.live_task task ≡ true
  task_lives = ap (λ (s : State). s.live_task task) changed ∙ is_task

  same_live : (p : ℕ) → back.live_port p ≡ copied.live_port p
  same_live p = ap (λ (s : State). s.live_port p) g.same_shape

  -- one right is at the entry
  here : (kind : Kind) (p : ℕ) → count (λ x. is_of kind p x && same_place (in_message 0 k_request) x.place) g.given ≡ mark_count kind p send_once (to_port q)
  here kind p = let a = g.way kind p in let b = y.copies.lies kind p in let z = l.no_entry 0 k_request (omega arith) kind p in omega (arith, a, b, z)

  live : back.live_port q ≡ true
  live = grind (arith, here send_once q, lying_le_of v send_once q (in_message 0 k_request))

  log : (s : State) → s ≡ shape v s → length (s.log 0) ≤ k_request
  log s e = let a = ap (λ (x : State). length (x.log 0)) e in let b = ap (λ (x : State). length (x.log 0)) changed in omega (arith, a, b)

  few_given : length g.given ≤ most_rights
  few_given = grind (arith, not_above, length-weigh)

  -- a right that is used
  spent : Moves back.ledger mid.ledger (token send_once q (in_request r) ∷ []) [] → Moves g.given mid.ledger (token send_once q (in_message 0 k_request) ∷ []) []
  spent moves h = let a = moves h in let b = g.moves h in let c = y.moves h in omega (arith, a, b, c)

  used : Moves back.ledger mid.ledger (token send_once q (in_request r) ∷ []) [] → IsMoving (record back { ledger = mid.ledger }) 0 k_request
  used moves = (gone_removes task 0 k_request v (record back { ledger = mid.ledger }) send_once q refl g.keeps task_lives (spent moves) refl).keeps

  none_here : Moves back.ledger mid.ledger (token send_once q (in_request r) ∷ []) [] → (kind : Kind) (p : ℕ) → lying mid kind p (in_message 0 k_request) ≡ 0
  none_here moves kind p = grind (arith, spent moves (λ x. if is_of kind p x && same_place (in_message 0 k_request) x.place then 1 else 0), here kind p, at_entry kind p 0 k_request send_once q)

  -- a lawful state, where the right is owed a notice
  owing : (notice : Notice) → ((place : Place) → carried_by notice place ≡ []) → owed ≡ (token send_once q (in_request r), notice) ∷ [] → mid ≡ shape v mid →
      Moves back.ledger mid.ledger (token send_once q (in_request r) ∷ []) [] → IsMoving mid 0 k_request → MidLawful mid owed
  owing notice carries is e moves m = subst (MidLawful mid) (sym is)
      (arriving mid 0 k_request m (inr (log mid e)) (none_here moves) ((token send_once q (in_request r), notice) ∷ []) are few)
    where
      are : All (IsOwed mid.live_port) ((token send_once q (in_request r), notice) ∷ [])
      are zero d below = record { once = refl; live = ap (λ (s : State). s.live_port q) e ∙ live; carries = carries }
      are (suc j) d below = absurd (omega (arith, below))

      few : length mid.ledger + 1 ≤ most_rights
      few = let a = spent moves (λ x. 1) in let b = few_given in omega (arith, a, b, length-weigh g.given, length-weigh mid.ledger)

  -- the name as it was copied is there after it
  named_there : (o : Option Target) → lookup copied task name ≡ o → lookup back task name ≡ o
  named_there (Some x) e = g.names name x e
  named_there None e = absurd (good.0 e)

  told_now : (notice : Notice) → ((place : Place) → carried_by notice place ≡ []) → owed ≡ (token send_once q (in_request r), notice) ∷ [] →
      Moves back.ledger mid.ledger (token send_once q (in_request r) ∷ []) [] → mid ≡ record back { ledger = mid.ledger } → MidLawful mid owed
  told_now notice carries is moves rest = owing notice carries is (rest ∙ ap (shape v) (sym rest)) moves (subst (λ (x : State). IsMoving x 0 k_request) (sym rest) (used moves))

  module _ (n : ℕ) (is : lookup back task name ≡ Some (Target.dead n)) (fits : n + 1 ≤ most_references) (moves : Moves back.ledger mid.ledger (token send_once q (in_request r) ∷ []) [])
      (rest : mid ≡ record (with_name task name (Target.dead (n + 1)) back) { ledger = mid.ledger }) where
    abbrev s : State
    s = record back { ledger = mid.ledger }

    m : IsMoving s 0 k_request
    m = used moves

    stays : Moves s.ledger mid.ledger [] []
    stays h = refl

    same : (t : ℕ) (c : Kind) (p : ℕ) → held mid t c p ≡ held s t c p
    same = same_held task 0 k_request s mid m stays

    more_references : IsMoving mid 0 k_request
    more_references = moved s mid task 0 k_request m [] [] stays (near_none task 0 k_request) (near_none task 0 k_request)
        (subst (λ (x : State). Leaves s x task) (sym rest) (dead_leaves task 0 k_request s mid m stays task_lives (map.insert (back.naming task) name (Target.dead (n + 1))) back.stands
        (dead_counted (back.naming task) (held s task) (held mid task) (m.naming task) (same task receive) (same task send) (same task send_once) name n (n + 1) is (omega arith, fits))
        (dead_sets (back.naming task) name n (n + 1) is) (named_requests s m.ground task name (Target.dead (n + 1)) (inr (dead_not_right (lookup back task name) n is)))))

    told_dead : owed ≡ (token send_once q (in_request r), name_died name) ∷ [] → MidLawful mid owed
    told_dead owes = owing (name_died name) (λ place. refl) owes (rest ∙ ap (shape v) (sym rest)) moves more_references

  -- what the request is on
  founded : ((n : ℕ) → r ≡ dead_name task name → lookup back task name ≢ Some (Target.dead n)) → StandsOn back.live_port back.naming r
  founded not_dead = by on
    where
      by : RequestOn copied task name variant r → StandsOn back.live_port back.naming r
      by (inl (is, (p, named, e))) = subst (StandsOn back.live_port back.naming) (sym e) (port_lives p named)
        where
          port_lives : (p : ℕ) → lookup copied task name ≡ Some (Target.port p) → back.live_port p ≡ true
          port_lives p e = named_port_lives v 0 k_request g.keeps task name p (g.names name (Target.port p) e)
      by (inr (inl (is, (p, named, e)))) = subst (StandsOn back.live_port back.naming) (sym e) (named_port_lives v 0 k_request g.keeps task name p (g.names name (Target.port p) named))
      by (inr (inr (is, e))) = subst (StandsOn back.live_port back.naming) (sym e) (right (lookup copied task name) refl)
        where
          right : (o : Option Target) → lookup copied task name ≡ o → IsRight (lookup back task name)
          right (Some (Target.port p)) f = subst IsRight (sym (g.names name (Target.port p) f)) tt
          right (Some (Target.once p)) f = subst IsRight (sym (g.names name (Target.once p) f)) tt
          right (Some (Target.dead n)) f = absurd (not_dead n e (g.names name (Target.dead n) f))
          right (Some (Target.set t)) f = absurd (good.1.0 (inr (is, subst IsSet (sym f) tt)))
          right None f = absurd (good.0 f)

  abbrev new : State
  new = record back { stands = request_at back.stands r true }

  kept_now : ((n : ℕ) → r ≡ dead_name task name → lookup back task name ≢ Some (Target.dead n)) → mid ≡ record back { stands = request_at back.stands r true } → owed ≡ [] → MidLawful mid owed
  kept_now not_dead rest none = unowed mid owed none (subst (λ (x : State). MidLawful x []) (sym rest) kept)
    where
      goes : (h : Token → ℕ) → weigh h back.ledger + h (token send_once q (in_message 0 k_request)) ≡ weigh h g.given + h (token send_once q (in_request r))
      goes h = let b = g.moves h in let c = y.moves h in omega (arith, b, c)

      keeps : IsMoving new 0 k_request
      keeps = rekept v back.ledger 0 k_request r true g.keeps (record {
        far = λ test a b.
            let m = goes (λ x. if test x then 1 else 0) in
            let c : (if test (token send_once q (in_request r)) then suc zero else zero) ≡ zero = rw (a q) refl in
            let d : (if test (token send_once q (in_message 0 k_request)) then suc zero else zero) ≡ zero = rw (b q) refl in omega (arith, m, c, d);
        of = λ kind p. let m = goes (λ x. if is_of kind p x then 1 else 0) in omega (arith, m);
        one =
            let m = goes (λ x. if same_place (in_request r) x.place then 1 else 0) in
            let n = g.none in
            let c : (if same_place (in_request r) (in_request r) then suc zero else zero) ≡ suc zero = rw (request_refl r) refl in omega (arith, m, n, c);
        none = λ e. absurd (cc);
        on = λ e. founded not_dead;
      })

      none_way : (kind : Kind) (p : ℕ) → lying new kind p (in_message 0 k_request) ≡ 0
      none_way kind p =
          let m = goes (λ x. if is_of kind p x && same_place (in_message 0 k_request) x.place then 1 else 0) in
          let a = here kind p in
          let b = at_entry kind p 0 k_request send_once q in
          let c = both_test (is_of kind p (token send_once q (in_request r))) false (inr refl) in omega (arith, m, a, b, c)

      kept : MidLawful new []
      kept = arriving new 0 k_request keeps (inr (log new refl)) none_way [] (λ j d below. absurd (omega arith))
          (let m = goes (λ x. 1) in let f = few_given in omega (arith, m, f, length-weigh g.given, length-weigh back.ledger))

  one_more : (n : ℕ) → r ≡ dead_name task name → lookup back task name ≡ Some (Target.dead n) → n + 1 ≤ most_references
  one_more n e is =
      let h : HasReferences (Target.dead n) = (g.keeps.naming task).references name (Target.dead n) is in
      elim (eqb_tells n most_references) [
        | inr f ↦ (let a = h.1 in let b = f.1 in omega (arith, a, b))
        | inl f ↦ absurd (by on f.1)
      ]
    where
      by : RequestOn copied task name variant r → n ≡ most_references → ⊥
      by (inl (is, (p, named, f))) same = let a = sym e ∙ f in cc
      by (inr (inl (is, (p, named, f)))) same = let a = sym e ∙ f in cc
      by (inr (inr (is_name, f))) same = good.1.1.1.0 (is_name, was (lookup copied task name) refl)
        where
          was : (o : Option Target) → lookup copied task name ≡ o → lookup copied task name ≡ Some (Target.dead most_references)
          was (Some x) a = a ∙ sym (g.names name x a) ∙ is ∙ ap (λ (m : ℕ). Some (Target.dead m)) same
          was None a = absurd (good.0 a)

  keeps_mid : Keeps task name sync r q back mid owed → MidLawful mid owed
  keeps_mid (inl (p, e, none, moves, rest, owes)) = told_now (no_more_senders (back.make_send p)) (λ place. refl) owes moves rest
  keeps_mid (inr (inl (n, e, is, moves, rest, owes))) = told_dead n is (one_more n e is) moves rest owes
  keeps_mid (inr (inr (not_now, not_dead, rest, owes))) = kept_now not_dead rest owes

-- ---- the whole

-- where nothing is asked for, the right that was kept is back
taken_away : (task : ℕ) (r : Request) (old back : State) → IsLawful old → Given old back old.ledger task 0 (length (old.log 0)) r → MidLawful back []
taken_away task r old back l g = IsReordered-mid (record back { ledger = g.given }) back []
    (arriving (record back { ledger = g.given }) 0 (length (old.log 0)) g.keeps (inr (let a = ap (λ (x : State). length (x.log 0)) g.same_shape in omega (arith, a)))
    (λ kind p. g.way kind p ∙ l.no_entry 0 (length (old.log 0)) (omega arith) kind p) [] (λ j d below. absurd (omega arith))
    (let f = g.few in let h = l.few_rights in omega (arith, f, h)))
    (record { rest = refl; tokens = λ h. let m = g.moves h in omega (arith, m) })

pub Requests-mid : (task name variant sync notify number previous : ℕ) (old mid : State) (owed : Owed) → IsLawful old → old.live_task task ≡ true → NoneHolds (notify_guards old task name variant sync notify number) →
    (x : Requests task name variant sync notify number previous old mid owed) → NoneHolds (noted_guards old x.copied task name variant sync notify) → MidLawful mid owed
Requests-mid task name variant sync notify number previous old mid owed l is_task good x unrefused = by x.copy
  where
    number_is : notify ≢ 0 → (number ≡ 18) ⊎ (number ≡ 21)
    number_is not = grind arith

    none_copied : x.copied ≡ old → mid ≡ x.back → MidLawful mid []
    none_copied e f = subst (λ (s : State). MidLawful s []) (sym f) (taken_away task x.request old x.back l
        (gives_back task previous 0 (length (old.log 0)) x.request old old x.back old.ledger l (moving old 0 (length (old.log 0)) l) is_task (λ test a b. refl) (subst (λ (s : State). GivesBack task x.request old s previous x.back) e x.given_back)))

    by : (notify ≡ 0) × (x.copied ≡ old) × (mid ≡ x.back) × (owed ≡ [])
        ⊎ (notify ≢ 0) × ((q : ℕ) × CopyRight task (in_request x.request) number notify old (to_port q) x.copied × Keeps task name sync x.request q x.back mid owed) → MidLawful mid owed
    by (inl (null, same, rest, none)) = unowed mid owed none (none_copied same rest)
    by (inr (some, (q, copy, keeps))) =
        let y = ready task number notify q 0 (length (old.log 0)) x.request old x.copied (moving old 0 (length (old.log 0)) l) copy (once_sent number copy.given copy.is_given (number_is some)) in
        let lives : x.copied.live_task task ≡ true = ap (λ (s : State). s.live_task task) y.copies.rest ∙ is_task in
        let g = gives_back task previous 0 (length (old.log 0)) x.request old x.copied x.back y.ledger l y.copies.keeps lives y.kept x.given_back in
        keeps_mid task name variant sync notify q x.request old x.copied x.back mid owed l y g unrefused x.on is_task keeps
