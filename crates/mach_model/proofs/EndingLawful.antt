-- The end of a task, and a new one, leave a lawful state.
use Rattle.std.proofs.Common.{◌≡◌, ℕ, ◌+◌, ◌<◌, List, [], ◌∷◌, Option, Some, None, refl, sym, ap, subst, ◌∙◌, arith, true, false, Bool, ◌⊎◌, inl, inr}
use Rattle.std.specs.Prelude.{if◌then◌else◌, ◌==◌, ◌&&◌, ◌≢◌, not, filter}
use Rattle.std.specs.FinMap as map
use Rattle.std.specs.FinMap.{get-empty, len-empty}
use Rattle.std.specs.Ordering.{nat_cmp}
use Rattle.std.proofs.lemmas.Bool.Decides.{eqb_tells}
use Rattle.std.proofs.lemmas.Bool.{eq-eqb, ne_eqb, false_from_ne_true}
use Rattle.std.proofs.Math.Path.{fun_ext}
use Rattle.mach_types.specs.Tokens.{Kind, receive, send, send_once, Place, in_task, in_message, in_request, Token, token, count, is_of, is_held, is_in_task, same_kind, Moves}
use Rattle.mach_types.specs.Messages.{Entry}
use Rattle.mach_model.specs.State.{State, Target, Names, lookup, held, at}
use Rattle.mach_model.specs.Death.{same_place}
use Rattle.mach_model.specs.Carried.{lying}
use Rattle.mach_model.specs.References.{LosesAll, unused_among}
use Rattle.mach_model.specs.Receive.{IsFront, with_taken, DestroysFront}
use Rattle.mach_model.specs.Tasks.{ends_with, is_owner, EndsTask, CreatesTask}
use Rattle.mach_model.specs.Notices.{Owed}
use Rattle.mach_model.specs.Lawful.{LawfulNames, LawfulSets, IsLawful}
use Rattle.mach_model.specs.Midway.{MidLawful}
use Rattle.mach_model.proofs.Names.{count_le, count_none, both_test, left_of, right_of, at_same, at_other, at_all, elsewhere, no_values, all_unused, KeepsRequests, requests_stay, same_naming}
use Rattle.mach_model.proofs.Memberships.{filtered}
use Rattle.mach_model.proofs.Moving.{TaskNaming, IsMoving}
use Rattle.mach_model.proofs.MessagesLawful.{taken_moving, same_task}
use Rattle.mach_model.proofs.Lost.{Loses, Loses-lawful}
use Rattle.mach_model.proofs.LosingLawful.{AreOwn, held_far, far_carried, far_gone}
use Rattle.mach_model.proofs.Memberships.{few_left}

-- ---- The end of a task, and of a message that is too long for its receiver, leaves a lawful state midway.

-- ---- a task

unused_name : (name : ℕ) → map.get (map.empty {X = Target} {R = nat_cmp}) name ≡ None
unused_name name = get-empty nat_cmp name

no_name : (name : ℕ) (x : Target) → map.get (map.empty {X = Target} {R = nat_cmp}) name ≡ Some x → ⊥
no_name name x e = let f = unused_name name in cc

empty_naming : (rights : Kind → ℕ → ℕ) → ((kind : Kind) (q : ℕ) → rights kind q ≡ 0) → LawfulNames map.empty rights
empty_naming rights none = record {
  space = record {
    not_null = unused_name _;
    not_dead = unused_name _;
    name_fits = λ n x e. absurd (no_name n x e);
    few_names = let e = len-empty nat_cmp Target in omega (arith, e);
    references = λ n x e. absurd (no_name n x e);
  };
  has_right = λ n p e. absurd (no_name n (Target.port p) e);
  is_named = λ p some. absurd (omega (arith, some, none receive p, none send p));
  one_name = λ n m p e. absurd (no_name n (Target.port p) e);
  once_names = λ p. none send_once p ∙ sym (no_values _);
  few_references = λ p. omega (arith, none send p);
}

-- a set that isn't the task's keeps its owner
kept_owner : (task t : ℕ) (o : Option ℕ) → o ≡ Some t → (t ≡ task → ⊥) → (if is_owner task o then None else o) ≡ Some t
kept_owner task t o e not = subst (λ (x : Option ℕ). (if is_owner task x then None else x) ≡ Some t) (sym e) (rw (ne_eqb t task not) refl)

no_owner : (task : ℕ) (o : Option ℕ) → o ≡ None → (if is_owner task o then None else o) ≡ None
no_owner task o e = subst (λ (x : Option ℕ). (if is_owner task x then None else x) ≡ None) (sym e) refl

was_owner : (task t : ℕ) (o : Option ℕ) → (if is_owner task o then None else o) ≡ Some t → (o ≡ Some t) × (t ≡ task → ⊥)
was_owner task t None e = absurd (cc)
was_owner task t (Some u) e = grind arith

stays_owned : (task t : ℕ) (o : Option ℕ) → o ≡ Some t → not (is_owner task o) ≡ true → t ≡ task → ⊥
stays_owned task t o e kept same = grind (arith, eq-eqb)

module _ (task : ℕ) (old : State) (ledger : List Token) (l : IsLawful old) (loses : LosesAll (λ x. is_in_task task x.place) old.ledger ledger) where
  abbrev ended : State
  ended = record old {
    live_task = at old.live_task task false;
    naming = at old.naming task map.empty;
    set_owner = λ set. if is_owner task (old.set_owner set) then None else old.set_owner set;
    sets_of = λ p. filter (λ set. not (is_owner task (old.set_owner set))) (old.sets_of p);
    stands = λ r. if ends_with task r then false else old.stands r;
    ledger = ledger;
  }

  own : AreOwn task loses.gone
  own test not = grind (arith, count_none, same_task)

  none_held : (kind : Kind) (q : ℕ) → held ended task kind q ≡ 0
  none_held kind q = grind (arith, count_le, right_of)

  other_names : (t : ℕ) → (t ≡ task → ⊥) → ended.naming t ≡ old.naming t
  other_names t not = at_other old.naming task map.empty t not

  -- a task with a name is another
  is_other : (t n : ℕ) (x : Target) → lookup ended t n ≡ Some x → (t ≡ task → ⊥) × (lookup old t n ≡ Some x)
  is_other t n x e = grind (arith, no_name, at_same, other_names)

  sets : LawfulSets ended.naming ended.set_owner old.sets_made
  sets = grind (arith, no_owner, is_other, kept_owner, was_owner, other_names)

  requests : KeepsRequests old.stands ended.stands ended.naming
  requests = grind (arith, other_names)

  ended_loses : Loses old ended loses.gone []
  ended_loses = record {
    rest = refl;
    tokens = λ h. let m = loses.moves h in omega (arith, m);
    no_receive = λ p. refl;
    tasks = record {
      made_task = λ t live. l.made_task t (at_all (λ t b. b ≡ true → old.live_task t ≡ true) old.live_task task false (λ e. absurd (cc)) (λ q not e. e) t live);
      no_task = λ t n dead. elim (eqb_tells t task) [
        | inl h ↦ ap (λ (m : Names). map.get m n) (at_same old.naming task map.empty t h.1) ∙ unused_name n
        | inr h ↦ ap (λ (m : Names). map.get m n) (other_names t h.1) ∙ l.no_task t n (sym (at_other old.live_task task false t h.1) ∙ dead)
      ];
    };
    naming = λ t. elim (eqb_tells t task) [
      | inl h ↦ subst (TaskNaming ended) (sym h.1) (subst (λ (m : Names). LawfulNames m (held ended task)) (sym (at_same old.naming task map.empty task refl)) (empty_naming (held ended task) none_held))
      | inr h ↦ subst (λ (m : Names). LawfulNames m (held ended t)) (sym (other_names t h.1))
          (same_naming (old.naming t) (held old t) (held ended t) (l.naming t) (held_far task old ended loses.gone l loses.moves own t h.1))
    ];
    numbers = l.numbers;
    sets = sets;
    members = λ p set in_it.
        let f = filtered (λ set. not (is_owner task (old.set_owner set))) (old.sets_of p) set in_it in
        let h = l.members p set f.0 in
        (h.0, kept_owner task h.0 (old.set_owner set) h.1 (stays_owned task h.0 (old.set_owner set) h.1 f.1), h.2);
    membership = record {
      no_sets = λ p dead. ap (filter (λ (set : ℕ). not (is_owner task (old.set_owner set)))) (l.no_sets p dead);
      few_sets = λ p. few_left old.profile (λ set. not (is_owner task (old.set_owner set))) (old.sets_of p) (l.few_sets p);
    };
    within = l.within;
    carried = far_carried task old ended loses.gone l loses.moves own;
    gone_there = far_gone task old ended loses.gone l loses.moves own;
    stands = requests;
  }

  pub ended_mid : MidLawful ended (unused_among loses.gone)
  ended_mid = Loses-lawful old ended loses.gone [] l ended_loses

pub EndsTask-mid : (task : ℕ) (old mid : State) (owed : Owed) → IsLawful old → EndsTask task old mid owed → MidLawful mid owed
EndsTask-mid task old mid owed l e =
    subst (λ (x : State). MidLawful x owed) (sym e.rest) (subst (MidLawful (ended task old mid.ledger l e.loses)) (sym e.owed_are) (ended_mid task old mid.ledger l e.loses))

-- ---- a message

module _ (s : State) (p : ℕ) (e : Entry) (ledger left : List Token) (l : IsLawful s) (live : s.live_port p ≡ true) (front : IsFront s p e)
    (moves : Moves s.ledger ledger (token e.message.kind p (in_message p (s.taken p)) ∷ []) []) (loses : LosesAll (λ x. same_place (in_message p (s.taken p)) x.place) ledger left) where
  abbrev k : ℕ
  k = s.taken p

  abbrev taken : State
  taken = record (with_taken p s) { ledger = ledger }

  abbrev new : State
  new = record (with_taken p s) { ledger = left }

  m : IsMoving taken p k
  m = taken_moving s p e ledger l live front moves

  -- a test that is passed at no other place than this entry
  far : (test : Token → Bool) → ((x : Token) → same_place (in_message p k) x.place ≡ true → test x ≡ false) → count test left ≡ count test ledger
  far test not = grind (arith, count_none)

  not_held : (t : ℕ) (kind : Kind) (q : ℕ) (x : Token) → same_place (in_message p k) x.place ≡ true → is_held t kind q x ≡ false
  not_held t kind q x here = grind arith

  lying_other : (kind : Kind) (q o j : ℕ) → (o ≡ p → j ≡ k → ⊥) → lying new kind q (in_message o j) ≡ lying taken kind q (in_message o j)
  lying_other kind q o j not = far (λ x. is_of kind q x && same_place (in_message o j) x.place) (λ x here. by x.place here (is_of kind q x))
    where
      numbers : (a b : ℕ) → (a == b) ≡ true → a ≡ b
      numbers a b e = elim (eqb_tells a b) [
        | inl h ↦ h.1
        | inr h ↦ absurd (let f = h.0 in cc)
      ]

      by : (place : Place) → same_place (in_message p k) place ≡ true → (b : Bool) → (b && same_place (in_message o j) place) ≡ false
      by (in_task u) here b = absurd (cc)
      by (in_message o' j') here true =
          let a = numbers p o' (left_of (p == o') (k == j') here) in
          let c = numbers k j' (right_of (p == o') (k == j') here) in
          elsewhere o o' j j' (λ x y. not (x ∙ sym a) (y ∙ sym c))
      by (in_message o' j') here false = refl
      by (in_request r) here b = absurd (cc)

  none_here : (kind : Kind) (q : ℕ) → lying new kind q (in_message p k) ≡ 0
  none_here kind q = grind (arith, count_le, right_of)

  held_same : (t : ℕ) (kind : Kind) (q : ℕ) → held new t kind q ≡ held taken t kind q
  held_same t kind q = far (is_held t kind q) (not_held t kind q)

  not_receive : (c : Kind) → c ≢ receive → same_kind receive c ≡ false
  not_receive receive not = absurd (not refl)
  not_receive send not = refl
  not_receive send_once not = refl

  taken_after : (q i : ℕ) → q ≡ p → new.taken q + i ≡ k → ⊥
  taken_after q i is at_k = let t = at_same s.taken p (s.taken p + 1) q is in omega (arith, t, at_k)

  gone_there : (q j : ℕ) → (j < new.taken q) ⊎ (s.live_port q ≡ false) → (kind : Kind) (r : ℕ) → lying new kind r (in_message q j) ≡ 0
  gone_there q j is kind r = grind (arith, none_here, lying_other, m)

  front_loses : Loses s new loses.gone (token e.message.kind p (in_message p k) ∷ [])
  front_loses = record {
    rest = refl;
    tokens = λ h. let a = moves h in let b = loses.moves h in omega (arith, a, b);
    no_receive = λ q. let z = both_test (same_kind receive e.message.kind) (p == q) (inl (not_receive e.message.kind (l.sent_here p k e front).1)) in omega (arith, z);
    tasks = l.tasks;
    naming = λ t. same_naming (s.naming t) (held taken t) (held new t) (m.naming t) (held_same t);
    numbers = m.numbers;
    sets = l.sets;
    members = l.members;
    membership = l.membership;
    within = m.within;
    carried = λ q i f live_q is kind r live_r. lying_other kind r q (new.taken q + i) (taken_after q i) ∙ m.carried q i f (taken_after q i) live_q is kind r live_r;
    gone_there = gone_there;
    stands = requests_stay s l.ground;
  }

  pub front_mid : MidLawful new (unused_among loses.gone)
  front_mid = Loses-lawful s new loses.gone (token e.message.kind p (in_message p k) ∷ []) l front_loses

pub DestroysFront-mid : (port : ℕ) (e : Entry) (old mid : State) (owed : Owed) → IsLawful old → old.live_port port ≡ true → DestroysFront port e old mid owed → MidLawful mid owed
DestroysFront-mid port e old mid owed l live d =
    let rest : mid ≡ record (with_taken port old) { ledger = mid.ledger } = d.rest ∙ ap (λ (x : State). record x { ledger = mid.ledger }) d.takes.rest in
    subst (λ (x : State). MidLawful x owed) (sym rest)
    (subst (MidLawful (record (with_taken port old) { ledger = mid.ledger })) (sym d.owed_are) (front_mid old port e d.taken.ledger mid.ledger l live d.takes.front d.takes.tokens d.loses))

-- ---- A new task leaves a lawful state.

module _ (s : State) (l : IsLawful s) where
  not_live : s.live_task s.tasks_made ≡ false
  not_live = false_from_ne_true (s.live_task s.tasks_made) (λ e. let h = l.made_task s.tasks_made e in omega arith)

  -- the new task had no name before
  pub same_naming_created : at s.naming s.tasks_made map.empty ≡ s.naming
  same_naming_created = fun_ext (λ (t : ℕ). elim (eqb_tells t s.tasks_made) [
    | inl h ↦ at_same s.naming s.tasks_made map.empty t h.1
        ∙ sym (all_unused (s.naming t) (λ n. l.no_task t n (ap s.live_task h.1 ∙ not_live)))
    | inr h ↦ at_other s.naming s.tasks_made map.empty t h.1
  ])

  abbrev created : State
  created = record s { live_task = at s.live_task s.tasks_made true; tasks_made = s.tasks_made + 1 }

  created_lawful : IsLawful created
  created_lawful = grind (arith, at_other, not_live)

  pub CreatesTask-lawful : (t : ℕ) (mid : State) → CreatesTask s t mid → IsLawful mid
  CreatesTask-lawful t mid c =
      let e : mid ≡ record s { live_task = at s.live_task s.tasks_made true; tasks_made = s.tasks_made + 1; naming = at s.naming s.tasks_made map.empty } =
      subst (λ (n : ℕ). mid ≡ record s { live_task = at s.live_task n true; tasks_made = n + 1; naming = at s.naming n map.empty }) c.task_is c.rest in
      let f : record s { live_task = at s.live_task s.tasks_made true; tasks_made = s.tasks_made + 1; naming = at s.naming s.tasks_made map.empty } ≡ created =
      ap (λ (names : ℕ → Names). record created { naming = names }) same_naming_created in
      subst IsLawful (sym (e ∙ f)) created_lawful
