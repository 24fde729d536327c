-- Calls on names, numbers and sets leave a lawful state.
use Rattle.std.proofs.Common.{arith, ℕ, ◌^◌, ◌<◌, ◌≤◌, sym, subst, ◌≡◌, ◌+◌, List, [], ◌∷◌, refl, ◌∙◌, false, inl, inr, ◌⊎◌, length, get_or, zero, suc, Option, Some, None, ap, true, Bool}
use Rattle.std.specs.Prelude.{◌≢◌, ◌&&◌, if◌then◌else◌, ◌==◌, Contains, filter, not, slice_get, drop, ◌++◌, ◌%◌}
use Rattle.std.proofs.lemmas.Bool.{eq-eqb, and_from, ne_eqb, false_from_ne_true}
use Rattle.std.specs.FinMap as map
use Rattle.std.proofs.lemmas.Bool.Decides.{eqb_tells}
use Rattle.mach_types.specs.Numbers.{greatest_limit, dead_word, most_names, most_rights, first_limit}
use Rattle.mach_types.specs.Tokens.{Kind, receive, send_once, Request, in_message, in_request, Token, weigh, count, is_of, is_held, dead_name, no_senders, port_destroyed, Place, in_task, is_in_task, send, token, Moves}
use Rattle.mach_types.specs.Messages.{Entry}
use Rattle.mach_model.specs.State.{State, at, held, Holds, Target, Names, request_at, lookup, without_name, same_request, queue, with_name, IsFreshFor, gives, IsFreshIndex, IsFreshIn}
use Rattle.mach_model.specs.NameGuards.{HasSeveral, NamesReceive, IsMember}
use Rattle.mach_model.specs.Names.{ChangesPort, with_set, renamed_place, renamed_token, renamed_requests, Renames, with_port, AllocatesPort, Makes, JoinsSet, LeavesSet, EntersSet}
use Rattle.mach_model.specs.Lawful.{LawfulNumbers, IsLawful, LawfulNames, LawfulReceivers, LawfulSets, LawfulMembership, LawfulGround, IsRight, StandsOn, HasFewSets}
use Rattle.mach_model.proofs.Names.{at_all, at_same, at_other, at_own, if_same, if_other, slice_get_drop, count_none, count_some, held_le_of, pos_or_zero, length-weigh, weigh-le, left_of, right_of, both_test, lying_le_of, same_naming, IsNew, left, other_unnamed, other_named, has_task, tasks_named, all_named, renamed, port_named, get_removed, kept, get_own, inserted, get_other, fresh_fits, KeepsRequests, all_ground, without_requests, named_requests, none_right, rename_law, at_law, inserted_sets, fresh_index_fits}
use Rattle.mach_model.specs.Death.{same_place, IsOrphan}
use Rattle.mach_model.specs.Carried.{lying, message_count}
use Rattle.mach_model.specs.Notices.{Owed}
use Rattle.mach_model.specs.Midway.{IsOnName, MidLawful}
use Rattle.mach_model.proofs.Settling.{kind_refl, alive}
use Rattle.mach_model.specs.Room.{IsFull}
use Rattle.mach_model.specs.References.{without_set}
use Rattle.mach_model.proofs.Moving.{one_at_most, no_orphans, none_owed}
use Rattle.mach_model.proofs.Midway.{mid_lawful}
use Rattle.mach_model.proofs.Copying.{own_right, other_port}
use Rattle.mach_model.proofs.Memberships.{few_none, few_left, few_alone, few_more, cases_more, filtered}
use Rattle.mach_types.specs.declared.profiles.Profile.{Profile}
use Rattle.mach_types.specs.declared.profiles.Profile.TheVariants.{One, Two, Three}
use Rattle.std.proofs.Math.Nat.{div-add-mod, mod-lt}

-- ---- Numbers of a port that are set leave a lawful state.

numbers_lawful : (s : State) (limit make_send sequence : ℕ → ℕ) → IsLawful s → LawfulNumbers limit make_send sequence → IsLawful (record s { limit = limit; make_send = make_send; sequence = sequence })
numbers_lawful s limit make_send sequence l numbers = grind arith

pub limit-lawful : (task name n : ℕ) (old mid : State) → IsLawful old → n ≤ greatest_limit → ChangesPort old task name (λ p. record old { limit = at old.limit p n }) mid → IsLawful mid
limit-lawful task name n old mid l fits (p, is, holds, rest) = subst IsLawful (sym rest) (numbers_lawful old (at old.limit p n) old.make_send old.sequence l
    (record { limit_fits = at_all (λ q x. x ≤ greatest_limit) old.limit p n fits (λ q not. l.limit_fits q); make_send_fits = l.make_send_fits; sequence_fits = l.sequence_fits }))

pub make_send-lawful : (task name n : ℕ) (old mid : State) → IsLawful old → n < 2 ^ 32 → ChangesPort old task name (λ p. record old { make_send = at old.make_send p n }) mid → IsLawful mid
make_send-lawful task name n old mid l fits (p, is, holds, rest) = subst IsLawful (sym rest) (numbers_lawful old old.limit (at old.make_send p n) old.sequence l
    (record { limit_fits = l.limit_fits; make_send_fits = at_all (λ q x. x < 2 ^ 32) old.make_send p n fits (λ q not. l.make_send_fits q); sequence_fits = l.sequence_fits }))

pub sequence-lawful : (task name n : ℕ) (old mid : State) → IsLawful old → n < 2 ^ 32 → ChangesPort old task name (λ p. record old { sequence = at old.sequence p n }) mid → IsLawful mid
sequence-lawful task name n old mid l fits (p, is, holds, rest) = subst IsLawful (sym rest) (numbers_lawful old old.limit old.make_send (at old.sequence p n) l
    (record { limit_fits = l.limit_fits; make_send_fits = l.make_send_fits; sequence_fits = at_all (λ q x. x < 2 ^ 32) old.sequence p n fits (λ q not. l.sequence_fits q) }))

-- ---- A state whose rights are listed anew, where each count that the laws look at stays, is as lawful as before.

pub weigh-both : (g h : Token → ℕ) (xs : List Token) → weigh (λ x. g x + h x) xs ≡ weigh g xs + weigh h xs
weigh-both g h [] = refl
weigh-both g h (x ∷ xs) = omega (arith, weigh-both g h xs)

-- nothing lies at a request that ended
pub none_at : (s : State) → IsLawful s → (r : Request) → s.stands r ≡ false → count (λ x. same_place (in_request r) x.place) s.ledger ≡ 0
none_at s l r ended = count_none (λ x. same_place (in_request r) x.place) s.ledger (λ k d below e.
    let x = get_or s.ledger k d in
    let some = count_some (λ y. is_of x.kind x.port y && same_place (in_request r) y.place) s.ledger k d below
    (and_from (is_of x.kind x.port x) (same_place (in_request r) x.place) (and_from _ _ (kind_refl x.kind) (eq-eqb x.port x.port refl)) e) in
    let z = l.ended r ended x.kind x.port in omega (arith, some, z))

pub record SameRights (s : State) (ledger : List Token) : Type 0 where
  pub few : length ledger ≤ length s.ledger
  pub of : (kind : Kind) (p : ℕ) → count (is_of kind p) ledger ≡ count (is_of kind p) s.ledger
  pub with_task : (t : ℕ) (kind : Kind) (p : ℕ) → count (is_held t kind p) ledger ≡ held s t kind p
  pub at_entry : (kind : Kind) (q p k : ℕ) → count (λ x. is_of kind q x && same_place (in_message p k) x.place) ledger ≡ lying s kind q (in_message p k)
  pub on_port : (r : Request) → ¬ (IsOnName r) → (kind : Kind) (q : ℕ) → count (λ x. is_of kind q x && same_place (in_request r) x.place) ledger ≡ lying s kind q (in_request r)
  pub one_kept : (r : Request) → count (λ x. same_place (in_request r) x.place) ledger ≤ 1
  pub once_kept : (r : Request) (kind : Kind) (q : ℕ) → kind ≢ send_once → count (λ x. is_of kind q x && same_place (in_request r) x.place) ledger ≡ 0

pub SameRights-mid : (s : State) (ledger : List Token) (owed : Owed) → MidLawful s owed → SameRights s ledger → MidLawful (record s { ledger = ledger }) owed
SameRights-mid s ledger owed l v = record {
  tasks = l.tasks;
  naming = λ t. same_naming (s.naming t) (held s t) (λ kind q. count (is_held t kind q) ledger) (l.naming t) (v.with_task t);
  ports = record { made_port = l.made_port; no_rights = λ p dead kind. v.of kind p ∙ l.no_rights p dead kind };
  numbers = l.numbers;
  receivers = record {
    most_receive = λ p. let h = l.most_receive p in omega (arith, h, v.of receive p);
    members = λ p set in_it. let h = l.members p set in_it in (h.0, h.1, member h.0 p h.2);
  };
  room = record {
    orphans = l.orphans;
    each_orphan = λ p is. l.each_orphan p (is.0, sym (v.of receive p) ∙ is.1);
    few_rights = let h = l.few_rights in let f = v.few in omega (arith, h, f);
    are_owed = l.are_owed;
  };
  sets = l.sets;
  membership = l.membership;
  logs = l.logs;
  messages = record {
    carried = λ p i e live is kind q live_q. v.at_entry kind q p (s.taken p + i) ∙ l.carried p i e live is kind q live_q;
    gone = λ p k is kind q. v.at_entry kind q p k ∙ l.gone p k is kind q;
    no_entry = λ p k above kind q. v.at_entry kind q p k ∙ l.no_entry p k above kind q;
  };
  requests = record { one_kept = v.one_kept; once_kept = v.once_kept };
  standing = record { ended = λ r not on_port kind q. v.on_port r on_port kind q ∙ l.ended r not on_port kind q };
  ground = l.ground;
}
  where
    member : (t p : ℕ) → Holds s t receive p ⊎ IsOrphan s p → Holds (record s { ledger = ledger }) t receive p ⊎ IsOrphan (record s { ledger = ledger }) p
    member t p (inl holds) = inl (let e = v.with_task t receive p in omega (arith, holds, e))
    member t p (inr is) = inr (is.0, v.of receive p ∙ is.1)

-- ---- A new port set, a port that moves from set to set, and a set that goes leave a lawful state.

-- ---- names, sets and members alone change

module _ (task : ℕ) (s : State) (l : IsLawful s) (owner : ℕ → Option ℕ) (made : ℕ) (sets_of : ℕ → List ℕ) (receivers : LawfulReceivers s.live_port owner sets_of s.ledger)
    (membership : LawfulMembership s.profile s.live_port sets_of) where
  -- one task's names, the tasks of the sets, and the sets of the ports
  sorted_mid : s.live_task task ≡ true → (names : Names) (stands : Request → Bool) → LawfulNames names (held s task) → LawfulSets (at s.naming task names) owner made →
      ((r : Request) → ¬ (IsOnName r) → stands r ≡ s.stands r) → LawfulGround s.live_port (at s.naming task names) stands →
      MidLawful (record s { naming = at s.naming task names; set_owner = owner; sets_made = made; sets_of = sets_of; stands = stands }) []
  sorted_mid is_task names stands own sets on_ports ground = record {
    tasks = tasks_named s.naming (at s.naming task names) task (at_other s.naming task names) s.live_task s.tasks_made l.tasks is_task;
    naming = all_named s.naming (at s.naming task names) task (at_other s.naming task names) (held s) (held s) l.naming (λ t not kind q. refl)
        (subst (λ (m : Names). LawfulNames m (held s task)) (sym (at_own s.naming task names)) own);
    ports = l.ports;
    numbers = l.numbers;
    receivers = record { most_receive = one_at_most s.live_port s.ledger l.one_receive l.no_rights; members = λ p set in_it. let h = receivers.members p set in_it in (h.0, h.1, inl h.2) };
    room = no_orphans (record s { naming = at s.naming task names; set_owner = owner; sets_made = made; sets_of = sets_of; stands = stands }) [] l.one_receive (none_owed s.live_port)
        (let h = l.few_rights in omega (arith, h));
    sets = sets;
    membership = membership;
    logs = l.logs;
    messages = l.messages;
    requests = l.requests;
    standing = record { ended = λ r ended on. l.ended r (sym (on_ports r on) ∙ ended) };
    ground = ground;
  }

-- one task's names, with the same rights
pub named_mid : (task : ℕ) (s : State) → IsLawful s → s.live_task task ≡ true → (names : Names) (stands : Request → Bool) → LawfulNames names (held s task) →
    LawfulSets (at s.naming task names) s.set_owner s.sets_made → ((r : Request) → ¬ (IsOnName r) → stands r ≡ s.stands r) → LawfulGround s.live_port (at s.naming task names) stands →
    MidLawful (record s { naming = at s.naming task names; stands = stands }) []
named_mid task s l = sorted_mid task s l s.set_owner s.sets_made s.sets_of l.receivers l.membership

-- each request that stands stood
pub named_as : (task : ℕ) (s : State) → IsLawful s → s.live_task task ≡ true → (names : Names) (stands : Request → Bool) → LawfulNames names (held s task) →
    LawfulSets (at s.naming task names) s.set_owner s.sets_made → KeepsRequests s.stands stands (at s.naming task names) → MidLawful (record s { naming = at s.naming task names; stands = stands }) []
named_as task s l is_task names stands own sets keeps = grind (arith, named_mid, all_ground)

-- ---- owners and names

some_same : (a b : ℕ) → Some a ≡ Some b → a ≡ b
some_same a b e = cc

set_same : (a b : ℕ) → Target.set a ≡ Target.set b → a ≡ b
set_same a b e = cc

one_set_of : (o : Option Target) (a b : ℕ) → o ≡ Some (Target.set a) → o ≡ Some (Target.set b) → a ≡ b
one_set_of o a b e f = cc

no_owner : (o : Option ℕ) (a : ℕ) → o ≡ None → o ≡ Some a → ⊥
no_owner o a e f = cc

no_one : (a : ℕ) → None ≡ Some a → ⊥
no_one a e = cc

module _ (naming : ℕ → Names) (owner : ℕ → Option ℕ) (made task name : ℕ) (l : LawfulSets naming owner made) where
  abbrev own : Names
  own = naming task

  -- the names with one more, for the new set
  abbrev with_new : ℕ → Names
  with_new = at naming task (map.insert own name (Target.set made))

  abbrev owned : ℕ → Option ℕ
  owned = at owner made (Some task)

  -- no name was for it
  unowned : (set t : ℕ) → owner set ≡ Some t → set ≡ made → ⊥
  unowned set t e same = no_owner (owner set) t (l.made_set set (omega (arith, same))) e

  module _ (unused : map.get own name ≡ None) where
    -- a name for a set now: the new one's, or one that was there
    new_cases : (t n set : ℕ) → map.get (with_new t) n ≡ Some (Target.set set) → (t ≡ task) × (n ≡ name) × (made ≡ set) ⊎ (map.get (naming t) n ≡ Some (Target.set set))
    new_cases t n set e = grind (arith, inserted, at_same, set_same, at_other)

    still : (t n set : ℕ) → map.get (naming t) n ≡ Some (Target.set set) → map.get (with_new t) n ≡ Some (Target.set set)
    still t n set e = grind (arith, at_all, kept)

    -- A new set has its name, and its task.
    pub made_law : LawfulSets with_new owned (made + 1)
    made_law = record {
      made_set = λ set above. at_other owner made (Some task) set (λ e. omega (arith, e, above)) ∙ l.made_set set (omega (arith, above));
      set_owned = λ t n set e. elim (new_cases t n set e) [
        | inl h ↦ at_same owner made (Some task) set (sym h.2) ∙ ap (λ (x : ℕ). Some x) (sym h.0)
        | inr h ↦ let o = l.set_owned t n set h in at_other owner made (Some task) set (unowned set t o) ∙ o
      ];
      set_named = λ set t e. elim (eqb_tells set made) [
        | inl h ↦
            let same : task ≡ t = some_same task t (sym (at_same owner made (Some task) set h.1) ∙ e) in (
              name,
              subst (λ (x : ℕ). map.get (with_new x) name ≡ Some (Target.set set)) same
                  (ap (λ (m : Names). map.get m name) (at_own naming task (map.insert own name (Target.set made))) ∙ get_own own name (Target.set made) ∙ ap (λ (x : ℕ). Some (Target.set x)) (sym h.1)),
            )
        | inr h ↦ let g = l.set_named set t (sym (at_other owner made (Some task) set h.1) ∙ e) in (g.0, still t g.0 set g.1)
      ];
      one_set_name = λ t n m set e f. elim (new_cases t n set e) [
        | inl h ↦ elim (new_cases t m set f) [
          | inl g ↦ h.1 ∙ sym g.1
          | inr g ↦ absurd (unowned set t (l.set_owned t m set g) (sym h.2))
        ]
        | inr h ↦ elim (new_cases t m set f) [
          | inl g ↦ absurd (unowned set t (l.set_owned t n set h) (sym g.2))
          | inr g ↦ l.one_set_name t n m set h g
        ]
      ];
    }

  -- the names without one
  abbrev less : ℕ → Names
  less = at naming task (map.remove own name)

  module _ (gone : ℕ) (is : map.get own name ≡ Some (Target.set gone)) where
    abbrev disowned : ℕ → Option ℕ
    disowned = at owner gone None

    was : (t n set : ℕ) → map.get (less t) n ≡ Some (Target.set set) → (set ≡ gone → ⊥) × (map.get (naming t) n ≡ Some (Target.set set))
    was t n set e = elim (eqb_tells t task) [
      | inl h ↦
          let g = left own name n (Target.set set) (sym (ap (λ (m : Names). map.get m n) (at_same naming task (map.remove own name) t h.1)) ∙ e) in
          ((λ same. g.0 (l.one_set_name task n name gone (subst (λ (x : ℕ). map.get own n ≡ Some (Target.set x)) same g.1) is)), ap (λ (x : ℕ). map.get (naming x) n) h.1 ∙ g.1)
      | inr h ↦
          let g : map.get (naming t) n ≡ Some (Target.set set) = sym (ap (λ (m : Names). map.get m n) (at_other naming task (map.remove own name) t h.1)) ∙ e in
          ((λ same. h.1 (some_same t task (sym (l.set_owned t n set g) ∙ ap owner same ∙ l.set_owned task name gone is))), g)
    ]

    stays : (t n set : ℕ) → (set ≡ gone → ⊥) → map.get (naming t) n ≡ Some (Target.set set) → map.get (less t) n ≡ Some (Target.set set)
    stays t n set not e = grind (arith, at_all, get_removed, one_set_of)

    -- A set that goes has no task, and no name.
    pub lost_law : LawfulSets less disowned made
    lost_law = grind (arith, at_all, was, at_other, no_one, at_same, stays)

-- ---- a new set

set_is_no_port : (set q : ℕ) → Target.set set ≡ Target.port q → ⊥
set_is_no_port set q e = cc

pub with_set-mid : (task name : ℕ) (s : State) → IsLawful s → s.live_task task ≡ true → IsNew (s.naming task) name → MidLawful (with_set task name s) []
with_set-mid task name s l is_task new = sorted_mid task s l (at s.set_owner s.sets_made (Some task)) (s.sets_made + 1) s.sets_of (record {
  one_receive = l.one_receive;
  members = λ p set in_it.
      let h = l.members p set in_it in
      (h.0, at_other s.set_owner s.sets_made (Some task) set (λ e. no_owner (s.set_owner set) h.0 (l.made_set set (omega (arith, e))) h.1) ∙ h.1, h.2);
}) l.membership is_task (map.insert (s.naming task) name (Target.set s.sets_made)) s.stands
    (other_named (s.naming task) (held s task) (held s task) (l.naming task) (λ q. refl) (λ q. refl) name (Target.set s.sets_made) new tt (set_is_no_port s.sets_made) (λ q. omega arith))
    (made_law s.naming s.set_owner s.sets_made task name l.sets new.unused) (λ r on. refl)
    (all_ground s.live_port s.naming (at s.naming task (map.insert (s.naming task) name (Target.set s.sets_made))) s.stands s.stands l.ground
    (named_requests s l.ground task name (Target.set s.sets_made) (inr (none_right (lookup s task name) new.unused))))

-- ---- a port changes its set

one_element : (x y : ℕ) → Contains (x ∷ []) y → x ≡ y
one_element x y (zero, below, e) = e
one_element x y (suc k, below, e) = absurd (omega (arith, below))

joined_lawful : (p : ℕ) (sets : List ℕ) (s : State) → IsLawful s → s.live_port p ≡ true → HasFewSets s.profile sets →
    ((set : ℕ) → Contains sets set → (t : ℕ) × (s.set_owner set ≡ Some t) × Holds s t receive p) → IsLawful (record s { sets_of = at s.sets_of p sets })
joined_lawful p sets s l live few members = record {
  tasks = l.tasks;
  naming = l.naming;
  ports = l.ports;
  numbers = l.numbers;
  receivers = record {
    one_receive = l.one_receive;
    members = λ q set. at_all (λ q xs. Contains xs set → (t : ℕ) × (s.set_owner set ≡ Some t) × Holds s t receive q) s.sets_of p sets (members set) (λ r not in_it. l.members r set in_it) q;
  };
  few_rights = l.few_rights;
  sets = l.sets;
  membership = record {
    no_sets = λ q dead. at_other s.sets_of p sets q (λ e. let a : s.live_port p ≡ false = ap s.live_port (sym e) ∙ dead in cc) ∙ l.no_sets q dead;
    few_sets = at_all (λ q xs. HasFewSets s.profile xs) s.sets_of p sets few (λ r not. l.few_sets r);
  };
  logs = l.logs;
  messages = l.messages;
  requests = l.requests;
  standing = l.standing;
  ground = l.ground;
}

one_port : (o : Option Target) (p q : ℕ) → o ≡ Some (Target.port p) → o ≡ Some (Target.port q) → q ≡ p
one_port o p q e f = cc

-- the receive right of the port under a name that isn't refused for want of it
pub names_receive : (s : State) (task name p : ℕ) → lookup s task name ≡ Some (Target.port p) → ¬ ¬ (NamesReceive s task name) → Holds s task receive p
names_receive s task name p is some = grind (arith, pos_or_zero, one_port)

pub JoinsSet-lawful : (task member after : ℕ) (old mid : State) → IsLawful old → ¬ ¬ (NamesReceive old task member) → JoinsSet task member after old mid →
    IsLawful mid
JoinsSet-lawful task member after old mid l some j = by j.2
  where
    own : (old.live_port j.0 ≡ true) × Holds old task receive j.0
    own = grind (arith, names_receive, held_le_of, alive)

    by : (after ≡ 0) × (mid ≡ record old { sets_of = at old.sets_of j.0 [] })
        ⊎ ((set : ℕ) × (lookup old task after ≡ Some (Target.set set)) × (mid ≡ record old { sets_of = at old.sets_of j.0 (set ∷ []) })) → IsLawful mid
    by (inl h) = subst IsLawful (sym h.1) (joined_lawful j.0 [] old l own.0 (few_none old.profile) (λ set in_it. absurd (omega (arith, in_it.1))))
    by (inr h) = subst IsLawful (sym h.2) (joined_lawful j.0 (h.0 ∷ []) old l own.0 (few_alone old.profile h.0)
        (λ set in_it. (task, ap old.set_owner (sym (one_element h.0 set in_it)) ∙ l.set_owned task after h.0 h.1, own.1)))

pub EntersSet-lawful : (task member set : ℕ) (old mid : State) → IsLawful old → ¬ ¬ (HasSeveral old.profile) → ¬ ¬ (NamesReceive old task member) → ¬ (IsMember old task member set) →
    EntersSet task member set old mid → IsLawful mid
EntersSet-lawful task member set old mid l may some not j =
    let h = names_receive old task member j.port j.found some in
    let le = held_le_of task receive j.port old.ledger in
    subst IsLawful (sym j.rest) (joined_lawful j.port (old.sets_of j.port ++ j.entered ∷ []) old l (alive old l receive j.port (omega (arith, h, le)))
    (few_more old.profile j.entered (old.sets_of j.port) may (l.few_sets j.port) (λ c. not (j.port, j.entered, j.found, j.found_set, c)))
    (λ t in_it. elim (cases_more (old.sets_of j.port) j.entered t in_it) [
      | inl c ↦ l.members j.port t c
      | inr e ↦ (task, ap old.set_owner (sym e) ∙ l.set_owned task set j.entered j.found_set, h)
    ]))

pub LeavesSet-lawful : (task member set : ℕ) (old mid : State) → IsLawful old → ¬ ¬ (NamesReceive old task member) → LeavesSet task member set old mid → IsLawful mid
LeavesSet-lawful task member set old mid l some j =
    let h = names_receive old task member j.port j.found some in
    let le = held_le_of task receive j.port old.ledger in
    subst IsLawful (sym j.rest) (joined_lawful j.port (filter (λ t. not (t == j.left)) (old.sets_of j.port)) old l (alive old l receive j.port (omega (arith, h, le)))
    (few_left old.profile (λ t. not (t == j.left)) (old.sets_of j.port) (l.few_sets j.port))
    (λ t in_it. l.members j.port t ((filtered (λ t. not (t == j.left)) (old.sets_of j.port) t in_it).0)))

-- ---- a set goes

not_that : (a b : ℕ) → not (a == b) ≡ true → a ≡ b → ⊥
not_that a b e = grind arith

-- The task's set goes with its name.
pub without_set-mid : (task name set : ℕ) (s : State) → IsLawful s → lookup s task name ≡ Some (Target.set set) → MidLawful (without_set set (without_name task name s)) []
without_set-mid task name set s l is =
    sorted_mid task s l (at s.set_owner set None) s.sets_made (λ p. filter (λ t. not (t == set)) (s.sets_of p)) (record {
      one_receive = l.one_receive;
      members = λ p other in_it.
          let f = filtered (λ t. not (t == set)) (s.sets_of p) other in_it in
          let h = l.members p other f.0 in
          (h.0, at_other s.set_owner set None other (not_that other set f.1) ∙ h.1, h.2);
    }) (record {
      no_sets = λ p dead. ap (filter (λ (t : ℕ). not (t == set))) (l.no_sets p dead);
      few_sets = λ p. few_left s.profile (λ t. not (t == set)) (s.sets_of p) (l.few_sets p);
    }) (has_task l.tasks task name (Target.set set) is) (map.remove (s.naming task) name) (request_at s.stands (dead_name task name) false)
    (other_unnamed (s.naming task) (held s task) (held s task) (l.naming task) (λ q. refl) (λ q. refl) name (Target.set set) is (set_is_no_port set) (λ q. omega arith))
    (lost_law s.naming s.set_owner s.sets_made task name l.sets set is) keeps.ports
    (all_ground s.live_port s.naming (at s.naming task (map.remove (s.naming task) name)) s.stands (request_at s.stands (dead_name task name) false) l.ground keeps)
  where
    keeps : KeepsRequests s.stands (request_at s.stands (dead_name task name) false) (at s.naming task (map.remove (s.naming task) name))
    keeps = without_requests s l.ground task name

-- ---- Giving a name another number leaves a lawful state, midway: what a request on it keeps goes along.

-- ---- a right that a request keeps goes along

weigh_same : (f g : Token → ℕ) (xs : List Token) → ((x : Token) → f x ≡ g x) → weigh f xs ≡ weigh g xs
weigh_same f g [] same = refl
weigh_same f g (x ∷ xs) same = omega (arith, same x, weigh_same f g xs same)

module _ (task o n : ℕ) where
  place_in_task : (t : ℕ) (place : Place) → is_in_task t (renamed_place task o n place) ≡ is_in_task t place
  place_in_task t (in_task u) = refl
  place_in_task t (in_message p k) = refl
  place_in_task t (in_request r) = grind arith

  place_in_message : (p k : ℕ) (place : Place) → same_place (in_message p k) (renamed_place task o n place) ≡ same_place (in_message p k) place
  place_in_message p k (in_task u) = refl
  place_in_message p k (in_message q j) = refl
  place_in_message p k (in_request r) = grind arith

  -- a request of a port keeps what it kept
  place_on_port : (r : Request) → ¬ (IsOnName r) → (place : Place) → same_place (in_request r) (renamed_place task o n place) ≡ same_place (in_request r) place
  place_on_port r not (in_task u) = refl
  place_on_port r not (in_message q j) = refl
  place_on_port (no_senders p) not (in_request (no_senders q)) = refl
  place_on_port (no_senders p) not (in_request (port_destroyed q)) = refl
  place_on_port (no_senders p) not (in_request (dead_name t m)) = grind arith
  place_on_port (port_destroyed p) not (in_request (no_senders q)) = refl
  place_on_port (port_destroyed p) not (in_request (port_destroyed q)) = refl
  place_on_port (port_destroyed p) not (in_request (dead_name t m)) = grind arith
  place_on_port (dead_name t m) not (in_request r) = absurd (not tt)

  if_both : (a b c d : Bool) → (a ≡ true → (b ≡ true) ⊎ ((c ≡ true) × (d ≡ true))) → (if a then suc zero else zero) ≤ (if b then suc zero else zero) + (if c && d then suc zero else zero)
  if_both false b c d f = omega arith
  if_both true true c d f = omega arith
  if_both true false true true f = omega arith
  if_both true false false d f = grind arith
  if_both true false true false f = grind arith

  -- what lies at any request afterwards lay there, or at the one on the old name, and then it is the one on the new
  place_kept : (r : Request) (place : Place) → same_place (in_request r) (renamed_place task o n place) ≡ true →
      (same_place (in_request r) place ≡ true) ⊎ ((same_request r (dead_name task n) ≡ true) × (same_place (in_request (dead_name task o)) place ≡ true))
  place_kept r (in_task u) e = absurd (cc)
  place_kept r (in_message q j) e = absurd (cc)
  place_kept r (in_request x) e = grind (arith, and_from, left_of, right_of, eq-eqb)

-- ---- the new name

module _ (task o n : ℕ) (old mid : State) (l : IsLawful old) (unused : lookup old task n ≡ None) (some : 0 < n) (fits : n < dead_word) (r : Renames task o n old mid) where
  abbrev names : Names
  names = map.insert (map.remove (old.naming task) o) n r.target

  -- as if the rights that requests keep stayed where they are
  abbrev c : State
  c = record old { naming = at old.naming task names; stands = renamed_requests task o n old.stands }

  renamed_target : map.get names n ≡ Some r.target
  renamed_target = get_own (map.remove (old.naming task) o) n r.target

  not_same : lookup old task o ≡ lookup old task n → ⊥
  not_same e = let f = r.found in let g = unused in cc

  on_ports : (x : Request) → ¬ (IsOnName x) → c.stands x ≡ old.stands x
  on_ports (no_senders p) not = refl
  on_ports (port_destroyed p) not = refl
  on_ports (dead_name t m) not = absurd (not tt)

  ground : LawfulGround old.live_port c.naming c.stands
  ground = record { stands_on = on }
    where
      -- on another name
      kept_name : (m : ℕ) → (m ≡ o → ⊥) → (m ≡ n → ⊥) → IsRight (lookup old task m) → IsRight (map.get names m)
      kept_name m a b h = subst IsRight (sym (get_other (map.remove (old.naming task) o) n r.target m b ∙ get_removed (old.naming task) o m a)) h

      stand : (t m : ℕ) → c.stands (dead_name t m) ≡ true → IsRight (lookup c t m)
      stand t m = by (t == task) refl (m == o) refl (m == n) refl
        where
          is : (a b : ℕ) → (a == b) ≡ true → a ≡ b
          is a b e = elim (eqb_tells a b) [
            | inl h ↦ h.1
            | inr h ↦ absurd (let f = h.0 in cc)
          ]

          by : (a : Bool) → (t == task) ≡ a → (b : Bool) → (m == o) ≡ b → (d : Bool) → (m == n) ≡ d →
              (if a && b then false else if a && d then old.stands (dead_name task o) else old.stands (dead_name t m)) ≡ true → IsRight (lookup c t m)
          by false e b f d g stands = subst (λ (x : Names). IsRight (map.get x m)) (sym (at_other old.naming task names t (λ same. (let h = eq-eqb t task same in cc)))) (l.stands_on (dead_name t m) stands)
          by true e true f d g stands = absurd (cc)
          by true e false f true g stands =
              let was : IsRight (lookup old task o) = l.stands_on (dead_name task o) stands in
              subst (λ (x : Names). IsRight (map.get x m)) (sym (at_same old.naming task names t (is t task e)))
              (subst (λ (x : ℕ). IsRight (map.get names x)) (sym (is m n g)) (subst IsRight (sym renamed_target) (subst IsRight r.found was)))
          by true e false f false g stands =
              subst (λ (x : Names). IsRight (map.get x m)) (sym (at_same old.naming task names t (is t task e)))
              (kept_name m (λ same. (let h = eq-eqb m o same in cc)) (λ same. (let h = eq-eqb m n same in cc))
              (subst (λ (x : ℕ). IsRight (lookup old x m)) (is t task e) (l.stands_on (dead_name t m) stands)))

      on : (x : Request) → c.stands x ≡ true → StandsOn old.live_port c.naming x
      on (no_senders p) e = l.stands_on (no_senders p) e
      on (port_destroyed p) e = l.stands_on (port_destroyed p) e
      on (dead_name t m) e = stand t m e

  c_lawful : MidLawful c []
  c_lawful = named_mid task old l (has_task l.tasks task o r.target r.found) names (renamed_requests task o n old.stands)
      (renamed (old.naming task) (held old task) (held old task) (l.naming task) (λ q. refl) (λ q. refl) (λ q. refl) o n r.target r.found unused some fits)
      (rename_law old.naming task old.set_owner old.sets_made o n r.target l.sets r.found unused) on_ports ground

  -- a test that sees no renaming
  blind : (test : Token → Bool) → ((x : Token) → test (renamed_token task o n x) ≡ test x) → count test mid.ledger ≡ count test old.ledger
  blind test same = grind (arith, weigh_same)

  -- none was kept on the new name
  none_there : count (λ x. same_place (in_request (dead_name task n)) x.place) old.ledger ≡ 0
  none_there = none_at old l (dead_name task n) (ended (old.stands (dead_name task n)) refl)
    where
      ended : (b : Bool) → old.stands (dead_name task n) ≡ b → old.stands (dead_name task n) ≡ false
      ended false e = e
      ended true e = absurd (subst IsRight unused (l.stands_on (dead_name task n) e))

  one_kept : (x : Request) → count (λ y. same_place (in_request x) y.place) mid.ledger ≤ 1
  one_kept x =
      let a = r.tokens (λ y. if same_place (in_request x) y.place then 1 else 0) in
      let b = weigh-le (λ y. if same_place (in_request x) (renamed_place task o n y.place) then 1 else 0)
      (λ y. (if same_place (in_request x) y.place then 1 else 0) + (if same_request x (dead_name task n) && same_place (in_request (dead_name task o)) y.place then 1 else 0))
      (λ y. if_both task o n (same_place (in_request x) (renamed_place task o n y.place)) (same_place (in_request x) y.place) (same_request x (dead_name task n))
      (same_place (in_request (dead_name task o)) y.place) (place_kept task o n x y.place)) old.ledger in
      let d = weigh-both (λ y. if same_place (in_request x) y.place then 1 else 0) (λ y. if same_request x (dead_name task n) && same_place (in_request (dead_name task o)) y.place then 1 else 0) old.ledger in
      let one = l.one_kept x in
      let most = l.one_kept (dead_name task o) in
      by (same_request x (dead_name task n)) refl a b d
    where
      by : (s : Bool) → same_request x (dead_name task n) ≡ s →
          count (λ y. same_place (in_request x) y.place) mid.ledger ≡ weigh (λ y. if same_place (in_request x) (renamed_place task o n y.place) then 1 else 0) old.ledger →
          weigh (λ y. if same_place (in_request x) (renamed_place task o n y.place) then 1 else 0) old.ledger
          ≤ weigh (λ y. (if same_place (in_request x) y.place then 1 else 0) + (if same_request x (dead_name task n) && same_place (in_request (dead_name task o)) y.place then 1 else 0)) old.ledger →
          weigh (λ y. (if same_place (in_request x) y.place then 1 else 0) + (if same_request x (dead_name task n) && same_place (in_request (dead_name task o)) y.place then 1 else 0)) old.ledger
          ≡ count (λ y. same_place (in_request x) y.place) old.ledger + count (λ y. same_request x (dead_name task n) && same_place (in_request (dead_name task o)) y.place) old.ledger →
          count (λ y. same_place (in_request x) y.place) mid.ledger ≤ 1
      by false e a b d =
          let z : count (λ y. same_request x (dead_name task n) && same_place (in_request (dead_name task o)) y.place) old.ledger ≡ 0 =
          ap (λ (s : Bool). count (λ y. s && same_place (in_request (dead_name task o)) y.place) old.ledger) e ∙ count_none (λ y. false) old.ledger (λ k d below f. (cc)) in
          let one = l.one_kept x in omega (arith, a, b, d, z, one)
      by true e a b d =
          let z : count (λ y. same_place (in_request x) y.place) old.ledger ≡ 0 = same_count x e in
          let y : count (λ y. same_request x (dead_name task n) && same_place (in_request (dead_name task o)) y.place) old.ledger ≡ count (λ y. same_place (in_request (dead_name task o)) y.place) old.ledger =
          ap (λ (s : Bool). count (λ y. s && same_place (in_request (dead_name task o)) y.place) old.ledger) e in
          let most = l.one_kept (dead_name task o) in omega (arith, a, b, d, z, y, most)
        where
          same_count : (x : Request) → same_request x (dead_name task n) ≡ true → count (λ y. same_place (in_request x) y.place) old.ledger ≡ 0
          same_count (no_senders p) e = absurd (cc)
          same_count (port_destroyed p) e = absurd (cc)
          same_count (dead_name t m) e =
              let a = number t task (left_of (t == task) (m == n) e) in
              let b = number m n (right_of (t == task) (m == n) e) in
              subst (λ (u : ℕ). count (λ y. same_place (in_request (dead_name u m)) y.place) old.ledger ≡ 0) (sym a)
              (subst (λ (u : ℕ). count (λ y. same_place (in_request (dead_name task u)) y.place) old.ledger ≡ 0) (sym b) none_there)
            where
              number : (a b : ℕ) → (a == b) ≡ true → a ≡ b
              number a b e = elim (eqb_tells a b) [
                | inl h ↦ h.1
                | inr h ↦ absurd (let f = h.0 in cc)
              ]

  -- only send-once rights are kept
  once_kept : (x : Request) (kind : Kind) (q : ℕ) → kind ≢ send_once → lying mid kind q (in_request x) ≡ 0
  once_kept x kind q not =
      let a = r.tokens (λ y. if is_of kind q y && same_place (in_request x) y.place then 1 else 0) in
      let b = count_none (λ y. is_of kind q y && same_place (in_request x) (renamed_place task o n y.place)) old.ledger none in omega (arith, a, b)
    where
      none : (k : ℕ) (d : Token) → k < length old.ledger → (is_of kind q (get_or old.ledger k d) && same_place (in_request x) (renamed_place task o n (get_or old.ledger k d).place)) ≡ true → ⊥
      none k d below e =
          let y = get_or old.ledger k d in
          let of = left_of (is_of kind q y) (same_place (in_request x) (renamed_place task o n y.place)) e in
          elim (place_kept task o n x y.place (right_of (is_of kind q y) (same_place (in_request x) (renamed_place task o n y.place)) e)) [
            | inl h ↦
                let some = count_some (λ z. is_of kind q z && same_place (in_request x) z.place) old.ledger k d below (and_from (is_of kind q y) (same_place (in_request x) y.place) of h) in
                let z = l.once_kept x kind q not in omega (arith, some, z)
            | inr h ↦
                let some = count_some (λ z. is_of kind q z && same_place (in_request (dead_name task o)) z.place) old.ledger k d below
                (and_from (is_of kind q y) (same_place (in_request (dead_name task o)) y.place) of h.1) in
                let z = l.once_kept (dead_name task o) kind q not in omega (arith, some, z)
          ]

  moved_ledger : SameRights c mid.ledger
  moved_ledger = record {
    few = let a = r.tokens (λ x. 1) in omega (arith, a, length-weigh old.ledger, length-weigh mid.ledger, weigh_same (λ x. 1) (λ x. 1) old.ledger (λ x. refl));
    of = λ kind p. blind (is_of kind p) (λ x. refl);
    with_task = λ t kind p. blind (is_held t kind p) (λ x. ap (λ (b : Bool). is_of kind p x && b) (place_in_task task o n t x.place));
    at_entry = λ kind q p k. blind (λ x. is_of kind q x && same_place (in_message p k) x.place) (λ x. ap (λ (b : Bool). is_of kind q x && b) (place_in_message task o n p k x.place));
    on_port = λ x not kind q. blind (λ y. is_of kind q y && same_place (in_request x) y.place) (λ y. ap (λ (b : Bool). is_of kind q y && b) (place_on_port task o n x not y.place));
    one_kept = one_kept;
    once_kept = once_kept;
  }

  pub Renames-mid : MidLawful mid []
  Renames-mid = subst (λ (x : State). MidLawful x []) (sym r.rest) (SameRights-mid c mid.ledger [] c_lawful moved_ledger)

-- ---- A new port, a new set and a new dead name leave a lawful state.

none_of : {A : Type 0} (xs : List A) (k : ℕ) (e : A) → xs ≡ [] → slice_get xs k ≡ Some e → ⊥
none_of xs k e is f = let g : slice_get [] k ≡ Some e = subst (λ ys. slice_get ys k ≡ Some e) is f in cc

module _ (s : State) (task name : ℕ) (ledger : List Token) (l : IsLawful s) (is_task : s.live_task task ≡ true) (fresh : IsNew (s.naming task) name)
    (few : length s.ledger < most_rights) (moves : Moves s.ledger ledger [] (token receive s.ports_made (in_task task) ∷ [])) where
  abbrev made : ℕ
  made = s.ports_made

  abbrev new : State
  new = record (with_port task name s) { ledger = ledger }

  abbrev names_allocated : Names
  names_allocated = map.insert (s.naming task) name (Target.port made)

  tokens_for : (test : Token → Bool) → count test ledger ≡ count test s.ledger + (if test (token receive made (in_task task)) then 1 else 0)
  tokens_for test = let m = moves (λ x. if test x then 1 else 0) in omega (arith, m)

  made_dead : s.live_port made ≡ false
  made_dead = false_from_ne_true (s.live_port made) (λ e. let h = l.made_port made e in omega arith)

  none_made : (kind : Kind) → count (is_of kind made) s.ledger ≡ 0
  none_made kind = l.no_rights made made_dead kind

  -- names
  held_far : (t : ℕ) → (t ≡ task → ⊥) → (kind : Kind) (q : ℕ) → held new t kind q ≡ held s t kind q
  held_far t not kind q = grind (arith, tokens_for, both_test, ne_eqb)

  held_other : (kind : Kind) (q : ℕ) → (q ≡ made → ⊥) → held new task kind q ≡ held s task kind q
  held_other kind q not = let e = tokens_for (is_held task kind q) in let z = other_port task task kind receive q made not in omega (arith, e, z)

  own_allocated : LawfulNames names_allocated (held new task)
  own_allocated =
      let none = none_made receive in
      let without = none_made send in
      let a = held_le_of task receive made s.ledger in
      let b = held_le_of task send made s.ledger in
      let r = tokens_for (is_held task receive made) in
      let o = own_right task receive made refl in
      let c = tokens_for (is_held task send made) in
      let f = (l.naming task).few_references made in
      let d = tokens_for (is_held task send_once made) in
      port_named (s.naming task) (held s task) (held new task) (l.naming task) made held_other (omega (arith, d)) name fresh (omega (arith, none, without, a, b)) (omega (arith, r, o)) (omega (arith, c, f))

  -- ports
  old_port : (p : ℕ) → (p ≡ made → ⊥) → new.live_port p ≡ s.live_port p
  old_port p not = at_other s.live_port made true p not

  not_new : (p : ℕ) → new.live_port p ≡ false → p ≡ made → ⊥
  not_new p dead is = let e = at_same s.live_port made true p is in let f : true ≡ false = sym e ∙ dead in cc

  one_receive : (p : ℕ) → new.live_port p ≡ true → count (is_of receive p) ledger ≡ 1
  one_receive p live = grind (arith, if_same, none_made, tokens_for, if_other, old_port)

  no_rights : (p : ℕ) → new.live_port p ≡ false → (kind : Kind) → count (is_of kind p) ledger ≡ 0
  no_rights p dead kind = grind (arith, not_new, old_port, if_other, tokens_for)

  members : (p set : ℕ) → Contains (new.sets_of p) set → (t : ℕ) × (s.set_owner set ≡ Some t) × Holds new t receive p
  members p set = at_all (λ p sets. Contains sets set → (t : ℕ) × (s.set_owner set ≡ Some t) × Holds new t receive p) s.sets_of made []
      (λ in_it. absurd (omega (arith, in_it.1)))
      (λ q not in_it. let h = l.members q set in_it in let some = h.2 in let e = tokens_for (is_held h.0 receive q) in (h.0, h.1, omega (arith, some, e))) p

  -- messages
  lying_same : (kind : Kind) (q p k : ℕ) → lying new kind q (in_message p k) ≡ lying s kind q (in_message p k)
  lying_same kind q p k = grind (arith, tokens_for, both_test)

  lying_kept : (kind : Kind) (q : ℕ) (r : Request) → lying new kind q (in_request r) ≡ lying s kind q (in_request r)
  lying_kept kind q r = grind (arith, tokens_for, both_test)

  old_entry : (P : ℕ → Entry → Type 0) → ((p k : ℕ) (e : Entry) → slice_get (s.log p) k ≡ Some e → P p e) → (p k : ℕ) (e : Entry) → slice_get (new.log p) k ≡ Some e → P p e
  old_entry P all p k e = at_all (λ p log. slice_get log k ≡ Some e → P p e) s.log made [] (λ is. absurd (none_of [] k e refl is)) (λ q not is. all q k e is) p

  carried : (p i : ℕ) (e : Entry) → new.live_port p ≡ true → slice_get (queue new p) i ≡ Some e → (kind : Kind) (q : ℕ) → new.live_port q ≡ true →
      lying new kind q (in_message p (new.taken p + i)) ≡ message_count kind q e.message
  carried p i e live is kind q live_q = elim (eqb_tells p made) [
    | inl h ↦
        let empty : new.log p ≡ [] = at_same s.log made [] p h.1 in
        absurd (none_of (new.log p) (new.taken p + i) e empty (sym (slice_get_drop (new.taken p) (new.log p) i) ∙ is))
    | inr h ↦
        let log : new.log p ≡ s.log p = at_other s.log made [] p h.1 in
        let taken : new.taken p ≡ s.taken p = at_other s.taken made 0 p h.1 in
        let queued : slice_get (queue s p) i ≡ Some e = subst (λ (n : ℕ). slice_get (drop n (s.log p)) i ≡ Some e) taken (subst (λ (xs : List Entry). slice_get (drop (new.taken p) xs) i ≡ Some e) log is) in
        rw taken (lying_same kind q p (s.taken p + i) ∙ before p i e (sym (old_port p h.1) ∙ live) queued kind q live_q)
  ]
    where
      before : (p i : ℕ) (e : Entry) → s.live_port p ≡ true → slice_get (queue s p) i ≡ Some e → (kind : Kind) (q : ℕ) → new.live_port q ≡ true →
          lying s kind q (in_message p (s.taken p + i)) ≡ message_count kind q e.message
      before p i e live is kind q live_q = elim (eqb_tells q made) [
        | inl h ↦
            let le = lying_le_of s kind q (in_message p (s.taken p + i)) in
            let z : count (is_of kind q) s.ledger ≡ 0 = ap (λ (x : ℕ). count (is_of kind x) s.ledger) h.1 ∙ none_made kind in
            let m = l.made_marks p (s.taken p + i) e (sym (slice_get_drop (s.taken p) (s.log p) i) ∙ is) kind q (omega (arith, h.1)) in
            omega (arith, le, z, m)
        | inr h ↦ l.carried p i e live is kind q (sym (old_port q h.1) ∙ live_q)
      ]

  gone : (p k : ℕ) → (k < new.taken p) ⊎ (new.live_port p ≡ false) → (kind : Kind) (q : ℕ) → lying new kind q (in_message p k) ≡ 0
  gone p k (inl below) kind q = grind (arith, lying_same, at_all)
  gone p k (inr dead) kind q = lying_same kind q p k ∙ l.gone p k (inr (sym (old_port p (not_new p dead)) ∙ dead)) kind q

  no_entry : (p k : ℕ) → length (new.log p) ≤ k → (kind : Kind) (q : ℕ) → lying new kind q (in_message p k) ≡ 0
  no_entry p k above kind q = grind (arith, lying_same, at_all)

  founded : (r : Request) → s.stands r ≡ true → StandsOn new.live_port new.naming r
  founded (no_senders p) e = at_all (λ p b. s.live_port p ≡ true → b ≡ true) s.live_port made true (λ f. refl) (λ q not f. f) p (l.stands_on (no_senders p) e)
  founded (port_destroyed p) e = at_all (λ p b. s.live_port p ≡ true → b ≡ true) s.live_port made true (λ f. refl) (λ q not f. f) p (l.stands_on (port_destroyed p) e)
  founded (dead_name t n) e = ((named_requests s l.ground task name (Target.port made) (inl tt)).names t n e).1

  allocated_lawful : IsLawful new
  allocated_lawful = record {
    tasks = tasks_named s.naming new.naming task (at_other s.naming task names_allocated) s.live_task s.tasks_made l.tasks is_task;
    naming = all_named s.naming new.naming task (at_other s.naming task names_allocated) (held s) (held new) l.naming held_far (subst (λ (m : Names). LawfulNames m (held new task)) (sym (at_own s.naming task names_allocated)) own_allocated);
    ports = record {
      made_port = λ p live. elim (eqb_tells p made) [
        | inl h ↦ omega (arith, h.1)
        | inr h ↦ let b = l.made_port p (sym (old_port p h.1) ∙ live) in omega (arith, b)
      ];
      no_rights = no_rights;
    };
    numbers = record {
      limit_fits = at_all (λ p n. n ≤ greatest_limit) s.limit made first_limit (omega arith) (λ q not. l.limit_fits q);
      make_send_fits = at_all (λ p n. n < 2 ^ 32) s.make_send made 0 (omega arith) (λ q not. l.make_send_fits q);
      sequence_fits = at_all (λ p n. n < 2 ^ 32) s.sequence made 0 (omega arith) (λ q not. l.sequence_fits q);
    };
    receivers = record { one_receive = one_receive; members = members };
    few_rights = let m = moves (λ x. 1) in omega (arith, m, few, length-weigh s.ledger, length-weigh ledger);
    sets = at_law s.naming task s.set_owner s.sets_made names_allocated l.sets (inserted_sets (s.naming task) name (Target.port made) fresh.unused (λ set e. cc));
    membership = record {
      no_sets = λ p dead. at_other s.sets_of made [] p (not_new p dead) ∙ l.no_sets p (sym (old_port p (not_new p dead)) ∙ dead);
      few_sets = at_all (λ p sets. HasFewSets s.profile sets) s.sets_of made [] (few_none s.profile) (λ q not. l.few_sets q);
    };
    logs = record {
      unmade_log = λ p above. at_other s.log made [] p (λ e. omega (arith, e, above)) ∙ l.unmade_log p (omega (arith, above));
      within = λ p. elim (eqb_tells p made) [
        | inl h ↦ let a = at_same s.taken made 0 p h.1 in omega (arith, a)
        | inr h ↦ let a = at_other s.taken made 0 p h.1 in let b = ap length (at_other s.log made [] p h.1) in let w = l.within p in omega (arith, a, b, w)
      ];
      sent_here = old_entry (λ p e. (e.message.destination ≡ p) × (e.message.kind ≢ receive)) l.sent_here;
      made_marks = old_entry (λ p e. (kind : Kind) (q : ℕ) → made + 1 ≤ q → message_count kind q e.message ≡ 0) (λ p k e is kind q above. l.made_marks p k e is kind q (omega (arith, above)));
    };
    messages = record { carried = carried; gone = gone; no_entry = no_entry };
    requests = record {
      one_kept = λ r. let t = tokens_for (λ x. same_place (in_request r) x.place) in let h = l.one_kept r in omega (arith, t, h);
      once_kept = λ r kind q not. lying_kept kind q r ∙ l.once_kept r kind q not;
    };
    standing = record { ended = λ r not kind q. lying_kept kind q r ∙ l.ended r not kind q };
    ground = record { stands_on = founded };
  }

pub AllocatesPort-lawful : (task name : ℕ) (old mid : State) → IsLawful old → old.live_task task ≡ true → IsNew (old.naming task) name → length old.ledger < most_rights →
    AllocatesPort task name old mid → IsLawful mid
AllocatesPort-lawful task name old mid l is_task new few a = subst IsLawful (sym a.rest) (allocated_lawful old task name mid.ledger l is_task new few a.tokens)

-- a fresh name may come
pub fresh_new : (s : State) (task name : ℕ) → IsFreshFor s task name → map.len (s.naming task) < most_names → IsNew (s.naming task) name
fresh_new s task name fresh room = go s.profile fresh
  where
    indexed : IsFreshIndex (s.naming task) (s.given task) name → IsNew (s.naming task) name
    indexed f =
        let a = fresh_index_fits (s.naming task) (s.given task) name f in
        let b = div-add-mod name 256 in
        let c : name % 256 < 256 = mod-lt name (omega arith) in
        let d = f.not_null in
        record { unused = f.unused name refl; some = omega (arith, b, d); fits = omega (arith, a, b, c, room); room = room }

    go : (profile : Profile) → IsFreshIn profile (s.naming task) (s.given task) name → IsNew (s.naming task) name
    go One f = record { unused = f.unused; some = f.not_null; fits = (let a = fresh_fits (s.naming task) name f in omega (arith, a, room)); room = room }
    go Two f = indexed f
    go Three f = indexed f

-- a fresh name isn't in use
pub fresh_unused : (s : State) (task name : ℕ) → IsFreshFor s task name → map.get (s.naming task) name ≡ None
fresh_unused s task name fresh = go s.profile fresh
  where
    go : (profile : Profile) → IsFreshIn profile (s.naming task) (s.given task) name → map.get (s.naming task) name ≡ None
    go One f = f.unused
    go Two f = f.unused name refl
    go Three f = f.unused name refl

-- that a name was given is no part of what every state keeps
pub gives-lawful : (task name : ℕ) (s : State) → IsLawful s → IsLawful (gives task name s)
gives-lawful task name s l = record {
  tasks = l.tasks;
  naming = l.naming;
  ports = l.ports;
  numbers = l.numbers;
  receivers = l.receivers;
  few_rights = l.few_rights;
  sets = l.sets;
  membership = l.membership;
  logs = l.logs;
  messages = l.messages;
  requests = l.requests;
  standing = l.standing;
  ground = l.ground;
}

dead_made : (task name : ℕ) (s : State) → IsLawful s → s.live_task task ≡ true → IsNew (s.naming task) name → MidLawful (with_name task name (Target.dead 1) s) []
dead_made task name s l is_task new = named_as task s l is_task (map.insert (s.naming task) name (Target.dead 1)) s.stands
    (other_named (s.naming task) (held s task) (held s task) (l.naming task) (λ q. refl) (λ q. refl) name (Target.dead 1) new (omega arith, omega arith) (λ q e. cc) (λ q. omega arith))
    (at_law s.naming task s.set_owner s.sets_made (map.insert (s.naming task) name (Target.dead 1)) l.sets (inserted_sets (s.naming task) name (Target.dead 1) new.unused (λ set e. cc)))
    (named_requests s l.ground task name (Target.dead 1) (inr (none_right (lookup s task name) new.unused)))

-- ---- what may be made

pub Makes-mid : (task right name : ℕ) (old mid : State) → IsLawful old → old.live_task task ≡ true → map.get (old.naming task) name ≡ None → 0 < name → name < dead_word →
    ¬ (IsFull old task right) → Makes task right name old mid → MidLawful mid []
Makes-mid task right name old mid l is_task unused some fits not_full makes = go makes
  where
    new : IsNew (old.naming task) name
    new = grind arith

    go : Makes task right name old mid → MidLawful mid []
    go (inl (is, made)) = mid_lawful mid (AllocatesPort-lawful task name old mid l is_task new (let h : ¬ (most_rights ≤ length old.ledger) = λ full. not_full (inr (inl (is, inl full))) in omega (arith, h)) made)
    go (inr (inl (is, made))) = subst (λ (x : State). MidLawful x []) (sym made) (with_set-mid task name old l is_task new)
    go (inr (inr (is, made))) = subst (λ (x : State). MidLawful x []) (sym made) (dead_made task name old l is_task new)
