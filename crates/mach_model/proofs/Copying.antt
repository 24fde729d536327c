-- Copying a right in, and copying one out, keeps a state lawful but for the rights on their way.
use Rattle.std.proofs.Common.{◌≡◌, ℕ, zero, suc, ◌+◌, ◌-◌, ◌%◌, ◌^◌, ◌<◌, ◌≤◌, List, [], ◌∷◌, Some, refl, sym, subst, ◌∙◌, arith, true, false, Bool, ◌⊎◌, inl, inr, length}
use Rattle.std.specs.Prelude.{if◌then◌else◌, ◌==◌, ◌&&◌, ◌||◌, nat_lt, Contains, ◌≢◌}
use Rattle.std.specs.FinMap as map
use Rattle.std.proofs.lemmas.Bool.{eq-eqb, ne_eqb, ltb-true, ltb-false, and_right, cases_Bool}
use Rattle.mach_types.specs.declared.rights.Disposition.{Disposition}
use Rattle.mach_types.specs.declared.rights.Disposition.TheVariants.{MoveReceive, MoveSend, MoveSendOnce, CopySend, MakeSend, MakeSendOnce}
use Rattle.mach_types.specs.Numbers.{kind_sent, most_references}
use Rattle.mach_types.specs.Tokens.{Kind, receive, send, send_once, Request, dead_name, in_task, in_message, Token, token, count, is_of, is_held, same_kind, Moves}
use Rattle.mach_types.specs.Messages.{Mark, to_port, dead}
use Rattle.mach_model.specs.State.{State, Target, Names, lookup, held, Holds, at, request_at, without_name, with_name}
use Rattle.mach_model.specs.Death.{same_place}
use Rattle.mach_model.specs.SentMeans.{target_mark}
use Rattle.mach_model.specs.CopyIn.{IsLegal, taken_by, put_by, name_kept, changed_by, CopyRight}
use Rattle.mach_model.specs.Carried.{mark_count, lying}
use Rattle.mach_model.specs.Lawful.{HasReferences, LawfulNames, LawfulPorts, LawfulNumbers, LawfulReceivers, LawfulMembership, HasFewSets}
use Rattle.mach_model.proofs.Names.{both_test, held_le_of, length-weigh, pos_or_zero, at_all, some_tally, has_task, same_naming, port_kept, port_unnamed, other_unnamed, dead_counted, IsNew, port_named, other_named, SameSets, dead_sets, removed_sets, IsNoSet, inserted_sets, KeepsRequests, without_requests, named_requests, dead_not_right, none_right}
use Rattle.mach_model.proofs.Settling.{lives}
use Rattle.mach_model.proofs.Moving.{IsMoving, shape, Apart, near_none, near_task, near_entry, same_receivers, Leaves, same_leaves, other_leaves, moved, moved_apart}
use Rattle.mach_model.proofs.Memberships.{few_none}

-- ---- Copying in keeps a state lawful but for the rights on their way, and puts the right of each word there: all dispositions.

-- ---- what is known of a state while rights are on their way

pub alive_held : (s : State) (o k : ℕ) → IsMoving s o k → (task : ℕ) (kind : Kind) (p : ℕ) → 0 < held s task kind p → s.live_port p ≡ true
alive_held s o k l task kind p some = lives l.ports kind p (let le = held_le_of task kind p s.ledger in omega (arith, some, le))

pub once_held : (s : State) (o k : ℕ) → IsMoving s o k → (task name p : ℕ) → lookup s task name ≡ Some (Target.once p) → 0 < held s task send_once p
once_held s o k l task name p is = grind (arith, some_tally, eq-eqb)

-- ---- tests of a token at one place

-- how the tests of a task's rights see a right that it has
pub own_right : (task : ℕ) (kind : Kind) (p : ℕ) → same_kind kind kind ≡ true → (if is_held task kind p (token kind p (in_task task)) then suc zero else zero) ≡ suc zero
own_right task kind p e = rw (e, eq-eqb p p refl, eq-eqb task task refl) refl

pub own_task : (task : ℕ) (b : Bool) → (if b && task == task then suc zero else zero) ≡ (if b then suc zero else zero)
own_task task true = rw (eq-eqb task task refl) refl
own_task task false = refl

pub other_port : (t task : ℕ) (c kind : Kind) (q p : ℕ) → (q ≡ p → ⊥) → (if is_held t c q (token kind p (in_task task)) then suc zero else zero) ≡ zero
other_port t task c kind q p not = both_test (same_kind c kind && p == q) (task == t) (inl (and_right (same_kind c kind) (p == q) (ne_eqb p q (λ e. not (sym e)))))

-- how the tests of what lies at an entry see a right there
pub at_entry : (c : Kind) (q o k : ℕ) (kind : Kind) (p : ℕ) →
    (if is_of c q (token kind p (in_message o k)) && same_place (in_message o k) (in_message o k) then suc zero else zero) ≡ mark_count c q kind (to_port p)
at_entry c q o k kind p = grind (arith, eq-eqb)

pub not_at_entry : (c : Kind) (q o k : ℕ) (kind : Kind) (p task : ℕ) →
    (if is_of c q (token kind p (in_task task)) && same_place (in_message o k) (in_task task) then suc zero else zero) ≡ zero
not_at_entry c q o k kind p task = both_test (is_of c q (token kind p (in_task task))) false (inr refl)

pub not_held : (c : Kind) (q o k : ℕ) (kind : Kind) (p task : ℕ) → (if is_held task c q (token kind p (in_message o k)) then suc zero else zero) ≡ zero
not_held c q o k kind p task = both_test (is_of c q (token kind p (in_message o k))) false (inr refl)

-- ---- one word

-- A right of this kind for the mark is on its way now, beside what was.
pub record Copies (s new : State) (o k : ℕ) (kind : Kind) (mark : Mark) : Type 0 where
  pub keeps : IsMoving new o k
  pub rest : new ≡ shape s new
  pub apart : Apart s new o k
  pub lies : (c : Kind) (q : ℕ) → lying new c q (in_message o k) ≡ lying s c q (in_message o k) + mark_count c q kind mark

-- a right that is made
module _ (task o k : ℕ) (old new : State) (kind : Kind) (p : ℕ) (l : IsMoving old o k) (no_receive : (q : ℕ) → (if is_of receive q (token kind p (in_message o k)) then suc zero else zero) ≡ zero)
    (is_task : old.live_task task ≡ true) (live : old.live_port p ≡ true) (tokens : Moves old.ledger new.ledger [] (token kind p (in_message o k) ∷ [])) where
  made_held : (t : ℕ) (c : Kind) (q : ℕ) → held new t c q ≡ held old t c q
  made_held t c q = let m = tokens (λ x. if is_held t c q x then 1 else 0) in let z = not_held c q o k kind p t in omega (arith, m, z)

  made_ports : LawfulPorts old.live_port old.ports_made new.ledger
  made_ports = grind (arith, ne_eqb, both_test)

  made_receivers : LawfulReceivers old.live_port old.set_owner old.sets_of new.ledger
  made_receivers = grind (arith, same_receivers, made_held)

  made_copies : (make_send : ℕ → ℕ) → LawfulNumbers old.limit make_send old.sequence → new ≡ record old { make_send = make_send; ledger = new.ledger } → Copies old new o k kind (to_port p)
  made_copies make_send numbers rest = record {
    keeps = moved old new task o k l [] (token kind p (in_message o k) ∷ []) tokens (near_none task o k) (near_entry task o k kind p) leaves;
    rest = leaves.rest;
    apart = moved_apart old new task o k l [] (token kind p (in_message o k) ∷ []) tokens (near_none task o k) (near_entry task o k kind p) leaves;
    lies = λ c q. let m = tokens (λ x. if is_of c q x && same_place (in_message o k) x.place then 1 else 0) in let e = at_entry c q o k kind p in omega (arith, m, e);
  }
    where
      leaves : Leaves old new task
      leaves = subst (λ (x : State). Leaves old x task) (sym rest)
          (same_leaves task o k old l is_task make_send old.sequence old.sets_of new.ledger made_ports numbers made_receivers l.membership
          (same_naming (old.naming task) (held old task) (held new task) (l.naming task) (made_held task)))

-- a right that leaves the task
module _ (task o k : ℕ) (old new : State) (kind : Kind) (p : ℕ) (l : IsMoving old o k) (tokens : Moves old.ledger new.ledger (token kind p (in_task task) ∷ []) (token kind p (in_message o k) ∷ [])) where
  left_held : (c : Kind) (q : ℕ) → held new task c q + (if is_held task c q (token kind p (in_task task)) then suc zero else zero) ≡ held old task c q
  left_held c q = let m = tokens (λ x. if is_held task c q x then 1 else 0) in let z = not_held c q o k kind p task in omega (arith, m, z)

  left_other : (c : Kind) (q : ℕ) → (q ≡ p → ⊥) → held new task c q ≡ held old task c q
  left_other c q not = let m = left_held c q in let z = other_port task task c kind q p not in omega (arith, m, z)

  left_there : (t q : ℕ) → (q ≡ p → ⊥) → held new t receive q ≡ held old t receive q
  left_there t q not = grind (arith, other_port, not_held)

  left_of : (c : Kind) (q : ℕ) → count (is_of c q) new.ledger ≡ count (is_of c q) old.ledger
  left_of c q = let m = tokens (λ x. if is_of c q x then 1 else 0) in omega (arith, m)

  left_ports : LawfulPorts old.live_port old.ports_made new.ledger
  left_ports = record { made_port = l.made_port; no_rights = λ q dead c. left_of c q ∙ l.no_rights q dead c }

  -- the right is no receive right
  left_receivers : ((t q : ℕ) → held new t receive q ≡ held old t receive q) → LawfulReceivers old.live_port old.set_owner old.sets_of new.ledger
  left_receivers same = grind (arith, same_receivers, left_of)

  left_copies : Leaves old new task → Copies old new o k kind (to_port p)
  left_copies v = record {
    keeps = moved old new task o k l (token kind p (in_task task) ∷ []) (token kind p (in_message o k) ∷ []) tokens (near_task task o k kind p) (near_entry task o k kind p) v;
    rest = v.rest;
    apart = moved_apart old new task o k l (token kind p (in_task task) ∷ []) (token kind p (in_message o k) ∷ []) tokens (near_task task o k kind p) (near_entry task o k kind p) v;
    lies = λ c q.
        let m = tokens (λ x. if is_of c q x && same_place (in_message o k) x.place then 1 else 0) in
        let e = at_entry c q o k kind p in let z = not_at_entry c q o k kind p task in omega (arith, m, e, z);
  }

-- ---- the rights of one port change, and its name stays or goes

-- a name stays where either right is left
pub kept_when : (a b : Bool) (n : ℕ) → (a ≡ true → 0 < n) → (b ≡ true → 0 < n) → (a ≡ false → b ≡ false → n ≡ 0) → ((a || b) ≡ true) × (0 < n) ⊎ ((a || b) ≡ false) × (n ≡ 0)
kept_when true b n f g h = inl (refl, f refl)
kept_when false true n f g h = inl (refl, g refl)
kept_when false false n f g h = inr (refl, h refl refl)

-- One send right less is with the task.
pub one_less : (sends receives less same : ℕ) → less + 1 ≡ sends → same ≡ receives →
    ((nat_lt 1 sends || nat_lt 0 receives) ≡ true) × (0 < same + less) ⊎ ((nat_lt 1 sends || nat_lt 0 receives) ≡ false) × (same + less ≡ 0)
one_less sends receives less same e f = grind (arith, kept_when, ltb-true, ltb-false)

module _ (task o k name p : ℕ) (old : State) (ledger : List Token) (l : IsMoving old o k) (is : lookup old task name ≡ Some (Target.port p))
    (same : (kind : Kind) (q : ℕ) → (q ≡ p → ⊥) → count (is_held task kind q) ledger ≡ held old task kind q) (same_once : count (is_held task send_once p) ledger ≡ held old task send_once p)
    (few : count (is_held task send p) ledger ≤ most_references) (ports : LawfulPorts old.live_port old.ports_made ledger) where
  abbrev left_over : ℕ
  left_over = count (is_held task receive p) ledger + count (is_held task send p) ledger

  abbrev left_rights : Kind → ℕ → ℕ
  left_rights kind q = count (is_held task kind q) ledger

  pub port_leaves : (b : Bool) → (b ≡ true) × (0 < left_over) ⊎ (b ≡ false) × (left_over ≡ 0) → (make_send sequence : ℕ → ℕ) (sets_of : ℕ → List ℕ) → LawfulNumbers old.limit make_send sequence →
      LawfulReceivers old.live_port old.set_owner sets_of ledger → LawfulMembership old.profile old.live_port sets_of →
      Leaves old (record (name_kept b task name old) { make_send = make_send; sequence = sequence; sets_of = sets_of; ledger = ledger }) task
  port_leaves true (inl (e, some)) make_send sequence sets_of numbers receivers membership = grind (arith, same_leaves, has_task, port_kept)
  port_leaves false (inr (e, none)) make_send sequence sets_of numbers receivers membership =
      other_leaves task o k old l (has_task l.tasks task name (Target.port p) is) make_send sequence sets_of ledger ports numbers receivers membership old.given
      (map.remove (old.naming task) name) (request_at old.stands (dead_name task name) false)
      (port_unnamed (old.naming task) (held old task) left_rights (l.naming task) p same same_once name is none)
      (removed_sets (old.naming task) name (Target.port p) is (λ set e. cc)) (without_requests old l.ground task name)
  port_leaves true (inr (e, none)) make_send sequence sets_of numbers receivers membership = absurd (cc)
  port_leaves false (inl (e, some)) make_send sequence sets_of numbers receivers membership = absurd (cc)

  -- nothing changes beside
  pub sends_leave : (b : Bool) → (b ≡ true) × (0 < left_over) ⊎ (b ≡ false) × (left_over ≡ 0) → LawfulReceivers old.live_port old.set_owner old.sets_of ledger →
      Leaves old (record (name_kept b task name old) { ledger = ledger }) task
  sends_leave true kept receivers = port_leaves true kept old.make_send old.sequence old.sets_of l.numbers receivers l.membership
  sends_leave false kept receivers = port_leaves false kept old.make_send old.sequence old.sets_of l.numbers receivers l.membership

-- ---- a send right is moved

module _ (task o k name p : ℕ) (old new : State) (l : IsMoving old o k) (is : lookup old task name ≡ Some (Target.port p))
    (tokens : Moves old.ledger new.ledger (token send p (in_task task) ∷ []) (token send p (in_message o k) ∷ [])) where
  send_moved : new ≡ record (name_kept (nat_lt 1 (held old task send p) || nat_lt 0 (held old task receive p)) task name old) { ledger = new.ledger } → Copies old new o k send (to_port p)
  send_moved rest = left_copies task o k old new send p l tokens (subst (λ (x : State). Leaves old x task) (sym rest)
      (sends_leave task o k name p old new.ledger l is (left_other task o k old new send p l tokens) (let m = tokens (λ x. if is_held task send_once p x then 1 else 0) in omega (arith, m))
      (let a = left_held task o k old new send p l tokens send p in let b = (l.naming task).few_references p in omega (arith, a, b)) (left_ports task o k old new send p l tokens)
      (nat_lt 1 (held old task send p) || nat_lt 0 (held old task receive p))
      (one_less (held old task send p) (held old task receive p) (held new task send p) (held new task receive p)
      (let m = left_held task o k old new send p l tokens send p in let e = own_right task send p refl in omega (arith, m, e)) (same task p))
      (left_receivers task o k old new send p l tokens same)))
    where
      same : (t q : ℕ) → held new t receive q ≡ held old t receive q
      same t q = let m = tokens (λ x. if is_held t receive q x then 1 else 0) in omega (arith, m)

-- ---- a receive right is moved

module _ (task o k name p : ℕ) (old new : State) (l : IsMoving old o k) (is : lookup old task name ≡ Some (Target.port p)) (holds : Holds old task receive p)
    (tokens : Moves old.ledger new.ledger (token receive p (in_task task) ∷ []) (token receive p (in_message o k) ∷ [])) where
  none_more : held new task receive p ≡ 0
  none_more = grind (arith, left_held, own_right, alive_held, held_le_of)

  same_sends : held new task send p ≡ held old task send p
  same_sends = let m = tokens (λ x. if is_held task send p x then 1 else 0) in omega (arith, m)

  is_kept : (held new task receive p + held new task send p ≡ held old task send p) → (nat_lt 0 (held old task send p) ≡ true) × (0 < held new task receive p + held new task send p)
      ⊎ (nat_lt 0 (held old task send p) ≡ false) × (held new task receive p + held new task send p ≡ 0)
  is_kept same = grind (arith, cases_Bool, ltb-true, ltb-false)

  receive_moved : new ≡ record (name_kept (nat_lt 0 (held old task send p)) task name old) { sets_of = at old.sets_of p []; make_send = at old.make_send p 0; sequence = at old.sequence p 0; ledger = new.ledger } →
      Copies old new o k receive (to_port p)
  receive_moved rest = left_copies task o k old new receive p l tokens (subst (λ (x : State). Leaves old x task) (sym rest)
      (port_leaves task o k name p old new.ledger l is (left_other task o k old new receive p l tokens) (let m = tokens (λ x. if is_held task send_once p x then 1 else 0) in omega (arith, m))
      (let a = same_sends in let b = (l.naming task).few_references p in omega (arith, a, b)) (left_ports task o k old new receive p l tokens)
      (nat_lt 0 (held old task send p)) (is_kept (let a = none_more in let b = same_sends in omega (arith, a, b))) (at old.make_send p 0) (at old.sequence p 0) (at old.sets_of p []) (record {
        limit_fits = l.limit_fits;
        make_send_fits = at_all (λ q n. n < 2 ^ 32) old.make_send p 0 (omega arith) (λ r not. l.make_send_fits r);
        sequence_fits = at_all (λ q n. n < 2 ^ 32) old.sequence p 0 (omega arith) (λ r not. l.sequence_fits r);
      }) (record {
        one_receive = λ q is_live. left_of task o k old new receive p l tokens receive q ∙ l.one_receive q is_live;
        members = λ q set. at_all (λ q xs. Contains xs set → (t : ℕ) × (old.set_owner set ≡ Some t) × Holds new t receive q) old.sets_of p [] (λ none. absurd (omega (arith, none.1)))
            (λ r not one. let h = l.members r set one in let e = left_there task o k old new receive p l tokens h.0 r not in let some = h.2 in (h.0, h.1, omega (arith, some, e))) q;
      }) (record {
        no_sets = at_all (λ q xs. old.live_port q ≡ false → xs ≡ []) old.sets_of p [] (λ d. refl) (λ r not d. l.no_sets r d);
        few_sets = at_all (λ q xs. HasFewSets old.profile xs) old.sets_of p [] (few_none old.profile) (λ r not. l.few_sets r);
      })))

-- ---- a send-once right is moved

module _ (task o k name p : ℕ) (old new : State) (l : IsMoving old o k) (is : lookup old task name ≡ Some (Target.once p))
    (tokens : Moves old.ledger new.ledger (token send_once p (in_task task) ∷ []) (token send_once p (in_message o k) ∷ [])) where
  receives_stay : (t q : ℕ) → held new t receive q ≡ held old t receive q
  receives_stay t q = let m = tokens (λ x. if is_held t receive q x then 1 else 0) in omega (arith, m)

  sends_stay : (q : ℕ) → held new task send q ≡ held old task send q
  sends_stay q = let m = tokens (λ x. if is_held task send q x then 1 else 0) in omega (arith, m)

  once_less : (q : ℕ) → held new task send_once q + (if p == q then suc zero else zero) ≡ held old task send_once q
  once_less q = let m = left_held task o k old new send_once p l tokens send_once q in let e = own_task task (p == q) in omega (arith, m, e)

  no_port : (q : ℕ) → Target.once p ≡ Target.port q → ⊥
  no_port q e = cc

  once_moved : new ≡ record (without_name task name old) { ledger = new.ledger } → Copies old new o k send_once (to_port p)
  once_moved rest = left_copies task o k old new send_once p l tokens (subst (λ (x : State). Leaves old x task) (sym rest)
      (other_leaves task o k old l (has_task l.tasks task name (Target.once p) is) old.make_send old.sequence old.sets_of new.ledger (left_ports task o k old new send_once p l tokens) l.numbers
      (left_receivers task o k old new send_once p l tokens receives_stay) l.membership old.given (map.remove (old.naming task) name) (request_at old.stands (dead_name task name) false)
      (other_unnamed (old.naming task) (held old task) (held new task) (l.naming task) (receives_stay task) sends_stay name (Target.once p) is no_port once_less)
      (removed_sets (old.naming task) name (Target.once p) is (λ set e. cc)) (without_requests old l.ground task name)))

-- ---- a dead name is sent on

module _ (task o k : ℕ) (old new : State) (l : IsMoving old o k) (tokens : Moves old.ledger new.ledger [] []) where
  pub same_held : (t : ℕ) (c : Kind) (q : ℕ) → held new t c q ≡ held old t c q
  same_held t c q = let m = tokens (λ x. if is_held t c q x then 1 else 0) in omega (arith, m)

  dead_ports : LawfulPorts old.live_port old.ports_made new.ledger
  dead_ports = grind arith

  dead_receivers : LawfulReceivers old.live_port old.set_owner old.sets_of new.ledger
  dead_receivers = grind (arith, same_receivers, same_held)

  -- the task's names are others, with the same rights
  pub dead_leaves : old.live_task task ≡ true → (names : Names) (stands : Request → Bool) → LawfulNames names (held new task) → SameSets (old.naming task) names → KeepsRequests old.stands stands (at old.naming task names) →
      Leaves old (record old { naming = at old.naming task names; stands = stands; ledger = new.ledger }) task
  dead_leaves is_task = other_leaves task o k old l is_task old.make_send old.sequence old.sets_of new.ledger dead_ports l.numbers dead_receivers l.membership old.given

  dead_copies : (kind : Kind) (mark : Mark) → mark ≡ dead → Leaves old new task → Copies old new o k kind mark
  dead_copies kind mark is v = grind (arith, moved, near_none, moved_apart)

  no_rights_under : (n q : ℕ) → Target.dead n ≡ Target.port q → ⊥
  no_rights_under n q e = cc

  fewer_references : (name n : ℕ) → lookup old task name ≡ Some (Target.dead n) → (b : Bool) → nat_lt 1 n ≡ b →
      new ≡ record (if b then with_name task name (Target.dead (n - 1)) old else without_name task name old) { ledger = new.ledger } → Leaves old new task
  fewer_references name n is true e rest = subst (λ (x : State). Leaves old x task) (sym rest)
      (dead_leaves (has_task l.tasks task name (Target.dead n) is) (map.insert (old.naming task) name (Target.dead (n - 1))) old.stands
      (dead_counted (old.naming task) (held old task) (held new task) (l.naming task) (same_held task receive) (same_held task send) (same_held task send_once) name n (n - 1) is
      (let more = ltb-true 1 n e in let h : HasReferences (Target.dead n) = (l.naming task).references name (Target.dead n) is in (omega (arith, more), (let f = h.1 in omega (arith, f)))))
      (dead_sets (old.naming task) name n (n - 1) is) (named_requests old l.ground task name (Target.dead (n - 1)) (inr (dead_not_right (lookup old task name) n is))))
  fewer_references name n is false e rest = subst (λ (x : State). Leaves old x task) (sym rest)
      (dead_leaves (has_task l.tasks task name (Target.dead n) is) (map.remove (old.naming task) name) (request_at old.stands (dead_name task name) false)
      (other_unnamed (old.naming task) (held old task) (held new task) (l.naming task) (same_held task receive) (same_held task send) name (Target.dead n) is (no_rights_under n)
      (λ q. let h = same_held task send_once q in omega (arith, h)))
      (removed_sets (old.naming task) name (Target.dead n) is (λ set e. cc)) (without_requests old l.ground task name))

  same_references : (name : ℕ) (x : Target) → lookup old task name ≡ Some x → new ≡ record old { ledger = new.ledger } → Leaves old new task
  same_references name x is rest = grind (arith, same_leaves, has_task, dead_ports, dead_receivers, same_naming, same_held)

-- ---- each disposition

marked : (a b : Mark) → Some a ≡ Some b → b ≡ a
marked a b e = cc

at_mark : (s new : State) (o k : ℕ) (kind : Kind) (a b : Mark) → Some a ≡ Some b → Copies s new o k kind a → Copies s new o k kind b
at_mark s new o k kind a b e c = subst (Copies s new o k kind) (sym (marked a b e)) c

copies : (task o k name : ℕ) (old new : State) (given : Disposition) (target : Target) (mark : Mark) → IsMoving old o k → lookup old task name ≡ Some target →
    IsLegal old task given target → target_mark given target ≡ Some mark → new ≡ record (changed_by given target task name old) { ledger = new.ledger } →
    Moves old.ledger new.ledger (taken_by given target task) (put_by given target (in_message o k)) → Copies old new o k (kind_sent given) mark
copies task o k name old new MoveReceive (Target.port p) mark l is legal m rest tokens =
    at_mark old new o k receive (to_port p) mark m (receive_moved task o k name p old new l is legal tokens rest)
copies task o k name old new MoveSend (Target.port p) mark l is legal m rest tokens = at_mark old new o k send (to_port p) mark m (send_moved task o k name p old new l is tokens rest)
copies task o k name old new CopySend (Target.port p) mark l is legal m rest tokens = at_mark old new o k send (to_port p) mark m
    (made_copies task o k old new send p l (λ q. refl) (has_task l.tasks task name (Target.port p) is) (alive_held old o k l task send p legal) tokens old.make_send l.numbers rest)
copies task o k name old new MakeSend (Target.port p) mark l is legal m rest tokens = at_mark old new o k send (to_port p) mark m
    (made_copies task o k old new send p l (λ q. refl) (has_task l.tasks task name (Target.port p) is) (alive_held old o k l task receive p legal) tokens
    (at old.make_send p ((old.make_send p + 1) % 2 ^ 32)) (record {
      limit_fits = l.limit_fits;
      make_send_fits = at_all (λ q n. n < 2 ^ 32) old.make_send p ((old.make_send p + 1) % 2 ^ 32) (omega arith) (λ r not. l.make_send_fits r);
      sequence_fits = l.sequence_fits;
    }) rest)
copies task o k name old new MakeSendOnce (Target.port p) mark l is legal m rest tokens = at_mark old new o k send_once (to_port p) mark m
    (made_copies task o k old new send_once p l (λ q. refl) (has_task l.tasks task name (Target.port p) is) (alive_held old o k l task receive p legal) tokens old.make_send l.numbers rest)
copies task o k name old new MoveSendOnce (Target.once p) mark l is legal m rest tokens =
    at_mark old new o k send_once (to_port p) mark m (once_moved task o k name p old new l is tokens rest)
copies task o k name old new MoveSend (Target.dead n) mark l is legal m rest tokens =
    dead_copies task o k old new l tokens send mark (marked dead mark m) (fewer_references task o k old new l tokens name n is (nat_lt 1 n) refl rest)
copies task o k name old new MoveSendOnce (Target.dead n) mark l is legal m rest tokens =
    dead_copies task o k old new l tokens send_once mark (marked dead mark m) (fewer_references task o k old new l tokens name n is (nat_lt 1 n) refl rest)
copies task o k name old new CopySend (Target.dead n) mark l is legal m rest tokens =
    dead_copies task o k old new l tokens send mark (marked dead mark m) (same_references task o k old new l tokens name (Target.dead n) is rest)
copies task o k name old new given target mark l is legal m rest tokens = absurd legal

-- The right under the name is copied in: it is on its way.
pub CopyRight-copies : (task o k number name : ℕ) (old : State) (mark : Mark) (new : State) → IsMoving old o k → (r : CopyRight task (in_message o k) number name old mark new) →
    Copies old new o k (kind_sent r.given) mark
CopyRight-copies task o k number name old mark new l r = copies task o k name old new r.given r.target mark l r.found r.legal r.mark_is r.rest r.tokens

-- ---- Copying out keeps a state lawful but for the rights on their way, and takes the right of each mark from there.

-- ---- one right

-- So many rights less of each kind and live port are on their way, and there are no more rights in all.
pub record Removes (s new : State) (o k : ℕ) (less : Kind → ℕ → ℕ) : Type 0 where
  pub keeps : IsMoving new o k
  pub rest : new ≡ shape s new
  pub apart : Apart s new o k
  pub few : length new.ledger ≤ length s.ledger
  pub lies : (c : Kind) (q : ℕ) → s.live_port q ≡ true → lying new c q (in_message o k) + less c q ≡ lying s c q (in_message o k)

-- a right that comes to the task
module _ (task o k : ℕ) (old new : State) (kind : Kind) (p : ℕ) (l : IsMoving old o k) (is_task : old.live_task task ≡ true)
    (tokens : Moves old.ledger new.ledger (token kind p (in_message o k) ∷ []) (token kind p (in_task task) ∷ [])) where
  pub come_held : (c : Kind) (q : ℕ) → held new task c q ≡ held old task c q + (if is_held task c q (token kind p (in_task task)) then suc zero else zero)
  come_held c q = let m = tokens (λ x. if is_held task c q x then 1 else 0) in let z = not_held c q o k kind p task in omega (arith, m, z)

  come_other : (c : Kind) (q : ℕ) → (q ≡ p → ⊥) → held new task c q ≡ held old task c q
  come_other c q not = let m = come_held c q in let z = other_port task task c kind q p not in omega (arith, m, z)

  come_of : (c : Kind) (q : ℕ) → count (is_of c q) new.ledger ≡ count (is_of c q) old.ledger
  come_of c q = let m = tokens (λ x. if is_of c q x then 1 else 0) in omega (arith, m)

  come_ports : LawfulPorts old.live_port old.ports_made new.ledger
  come_ports = record { made_port = l.made_port; no_rights = λ q is_dead c. come_of c q ∙ l.no_rights q is_dead c }

  come_receivers : LawfulReceivers old.live_port old.set_owner old.sets_of new.ledger
  come_receivers = grind (arith, same_receivers, come_of, not_held)

  come_removes : Leaves old new task → Removes old new o k (λ c q. mark_count c q kind (to_port p))
  come_removes v = record {
    keeps = moved old new task o k l (token kind p (in_message o k) ∷ []) (token kind p (in_task task) ∷ []) tokens (near_entry task o k kind p) (near_task task o k kind p) v;
    rest = v.rest;
    apart = moved_apart old new task o k l (token kind p (in_message o k) ∷ []) (token kind p (in_task task) ∷ []) tokens (near_entry task o k kind p) (near_task task o k kind p) v;
    few = let m = tokens (λ x. 1) in omega (arith, m, length-weigh old.ledger, length-weigh new.ledger);
    lies = λ c q live.
        let m = tokens (λ x. if is_of c q x && same_place (in_message o k) x.place then 1 else 0) in
        let e = at_entry c q o k kind p in let z = not_at_entry c q o k kind p task in omega (arith, m, e, z);
  }

  -- a receive or send right is one more of these, and no send-once right
  some_right : (kind ≡ send_once → ⊥) → 0 < held new task receive p + held new task send p
  some_right not = grind (arith, come_held, own_right)

  same_once : (kind ≡ send_once → ⊥) → held new task send_once p ≡ held old task send_once p
  same_once not = grind (arith, come_held)

  -- under the name that the task has for the port
  pub come_same : (name : ℕ) → (kind ≡ send_once → ⊥) → lookup old task name ≡ Some (Target.port p) → held new task send p ≤ most_references → new ≡ record old { ledger = new.ledger } →
      Removes old new o k (λ c q. mark_count c q kind (to_port p))
  come_same name not is few rest = come_removes (subst (λ (x : State). Leaves old x task) (sym rest)
      (same_leaves task o k old l is_task old.make_send old.sequence old.sets_of new.ledger come_ports l.numbers come_receivers l.membership
      (port_kept (old.naming task) (held old task) (held new task) (l.naming task) p come_other (same_once not) name is (some_right not) few)))

  -- under a new name
  come_named : (given : ℕ → ℕ → ℕ) (name : ℕ) (x : Target) → IsNoSet x → IsNew (old.naming task) name → LawfulNames (map.insert (old.naming task) name x) (held new task) →
      new ≡ record (with_name task name x old) { ledger = new.ledger; given = given } → Removes old new o k (λ c q. mark_count c q kind (to_port p))
  come_named given name x not_set is_new own rest = come_removes (subst (λ (x : State). Leaves old x task) (sym rest)
      (other_leaves task o k old l is_task old.make_send old.sequence old.sets_of new.ledger come_ports l.numbers come_receivers l.membership given
      (map.insert (old.naming task) name x) old.stands own (inserted_sets (old.naming task) name x is_new.unused not_set)
      (named_requests old l.ground task name x (inr (none_right (lookup old task name) is_new.unused)))))

  pub come_port : (given : ℕ → ℕ → ℕ) (name : ℕ) → (kind ≡ send_once → ⊥) → IsNew (old.naming task) name → ((n : ℕ) → lookup old task n ≢ Some (Target.port p)) → held new task send p ≤ most_references →
      new ≡ record (with_name task name (Target.port p) old) { ledger = new.ledger; given = given } → Removes old new o k (λ c q. mark_count c q kind (to_port p))
  come_port given name not is_new none few rest = come_named given name (Target.port p) (λ set e. cc) is_new
      (port_named (old.naming task) (held old task) (held new task) (l.naming task) p come_other (same_once not) name is_new no_right (some_right not) few) rest
    where
      no_right : held old task receive p + held old task send p ≡ 0
      no_right = elim (pos_or_zero (held old task receive p + held old task send p)) [
        | inl h ↦ h
        | inr h ↦ absurd (let n = (l.naming task).is_named p h in none n.0 n.1)
      ]

  -- a send-once right, always so
  pub come_once : (given : ℕ → ℕ → ℕ) (name : ℕ) → kind ≡ send_once → IsNew (old.naming task) name → new ≡ record (with_name task name (Target.once p) old) { ledger = new.ledger; given = given } →
      Removes old new o k (λ c q. mark_count c q kind (to_port p))
  come_once given name is is_new rest = come_named given name (Target.once p) (λ set e. cc) is_new
      (other_named (old.naming task) (held old task) (held new task) (l.naming task) (same receive refl) (same send refl) name (Target.once p) is_new tt (λ q e. cc) more) rest
    where
      same : (c : Kind) → same_kind c send_once ≡ false → (q : ℕ) → held new task c q ≡ held old task c q
      same c e q = let m = come_held c q in let z = none kind is in omega (arith, m, z)
        where
          none : (d : Kind) → d ≡ send_once → (if is_held task c q (token d p (in_task task)) then suc zero else zero) ≡ zero
          none d f = rw (f, e) refl

      more : (q : ℕ) → held new task send_once q ≡ held old task send_once q + (if p == q then suc zero else zero)
      more q =
          let m = come_held send_once q in
          let z : (if is_held task send_once q (token kind p (in_task task)) then suc zero else zero) ≡ (if p == q then suc zero else zero) =
          subst (λ (x : Kind). (if is_held task send_once q (token x p (in_task task)) then suc zero else zero) ≡ (if p == q then suc zero else zero)) (sym is) (own_task task (p == q)) in omega (arith, m, z)

-- a right that goes: a send right, since the task has as many references as there may be, or a send-once right that is used
module _ (task o k : ℕ) (old new : State) (kind : Kind) (p : ℕ) (no_receive : same_kind receive kind ≡ false) (l : IsMoving old o k) (is_task : old.live_task task ≡ true)
    (tokens : Moves old.ledger new.ledger (token kind p (in_message o k) ∷ []) []) where
  gone_held : (t : ℕ) (c : Kind) (q : ℕ) → held new t c q ≡ held old t c q
  gone_held t c q = let m = tokens (λ x. if is_held t c q x then 1 else 0) in let z = not_held c q o k kind p t in omega (arith, m, z)

  pub gone_removes : new ≡ record old { ledger = new.ledger } → Removes old new o k (λ c q. mark_count c q kind (to_port p))
  gone_removes rest = record {
    keeps = moved old new task o k l (token kind p (in_message o k) ∷ []) [] tokens (near_entry task o k kind p) (near_none task o k) leaves;
    rest = leaves.rest;
    apart = moved_apart old new task o k l (token kind p (in_message o k) ∷ []) [] tokens (near_entry task o k kind p) (near_none task o k) leaves;
    few = let m = tokens (λ x. 1) in omega (arith, m, length-weigh old.ledger, length-weigh new.ledger);
    lies = λ c q live.
        let m = tokens (λ x. if is_of c q x && same_place (in_message o k) x.place then 1 else 0) in
        let e = at_entry c q o k kind p in omega (arith, m, e);
  }
    where
      leaves : Leaves old new task
      leaves = subst (λ (x : State). Leaves old x task) (sym rest) (same_leaves task o k old l is_task old.make_send old.sequence old.sets_of new.ledger
          (record { made_port = l.made_port; no_rights = λ q is_dead c. let m = tokens (λ x. if is_of c q x then 1 else 0) in let n = l.no_rights q is_dead c in omega (arith, m, n) }) l.numbers
          (same_receivers old.live_port old.set_owner old.sets_of old.ledger new.ledger l.receivers (λ q. let m = tokens (λ x. if is_of receive q x then 1 else 0) in let z : (if is_of receive q (token kind p (in_message o k)) then suc zero else zero) ≡ zero = rw no_receive refl in omega (arith, m, z))
          (λ t q. let e = gone_held t receive q in omega (arith, e)))
          l.membership (same_naming (old.naming task) (held old task) (held new task) (l.naming task) (gone_held task)))
