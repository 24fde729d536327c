-- What stays for those that wait where references go, or a right that is no receive right goes to another task.
use Rattle.std.proofs.Common.{◌≡◌, ℕ, ◌-◌, List, [], ◌∷◌, Some, refl, sym, ap, ◌∙◌, arith, true, false, Bool, inl, inr, ◌⊎◌, All}
use Rattle.std.specs.Prelude.{◌≢◌, ◌==◌, ◌&&◌, ◌||◌, ℤ, if◌then◌else◌, nat_lt}
use Rattle.std.proofs.lemmas.List.Elements.{All-head, All-tail, All-cons, All-nil, All-replicate}
use Rattle.mach_types.specs.declared.rights.Disposition.{Disposition}
use Rattle.mach_types.specs.Numbers.{kind_sent, most_references}
use Rattle.mach_types.specs.Tokens.{Kind, receive, send, send_once, in_task, Token, token, count, same_kind, is_in_task, is_held}
use Rattle.mach_types.specs.Messages.{to_port}
use Rattle.mach_model.specs.State.{State, Target, lookup, held, with_name, without_name}
use Rattle.mach_model.specs.CopyIn.{taken_by}
use Rattle.mach_model.specs.Notices.{Owed}
use Rattle.mach_model.specs.References.{LosesOne, LosesAll, is_either, SetsSends, RemovesRight, Modifies}
use Rattle.mach_model.specs.Transfer.{Inserts, Extracts, pegged, target_for}
use Rattle.mach_laws.proofs.Touching.{Keeps, keeps_same, keeps_trans, keeps_by, kept_keeps, changed_keeps, taken_none, copy_keeps, for_keeps, IsNoReceive, moves_keep, one_token}

-- ---- references under a name

pub one_keeps : (task name : ℕ) (d : Disposition) (target : Target) (old mid : State) → same_kind receive (kind_sent d) ≡ false → LosesOne task name d target old mid → Keeps old mid
one_keeps task name d target old mid not l =
    changed_keeps d target task name old mid not l.rest (moves_keep old.ledger mid.ledger (taken_by d target task) [] l.tokens (taken_none d target task not) (All-nil IsNoReceive))

-- a token that passes as a send right is no receive right
sends_none : (k : Kind) (a b : Bool) → ((same_kind send k && a) && b) ≡ true → same_kind receive k ≡ false
sends_none receive a b e = absurd (let f : false ≡ true = e in cc)
sends_none send a b e = refl
sends_none send_once a b e = refl

module _ (task p : ℕ) where
  either_none : (x : Token) → is_either task p x ≡ true → is_held task receive p x ≡ false → IsNoReceive x
  either_none x is none = sends_none x.kind (x.port == p) (is_in_task task x.place) (ap (λ (b : Bool). b || is_held task send p x) (sym none) ∙ is)

  -- where the task has no receive right, none is among what goes
  all_none : (xs : List Token) → All (λ x. is_either task p x ≡ true) xs → count (is_held task receive p) xs ≡ 0 → All IsNoReceive xs
  all_none [] passed none = All-nil IsNoReceive
  all_none (x ∷ xs) passed none = go (is_held task receive p x) refl (all_none xs (All-tail (λ (x : Token). is_either task p x ≡ true) x xs passed))
    where
      go : (b : Bool) → is_held task receive p x ≡ b → (count (is_held task receive p) xs ≡ 0 → All IsNoReceive xs) → All IsNoReceive (x ∷ xs)
      go true e rest = absurd (let n : ◌≡◌ {A = ℕ} (if is_held task receive p x then 1 else 0) 1 = rw e refl in omega (arith, n, none))
      go false e rest =
          let n : ◌≡◌ {A = ℕ} (if is_held task receive p x then 1 else 0) 0 = rw e refl in
          All-cons IsNoReceive x xs (either_none x (All-head (λ (x : Token). is_either task p x ≡ true) x xs passed) e) (rest (omega (arith, n, none)))

  pub all_keeps : (name : ℕ) (old mid : State) → LosesAll (is_either task p) old.ledger mid.ledger → mid ≡ record (without_name task name old) { ledger = mid.ledger } → held old task receive p ≡ 0 → Keeps old mid
  all_keeps name old mid l e none =
      let m = l.moves (λ x. if is_held task receive p x then 1 else 0) in
      kept_keeps false task name old mid e (moves_keep old.ledger mid.ledger l.gone [] l.moves (all_none l.gone l.passed (omega (arith, m, none))) (All-nil IsNoReceive))

with_keeps : (b : Bool) (task name n : ℕ) (old mid : State) → mid ≡ (if b then with_name task name (Target.dead n) old else without_name task name old) → Keeps old mid
with_keeps true task name n old mid e = keeps_by old mid _ e (λ p. refl) (λ p. refl) (λ p. refl) (λ p. refl) (λ p. refl) (λ set. refl) (λ test is. ap (λ (x : State). count test x.ledger) e)
with_keeps false task name n old mid e = keeps_by old mid _ e (λ p. refl) (λ p. refl) (λ p. refl) (λ p. refl) (λ p. refl) (λ set. refl) (λ test is. ap (λ (x : State). count test x.ledger) e)

sends_keep : (task name p n : ℕ) (old mid : State) → SetsSends task name p n old mid → Keeps old mid
sends_keep task name p n old mid s =
    let right : IsNoReceive (token send p (in_task task)) = refl in
    kept_keeps _ task name old mid s.rest
    (moves_keep old.ledger mid.ledger _ _ s.tokens (All-replicate IsNoReceive (held old task send p - n) (token send p (in_task task)) right) (All-replicate IsNoReceive (n - held old task send p) (token send p (in_task task)) right))

-- the number of send rights or of dead names
abbrev pub IsCounted : (right : ℕ) → Type 0
IsCounted right = (right ≡ 0) ⊎ (right ≡ 4)

other_right : (right n : ℕ) → IsCounted right → (n ≡ 1) ⊎ (n ≡ 2) ⊎ (n ≡ 3) → right ≡ n → ⊥
other_right right n (inl a) (inl b) e = omega (arith, a, b, e)
other_right right n (inl a) (inr (inl b)) e = omega (arith, a, b, e)
other_right right n (inl a) (inr (inr b)) e = omega (arith, a, b, e)
other_right right n (inr a) (inl b) e = omega (arith, a, b, e)
other_right right n (inr a) (inr (inl b)) e = omega (arith, a, b, e)
other_right right n (inr a) (inr (inr b)) e = omega (arith, a, b, e)

none_removed : (right task name : ℕ) (target : Target) (old mid : State) (owed : Owed) → IsCounted right → RemovesRight right task name target old mid owed → ⊥
none_removed right task name (Target.port p) old mid owed is r = other_right right 1 is (inl refl) r.0
none_removed right task name (Target.once p) old mid owed is r = other_right right 2 is (inr (inl refl)) r.0
none_removed right task name (Target.set set) old mid owed is r = other_right right 3 is (inr (inr refl)) r.0
none_removed right task name (Target.dead n) old mid owed is r = r

pub counts_keep : (task name right : ℕ) (delta : ℤ) (old mid : State) (owed : Owed) → IsCounted right → Modifies task name right delta old mid owed → Keeps old mid × (owed ≡ [])
counts_keep task name right delta old mid owed is (inl (p, n, zero, found, adds, sets, none)) = (sends_keep task name p n old mid sets, none)
counts_keep task name right delta old mid owed is (inr (inl (n, m, four, found, adds, e, none))) = (with_keeps (nat_lt 0 m) task name m old mid e, none)
counts_keep task name right delta old mid owed is (inr (inr (inl (counts, zero, same, none)))) = (keeps_same old mid same, none)
counts_keep task name right delta old mid owed is (inr (inr (inr (target, one, found, removes)))) = absurd (none_removed right task name target old mid owed is removes)

-- Of another right nothing changes, or it goes.
pub modifies_removes : (task name right : ℕ) (delta : ℤ) (old mid : State) (owed : Owed) → right ≢ 0 → right ≢ 4 → Modifies task name right delta old mid owed →
    ((mid ≡ old) × (owed ≡ [])) ⊎ ((target : Target) × (lookup old task name ≡ Some target) × RemovesRight right task name target old mid owed)
modifies_removes task name right delta old mid owed a b (inl m) = absurd (a m.2)
modifies_removes task name right delta old mid owed a b (inr (inl m)) = absurd (b m.2)
modifies_removes task name right delta old mid owed a b (inr (inr (inl (counts, zero, same, none)))) = inl (same, none)
modifies_removes task name right delta old mid owed a b (inr (inr (inr (target, one, found, removes)))) = inr (target, found, removes)

-- ---- a right goes to another task

named_keeps : (task name : ℕ) (target : Target) (old mid : State) → mid ≡ with_name task name target old → Keeps old mid
named_keeps task name target old mid e = keeps_by old mid _ e (λ p. refl) (λ p. refl) (λ p. refl) (λ p. refl) (λ p. refl) (λ set. refl) (λ test is. ap (λ (x : State). count test x.ledger) e)

-- what comes after the right was copied in, whatever right it is
pub insert_ends : (task name from poly number : ℕ) (old mid : State) → (i : Inserts task name from poly number old mid) → Keeps i.copied mid
insert_ends task name from poly number old mid i = elim i.named [
  | inl there ↦ keeps_same i.copied mid there.1
  | inr none ↦ named_keeps task name (target_for (kind_sent i.copy.given) i.p) i.copied mid none.1
]

pegged_none : (b : Bool) (task p : ℕ) → All IsNoReceive (if b then token send p (in_task task) ∷ [] else [])
pegged_none true task p = one_token send p (in_task task) refl
pegged_none false task p = All-nil IsNoReceive

pub extract_ends : (task name number to new_name kind : ℕ) (old mid : State) → (e : Extracts task name number to new_name kind old mid) → Keeps e.copied mid
extract_ends task name number to new_name kind old mid e =
    let k = for_keeps (kind_sent e.copy.given) to new_name e.p e.copied e.named_state e.named in
    keeps_by e.copied mid _ e.rest k.live k.log k.taken k.limit k.sets k.owner
    (moves_keep e.copied.ledger mid.ledger (pegged to e.p e.copied) [] e.tokens (pegged_none (nat_lt most_references (held e.copied to send e.p)) to e.p) (All-nil IsNoReceive))

pub inserts_keep : (task name from poly number : ℕ) (old mid : State) → number ≢ 16 → Inserts task name from poly number old mid → Keeps old mid
inserts_keep task name from poly number old mid not i =
    keeps_trans old i.copied mid (copy_keeps from (in_task task) number poly old (to_port i.p) i.copied not i.copy) (insert_ends task name from poly number old mid i)

pub extracts_keep : (task name number to new_name kind : ℕ) (old mid : State) → number ≢ 16 → Extracts task name number to new_name kind old mid → Keeps old mid
extracts_keep task name number to new_name kind old mid not e =
    keeps_trans old e.copied mid (copy_keeps task (in_task to) number name old (to_port e.p) e.copied not e.copy) (extract_ends task name number to new_name kind old mid e)
