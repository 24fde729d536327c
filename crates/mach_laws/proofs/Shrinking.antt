-- A step's own part either only takes rights and names away, or leaves each live port its receive right, so that none dies.
use Rattle.std.proofs.Common.{◌≡◌, ℕ, ℤ, zero, suc, ◌-◌, ◌≤◌, List, [], ◌∷◌, refl, sym, ap, subst, ◌∙◌, arith, true, false, Bool, inl, inr}
use Rattle.std.specs.Prelude.{◌≢◌, ◌⊎◌, Some, None, if◌then◌else◌, nat_lt, MatchBool}
use Rattle.std.specs.FinMap as map
use Rattle.std.specs.FinMap.{get-empty}
use Rattle.std.specs.Ordering.{nat_cmp}
use Rattle.std.proofs.lemmas.Bool.Decides.{eqb_tells}
use Rattle.mach_types.specs.declared.calls.Event.{Event}
use Rattle.mach_types.specs.declared.calls.Reply.{Reply}
use Rattle.mach_types.specs.declared.calls.Waited.{Waited}
use Rattle.mach_types.specs.declared.rights.Disposition.{Disposition}
use Rattle.mach_types.specs.declared.rights.Disposition.TheVariants.{MoveSend, MoveSendOnce, MakeSendOnce}
use Rattle.mach_types.specs.Numbers.{null_word, disposition}
use Rattle.mach_types.specs.Tokens.{receive, send, send_once, Request, Place, in_task, in_request, Token, token, count, is_of, Moves}
use Rattle.mach_types.specs.Messages.{Mark, to_port, Entry}
use Rattle.mach_types.specs.Guards.{NoneHolds}
use Rattle.mach_model.specs.State.{State, Target, Names, lookup, held, at, without_name, with_name}
use Rattle.mach_model.specs.Tasks.{EndsTask}
use Rattle.mach_model.specs.CopyIn.{taken_by, put_by, name_kept, changed_by, CopyRight}
use Rattle.mach_model.specs.Death.{IsOrphan}
use Rattle.mach_model.specs.Notices.{Owed}
use Rattle.mach_model.specs.References.{Deallocates, DestroysTarget, RemovesRight, Modifies}
use Rattle.mach_model.specs.Requests.{GivesBack, Keeps, Requests}
use Rattle.mach_model.specs.Receive.{DestroysFront, Receipt}
use Rattle.mach_model.specs.Refusals.{guards}
use Rattle.mach_model.specs.Acts.{Does}
use Rattle.mach_model.specs.Lawful.{IsLawful, IsRight}
use Rattle.mach_model.proofs.Names.{at_same, at_other, left, inserted}
use Rattle.mach_model.proofs.StepReceives.{Does-receives}

-- ---- names

-- What a right's name stands for in the later state it stood for in the earlier.
abbrev pub SameRightsNamed : State → State → Type 0
SameRightsNamed old new = (task name : ℕ) (x : Target) → IsRight (Some x) → lookup new task name ≡ Some x → lookup old task name ≡ Some x

named_at : (t : ℕ) (names : Names) (old : State) → ((n : ℕ) (x : Target) → IsRight (Some x) → map.get names n ≡ Some x → lookup old t n ≡ Some x) →
    (task name : ℕ) (x : Target) → IsRight (Some x) → map.get (at old.naming t names task) name ≡ Some x → lookup old task name ≡ Some x
named_at t names old kept task name x right is = elim (eqb_tells task t) [
  | inl h ↦ subst (λ (u : ℕ). lookup old u name ≡ Some x) (sym h.1) (kept name x right (ap (λ (m : Names). map.get m name) (sym (at_same old.naming t names task h.1)) ∙ is))
  | inr h ↦ ap (λ (m : Names). map.get m name) (sym (at_other old.naming t names task h.1)) ∙ is
]

pub without_named : (t n : ℕ) (old : State) → SameRightsNamed old (without_name t n old)
without_named t n old = named_at t (map.remove (old.naming t) n) old (λ m x right is. (left (old.naming t) n m x is).1)

no_dead_right : (x : Target) (n : ℕ) → Target.dead n ≡ x → ¬ (IsRight (Some x))
no_dead_right x n e right = subst (λ (y : Target). IsRight (Some y)) (sym e) right

pub dead_named : (t n k : ℕ) (old : State) → SameRightsNamed old (with_name t n (Target.dead k) old)
dead_named t n k old = named_at t (map.insert (old.naming t) n (Target.dead k)) old (λ m x right is. by m x right (inserted (old.naming t) n (Target.dead k) m x is))
  where
    by : (m : ℕ) (x : Target) → IsRight (Some x) → (m ≡ n) × (Target.dead k ≡ x) ⊎ (map.get (old.naming t) m ≡ Some x) → lookup old t m ≡ Some x
    by m x right (inl h) = absurd (no_dead_right x k h.1 right)
    by m x right (inr h) = h

pub kept_named : (b : Bool) (t n : ℕ) (old : State) → SameRightsNamed old (name_kept b t n old)
kept_named true t n old = λ task name x right is. is
kept_named false t n old = without_named t n old

kept_live : (b : Bool) (t n : ℕ) (old : State) → (name_kept b t n old).live_port ≡ old.live_port
kept_live true t n old = refl
kept_live false t n old = refl

pub fewer_named : (b : Bool) (t n k : ℕ) (old : State) → SameRightsNamed old (if b then with_name t n (Target.dead k) old else without_name t n old)
fewer_named true t n k old = dead_named t n k old
fewer_named false t n k old = without_named t n old

fewer_live : (b : Bool) (t n k : ℕ) (old : State) → (if b then with_name t n (Target.dead k) old else without_name t n old).live_port ≡ old.live_port
fewer_live true t n k old = refl
fewer_live false t n k old = refl

-- ---- what only takes away

-- Rights and names are taken away, and nothing is made.
pub record Shrinks (old mid : State) : Type 0 where
  pub live : mid.live_port ≡ old.live_port
  pub fewer : (test : Token → Bool) → count test mid.ledger ≤ count test old.ledger
  pub named : SameRightsNamed old mid

by_moves : (old mid changed : State) (gone : List Token) → mid ≡ record changed { ledger = mid.ledger } → changed.live_port ≡ old.live_port → Moves old.ledger mid.ledger gone [] →
    SameRightsNamed old changed → Shrinks old mid
by_moves old mid changed gone rest live moves named = record {
  live = ap (λ (s : State). s.live_port) rest ∙ live;
  fewer = λ test. let m = moves (λ x. if test x then 1 else 0) in omega (arith, m);
  named = λ task name x right is. named task name x right (ap (λ (s : State). lookup s task name) (sym rest) ∙ is);
}

by_names : (old mid changed : State) → mid ≡ changed → changed.ledger ≡ old.ledger → changed.live_port ≡ old.live_port → SameRightsNamed old changed → Shrinks old mid
by_names old mid changed rest ledger live named = record {
  live = ap (λ (s : State). s.live_port) rest ∙ live;
  fewer = λ test. let e = ap (λ (s : State). count test s.ledger) rest ∙ ap (count test) ledger in omega (arith, e);
  named = λ task name x right is. named task name x right (ap (λ (s : State). lookup s task name) (sym rest) ∙ is);
}

pub deallocates : (task name : ℕ) (old mid : State) (owed : Owed) → Deallocates task name old mid owed → Shrinks old mid
deallocates task name old mid owed (inl (p, d, none)) =
    by_moves old mid (changed_by MoveSend (Target.port p) task name old) (taken_by MoveSend (Target.port p) task) d.rest (kept_live _ task name old) d.tokens (kept_named _ task name old)
deallocates task name old mid owed (inr (inl (p, d, owes))) =
    by_moves old mid (without_name task name old) (taken_by MoveSendOnce (Target.once p) task) d.rest refl d.tokens (without_named task name old)
deallocates task name old mid owed (inr (inr (n, d, none))) =
    by_moves old mid (changed_by MoveSend (Target.dead n) task name old) [] d.rest (fewer_live (nat_lt 1 n) task name (n - 1) old) d.tokens (fewer_named (nat_lt 1 n) task name (n - 1) old)

pub destroys : (task name : ℕ) (target : Target) (old mid : State) (owed : Owed) → DestroysTarget task name target old mid owed → Shrinks old mid
destroys task name (Target.port p) old mid owed d = by_moves old mid (without_name task name old) d.0.gone d.1 refl d.0.moves (without_named task name old)
destroys task name (Target.once p) old mid owed d =
    by_moves old mid (without_name task name old) (taken_by MoveSendOnce (Target.once p) task) d.0.rest refl d.0.tokens (without_named task name old)
destroys task name (Target.dead n) old mid owed d = by_names old mid (without_name task name old) d.0 refl refl (without_named task name old)
destroys task name (Target.set s) old mid owed d = by_names old mid _ d.0 refl refl (without_named task name old)

pub removes : (right task name : ℕ) (target : Target) (old mid : State) (owed : Owed) → RemovesRight right task name target old mid owed → Shrinks old mid
removes right task name (Target.port p) old mid owed d =
    by_moves old mid (name_kept (nat_lt 0 (held old task send p)) task name old) (token receive p (in_task task) ∷ []) d.1.1 (kept_live _ task name old) d.1.0 (kept_named _ task name old)
removes right task name (Target.once p) old mid owed d = destroys task name (Target.once p) old mid owed d.1
removes right task name (Target.set s) old mid owed d = destroys task name (Target.set s) old mid owed d.1
removes right task name (Target.dead n) old mid owed d = absurd d

no_name : (n : ℕ) (x : Target) → map.get (map.empty {X = Target} {R = nat_cmp}) n ≡ Some x → ⊥
no_name n x is = let e : map.get (map.empty {X = Target} {R = nat_cmp}) n ≡ None = get-empty nat_cmp n in cc

pub ends : (task : ℕ) (old mid : State) (owed : Owed) → EndsTask task old mid owed → Shrinks old mid
ends task old mid owed d = record {
  live = ap (λ (s : State). s.live_port) d.rest;
  fewer = λ test. let m = d.loses.moves (λ x. if test x then 1 else 0) in omega (arith, m);
  named = λ t name x right is. named_at task map.empty old (λ m y r e. absurd (no_name m y e)) t name x right (ap (λ (s : State). lookup s t name) (sym d.rest) ∙ is);
}

pub front : (port : ℕ) (e : Entry) (old mid : State) (owed : Owed) → DestroysFront port e old mid owed → Shrinks old mid
front port e old mid owed d = record {
  live = ap (λ (s : State). s.live_port) d.rest ∙ ap (λ (s : State). s.live_port) d.takes.rest;
  fewer = λ test. let a = d.takes.tokens (λ x. if test x then 1 else 0) in let b = d.loses.moves (λ x. if test x then 1 else 0) in omega (arith, a, b);
  named = λ task name x right is. ap (λ (s : State). lookup s task name) (sym d.takes.rest) ∙ ap (λ (s : State). lookup s task name) (sym d.rest) ∙ is;
}

-- ---- a request for a notice

-- a test of tokens that no send-once right passes
abbrev pub NoOnce : (Token → Bool) → Type 0
NoOnce test = (p : ℕ) (place : Place) → test (token send_once p place) ≡ false

abbrev pub IsNotify : (number : ℕ) → Type 0
IsNotify number = (number ≡ 18) ⊎ (number ≡ 21)

-- As many rights pass, and ports live and were made send rights as before.
pub record SameRights (test : Token → Bool) (old mid : State) : Type 0 where
  pub same : count test mid.ledger ≡ count test old.ledger
  pub live : mid.live_port ≡ old.live_port
  pub make_send : mid.make_send ≡ old.make_send

pub not_moved : (number : ℕ) (d : Disposition) → IsNotify number → disposition number ≡ Some d → (d ≡ MoveSendOnce) ⊎ (d ≡ MakeSendOnce)
not_moved number d (inl is) e = inl (let f : Some MoveSendOnce ≡ Some d = ap disposition (sym is) ∙ e in cc)
not_moved number d (inr is) e = inr (let f : Some MakeSendOnce ≡ Some d = ap disposition (sym is) ∙ e in cc)

module _ (test : Token → Bool) (none : NoOnce test) where
  pub then_same : (a b c : State) → SameRights test a b → SameRights test b c → SameRights test a c
  then_same a b c x y = record { same = y.same ∙ x.same; live = y.live ∙ x.live; make_send = y.make_send ∙ x.make_send }

  as_it_is : (a b : State) → b ≡ a → SameRights test a b
  as_it_is a b e = record { same = ap (λ (s : State). count test s.ledger) e; live = ap (λ (s : State). s.live_port) e; make_send = ap (λ (s : State). s.make_send) e }

  once_one : (p : ℕ) (place : Place) → (if test (token send_once p place) then suc zero else zero) ≡ zero
  once_one p place = rw (none p place) refl

  by_moved : (old new : State) (gone come : List Token) → new.live_port ≡ old.live_port → new.make_send ≡ old.make_send → Moves old.ledger new.ledger gone come →
      count test gone ≡ 0 → count test come ≡ 0 → SameRights test old new
  by_moved old new gone come live make_send m none_gone none_come = record {
    same = let a = m (λ x. if test x then 1 else 0) in omega (arith, a, none_gone, none_come);
    live = live;
    make_send = make_send;
  }

  -- no other field changes
  by_same : (old new : State) → new.ledger ≡ old.ledger → new.live_port ≡ old.live_port → new.make_send ≡ old.make_send → SameRights test old new
  by_same old new ledger live make_send = record { same = ap (count test) ledger; live = live; make_send = make_send }

  one_none : (p : ℕ) (place : Place) → count test (token send_once p place ∷ []) ≡ 0
  one_none p place = let a = once_one p place in omega (arith, a)

  less_make_send : (b : Bool) (t n k : ℕ) (old : State) → (if b then with_name t n (Target.dead k) old else without_name t n old).make_send ≡ old.make_send
  less_make_send true t n k old = refl
  less_make_send false t n k old = refl

  moved_once : (target : Target) (task name : ℕ) (place : Place) (old new : State) → new ≡ record (changed_by MoveSendOnce target task name old) { ledger = new.ledger } →
      Moves old.ledger new.ledger (taken_by MoveSendOnce target task) (put_by MoveSendOnce target place) → SameRights test old new
  moved_once (Target.port p) task name place old new rest m = by_moved old new [] (put_by MoveSendOnce (Target.port p) place) (ap (λ (s : State). s.live_port) rest) (ap (λ (s : State). s.make_send) rest) m refl (one_none p place)
  moved_once (Target.once p) task name place old new rest m =
      by_moved old new (taken_by MoveSendOnce (Target.once p) task) (put_by MoveSendOnce (Target.once p) place) (ap (λ (s : State). s.live_port) rest) (ap (λ (s : State). s.make_send) rest) m (one_none p (in_task task)) (one_none p place)
  moved_once (Target.dead n) task name place old new rest m =
      by_moved old new [] [] (ap (λ (s : State). s.live_port) rest ∙ fewer_live (nat_lt 1 n) task name (n - 1) old) (ap (λ (s : State). s.make_send) rest ∙ less_make_send (nat_lt 1 n) task name (n - 1) old) m refl refl
  moved_once (Target.set p) task name place old new rest m = by_moved old new [] [] (ap (λ (s : State). s.live_port) rest) (ap (λ (s : State). s.make_send) rest) m refl refl

  made_once : (target : Target) (task name : ℕ) (place : Place) (old new : State) → new ≡ record (changed_by MakeSendOnce target task name old) { ledger = new.ledger } →
      Moves old.ledger new.ledger (taken_by MakeSendOnce target task) (put_by MakeSendOnce target place) → SameRights test old new
  made_once (Target.port p) task name place old new rest m = by_moved old new [] (put_by MakeSendOnce (Target.port p) place) (ap (λ (s : State). s.live_port) rest) (ap (λ (s : State). s.make_send) rest) m refl (one_none p place)
  made_once (Target.once p) task name place old new rest m = by_moved old new [] (put_by MakeSendOnce (Target.once p) place) (ap (λ (s : State). s.live_port) rest) (ap (λ (s : State). s.make_send) rest) m refl (one_none p place)
  made_once (Target.dead n) task name place old new rest m = by_moved old new [] [] (ap (λ (s : State). s.live_port) rest) (ap (λ (s : State). s.make_send) rest) m refl refl
  made_once (Target.set p) task name place old new rest m = by_moved old new [] [] (ap (λ (s : State). s.live_port) rest) (ap (λ (s : State). s.make_send) rest) m refl refl

  pub copied : (task number name : ℕ) (place : Place) (mark : Mark) (old new : State) → IsNotify number → CopyRight task place number name old mark new → SameRights test old new
  copied task number name place mark old new is c = by (not_moved number c.given is c.is_given)
    where
      Rest : Disposition → Type 0
      Rest d = new ≡ record (changed_by d c.target task name old) { ledger = new.ledger }

      Goes : Disposition → Type 0
      Goes d = Moves old.ledger new.ledger (taken_by d c.target task) (put_by d c.target place)

      by : (c.given ≡ MoveSendOnce) ⊎ (c.given ≡ MakeSendOnce) → SameRights test old new
      by (inl h) = moved_once c.target task name place old new (subst Rest h c.rest) (subst Goes h c.tokens)
      by (inr h) = made_once c.target task name place old new (subst Rest h c.rest) (subst Goes h c.tokens)

  pub back_given : (task : ℕ) (request : Request) (before old : State) (name : ℕ) (new : State) → GivesBack task request before old name new → SameRights test old new
  back_given task request before old name new (inl h) = as_it_is old new h.2
  back_given task request before old name new (inr (inl h)) = by_same old new (ap (λ (s : State). s.ledger) h.3) (ap (λ (s : State). s.live_port) h.3) (ap (λ (s : State). s.make_send) h.3)
  back_given task request before old name new (inr (inr (q, named, stood, lies, n, m, rest))) =
      by_moved old new (token send_once q (in_request request) ∷ []) (token send_once q (in_task task) ∷ []) (ap (λ (s : State). s.live_port) rest ∙ ap (λ (s : State). s.live_port) n.rest)
      (ap (λ (s : State). s.make_send) rest ∙ ap (λ (s : State). s.make_send) n.rest) m (one_none q (in_request request)) (one_none q (in_task task))

  kept_or_told : (task name sync : ℕ) (request : Request) (q : ℕ) (old mid : State) (owed : Owed) → Keeps task name sync request q old mid owed → SameRights test old mid
  kept_or_told task name sync request q old mid owed (inl (p, e, none_left, m, rest, owes)) =
      by_moved old mid (token send_once q (in_request request) ∷ []) [] (ap (λ (s : State). s.live_port) rest) (ap (λ (s : State). s.make_send) rest) m (one_none q (in_request request)) refl
  kept_or_told task name sync request q old mid owed (inr (inl (n, e, is, m, rest, owes))) =
      by_moved old mid (token send_once q (in_request request) ∷ []) [] (ap (λ (s : State). s.live_port) rest) (ap (λ (s : State). s.make_send) rest) m (one_none q (in_request request)) refl
  kept_or_told task name sync request q old mid owed (inr (inr (not, other, rest, none_owed))) = by_same old mid (ap (λ (s : State). s.ledger) rest) (ap (λ (s : State). s.live_port) rest) (ap (λ (s : State). s.make_send) rest)

  -- the right of a request that is made, and the one that it kept before, are send-once rights: no other comes or goes
  pub requests_same : (task name variant sync notify number previous : ℕ) (old mid : State) (owed : Owed) → ((notify ≢ null_word) → IsNotify number) →
      Requests task name variant sync notify number previous old mid owed → SameRights test old mid
  requests_same task name variant sync notify number previous old mid owed is r = by r.copy
    where
      given : SameRights test r.copied r.back
      given = back_given task r.request old r.copied previous r.back r.given_back

      by : (notify ≡ null_word) × (r.copied ≡ old) × (mid ≡ r.back) × (owed ≡ [])
          ⊎ (notify ≢ null_word) × ((q : ℕ) × CopyRight task (in_request r.request) number notify old (to_port q) r.copied × Keeps task name sync r.request q r.back mid owed) → SameRights test old mid
      by (inl (none, e, f, owes)) = then_same old r.copied mid (as_it_is old r.copied e) (then_same r.copied r.back mid given (as_it_is r.back mid f))
      by (inr (some, (q, c, k))) = then_same old r.copied mid (copied task number notify (in_request r.request) (to_port q) old r.copied (is some) c)
          (then_same r.copied r.back mid given (kept_or_told task name sync r.request q r.back mid owed k))

-- ---- each event

pub no_receive_once : (p : ℕ) → NoOnce (is_of receive p)
no_receive_once p q place = refl

pub one_of : (number : ℕ) → ¬ (¬ (number ≡ 18) × ¬ (number ≡ 21)) → IsNotify number
one_of number not = elim (eqb_tells number 18) [
  | inl h ↦ inl h.1
  | inr h ↦ elim (eqb_tells number 21) [
    | inl g ↦ inr g.1
    | inr g ↦ absurd (not (h.1, g.1))
  ]
]

large_cases : (large : Bool) (P Q : Type 0) → MatchBool large P Q → P ⊎ Q
large_cases true P Q h = inl h
large_cases false P Q h = inr h

module _ (now : ℕ) (old : State) (mid : State) (owed : Owed) (l : IsLawful old) where
  abbrev pub NoOrphan : Type 0
  NoOrphan = (p : ℕ) → ¬ (IsOrphan mid p)

  unlost : mid ≡ old → NoOrphan
  unlost e p orphan = let one = l.one_receive p (ap (λ (s : State). s.live_port p) (sym e) ∙ orphan.0) in let same = ap (λ (s : State). count (is_of receive p) s.ledger) e in let zero = orphan.1 in omega (arith, one, same, zero)

  pub unasked : (task name variant sync notify number previous : ℕ) → NoneHolds (guards old (Event.RequestNotification task name variant sync notify number)) →
      Requests task name variant sync notify number previous old mid owed → NoOrphan
  unasked task name variant sync notify number previous good r p orphan =
      let same = requests_same (is_of receive p) (no_receive_once p) task name variant sync notify number previous old mid owed (λ some. one_of number (λ h. good.1.0 (inr (inl (some, h.0, h.1))))) r in
      let one = l.one_receive p (ap (λ (f : ℕ → Bool). f p) (sym same.live) ∙ orphan.0) in
      let e = same.same in
      let zero = orphan.1 in
      omega (arith, one, e, zero)

  too_large : (task room n : ℕ) (waited : Waited) (large : Bool) → Receipt old task waited room large (Reply.TooLarge n) mid owed → Shrinks old mid ⊎ NoOrphan
  too_large task room n waited large (p, e, from, is_front, is, over, what) = by (large_cases large _ _ what)
    where
      by : (mid ≡ old) × (owed ≡ []) ⊎ DestroysFront p e old mid owed → Shrinks old mid ⊎ NoOrphan
      by (inl h) = inr (unlost h.0)
      by (inr h) = inl (front p e old mid owed h)

  modifies : (task name right : ℕ) (delta : ℤ) → NoneHolds (guards old (Event.ModRefs task name right delta)) → Does now old (Event.ModRefs task name right delta) (Reply.Code 0) mid owed →
      Modifies task name right delta old mid owed → Shrinks old mid ⊎ NoOrphan
  modifies task name right delta good d (inl x) = inr (Does-receives now old (Event.ModRefs task name right delta) (Reply.Code 0) mid owed (λ h. (let e = x.2 in let f = h.0 in omega (arith, e, f))) good d l)
  modifies task name right delta good d (inr (inl x)) = inr (Does-receives now old (Event.ModRefs task name right delta) (Reply.Code 0) mid owed (λ h. (let e = x.2 in let f = h.0 in omega (arith, e, f))) good d l)
  modifies task name right delta good d (inr (inr (inl x))) = inr (unlost x.2)
  modifies task name right delta good d (inr (inr (inr x))) = inl (removes right task name x.0 old mid owed x.3)

  -- A step's own part that leaves an orphan only takes away.
  pub shrinks_or_none : (event : Event) (reply : Reply) → NoneHolds (guards old event) → Does now old event reply mid owed → Shrinks old mid ⊎ NoOrphan
  shrinks_or_none (Event.TaskTerminate task) (Reply.Code code) g d = inl (ends task old mid owed d.1)
  shrinks_or_none (Event.Deallocate task name) (Reply.Code code) g d = inl (deallocates task name old mid owed d.1)
  shrinks_or_none (Event.Destroy task name) (Reply.Code code) g d = inl (destroys task name d.1.0 old mid owed d.1.2)
  shrinks_or_none (Event.ModRefs task name right delta) (Reply.Code code) g d = modifies task name right delta g (refl, d.1) d.1
  shrinks_or_none (Event.RequestNotification task name variant sync notify number) (Reply.Previous previous) g d = inr (unasked task name variant sync notify number previous g d)
  shrinks_or_none (Event.Receive task name room large) (Reply.TooLarge n) g d = too_large task room n d.0 large d.2
  shrinks_or_none (Event.ReceiveAgain task waited room large) (Reply.TooLarge n) g d = too_large task room n waited large d
  shrinks_or_none (Event.Receive task name room large) (Reply.Message bytes) g d = inr (Does-receives now old (Event.Receive task name room large) (Reply.Message bytes) mid owed tt g d l)
  shrinks_or_none (Event.Receive task name room large) (Reply.Empty told) g d = inr (unlost d.2.2)
  shrinks_or_none (Event.Receive task name room large) reply g d = absurd d.2
  shrinks_or_none (Event.ReceiveAgain task waited room large) (Reply.Message bytes) g d = inr (Does-receives now old (Event.ReceiveAgain task waited room large) (Reply.Message bytes) mid owed tt g d l)
  shrinks_or_none (Event.ReceiveAgain task waited room large) (Reply.Empty told) g d = inr (unlost d.2)
  shrinks_or_none (Event.ReceiveAgain task waited room large) reply g d = absurd d
  shrinks_or_none (Event.TaskTerminate task) reply g d = absurd d
  shrinks_or_none (Event.Deallocate task name) reply g d = absurd d
  shrinks_or_none (Event.Destroy task name) reply g d = absurd d
  shrinks_or_none (Event.ModRefs task name right delta) reply g d = absurd d
  shrinks_or_none (Event.RequestNotification task name variant sync notify number) reply g d = absurd d
  shrinks_or_none event reply g d = inr (Does-receives now old event reply mid owed tt g d l)
