-- What stays for those that wait where one port changes its sets, or its receive right another place.
use Rattle.std.proofs.Common.{◌≡◌, ℕ, List, [], ◌∷◌, Some, refl, sym, ap, subst, ◌∙◌, arith, true, false, Bool, inl, inr}
use Rattle.std.specs.Prelude.{◌≢◌, ◌==◌, ◌&&◌, if◌then◌else◌, Contains, nat_lt}
use Rattle.std.proofs.lemmas.Bool.{ne_eqb}
use Rattle.std.proofs.lemmas.Bool.Decides.{eqb_tells}
use Rattle.mach_types.specs.declared.calls.Waited.TheVariants.{Port, Set}
use Rattle.mach_types.specs.declared.rights.Disposition.{Disposition}
use Rattle.mach_types.specs.declared.rights.Disposition.TheVariants.{MoveReceive, MoveSend, MoveSendOnce, CopySend, MakeSend, MakeSendOnce}
use Rattle.mach_types.specs.declared.touched.Touched.{Touched}
use Rattle.mach_types.specs.Touching.{Covers}
use Rattle.mach_types.specs.Numbers.{disposition}
use Rattle.mach_types.specs.Tokens.{receive, send, in_task, in_message, Place, Token, token, Moves, count, is_of, is_held, is_in_task}
use Rattle.mach_types.specs.Messages.{Mark, to_port}
use Rattle.mach_model.specs.State.{State, Target, lookup, held, at, queue}
use Rattle.mach_model.specs.Death.{same_place}
use Rattle.mach_model.specs.CopyIn.{CopyRight, IsLegal, changed_by, name_kept, taken_by, put_by}
use Rattle.mach_model.specs.Names.{JoinsSet}
use Rattle.mach_model.specs.SentMeans.{target_mark}
use Rattle.mach_model.proofs.Names.{at_own, at_other}
use Rattle.mach_laws.specs.Touching.{TouchesOnly}
use Rattle.mach_laws.proofs.Touching.{Keeps, IsOfReceives, held_is, lying_is, none_and}

-- All is kept but of one port whether it lives, its sets, and where its receive right lies.
pub record KeepsOthers (p : ℕ) (s t : State) : Type 0 where
  pub live : (q : ℕ) → q ≢ p → t.live_port q ≡ s.live_port q
  pub log : (q : ℕ) → t.log q ≡ s.log q
  pub taken : (q : ℕ) → t.taken q ≡ s.taken q
  pub limit : (q : ℕ) → t.limit q ≡ s.limit q
  pub sets : (q : ℕ) → q ≢ p → t.sets_of q ≡ s.sets_of q
  pub owner : (set : ℕ) → t.set_owner set ≡ s.set_owner set
  pub receives : (test : Token → Bool) → IsOfReceives test → ((place : Place) → test (token receive p place) ≡ false) → count test t.ledger ≡ count test s.ledger

pub others_end : (p : ℕ) (s mid t : State) → KeepsOthers p s mid → Keeps mid t → KeepsOthers p s t
others_end p s mid t a k = record {
  live = λ q not. k.live q ∙ a.live q not;
  log = λ q. k.log q ∙ a.log q;
  taken = λ q. k.taken q ∙ a.taken q;
  limit = λ q. k.limit q ∙ a.limit q;
  sets = λ q not. k.sets q ∙ a.sets q not;
  owner = λ set. k.owner set ∙ a.owner set;
  receives = λ test is none. k.receives test is ∙ a.receives test is none;
}

pub others_trans : (p : ℕ) (s mid t : State) → KeepsOthers p s mid → KeepsOthers p mid t → KeepsOthers p s t
others_trans p s mid t a k = record {
  live = λ q not. k.live q not ∙ a.live q not;
  log = λ q. k.log q ∙ a.log q;
  taken = λ q. k.taken q ∙ a.taken q;
  limit = λ q. k.limit q ∙ a.limit q;
  sets = λ q not. k.sets q not ∙ a.sets q not;
  owner = λ set. k.owner set ∙ a.owner set;
  receives = λ test is none. k.receives test is none ∙ a.receives test is none;
}

-- ---- what is covered

module _ (p : ℕ) (s t : State) (k : KeepsOthers p s t) where
  other_queue : (q : ℕ) → queue t q ≡ queue s q
  other_queue q = let a = k.log q in let b = k.taken q in rw (a, b) refl

  -- What covers the port, the sets that it was in and those that it is in covers all that changes.
  pub moved_touches : (touched : Touched) → Covers touched (Port p) → ((set : ℕ) → Contains (s.sets_of p) set → Covers touched (Set set)) → ((set : ℕ) → Contains (t.sets_of p) set → Covers touched (Set set)) → TouchesOnly s t touched
  moved_touches touched port before after = record {
    ports = λ q not.
        let other : q ≢ p = λ e. not (subst (λ (x : ℕ). Covers touched (Port x)) (sym e) port) in
        let differs : (p == q) ≡ false = ne_eqb p q (λ e. other (sym e)) in
        record {
          live = k.live q other;
          waiting = other_queue q;
          limit = k.limit q;
          sets = k.sets q other;
          with_task = λ task. k.receives (is_held task receive q) (held_is task q) (λ place. none_and (p == q) (is_in_task task place) differs);
          in_queue = λ o j. k.receives (λ x. is_of receive q x && same_place (in_message o j) x.place) (lying_is q o j) (λ place. none_and (p == q) (same_place (in_message o j) place) differs);
        };
    sets = λ set there not. record {
      owner = k.owner set;
      members = λ q. elim (eqb_tells q p) [
        | inl e ↦ (
          (λ in_it. absurd (not (after set (subst (λ (x : ℕ). Contains (t.sets_of x) set) e.1 in_it)))),
          (λ in_it. absurd (not (before set (subst (λ (x : ℕ). Contains (s.sets_of x) set) e.1 in_it)))),
        )
        | inr e ↦ (subst (λ (xs : List ℕ). Contains xs set) (k.sets q e.1), subst (λ (xs : List ℕ). Contains xs set) (sym (k.sets q e.1)))
      ];
      waiting = λ q in_it. other_queue q;
    };
  }

-- ---- a port changes its sets

sets_change : (p : ℕ) (xs : List ℕ) (old mid : State) → mid ≡ record old { sets_of = at old.sets_of p xs } → KeepsOthers p old mid
sets_change p xs old mid e = record {
  live = λ q not. ap (λ (x : State). x.live_port q) e;
  log = λ q. ap (λ (x : State). x.log q) e;
  taken = λ q. ap (λ (x : State). x.taken q) e;
  limit = λ q. ap (λ (x : State). x.limit q) e;
  sets = λ q not. ap (λ (x : State). x.sets_of q) e ∙ at_other old.sets_of p xs q not;
  owner = λ set. ap (λ (x : State). x.set_owner set) e;
  receives = λ test is none. ap (λ (x : State). count test x.ledger) e;
}

pub joins_others : (task member after : ℕ) (old mid : State) → (j : JoinsSet task member after old mid) → KeepsOthers j.0 old mid
joins_others task member after old mid (p, found, inl (none, e)) = sets_change p [] old mid e
joins_others task member after old mid (p, found, inr (set, there, e)) = sets_change p (set ∷ []) old mid e

-- ---- a receive right goes to another place

one_moves : (p : ℕ) (task : ℕ) (place : Place) (old new : List Token) (test : Token → Bool) → Moves old new (token receive p (in_task task) ∷ []) (token receive p place ∷ []) → ((place : Place) → test (token receive p place) ≡ false) → count test new ≡ count test old
one_moves p task place old new test moves none =
    let m = moves (λ x. if test x then 1 else 0) in
    let a : ◌≡◌ {A = ℕ} (if test (token receive p (in_task task)) then 1 else 0) 0 = rw (none (in_task task)) refl in
    let b : ◌≡◌ {A = ℕ} (if test (token receive p place) then 1 else 0) 0 = rw (none place) refl in
    omega (arith, m, a, b)

right_moves : (b : Bool) (task name p : ℕ) (place : Place) (old new : State) →
    new ≡ record (name_kept b task name old) { sets_of = at old.sets_of p []; make_send = at old.make_send p 0; sequence = at old.sequence p 0; ledger = new.ledger } →
    Moves old.ledger new.ledger (token receive p (in_task task) ∷ []) (token receive p place ∷ []) → KeepsOthers p old new
right_moves true task name p place old new e m = record {
  live = λ q not. ap (λ (x : State). x.live_port q) e;
  log = λ q. ap (λ (x : State). x.log q) e;
  taken = λ q. ap (λ (x : State). x.taken q) e;
  limit = λ q. ap (λ (x : State). x.limit q) e;
  sets = λ q not. ap (λ (x : State). x.sets_of q) e ∙ at_other old.sets_of p [] q not;
  owner = λ set. ap (λ (x : State). x.set_owner set) e;
  receives = λ test is none. one_moves p task place old.ledger new.ledger test m none;
}
right_moves false task name p place old new e m = record {
  live = λ q not. ap (λ (x : State). x.live_port q) e;
  log = λ q. ap (λ (x : State). x.log q) e;
  taken = λ q. ap (λ (x : State). x.taken q) e;
  limit = λ q. ap (λ (x : State). x.limit q) e;
  sets = λ q not. ap (λ (x : State). x.sets_of q) e ∙ at_other old.sets_of p [] q not;
  owner = λ set. ap (λ (x : State). x.set_owner set) e;
  receives = λ test is none. one_moves p task place old.ledger new.ledger test m none;
}

-- A receive right is copied in: the port under its name alone changes.
pub record MovesReceive (task name : ℕ) (old : State) (mark : Mark) (new : State) : Type 0 where
  pub port : ℕ
  pub found : lookup old task name ≡ Some (Target.port port)
  pub mark_is : mark ≡ to_port port
  pub bare : new.sets_of port ≡ []
  pub others : KeepsOthers port old new

pub receive_moves : (task : ℕ) (place : Place) (name : ℕ) (old : State) (mark : Mark) (new : State) → CopyRight task place 16 name old mark new → MovesReceive task name old mark new
receive_moves task place name old mark new c = go c.given c.target c.is_given c.found c.legal c.mark_is c.rest c.tokens
  where
    same_mark : (a b : Mark) → Some a ≡ Some b → b ≡ a
    same_mark a b e = cc

    go : (d : Disposition) (target : Target) → disposition 16 ≡ Some d → lookup old task name ≡ Some target → IsLegal old task d target → target_mark d target ≡ Some mark → new ≡ record (changed_by d target task name old) { ledger = new.ledger } →
        Moves old.ledger new.ledger (taken_by d target task) (put_by d target place) → MovesReceive task name old mark new
    go MoveReceive (Target.port p) is found legal marked rest tokens = record { port = p; found = found; mark_is = same_mark (to_port p) mark marked; bare = ap (λ (x : State). x.sets_of p) rest ∙ at_own old.sets_of p []; others = right_moves (nat_lt 0 (held old task send p)) task name p place old new rest tokens }
    go MoveReceive (Target.once p) is found legal marked rest tokens = absurd legal
    go MoveReceive (Target.dead n) is found legal marked rest tokens = absurd legal
    go MoveReceive (Target.set set) is found legal marked rest tokens = absurd legal
    go MoveSend target is found legal marked rest tokens = absurd (let e : Some MoveReceive ≡ Some MoveSend = is in cc)
    go MoveSendOnce target is found legal marked rest tokens = absurd (let e : Some MoveReceive ≡ Some MoveSendOnce = is in cc)
    go CopySend target is found legal marked rest tokens = absurd (let e : Some MoveReceive ≡ Some CopySend = is in cc)
    go MakeSend target is found legal marked rest tokens = absurd (let e : Some MoveReceive ≡ Some MakeSend = is in cc)
    go MakeSendOnce target is found legal marked rest tokens = absurd (let e : Some MoveReceive ≡ Some MakeSendOnce = is in cc)
