-- What stays for those that wait where a task ends that has no sets, and of rights only send rights.
use Rattle.std.proofs.Common.{◌≡◌, ℕ, suc, zero, ◌<◌, List, [], ◌∷◌, Option, Some, None, refl, ap, ◌∙◌, arith, true, false, Bool, All}
use Rattle.std.specs.Prelude.{◌≢◌, ◌==◌, ◌&&◌, not, filter, if◌then◌else◌}
use Rattle.std.specs.Option.{option_map}
use Rattle.std.specs.FinMap as map
use Rattle.std.proofs.lemmas.Bool.{false_from_ne_true, ne_eqb}
use Rattle.std.proofs.lemmas.List.Elements.{All-head, All-tail, All-cons, All-nil}
use Rattle.mach_types.specs.Tokens.{Kind, receive, send_once, Token, count, same_kind, is_in_task, is_held}
use Rattle.mach_model.specs.State.{State, Target, Names, lookup, held}
use Rattle.mach_model.specs.Lawful.{IsLawful, is_once, tally}
use Rattle.mach_model.specs.Notices.{Owed}
use Rattle.mach_model.specs.References.{unused_among}
use Rattle.mach_model.specs.Tasks.{EndsTask, is_owner}
use Rattle.mach_model.proofs.SettledEnd.{IsMapped, mapped_tally}
use Rattle.mach_laws.proofs.Touching.{Keeps, moves_keep, IsNoReceive}

-- The task has no receive right, no send-once right and no set.
pub record HoldsSends (task : ℕ) (s : State) : Type 0 where
  pub no_receive : (p : ℕ) → held s task receive p ≡ 0
  pub no_once : (p : ℕ) → held s task send_once p ≡ 0
  pub no_set : (set : ℕ) → s.set_owner set ≢ Some task

abbrev pub IsOther : Kind → Token → Type 0
IsOther kind x = same_kind kind x.kind ≡ false

-- Among those that pass as at one place, none is of a kind that isn't counted there.
pub none_among : (kind : Kind) (is_there : Token → Bool) (test : ℕ → Token → Bool) → ((x : Token) → same_kind kind x.kind ≡ true → is_there x ≡ true → test x.port x ≡ true) →
    (xs : List Token) → All (λ x. is_there x ≡ true) xs → ((p : ℕ) → count (test p) xs ≡ 0) → All (IsOther kind) xs
none_among kind is_there test passes [] there none = All-nil (IsOther kind)
none_among kind is_there test passes (x ∷ xs) there none =
    All-cons (IsOther kind) x xs
    (false_from_ne_true (same_kind kind x.kind) (λ same.
    let e = passes x same (All-head (λ (y : Token). is_there y ≡ true) x xs there) in
    let one : ◌≡◌ {A = ℕ} (if test x.port x then 1 else 0) 1 = rw e refl in
    let n = none x.port in
    omega (arith, one, n)))
    (none_among kind is_there test passes xs (All-tail (λ (y : Token). is_there y ≡ true) x xs there) (λ p. let n = none p in omega (arith, n)))

pub none_unused : (xs : List Token) → All (IsOther send_once) xs → unused_among xs ≡ []
none_unused [] other = refl
none_unused (x ∷ xs) other =
    let e = All-head (IsOther send_once) x xs other in
    let rest = none_unused xs (All-tail (IsOther send_once) x xs other) in
    rw (e, rest) refl

pub own_passes : (a b : Bool) (q : ℕ) → a ≡ true → b ≡ true → ((a && q == q) && b) ≡ true
own_passes a b q e f = grind arith

module _ (task : ℕ) (old mid : State) (owed : Owed) (e : EndsTask task old mid owed) (few : HoldsSends task old) where
  none_gone : (kind : Kind) → ((p : ℕ) → held old task kind p ≡ 0) → All (IsOther kind) e.loses.gone
  none_gone kind none =
      none_among kind (λ x. is_in_task task x.place) (is_held task kind) (λ x same own. own_passes (same_kind kind x.kind) (is_in_task task x.place) x.port same own) e.loses.gone e.loses.passed
      (λ p.
      let m = e.loses.moves (λ x. if is_held task kind p x then 1 else 0) in
      let n = none p in
      omega (arith, m, n))

  not_owned : (set : ℕ) → is_owner task (old.set_owner set) ≡ false
  not_owned set = go (old.set_owner set) (few.no_set set)
    where
      go : (o : Option ℕ) → o ≢ Some task → is_owner task o ≡ false
      go None other = refl
      go (Some t) other = ne_eqb t task (λ f. other (ap Some f))

  none_left : (xs : List ℕ) → filter (λ set. not (is_owner task (old.set_owner set))) xs ≡ xs
  none_left [] = refl
  none_left (x ∷ xs) =
      let f = not_owned x in
      let rest = none_left xs in
      rw (f, rest) refl

  pub ends_keep : Keeps old mid
  ends_keep = record {
    live = λ p. ap (λ (x : State). x.live_port p) e.rest;
    log = λ p. ap (λ (x : State). x.log p) e.rest;
    taken = λ p. ap (λ (x : State). x.taken p) e.rest;
    limit = λ p. ap (λ (x : State). x.limit p) e.rest;
    sets = λ p. ap (λ (x : State). x.sets_of p) e.rest ∙ none_left (old.sets_of p);
    owner = λ set. ap (λ (x : State). x.set_owner set) e.rest ∙ (let f = not_owned set in rw f refl);
    receives = moves_keep old.ledger mid.ledger e.loses.gone [] e.loses.moves (none_gone receive few.no_receive) (All-nil IsNoReceive);
  }

  pub ends_owing_none : owed ≡ []
  ends_owing_none = e.owed_are ∙ none_unused e.loses.gone (none_gone send_once few.no_once)

-- what stands for a send-once right, as a dead name
abbrev unonce : ℕ → Target → Target
unonce name (Target.once p) = Target.dead 0
unonce name target = target

-- A task whose names stand for send rights and dead names alone has none of these.
pub sends_hold : (task : ℕ) (s : State) → IsLawful s → ((name p : ℕ) → lookup s task name ≡ Some (Target.port p) → held s task receive p ≡ 0) →
    ((name p : ℕ) → lookup s task name ≢ Some (Target.once p)) → ((name set : ℕ) → lookup s task name ≢ Some (Target.set set)) → HoldsSends task s
sends_hold task s l unheld no_once no_set = record {
  no_receive = λ p. zero_of (held s task receive p) (λ some.
      let h = some in
      let named = (l.naming task).is_named p (omega (arith, h)) in
      let none = unheld named.0 p named.1 in
      omega (arith, h, none));
  no_once = λ p. (l.naming task).once_names p ∙ mapped_tally (map.len names) unonce (λ t. false) (is_once p) names names refl alike (λ n v. no_longer p n v) ∙ none_pass (map.values names);
  no_set = λ set owned. (let named = l.set_named set task owned in no_set named.0 set named.1);
}
  where
    names : Names
    names = s.naming task

    zero_of : (n : ℕ) → (0 < n → ⊥) → n ≡ 0
    zero_of zero none = refl
    zero_of (suc n) none = absurd (none (omega arith))

    no_longer : (p n : ℕ) (v : Target) → is_once p (unonce n v) ≡ false
    no_longer p n (Target.port q) = refl
    no_longer p n (Target.once q) = refl
    no_longer p n (Target.dead k) = refl
    no_longer p n (Target.set set) = refl

    none_pass : (xs : List Target) → tally (λ (t : Target). false) xs ≡ 0
    none_pass [] = refl
    none_pass (x ∷ xs) = omega (arith, none_pass xs)

    same_target : (name : ℕ) (o : Option Target) → map.get names name ≡ o → o ≡ option_map (unonce name) o
    same_target name None is = refl
    same_target name (Some (Target.port q)) is = refl
    same_target name (Some (Target.once q)) is = absurd (no_once name q is)
    same_target name (Some (Target.dead k)) is = refl
    same_target name (Some (Target.set set)) is = refl

    alike : IsMapped unonce names names
    alike = record { get = λ name. same_target name (map.get names name) refl }
