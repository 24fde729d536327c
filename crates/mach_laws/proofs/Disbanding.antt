-- What changes for those that wait where a set is destroyed: the set, and which sets its members are in.
use Rattle.std.proofs.Common.{◌≡◌, ℕ, suc, zero, List, [], ◌∷◌, refl, sym, ap, subst, ◌∙◌, arith, inl, inr}
use Rattle.std.specs.Prelude.{◌≢◌, ◌==◌, ◌&&◌, not, filter, Contains, None}
use Rattle.std.proofs.lemmas.Bool.Decides.{eqb_tells}
use Rattle.mach_types.specs.declared.calls.Waited.TheVariants.{Port, Set}
use Rattle.mach_types.specs.declared.touched.Touched.{Touched}
use Rattle.mach_types.specs.Touching.{Covers}
use Rattle.mach_types.specs.Tokens.{receive, in_message, count, is_of, is_held}
use Rattle.mach_model.specs.State.{State, queue, without_name}
use Rattle.mach_model.specs.Death.{same_place}
use Rattle.mach_model.specs.References.{without_set}
use Rattle.mach_model.proofs.Memberships.{filtered}
use Rattle.mach_model.proofs.Names.{at_other}
use Rattle.mach_laws.specs.Touching.{TouchesOnly}
use Rattle.mach_laws.proofs.Touching.{Keeps, held_is, lying_is}

-- the sets of a port without this one
abbrev left_of : (set : ℕ) → List ℕ → List ℕ
left_of set xs = filter (λ t. not (t == set)) xs

-- those of a port that isn't in it stay
all_left : (set : ℕ) (xs : List ℕ) → (Contains xs set → ⊥) → left_of set xs ≡ xs
all_left set [] out = refl
all_left set (x ∷ xs) out = elim (eqb_tells x set) [
  | inl e ↦ absurd (out (0, omega arith, e.1))
  | inr e ↦
      let rest = all_left set xs (λ c. out (suc c.0, (let b = c.1 in omega (arith, b)), c.2)) in
      let f = e.0 in
      rw (f, rest) refl
]

-- and so does each other set of a port
others_left : (set other : ℕ) (xs : List ℕ) → other ≢ set → Contains xs other → Contains (left_of set xs) other
others_left set other [] not c = absurd (let b = c.1 in omega (arith, b))
others_left set other (x ∷ xs) not (zero, below, is) = elim (eqb_tells x set) [
  | inl e ↦ absurd (not (sym is ∙ e.1))
  | inr e ↦ (let f = e.0 in rw f (zero, omega arith, is))
]
others_left set other (x ∷ xs) not (suc k, below, is) = elim (eqb_tells x set) [
  | inl e ↦ (let f = e.0 in let c = others_left set other xs not (k, omega (arith, below), is) in rw f c)
  | inr e ↦ (let f = e.0 in let c = others_left set other xs not (k, omega (arith, below), is) in rw f (suc c.0, (let b = c.1 in omega (arith, b)), c.2))
]

module _ (task name set : ℕ) (s mid t : State) (e : mid ≡ without_set set (without_name task name s)) (k : Keeps mid t) where
  same_queue : (p : ℕ) → queue t p ≡ queue s p
  same_queue p =
      let a = k.log p ∙ ap (λ (x : State). x.log p) e in
      let b = k.taken p ∙ ap (λ (x : State). x.taken p) e in
      rw (a, b) refl

  left : (p : ℕ) → t.sets_of p ≡ left_of set (s.sets_of p)
  left p = k.sets p ∙ ap (λ (x : State). x.sets_of p) e

  -- What covers the set and its members covers all that changes.
  pub disbanding_touches : (touched : Touched) → Covers touched (Set set) → ((p : ℕ) → Contains (s.sets_of p) set → Covers touched (Port p)) → TouchesOnly s t touched
  disbanding_touches touched own members = record {
    ports = λ p out. record {
      live = k.live p ∙ ap (λ (x : State). x.live_port p) e;
      waiting = same_queue p;
      limit = k.limit p ∙ ap (λ (x : State). x.limit p) e;
      sets = left p ∙ all_left set (s.sets_of p) (λ in_it. out (members p in_it));
      with_task = λ u. k.receives (is_held u receive p) (held_is u p) ∙ ap (λ (x : State). count (is_held u receive p) x.ledger) e;
      in_queue = λ q j. k.receives (λ x. is_of receive p x && same_place (in_message q j) x.place) (lying_is p q j) ∙ ap (λ (y : State). count (λ x. is_of receive p x && same_place (in_message q j) x.place) y.ledger) e;
    };
    sets = λ other there out.
        let differs : other ≢ set = λ f. out (subst (λ (x : ℕ). Covers touched (Set x)) (sym f) own) in
        record {
          owner = k.owner other ∙ ap (λ (x : State). x.set_owner other) e ∙ at_other s.set_owner set None other differs;
          members = λ p. (
            (λ in_it. (filtered (λ t. not (t == set)) (s.sets_of p) other (subst (λ (xs : List ℕ). Contains xs other) (left p) in_it)).0),
            (λ in_it. subst (λ (xs : List ℕ). Contains xs other) (sym (left p)) (others_left set other (s.sets_of p) differs in_it)),
          );
          waiting = λ p in_it. same_queue p;
        };
  }
