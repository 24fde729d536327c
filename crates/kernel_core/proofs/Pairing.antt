-- What changes for those that wait where a port enters a set beside others, or leaves one of several: the port, and that set.
use Rattle.std.proofs.Common.{◌≡◌, ℕ, suc, zero, List, [], ◌∷◌, ◌++◌, Option, Some, refl, sym, ap, subst, ◌∙◌, arith, inl, inr}
use Rattle.std.specs.Prelude.{◌≢◌, ◌↔◌, ◌==◌, ◌&&◌, not, filter, Contains}
use Rattle.std.proofs.lemmas.Bool.Decides.{eqb_tells}
use Rattle.std.specs.Option.{option_and_then}
use Rattle.mach_types.specs.declared.calls.Waited.TheVariants.{Port, Set}
use Rattle.mach_types.specs.declared.touched.Touched.{Touched}
use Rattle.mach_types.specs.Touching.{Covers}
use Rattle.mach_types.specs.Tokens.{receive, in_message, count, is_of, is_held}
use Rattle.mach_model.specs.State.{State, at, queue}
use Rattle.mach_model.specs.Death.{same_place}
use Rattle.mach_model.specs.Names.{EntersSet, LeavesSet}
use Rattle.mach_model.proofs.Memberships.{filtered}
use Rattle.mach_model.proofs.Names.{at_own, at_other}
use Rattle.mach_laws.specs.Touching.{TouchesOnly}
use Rattle.name_space.specs.declared.Entry.{Entry}
use Rattle.name_space.specs.Entry.{port_named, set_named}
use Rattle.copyin_base.specs.Worlds.{WorldView, entry_at}
use Rattle.copyin_base.proofs.Told.{receive_has}
use Rattle.kernel_change.specs.declared.change.Change.TheVariants as change
use Rattle.kernel_change.specs.Changing.{by_pairing, paired, port_under}
use Rattle.kernel_core_base.specs.declared.sets.Member.{Member}
use Rattle.kernel_core_base.specs.Sets.{TellsPair}
use Rattle.mach_laws.proofs.Touching.{Keeps, held_is, lying_is}

module _ (p set : ℕ) (xs : List ℕ) (s mid t : State) (e : mid ≡ record s { sets_of = at s.sets_of p xs }) (k : Keeps mid t) (others : (other : ℕ) → other ≢ set → Contains xs other ↔ Contains (s.sets_of p) other) where
  same_queue : (q : ℕ) → queue t q ≡ queue s q
  same_queue q =
      let a = k.log q ∙ ap (λ (x : State). x.log q) e in
      let b = k.taken q ∙ ap (λ (x : State). x.taken q) e in
      rw (a, b) refl

  its_own : t.sets_of p ≡ xs
  its_own = k.sets p ∙ ap (λ (x : State). x.sets_of p) e ∙ at_own s.sets_of p xs

  other_sets : (q : ℕ) → q ≢ p → t.sets_of q ≡ s.sets_of q
  other_sets q not = k.sets q ∙ ap (λ (x : State). x.sets_of q) e ∙ at_other s.sets_of p xs q not

  -- What covers the port and this set covers all that changes.
  pub pair_touches : (touched : Touched) → Covers touched (Port p) → Covers touched (Set set) → TouchesOnly s t touched
  pair_touches touched port own = record {
    ports = λ q out. record {
      live = k.live q ∙ ap (λ (x : State). x.live_port q) e;
      waiting = same_queue q;
      limit = k.limit q ∙ ap (λ (x : State). x.limit q) e;
      sets = other_sets q (λ f. out (subst (λ (x : ℕ). Covers touched (Port x)) (sym f) port));
      with_task = λ u. k.receives (is_held u receive q) (held_is u q) ∙ ap (λ (x : State). count (is_held u receive q) x.ledger) e;
      in_queue = λ o j. k.receives (λ x. is_of receive q x && same_place (in_message o j) x.place) (lying_is q o j) ∙ ap (λ (y : State). count (λ x. is_of receive q x && same_place (in_message o j) x.place) y.ledger) e;
    };
    sets = λ other there out.
        let differs : other ≢ set = λ f. out (subst (λ (x : ℕ). Covers touched (Set x)) (sym f) own) in
        record {
          owner = k.owner other ∙ ap (λ (x : State). x.set_owner other) e;
          members = λ q. elim (eqb_tells q p) [
            | inl f ↦ (
              (λ in_it. subst (λ (n : ℕ). Contains (s.sets_of n) other) (sym f.1) ((others other differs).0 (subst (λ (ys : List ℕ). Contains ys other) its_own (subst (λ (n : ℕ). Contains (t.sets_of n) other) f.1 in_it)))),
              (λ in_it. subst (λ (n : ℕ). Contains (t.sets_of n) other) (sym f.1) (subst (λ (ys : List ℕ). Contains ys other) (sym its_own) ((others other differs).1 (subst (λ (n : ℕ). Contains (s.sets_of n) other) f.1 in_it)))),
            )
            | inr f ↦ (subst (λ (ys : List ℕ). Contains ys other) (other_sets q f.1), subst (λ (ys : List ℕ). Contains ys other) (sym (other_sets q f.1)))
          ];
          waiting = λ q in_it. same_queue q;
        };
  }

-- ---- the sets but for the one

tail_in : (x y : ℕ) (xs : List ℕ) → Contains xs y → Contains (x ∷ xs) y
tail_in x y xs (i, below, is) = (suc i, omega (arith, below), is)

before_in : (xs : List ℕ) (set other : ℕ) → other ≢ set → Contains (xs ++ set ∷ []) other → Contains xs other
before_in [] set other not (zero, below, is) = absurd (not (sym is))
before_in [] set other not (suc i, below, is) = absurd (omega (arith, below))
before_in (x ∷ xs) set other not (zero, below, is) = (0, omega arith, is)
before_in (x ∷ xs) set other not (suc i, below, is) = tail_in x other xs (before_in xs set other not (i, omega (arith, below), is))

still_in : (xs : List ℕ) (set other : ℕ) → Contains xs other → Contains (xs ++ set ∷ []) other
still_in [] set other (i, below, is) = absurd (omega (arith, below))
still_in (x ∷ xs) set other (zero, below, is) = (0, omega arith, is)
still_in (x ∷ xs) set other (suc i, below, is) = tail_in x other (xs ++ set ∷ []) (still_in xs set other (i, omega (arith, below), is))

others_left : (set other : ℕ) (xs : List ℕ) → other ≢ set → Contains xs other → Contains (filter (λ t. not (t == set)) xs) other
others_left set other [] apart (i, below, is) = absurd (omega (arith, below))
others_left set other (x ∷ xs) apart (zero, below, is) = elim (eqb_tells x set) [
  | inl e ↦ absurd (apart (sym is ∙ e.1))
  | inr e ↦ (let f = e.0 in rw f (zero, omega arith, is))
]
others_left set other (x ∷ xs) apart (suc k, below, is) = elim (eqb_tells x set) [
  | inl e ↦ (let f = e.0 in let c = others_left set other xs apart (k, omega (arith, below), is) in rw f c)
  | inr e ↦ (let f = e.0 in let c = others_left set other xs apart (k, omega (arith, below), is) in rw f (tail_in x other (filter (λ t. not (t == set)) xs) c))
]

-- ---- the calls

pub enters_touch : (task member name : ℕ) (s mid t : State) → (x : EntersSet task member name s mid) → Keeps mid t → (touched : Touched) → Covers touched (Port x.port) → Covers touched (Set x.entered) → TouchesOnly s t touched
enters_touch task member name s mid t x k touched port own =
    pair_touches x.port x.entered (s.sets_of x.port ++ x.entered ∷ []) s mid t x.rest k
    (λ other apart. (before_in (s.sets_of x.port) x.entered other apart, still_in (s.sets_of x.port) x.entered other)) touched port own

pub leaves_touch : (task member name : ℕ) (s mid t : State) → (x : LeavesSet task member name s mid) → Keeps mid t → (touched : Touched) → Covers touched (Port x.port) → Covers touched (Set x.left) → TouchesOnly s t touched
leaves_touch task member name s mid t x k touched port own =
    pair_touches x.port x.left (filter (λ t. not (t == x.left)) (s.sets_of x.port)) s mid t x.rest k
    (λ other apart. ((λ in_it. (filtered (λ t. not (t == x.left)) (s.sets_of x.port) other in_it).0), others_left x.left other (s.sets_of x.port) apart)) touched port own

-- ---- what is told of them

pub pair_told : (w : WorldView) (task member name : ℕ) (pair : Member) → TellsPair w task member name pair → change.Member pair.port pair.set ≡ by_pairing w task member name
pair_told w task member name pair tells =
    let a : port_under w task member ≡ Some pair.port = ap (option_and_then port_named) tells.finds.found ∙ (receive_has tells.finds.entry pair.port tells.finds.named).0 in
    sym (ap (λ (o : Option ℕ). paired o (option_and_then set_named (entry_at w task name))) a ∙ ap (λ (o : Option Entry). paired (Some pair.port) (option_and_then set_named o)) tells.stands)
