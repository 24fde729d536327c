-- Sets of one or none, and the one task that holds a receive right.
use Rattle.std.proofs.Common.{◌≡◌, ℕ, suc, zero, ◌+◌, ◌<◌, ◌≤◌, List, [], ◌∷◌, Some, None, Option, refl, sym, ap, subst, true, false, Bool, arith}
use Rattle.std.specs.Prelude.{◌≢◌, is_some, Contains, if◌then◌else◌, ◌&&◌}
use Rattle.std.specs.Option.{option_to_list}
use Rattle.mach_types.specs.Tokens.{Kind, receive, Place, in_task, in_message, in_request, Token, count, is_of, is_held, is_in_task}
use Rattle.mach_model.specs.State.{State, Holds}
use Rattle.mach_model.specs.Telling.{one_if}
use Rattle.mach_model.specs.Lawful.{IsLawful}
use Rattle.mach_model.proofs.Settling.{alive}
use Rattle.mach_model.proofs.Names.{held_le_of}

-- ---- a list of one or none

pub in_one : (o : Option ℕ) (set : ℕ) → Contains (option_to_list o) set → o ≡ Some set
in_one None set h = absurd (let b = h.1 in omega (arith, b))
in_one (Some x) set (zero, below, is) = ap (λ (n : ℕ). Some n) is
in_one (Some x) set (suc k, below, is) = absurd (omega (arith, below))

pub one_in : (o : Option ℕ) (set : ℕ) → o ≡ Some set → Contains (option_to_list o) set
one_in o set e = subst (λ (x : Option ℕ). Contains (option_to_list x) set) (sym e) (0, omega arith, refl)

pub none_in : (o : Option ℕ) → is_some o ≡ false → option_to_list o ≡ []
none_in None e = refl
none_in (Some x) e = absurd (cc)

pub some_in : (o : Option ℕ) → is_some o ≡ true → option_to_list o ≢ []
some_in None e same = absurd (cc)
some_in (Some x) e same = let f : x ∷ [] ≡ [] = same in cc

-- ---- one task has a port's receive right

two_tests : (t u : ℕ) → (t ≡ u → ⊥) → (b : Bool) (place : Place) →
    (if b && is_in_task t place then 1 else 0) + (if b && is_in_task u place then 1 else 0) ≤ (if b then 1 else 0)
two_tests t u not false place = omega arith
two_tests t u not true (in_message p k) = omega arith
two_tests t u not true (in_request r) = omega arith
two_tests t u not true (in_task x) = grind arith

two_held : (t u : ℕ) → (t ≡ u → ⊥) → (kind : Kind) (p : ℕ) (xs : List Token) → count (is_held t kind p) xs + count (is_held u kind p) xs ≤ count (is_of kind p) xs
two_held t u not kind p [] = omega arith
two_held t u not kind p (x ∷ xs) = grind (arith, two_held t u not kind p xs, two_tests)

pub one_holder : (s : State) → IsLawful s → (t u p : ℕ) → Holds s t receive p → Holds s u receive p → t ≡ u
one_holder s l t u p a b = grind (arith, two_held, held_le_of, alive)

pub held_lives : (s : State) → IsLawful s → (task p : ℕ) → Holds s task receive p → s.live_port p ≡ true
held_lives s l task p holds = let le = held_le_of task receive p s.ledger in alive s l receive p (omega (arith, holds, le))

pub one_true : (b : Bool) → 0 < one_if b → b ≡ true
one_true true some = refl
one_true false some = absurd (omega (arith, some))
