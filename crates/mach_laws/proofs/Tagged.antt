-- The names of a task that goes by the second profile are a run.
use Rattle.std.proofs.Common.{◌≡◌, ◌≢◌, ℕ, ◌<◌, ◌/◌, Some, None, true, refl, sym, ap, subst, ◌∙◌, inl, inr, arith, rules}
use Rattle.std.specs.FinMap as map
use Rattle.std.specs.FinMap.{gets}
use Rattle.std.proofs.lemmas.Bool.Decides.{eqb_tells}
use Rattle.mach_types.specs.declared.calls.Event.{Event}
use Rattle.mach_types.specs.declared.calls.Reply.{Reply}
use Rattle.mach_types.specs.declared.profiles.Profile.TheVariants.{Two}
use Rattle.mach_model.specs.State.{State, Target, Names, opening_in, lookup, with_name, without_name, gives}
use Rattle.mach_model.specs.NameGuards.{HasReference}
use Rattle.mach_model.specs.Machine.{RunIn}
use Rattle.mach_model.specs.Room.{IsFull}
use Rattle.mach_model.proofs.StepLawful.{IsCalm, opening-calm}
use Rattle.mach_model.proofs.Names.{get_other, get_removed}
use Rattle.mach_laws.specs.Tagging.{tagging_events, tagging_replies}
use Rattle.mach_laws.proofs.Playing.{Plays, plays, used, allocated, task_made, with_task}

-- ---- what stands under names of an index

-- a name of another index was put in
elsewhere : (names : Names) (k n i : ℕ) (x : Target) → n / 256 ≡ i → (k / 256 ≡ i → ⊥) → map.get names n ≡ None → map.get (map.insert names k x) n ≡ None
elsewhere names k n i x e far none = get_other names k x n (λ same. far (ap (λ (m : ℕ). m / 256) (sym same) ∙ e)) ∙ none

-- a name was taken out
taken_out : (names : Names) (k n : ℕ) → (n ≢ k → map.get names n ≡ None) → map.get (map.remove names k) n ≡ None
taken_out names k n none = elim (eqb_tells n k) [
  | inl same ↦ subst (λ (m : ℕ). map.get (map.remove names k) m ≡ None) (sym same.1) (grind (gets, rules))
  | inr other ↦ get_removed names k n other.1 ∙ none other.1
]

-- ---- the states

abbrev fresh_name : ℕ → State → State
fresh_name name s = with_name 0 name (Target.dead 1) (gives 0 name s)

abbrev p1 : State
p1 = with_task (opening_in Two)

abbrev p2 : State
p2 = fresh_name 256 p1

abbrev p3 : State
p3 = fresh_name 512 p2

abbrev p4 : State
p4 = without_name 0 512 p3

abbrev p5 : State
p5 = fresh_name 513 p4

abbrev p6 : State
p6 = with_name 0 700 (Target.dead 1) p5

abbrev p7 : State
p7 = without_name 0 513 p6

abbrev p8 : State
p8 = fresh_name 768 p7

abbrev p9 : State
p9 = without_name 0 700 p8

abbrev p10 : State
p10 = fresh_name 514 p9

-- ---- the steps

given_up : {now name : ℕ} {s : State} → IsCalm s → s.live_task 0 ≡ true → lookup s 0 name ≡ Some (Target.dead 1) →
    Plays now s (Event.Deallocate 0 name) (Reply.Code 0) (without_name 0 name s)
given_up {name = name} {s = s} l lives found =
    plays l tt (λ h. let e = found in let f = h.1 in cc)
    ((λ h. cc), (used found, ((λ h. h (subst (HasReference s 0) (sym found) tt)), tt)))
    (refl, inr (inr (1, record { found = found; rest = refl; tokens = λ h. refl }, refl))) tt

first : Plays 0 (opening_in Two) Event.TaskCreate (Reply.Task 0) p1
first = task_made (opening-calm Two) (omega arith)

second : Plays 1 p1 (Event.Allocate 0 4) (Reply.Name 256) p2
second = allocated first.1 refl (record {
  unused = λ n e. grind (gets, rules);
  not_null = omega arith;
  least = λ i some below. absurd (omega (arith, some, below));
  generation = refl;
}) (grind (gets, rules)) (omega arith) (inr (inr (refl, refl)))

-- an index below the second is the first, one below the third the first or the second
third : Plays 2 p2 (Event.Allocate 0 4) (Reply.Name 512) p3
third = allocated second.1 refl (record {
  unused = λ n e. elsewhere (p1.naming 0) 256 n 2 (Target.dead 1) e (λ f. omega (arith, f)) (grind (gets, rules));
  not_null = omega arith;
  least = λ i some below. (256, omega (arith, some, below), grind (gets, rules));
  generation = refl;
}) (grind (gets, rules)) (omega arith) (inr (inr (refl, refl)))

fourth : Plays 3 p3 (Event.Deallocate 0 512) (Reply.Code 0) p4
fourth = given_up third.1 refl (grind (gets, rules))

fifth : Plays 4 p4 (Event.Allocate 0 4) (Reply.Name 513) p5
fifth = allocated fourth.1 refl (record {
  unused = λ n e. taken_out (p3.naming 0) 512 n (λ other.
      get_other (p2.naming 0) 512 (Target.dead 1) n other ∙ elsewhere (p1.naming 0) 256 n 2 (Target.dead 1) e (λ f. omega (arith, f)) (grind (gets, rules)));
  not_null = omega arith;
  least = λ i some below. (256, omega (arith, some, below), grind (gets, rules));
  generation = refl;
}) (grind (gets, rules)) (omega arith) (inr (inr (refl, refl)))

sixth : Plays 5 p5 (Event.AllocateName 0 4 700) (Reply.Name 700) p6
sixth = plays fifth.1 tt tt (
  (λ h. cc),
  (
    (λ h. elim h [ inl e ↦ e.2 refl | inr e ↦ elim e [ inl f ↦ omega (arith, f) | inr f ↦ omega (arith, f) ] ]),
    ((λ h. h (grind (gets, rules))), ((λ h. full h), tt)),
  ),
)
    (refl, inr (inr (refl, refl)), refl) tt
  where
    room : map.len (p5.naming 0) < 65535
    room = grind (gets, rules)

    full : IsFull p5 0 4 → ⊥
    full (inl h) = omega (arith, h, room)
    full (inr (inl h)) = omega (arith, h.0)
    full (inr (inr h)) = omega (arith, h.0)

seventh : Plays 6 p6 (Event.Deallocate 0 513) (Reply.Code 0) p7
seventh = given_up sixth.1 refl (grind (gets, rules))

eighth : Plays 7 p7 (Event.Allocate 0 4) (Reply.Name 768) p8
eighth = allocated seventh.1 refl (record {
  unused = λ n e. taken_out (p6.naming 0) 513 n (λ other.
      elsewhere (p5.naming 0) 700 n 3 (Target.dead 1) e (λ f. omega (arith, f))
      (elsewhere (p4.naming 0) 513 n 3 (Target.dead 1) e (λ f. omega (arith, f))
      (taken_out (p3.naming 0) 512 n (λ far. elsewhere (p2.naming 0) 512 n 3 (Target.dead 1) e (λ f. omega (arith, f))
      (elsewhere (p1.naming 0) 256 n 3 (Target.dead 1) e (λ f. omega (arith, f)) (grind (gets, rules)))))));
  not_null = omega arith;
  least = λ i some below. elim (eqb_tells i 1) [
    | inl h ↦ (256, sym h.1, grind (gets, rules))
    | inr h ↦ (700, omega (arith, some, below, h.1), grind (gets, rules))
  ];
  generation = refl;
}) (grind (gets, rules)) (omega arith) (inr (inr (refl, refl)))

ninth : Plays 8 p8 (Event.Deallocate 0 700) (Reply.Code 0) p9
ninth = given_up eighth.1 refl (grind (gets, rules))

tenth : Plays 9 p9 (Event.Allocate 0 4) (Reply.Name 514) p10
tenth = allocated ninth.1 refl (record {
  unused = λ n e. taken_out (p8.naming 0) 700 n (λ other.
      elsewhere (p7.naming 0) 768 n 2 (Target.dead 1) e (λ f. omega (arith, f))
      (taken_out (p6.naming 0) 513 n (λ far. get_other (p5.naming 0) 700 (Target.dead 1) n other ∙ get_other (p4.naming 0) 513 (Target.dead 1) n far
      ∙ taken_out (p3.naming 0) 512 n (λ off. get_other (p2.naming 0) 512 (Target.dead 1) n off
      ∙ elsewhere (p1.naming 0) 256 n 2 (Target.dead 1) e (λ f. omega (arith, f)) (grind (gets, rules))))));
  not_null = omega arith;
  least = λ i some below. (256, omega (arith, some, below), grind (gets, rules));
  generation = refl;
}) (grind (gets, rules)) (omega arith) (inr (inr (refl, refl)))

pub tagging_run : (s : State) × RunIn Two tagging_events tagging_replies s
tagging_run =
    (p10, (p1, first.0, (p2, second.0, (p3, third.0, (p4, fourth.0, (p5, fifth.0, (p6, sixth.0, (p7, seventh.0, (p8, eighth.0, (p9, ninth.0, (p10, tenth.0, refl)))))))))))
