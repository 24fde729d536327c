-- A fresh name of the tables is one of the machine, and the other way round; what a count of one changes; and when it can be counted.
use Rattle.std.proofs.Common.{◌≡◌, ℕ, ◌+◌, ◌/◌, ◌%◌, ◌<◌, true, false, Option, Some, None, refl, sym, ap, ◌∙◌, inl, inr, arith}
use Rattle.std.specs.Prelude.{is_some, unwrap_or}
use Rattle.std.specs.Option.{option_map}
use Rattle.std.specs.FinMap as map
use Rattle.std.specs.Ordering.{nat_cmp}
use Rattle.std.proofs.lemmas.Bool.Decides.{eqb_tells}
use Rattle.mach_types.specs.declared.profiles.Profile.{Profile}
use Rattle.mach_types.specs.declared.profiles.Profile.TheVariants.{One, Two, Three}
use Rattle.mach_model.specs.State.{State, at, given_with}
use Rattle.mach_model.specs.State as machine
use Rattle.mach_model.proofs.Names.{at_same, at_other, at_own}
use Rattle.tagged_names.specs.Names.{Given, count_of, counted}
use Rattle.tagged_names.proofs.Counting.{count_before, counted_here, counted_other}
use Rattle.name_space.specs.declared.Entry.{Entry}
use Rattle.name_space.specs.Names.{SpaceView, IsFreshIn, IsFreshFor, HasRoomIn, CanCountIn, given_after, first_given}
use Rattle.copyin_base.specs.Worlds.{WorldView, space_at, has_generations}
use Rattle.copyin_base.specs.Shows.{target_of, GivenAgrees, Agrees}
use Rattle.copyin_base.proofs.Agreeing.{own_names}

module _ (w : WorldView) (s : State) (a : Agrees w s) (task : ℕ) (space : SpaceView) (there : space_at w task ≡ Some space) (name : ℕ) where
  unused_there : (n : ℕ) → map.get space.names n ≡ None → map.get (s.naming task) n ≡ None
  unused_there n none = (own_names w s a task space there).naming n ∙ ap (option_map target_of) none

  unused_here : (n : ℕ) → map.get (s.naming task) n ≡ None → map.get space.names n ≡ None
  unused_here n none = go (map.get space.names n) (sym ((own_names w s a task space there).naming n) ∙ none)
    where
      go : (o : Option Entry) → option_map target_of o ≡ None → o ≡ None
      go None e = refl
      go (Some x) e = absurd (let f : Some (target_of x) ≡ None = e in cc)

  same_used : (n : ℕ) → map.contains_key (s.naming task) n ≡ map.contains_key space.names n
  same_used n = ap is_some ((own_names w s a task space there).naming n) ∙ go (map.get space.names n)
    where
      go : (o : Option Entry) → is_some (option_map target_of o) ≡ is_some o
      go None = refl
      go (Some x) = refl

  with_generation : (c : Given) → ((index : ℕ) → count_of c index ≡ s.given task index % 256) → IsFreshIn (Some c) space name → machine.IsFreshIndex (s.naming task) (s.given task) name
  with_generation c same f = record {
    unused = λ n at. unused_there n (f.index.free n at);
    not_null = f.index.positive;
    least = λ i some less. let t = f.index.least i some less in (t.name, t.at, same_used t.name ∙ t.used);
    generation = (let low = f.low in let is = same (name / 256) in omega (arith, low, is));
  }

  of_generation : (c : Given) → ((index : ℕ) → count_of c index ≡ s.given task index % 256) → machine.IsFreshIndex (s.naming task) (s.given task) name → IsFreshIn (Some c) space name
  of_generation c same f = record {
    index = record {
      free = λ n at. unused_here n (f.unused n at);
      positive = f.not_null;
      least = λ i some less. let t = f.least i some less in record { name = t.0; at = t.1; used = sym (same_used t.0) ∙ t.2 };
    };
    low = (let generation = f.generation in let is = same (name / 256) in omega (arith, generation, is));
  }

  to_machine : (profile : Profile) (counts : Option Given) → GivenAgrees profile counts (s.given task) → IsFreshIn counts space name → machine.IsFreshIn profile (s.naming task) (s.given task) name
  to_machine One None g f = record { unused = unused_there name f.unused; not_null = f.not_null; least = λ n some less. same_used n ∙ f.least n some less }
  to_machine Two (Some c) g f = with_generation c (g.same c refl) f
  to_machine Three (Some c) g f = with_generation c (g.same c refl) f
  to_machine One (Some c) g f = absurd (let e : true ≡ false = g.kind in cc)
  to_machine Two None g f = absurd (let e : false ≡ true = g.kind in cc)
  to_machine Three None g f = absurd (let e : false ≡ true = g.kind in cc)

  of_machine : (profile : Profile) (counts : Option Given) → GivenAgrees profile counts (s.given task) → machine.IsFreshIn profile (s.naming task) (s.given task) name → IsFreshIn counts space name
  of_machine One None g f = record { unused = unused_here name f.unused; not_null = f.not_null; least = λ n some less. sym (same_used n) ∙ f.least n some less }
  of_machine Two (Some c) g f = of_generation c (g.same c refl) f
  of_machine Three (Some c) g f = of_generation c (g.same c refl) f
  of_machine One (Some c) g f = absurd (let e : true ≡ false = g.kind in cc)
  of_machine Two None g f = absurd (let e : false ≡ true = g.kind in cc)
  of_machine Three None g f = absurd (let e : false ≡ true = g.kind in cc)

  pub fresh_for : IsFreshFor space name → machine.IsFreshFor s task name
  fresh_for = to_machine s.profile space.given (a.counts_given task space there)

  pub is_fresh : machine.IsFreshFor s task name → IsFreshFor space name
  is_fresh = of_machine s.profile space.given (a.counts_given task space there)

-- it isn't in use
pub fresh_unused : (counts : Option Given) (space : SpaceView) (name : ℕ) → IsFreshIn counts space name → map.get space.names name ≡ None
fresh_unused None space name f = f.unused
fresh_unused (Some c) space name f = f.index.free name refl

-- ---- a count

-- what other tasks were given stays
pub others_given : (profile : Profile) (task name : ℕ) (given : ℕ → ℕ → ℕ) (u : ℕ) → (u ≡ task → ⊥) → given_with profile task name given u ≡ given u
others_given One task name given u not = refl
others_given Two task name given u not = at_other given task _ u not
others_given Three task name given u not = at_other given task _ u not

one_more : (counts : Given) (given : ℕ → ℕ) (index : ℕ) → ((i : ℕ) → count_of counts i ≡ given i % 256) → (i : ℕ) → count_of (counted counts index) i ≡ at given index (given index + 1) i % 256
one_more counts given index same i = elim (eqb_tells i index) [
  | inl h ↦ ap (count_of (counted counts index)) h.1 ∙ counted_here counts index ∙ next ∙ ap (λ n. n % 256) (sym (at_same given index _ i h.1))
  | inr h ↦ counted_other counts index i h.1 ∙ same i ∙ ap (λ n. n % 256) (sym (at_other given index _ i h.1))
]
  where
    next : (count_of counts index + 1) % 256 ≡ (given index + 1) % 256
    next = let is = same index in omega (arith, is)

first_counts : (given : ℕ → ℕ) → ((index : ℕ) → given index ≡ 0) → (c : Given) → Some map.empty ≡ Some c → (index : ℕ) → count_of c index ≡ given index % 256
first_counts given none c is index =
    let same : map.empty ≡ c = (let e : Some map.empty ≡ Some c = is in cc) in
    ap (λ (x : Given). count_of x index) (sym same) ∙ ap (λ o. unwrap_or o 0) (map.get-empty nat_cmp index) ∙ ap (λ n. n % 256) (sym (none index))

with_one : (profile : Profile) (c : Given) (before after : ℕ → ℕ) (index : ℕ) → true ≡ has_generations profile → after ≡ at before index (before index + 1) →
    ((i : ℕ) → count_of c i ≡ before i % 256) → GivenAgrees profile (Some (counted c index)) after
with_one profile c before after index kind is same = record {
  kind = kind;
  same = λ d e i. let f : counted c index ≡ d = (let g : Some (counted c index) ≡ Some d = e in cc) in ap (λ x. count_of x i) (sym f) ∙ one_more c before index same i ∙ ap (λ g. g i % 256) (sym is);
}

-- a count of the tables is one of the machine
pub given_counted : (profile : Profile) (counts : Option Given) (given : ℕ → ℕ → ℕ) (task name : ℕ) → GivenAgrees profile counts (given task) →
    GivenAgrees profile (given_after counts name) (given_with profile task name given task)
given_counted One None given task name g = g
given_counted Two (Some c) given task name g = with_one Two c (given task) _ (name / 256) refl (at_own given task _) (g.same c refl)
given_counted Three (Some c) given task name g = with_one Three c (given task) _ (name / 256) refl (at_own given task _) (g.same c refl)
given_counted One (Some c) given task name g = absurd (let e : true ≡ false = g.kind in cc)
given_counted Two None given task name g = absurd (let e : false ≡ true = g.kind in cc)
given_counted Three None given task name g = absurd (let e : false ≡ true = g.kind in cc)

-- before any was counted
pub first_agrees : (profile : Profile) (given : ℕ → ℕ) → ((index : ℕ) → given index ≡ 0) → GivenAgrees profile (first_given (has_generations profile)) given
first_agrees One given none = record { kind = refl; same = λ c is. absurd (let e : None ≡ Some c = is in cc) }
first_agrees Two given none = record { kind = refl; same = first_counts given none }
first_agrees Three given none = record { kind = refl; same = first_counts given none }

-- ---- when it can be counted

-- before the name is put in, in room
pub can_count : (counts : Option Given) (space : SpaceView) (name : ℕ) → IsFreshIn counts space name → name < 16777216 → 0 < space.room → CanCountIn counts space name
can_count None space name f small room = tt
can_count (Some c) space name f small room = count_before _ name f.index (omega arith) room

-- in room there is a place for it
pub fresh_has_room : (counts : Option Given) (space : SpaceView) (name : ℕ) → IsFreshIn counts space name → 0 < space.room → HasRoomIn counts space name
fresh_has_room None space name f room = (f, room)
fresh_has_room (Some c) space name f room = (f.index, room)
