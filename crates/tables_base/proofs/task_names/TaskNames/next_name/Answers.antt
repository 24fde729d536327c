use Rattle.std.proofs.Common.{◌≡◌, ℕ, Bool, Option, Some, None, ap, sym, subst, ◌∙◌}
use Rattle.std.specs.Prelude.{IfSome, IfNone}
use Rattle.std.specs.FinMap as map
use Rattle.std.specs.Option.{option_map}
use Rattle.name_space.specs.Names.{Names, SpaceView, IsNextName}
use Rattle.tables_base.specs.Reading.{live_in, read_names, reading}
use Rattle.tables_base.proofs.Reading.{get_read, used_read}
use Rattle.tables_base.proofs.task_names.TaskNames.next_name.Goals as goal

on_some : {A : Type 0} (o : Option A) (P Q : A → Type 0) → ((x : A) → P x → Q x) → IfSome o P → IfSome o Q
on_some (Some x) P Q f h = f x h
on_some None P Q f h = tt

on_none : {A : Type 0} (o : Option A) (P Q : Type 0) → (P → Q) → IfNone o P → IfNone o Q
on_none (Some x) P Q f h = tt
on_none None P Q f h = f h

unused_read : (live : ℕ → Bool) (m : Names) (n : ℕ) → map.get m n ≡ None → map.get (read_names live m) n ≡ None
unused_read live m n none = get_read live m n ∙ ap (option_map (reading live)) none

next_read : (live : ℕ → Bool) (m : Names) (start name : ℕ) → IsNextName m start name → IsNextName (read_names live m) start name
next_read live m start name next = record {
  from = next.from;
  used = used_read live m name ∙ next.used;
  least = λ n from less. unused_read live m n (next.least n from less);
}

pub returns-clause-none : goal.returns-clause-none
returns-clause-none c = on_none c.next_name.result _ _
    (λ none n from. ap (λ (x : SpaceView). map.get x.names n) (sym c.self.view_is) ∙ unused_read (live_in c.self.inside.ports.now.bare) c.self.inside.kept.now.names n (none n from)) c.next_name.ensures.none

pub returns-clause-found : goal.returns-clause-found
returns-clause-found c = on_some c.next_name.result _ _
    (λ name next. subst (λ (x : SpaceView). IsNextName x.names c.args.from name) c.self.view_is (next_read (live_in c.self.inside.ports.now.bare) c.self.inside.kept.now.names c.args.from name next)) c.next_name.ensures.found
