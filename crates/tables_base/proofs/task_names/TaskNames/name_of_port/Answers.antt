use Rattle.std.proofs.Common.{◌≡◌, Option, Some, None, true, false, sym, ap, ◌∙◌}
use Rattle.std.specs.Prelude.{IfSome}
use Rattle.name_space.specs.Names.{SpaceView, port_at}
use Rattle.tables_base.specs.Reading.{live_in}
use Rattle.tables_base.proofs.Reading.{named_there, named_kept, named_lives}
use Rattle.tables_base.proofs.task_names.TaskNames.name_of_port.Goals as goal

on_some : {A : Type 0} (o : Option A) (P Q : A → Type 0) → ((x : A) → P x → Q x) → IfSome o P → IfSome o Q
on_some (Some x) P Q f h = f x h
on_some None P Q f h = tt

-- of a port that is gone no name is read
pub returns-then-not-contains-clause-only : goal.returns-then-not-contains-clause-only
returns-then-not-contains-clause-only c = λ name at.
    let lives = named_lives (live_in c.self.inside.ports.now.bare) c.self.inside.kept.now.names name c.args.port (ap (λ (x : SpaceView). port_at x.names name) c.self.view_is ∙ at) in
    absurd (let no : true ≡ false = sym lives ∙ sym c.contains.ensures ∙ c.if-not-contains.true in cc)

pub returns-clause-found : goal.returns-clause-found
returns-clause-found c = on_some c.name_of_port.result _ _ (λ name at.
    ap (λ (x : SpaceView). port_at x.names name) (sym c.self.view_is)
    ∙ named_there (live_in c.self.inside.ports.now.bare) c.self.inside.kept.now.names name c.args.port (sym c.contains.ensures ∙ c.if-not-contains.false) at) c.name_of_port.ensures.found

pub returns-clause-only : goal.returns-clause-only
returns-clause-only c = λ name at. c.name_of_port.ensures.only name
    (named_kept (live_in c.self.inside.ports.now.bare) c.self.inside.kept.now.names name c.args.port (ap (λ (x : SpaceView). port_at x.names name) c.self.view_is ∙ at))
