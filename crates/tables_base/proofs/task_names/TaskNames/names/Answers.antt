use Rattle.std.proofs.Common.{Ok, Err, Result, sym, ap, ◌∙◌}
use Rattle.std.specs.Prelude.{IfOk}
use Rattle.std.specs.FinMap as map
use Rattle.name_space.specs.Names.{SpaceView}
use Rattle.tables_base.specs.Reading.{live_in}
use Rattle.tables_base.proofs.Reading.{keys_read}
use Rattle.tables_base.proofs.task_names.TaskNames.names.Goals as goal

on_ok : {A E : Type 0} (r : Result A E) (P Q : A → Type 0) → ((x : A) → P x → Q x) → IfOk r P → IfOk r Q
on_ok (Ok x) P Q f h = f x h
on_ok (Err e) P Q f h = tt

pub returns : goal.returns
returns c = on_ok c.names.result _ _ (λ names are. are ∙ sym (keys_read (live_in c.self.inside.ports.now.bare) c.self.inside.kept.now.names) ∙ ap (λ (x : SpaceView). map.keys x.names) c.self.view_is) c.names.ensures
