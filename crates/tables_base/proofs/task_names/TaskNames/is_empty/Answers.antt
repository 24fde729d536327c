use Rattle.std.proofs.Common.{◌≡◌, ℕ, subst, ap, sym, ◌∙◌}
use Rattle.std.specs.Prelude.{◌↔◌, IsTrue}
use Rattle.std.specs.FinMap as map
use Rattle.name_space.specs.Names.{SpaceView}
use Rattle.tables_base.specs.Reading.{live_in}
use Rattle.tables_base.proofs.Reading.{len_read}
use Rattle.tables_base.proofs.task_names.TaskNames.is_empty.Goals as goal

pub returns : goal.returns
returns c = subst (λ (n : ℕ). IsTrue c.is_empty.result ↔ (n ≡ 0))
    (sym (len_read (live_in c.self.inside.ports.now.bare) c.self.inside.kept.now.names) ∙ ap (λ (x : SpaceView). map.len x.names) c.self.view_is) c.is_empty.ensures
