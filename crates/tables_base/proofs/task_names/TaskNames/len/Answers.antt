use Rattle.std.proofs.Common.{sym, ap, ◌∙◌}
use Rattle.std.specs.FinMap as map
use Rattle.name_space.specs.Names.{SpaceView}
use Rattle.tables_base.specs.Reading.{live_in}
use Rattle.tables_base.proofs.Reading.{len_read}
use Rattle.tables_base.proofs.task_names.TaskNames.len.Goals as goal

pub returns-clause-value : goal.returns-clause-value
returns-clause-value c = c.len.ensures.value ∙ sym (len_read (live_in c.self.inside.ports.now.bare) c.self.inside.kept.now.names) ∙ ap (λ (x : SpaceView). map.len x.names) c.self.view_is
