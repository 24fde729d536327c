use Rattle.std.proofs.Common.{Some, sym, ap, ◌∙◌}
use Rattle.std.specs.Option.{option_map}
use Rattle.std.specs.FinMap as map
use Rattle.name_space.specs.Names.{SpaceView}
use Rattle.tables_base.specs.Reading.{live_in, reading}
use Rattle.tables_base.proofs.Reading.{get_read}
use Rattle.tables_base.proofs.task_names.TaskNames.find.Goals as goal

pub returns-in_err-kept-clause-none : goal.returns-in_err-kept-clause-none
returns-in_err-kept-clause-none c =
    rw c.from_residual.ensures (sym
    (ap (option_map (reading (live_in c.self.inside.ports.now.bare))) (sym (sym c.lookup.ensures ∙ c.in_err-kept.was))
    ∙ sym (get_read (live_in c.self.inside.ports.now.bare) c.self.inside.kept.now.names c.args.name)
    ∙ ap (λ (x : SpaceView). map.get x.names c.args.name) c.self.view_is))

pub returns-clause-some : goal.returns-clause-some
returns-clause-some c = sym
    (ap Some c.read.ensures
    ∙ ap (option_map (reading (live_in c.self.inside.ports.now.bare))) (sym (sym c.lookup.ensures ∙ c.in_ok-kept.was))
    ∙ sym (get_read (live_in c.self.inside.ports.now.bare) c.self.inside.kept.now.names c.args.name)
    ∙ ap (λ (x : SpaceView). map.get x.names c.args.name) c.self.view_is)
