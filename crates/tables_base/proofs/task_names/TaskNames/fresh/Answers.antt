use Rattle.std.proofs.Common.{◌≡◌, None, ap, subst, ◌∙◌, arith}
use Rattle.std.specs.Option.{option_map}
use Rattle.std.specs.FinMap as map
use Rattle.name_space.specs.Names.{SpaceView, IsFreshFor}
use Rattle.tables_base.specs.Reading.{live_in, reading}
use Rattle.tables_base.proofs.Reading.{fresh_read, get_read, len_read}
use Rattle.tables_base.proofs.task_names.TaskNames.fresh.Goals as goal

pub fresh-requires : goal.fresh-requires
fresh-requires c =
    let is = ap (λ (x : SpaceView). map.len x.names) c.self.view_is in
    let same = len_read (live_in c.self.inside.ports.now.bare) c.self.inside.kept.now.names in
    let few = c.requires.not_full in
    omega (arith, is, same, few)

pub returns-clause-fresh : goal.returns-clause-fresh
returns-clause-fresh c = subst (λ (x : SpaceView). IsFreshFor x c.fresh.result) c.self.view_is
    (fresh_read (live_in c.self.inside.ports.now.bare) c.self.inside.kept.now c.self.inside.kept.now.given c.fresh.result c.fresh.ensures.fresh)

pub returns-clause-unused : goal.returns-clause-unused
returns-clause-unused c = subst (λ (x : SpaceView). map.get x.names c.fresh.result ≡ None) c.self.view_is
    (get_read (live_in c.self.inside.ports.now.bare) c.self.inside.kept.now.names c.fresh.result ∙ ap (option_map (reading (live_in c.self.inside.ports.now.bare))) c.fresh.ensures.unused)
