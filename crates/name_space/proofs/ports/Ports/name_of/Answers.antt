use Rattle.std.proofs.Common.{ap, ◌∙◌}
use Rattle.std.specs.FinMap as map
use Rattle.name_space_base.proofs.Options.{unless}
use Rattle.name_space.proofs.Placed.{seen_here, seen_other}
use Rattle.name_space.proofs.ports.Ports.name_of.Goals as goal

pub returns-then-is_kept : goal.returns-then-is_kept
returns-then-is_kept c = seen_here c.self.inside.port c.self.inside.kept c.self.inside.others.map c.self.inside.others.room c.self.invariant c.args.self.now c.self.view_is c.args.port (c.is_kept.ensures.0 c.if-is_kept.true)

pub returns-else-is_kept : goal.returns-else-is_kept
returns-else-is_kept c = c.get.ensures ∙ ap (map.get c.self.inside.others.map) c.number.ensures ∙ seen_other c.self.inside.port c.self.inside.kept c.self.inside.others.map c.self.inside.others.room c.self.invariant c.args.self.now c.self.view_is c.args.port (unless c.is_kept.result c.is_kept.ensures.1 c.if-is_kept.false)
