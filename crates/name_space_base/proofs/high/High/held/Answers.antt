use Rattle.std.proofs.Common.{◌∙◌}
use Rattle.name_space_base.proofs.Options.{unless}
use Rattle.name_space_base.proofs.Apart.{seen_kept, seen_other}
use Rattle.name_space_base.proofs.high.High.held.Goals as goal

pub returns-then-keeps : goal.returns-then-keeps
returns-then-keeps g c = c.as_ref.ensures.value ∙ seen_kept c.self.inside.others.entries c.self.inside.kept c.self.inside.value c.args.self.now c.self.view_is c.args.name (c.keeps.ensures.0 c.if-keeps.true)

pub returns-else-keeps : goal.returns-else-keeps
returns-else-keeps g c = c.get.ensures.value ∙ seen_other c.self.inside.others.entries c.self.inside.kept c.self.inside.value c.args.self.now c.self.view_is c.args.name (unless c.keeps.result c.keeps.ensures.1 c.if-keeps.false)
