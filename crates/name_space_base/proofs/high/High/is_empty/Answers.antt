use Rattle.name_space_base.proofs.Options.{none_told}
use Rattle.name_space_base.proofs.Apart.{none_in_either}
use Rattle.name_space_base.proofs.high.High.is_empty.Goals as goal

pub returns-then-is_empty : goal.returns-then-is_empty
returns-then-is_empty g c = λ empty name. none_in_either c.self.inside.others.entries c.self.inside.kept c.self.inside.value c.args.self.now c.self.view_is (c.is_empty.ensures.0 c.if-is_empty.true) (none_told c.self.inside.value c.is_none.result c.is_none.ensures empty) name
