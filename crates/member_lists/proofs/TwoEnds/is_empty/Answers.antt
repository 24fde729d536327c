use Rattle.member_lists.proofs.Fields.{empty_in}
use Rattle.member_lists.proofs.TwoEnds.is_empty.Goals as goal

pub returns : goal.returns
returns c = empty_in c.self.inside.of_zero c.self.inside.of_one c.is_blank.result c.is_blank-2.result c.is_blank.ensures c.is_blank-2.ensures c.args.self.now c.self.view_is
