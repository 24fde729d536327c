use Rattle.member_lists.proofs.Empty.{empty_told}
use Rattle.member_lists.proofs.Lists.is_empty.Goals as goal

pub returns : goal.returns
returns c = empty_told c.self.inside.links.items c.self.inside.ends.map c.self.invariant.kept c.args.self.now c.self.view_is c.len.result c.len.ensures
