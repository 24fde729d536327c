use Rattle.std.proofs.Common.{◌∙◌}
use Rattle.member_lists.specs.Chains.{ends_at}
use Rattle.member_lists.proofs.Changed.{first_is}
use Rattle.member_lists.proofs.Sound.{shown}
use Rattle.member_lists.proofs.Marks.{marked_is}
use Rattle.member_lists.proofs.marked.MarkedLists.first_marked.Goals as goal

pub returns : goal.returns
returns c = c.item.ensures ∙ first_is c.self.inside.marks.items (ends_at c.self.inside.ends.marked) c.self.invariant.marked.sound c.args.self.now.marked (shown c.self.inside.marks.items c.self.inside.ends.marked c.self.invariant.marked c.args.self.now.marked (marked_is c.self.inside.links.items c.self.inside.marks.items c.self.inside.ends c.self.invariant c.args.self.now c.self.view_is)) c.args.list c.marked.result c.marked.ensures
