use Rattle.std.proofs.Common.{◌∙◌}
use Rattle.member_lists.specs.Chains.{ends_at}
use Rattle.member_lists.proofs.Changed.{first_is}
use Rattle.member_lists.proofs.Sound.{shown}
use Rattle.member_lists.proofs.Marks.{all_is}
use Rattle.member_lists.proofs.marked.MarkedLists.first.Goals as goal

pub returns : goal.returns
returns c = c.item.ensures ∙ first_is c.self.inside.links.items (ends_at c.self.inside.ends.all) c.self.invariant.all.sound c.args.self.now.all (shown c.self.inside.links.items c.self.inside.ends.all c.self.invariant.all c.args.self.now.all (all_is c.self.inside.links.items c.self.inside.marks.items c.self.inside.ends c.self.invariant c.args.self.now c.self.view_is)) c.args.list c.all.result c.all.ensures
