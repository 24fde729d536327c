use Rattle.std.proofs.Common.{◌∙◌}
use Rattle.member_lists.specs.Chains.{ends_at}
use Rattle.member_lists.proofs.Changed.{first_is}
use Rattle.member_lists.proofs.Sound.{shown}
use Rattle.member_lists.proofs.TwoLists.first.Goals as goal

pub returns : goal.returns
returns c = c.item.ensures ∙ first_is c.self.inside.links.items (ends_at c.self.inside.ends) c.self.invariant.sound c.args.self.now (shown c.self.inside.links.items c.self.inside.ends c.self.invariant c.args.self.now c.self.view_is) c.args.list c.of.result c.of.ensures
