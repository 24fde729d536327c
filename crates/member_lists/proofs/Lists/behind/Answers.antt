use Rattle.std.proofs.Common.{◌∙◌}
use Rattle.member_lists.specs.Chains.{ends_at}
use Rattle.member_lists.proofs.Changed.{after_is}
use Rattle.member_lists.proofs.Kept.{leaves_in_range}
use Rattle.member_lists.proofs.Sound.{shown}
use Rattle.member_lists.proofs.Lists.behind.Goals as goal

pub link_of-requires : goal.link_of-requires
link_of-requires c = leaves_in_range c.self.inside.links.items c.self.inside.ends.map c.self.invariant.kept c.args.self.now c.self.view_is c.args.list c.args.item c.requires

pub returns : goal.returns
returns c i at =
    c.item.ensures
    ∙ after_is c.self.inside.links.items (ends_at c.self.inside.ends.map) c.self.invariant.kept.sound c.args.self.now (shown c.self.inside.links.items c.self.inside.ends.map c.self.invariant.kept c.args.self.now c.self.view_is) c.args.list c.args.item i at c.link_of.result c.link_of.ensures
