use Rattle.std.proofs.Common.{◌∙◌, refl}
use Rattle.member_lists.specs.Chains.{ends_at}
use Rattle.member_lists.specs.Lists.{list_of}
use Rattle.member_lists.proofs.Changed.{last_is_of, last_told}
use Rattle.member_lists.proofs.Sound.{shown}
use Rattle.member_lists.proofs.TwoLists.last.Goals as goal

pub returns : goal.returns
returns c =
    let told = last_told c.item.result (list_of c.args.self.now c.args.list) (c.item.ensures ∙ c.last.ensures ∙
    last_is_of c.self.inside.links.items (ends_at c.self.inside.ends) c.self.invariant.sound c.args.self.now (shown c.self.inside.links.items c.self.inside.ends c.self.invariant c.args.self.now c.self.view_is) c.args.list (ends_at c.self.inside.ends c.args.list) refl) in
    record { some = told.0; none = told.1 }
